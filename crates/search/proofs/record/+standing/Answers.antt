use Rattle.std.proofs.Common.{◌-◌, ◌<◌, ◌≤◌, List, ℤ, length, take, drop, length-drop, arith, rules}
use Rattle.std.proofs.lemmas.List.{length-take}
use Rattle.search.specs.Bytes.{map_of}
use Rattle.search.proofs.Maps.{map_small}
use Rattle.search.proofs.record.+standing.Goals as goal

rest_small : (ms : List ℤ) → length ms ≤ 24 → map_of (take (length ms - 1) (drop 1 ms)) < 16777216
rest_small ms h = map_small (take (length ms - 1) (drop 1 ms)) (rw (length-take, length-drop) (omega arith))

pub overflow_mul-result : goal.overflow_mul-result
overflow_mul-result t c = let s = rest_small c.args.ms.now c.requires.few in search rules

pub overflow_add-result : goal.overflow_add-result
overflow_add-result t c = let s = rest_small c.args.ms.now c.requires.few in search rules
