use Rattle.std.proofs.Common.{◌≡◌, true, ◌++◌, take, drop, negsuc}
use Rattle.problems.specs.Rows.{scale}
use Rattle.problems.specs.Whole.{all_within}
use Rattle.pivot.proofs.numbers.negate.Given as goal

abbrev pub invariant-loop-x : goal.invariant-loop-x
invariant-loop-x l =
    (take l.x-index l.row ++ scale (negsuc 0) (drop l.x-index l.row) ≡ scale (negsuc 0) l.initial.row)
    × (all_within 1000000000 (drop l.x-index l.row) ≡ true)
