use Rattle.std.proofs.Common.{◌≡◌, drop}
use Rattle.tableau.specs.Lines.{gcd_all}
use Rattle.pivot.proofs.numbers.common.Given as goal

abbrev pub invariant-loop-a : goal.invariant-loop-a
invariant-loop-a l = gcd_all l.g (drop l.a-index l.row) ≡ gcd_all 0 l.row
