use Rattle.std.proofs.Common.{◌≡◌, true, ◌++◌, take, drop}
use Rattle.problems.specs.Rows.{add, scale}
use Rattle.problems.specs.Whole.{all_within}
use Rattle.pivot.proofs.numbers.mix.Given as goal

abbrev pub invariant-loop-i : goal.invariant-loop-i
invariant-loop-i l =
    (take l.i l.row ++ add (scale l.p (drop l.i l.row)) (scale l.c (drop l.i l.t)) ≡ add (scale l.p l.initial.row) (scale l.c l.t))
    × (all_within 1000000000 (drop l.i l.row) ≡ true)
