use Rattle.std.proofs.Common.{◌≡◌, ◌<◌, length, get_or, drop}
use Rattle.problems.specs.Box.{nowhere}
use Rattle.testers.specs.Halving.{widest, middle_split}
use Rattle.testers.proofs.middle.widest_of.Given as goal

-- the best so far and the variables that are left decide
abbrev pub invariant-loop-i : goal.invariant-loop-i
invariant-loop-i l = (l.best < length l.vars) × (widest l.best (get_or l.vars l.best nowhere) l.i (drop l.i l.vars) ≡ middle_split l.vars)
