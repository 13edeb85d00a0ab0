use Rattle.std.proofs.Common.{◌≡◌, ◌-◌, ◌++◌, map, take, replicate}
use Rattle.problems.specs.Box.{no_ends}
use Rattle.tableau.specs.Tableau.{span_ends}
use Rattle.pivot.proofs.start.all_ends.Given as goal

abbrev pub invariant-loop-v : goal.invariant-loop-v
invariant-loop-v l = l.all ≡ map span_ends (take l.v l.vars) ++ replicate (24 - l.v) no_ends
