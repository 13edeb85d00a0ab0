use Rattle.std.proofs.Common.{◌≡◌, ◌-◌}
use Rattle.search.proofs.Runs.{Under}
use Rattle.search.proofs.run.run.Given as goal

abbrev pub invariant-loop-walk : goal.invariant-loop-walk
invariant-loop-walk g l =
    Under (g.T.Tester.meaning l.initial.tester) l.root l.budget l.initial.written l.initial.stack l.walk l.written l.stack
    × (g.T.Tester.meaning l.tester ≡ g.T.Tester.meaning l.initial.tester)

abbrev pub decreases-loop-walk : goal.decreases-loop-walk
decreases-loop-walk g l = l.budget - l.walk.boxes
