use Rattle.std.proofs.Common.{◌≡◌, length}
use Rattle.tableau.specs.Tableau.{run}
use Rattle.pivot.specs.Shapes.{shown}
use Rattle.pivot.proofs.board.Board.run.Given as goal

abbrev pub invariant-loop-f : goal.invariant-loop-f
invariant-loop-f l =
    let now = l.initial.self in
    let k = length now.values.now in
    (run l.rest now.ends.now k (shown k l.self.values.now l.self.lines.now) ≡ run l.limit now.ends.now k (shown k now.values.now now.lines.now))
    × (length l.self.values.now ≡ k)
    × (l.self.ends.now ≡ now.ends.now)

abbrev pub decreases-loop-f : goal.decreases-loop-f
decreases-loop-f l = l.rest
