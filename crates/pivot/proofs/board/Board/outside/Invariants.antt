use Rattle.std.proofs.Common.{◌≡◌, map, length, drop}
use Rattle.tableau.specs.Choices.{earlier, outside}
use Rattle.pivot.specs.Shapes.{seen}
use Rattle.pivot.proofs.board.Board.outside.Given as goal

abbrev pub invariant-loop-i : goal.invariant-loop-i
invariant-loop-i l =
    earlier l.first (outside l.self.ends.now l.self.values.now l.i (map (seen (length l.self.values.now)) (drop l.i l.self.lines.now)))
    ≡ outside l.self.ends.now l.self.values.now 0 (map (seen (length l.self.values.now)) l.self.lines.now)
