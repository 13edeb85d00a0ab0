use Rattle.std.proofs.Common.{◌≡◌, ◌-◌, ◌++◌, map, length, take}
use Rattle.tableau.specs.Pivot.{floors}
use Rattle.pivot.specs.Shapes.{seen}
use Rattle.pivot.proofs.board.Board.floors_of.Given as goal

abbrev pub invariant-loop-v : goal.invariant-loop-v
invariant-loop-v l =
    (length l.x-items ≡ l.n)
    × (take l.v l.x-items ++ floors l.self.values.now (map (seen (length l.self.values.now)) l.self.lines.now) l.v (l.n - l.v)
    ≡ floors l.self.values.now (map (seen (length l.self.values.now)) l.self.lines.now) 0 l.n)
