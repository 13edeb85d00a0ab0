use Rattle.std.proofs.Common.{◌≡◌, ◌++◌, map, length, take, drop}
use Rattle.tableau.specs.Tableau.{exchanged}
use Rattle.pivot.specs.Shapes.{seen, AllShaped, LinesOk}
use Rattle.pivot.proofs.board.Board.exchange.Given as goal

abbrev pub invariant-loop-j : goal.invariant-loop-j
invariant-loop-j l =
    let k = length l.self.values.now in
    (map (seen k) (take l.j l.lines) ++ exchanged l.place l.q (seen k l.t) l.j (map (seen k) (drop l.j l.lines))
    ≡ exchanged l.place l.q (seen k l.t) 0 (map (seen k) l.initial.lines))
    × AllShaped k l.lines
    × LinesOk k (drop l.j l.lines)
