use Rattle.std.proofs.Common.{◌≡◌, ◌+◌, ◌++◌, map, length, take, drop}
use Rattle.problems.specs.View.{box_of, rows_of}
use Rattle.tableau.specs.Lines.{start_lines}
use Rattle.pivot.specs.Shapes.{seen, LinesOk}
use Rattle.pivot.proofs.start.first_lines.Given as goal

abbrev pub invariant-loop-i : goal.invariant-loop-i
invariant-loop-i l =
    (length l.line-items ≡ length (rows_of l.problem))
    × (map (seen (length (box_of l.problem).vars + length (rows_of l.problem))) (take l.i l.line-items) ++ start_lines (length (rows_of l.problem)) l.i (drop l.i (rows_of l.problem))
    ≡ start_lines (length (rows_of l.problem)) 0 (rows_of l.problem))
    × LinesOk (length (box_of l.problem).vars + length (rows_of l.problem)) (take l.i l.line-items)
