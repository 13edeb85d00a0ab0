-- A tableau, and a run of pivots by Bland's rule.
use Rattle.std.specs.Prelude.{ℕ, zero, suc, ◌+◌, Bool, true, cond, ◌&&◌, List, [], ◌∷◌, ◌++◌, map, length, replicate, ℤ, pos, Some, None, Option, ◌==◌, slice_index_or, slice_set}
use Rattle.problems.specs.declared.quantity.Span.{Span}
use Rattle.problems.specs.declared.quantity.RowEnds.{RowEnds}
use Rattle.problems.specs.declared.quantity.Side.{Side}
use Rattle.problems.specs.declared.quantity.Side.TheVariants.{Lower, Upper}
use Rattle.problems.specs.Whole.{all_within}
use Rattle.problems.specs.Box.{Box, no_ends}
use Rattle.testers.specs.Halving.{lowers}
use Rattle.tableau.specs.declared.line.Line.{Line}
use Rattle.tableau.specs.declared.run.Violation.{Violation}
use Rattle.tableau.specs.declared.run.Step.{Step}
use Rattle.tableau.specs.declared.run.Step.TheVariants.{Standing, Stuck, Turn}
use Rattle.tableau.specs.declared.run.Stop.{Stop}
use Rattle.tableau.specs.declared.run.Stop.TheVariants.{Stands, Fails, GaveWay}
use Rattle.tableau.specs.Lines.{blank, start_lines, turned, substituted}
use Rattle.tableau.specs.Choices.{outside, entering}

-- for each quantity the end at which it sits, and 0 for a basic one; and a line for each basic quantity
pub record Tableau : Type 0 where
  pub values : List ℤ
  pub lines : List Line

-- ---- the start

abbrev pub span_ends : Span → RowEnds
span_ends s = record { lower = Some s.lower; upper = Some s.upper }

-- the ends of all quantities
abbrev pub ends_of : Box → List RowEnds
ends_of box = map span_ends box.vars ++ box.rows

-- the variables are nonbasic at their lower ends, and the rows are basic
abbrev pub start : List (List ℤ) → Box → Tableau
start rows box = record { values = lowers box.vars ++ replicate (length rows) (pos 0); lines = start_lines (length rows) 0 rows }

-- ---- a pivot

-- every line, the first at place j: t at the given place, and q taken out of the others
abbrev pub exchanged : ℕ → ℕ → Line → ℕ → List Line → List Line
exchanged place q t j [] = []
exchanged place q t j (l ∷ ls) = cond (j == place) t (substituted q t l) ∷ exchanged place q t (suc j) ls

abbrev pub or_zero : Option ℤ → ℤ
or_zero None = pos 0
or_zero (Some z) = z

abbrev pub end_value : Side → RowEnds → ℤ
end_value Lower e = or_zero e.lower
end_value Upper e = or_zero e.upper

-- the leaving quantity sits at its violated end, and q is basic
abbrev pub moved : Violation → ℕ → List RowEnds → List ℤ → List ℤ
moved f q ends values = slice_set (slice_set values f.basic (end_value f.side (slice_index_or ends f.basic no_ends))) q (pos 0)

abbrev pub pivoted : List RowEnds → Violation → ℕ → Tableau → Tableau
pivoted ends f q t =
    record { values = moved f q ends t.values; lines = exchanged f.place q (turned q (slice_index_or t.lines f.place blank)) 0 t.lines }

-- every number is at most 1,000,000,000 in size
abbrev pub small_lines : List Line → Bool
small_lines [] = true
small_lines (l ∷ ls) = all_within 1000000000 l.nums && small_lines ls

-- ---- the run

abbrev pub entered : Violation → Option ℕ → Step
entered f None = Stuck f
entered f (Some q) = Turn f q

abbrev pub chosen : List RowEnds → ℕ → Tableau → Option Violation → Step
chosen ends k t None = Standing
chosen ends k t (Some f) = entered f (entering f.side ends t.values (slice_index_or t.lines f.place blank) 0 k)

-- one look at a tableau of k quantities: none is outside its ends, or one is that none can help, or two are exchanged
abbrev pub look : List RowEnds → ℕ → Tableau → Step
look ends k t = chosen ends k t (outside ends t.values 0 t.lines)

-- how a run stops, and the tableau at which it does
pub record Run : Type 0 where
  pub stop : Stop
  pub tableau : Tableau

abbrev pub go : (Tableau → Run) → List RowEnds → Tableau → Step → Run
go further ends t Standing = record { stop = Stands; tableau = t }
go further ends t (Stuck f) = record { stop = Fails f; tableau = t }
go further ends t (Turn f q) = further (pivoted ends f q t)

abbrev pub gave_way : Tableau → Run
gave_way t = record { stop = GaveWay; tableau = t }

-- on from the next tableau, unless a number in it is too large
abbrev pub if_small : (Tableau → Run) → Tableau → Run
if_small further next = cond (small_lines next.lines) (further next) (gave_way next)

-- at most so many pivots, then it gives way
unfoldable pub run : ℕ → List RowEnds → ℕ → Tableau → Run
run zero ends k t = go (λ next. gave_way t) ends t (look ends k t)
run (suc limit) ends k t = go (if_small (run limit ends k)) ends t (look ends k t)

-- the run from the start
abbrev pub run_on : ℕ → List (List ℤ) → Box → Run
run_on limit rows box = run limit (ends_of box) (length box.vars + length rows) (start rows box)
