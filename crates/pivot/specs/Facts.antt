-- The facts of a board have one proof each.
use Rattle.std.specs.Prelude.{ℕ, true, List, [], ◌∷◌, length, take}
use Rattle.std.specs.Coded.{×_prop, Unit-prop, le_prop}
use mathlib.Core.Bool.{Bool-set}
use native.Mathlib.Decide.{ℕ_discrete}
use mathlib.Core.HLevel.{hedberg}
use Rattle.problems.specs.declared.quantity.RowEnds.{RowEnds}
use Rattle.problems.specs.Whole.{all_within}
use Rattle.problems.specs.Ranges.{in_reach}
use Rattle.tableau.specs.declared.line.Line.{Line}
use Rattle.pivot.specs.Shapes.{LineOk, LinesOk, EndsOk}

line_ok_prop : (k : ℕ) (l : Line) → IsProp (LineOk k l)
line_ok_prop k l p q = λ i. record {
  basic = le_prop p.basic q.basic i;
  small = Bool-set (all_within 1000000000 (take k l.nums)) true p.small q.small i;
  long = hedberg ℕ_discrete (length l.nums) 24 p.long q.long i;
}

pub lines_ok_prop : (k : ℕ) (ls : List Line) → IsProp (LinesOk k ls)
lines_ok_prop k [] = Unit-prop
lines_ok_prop k (l ∷ ls) = ×_prop (line_ok_prop k l) (lines_ok_prop k ls)

pub ends_ok_prop : (es : List RowEnds) → IsProp (EndsOk es)
ends_ok_prop [] = Unit-prop
ends_ok_prop (e ∷ es) = λ p q. λ i. (Bool-set (in_reach e.lower) true p.0 q.0 i, Bool-set (in_reach e.upper) true p.1 q.1 i, ends_ok_prop es p.2 q.2 i)
