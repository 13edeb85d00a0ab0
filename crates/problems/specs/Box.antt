-- A box: the ends of all quantities. Variables and rows are counted from 0.
use Rattle.std.specs.Prelude.{◌≡◌, ℕ, zero, suc, ◌+◌, ◌-◌, ◌*◌, ◌≤◌, Bool, true, false, ◌&&◌, List, [], ◌∷◌, length, ℤ, pos, ◌+ℤ◌, ◌≤ℤ◌, Some, None, Option, int_le, int_lt}
use borrow.Author.Differences.{up, down}
use Rattle.problems.specs.declared.quantity.Span.{Span}
use Rattle.problems.specs.declared.quantity.RowEnds.{RowEnds}
use Rattle.problems.specs.declared.quantity.Side.{Side}
use Rattle.problems.specs.declared.quantity.Side.TheVariants.{Lower, Upper}
use Rattle.problems.specs.Rows.{values}
use Rattle.problems.specs.Ranges.{rows_proper, spans_proper, row_ends_proper}

pub record Box : Type 0 where
  pub vars : List Span
  pub rows : List RowEnds

abbrev pub Above : Option ℤ → ℤ → Type 0
Above None x = Unit {0}
Above (Some l) x = l ≤ℤ x

abbrev pub Below : Option ℤ → ℤ → Type 0
Below None x = Unit {0}
Below (Some u) x = x ≤ℤ u

-- every variable lies within its ends
abbrev pub Inside : List Span → List ℤ → Type 0
Inside [] [] = Unit {0}
Inside [] (x ∷ xs) = ⊥
Inside (s ∷ ss) [] = ⊥
Inside (s ∷ ss) (x ∷ xs) = (s.lower ≤ℤ x) × (x ≤ℤ s.upper) × Inside ss xs

-- every row's value lies within the row's ends
abbrev pub Kept : List RowEnds → List ℤ → Type 0
Kept [] [] = Unit {0}
Kept [] (x ∷ xs) = ⊥
Kept (e ∷ es) [] = ⊥
Kept (e ∷ es) (x ∷ xs) = Above e.lower x × Below e.upper x × Kept es xs

-- a plan of the box
abbrev pub IsPlan : List (List ℤ) → Box → List ℤ → Type 0
IsPlan rows box x = Inside box.vars x × Kept box.rows (values rows x)

abbrev pub NoPlan : List (List ℤ) → Box → Type 0
NoPlan rows box = (x : List ℤ) → IsPlan rows box x → ⊥

-- how many whole numbers lie within the ends
abbrev pub width : Span → ℕ
width s = up s.upper + down s.lower + 1 - (up s.lower + down s.upper)

-- P, the number of whole points between the variables' ends
abbrev pub points : List Span → ℕ
points [] = 1
points (s ∷ ss) = width s * points ss

-- variable v may be split at k: lower end ≤ k < upper end
abbrev pub splits : ℕ → ℤ → List Span → Bool
splits v k [] = false
splits zero k (s ∷ ss) = int_le s.lower k && int_lt k s.upper
splits (suc v) k (s ∷ ss) = splits v k ss

-- the half of the box in which variable v is at most k
abbrev pub low : ℕ → ℤ → List Span → List Span
low v k [] = []
low zero k (s ∷ ss) = record { lower = s.lower; upper = k } ∷ ss
low (suc v) k (s ∷ ss) = s ∷ low v k ss

-- the half in which it is above k
abbrev pub high : ℕ → ℤ → List Span → List Span
high v k [] = []
high zero k (s ∷ ss) = record { lower = k +ℤ pos 1; upper = s.upper } ∷ ss
high (suc v) k (s ∷ ss) = s ∷ high v k ss

-- the box with other ends of the variables
abbrev pub with_vars : List Span → Box → Box
with_vars ss box = record { vars = ss; rows = box.rows }

abbrev pub lower_half : ℕ → ℤ → Box → Box
lower_half v k box = with_vars (low v k box.vars) box

abbrev pub upper_half : ℕ → ℤ → Box → Box
upper_half v k box = with_vars (high v k box.vars) box

-- ---- ends by place

-- what a list has past its end: one point
abbrev pub nowhere : Span
nowhere = record { lower = pos 0; upper = pos 0 }

abbrev pub span_end : Side → Span → ℤ
span_end Lower s = s.lower
span_end Upper s = s.upper

abbrev pub no_ends : RowEnds
no_ends = record { lower = None; upper = None }

-- ---- what a problem is made of

-- 1 to 12 variables, at most 12 rows, every list of its length, every number in its range, no lower end above its upper end
pub record Proper (rows : List (List ℤ)) (box : Box) : Type 0 where
  pub a_variable : 1 ≤ length box.vars
  pub few_variables : length box.vars ≤ 12
  pub few_rows : length rows ≤ 12
  pub ends_of_rows : length box.rows ≡ length rows
  pub coefficients : rows_proper (length box.vars) rows ≡ true
  pub spans : spans_proper box.vars ≡ true
  pub row_spans : row_ends_proper box.rows ≡ true
