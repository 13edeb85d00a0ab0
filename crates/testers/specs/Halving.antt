-- The row check, the middle split, and the halving tester.
use Rattle.std.specs.Prelude.{ℕ, zero, suc, ◌-◌, Bool, true, false, cond, ◌&&◌, List, [], ◌∷◌, ◌++◌, length, replicate, ℤ, pos, negsuc, ◌+ℤ◌, ◌-ℤ◌, ◌*ℤ◌, neg_ℤ, Some, None, Option, int_lt, slice_index_or, slice_set}
use Rattle.std.specs.Int.{int_div_euclid}
use Rattle.problems.specs.declared.quantity.Span.{Span}
use Rattle.problems.specs.declared.quantity.RowEnds.{RowEnds}
use Rattle.problems.specs.Rows.{scale}
use Rattle.problems.specs.Box.{Box, no_ends}
use Rattle.testers.specs.Leaf.{Leaf, variables_total, fixed}
use Rattle.testers.specs.Leaf.Leaf.{sum}
use Rattle.testers.specs.Tester.{Answer, Meaning}
use Rattle.testers.specs.Tester.Answer.{empty, point, split}

-- the row's greatest value over the variables' ends
abbrev pub greatest : List ℤ → List Span → ℤ
greatest r ss = variables_total r ss

-- coefficient times lower end where positive, and times upper end where negative
abbrev pub fewest : ℤ → Span → ℤ
fewest (pos n) s = pos n *ℤ s.lower
fewest (negsuc n) s = negsuc n *ℤ s.upper

-- the row's least value over the variables' ends
abbrev pub least : List ℤ → List Span → ℤ
least [] ss = pos 0
least (a ∷ av) [] = pos 0
least (a ∷ av) (s ∷ ss) = fewest a s +ℤ least av ss

abbrev pub exceeds : ℤ → Option ℤ → Bool
exceeds z None = false
exceeds z (Some u) = int_lt u z

abbrev pub falls_short : ℤ → Option ℤ → Bool
falls_short z None = false
falls_short z (Some l) = int_lt z l

-- the multiplier of a row that fails: 1 where it exceeds its upper end, and -1 where it falls short of its lower end
abbrev pub failing_sign : List ℤ → List Span → RowEnds → Option ℤ
failing_sign r ss e = cond (exceeds (least r ss) e.upper) (Some (pos 1)) (cond (falls_short (greatest r ss) e.lower) (Some (negsuc 0)) None)

-- m multipliers, z at place i and 0 elsewhere
abbrev pub single : ℕ → ℕ → ℤ → List ℤ
single zero i z = []
single (suc m) zero z = z ∷ single m zero (pos 0)
single (suc m) (suc i) z = pos 0 ∷ single m i z

-- 24 multipliers for a failing row r, whose number is i: z for the row, minus z times each coefficient for the variables
abbrev pub row_multipliers : ℤ → List ℤ → ℕ → List ℤ
row_multipliers z r i = scale (neg_ℤ z) r ++ slice_set (replicate (24 - length r) (pos 0)) i z

-- the leaf of row i, where that row fails
abbrev pub failing_row : List (List ℤ) → Box → ℕ → Option Leaf
failing_row rows box i =
    let r = slice_index_or rows i [] in
    let e = slice_index_or box.rows i no_ends in
    let m = length rows in
    let under = Some (sum r (single m i (negsuc 0))) in
    let over = Some (sum (scale (negsuc 0) r) (single m i (pos 1))) in
    cond (exceeds (least r box.vars) e.upper) over (cond (falls_short (greatest r box.vars) e.lower) under None)

-- the first failing row, counted from i, of m rows
abbrev pub failing : List Span → ℕ → ℕ → List (List ℤ) → List RowEnds → Option Leaf
failing ss m i [] es = None
failing ss m i (r ∷ rs) [] = None
failing ss m i (r ∷ rs) (e ∷ es) =
    let later = failing ss m (suc i) rs es in
    let under = Some (sum r (single m i (negsuc 0))) in
    let over = Some (sum (scale (negsuc 0) r) (single m i (pos 1))) in
    cond (exceeds (least r ss) e.upper) over (cond (falls_short (greatest r ss) e.lower) under later)

abbrev pub row_check : List (List ℤ) → Box → Option Leaf
row_check rows box = failing box.vars (length rows) 0 rows box.rows

abbrev pub size : Span → ℤ
size s = s.upper -ℤ s.lower

-- the best split so far is of variable v with ends s; the others are counted from i
abbrev pub widest : ℕ → Span → ℕ → List Span → Answer
widest v s i [] = split v (int_div_euclid (s.lower +ℤ s.upper) (pos 2))
widest v s i (t ∷ ts) = let wider = int_lt (size s) (size t) in widest (cond wider i v) (cond wider t s) (suc i) ts

-- the variable with the widest ends, the smallest on a tie, at the middle of its ends
abbrev pub middle_split : List Span → Answer
middle_split [] = split 0 (pos 0)
middle_split (s ∷ ss) = widest 0 s 1 ss

abbrev pub all_fixed : List Span → Bool
all_fixed [] = true
all_fixed (s ∷ ss) = fixed s && all_fixed ss

abbrev pub lowers : List Span → List ℤ
lowers [] = []
lowers (s ∷ ss) = s.lower ∷ lowers ss

abbrev pub unless : Option Leaf → Answer → Answer
unless None a = a
unless (Some l) a = empty l

abbrev pub halving : Meaning
halving rows box =
    let rest = cond (all_fixed box.vars) (point (lowers box.vars)) (middle_split box.vars) in
    unless (row_check rows box) rest
