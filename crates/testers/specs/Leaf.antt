-- A leaf: why a box has no plan.
use Rattle.std.specs.Prelude.{◌≡◌, ℕ, zero, suc, Bool, true, false, cond, not, ◌&&◌, ◌||◌, List, [], ◌∷◌, length, get_or, ℤ, pos, negsuc, ◌+ℤ◌, ◌-ℤ◌, ◌*ℤ◌, Some, None, Option, ◌==◌, int_lt, nat_le, nat_lt, slice_index_or}
use Rattle.std.specs.Int.{int_div_euclid}
use Rattle.problems.specs.declared.quantity.Span.{Span}
use Rattle.problems.specs.declared.quantity.RowEnds.{RowEnds}
use Rattle.problems.specs.declared.quantity.Side.{Side}
use Rattle.problems.specs.declared.quantity.Side.TheVariants.{Lower, Upper}
use Rattle.problems.specs.Whole.{eq_z, is_zero, positive, negative, all_within, divides}
use Rattle.problems.specs.Rows.{add, comb}
use Rattle.problems.specs.Box.{Box, NoPlan, Proper, no_ends, nowhere}

pub data Leaf : Type 0 where
  sum : (variables rows : List ℤ) → Leaf
  divisor : (row g : ℕ) → Leaf

-- ---- sum leaves

abbrev pub all_zero : List ℤ → Bool
all_zero [] = true
all_zero (a ∷ av) = is_zero a && all_zero av

-- multiplier times upper end where positive, and times lower end where negative
abbrev pub most : ℤ → Span → ℤ
most (pos zero) s = pos 0
most (pos (suc n)) s = pos (suc n) *ℤ s.upper
most (negsuc n) s = negsuc n *ℤ s.lower

abbrev pub variables_total : List ℤ → List Span → ℤ
variables_total [] ss = pos 0
variables_total (y ∷ ys) [] = pos 0
variables_total (y ∷ ys) (s ∷ ss) = most y s +ℤ variables_total ys ss

abbrev pub times : ℤ → Option ℤ → Option ℤ
times y None = None
times y (Some e) = Some (y *ℤ e)

-- the same for a row, where that end is present
abbrev pub most_row : ℤ → RowEnds → Option ℤ
most_row (pos zero) e = Some (pos 0)
most_row (pos (suc n)) e = times (pos (suc n)) e.upper
most_row (negsuc n) e = times (negsuc n) e.lower

abbrev pub plus : Option ℤ → Option ℤ → Option ℤ
plus None b = None
plus (Some a) None = None
plus (Some a) (Some b) = Some (a +ℤ b)

abbrev pub rows_total : List ℤ → List RowEnds → Option ℤ
rows_total [] es = Some (pos 0)
rows_total (z ∷ zs) [] = None
rows_total (z ∷ zs) (e ∷ es) = plus (most_row z e) (rows_total zs es)

abbrev pub sum_below_zero : ℤ → Option ℤ → Bool
sum_below_zero s None = false
sum_below_zero s (Some t) = int_lt (s +ℤ t) (pos 0)

-- the multipliers cancel for every variable, and the total is negative
abbrev pub sum_lawful : List (List ℤ) → Box → List ℤ → List ℤ → Bool
sum_lawful rows box ys zs =
    all_zero (add ys (comb zs rows)) && sum_below_zero (variables_total ys box.vars) (rows_total zs box.rows)

-- ---- divisor leaves

-- both ends equal
abbrev pub fixed : Span → Bool
fixed s = eq_z s.lower s.upper

-- g divides every unfixed variable's coefficient
abbrev pub divides_free : ℕ → List ℤ → List Span → Bool
divides_free g [] ss = true
divides_free g (a ∷ av) [] = true
divides_free g (a ∷ av) (s ∷ ss) = (fixed s || divides g a) && divides_free g av ss

-- the fixed variables' part of the row
abbrev pub fixed_part : List ℤ → List Span → ℤ
fixed_part [] ss = pos 0
fixed_part (a ∷ av) [] = pos 0
fixed_part (a ∷ av) (s ∷ ss) = cond (fixed s) (a *ℤ s.lower) (pos 0) +ℤ fixed_part av ss

-- the greatest multiple of g up to u is below l
abbrev pub no_multiple : ℕ → ℤ → ℤ → Bool
no_multiple g l u = int_lt (pos g *ℤ int_div_euclid u (pos g)) l

-- both row ends are present, and no multiple of g lies from lower - f to upper - f
abbrev pub misses : ℕ → ℤ → Option ℤ → Option ℤ → Bool
misses g f None u = false
misses g f (Some l) None = false
misses g f (Some l) (Some u) = nat_le 2 g && no_multiple g (l -ℤ f) (u -ℤ f)

-- g ≥ 2 misses row i, given the fixed variables
abbrev pub row_misses : List (List ℤ) → Box → ℕ → ℕ → Bool
row_misses rows box i g =
    let e = get_or box.rows i no_ends in misses g (fixed_part (slice_index_or rows i []) box.vars) e.lower e.upper

abbrev pub divisor_lawful : List (List ℤ) → Box → ℕ → ℕ → Bool
divisor_lawful rows box i g = divides_free g (slice_index_or rows i []) box.vars && row_misses rows box i g

-- ---- lawfulness

-- a multiplier for each quantity in its range; a row of the problem and 2 ≤ g ≤ 255
abbrev pub formed : List (List ℤ) → Box → Leaf → Bool
formed rows box (sum ys zs) =
    (length ys == length box.vars) && length zs == length rows && all_within 1000000000 ys && all_within 1000000000 zs
formed rows box (divisor i g) = nat_lt i (length rows) && nat_le 2 g && nat_le g 255

abbrev pub lawful : List (List ℤ) → Box → Leaf → Bool
lawful rows box (sum ys zs) = sum_lawful rows box ys zs
lawful rows box (divisor i g) = divisor_lawful rows box i g

-- a box with a lawful leaf has no plan
abbrev pub LawfulLeafMeansNoPlan : Type 0
LawfulLeafMeansNoPlan =
    (rows : List (List ℤ)) (box : Box) (l : Leaf) → Proper rows box → (formed rows box l && lawful rows box l) ≡ true → NoPlan rows box

-- ---- the ends that a leaf uses

-- for each variable, and for each row, whether its lower and its upper end is used
pub record Uses : Type 0 where
  pub vars : Side → ℕ → Bool
  pub rows : Side → ℕ → Bool

-- the upper end of a positive multiplier, the lower end of a negative one
abbrev pub by_sign : List ℤ → Side → ℕ → Bool
by_sign ys Lower i = negative (slice_index_or ys i (pos 0))
by_sign ys Upper i = positive (slice_index_or ys i (pos 0))

-- both ends of each fixed variable whose coefficient is not 0
abbrev pub by_fixed : List ℤ → List Span → Side → ℕ → Bool
by_fixed av ss side i = fixed (slice_index_or ss i nowhere) && not (is_zero (slice_index_or av i (pos 0)))

abbrev pub uses : List (List ℤ) → Box → Leaf → Uses
uses rows box (sum ys zs) = record { vars = by_sign ys; rows = by_sign zs }
uses rows box (divisor i g) = record { vars = by_fixed (slice_index_or rows i []) box.vars; rows = λ side j. (j == i) }
