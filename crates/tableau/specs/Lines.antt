-- Lines, the equations of a tableau. Quantities are counted from 0, variables first.
-- A line says that 0 is the sum of number times quantity over all quantities: -d at its basic quantity, a at each nonbasic one, 0 at the other basic ones.
-- So it is d b = sum of a q, with all on one side.
use Rattle.std.specs.Prelude.{ℕ, suc, ◌+◌, cond, List, [], ◌∷◌, ◌++◌, length, get_or, ℤ, pos, negsuc, neg_ℤ, nat_lt, slice_index_or, unsigned_abs}
use Rattle.std.specs.Int.{int_div_euclid}
use Rattle.problems.specs.Whole.{is_zero, positive}
use Rattle.problems.specs.Rows.{add, scale}
use Rattle.testers.specs.Gcd.{gcd}
use Rattle.testers.specs.Halving.{single}
use Rattle.tableau.specs.declared.line.Line.{Line}

-- what stands past the last line
abbrev pub blank : Line
blank = record { basic = 0; nums = [] }

-- d
abbrev pub den : Line → ℤ
den l = neg_ℤ (slice_index_or l.nums l.basic (pos 0))

-- ---- the lines of the rows: row i of m says that its value is its quantity

abbrev pub start_line : ℕ → ℕ → List ℤ → Line
start_line m i r = record { basic = length r + i; nums = r ++ single m i (negsuc 0) }

-- the rows from i on
abbrev pub start_lines : ℕ → ℕ → List (List ℤ) → List Line
start_lines m i [] = []
start_lines m i (r ∷ rs) = start_line m i r ∷ start_lines m (suc i) rs

-- ---- no common divisor above 1

-- the greatest common divisor of g and all numbers
abbrev pub gcd_all : ℕ → List ℤ → ℕ
gcd_all g [] = g
gcd_all g (a ∷ av) = gcd_all (gcd (unsigned_abs a) g) av

abbrev pub divide_all : ℤ → List ℤ → List ℤ
divide_all g [] = []
divide_all g (a ∷ av) = int_div_euclid a g ∷ divide_all g av

abbrev pub reduced : List ℤ → List ℤ
reduced r = let g = gcd_all 0 r in cond (nat_lt 1 g) (divide_all (pos g) r) r

-- ---- an exchange of two quantities

-- the same equation as that of the entering quantity q: negative there
abbrev pub turned : ℕ → Line → Line
turned q l = record { basic = q; nums = cond (positive (slice_index_or l.nums q (pos 0))) (scale (negsuc 0) l.nums) l.nums }

-- the numbers r with q taken out by the numbers t, which are negative at q; where q does not stand in r, r stays
abbrev pub cleared : ℕ → List ℤ → List ℤ → List ℤ
cleared q t r =
    let c = get_or r q (pos 0) in
    let mixed = reduced (add (scale (neg_ℤ (slice_index_or t q (pos 0))) r) (scale c t)) in
    cond (is_zero c) r mixed

abbrev pub substituted : ℕ → Line → Line → Line
substituted q t l = record { basic = l.basic; nums = cleared q t.nums l.nums }
