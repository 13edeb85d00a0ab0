-- The divisor layer over any tester.
use Rattle.std.specs.Prelude.{ℕ, suc, cond, List, [], ◌∷◌, ℤ, Some, None, Option, slice_index_or, unsigned_abs}
use Rattle.problems.specs.declared.quantity.Span.{Span}
use Rattle.problems.specs.Box.{Box}
use Rattle.testers.specs.Gcd.{gcd}
use Rattle.testers.specs.Leaf.{Leaf, fixed, row_misses}
use Rattle.testers.specs.Leaf.Leaf.{divisor}
use Rattle.testers.specs.Tester.{Meaning}
use Rattle.testers.specs.Halving.{unless}

-- the greatest common divisor of the coefficients of the unfixed variables; 0 where every one of them is 0
abbrev pub free_gcd : List ℤ → List Span → ℕ
free_gcd [] ss = 0
free_gcd (a ∷ av) [] = 0
free_gcd (a ∷ av) (s ∷ ss) = let d = free_gcd av ss in cond (fixed s) d (gcd (unsigned_abs a) d)

-- the leaf of row i, where its divisor misses it
abbrev pub missed_leaf : List (List ℤ) → Box → ℕ → Option Leaf
missed_leaf rows box i =
    let g = free_gcd (slice_index_or rows i []) box.vars in
    cond (row_misses rows box i g) (Some (divisor i g)) None

-- the leaf of the first row that its divisor misses, of those from row i on
abbrev pub missing : List (List ℤ) → Box → ℕ → List (List ℤ) → Option Leaf
missing rows box i [] = None
missing rows box i (r ∷ rs) =
    let g = free_gcd r box.vars in
    let later = missing rows box (suc i) rs in
    cond (row_misses rows box i g) (Some (divisor i g)) later

-- the same of all rows
abbrev pub missed_row : List (List ℤ) → Box → Option Leaf
missed_row rows box = missing rows box 0 rows

-- that leaf, and where there is none what the tester below says
abbrev pub divisor_layer : Meaning → Meaning
divisor_layer below rows box = unless (missed_row rows box) (below rows box)
