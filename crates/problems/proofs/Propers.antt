-- A problem's ranges, taken apart.
use Rattle.std.proofs.Common.{◌≡◌, ℕ, ◌<◌, ◌≤◌, true, List, [], ◌∷◌, length, get_or, ℤ, nat_abs, ◌≤ℤ◌, refl}
use Rattle.problems.specs.declared.quantity.Span.{Span}
use Rattle.problems.specs.Whole.{within, all_within}
use Rattle.problems.specs.Ranges.{span_proper, spans_proper, row_proper, rows_proper}
use Rattle.std.proofs.lemmas.List.Recursion.{and_at}
use Rattle.std.proofs.lemmas.Bool.{and_from, and_parts, eqb-true, le-leb, leb-true}
use Rattle.problems.proofs.Tests.{le_z_true, le_z_is}

-- each number is at most 100 in size
abbrev pub Coefs : List ℤ → Type 0
Coefs [] = Unit {0}
Coefs (a ∷ av) = (nat_abs a ≤ 100) × Coefs av

-- each row has n coefficients
abbrev pub RowLists : ℕ → List (List ℤ) → Type 0
RowLists n [] = Unit {0}
RowLists n (r ∷ rs) = (length r ≡ n) × Coefs r × RowLists n rs

abbrev pub Spans : List Span → Type 0
Spans [] = Unit {0}
Spans (s ∷ ss) = (s.lower ≤ℤ s.upper) × (nat_abs s.lower ≤ 100000) × (nat_abs s.upper ≤ 100000) × Spans ss

pub coefs_from : (r : List ℤ) → all_within 100 r ≡ true → Coefs r
coefs_from [] h = tt
coefs_from (a ∷ r) h = let w = and_parts (within 100 a) (all_within 100 r) h in (leb-true _ _ w.0, coefs_from r w.1)

pub row_from : (n : ℕ) (r : List ℤ) → row_proper n r ≡ true → (length r ≡ n) × Coefs r
row_from n r h = let w = and_parts _ (all_within 100 r) h in (eqb-true _ _ w.0, coefs_from r w.1)

pub rows_from : (n : ℕ) (rs : List (List ℤ)) → rows_proper n rs ≡ true → RowLists n rs
rows_from n [] h = tt
rows_from n (r ∷ rs) h =
    let w = and_parts (row_proper n r) (rows_proper n rs) h in
    let here = row_from n r w.0 in
    (here.0, here.1, rows_from n rs w.1)

pub row_proper_at : (n : ℕ) (rows : List (List ℤ)) (i : ℕ) → i < length rows → rows_proper n rows ≡ true → row_proper n (get_or rows i []) ≡ true
row_proper_at n rows i h e = and_at (rows_proper n) (row_proper n) refl (λ r rs. refl) rows i [] h e

-- row i has n coefficients
pub row_length : (n : ℕ) (rows : List (List ℤ)) (i : ℕ) → rows_proper n rows ≡ true → i < length rows → length (get_or rows i []) ≡ n
row_length n rows i e h = (row_from n (get_or rows i []) (row_proper_at n rows i h e)).0

pub span_from : (s : Span) → span_proper s ≡ true → (s.lower ≤ℤ s.upper) × (nat_abs s.lower ≤ 100000) × (nat_abs s.upper ≤ 100000)
span_from s h =
    let w = and_parts _ (within 100000 s.upper) h in
    let v = and_parts _ (within 100000 s.lower) w.0 in
    (le_z_true _ _ v.0, leb-true _ _ v.1, leb-true _ _ w.1)

pub span_to : (s : Span) → s.lower ≤ℤ s.upper → nat_abs s.lower ≤ 100000 → nat_abs s.upper ≤ 100000 → span_proper s ≡ true
span_to s o l u = and_from _ _ (and_from _ _ (le_z_is _ _ o) (le-leb _ _ l)) (le-leb _ _ u)

pub spans_from : (ss : List Span) → spans_proper ss ≡ true → Spans ss
spans_from [] h = tt
spans_from (s ∷ ss) h =
    let w = and_parts (span_proper s) (spans_proper ss) h in
    let here = span_from s w.0 in
    (here.0, here.1, here.2, spans_from ss w.1)

pub spans_to : (ss : List Span) → Spans ss → spans_proper ss ≡ true
spans_to [] h = refl
spans_to (s ∷ ss) h = and_from _ _ (span_to s h.0 h.1 h.2) (spans_to ss h.3)
