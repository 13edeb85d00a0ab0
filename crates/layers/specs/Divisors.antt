-- The divisor layer keeps the laws if the tester below does.
use Rattle.std.specs.Prelude.{◌≡◌, ℕ, suc, ◌+◌, ◌%◌, ◌<◌, true, ◌&&◌, ◌⊎◌, List, [], ◌∷◌, length, get_or, ℤ, Some, None, Option, nat_le, slice_index_or, unsigned_abs, refl}
use Rattle.std.proofs.Common.{sym, ◌∙◌, ap, subst, inl, inr, ⊎_elim, arith}
use Rattle.std.proofs.lemmas.Bool.{false≢true, and_from, and_parts, cond_both, eq-eqb, le-leb, or_left, or_right}
use Rattle.std.proofs.Math.Nat.{mul-mod_right}
use Rattle.problems.specs.declared.quantity.Span.{Span}
use Rattle.problems.specs.Whole.{divides}
use Rattle.problems.specs.Box.{Box, Proper, no_ends}
use Rattle.problems.proofs.Propers.{row_from, row_proper_at}
use Rattle.testers.specs.Gcd.{gcd, Divides}
use Rattle.testers.specs.Leaf.{Leaf, fixed, divides_free, fixed_part, misses, row_misses, formed, lawful}
use Rattle.testers.specs.Leaf.Leaf.{divisor}
use Rattle.testers.specs.Tester.{Answer, Meaning, LawfulAnswer, KeepsLaws}
use Rattle.testers.specs.Halving.{unless}
use Rattle.testers.proofs.Gcds.{gcd_is_greatest, divides_through}
use Rattle.layers.specs.Divisor.{free_gcd, missing, divisor_layer}
use Rattle.layers.specs.Frees.{free_small}

-- ---- the divisor divides

-- d divides the coefficient of every unfixed variable
abbrev DividesAll : ℕ → List ℤ → List Span → Type 0
DividesAll d [] ss = Unit {0}
DividesAll d (a ∷ av) [] = Unit {0}
DividesAll d (a ∷ av) (s ∷ ss) = ((fixed s ≡ true) ⊎ Divides d (unsigned_abs a)) × DividesAll d av ss

down_all : (g d : ℕ) (av : List ℤ) (ss : List Span) → Divides g d → DividesAll d av ss → DividesAll g av ss
down_all g d [] ss p h = tt
down_all g d (a ∷ av) [] p h = tt
down_all g d (a ∷ av) (s ∷ ss) p h = (⊎_elim inl (λ q. inr (divides_through g d (unsigned_abs a) p q)) h.0, down_all g d av ss p h.1)

free_divides : (av : List ℤ) (ss : List Span) → DividesAll (free_gcd av ss) av ss
free_divides [] ss = tt
free_divides (a ∷ av) [] = tt
free_divides (a ∷ av) (s ∷ ss) =
    let d = free_gcd av ss in
    let r = gcd_is_greatest (unsigned_abs a) d in
    cond_both (fixed s) d (gcd (unsigned_abs a) d) (λ g. ((fixed s ≡ true) ⊎ Divides g (unsigned_abs a)) × DividesAll g av ss)
    (λ y. (inl y, free_divides av ss))
    (λ n. (inr r.first, down_all (gcd (unsigned_abs a) d) d av ss r.second (free_divides av ss)))

divides_test : (g : ℕ) (a : ℤ) → Divides g (unsigned_abs a) → divides g a ≡ true
divides_test g a p = eq-eqb (unsigned_abs a % g) 0 (ap (λ n. n % g) p.1 ∙ mul-mod_right g p.0)

all_test : (g : ℕ) (av : List ℤ) (ss : List Span) → DividesAll g av ss → divides_free g av ss ≡ true
all_test g [] ss h = refl
all_test g (a ∷ av) [] h = refl
all_test g (a ∷ av) (s ∷ ss) h =
    and_from _ _ (⊎_elim (λ y. or_left (fixed s) _ y) (λ q. or_right (fixed s) _ (divides_test g a q)) h.0) (all_test g av ss h.1)

-- ---- the leaf is lawful

at_least_two : (g : ℕ) (f : ℤ) (l u : Option ℤ) → misses g f l u ≡ true → nat_le 2 g ≡ true
at_least_two g f None u h = absurd (false≢true h)
at_least_two g f (Some l) None h = absurd (false≢true h)
at_least_two g f (Some l) (Some u) h = (and_parts (nat_le 2 g) _ h).0

leaf_lawful : (rows : List (List ℤ)) (box : Box) → Proper rows box → (i g : ℕ) → i < length rows → g ≡ free_gcd (slice_index_or rows i []) box.vars → row_misses rows box i g ≡ true
    → (formed rows box (divisor i g) && lawful rows box (divisor i g)) ≡ true
leaf_lawful rows box p i g h e y =
    let row = get_or rows i [] in
    let ends = get_or box.rows i no_ends in
    let small = free_small row box.vars (row_from (length box.vars) row (row_proper_at (length box.vars) rows i h p.coefficients)).1 in
    let free = all_test g row box.vars (subst (λ d. DividesAll d row box.vars) (sym e) (free_divides row box.vars)) in
    and_from _ _
    (and_from _ _ (and_from _ _ (le-leb _ _ h) (at_least_two g (fixed_part row box.vars) ends.lower ends.upper y)) (le-leb g 255 (omega arith)))
    (and_from _ _ free y)

-- ---- the layer

-- the rows left are those from i on
abbrev From : List (List ℤ) → ℕ → List (List ℤ) → Type 0
From rows i rs = (j : ℕ) → j < length rs → (i + j < length rows) × (slice_index_or rows (i + j) [] ≡ slice_index_or rs j [])

missing_lawful : (rows : List (List ℤ)) (box : Box) → Proper rows box → (below : Answer) → LawfulAnswer rows box below → (i : ℕ) (rs : List (List ℤ)) → From rows i rs
    → LawfulAnswer rows box (unless (missing rows box i rs) below)
missing_lawful rows box p below law i [] f = law
missing_lawful rows box p below law i (r ∷ rs) f =
    let g = free_gcd r box.vars in
    let z : i + 0 ≡ i = omega arith in
    let first = f 0 (omega arith) in
    let here : i < length rows = subst (λ n. n < length rows) z first.0 in
    let row : get_or rows i [] ≡ r = subst (λ n. slice_index_or rows n [] ≡ r) z first.1 in
    cond_both (row_misses rows box i g) (Some (divisor i g)) (missing rows box (suc i) rs) (λ (o : Option Leaf). LawfulAnswer rows box (unless o below))
    (λ y. leaf_lawful rows box p i g here (ap (λ (av : List ℤ). free_gcd av box.vars) (sym row)) y)
    (λ _. missing_lawful rows box p below law (suc i) rs
    (λ j k. let y : i + suc j ≡ suc i + j = omega arith in subst (λ n. (n < length rows) × (slice_index_or rows n [] ≡ slice_index_or rs j [])) y (f (suc j) (omega arith))))

pub divisor_laws : (below : Meaning) → KeepsLaws below → KeepsLaws (divisor_layer below)
divisor_laws below laws rows box p =
    missing_lawful rows box p (below rows box) (laws rows box p) 0 rows
    (λ j k. let y : j ≡ 0 + j = omega arith in subst (λ n. (n < length rows) × (slice_index_or rows n [] ≡ slice_index_or rows j [])) y (k, refl))
