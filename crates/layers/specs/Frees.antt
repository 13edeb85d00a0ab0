-- The divisor of a row's unfixed variables and the part of the fixed ones, one variable at a time.
use Rattle.std.specs.Prelude.{◌≡◌, ℕ, zero, suc, ◌+◌, ◌%◌, ◌<◌, ◌≤◌, Bool, true, false, cond, List, [], ◌∷◌, length, get_or, drop, ℤ, pos, ◌+ℤ◌, ◌*ℤ◌, slice_index_or, unsigned_abs, refl}
use Rattle.std.proofs.Common.{sym, ◌∙◌, ap, arith}
use Rattle.std.proofs.lemmas.List.{drop_more, drop_all}
use Rattle.problems.specs.declared.quantity.Span.{Span}
use Rattle.problems.specs.Box.{nowhere}
use Rattle.problems.proofs.Propers.{Coefs}
use Rattle.testers.specs.Gcd.{gcd}
use Rattle.testers.specs.Leaf.{fixed, fixed_part}
use Rattle.testers.proofs.Gcds.{gcd_small, gcd_step}
use Rattle.layers.specs.Divisor.{free_gcd}
use Rattle.std.proofs.lemmas.Bool.{cond_both}

-- ---- the divisor

pub gcd_none : (d : ℕ) → gcd 0 d ≡ d
gcd_none zero = refl
gcd_none (suc d) = let z : 0 % suc d ≡ 0 = omega arith in sym (gcd_step 0 (suc d) (omega arith)) ∙ ap (gcd (suc d)) z

gcd_if : (b : Bool) (a d : ℕ) → gcd (cond b 0 a) d ≡ cond b d (gcd a d)
gcd_if true a d = gcd_none d
gcd_if false a d = refl

-- one variable more
pub free_next : (r : List ℤ) (ss : List Span) (i : ℕ) → i < length r → i < length ss
    → gcd (cond (fixed (slice_index_or ss i nowhere)) 0 (unsigned_abs (slice_index_or r i (pos 0)))) (free_gcd (drop (i + 1) r) (drop (i + 1) ss)) ≡ free_gcd (drop i r) (drop i ss)
free_next r ss i h k =
    rw (drop_more r i (pos 0) h, drop_more ss i nowhere k)
    (gcd_if (fixed (slice_index_or ss i nowhere)) (unsigned_abs (slice_index_or r i (pos 0))) (free_gcd (drop (i + 1) r) (drop (i + 1) ss)))

pub free_end : (r : List ℤ) (ss : List Span) (i : ℕ) → length r ≤ i → 0 ≡ free_gcd (drop i r) (drop i ss)
free_end r ss i h = rw (drop_all i r h)

pub free_small : (r : List ℤ) (ss : List Span) → Coefs r → free_gcd r ss ≤ 100
free_small [] ss h = omega arith
free_small (a ∷ r) [] h = omega arith
free_small (a ∷ r) (s ∷ ss) h =
    cond_both (fixed s) (free_gcd r ss) (gcd (unsigned_abs a) (free_gcd r ss)) (λ g. g ≤ 100) (λ _. free_small r ss h.1)
    (λ _. gcd_small 100 (free_gcd r ss) (unsigned_abs a) (free_gcd r ss) h.0 (free_small r ss h.1))

-- ---- the fixed part

pub part_next : (r : List ℤ) (ss : List Span) (i : ℕ) → i < length r → i < length ss
    → fixed_part (drop i r) (drop i ss) ≡ cond (fixed (slice_index_or ss i nowhere)) (slice_index_or r i (pos 0) *ℤ (get_or ss i nowhere).lower) (pos 0) +ℤ fixed_part (drop (i + 1) r) (drop (i + 1) ss)
part_next r ss i h k = rw (drop_more r i (pos 0) h, drop_more ss i nowhere k)

pub part_end : (r : List ℤ) (ss : List Span) (i : ℕ) → length r ≤ i → fixed_part (drop i r) (drop i ss) ≡ pos 0
part_end r ss i h = rw (drop_all i r h)

-- the same for the items that stand there
pub part_more : (r : List ℤ) (ss : List Span) (i : ℕ) (a : ℤ) (s : Span) (t : ℤ) → i < length r → i < length ss → a ≡ slice_index_or r i (pos 0) → s ≡ slice_index_or ss i nowhere
    → t ≡ cond (fixed s) (a *ℤ s.lower) (pos 0) → fixed_part (drop i r) (drop i ss) ≡ t +ℤ fixed_part (drop (i + 1) r) (drop (i + 1) ss)
part_more r ss i a s t h k e f p =
    let n : t ≡ cond (fixed (slice_index_or ss i nowhere)) (slice_index_or r i (pos 0) *ℤ (get_or ss i nowhere).lower) (pos 0) =
    p ∙ ap (λ (z : ℤ). cond (fixed s) (z *ℤ s.lower) (pos 0)) e ∙ ap (λ (y : Span). cond (fixed y) (slice_index_or r i (pos 0) *ℤ y.lower) (pos 0)) f in
    part_next r ss i h k ∙ ap (λ (z : ℤ). z +ℤ fixed_part (drop (i + 1) r) (drop (i + 1) ss)) (sym n)
