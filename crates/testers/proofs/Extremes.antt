-- The least and the greatest value of a row over the variables' ends, one term at a time.
use Rattle.std.proofs.Common.{◌≡◌, ℕ, zero, suc, ◌+◌, ◌<◌, ◌≤◌, true, List, [], ◌∷◌, length, get_or, drop, ℤ, pos, negsuc, ◌+ℤ◌, ◌*ℤ◌, nat_abs, ◌≤ℤ◌, ◌<ℤ◌, refl, ap, ◌∙◌, arith}
use lib.IntN.{zero-*ℤ}
use borrow.Author.Differences.{ints}
use Rattle.std.proofs.lemmas.List.{drop_more}
use Rattle.problems.specs.declared.quantity.Span.{Span}
use Rattle.problems.specs.Box.{nowhere}
use Rattle.problems.specs.Whole.{within, all_within}
use Rattle.problems.specs.Ranges.{span_proper, spans_proper}
use Rattle.testers.specs.Leaf.{most}
use Rattle.testers.specs.Halving.{fewest, least, greatest}
use Rattle.std.proofs.lemmas.Bool.{and_parts, leb-true}

-- ---- the two products of a coefficient with the ends

pub fewest_upper : (a : ℤ) (s : Span) → a <ℤ pos 0 → a *ℤ s.upper ≡ fewest a s
fewest_upper (pos n) s h = absurd (omega (arith, ints))
fewest_upper (negsuc n) s h = refl

pub fewest_lower : (a : ℤ) (s : Span) → pos 0 ≤ℤ a → a *ℤ s.lower ≡ fewest a s
fewest_lower (pos n) s h = refl
fewest_lower (negsuc n) s h = absurd (omega (arith, ints))

pub most_lower : (a : ℤ) (s : Span) → a ≤ℤ pos 0 → a *ℤ s.lower ≡ most a s
most_lower (pos zero) s h = zero-*ℤ s.lower
most_lower (pos (suc n)) s h = absurd (omega (arith, ints))
most_lower (negsuc n) s h = refl

pub most_upper : (a : ℤ) (s : Span) → pos 0 ≤ℤ a → a *ℤ s.upper ≡ most a s
most_upper (pos zero) s h = zero-*ℤ s.upper
most_upper (pos (suc n)) s h = refl
most_upper (negsuc n) s h = absurd (omega (arith, ints))

-- ---- one place of a list

pub coef_at : (r : List ℤ) (i : ℕ) → all_within 100 r ≡ true → nat_abs (get_or r i (pos 0)) ≤ 100
coef_at [] i h = omega arith
coef_at (a ∷ r) zero h = leb-true _ _ (and_parts (within 100 a) (all_within 100 r) h).0
coef_at (a ∷ r) (suc i) h = coef_at r i (and_parts (within 100 a) (all_within 100 r) h).1

pub span_at : (ss : List Span) (i : ℕ) → spans_proper ss ≡ true → span_proper (get_or ss i nowhere) ≡ true
span_at [] i h = refl
span_at (s ∷ ss) zero h = (and_parts (span_proper s) (spans_proper ss) h).0
span_at (s ∷ ss) (suc i) h = span_at ss i (and_parts (span_proper s) (spans_proper ss) h).1

-- the same of an item that stands there
pub coef_is : (r : List ℤ) (i : ℕ) (a : ℤ) → a ≡ get_or r i (pos 0) → all_within 100 r ≡ true → nat_abs a ≤ 100
coef_is r i a e h = rw e (coef_at r i h)

pub span_is : (ss : List Span) (i : ℕ) (s : Span) → s ≡ get_or ss i nowhere → spans_proper ss ≡ true → span_proper s ≡ true
span_is ss i s e h = rw e (span_at ss i h)

-- ---- one term more

pub least_next : (r : List ℤ) (ss : List Span) (i : ℕ) → i < length r → i < length ss
    → least (drop i r) (drop i ss) ≡ fewest (get_or r i (pos 0)) (get_or ss i nowhere) +ℤ least (drop (i + 1) r) (drop (i + 1) ss)
least_next r ss i h k = rw (drop_more r i (pos 0) h, drop_more ss i nowhere k)

pub greatest_next : (r : List ℤ) (ss : List Span) (i : ℕ) → i < length r → i < length ss
    → greatest (drop i r) (drop i ss) ≡ most (get_or r i (pos 0)) (get_or ss i nowhere) +ℤ greatest (drop (i + 1) r) (drop (i + 1) ss)
greatest_next r ss i h k = rw (drop_more r i (pos 0) h, drop_more ss i nowhere k)

-- the sums so far and the terms of the rest, where a pair of items more was taken
module _ (r : List ℤ) (ss : List Span) (i : ℕ) (a : ℤ) (s : Span) (h : i < length r) (k : i < length ss) (e : a ≡ get_or r i (pos 0)) (f : s ≡ get_or ss i nowhere) (x t : ℤ) where
  pub least_more : t ≡ fewest a s → x +ℤ least (drop i r) (drop i ss) ≡ least r ss → (x +ℤ t) +ℤ least (drop (i + 1) r) (drop (i + 1) ss) ≡ least r ss
  least_more p q = let d = least_next r ss i h k in let n : t ≡ fewest (get_or r i (pos 0)) (get_or ss i nowhere) = p ∙ ap (λ (z : ℤ). fewest z s) e ∙ ap (fewest (get_or r i (pos 0))) f in omega (arith, ints)

  pub greatest_more : t ≡ most a s → x +ℤ greatest (drop i r) (drop i ss) ≡ greatest r ss → (x +ℤ t) +ℤ greatest (drop (i + 1) r) (drop (i + 1) ss) ≡ greatest r ss
  greatest_more p q = let d = greatest_next r ss i h k in let n : t ≡ most (get_or r i (pos 0)) (get_or ss i nowhere) = p ∙ ap (λ (z : ℤ). most z s) e ∙ ap (most (get_or r i (pos 0))) f in omega (arith, ints)
