-- Boxes, their halves and their points.
use Rattle.std.proofs.Common.{◌≡◌, ℕ, zero, suc, ◌+◌, ◌*◌, ◌<◌, ◌≤◌, true, ◌⊎◌, List, [], ◌∷◌, length, get_or, ℤ, pos, ◌+ℤ◌, nat_abs, ◌≤ℤ◌, ◌<ℤ◌, refl, ap, inl, inr, ⊎_elim, mul-pos, arith}
use mathlib.Core.Bool.{false≢true}
use lib.Signed.{le_z, lt_z, ≤ℤ_refl}
use borrow.Author.Differences.{ints}
use Rattle.problems.specs.declared.quantity.Span.{Span}
use Rattle.problems.specs.declared.quantity.RowEnds.{RowEnds}
use Rattle.problems.specs.Box.{Box, Above, Below, Inside, Kept, width, points, splits, low, high, lower_half, upper_half, nowhere, no_ends, Proper}
use Rattle.problems.specs.Ranges.{spans_proper}
use Rattle.problems.proofs.Propers.{Spans, spans_from, spans_to}
use Rattle.std.proofs.lemmas.Bool.{and_parts}
use Rattle.problems.proofs.Tests.{le_z_true, lt_z_true}

-- ---- a plan meets every end

pub inside_at : (ss : List Span) (x : List ℤ) → Inside ss x → (i : ℕ) → ((get_or ss i nowhere).lower ≤ℤ get_or x i (pos 0)) × (get_or x i (pos 0) ≤ℤ (get_or ss i nowhere).upper)
inside_at [] [] h i = (≤ℤ_refl (pos 0), ≤ℤ_refl (pos 0))
inside_at [] (x ∷ xs) h i = absurd h
inside_at (s ∷ ss) [] h i = absurd h
inside_at (s ∷ ss) (x ∷ xs) h zero = (h.0, h.1)
inside_at (s ∷ ss) (x ∷ xs) h (suc i) = inside_at ss xs h.2 i

pub kept_at : (es : List RowEnds) (v : List ℤ) → Kept es v → (i : ℕ) → Above (get_or es i no_ends).lower (get_or v i (pos 0)) × Below (get_or es i no_ends).upper (get_or v i (pos 0))
kept_at [] [] h i = (tt, tt)
kept_at [] (x ∷ xs) h i = absurd h
kept_at (e ∷ es) [] h i = absurd h
kept_at (e ∷ es) (x ∷ xs) h zero = (h.0, h.1)
kept_at (e ∷ es) (x ∷ xs) h (suc i) = kept_at es xs h.2 i

-- ---- halves

pub split_here : (k : ℤ) (s : Span) (ss : List Span) → splits zero k (s ∷ ss) ≡ true → (s.lower ≤ℤ k) × (k <ℤ s.upper)
split_here k s ss h = let p = and_parts (le_z s.lower k) (lt_z k s.upper) h in (le_z_true _ _ p.0, lt_z_true _ _ p.1)

pub low_lower : (v : ℕ) (k : ℤ) (ss : List Span) (i : ℕ) → (get_or (low v k ss) i nowhere).lower ≡ (get_or ss i nowhere).lower
low_lower v k [] i = refl
low_lower zero k (s ∷ ss) zero = refl
low_lower zero k (s ∷ ss) (suc i) = refl
low_lower (suc v) k (s ∷ ss) zero = refl
low_lower (suc v) k (s ∷ ss) (suc i) = low_lower v k ss i

pub low_upper : (v : ℕ) (k : ℤ) (ss : List Span) (i : ℕ) → ((get_or (low v k ss) i nowhere).upper ≡ (get_or ss i nowhere).upper) ⊎ ((i ≡ v) × ((get_or (low v k ss) i nowhere).upper ≡ k))
low_upper v k [] i = inl refl
low_upper zero k (s ∷ ss) zero = inr (refl, refl)
low_upper zero k (s ∷ ss) (suc i) = inl refl
low_upper (suc v) k (s ∷ ss) zero = inl refl
low_upper (suc v) k (s ∷ ss) (suc i) = ⊎_elim inl (λ p. inr (ap suc p.0, p.1)) (low_upper v k ss i)

pub high_upper : (v : ℕ) (k : ℤ) (ss : List Span) (i : ℕ) → (get_or (high v k ss) i nowhere).upper ≡ (get_or ss i nowhere).upper
high_upper v k [] i = refl
high_upper zero k (s ∷ ss) zero = refl
high_upper zero k (s ∷ ss) (suc i) = refl
high_upper (suc v) k (s ∷ ss) zero = refl
high_upper (suc v) k (s ∷ ss) (suc i) = high_upper v k ss i

pub high_lower : (v : ℕ) (k : ℤ) (ss : List Span) (i : ℕ) → ((get_or (high v k ss) i nowhere).lower ≡ (get_or ss i nowhere).lower) ⊎ ((i ≡ v) × ((get_or (high v k ss) i nowhere).lower ≡ k +ℤ pos 1))
high_lower v k [] i = inl refl
high_lower zero k (s ∷ ss) zero = inr (refl, refl)
high_lower zero k (s ∷ ss) (suc i) = inl refl
high_lower (suc v) k (s ∷ ss) zero = inl refl
high_lower (suc v) k (s ∷ ss) (suc i) = ⊎_elim inl (λ p. inr (ap suc p.0, p.1)) (high_lower v k ss i)

-- a half lies within the box
pub low_inside : (v : ℕ) (k : ℤ) (ss : List Span) (x : List ℤ) → splits v k ss ≡ true → Inside (low v k ss) x → Inside ss x
low_inside v k [] x h i = i
low_inside zero k (s ∷ ss) [] h i = absurd i
low_inside zero k (s ∷ ss) (x ∷ xs) h i = let p = split_here k s ss h in (i.0, omega (arith, ints, p, i.1), i.2)
low_inside (suc v) k (s ∷ ss) [] h i = absurd i
low_inside (suc v) k (s ∷ ss) (x ∷ xs) h i = (i.0, i.1, low_inside v k ss xs h i.2)

pub high_inside : (v : ℕ) (k : ℤ) (ss : List Span) (x : List ℤ) → splits v k ss ≡ true → Inside (high v k ss) x → Inside ss x
high_inside v k [] x h i = i
high_inside zero k (s ∷ ss) [] h i = absurd i
high_inside zero k (s ∷ ss) (x ∷ xs) h i = let p = split_here k s ss h in (omega (arith, ints, p, i.0), i.1, i.2)
high_inside (suc v) k (s ∷ ss) [] h i = absurd i
high_inside (suc v) k (s ∷ ss) (x ∷ xs) h i = (i.0, i.1, high_inside v k ss xs h i.2)

pub length_low : (v : ℕ) (k : ℤ) (ss : List Span) → length (low v k ss) ≡ length ss
length_low v k [] = refl
length_low zero k (s ∷ ss) = refl
length_low (suc v) k (s ∷ ss) = ap suc (length_low v k ss)

pub length_high : (v : ℕ) (k : ℤ) (ss : List Span) → length (high v k ss) ≡ length ss
length_high v k [] = refl
length_high zero k (s ∷ ss) = refl
length_high (suc v) k (s ∷ ss) = ap suc (length_high v k ss)

-- k lies between the ends
between : (k l u : ℤ) → nat_abs l ≤ 100000 → nat_abs u ≤ 100000 → l ≤ℤ k → k ≤ℤ u → nat_abs k ≤ 100000
between k l u hl hu a b = omega (arith, ints)

low_spans : (v : ℕ) (k : ℤ) (ss : List Span) → splits v k ss ≡ true → Spans ss → Spans (low v k ss)
low_spans v k [] h p = p
low_spans zero k (s ∷ ss) h p =
    let q = split_here k s ss h in
    (q.0, p.1, between k s.lower s.upper p.1 p.2 q.0 (omega (arith, ints, q.1)), p.3)
low_spans (suc v) k (s ∷ ss) h p = (p.0, p.1, p.2, low_spans v k ss h p.3)

high_spans : (v : ℕ) (k : ℤ) (ss : List Span) → splits v k ss ≡ true → Spans ss → Spans (high v k ss)
high_spans v k [] h p = p
high_spans zero k (s ∷ ss) h p =
    let q = split_here k s ss h in
    let b : (k +ℤ pos 1) ≤ℤ s.upper = omega (arith, ints, q.1) in
    (b, between (k +ℤ pos 1) s.lower s.upper p.1 p.2 (omega (arith, ints, q.0)) b, p.2, p.3)
high_spans (suc v) k (s ∷ ss) h p = (p.0, p.1, p.2, high_spans v k ss h p.3)

pub low_range : (v : ℕ) (k : ℤ) (ss : List Span) → splits v k ss ≡ true → spans_proper ss ≡ true → spans_proper (low v k ss) ≡ true
low_range v k ss h p = spans_to _ (low_spans v k ss h (spans_from _ p))

pub high_range : (v : ℕ) (k : ℤ) (ss : List Span) → splits v k ss ≡ true → spans_proper ss ≡ true → spans_proper (high v k ss) ≡ true
high_range v k ss h p = spans_to _ (high_spans v k ss h (spans_from _ p))

pub low_proper : (rows : List (List ℤ)) (v : ℕ) (k : ℤ) (box : Box) → splits v k box.vars ≡ true → Proper rows box → Proper rows (lower_half v k box)
low_proper rows v k box h p =
    let e = length_low v k box.vars in
    record {
      a_variable = rw e p.a_variable;
      few_variables = rw e p.few_variables;
      few_rows = p.few_rows;
      ends_of_rows = p.ends_of_rows;
      coefficients = rw e p.coefficients;
      spans = low_range v k box.vars h p.spans;
      row_spans = p.row_spans;
    }

pub high_proper : (rows : List (List ℤ)) (v : ℕ) (k : ℤ) (box : Box) → splits v k box.vars ≡ true → Proper rows box → Proper rows (upper_half v k box)
high_proper rows v k box h p =
    let e = length_high v k box.vars in
    record {
      a_variable = rw e p.a_variable;
      few_variables = rw e p.few_variables;
      few_rows = p.few_rows;
      ends_of_rows = p.ends_of_rows;
      coefficients = rw e p.coefficients;
      spans = high_range v k box.vars h p.spans;
      row_spans = p.row_spans;
    }

-- ---- points

pub points_split : (v : ℕ) (k : ℤ) (ss : List Span) → splits v k ss ≡ true → points ss ≡ points (low v k ss) + points (high v k ss)
points_split v k [] h = absurd (false≢true h)
points_split zero k (s ∷ ss) h =
    let p = split_here k s ss h in
    let w : width s ≡ width (record { lower = s.lower; upper = k }) + width (record { lower = k +ℤ pos 1; upper = s.upper }) = omega (arith, ints) in
    omega (arith, ap (λ n. n * points ss) w)
points_split (suc v) k (s ∷ ss) h = omega (arith, ap (λ n. width s * n) (points_split v k ss h))

points_in : (ss : List Span) → Spans ss → 0 < points ss
points_in [] f = omega arith
points_in (s ∷ ss) f = mul-pos (omega (arith, ints, f.0)) (points_in ss f.3)

pub some_points : (ss : List Span) → spans_proper ss ≡ true → 0 < points ss
some_points ss h = points_in ss (spans_from ss h)
