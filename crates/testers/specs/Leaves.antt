-- A lawful leaf rules out every point that meets the ends it uses.
use Rattle.std.specs.Prelude.{◌≡◌, ℕ, zero, suc, ◌/◌, ◌%◌, ◌<◌, ◌≤◌, Bool, true, false, cond, not, ◌&&◌, ◌||◌, List, [], ◌∷◌, length, get_or, drop, ℤ, pos, negsuc, ◌+ℤ◌, ◌-ℤ◌, ◌*ℤ◌, neg_ℤ, ◌≤ℤ◌, ◌<ℤ◌, Some, None, Option, ◌≢◌, nat_le, nat_lt, slice_index_or, refl}
use Rattle.std.proofs.Common.{sym, ◌∙◌, ap, true≢false, ⊎_elim, arith, refl}
use Rattle.std.proofs.lemmas.Bool.{false≢true, and_from, and_parts, eq-eqb, eqb-true, leb-true, or_cases}
use Rattle.std.proofs.Math.IntN.{zero-*ℤ}
use Rattle.std.specs.Int.{int_div_euclid}
use Rattle.std.proofs.lemmas.Int.{by_lt_z, ints}
use Rattle.testers.specs.Ring.{out, mul_mono, mul_anti, mul_add, mul_neg, lin}
use Rattle.testers.specs.Dots.{cancels, dot_cons, get_or_drop_one, at_values}
use Rattle.problems.specs.declared.quantity.Span.{Span}
use Rattle.problems.specs.declared.quantity.RowEnds.{RowEnds}
use Rattle.problems.specs.declared.quantity.Side.{Side}
use Rattle.problems.specs.declared.quantity.Side.TheVariants.{Lower, Upper}
use Rattle.problems.specs.Whole.{is_zero, positive, negative, divides}
use Rattle.problems.specs.Rows.{dot, values, add, comb}
use Rattle.problems.specs.Box.{Box, Above, Below, nowhere, no_ends}
use Rattle.problems.specs.Ranges.{rows_proper}
use Rattle.problems.proofs.Propers.{row_length}
use Rattle.testers.specs.Leaf.{Leaf, Uses, all_zero, most, variables_total, times, most_row, plus, rows_total, sum_below_zero, sum_lawful, fixed, divides_free, fixed_part, no_multiple, misses, divisor_lawful, formed, lawful, by_sign, by_fixed, uses}
use Rattle.testers.specs.Leaf.Leaf.{sum, divisor}
use Rattle.problems.proofs.Tests.{by_bool, eq_z_true, lt_z_true, zero_is}

-- the point meets the flagged ends
pub record MeetsVars (f : Side → ℕ → Bool) (ss : List Span) (x : List ℤ) : Type 0 where
  pub from : (i : ℕ) → f Lower i ≡ true → (get_or ss i nowhere).lower ≤ℤ slice_index_or x i (pos 0)
  pub to : (i : ℕ) → f Upper i ≡ true → slice_index_or x i (pos 0) ≤ℤ (get_or ss i nowhere).upper

pub record MeetsRows (f : Side → ℕ → Bool) (es : List RowEnds) (v : List ℤ) : Type 0 where
  pub from : (i : ℕ) → f Lower i ≡ true → Above (get_or es i no_ends).lower (slice_index_or v i (pos 0))
  pub to : (i : ℕ) → f Upper i ≡ true → Below (get_or es i no_ends).upper (slice_index_or v i (pos 0))

tail_vars : (y : ℤ) (ys : List ℤ) (ss : List Span) (x : List ℤ) → MeetsVars (by_sign (y ∷ ys)) ss x → MeetsVars (by_sign ys) (drop 1 ss) (drop 1 x)
tail_vars y ys ss x m =
    record {
      from = λ i h. rw (get_or_drop_one ss i nowhere, get_or_drop_one x i (pos 0)) (m.from (suc i) h);
      to = λ i h. rw (get_or_drop_one ss i nowhere, get_or_drop_one x i (pos 0)) (m.to (suc i) h);
    }

most_is : (y : ℤ) (s : Span) (x : ℤ) → (negative y ≡ true → s.lower ≤ℤ x) → (positive y ≡ true → x ≤ℤ s.upper) → (y *ℤ x) ≤ℤ most y s
most_is (pos zero) s x l u = omega (arith, ints)
most_is (pos (suc n)) s x l u = mul_mono (suc n) x s.upper (u refl)
most_is (negsuc n) s x l u = mul_anti n s.lower x (l refl)

total_nil : (ys : List ℤ) → variables_total ys [] ≡ pos 0
total_nil [] = refl
total_nil (y ∷ ys) = refl

total_cons : (y : ℤ) (ys : List ℤ) (ss : List Span) → variables_total (y ∷ ys) ss ≡ most y (slice_index_or ss 0 nowhere) +ℤ variables_total ys (drop 1 ss)
total_cons y ys (s ∷ ss) = refl
total_cons (pos zero) ys [] = omega (arith, ints, total_nil ys)
total_cons (pos (suc n)) ys [] = omega (arith, ints, total_nil ys)
total_cons (negsuc n) ys [] = omega (arith, ints, total_nil ys)

pub vars_bound : (ys : List ℤ) (ss : List Span) (x : List ℤ) → MeetsVars (by_sign ys) ss x → dot ys x ≤ℤ variables_total ys ss
vars_bound [] ss x m = omega (arith, ints)
vars_bound (y ∷ ys) ss x m =
    omega (
      arith,
      lin,
      dot_cons y ys x,
      total_cons y ys ss,
      most_is y (slice_index_or ss 0 nowhere) (slice_index_or x 0 (pos 0)) (m.from 0) (m.to 0),
      vars_bound ys (drop 1 ss) (drop 1 x) (tail_vars y ys ss x m),
    )

-- ---- rows

none_is : {A : Type 0} (a : A) → None ≢ Some a
none_is a e = let z : ◌≡◌ {A = ℕ} 0 1 = cc in omega arith

some_is : {A : Type 0} (a b : A) → Some a ≡ Some b → a ≡ b
some_is a b e = cc

tail_rows : (z : ℤ) (zs : List ℤ) (e : RowEnds) (es : List RowEnds) (v : List ℤ) → MeetsRows (by_sign (z ∷ zs)) (e ∷ es) v → MeetsRows (by_sign zs) es (drop 1 v)
tail_rows z zs e es v m =
    record { from = λ i h. rw (get_or_drop_one v i (pos 0)) (m.from (suc i) h); to = λ i h. rw (get_or_drop_one v i (pos 0)) (m.to (suc i) h) }

up_is : (n : ℕ) (o : Option ℤ) (x t : ℤ) → Below o x → times (pos (suc n)) o ≡ Some t → (pos (suc n) *ℤ x) ≤ℤ t
up_is n None x t w h = absurd (none_is t h)
up_is n (Some u) x t w h = rw (some_is _ _ h) at (mul_mono (suc n) x u w)

down_is : (n : ℕ) (o : Option ℤ) (x t : ℤ) → Above o x → times (negsuc n) o ≡ Some t → (negsuc n *ℤ x) ≤ℤ t
down_is n None x t w h = absurd (none_is t h)
down_is n (Some u) x t w h = rw (some_is _ _ h) at (mul_anti n u x w)

most_row_is : (z : ℤ) (e : RowEnds) (x t : ℤ) → (negative z ≡ true → Above e.lower x) → (positive z ≡ true → Below e.upper x) → most_row z e ≡ Some t → (z *ℤ x) ≤ℤ t
most_row_is (pos zero) e x t l u h = let k : pos 0 ≡ t = some_is _ _ h in omega (arith, ints)
most_row_is (pos (suc n)) e x t l u h = up_is n e.upper x t (u refl) h
most_row_is (negsuc n) e x t l u h = down_is n e.lower x t (l refl) h

plus_is : (a b : Option ℤ) (t : ℤ) → plus a b ≡ Some t → (p : ℤ) × (q : ℤ) × (a ≡ Some p) × (b ≡ Some q) × (t ≡ p +ℤ q)
plus_is None b t h = absurd (none_is t h)
plus_is (Some a) None t h = absurd (none_is t h)
plus_is (Some a) (Some b) t h = (a, b, refl, refl, sym (some_is _ _ h))

pub rows_bound : (zs : List ℤ) (es : List RowEnds) (v : List ℤ) (t : ℤ) → MeetsRows (by_sign zs) es v → rows_total zs es ≡ Some t → dot zs v ≤ℤ t
rows_bound [] es v t m h = let k : pos 0 ≡ t = some_is _ _ h in omega (arith, ints)
rows_bound (z ∷ zs) [] v t m h = absurd (none_is t h)
rows_bound (z ∷ zs) (e ∷ es) v t m h =
    let s = plus_is (most_row z e) (rows_total zs es) t h in
    omega (
      arith,
      lin,
      dot_cons z zs v,
      most_row_is z e (slice_index_or v 0 (pos 0)) s.0 (m.from 0) (m.to 0) s.2,
      rows_bound zs es (drop 1 v) s.1 (tail_rows z zs e es v m) s.3,
      s.4,
    )

-- a point meets the ends that a leaf uses
pub record Meets (u : Uses) (rows : List (List ℤ)) (box : Box) (x : List ℤ) : Type 0 where
  pub in_vars : MeetsVars u.vars box.vars x
  pub in_rows : MeetsRows u.rows box.rows (values rows x)

below_is : (s : ℤ) (o : Option ℤ) → sum_below_zero s o ≡ true → (t : ℤ) × (o ≡ Some t) × ((s +ℤ t) <ℤ pos 0)
below_is s None h = absurd (false≢true h)
below_is s (Some t) h = (t, refl, lt_z_true (s +ℤ t) (pos 0) h)

sum_refutes : (rows : List (List ℤ)) (box : Box) (ys zs : List ℤ) → sum_lawful rows box ys zs ≡ true → (x : List ℤ) → Meets (uses rows box (sum ys zs)) rows box x → ⊥
sum_refutes rows box ys zs h x m =
    let p = and_parts (all_zero (add ys (comb zs rows))) (sum_below_zero (variables_total ys box.vars) (rows_total zs box.rows)) h in
    let b = below_is (variables_total ys box.vars) (rows_total zs box.rows) p.1 in
    omega (arith, lin, cancels ys zs rows p.0 x, vars_bound ys box.vars x m.in_vars, rows_bound zs box.rows (values rows x) b.0 m.in_rows b.1, b.2)

-- ---- divisors

abbrev Same : ℤ → ℤ → ℤ → Type 0
Same d f m = d ≡ f +ℤ m

divides_is : (g : ℕ) (a : ℤ) → divides g a ≡ true → (q : ℤ) × (a ≡ pos g *ℤ q)
divides_is g (pos n) h = (pos (n / g), let e = eqb-true (n % g) 0 h in omega (arith, ints))
divides_is g (negsuc n) h = (neg_ℤ (pos (suc n / g)), let e = eqb-true (suc n % g) 0 h in omega (arith, ints, mul_neg (pos g) (pos (suc n / g))))

in_fixed : (a x l d f m : ℤ) → x ≡ l → d ≡ f +ℤ m → a *ℤ x +ℤ d ≡ (a *ℤ l +ℤ f) +ℤ m
in_fixed a x l d f m e h = rw e (omega (arith, lin))

in_free : (a x g q d f r : ℤ) → a ≡ g *ℤ q → d ≡ f +ℤ g *ℤ r → a *ℤ x +ℤ d ≡ (pos 0 +ℤ f) +ℤ g *ℤ (q *ℤ x +ℤ r)
in_free a x g q d f r e h = rw e (simp out (omega (arith, lin)))

in_zero : (a x l d f m : ℤ) → a ≡ pos 0 → d ≡ f +ℤ m → a *ℤ x +ℤ d ≡ (a *ℤ l +ℤ f) +ℤ m
in_zero a x l d f m e h = rw e (omega (arith, lin, zero-*ℤ x, zero-*ℤ l))

tail_fixed : (a : ℤ) (av : List ℤ) (s : Span) (ss : List Span) (x : List ℤ) → MeetsVars (by_fixed (a ∷ av) (s ∷ ss)) (s ∷ ss) x → MeetsVars (by_fixed av ss) ss (drop 1 x)
tail_fixed a av s ss x m =
    record { from = λ i h. rw (get_or_drop_one x i (pos 0)) (m.from (suc i) h); to = λ i h. rw (get_or_drop_one x i (pos 0)) (m.to (suc i) h) }

abbrev Parts : ℕ → List ℤ → List Span → List ℤ → Type 0
Parts g av ss x = (q : ℤ) × (dot av x ≡ fixed_part av ss +ℤ pos g *ℤ q)

when_fixed : (a : ℤ) (av : List ℤ) (s : Span) (ss : List Span) → fixed s ≡ true → fixed_part (a ∷ av) (s ∷ ss) ≡ a *ℤ s.lower +ℤ fixed_part av ss
when_fixed a av s ss y = ap (λ b. cond b (a *ℤ s.lower) (pos 0) +ℤ fixed_part av ss) y

when_free : (a : ℤ) (av : List ℤ) (s : Span) (ss : List Span) → fixed s ≡ false → fixed_part (a ∷ av) (s ∷ ss) ≡ pos 0 +ℤ fixed_part av ss
when_free a av s ss n = ap (λ b. cond b (a *ℤ s.lower) (pos 0) +ℤ fixed_part av ss) n

more_parts : (g : ℕ) (a : ℤ) (av : List ℤ) (s : Span) (ss : List Span) (x : List ℤ) → (fixed s || divides g a) ≡ true
    → MeetsVars (by_fixed (a ∷ av) (s ∷ ss)) (s ∷ ss) x → Parts g av ss (drop 1 x) → Parts g (a ∷ av) (s ∷ ss) x
more_parts g a av s ss x h m r =
    by_bool (fixed s)
    (λ y. by_bool (is_zero a)
    (λ z. (r.0, dot_cons a av x ∙ in_zero a (slice_index_or x 0 (pos 0)) s.lower _ _ _ (zero_is a z) r.1 ∙ ap (λ f. f +ℤ pos g *ℤ r.0) (sym (when_fixed a av s ss y))))
    (λ z. let e = eq_z_true s.lower s.upper y in
    let b : by_fixed (a ∷ av) (s ∷ ss) Lower 0 ≡ true = and_from _ _ y (ap not z) in
    let f = m.from 0 b in
    let t = m.to 0 b in
    let k : get_or x 0 (pos 0) ≡ s.lower = omega (arith, ints) in
    (r.0, dot_cons a av x ∙ in_fixed a (slice_index_or x 0 (pos 0)) s.lower _ _ _ k r.1 ∙ ap (λ f. f +ℤ pos g *ℤ r.0) (sym (when_fixed a av s ss y)))))
    (λ n. let d = divides_is g a (⊎_elim (λ y. absurd (true≢false (sym y ∙ n))) (λ y. y) (or_cases (fixed s) (divides g a) h)) in (
      d.0 *ℤ slice_index_or x 0 (pos 0) +ℤ r.0,
      dot_cons a av x ∙ in_free a (slice_index_or x 0 (pos 0)) (pos g) d.0 _ _ r.0 d.1 r.1 ∙ ap (λ f. f +ℤ pos g *ℤ (d.0 *ℤ slice_index_or x 0 (pos 0) +ℤ r.0)) (sym (when_free a av s ss n)),
    ))

parts : (g : ℕ) (av : List ℤ) (ss : List Span) (x : List ℤ) → length av ≡ length ss → divides_free g av ss ≡ true → MeetsVars (by_fixed av ss) ss x → Parts g av ss x
parts g [] ss x l h m = (pos 0, omega (arith, ints))
parts g (a ∷ av) [] x l h m = absurd (omega arith)
parts g (a ∷ av) (s ∷ ss) x l h m =
    let p = and_parts (fixed s || divides g a) (divides_free g av ss) h in
    more_parts g a av s ss x p.0 m (parts g av ss (drop 1 x) (omega arith) p.1 (tail_fixed a av s ss x m))

-- the floor of a quotient
pub floor : (a : ℤ) (n : ℕ) → ((pos (suc n) *ℤ int_div_euclid a (pos (suc n))) ≤ℤ a) × (a <ℤ (pos (suc n) *ℤ (int_div_euclid a (pos (suc n)) +ℤ pos 1)))
floor (pos a) n = omega (arith, ints)
floor (negsuc a) n = omega (arith, ints, mul_add (pos (suc n)) (negsuc (a / suc n)) (pos 1))

-- no multiple of g lies from l to u
pub gap : (g : ℕ) (l u : ℤ) → 2 ≤ g → no_multiple g l u ≡ true → (q : ℤ) → l ≤ℤ (pos g *ℤ q) → (pos g *ℤ q) ≤ℤ u → ⊥
gap zero l u two h q a b = absurd (omega arith)
gap (suc n) l u two h q a b =
    let m = int_div_euclid u (pos (suc n)) in
    let k = lt_z_true (pos (suc n) *ℤ m) l h in
    let f = floor u n in
    by_lt_z m q (λ lt. let le : (m +ℤ pos 1) ≤ℤ q = omega (arith, lin) in omega (arith, lin, mul_mono (suc n) (m +ℤ pos 1) q le))
    (λ le. omega (arith, lin, mul_mono (suc n) q m le))

misses_is : (g : ℕ) (f d : ℤ) (lo up : Option ℤ) (q : ℤ) → misses g f lo up ≡ true → d ≡ f +ℤ pos g *ℤ q → Above lo d → Below up d → ⊥
misses_is g f d None up q h e a b = false≢true h
misses_is g f d (Some l) None q h e a b = false≢true h
misses_is g f d (Some l) (Some u) q h e a b =
    let p = and_parts (nat_le 2 g) _ h in
    gap g (l -ℤ f) (u -ℤ f) (leb-true 2 g p.0) p.1 q (omega (arith, lin)) (omega (arith, lin))

divisor_refutes : (rows : List (List ℤ)) (box : Box) (i g : ℕ) → rows_proper (length box.vars) rows ≡ true → i < length rows → divisor_lawful rows box i g ≡ true
    → (x : List ℤ) → Meets (uses rows box (divisor i g)) rows box x → ⊥
divisor_refutes rows box i g lists k h x m =
    let p = and_parts (divides_free g (slice_index_or rows i []) box.vars) _ h in
    let e = get_or box.rows i no_ends in
    let r = parts g (slice_index_or rows i []) box.vars x (row_length _ rows i lists k) p.0 m.in_vars in
    let v = at_values rows x i in
    misses_is g _ (slice_index_or (values rows x) i (pos 0)) e.lower e.upper r.0 p.1 (v ∙ r.1) (m.in_rows.from i (eq-eqb i i refl)) (m.in_rows.to i (eq-eqb i i refl))

-- a lawful leaf rules out every point that meets the ends it uses
pub leaf_refutes : (rows : List (List ℤ)) (box : Box) (l : Leaf) → rows_proper (length box.vars) rows ≡ true → (formed rows box l && lawful rows box l) ≡ true
    → (x : List ℤ) → Meets (uses rows box l) rows box x → ⊥
leaf_refutes rows box (sum ys zs) lists h x m = sum_refutes rows box ys zs (and_parts (formed rows box (sum ys zs)) _ h).1 x m
leaf_refutes rows box (divisor i g) lists h x m =
    let p = and_parts (formed rows box (divisor i g)) (divisor_lawful rows box i g) h in
    let q = and_parts (nat_lt i (length rows) && nat_le 2 g) (nat_le g 255) p.0 in
    let r = and_parts (nat_lt i (length rows)) (nat_le 2 g) q.0 in
    divisor_refutes rows box i g lists (leb-true (suc i) (length rows) r.0) p.1 x m
