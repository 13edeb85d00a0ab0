-- The halving tester keeps the laws.
use Rattle.std.specs.Prelude.{◌≡◌, ℕ, zero, suc, ◌+◌, ◌<◌, ◌≤◌, Bool, true, false, cond, ◌&&◌, ◌⊎◌, List, [], ◌∷◌, length, get_or, drop, ℤ, pos, negsuc, ◌+ℤ◌, ◌*ℤ◌, neg_ℤ, ◌≤ℤ◌, ◌<ℤ◌, Some, None, Option, ◌≢◌, int_lt, slice_index_or, unsigned_abs, refl}
use Rattle.std.proofs.Common.{sym, ◌∙◌, ap, subst, true≢false, inl, inr, ⊎_elim, arith, le_of_suc-le-suc, not-suc-le-zero, one-mul}
use Rattle.std.proofs.lemmas.Bool.{false≢true, and_from, and_parts, cond_both, eq-eqb, le-leb}
use Rattle.std.proofs.Math.IntN.{zero-*ℤ}
use Rattle.std.specs.Int.Signed.{≤ℤ_refl}
use Rattle.std.specs.Int.{int_div_euclid}
use Rattle.std.proofs.lemmas.Int.{by_lt_z, ints}
use Rattle.testers.specs.Ring.{lin, neg_mul}
use Rattle.testers.specs.Dots.{dot_add, dot_scale, dot_comb, dot_nil, dot_cons, get_or_drop_one, at_values}
use Rattle.testers.specs.Leaves.{floor}
use Rattle.problems.specs.declared.quantity.Span.{Span}
use Rattle.problems.specs.declared.quantity.RowEnds.{RowEnds}
use Rattle.problems.specs.Whole.{all_within}
use Rattle.problems.specs.Rows.{dot, add, scale, comb, values}
use Rattle.problems.specs.Box.{Box, Above, Below, Inside, Kept, splits, nowhere, no_ends, Proper}
use Rattle.problems.specs.Ranges.{spans_proper}
use Rattle.problems.proofs.Propers.{Coefs, RowLists, Spans, rows_from, spans_from, row_length}
use Rattle.testers.specs.Leaf.{Leaf, all_zero, most, variables_total, times, most_row, plus, rows_total, sum_below_zero, fixed, formed, lawful}
use Rattle.testers.specs.Leaf.Leaf.{sum}
use Rattle.testers.specs.Tester.{Answer, LawfulAnswer, KeepsLaws}
use Rattle.testers.specs.Tester.Answer.{point, split}
use Rattle.testers.specs.Halving.{greatest, fewest, least, exceeds, falls_short, single, failing, row_check, size, widest, middle_split, all_fixed, lowers, unless, halving}
use Rattle.problems.proofs.Tests.{by_bool, eq_z_true, eq_z_false, eq_z_is, lt_z_true, lt_z_false, lt_z_is, le_z_is}

-- ---- a row's leaf

-- what is 0 at every point has no coefficient
pub identically : (c : List ℤ) → ((x : List ℤ) → dot c x ≡ pos 0) → all_zero c ≡ true
identically [] h = refl
identically (a ∷ av) h =
    and_from _ _ (eq_z_is a (pos 0) (omega (arith, ints, h (pos 1 ∷ []), dot_nil av))) (identically av (λ x. omega (arith, ints, h (pos 0 ∷ x))))

dot_none : (m : ℕ) (v : List ℤ) → dot (single m zero (pos 0)) v ≡ pos 0
dot_none zero v = refl
dot_none (suc m) v = omega (arith, lin, dot_cons (pos 0) (single m zero (pos 0)) v, zero-*ℤ (slice_index_or v 0 (pos 0)), dot_none m (drop 1 v))

pub dot_single : (m i : ℕ) (z : ℤ) (v : List ℤ) → i < m → dot (single m i z) v ≡ z *ℤ slice_index_or v i (pos 0)
dot_single zero i z v h = absurd (not-suc-le-zero h)
dot_single (suc m) zero z v h = omega (arith, lin, dot_cons z (single m zero (pos 0)) v, dot_none m (drop 1 v))
dot_single (suc m) (suc i) z v h =
    let e = ap (λ w. z *ℤ w) (get_or_drop_one v i (pos 0)) in
    omega (arith, lin, dot_cons (pos 0) (single m i z) v, zero-*ℤ (slice_index_or v 0 (pos 0)), dot_single m i z (drop 1 v) (le_of_suc-le-suc h), e)

in_cancel : (w z d : ℤ) → w ≡ neg_ℤ z → (w *ℤ d) +ℤ (z *ℤ d) ≡ pos 0
in_cancel w z d e = rw e (omega (arith, lin, neg_mul z d))

cancelled : (rows : List (List ℤ)) (i : ℕ) (w z : ℤ) → i < length rows → w ≡ neg_ℤ z → all_zero (add (scale w (slice_index_or rows i [])) (comb (single (length rows) i z) rows)) ≡ true
cancelled rows i w z h e =
    identically (add (scale w (slice_index_or rows i [])) (comb (single (length rows) i z) rows)) (λ x.
    let d = dot (slice_index_or rows i []) x in
    let s = dot_single (length rows) i z (values rows x) h ∙ ap (λ t. z *ℤ t) (at_values rows x i) in
    omega (arith, lin, dot_add (scale w (slice_index_or rows i [])) (comb (single (length rows) i z) rows) x, dot_scale w (slice_index_or rows i []) x, dot_comb (single (length rows) i z) rows x, s, in_cancel w z d e))

pub scale_one : (r : List ℤ) → scale (pos 1) r ≡ r
scale_one [] = refl
scale_one (a ∷ r) = let e : pos 1 *ℤ a ≡ a = omega (arith, ints) in ap (λ t. t ∷ scale (pos 1) r) e ∙ ap (λ t. a ∷ t) (scale_one r)

most_turned : (a : ℤ) (s : Span) → most (negsuc 0 *ℤ a) s ≡ neg_ℤ (fewest a s)
most_turned (pos zero) s = omega (arith, ints, zero-*ℤ s.lower)
most_turned (pos (suc n)) s = ap (λ m. most (neg_ℤ (pos m)) s) (one-mul (suc n)) ∙ neg_mul (pos (suc n)) s.lower
most_turned (negsuc n) s = ap (λ m. most (pos m) s) (one-mul (suc n)) ∙ neg_mul (negsuc n) s.upper

total_turned : (r : List ℤ) (ss : List Span) → variables_total (scale (negsuc 0) r) ss ≡ neg_ℤ (least r ss)
total_turned [] ss = refl
total_turned (a ∷ r) [] = refl
total_turned (a ∷ r) (s ∷ ss) = omega (arith, lin, most_turned a s, total_turned r ss)

rows_none : (m : ℕ) (es : List RowEnds) → length es ≡ m → rows_total (single m zero (pos 0)) es ≡ Some (pos 0)
rows_none zero es h = refl
rows_none (suc m) [] h = absurd (omega arith)
rows_none (suc m) (e ∷ es) h = ap (plus (Some (pos 0))) (rows_none m es (omega arith))

rows_single : (m i : ℕ) (z t : ℤ) (es : List RowEnds) → length es ≡ m → i < m → most_row z (slice_index_or es i no_ends) ≡ Some t → rows_total (single m i z) es ≡ Some t
rows_single zero i z t es h k e = absurd (not-suc-le-zero k)
rows_single (suc m) i z t [] h k e = absurd (omega arith)
rows_single (suc m) zero z t (e ∷ es) h k y =
    let s : t +ℤ pos 0 ≡ t = omega (arith, ints) in
    ap (λ a. plus a (rows_total (single m zero (pos 0)) es)) y ∙ ap (plus (Some t)) (rows_none m es (omega arith)) ∙ ap Some s
rows_single (suc m) (suc i) z t (e ∷ es) h k y =
    let s : pos 0 +ℤ t ≡ t = omega (arith, ints) in
    ap (plus (Some (pos 0))) (rows_single m i z t es (omega arith) (le_of_suc-le-suc k) y) ∙ ap Some s

-- ---- its form

pub length_scale : (k : ℤ) (r : List ℤ) → length (scale k r) ≡ length r
length_scale k [] = refl
length_scale k (a ∷ r) = ap suc (length_scale k r)

pub length_single : (m i : ℕ) (z : ℤ) → length (single m i z) ≡ m
length_single zero i z = refl
length_single (suc m) zero z = ap suc (length_single m zero (pos 0))
length_single (suc m) (suc i) z = ap suc (length_single m i z)

pub single_within : (m i : ℕ) (z : ℤ) → unsigned_abs z ≤ 1 → all_within 1000000000 (single m i z) ≡ true
single_within zero i z h = refl
single_within (suc m) zero z h = and_from _ _ (le-leb _ _ (omega arith)) (single_within m zero (pos 0) (omega arith))
single_within (suc m) (suc i) z h = single_within m i z h

turned_within : (r : List ℤ) → Coefs r → all_within 1000000000 (scale (negsuc 0) r) ≡ true
turned_within [] h = refl
turned_within (a ∷ r) h = and_from _ _ (le-leb _ _ (omega (arith, ints, h.0))) (turned_within r h.1)

pub coefs_within : (r : List ℤ) → Coefs r → all_within 1000000000 r ≡ true
coefs_within [] h = refl
coefs_within (a ∷ r) h = and_from _ _ (le-leb _ _ (omega (arith, h.0))) (coefs_within r h.1)

row_coefs : (n : ℕ) (rows : List (List ℤ)) (i : ℕ) → RowLists n rows → Coefs (slice_index_or rows i [])
row_coefs n [] i h = tt
row_coefs n (r ∷ rs) zero h = h.1
row_coefs n (r ∷ rs) (suc i) h = row_coefs n rs i h.2

-- ---- the row check

pub some_same : {A : Type 0} (a b : A) → Some a ≡ Some b → a ≡ b
some_same a b e = cc

pub none_some : {A : Type 0} {B : Type 0} (a : A) → None ≡ Some a → B
none_some a e = let z : ◌≡◌ {A = ℕ} 0 1 = cc in absurd (omega arith)

pub some_none : {A : Type 0} {B : Type 0} (a : A) → Some a ≡ None → B
some_none a e = let z : ◌≡◌ {A = ℕ} 0 1 = cc in absurd (omega arith)

-- the row j past the start is the one that fails
pub record Fails (ss : List Span) (m i : ℕ) (rs : List (List ℤ)) (es : List RowEnds) (l : Leaf) : Type 0 where
  pub at : ℕ
  pub there : at < length rs
  pub how : ((l ≡ sum (scale (negsuc 0) (slice_index_or rs at [])) (single m (i + at) (pos 1))) × (exceeds (least (slice_index_or rs at []) ss) (get_or es at no_ends).upper ≡ true))
      ⊎ ((l ≡ sum (slice_index_or rs at []) (single m (i + at) (negsuc 0))) × (falls_short (greatest (slice_index_or rs at []) ss) (get_or es at no_ends).lower ≡ true))

fails_later : (ss : List Span) (m i : ℕ) (r : List ℤ) (rs : List (List ℤ)) (e : RowEnds) (es : List RowEnds) (l : Leaf) → Fails ss m (suc i) rs es l → Fails ss m i (r ∷ rs) (e ∷ es) l
fails_later ss m i r rs e es l f =
    let k : suc i + f.at ≡ i + suc f.at = omega arith in
    record {
      at = suc f.at;
      there = let h = f.there in omega arith;
      how = ⊎_elim (λ p. inl (p.0 ∙ ap (λ n. sum (scale (negsuc 0) (slice_index_or rs f.at [])) (single m n (pos 1))) k, p.1))
          (λ p. inr (p.0 ∙ ap (λ n. sum (slice_index_or rs f.at []) (single m n (negsuc 0))) k, p.1)) f.how;
    }

found : (ss : List Span) (m i : ℕ) (rs : List (List ℤ)) (es : List RowEnds) (l : Leaf) → failing ss m i rs es ≡ Some l → Fails ss m i rs es l
found ss m i [] es l h = none_some l h
found ss m i (r ∷ rs) [] l h = none_some l h
found ss m i (r ∷ rs) (e ∷ es) l h =
    let z : i ≡ i + 0 = omega arith in
    let over = sum (scale (negsuc 0) r) (single m i (pos 1)) in
    let under = sum r (single m i (negsuc 0)) in
    by_bool (exceeds (least r ss) e.upper)
    (λ y. let g = some_same over l (subst (λ b. cond b (Some over) (cond (falls_short (greatest r ss) e.lower) (Some under) (failing ss m (suc i) rs es)) ≡ Some l) y h) in
    record { at = 0; there = omega arith; how = inl (sym g ∙ ap (λ n. sum (scale (negsuc 0) r) (single m n (pos 1))) z, y) })
    (λ n. let h1 = subst (λ b. cond b (Some over) (cond (falls_short (greatest r ss) e.lower) (Some under) (failing ss m (suc i) rs es)) ≡ Some l) n h in
    by_bool (falls_short (greatest r ss) e.lower)
    (λ y. let g = some_same under l (subst (λ b. cond b (Some under) (failing ss m (suc i) rs es) ≡ Some l) y h1) in
    record { at = 0; there = omega arith; how = inr (sym g ∙ ap (λ n. sum r (single m n (negsuc 0))) z, y) })
    (λ k. fails_later ss m i r rs e es l (found ss m (suc i) rs es l (subst (λ b. cond b (Some under) (failing ss m (suc i) rs es) ≡ Some l) k h1))))

over_total : (t z : ℤ) (u : Option ℤ) → t ≡ neg_ℤ z → exceeds z u ≡ true → (w : ℤ) × (times (pos 1) u ≡ Some w) × ((t +ℤ w) <ℤ pos 0)
over_total t z None e h = absurd (false≢true h)
over_total t z (Some u) e h = let k = lt_z_true u z h in (pos 1 *ℤ u, refl, omega (arith, ints))

under_total : (t : ℤ) (l : Option ℤ) → falls_short t l ≡ true → (w : ℤ) × (times (negsuc 0) l ≡ Some w) × ((t +ℤ w) <ℤ pos 0)
under_total t None h = absurd (false≢true h)
under_total t (Some l) h = let k = lt_z_true t l h in (negsuc 0 *ℤ l, refl, omega (arith, ints))

pub below_by : (s t : ℤ) (o : Option ℤ) → o ≡ Some t → (s +ℤ t) <ℤ pos 0 → sum_below_zero s o ≡ true
below_by s t o e h = subst (λ p. sum_below_zero s p ≡ true) (sym e) (lt_z_is (s +ℤ t) (pos 0) h)

pub formed_by : (rows : List (List ℤ)) (box : Box) (ys zs : List ℤ) → length ys ≡ length box.vars → length zs ≡ length rows → all_within 1000000000 ys ≡ true → all_within 1000000000 zs ≡ true
    → formed rows box (sum ys zs) ≡ true
formed_by rows box ys zs a b c d = and_from _ _ (and_from _ _ (and_from _ _ (eq-eqb _ _ a) (eq-eqb _ _ b)) c) d

row_check_lawful : (rows : List (List ℤ)) (box : Box) → Proper rows box → (l : Leaf) → row_check rows box ≡ Some l → (formed rows box l && lawful rows box l) ≡ true
row_check_lawful rows box p l h =
    let f = found box.vars (length rows) 0 rows box.rows l h in
    let i = f.at in
    let z : 0 + i ≡ i = omega arith in
    let r = get_or rows i [] in
    let e = get_or box.rows i no_ends in
    let lists = rows_from _ rows p.coefficients in
    let c = row_coefs (length box.vars) rows i lists in
    let n = row_length (length box.vars) rows i p.coefficients f.there in
    ⊎_elim
    (λ q. let w = over_total (variables_total (scale (negsuc 0) r) box.vars) (least r box.vars) e.upper (total_turned r box.vars) q.1 in
    subst (λ (l : Leaf). (formed rows box l && lawful rows box l) ≡ true) (sym (q.0 ∙ ap (λ k. sum (scale (negsuc 0) r) (single (length rows) k (pos 1))) z))
    (and_from _ _
    (formed_by rows box (scale (negsuc 0) r) (single (length rows) i (pos 1)) (length_scale (negsuc 0) r ∙ n) (length_single (length rows) i (pos 1)) (turned_within r c) (single_within (length rows) i (pos 1) (omega arith)))
    (and_from _ _ (cancelled rows i (negsuc 0) (pos 1) f.there refl)
    (below_by _ w.0 _ (rows_single (length rows) i (pos 1) w.0 box.rows p.ends_of_rows f.there w.1) w.2))))
    (λ q. let w = under_total (greatest r box.vars) e.lower q.1 in
    subst (λ (l : Leaf). (formed rows box l && lawful rows box l) ≡ true) (sym (q.0 ∙ ap (λ k. sum r (single (length rows) k (negsuc 0))) z))
    (and_from _ _
    (formed_by rows box r (single (length rows) i (negsuc 0)) n (length_single (length rows) i (negsuc 0)) (coefs_within r c) (single_within (length rows) i (negsuc 0) (omega arith)))
    (and_from _ _ (subst (λ t. all_zero (add t (comb (single (length rows) i (negsuc 0)) rows)) ≡ true) (scale_one r) (cancelled rows i (pos 1) (negsuc 0) f.there refl))
    (below_by _ w.0 _ (rows_single (length rows) i (negsuc 0) w.0 box.rows p.ends_of_rows f.there w.1) w.2))))
    f.how

-- ---- the point of a fixed box

lowers_inside : (ss : List Span) → Spans ss → Inside ss (lowers ss)
lowers_inside [] h = tt
lowers_inside (s ∷ ss) h = (≤ℤ_refl s.lower, h.0, lowers_inside ss h.3)

fixed_most : (a : ℤ) (s : Span) → fixed s ≡ true → most a s ≡ a *ℤ s.lower
fixed_most (pos zero) s h = omega (arith, ints, zero-*ℤ s.lower)
fixed_most (pos (suc n)) s h = ap (λ t. pos (suc n) *ℤ t) (sym (eq_z_true _ _ h))
fixed_most (negsuc n) s h = refl

fixed_fewest : (a : ℤ) (s : Span) → fixed s ≡ true → fewest a s ≡ a *ℤ s.lower
fixed_fewest (pos n) s h = refl
fixed_fewest (negsuc n) s h = ap (λ t. negsuc n *ℤ t) (sym (eq_z_true _ _ h))

fixed_greatest : (r : List ℤ) (ss : List Span) → all_fixed ss ≡ true → greatest r ss ≡ dot r (lowers ss)
fixed_greatest [] ss h = refl
fixed_greatest (a ∷ r) [] h = refl
fixed_greatest (a ∷ r) (s ∷ ss) h = let p = and_parts (fixed s) _ h in omega (arith, lin, fixed_most a s p.0, fixed_greatest r ss p.1)

fixed_least : (r : List ℤ) (ss : List Span) → all_fixed ss ≡ true → least r ss ≡ dot r (lowers ss)
fixed_least [] ss h = refl
fixed_least (a ∷ r) [] h = refl
fixed_least (a ∷ r) (s ∷ ss) h = let p = and_parts (fixed s) _ h in omega (arith, lin, fixed_fewest a s p.0, fixed_least r ss p.1)

not_over : (z : ℤ) (u : Option ℤ) → exceeds z u ≡ false → Below u z
not_over z None h = tt
not_over z (Some u) h = lt_z_false u z h

not_under : (z : ℤ) (l : Option ℤ) → falls_short z l ≡ false → Above l z
not_under z None h = tt
not_under z (Some l) h = lt_z_false z l h

none_fails : (ss : List Span) (m i : ℕ) (rs : List (List ℤ)) (es : List RowEnds) → all_fixed ss ≡ true → length es ≡ length rs → failing ss m i rs es ≡ None → Kept es (values rs (lowers ss))
none_fails ss m i [] [] f l h = tt
none_fails ss m i [] (e ∷ es) f l h = absurd (omega arith)
none_fails ss m i (r ∷ rs) [] f l h = absurd (omega arith)
none_fails ss m i (r ∷ rs) (e ∷ es) f l h =
    let over = sum (scale (negsuc 0) r) (single m i (pos 1)) in
    let under = sum r (single m i (negsuc 0)) in
    by_bool (exceeds (least r ss) e.upper)
    (λ y. some_none over (subst (λ b. cond b (Some over) (cond (falls_short (greatest r ss) e.lower) (Some under) (failing ss m (suc i) rs es)) ≡ None) y h))
    (λ n. let h1 = subst (λ b. cond b (Some over) (cond (falls_short (greatest r ss) e.lower) (Some under) (failing ss m (suc i) rs es)) ≡ None) n h in
    by_bool (falls_short (greatest r ss) e.lower)
    (λ y. some_none under (subst (λ b. cond b (Some under) (failing ss m (suc i) rs es) ≡ None) y h1))
    (λ k. (
      subst (Above e.lower) (fixed_greatest r ss f) (not_under _ _ k),
      subst (Below e.upper) (fixed_least r ss f) (not_over _ _ n),
      none_fails ss m (suc i) rs es f (omega arith) (subst (λ b. cond b (Some under) (failing ss m (suc i) rs es) ≡ None) k h1),
    )))

-- ---- the middle split

half_in : (l u m : ℤ) → (pos 2 *ℤ m) ≤ℤ (l +ℤ u) → (l +ℤ u) <ℤ (pos 2 *ℤ (m +ℤ pos 1)) → l <ℤ u → (l ≤ℤ m) × (m <ℤ u)
half_in l u m a b h = omega (arith, ints)

half_between : (l u : ℤ) → l <ℤ u → (l ≤ℤ int_div_euclid (l +ℤ u) (pos 2)) × (int_div_euclid (l +ℤ u) (pos 2) <ℤ u)
half_between l u h = let f = floor (l +ℤ u) 1 in half_in l u (int_div_euclid (l +ℤ u) (pos 2)) f.0 f.1 h

pub splits_at : (v : ℕ) (k : ℤ) (ss : List Span) → v < length ss → (get_or ss v nowhere).lower ≤ℤ k → k <ℤ (get_or ss v nowhere).upper → splits v k ss ≡ true
splits_at v k [] h a b = absurd (not-suc-le-zero h)
splits_at zero k (s ∷ ss) h a b = and_from _ _ (le_z_is _ _ a) (lt_z_is _ _ b)
splits_at (suc v) k (s ∷ ss) h a b = splits_at v k ss (le_of_suc-le-suc h) a b

-- a widest variable of the list, counted from i, or the best so far
pub record Widest (all : List Span) (v : ℕ) (s : Span) (ts : List Span) (a : Answer) : Type 0 where
  pub var : ℕ
  pub is_var : var < length all
  pub is_split : a ≡ split var (int_div_euclid ((get_or all var nowhere).lower +ℤ (get_or all var nowhere).upper) (pos 2))
  pub best : size s ≤ℤ size (slice_index_or all var nowhere)
  pub widest_of : (j : ℕ) → j < length ts → size (slice_index_or ts j nowhere) ≤ℤ size (slice_index_or all var nowhere)

widest_is : (all : List Span) (v : ℕ) (s : Span) (i : ℕ) (ts : List Span) → v < length all → slice_index_or all v nowhere ≡ s
    → ((j : ℕ) → j < length ts → (i + j < length all) × (slice_index_or all (i + j) nowhere ≡ slice_index_or ts j nowhere)) → Widest all v s ts (widest v s i ts)
widest_is all v s i [] h e f =
    record {
      var = v;
      is_var = h;
      is_split = ap (λ (t : Span). split v (int_div_euclid (t.lower +ℤ t.upper) (pos 2))) (sym e);
      best = subst (λ t. size s ≤ℤ size t) (sym e) (≤ℤ_refl (size s));
      widest_of = λ j k. absurd (not-suc-le-zero k);
    }
widest_is all v s i (t ∷ ts) h e f =
    let z : i + 0 ≡ i = omega arith in
    let f0 = f 0 (omega arith) in
    let g : (j : ℕ) → j < length ts → (suc i + j < length all) × (slice_index_or all (suc i + j) nowhere ≡ slice_index_or ts j nowhere) =
    λ j k. let y : i + suc j ≡ suc i + j = omega arith in subst (λ n. (n < length all) × (slice_index_or all n nowhere ≡ slice_index_or ts j nowhere)) y (f (suc j) (omega arith)) in
    let P : Bool → Type 0 = λ b. Widest all v s (t ∷ ts) (widest (cond b i v) (cond b t s) (suc i) ts) in
    by_bool (int_lt (size s) (size t))
    (λ y. let w = widest_is all i t (suc i) ts (subst (λ n. n < length all) z f0.0) (subst (λ n. slice_index_or all n nowhere ≡ t) z f0.1) g in
    let lt = lt_z_true (size s) (size t) y in
    let b = w.best in
    subst P (sym y) (record { var = w.var; is_var = w.is_var; is_split = w.is_split; best = omega (arith, lin); widest_of = by_first t ts _ b w.widest_of }))
    (λ n. let w = widest_is all v s (suc i) ts h e g in
    let le = lt_z_false (size s) (size t) n in
    let b = w.best in
    subst P (sym n) (record { var = w.var; is_var = w.is_var; is_split = w.is_split; best = b; widest_of = by_first t ts _ (omega (arith, lin)) w.widest_of }))
  where
    by_first : (t : Span) (ts : List Span) (z : ℤ) → size t ≤ℤ z → ((j : ℕ) → j < length ts → size (slice_index_or ts j nowhere) ≤ℤ z) → (j : ℕ) → j < length (t ∷ ts) → size (slice_index_or (t ∷ ts) j nowhere) ≤ℤ z
    by_first t ts z a b zero k = a
    by_first t ts z a b (suc j) k = b j (le_of_suc-le-suc k)

-- some variable is not fixed
free_one : (ss : List Span) → all_fixed ss ≡ false → Spans ss → (j : ℕ) × (j < length ss) × ((get_or ss j nowhere).lower <ℤ (get_or ss j nowhere).upper)
free_one [] h p = absurd (true≢false h)
free_one (s ∷ ss) h p =
    by_bool (fixed s)
    (λ y. let r = free_one ss (subst (λ b. (b && all_fixed ss) ≡ false) y h) p.3 in (suc r.0, (let k = r.1 in omega arith), r.2))
    (λ n. (0, omega arith, (let k = eq_z_false s.lower s.upper n in strictly s.lower s.upper p.0 k)))
  where
    strictly : (a b : ℤ) → a ≤ℤ b → (a ≢ b) → a <ℤ b
    strictly a b h k = by_lt_z a b (λ lt. lt) (λ le. absurd (k (omega (arith, ints))))

wider_than : (a b : Span) → a.lower <ℤ a.upper → size a ≤ℤ size b → b.lower <ℤ b.upper
wider_than a b h k = omega (arith, ints)

of_all : (s : Span) (ss : List Span) (z : ℤ) → size s ≤ℤ z → ((j : ℕ) → j < length ss → size (slice_index_or ss j nowhere) ≤ℤ z) → (j : ℕ) → j < length (s ∷ ss) → size (slice_index_or (s ∷ ss) j nowhere) ≤ℤ z
of_all s ss z a b zero k = a
of_all s ss z a b (suc j) k = b j (le_of_suc-le-suc k)

pub middle_lawful : (rows : List (List ℤ)) (box : Box) (ss : List Span) → box.vars ≡ ss → all_fixed ss ≡ false → spans_proper ss ≡ true → LawfulAnswer rows box (middle_split ss)
middle_lawful rows box [] e h p = absurd (true≢false h)
middle_lawful rows box (s ∷ ss) e h p =
    let w = widest_is (s ∷ ss) 0 s 1 ss (omega arith) refl (λ j k. let y : suc j ≡ 1 + j = omega arith in subst (λ n. (n < length (s ∷ ss)) × (slice_index_or (s ∷ ss) n nowhere ≡ slice_index_or ss j nowhere)) y (omega arith, refl)) in
    let r = free_one (s ∷ ss) h (spans_from (s ∷ ss) p) in
    let o = wider_than (slice_index_or (s ∷ ss) r.0 nowhere) (slice_index_or (s ∷ ss) w.var nowhere) r.2 (of_all s ss _ w.best w.widest_of r.0 r.1) in
    let m = half_between (get_or (s ∷ ss) w.var nowhere).lower (get_or (s ∷ ss) w.var nowhere).upper o in
    subst (LawfulAnswer rows box) (sym w.is_split) (subst (λ ts. splits w.var (int_div_euclid ((get_or (s ∷ ss) w.var nowhere).lower +ℤ (get_or (s ∷ ss) w.var nowhere).upper) (pos 2)) ts ≡ true) (sym e) (splits_at w.var _ (s ∷ ss) w.is_var m.0 m.1))

-- ---- the tester

pub halving_laws : KeepsLaws halving
halving_laws rows box p = by_check (row_check rows box) refl
  where
    by_check : (o : Option Leaf) → row_check rows box ≡ o → LawfulAnswer rows box (unless o (cond (all_fixed box.vars) (point (lowers box.vars)) (middle_split box.vars)))
    by_check (Some l) e = row_check_lawful rows box p l e
    by_check None e =
        cond_both (all_fixed box.vars) (point (lowers box.vars)) (middle_split box.vars) (LawfulAnswer rows box)
        (λ y. (lowers_inside box.vars (spans_from _ p.spans), none_fails box.vars (length rows) 0 rows box.rows y p.ends_of_rows e))
        (λ n. middle_lawful rows box box.vars refl n p.spans)
