-- Where a quantity is outside its ends and none can help it, its line is a lawful leaf.
use Rattle.std.proofs.Common.{◌≡◌, ℕ, zero, suc, ◌+◌, ◌<◌, Bool, true, false, ◌&&◌, ◌||◌, List, [], ◌∷◌, ◌++◌, map, length, get_or, take, drop, set, ℤ, pos, negsuc, ◌+ℤ◌, ◌*ℤ◌, neg_ℤ, ◌≤ℤ◌, ◌<ℤ◌, Some, None, Option, sym, refl, ap, ◌∙◌, subst, ⊎_elim, true≢false, le_of_suc-le-suc, not-suc-le-zero, arith}
use mathlib.Core.Bool.{false≢true}
use lib.IntN.{*ℤ-zero, zero-*ℤ}
use lib.Signed.{≤ℤ_refl}
use borrow.Author.Differences.{ints}
use Rattle.std.proofs.lemmas.Bool.{cases_eq, and_from, and_parts, le-leb, leb-true}
use Rattle.std.proofs.lemmas.List.{length-drop, length-set, length-append, length-map, length-take-le, take-append-drop, get_or-set_same, get_or-set_other}
use Rattle.problems.specs.declared.quantity.Span.{Span}
use Rattle.problems.specs.declared.quantity.RowEnds.{RowEnds}
use Rattle.problems.specs.declared.quantity.Side.{Side}
use Rattle.problems.specs.declared.quantity.Side.TheVariants.{Lower, Upper}
use Rattle.problems.specs.Whole.{positive, negative, within, all_within}
use Rattle.problems.specs.Rows.{dot, add, scale, comb, values}
use Rattle.problems.specs.Box.{Box, Proper, no_ends}
use Rattle.problems.proofs.Propers.{RowLists, rows_from}
use Rattle.testers.specs.Leaf.{all_zero, most, variables_total, times, most_row, plus, rows_total, sum_below_zero}
use Rattle.testers.specs.Tester.{LawfulAnswer}
use Rattle.testers.specs.Halving.{exceeds, falls_short}
use Rattle.testers.specs.Ring.{lin, mul_mono, mul_anti, neg_mul}
use Rattle.testers.specs.Dots.{dot_add, dot_scale, dot_comb, at_values}
use Rattle.testers.specs.Halves.{identically, formed_by, length_scale, some_same, none_some}
use Rattle.tableau.specs.declared.line.Line.{Line}
use Rattle.tableau.specs.declared.run.Violation.{Violation}
use Rattle.tableau.specs.declared.run.Step.TheVariants.{Stuck}
use Rattle.tableau.specs.declared.run.Stop.TheVariants.{Fails}
use Rattle.tableau.specs.Lines.{blank, start_lines}
use Rattle.tableau.specs.Choices.{scaled, may_rise, may_fall, suitable}
use Rattle.tableau.specs.Tableau.{Tableau, span_ends, ends_of, small_lines, look}
use Rattle.tableau.specs.Pivot.{multipliers, conclude}
use Rattle.tableau.specs.Sound.{Hold}
use Rattle.tableau.proofs.Keeps.{Kept, quantities}
use Rattle.tableau.proofs.LastLook.{Violates, Found, look_stuck, outside_found, entering_none}
use Rattle.tableau.proofs.Points.{dot_append, dot_set, pad, length_pad, dot_pad, values_pad, start_holds, hold_at}
use Rattle.problems.proofs.Tests.{lt_z_true, lt_z_false, lt_z_is}

-- ---- an end bounds a multiple

-- y times the end that its sign uses is at most y times u
abbrev Bound : ℤ → RowEnds → ℤ → Type 0
Bound y e u = (t : ℤ) × (most_row y e ≡ Some t) × (t ≤ℤ (y *ℤ u))

bounded : (y : ℤ) (e : RowEnds) (u : ℤ) → (positive y ≡ true → (c : ℤ) × (e.upper ≡ Some c) × (c ≤ℤ u)) → (negative y ≡ true → (c : ℤ) × (e.lower ≡ Some c) × (u ≤ℤ c)) → Bound y e u
bounded (pos zero) e u f g = (pos 0, refl, omega (arith, lin, zero-*ℤ u))
bounded (pos (suc n)) e u f g = let h = f refl in (pos (suc n) *ℤ h.0, ap (times (pos (suc n))) h.1, mul_mono (suc n) h.0 u h.2)
bounded (negsuc n) e u f g = let h = g refl in (negsuc n *ℤ h.0, ap (times (negsuc n)) h.1, mul_anti n u h.0 h.2)

at_top : (x : ℤ) (o : Option ℤ) → may_rise x o ≡ false → (c : ℤ) × (o ≡ Some c) × (c ≤ℤ x)
at_top x None h = absurd (true≢false h)
at_top x (Some c) h = (c, refl, lt_z_false x c h)

at_bottom : (x : ℤ) (o : Option ℤ) → may_fall x o ≡ false → (c : ℤ) × (o ≡ Some c) × (x ≤ℤ c)
at_bottom x None h = absurd (true≢false h)
at_bottom x (Some c) h = (c, refl, lt_z_false c x h)

neither : (a b c d : Bool) → ((a && b) || (c && d)) ≡ false → (a ≡ true → b ≡ false) × (c ≡ true → d ≡ false)
neither true true c d e = absurd (true≢false e)
neither true false true true e = absurd (true≢false e)
neither true false true false e = (λ _. refl, λ _. refl)
neither true false false d e = (λ _. refl, λ h. absurd (false≢true h))
neither false b true true e = absurd (true≢false e)
neither false b true false e = (λ h. absurd (false≢true h), λ _. refl)
neither false b false d e = (λ h. absurd (false≢true h), λ h. absurd (false≢true h))

turned_up : (a : ℤ) → positive (neg_ℤ a) ≡ negative a
turned_up (pos zero) = refl
turned_up (pos (suc n)) = refl
turned_up (negsuc n) = refl

turned_down : (a : ℤ) → negative (neg_ℤ a) ≡ positive a
turned_down (pos zero) = refl
turned_down (pos (suc n)) = refl
turned_down (negsuc n) = refl

-- the multiplier of a number
abbrev turn : Side → ℤ → ℤ
turn Lower a = a
turn Upper a = neg_ℤ a

-- a quantity that is not suitable
stuck_bound : (side : Side) (a x : ℤ) (e : RowEnds) → suitable side a x e ≡ false → Bound (turn side a) e x
stuck_bound Lower a x e h =
    let k = neither (positive a) (may_rise x e.upper) (negative a) (may_fall x e.lower) h in
    bounded a e x (λ p. at_top x e.upper (k.0 p)) (λ p. at_bottom x e.lower (k.1 p))
stuck_bound Upper a x e h =
    let k = neither (positive a) (may_fall x e.lower) (negative a) (may_rise x e.upper) h in
    bounded (neg_ℤ a) e x (λ p. at_top x e.upper (k.1 (sym (turned_up a) ∙ p))) (λ p. at_bottom x e.lower (k.0 (sym (turned_down a) ∙ p)))

-- ---- the quantity that is outside, put at the end that it violates

under_is : (z d : ℤ) (o : Option ℤ) → falls_short z (scaled d o) ≡ true → (c : ℤ) × (o ≡ Some c) × (z <ℤ (d *ℤ c))
under_is z d None h = absurd (false≢true h)
under_is z d (Some c) h = (c, refl, lt_z_true z (d *ℤ c) h)

over_is : (z d : ℤ) (o : Option ℤ) → exceeds z (scaled d o) ≡ true → (c : ℤ) × (o ≡ Some c) × ((d *ℤ c) <ℤ z)
over_is z d None h = absurd (false≢true h)
over_is z d (Some c) h = (c, refl, lt_z_true (d *ℤ c) z h)

below_not_above : (a : ℤ) → a <ℤ pos 0 → positive a ≡ true → ⊥
below_not_above (pos n) l h = absurd (omega (arith, ints))
below_not_above (negsuc n) l h = false≢true h

turned_not_below : (a : ℤ) → a <ℤ pos 0 → negative (neg_ℤ a) ≡ true → ⊥
turned_not_below (pos n) l h = absurd (omega (arith, ints))
turned_not_below (negsuc n) l h = false≢true h

-- a is the line's own number, and z its sum over the others
pub record AtViolated (side : Side) (a z : ℤ) (e : RowEnds) : Type 0 where
  pub place : ℤ
  pub bound : Bound (turn side a) e place
  pub below : turn side (z +ℤ a *ℤ place) <ℤ pos 0

at_violated : (side : Side) (a z : ℤ) (e : RowEnds) → a <ℤ pos 0 → Violates side z (neg_ℤ a) e → AtViolated side a z e
at_violated Lower a z e l h =
    let v = under_is z (neg_ℤ a) e.lower h in
    let k = v.2 in
    let m = neg_mul a v.0 in
    record {
      place = v.0;
      bound = bounded a e v.0 (λ p. absurd (below_not_above a l p)) (λ _. (v.0, v.1, ≤ℤ_refl v.0));
      below = omega (arith, lin);
    }
at_violated Upper a z e l h =
    let v = over_is z (neg_ℤ a) e.upper h in
    let k = v.2 in
    let m = neg_mul a v.0 in
    record {
      place = v.0;
      bound = bounded (neg_ℤ a) e v.0 (λ _. (v.0, v.1, ≤ℤ_refl v.0)) (λ p. absurd (turned_not_below a l p));
      below = omega (arith, lin);
    }

-- ---- the multipliers

at_minus : (r : List ℤ) (q : ℕ) → get_or (scale (negsuc 0) r) q (pos 0) ≡ neg_ℤ (get_or r q (pos 0))
at_minus [] q = refl
at_minus (a ∷ r) zero = let e : pos 1 *ℤ a ≡ a = omega (arith, ints) in neg_mul (pos 1) a ∙ ap neg_ℤ e
at_minus (a ∷ r) (suc q) = at_minus r q

multiplier_is : (side : Side) (r : List ℤ) (q : ℕ) → get_or (multipliers side r) q (pos 0) ≡ turn side (get_or r q (pos 0))
multiplier_is Lower r q = refl
multiplier_is Upper r q = at_minus r q

multipliers_dot : (side : Side) (r x : List ℤ) → dot (multipliers side r) x ≡ turn side (dot r x)
multipliers_dot Lower r x = refl
multipliers_dot Upper r x = let e : pos 1 *ℤ dot r x ≡ dot r x = omega (arith, ints) in dot_scale (negsuc 0) r x ∙ neg_mul (pos 1) (dot r x) ∙ ap neg_ℤ e

multipliers_long : (side : Side) (r : List ℤ) → length (multipliers side r) ≡ length r
multipliers_long Lower r = refl
multipliers_long Upper r = length_scale (negsuc 0) r

turn_zero : (side : Side) (z : ℤ) → z ≡ pos 0 → turn side z ≡ pos 0
turn_zero Lower z e = e
turn_zero Upper z e = ap neg_ℤ e

minus_within : (n : ℕ) (r : List ℤ) → all_within n r ≡ true → all_within n (scale (negsuc 0) r) ≡ true
minus_within n [] h = refl
minus_within n (a ∷ r) h =
    let p = and_parts (within n a) (all_within n r) h in
    let k = leb-true _ _ p.0 in
    and_from _ _ (le-leb _ _ (omega (arith, ints))) (minus_within n r p.1)

multipliers_within : (side : Side) (n : ℕ) (r : List ℤ) → all_within n r ≡ true → all_within n (multipliers side r) ≡ true
multipliers_within Lower n r h = h
multipliers_within Upper n r h = minus_within n r h

take_within : (n k : ℕ) (r : List ℤ) → all_within n r ≡ true → all_within n (take k r) ≡ true
take_within n zero r h = refl
take_within n (suc k) [] h = refl
take_within n (suc k) (a ∷ r) h = let p = and_parts (within n a) (all_within n r) h in and_from _ _ p.0 (take_within n k r p.1)

drop_within : (n k : ℕ) (r : List ℤ) → all_within n r ≡ true → all_within n (drop k r) ≡ true
drop_within n zero r h = h
drop_within n (suc k) [] h = refl
drop_within n (suc k) (a ∷ r) h = drop_within n k r (and_parts (within n a) (all_within n r) h).1

small_at : (ls : List Line) → small_lines ls ≡ true → (i : ℕ) → i < length ls → all_within 1000000000 (get_or ls i blank).nums ≡ true
small_at [] h i k = absurd (not-suc-le-zero k)
small_at (l ∷ ls) h zero k = (and_parts (all_within 1000000000 l.nums) (small_lines ls) h).0
small_at (l ∷ ls) h (suc i) k = small_at ls (and_parts (all_within 1000000000 l.nums) (small_lines ls) h).1 i (le_of_suc-le-suc k)

-- ---- totals

totals : (ms : List ℤ) (es : List RowEnds) (u : List ℤ) → length es ≡ length ms → length u ≡ length ms
    → ((q : ℕ) → q < length ms → Bound (get_or ms q (pos 0)) (get_or es q no_ends) (get_or u q (pos 0))) → (t : ℤ) × (rows_total ms es ≡ Some t) × (t ≤ℤ dot ms u)
totals [] es u l w h = (pos 0, refl, ≤ℤ_refl (pos 0))
totals (m ∷ ms) [] u l w h = absurd (omega arith)
totals (m ∷ ms) (e ∷ es) [] l w h = absurd (omega arith)
totals (m ∷ ms) (e ∷ es) (x ∷ u) l w h =
    let b = h 0 (omega arith) in
    let r = totals ms es u (omega arith) (omega arith) (λ q k. h (suc q) (omega arith)) in
    let b2 = b.2 in
    let r2 = r.2 in
    (b.0 +ℤ r.0, ap (λ w. plus w (rows_total ms es)) b.1 ∙ ap (plus (Some b.0)) r.1, omega (arith, lin))

span_most : (y : ℤ) (s : Span) → most_row y (span_ends s) ≡ Some (most y s)
span_most (pos zero) s = refl
span_most (pos (suc n)) s = refl
span_most (negsuc n) s = refl

plus_none : (o : Option ℤ) → o ≡ plus (Some (pos 0)) o
plus_none None = refl
plus_none (Some z) = let e : z ≡ pos 0 +ℤ z = omega (arith, ints) in ap Some e

plus_more : (a b : ℤ) (o : Option ℤ) → plus (Some a) (plus (Some b) o) ≡ plus (Some (a +ℤ b)) o
plus_more a b None = refl
plus_more a b (Some z) = let e : a +ℤ (b +ℤ z) ≡ (a +ℤ b) +ℤ z = omega (arith, lin) in ap Some e

-- the total over all quantities, by variables and rows
by_parts : (ys zs : List ℤ) (ss : List Span) (es : List RowEnds) → length ys ≡ length ss → rows_total (ys ++ zs) (map span_ends ss ++ es) ≡ plus (Some (variables_total ys ss)) (rows_total zs es)
by_parts [] zs [] es h = plus_none (rows_total zs es)
by_parts [] zs (s ∷ ss) es h = absurd (omega arith)
by_parts (y ∷ ys) zs [] es h = absurd (omega arith)
by_parts (y ∷ ys) zs (s ∷ ss) es h =
    ap (λ w. plus w (rows_total (ys ++ zs) (map span_ends ss ++ es))) (span_most y s) ∙ ap (plus (Some (most y s))) (by_parts ys zs ss es (omega arith)) ∙ plus_more (most y s) (variables_total ys ss) (rows_total zs es)

below_zero : (s t : ℤ) (o : Option ℤ) → plus (Some s) o ≡ Some t → t <ℤ pos 0 → sum_below_zero s o ≡ true
below_zero s t None h l = none_some t h
below_zero s t (Some z) h l = lt_z_is (s +ℤ z) (pos 0) (subst (λ v. v <ℤ pos 0) (sym (some_same _ _ h)) l)

-- ---- the multipliers cancel

-- what is 0 at every point x with what the rows come to there
cancelled : (n : ℕ) (rows : List (List ℤ)) (ys zs : List ℤ) → RowLists n rows → length ys ≡ n
    → ((x : List ℤ) → length x ≡ n → dot (ys ++ zs) (x ++ values rows x) ≡ pos 0) → all_zero (add ys (comb zs rows)) ≡ true
cancelled n rows ys zs l w h =
    identically (add ys (comb zs rows))
    (λ x. let e = h (pad n x) (length_pad n x) in
    let a = dot_append ys zs (pad n x) (values rows (pad n x)) (w ∙ sym (length_pad n x)) in
    let b = dot_pad n ys x (omega arith) in
    let c = ap (dot zs) (values_pad n rows x l) in
    omega (arith, lin, dot_add ys (comb zs rows) x, dot_comb zs rows x))

-- the lines of the rows hold at such a point
rows_hold : (n : ℕ) (rows : List (List ℤ)) (x : List ℤ) → RowLists n rows → length x ≡ n → Hold (start_lines (length rows) 0 rows) (x ++ values rows x)
rows_hold n rows x l w =
    start_holds n (length rows) 0 rows x (values rows x) l w (omega arith)
    (λ j k. let z : 0 + j ≡ j = omega arith in ap (λ i. get_or (values rows x) i (pos 0)) z ∙ at_values rows x j)

-- ---- the leaf

module _ (rows : List (List ℤ)) (box : Box) (t : Tableau) (f : Violation) (p : Proper rows box) (kept : Kept rows box t) (small : small_lines t.lines ≡ true)
    (stuck : look (ends_of box) (quantities rows box) t ≡ Stuck f) where
  abbrev l : Line
  l = get_or t.lines f.place blank

  abbrev n : ℕ
  n = length box.vars

  abbrev ms : List ℤ
  ms = multipliers f.side l.nums

  abbrev own : ℤ
  own = get_or l.nums l.basic (pos 0)

  found : Found (ends_of box) t.values t.lines f
  found = outside_found (ends_of box) t.values t.lines f (look_stuck (ends_of box) (quantities rows box) t f stuck).is_outside

  put : AtViolated f.side own (dot l.nums t.values) (get_or (ends_of box) l.basic no_ends)
  put = at_violated f.side own (dot l.nums t.values) (get_or (ends_of box) l.basic no_ends) (kept.solved.own f.place found.there) found.violates

  abbrev V : List ℤ
  V = set t.values l.basic put.place

  inside : l.basic < length t.values
  inside = subst (λ k. l.basic < k) (sym kept.wide) (kept.inside f.place found.there)

  long : length ms ≡ quantities rows box
  long = multipliers_long f.side l.nums ∙ kept.long f.place found.there

  each_bound : (q : ℕ) → q < length ms → Bound (get_or ms q (pos 0)) (get_or (ends_of box) q no_ends) (get_or V q (pos 0))
  each_bound q k =
      subst (λ y. Bound y (get_or (ends_of box) q no_ends) (get_or V q (pos 0))) (sym (multiplier_is f.side l.nums q))
      (⊎_elim
      (λ (e : q ≡ l.basic).
      subst (λ i. Bound (turn f.side (get_or l.nums i (pos 0))) (get_or (ends_of box) i no_ends) (get_or V i (pos 0))) (sym e)
      (subst (λ x. Bound (turn f.side own) (get_or (ends_of box) l.basic no_ends) x) (sym (get_or-set_same t.values l.basic put.place (pos 0) inside)) put.bound))
      (λ (e : q ≡ l.basic → ⊥).
      subst (λ x. Bound (turn f.side (get_or l.nums q (pos 0))) (get_or (ends_of box) q no_ends) x) (sym (get_or-set_other t.values l.basic q put.place (pos 0) e))
      (stuck_bound f.side (get_or l.nums q (pos 0)) (get_or t.values q (pos 0)) (get_or (ends_of box) q no_ends)
      (entering_none f.side (ends_of box) t.values l (quantities rows box) (look_stuck (ends_of box) (quantities rows box) t f stuck).none_enters q (subst (λ i. q < i) long k) e)))
      (cases_eq q l.basic))

  ends_long : length (ends_of box) ≡ quantities rows box
  ends_long = length-append (map span_ends box.vars) box.rows ∙ omega (arith, length-map box.vars span_ends, p.ends_of_rows)

  moved_dot : dot l.nums V ≡ dot l.nums t.values +ℤ own *ℤ put.place
  moved_dot =
      let e = dot_set l.nums t.values l.basic put.place inside in
      let z : own *ℤ get_or t.values l.basic (pos 0) ≡ pos 0 = ap (λ v. own *ℤ v) (kept.zero_at f.place found.there) ∙ *ℤ-zero own in
      omega (arith, lin)

  whole_total : (s : ℤ) × (rows_total ms (ends_of box) ≡ Some s) × (s <ℤ pos 0)
  whole_total =
      let r = totals ms (ends_of box) V (ends_long ∙ sym long) (length-set t.values l.basic put.place ∙ kept.wide ∙ sym long) each_bound in
      let e : dot ms V ≡ turn f.side (dot l.nums t.values +ℤ own *ℤ put.place) = multipliers_dot f.side l.nums V ∙ ap (turn f.side) moved_dot in
      let b = put.below in
      let r2 = r.2 in
      (r.0, r.1, omega (arith, lin))

  first_long : length (take n ms) ≡ n
  first_long = length-take-le n ms (omega (arith, long))

  last_long : length (drop n ms) ≡ length rows
  last_long = length-drop n ms ∙ omega (arith, long)

  line_zero : (x : List ℤ) → length x ≡ n → dot ms (x ++ values rows x) ≡ pos 0
  line_zero x w =
      multipliers_dot f.side l.nums (x ++ values rows x)
      ∙ turn_zero f.side (dot l.nums (x ++ values rows x)) (hold_at t.lines (x ++ values rows x) (kept.onward (x ++ values rows x) (rows_hold n rows x (rows_from n rows p.coefficients) w)) f.place found.there)

  pub leaf_lawful : LawfulAnswer rows box (conclude box t (Fails f))
  leaf_lawful =
      let s = whole_total in
      let parts = take-append-drop n ms in
      let w = multipliers_within f.side 1000000000 l.nums (small_at t.lines small f.place found.there) in
      and_from _ _
      (formed_by rows box (take n ms) (drop n ms) first_long last_long (take_within 1000000000 n ms w) (drop_within 1000000000 n ms w))
      (and_from _ _
      (cancelled n rows (take n ms) (drop n ms) (rows_from n rows p.coefficients) first_long (λ x k. subst (λ r. dot r (x ++ values rows x) ≡ pos 0) (sym parts) (line_zero x k)))
      (below_zero (variables_total (take n ms) box.vars) s.0 (rows_total (drop n ms) box.rows)
      (sym (by_parts (take n ms) (drop n ms) box.vars box.rows first_long) ∙ subst (λ r. rows_total r (ends_of box) ≡ Some s.0) (sym parts) s.1) s.2))

pub fails_lawful : (rows : List (List ℤ)) (box : Box) (t : Tableau) (f : Violation) → Proper rows box → Kept rows box t → small_lines t.lines ≡ true
    → look (ends_of box) (quantities rows box) t ≡ Stuck f → LawfulAnswer rows box (conclude box t (Fails f))
fails_lawful rows box t f p kept small stuck = leaf_lawful rows box t f p kept small stuck
