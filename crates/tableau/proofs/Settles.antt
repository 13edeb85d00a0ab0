-- Where no quantity is outside its ends, the point is a plan, and the split lies inside the ends.
use Rattle.std.proofs.Common.{◌≡◌, ℕ, zero, suc, ◌+◌, ◌<◌, Bool, true, false, cond, List, [], ◌∷◌, ◌++◌, map, length, get_or, take, drop, ℤ, pos, negsuc, ◌+ℤ◌, ◌-ℤ◌, ◌*ℤ◌, ◌≤ℤ◌, ◌<ℤ◌, Some, None, Option, sym, refl, ap, ◌∙◌, subst, ⊎_elim, true≢false, le_of_suc-le-suc, not-suc-le-zero, arith}
use lib.IntN.{*ℤ_comm}
use borrow.Author.Differences.{ints}
use Rattle.std.specs.Int.{int_div_euclid, int_rem_euclid}
use Rattle.std.proofs.lemmas.Int.{by_lt_z}
use Rattle.std.proofs.lemmas.List.{length-take-le, length-map, take-append-drop, get_or-take, get_or-drop, get_or-map, get_or_append_left, get_or-append-add, ext_get_or}
use Rattle.problems.specs.declared.quantity.Span.{Span}
use Rattle.problems.specs.declared.quantity.RowEnds.{RowEnds}
use Rattle.problems.specs.Whole.{is_zero}
use Rattle.problems.specs.Rows.{dot, scale, values}
use Rattle.problems.specs.Ranges.{span_proper, spans_proper, in_order, in_reach, ends_proper, row_ends_proper}
use Rattle.problems.specs.Box.{Box, Above, Below, Inside, Kept as RowsKept, IsPlan, splits, nowhere, no_ends, Proper}
use Rattle.problems.proofs.Propers.{rows_from}
use Rattle.testers.specs.Tester.{LawfulAnswer}
use Rattle.testers.specs.Halving.{exceeds, falls_short}
use Rattle.testers.specs.Ring.{lin, mul_mono, mul_assoc, mul_left_comm}
use Rattle.testers.specs.Leaves.{floor as floor_is}
use Rattle.testers.specs.Halves.{splits_at, length_scale, some_same, some_none, none_some}
use Rattle.tableau.specs.declared.line.Line.{Line}
use Rattle.tableau.specs.declared.fraction.Fraction.{Fraction}
use Rattle.tableau.specs.declared.run.Step.TheVariants.{Standing}
use Rattle.tableau.specs.declared.run.Stop.TheVariants.{Stands}
use Rattle.tableau.specs.Lines.{blank, den, start_lines}
use Rattle.tableau.specs.Choices.{scaled}
use Rattle.tableau.specs.Tableau.{Tableau, span_ends, ends_of, look}
use Rattle.tableau.specs.Pivot.{value, whole, floor, broken, floors, settled, conclude}
use Rattle.tableau.specs.Sound.{Hold, Nonbasic, AtAnEnd}
use Rattle.tableau.proofs.Keeps.{Kept, quantities}
use Rattle.tableau.proofs.LastLook.{look_standing, outside_none}
use Rattle.tableau.proofs.Points.{dot_times, start_rows}
use Rattle.tableau.proofs.Filled.{suc_of, cancel, cancel_le, Basic, cases_basic, solved_dens, solved_apart, common, common_positive, filled, at_scale, length_filled, filled_other, filled_own, filled_holds, value_basic, value_nonbasic}
use Rattle.std.proofs.lemmas.Bool.{and_parts}
use Rattle.problems.proofs.Tests.{by_bool, lt_z_false, le_z_true, zero_is, eq_z_is}

-- ---- z / d within an end

abbrev Over : Option ℤ → ℤ → ℤ → Type 0
Over None d z = Unit {0}
Over (Some l) d z = (d *ℤ l) ≤ℤ z

abbrev Under : Option ℤ → ℤ → ℤ → Type 0
Under None d z = Unit {0}
Under (Some u) d z = z ≤ℤ (d *ℤ u)

over_from : (o : Option ℤ) (d z : ℤ) → falls_short z (scaled d o) ≡ false → Over o d z
over_from None d z h = tt
over_from (Some l) d z h = lt_z_false z (d *ℤ l) h

under_from : (o : Option ℤ) (d z : ℤ) → exceeds z (scaled d o) ≡ false → Under o d z
under_from None d z h = tt
under_from (Some u) d z h = lt_z_false (d *ℤ u) z h

-- a quantity at an end, the ends being in order
at_lower : (lo up : Option ℤ) (x : ℤ) → lo ≡ Some x → in_order lo up ≡ true → Over lo (pos 1) x × Under up (pos 1) x
at_lower None up x e h = none_some x e
at_lower (Some l) None x e h = let k = some_same l x e in (omega (arith, ints), tt)
at_lower (Some l) (Some u) x e h = let k = some_same l x e in let o = le_z_true l u h in (omega (arith, ints), omega (arith, ints))

at_upper : (lo up : Option ℤ) (x : ℤ) → up ≡ Some x → in_order lo up ≡ true → Over lo (pos 1) x × Under up (pos 1) x
at_upper lo None x e h = none_some x e
at_upper None (Some u) x e h = let k = some_same u x e in (tt, omega (arith, ints))
at_upper (Some l) (Some u) x e h = let k = some_same u x e in let o = le_z_true l u h in (omega (arith, ints), omega (arith, ints))

at_end : (e : RowEnds) (x : ℤ) → AtAnEnd e x → in_order e.lower e.upper ≡ true → Over e.lower (pos 1) x × Under e.upper (pos 1) x
at_end e x a h = ⊎_elim (λ (k : e.lower ≡ Some x). at_lower e.lower e.upper x k h) (λ (k : e.upper ≡ Some x). at_upper e.lower e.upper x k h) a

row_ordered : (es : List RowEnds) → row_ends_proper es ≡ true → (q : ℕ) → in_order (get_or es q no_ends).lower (get_or es q no_ends).upper ≡ true
row_ordered [] h q = refl
row_ordered (e ∷ es) h zero = (and_parts (in_order e.lower e.upper) _ (and_parts _ (in_reach e.upper) (and_parts (ends_proper e) (row_ends_proper es) h).0).0).0
row_ordered (e ∷ es) h (suc q) = row_ordered es (and_parts (ends_proper e) (row_ends_proper es) h).1 q

ordered : (ss : List Span) (es : List RowEnds) → spans_proper ss ≡ true → row_ends_proper es ≡ true
    → (q : ℕ) → in_order (get_or (map span_ends ss ++ es) q no_ends).lower (get_or (map span_ends ss ++ es) q no_ends).upper ≡ true
ordered [] es h k q = row_ordered es k q
ordered (s ∷ ss) es h k zero = (and_parts _ _ (and_parts _ _ (and_parts (span_proper s) (spans_proper ss) h).0).0).0
ordered (s ∷ ss) es h k (suc q) = ordered ss es (and_parts (span_proper s) (spans_proper ss) h).1 k q

-- ---- whole values

exact : (n : ℕ) (a k : ℤ) → a ≡ pos (suc n) *ℤ k → int_div_euclid a (pos (suc n)) ≡ k
exact n a k e =
    let f = floor_is a n in
    let m = int_div_euclid a (pos (suc n)) in
    let le = cancel_le (pos (suc n)) m k (omega (arith, ints)) (subst (λ z. (pos (suc n) *ℤ m) ≤ℤ z) e f.0) in
    by_lt_z m k
    (λ lt. let up : (m +ℤ pos 1) ≤ℤ k = omega (arith, lin) in
    let p = mul_mono (suc n) (m +ℤ pos 1) k up in
    let q = subst (λ z. z <ℤ (pos (suc n) *ℤ (m +ℤ pos 1))) e f.1 in
    absurd (omega (arith, lin)))
    (λ ge. omega (arith, lin))

rem_is : (a : ℤ) (n : ℕ) → int_rem_euclid a (pos (suc n)) ≡ a -ℤ pos (suc n) *ℤ int_div_euclid a (pos (suc n))
rem_is (pos a) n = omega (arith, ints)
rem_is (negsuc a) n = omega (arith, ints)

whole_exact : (a : ℤ) (n : ℕ) → is_zero (int_rem_euclid a (pos (suc n))) ≡ true → a ≡ pos (suc n) *ℤ int_div_euclid a (pos (suc n))
whole_exact a n h = let e = zero_is (int_rem_euclid a (pos (suc n))) h in let f = rem_is a n in omega (arith, lin)

not_whole : (a : ℤ) (n : ℕ) (k : ℤ) → is_zero (int_rem_euclid a (pos (suc n))) ≡ false → a ≡ pos (suc n) *ℤ k → ⊥
not_whole a n k h e =
    let d = exact n a k e in
    let f = rem_is a n ∙ ap (λ z. a -ℤ pos (suc n) *ℤ z) d in
    let z : int_rem_euclid a (pos (suc n)) ≡ pos 0 = omega (arith, lin) in
    true≢false (sym (eq_z_is _ (pos 0) z) ∙ h)

pub whole_is : (f : Fraction) → pos 0 <ℤ f.den → whole f ≡ true → f.num ≡ f.den *ℤ floor f
whole_is f p h =
    let d = suc_of f.den p in
    subst (λ z. f.num ≡ z *ℤ int_div_euclid f.num z) (sym d.1) (whole_exact f.num d.0 (subst (λ z. is_zero (int_rem_euclid f.num z) ≡ true) d.1 h))

between : (d : ℕ) (z l u : ℤ) → is_zero (int_rem_euclid z (pos (suc d))) ≡ false → (pos (suc d) *ℤ l) ≤ℤ z → z ≤ℤ (pos (suc d) *ℤ u)
    → (l ≤ℤ int_div_euclid z (pos (suc d))) × (int_div_euclid z (pos (suc d)) <ℤ u)
between d z l u w a b =
    let k = int_div_euclid z (pos (suc d)) in
    let f = floor_is z d in
    let f0 = f.0 in
    let f1 = f.1 in (
      by_lt_z k l (λ lt. let le : (k +ℤ pos 1) ≤ℤ l = omega (arith, lin) in let m = mul_mono (suc d) (k +ℤ pos 1) l le in absurd (omega (arith, lin))) (λ le. le),
      by_lt_z k u (λ lt. lt) (λ le. let m = mul_mono (suc d) u k le in absurd (not_whole z d u w (omega (arith, lin)))),
    )

pub floor_between : (f : Fraction) (l u : ℤ) → pos 0 <ℤ f.den → whole f ≡ false → (f.den *ℤ l) ≤ℤ f.num → f.num ≤ℤ (f.den *ℤ u) → (l ≤ℤ floor f) × (floor f <ℤ u)
floor_between f l u p w a b =
    let d = suc_of f.den p in
    let P : ℤ → Type 0 = λ z. is_zero (int_rem_euclid f.num z) ≡ false → (z *ℤ l) ≤ℤ f.num → f.num ≤ℤ (z *ℤ u) → (l ≤ℤ int_div_euclid f.num z) × (int_div_euclid f.num z <ℤ u) in
    subst P (sym d.1) (between d.0 f.num l u) w a b

-- ---- the first that is not whole

none_more : (b : Bool) (v : ℕ) (o : Option ℕ) → cond b o (Some v) ≡ None → (b ≡ true) × (o ≡ None)
none_more true v o h = (refl, h)
none_more false v o h = some_none v h

broken_none : (vs : List ℤ) (ls : List Line) (v k : ℕ) → broken vs ls v k ≡ None → (i : ℕ) → i < k → whole (value (v + i) vs ls) ≡ true
broken_none vs ls v zero h i l = absurd (not-suc-le-zero l)
broken_none vs ls v (suc k) h zero l = let z : v ≡ v + 0 = omega arith in subst (λ q. whole (value q vs ls) ≡ true) z (none_more (whole (value v vs ls)) v (broken vs ls (suc v) k) h).0
broken_none vs ls v (suc k) h (suc i) l =
    let z : suc v + i ≡ v + suc i = omega arith in
    subst (λ q. whole (value q vs ls) ≡ true) z (broken_none vs ls (suc v) k (none_more (whole (value v vs ls)) v (broken vs ls (suc v) k) h).1 i (le_of_suc-le-suc l))

broken_some : (vs : List ℤ) (ls : List Line) (v k q : ℕ) → broken vs ls v k ≡ Some q → (q < v + k) × (whole (value q vs ls) ≡ false)
broken_some vs ls v zero q h = none_some q h
broken_some vs ls v (suc k) q h =
    by_bool (whole (value v vs ls))
    (λ y. let r = broken_some vs ls (suc v) k q (subst (λ b. cond b (broken vs ls (suc v) k) (Some v) ≡ Some q) y h) in let r0 = r.0 in (omega arith, r.1))
    (λ n. let e = some_same v q (subst (λ b. cond b (broken vs ls (suc v) k) (Some v) ≡ Some q) n h) in (omega arith, subst (λ q. whole (value q vs ls) ≡ false) e n))

length_floors : (vs : List ℤ) (ls : List Line) (v k : ℕ) → length (floors vs ls v k) ≡ k
length_floors vs ls v zero = refl
length_floors vs ls v (suc k) = ap suc (length_floors vs ls (suc v) k)

at_floors : (vs : List ℤ) (ls : List Line) (v k i : ℕ) → i < k → get_or (floors vs ls v k) i (pos 0) ≡ floor (value (v + i) vs ls)
at_floors vs ls v zero i h = absurd (not-suc-le-zero h)
at_floors vs ls v (suc k) zero h = let z : v ≡ v + 0 = omega arith in ap (λ q. floor (value q vs ls)) z
at_floors vs ls v (suc k) (suc i) h = let z : suc v + i ≡ v + suc i = omega arith in at_floors vs ls (suc v) k i (le_of_suc-le-suc h) ∙ ap (λ q. floor (value q vs ls)) z

-- ---- plans by place

plan_vars : (ss : List Span) (x : List ℤ) → length x ≡ length ss → ((i : ℕ) → i < length ss → ((get_or ss i nowhere).lower ≤ℤ get_or x i (pos 0)) × (get_or x i (pos 0) ≤ℤ (get_or ss i nowhere).upper)) → Inside ss x
plan_vars [] [] l h = tt
plan_vars [] (x ∷ xs) l h = absurd (omega arith)
plan_vars (s ∷ ss) [] l h = absurd (omega arith)
plan_vars (s ∷ ss) (x ∷ xs) l h = ((h 0 (omega arith)).0, (h 0 (omega arith)).1, plan_vars ss xs (omega arith) (λ i k. h (suc i) (omega arith)))

plan_rows : (es : List RowEnds) (rs : List (List ℤ)) (x : List ℤ) → length es ≡ length rs
    → ((j : ℕ) → j < length rs → Above (get_or es j no_ends).lower (dot (get_or rs j []) x) × Below (get_or es j no_ends).upper (dot (get_or rs j []) x)) → RowsKept es (values rs x)
plan_rows [] [] x l h = tt
plan_rows [] (r ∷ rs) x l h = absurd (omega arith)
plan_rows (e ∷ es) [] x l h = absurd (omega arith)
plan_rows (e ∷ es) (r ∷ rs) x l h = ((h 0 (omega arith)).0, (h 0 (omega arith)).1, plan_rows es rs x (omega arith) (λ j k. h (suc j) (omega arith)))

-- the ends of a variable, and of a row
variable_ends : (box : Box) (v : ℕ) → v < length box.vars → get_or (ends_of box) v no_ends ≡ span_ends (get_or box.vars v nowhere)
variable_ends box v h =
    get_or_append_left (map span_ends box.vars) box.rows no_ends v (subst (λ n. v < n) (sym (length-map box.vars span_ends)) h) ∙ get_or-map span_ends box.vars v nowhere no_ends h

row_ends : (box : Box) (j : ℕ) → get_or (ends_of box) (length box.vars + j) no_ends ≡ get_or box.rows j no_ends
row_ends box j =
    ap (λ n. get_or (ends_of box) (n + j) no_ends) (sym (length-map box.vars span_ends)) ∙ get_or-append-add (map span_ends box.vars) box.rows j no_ends

-- ---- a value z / d that is the whole number x
above_by : (d z x : ℤ) (o : Option ℤ) → pos 0 <ℤ d → z ≡ d *ℤ x → Over o d z → Above o x
above_by d z x None p e h = tt
above_by d z x (Some l) p e h = cancel_le d l x p (subst (λ w. (d *ℤ l) ≤ℤ w) e h)

below_by : (d z x : ℤ) (o : Option ℤ) → pos 0 <ℤ d → z ≡ d *ℤ x → Under o d z → Below o x
below_by d z x None p e h = tt
below_by d z x (Some u) p e h = cancel_le d x u p (subst (λ w. w ≤ℤ (d *ℤ u)) e h)

in_values : (D x d z v : ℤ) → pos 0 <ℤ D → x *ℤ d ≡ D *ℤ z → x ≡ D *ℤ v → z ≡ d *ℤ v
in_values D x d z v p e f = cancel D z (d *ℤ v) p (sym e ∙ ap (λ w. w *ℤ d) f ∙ mul_assoc D v d ∙ ap (λ w. D *ℤ w) (*ℤ_comm v d))

in_floors : (D x d z v : ℤ) → pos 0 <ℤ d → x *ℤ d ≡ D *ℤ z → z ≡ d *ℤ v → x ≡ D *ℤ v
in_floors D x d z v p e f = cancel d x (D *ℤ v) p (*ℤ_comm d x ∙ e ∙ ap (λ w. D *ℤ w) f ∙ mul_left_comm D d v)

-- ---- the answer

module _ (rows : List (List ℤ)) (box : Box) (t : Tableau) (p : Proper rows box) (kept : Kept rows box t) (calm : look (ends_of box) (quantities rows box) t ≡ Standing) where
  abbrev n : ℕ
  n = length box.vars

  abbrev W : ℕ → Fraction
  W q = value q t.values t.lines

  abbrev D : ℤ
  D = common t.lines

  abbrev Z : List ℤ
  Z = filled t.lines t.values

  DPositive : pos 0 <ℤ D
  DPositive = common_positive t.lines (solved_dens t.lines kept.solved)

  ZLong : length Z ≡ quantities rows box
  ZLong = length_filled t.lines t.values ∙ kept.wide

  within_list : (i : ℕ) → i < length t.lines → (get_or t.lines i blank).basic < length t.values
  within_list i h = subst (λ k. (get_or t.lines i blank).basic < k) (sym kept.wide) (kept.inside i h)

  ZHolds : Hold (start_lines (length rows) 0 rows) Z
  ZHolds = kept.back Z (filled_holds t.lines t.values kept.solved within_list kept.zero_at)

  -- the value of a quantity lies within its ends, and Z has its numerator over D
  pub record Valued (q : ℕ) (f : Fraction) : Type 0 where
    pub above_zero : pos 0 <ℤ f.den
    pub same : get_or Z q (pos 0) *ℤ f.den ≡ D *ℤ f.num
    pub over : Over (get_or (ends_of box) q no_ends).lower f.den f.num
    pub under : Under (get_or (ends_of box) q no_ends).upper f.den f.num

  basic_valued : (i : ℕ) → i < length t.lines → Valued (get_or t.lines i blank).basic (record { num = dot (get_or t.lines i blank).nums t.values; den = den (get_or t.lines i blank) })
  basic_valued i h =
      let s = outside_none (ends_of box) t.values 0 t.lines (look_standing (ends_of box) (quantities rows box) t calm) i h in
      record {
        above_zero = solved_dens t.lines kept.solved i h;
        same = filled_own t.lines t.values (solved_apart t.lines kept.solved) i h (within_list i h);
        over = over_from _ _ _ s.0;
        under = under_from _ _ _ s.1;
      }

  nonbasic_valued : (q : ℕ) → q < quantities rows box → Nonbasic t.lines q → Valued q (record { num = get_or t.values q (pos 0); den = pos 1 })
  nonbasic_valued q h n =
      let s = at_end (get_or (ends_of box) q no_ends) (get_or t.values q (pos 0)) (kept.at_ends q h n) (ordered box.vars box.rows p.spans p.row_spans q) in
      let e = filled_other t.lines t.values q n in
      record {
        above_zero = omega (arith, ints);
        same = omega (arith, ints, e);
        over = s.0;
        under = s.1;
      }

  valued : (q : ℕ) → q < quantities rows box → Valued q (W q)
  valued q h =
      ⊎_elim
      (λ (r : Basic t.lines q).
      subst (λ i. Valued i (W i)) r.2
      (subst (λ f. Valued (get_or t.lines r.0 blank).basic f) (sym (value_basic t.values t.lines (solved_apart t.lines kept.solved) r.0 r.1)) (basic_valued r.0 r.1)))
      (λ (r : Nonbasic t.lines q). subst (λ f. Valued q f) (sym (value_nonbasic t.values t.lines q r)) (nonbasic_valued q h r))
      (cases_basic t.lines q)

  split_lawful : (v : ℕ) → v < n → whole (W v) ≡ false → splits v (floor (W v)) box.vars ≡ true
  split_lawful v h y =
      let w = valued v (omega arith) in
      let e = variable_ends box v h in
      let s = get_or box.vars v nowhere in
      let b = floor_between (W v) s.lower s.upper w.above_zero y (subst (λ (o : RowEnds). Over o.lower (W v).den (W v).num) e w.over) (subst (λ (o : RowEnds). Under o.upper (W v).den (W v).num) e w.under) in
      splits_at v (floor (W v)) box.vars h b.0 b.1

  -- a quantity whose value is the whole number x
  within_ends : (q : ℕ) → q < quantities rows box → (x : ℤ) → get_or Z q (pos 0) ≡ D *ℤ x → Above (get_or (ends_of box) q no_ends).lower x × Below (get_or (ends_of box) q no_ends).upper x
  within_ends q h x e =
      let w = valued q h in
      let z = in_values D (get_or Z q (pos 0)) (W q).den (W q).num x DPositive w.same e in
      (above_by (W q).den (W q).num x _ w.above_zero z w.over, below_by (W q).den (W q).num x _ w.above_zero z w.under)

  point_plan : ((i : ℕ) → i < n → whole (value (0 + i) t.values t.lines) ≡ true) → IsPlan rows box (floors t.values t.lines 0 n)
  point_plan all =
      let x = floors t.values t.lines 0 n in
      let xs : (i : ℕ) → i < n → get_or x i (pos 0) ≡ floor (W i) = λ i h. let z : 0 + i ≡ i = omega arith in at_floors t.values t.lines 0 n i h ∙ ap (λ q. floor (W q)) z in
      let vs : (i : ℕ) → i < n → get_or Z i (pos 0) ≡ D *ℤ get_or x i (pos 0) =
      λ i h. let z : 0 + i ≡ i = omega arith in let w = valued i (omega arith) in
      in_floors D (get_or Z i (pos 0)) (W i).den (W i).num (floor (W i)) w.above_zero w.same (whole_is (W i) w.above_zero (subst (λ q. whole (W q) ≡ true) z (all i h)))
      ∙ ap (λ v. D *ℤ v) (sym (xs i h)) in
      let long : length (take n Z) ≡ n = length-take-le n Z (omega (arith, ZLong)) in
      let first : take n Z ≡ scale D x =
      ext_get_or (pos 0) (take n Z) (scale D x) (long ∙ sym (length_scale D x ∙ length_floors t.values t.lines 0 n))
      (λ i h. let k = subst (λ m. i < m) long h in get_or-take n Z i (pos 0) k ∙ vs i k ∙ sym (at_scale D x i)) in
      let rs : (j : ℕ) → j < length rows → get_or Z (n + j) (pos 0) ≡ D *ℤ dot (get_or rows j []) x =
      λ j h. let z : j ≡ 0 + j = omega arith in
      sym (get_or-drop n Z j (pos 0)) ∙ ap (λ i. get_or (drop n Z) i (pos 0)) z
      ∙ start_rows n (length rows) 0 rows (take n Z) (drop n Z) (rows_from n rows p.coefficients) long (omega arith) (subst (Hold (start_lines (length rows) 0 rows)) (sym (take-append-drop n Z)) ZHolds) j h
      ∙ ap (dot (get_or rows j [])) first ∙ dot_times D (get_or rows j []) x in (
        plan_vars box.vars x (length_floors t.values t.lines 0 n)
            (λ i h. let w = within_ends i (omega arith) (get_or x i (pos 0)) (vs i h) in
            let e = variable_ends box i h in
            (subst (λ (o : RowEnds). Above o.lower (get_or x i (pos 0))) e w.0, subst (λ (o : RowEnds). Below o.upper (get_or x i (pos 0))) e w.1)),
        plan_rows box.rows rows x p.ends_of_rows
            (λ j h. let w = within_ends (n + j) (omega arith) (dot (get_or rows j []) x) (rs j h) in
            let e = row_ends box j in
            (subst (λ (o : RowEnds). Above o.lower (dot (get_or rows j []) x)) e w.0, subst (λ (o : RowEnds). Below o.upper (dot (get_or rows j []) x)) e w.1)),
      )

  by_broken : (o : Option ℕ) → broken t.values t.lines 0 n ≡ o → LawfulAnswer rows box (settled n t o)
  by_broken None e = point_plan (broken_none t.values t.lines 0 n e)
  by_broken (Some v) e = let b = broken_some t.values t.lines 0 n v e in let k = b.0 in split_lawful v (omega arith) b.1

  pub settled_lawful : LawfulAnswer rows box (conclude box t Stands)
  settled_lawful = by_broken (broken t.values t.lines 0 n) refl

pub stands_lawful : (rows : List (List ℤ)) (box : Box) (t : Tableau) → Proper rows box → Kept rows box t → look (ends_of box) (quantities rows box) t ≡ Standing → LawfulAnswer rows box (conclude box t Stands)
stands_lawful rows box t p kept calm = settled_lawful rows box t p kept calm
