-- The multipliers of a failing row, as the code fills them in, and the check row by row.
use Rattle.std.proofs.Common.{◌≡◌, ℕ, zero, suc, ◌+◌, ◌-◌, ◌<◌, ◌≤◌, Bool, true, false, cond, List, [], ◌∷◌, ◌++◌, length, get_or, take, drop, set, replicate, ℤ, pos, negsuc, ◌-ℤ◌, ◌*ℤ◌, neg_ℤ, nat_abs, Some, None, Option, sym, refl, ap, ◌∙◌, le_of_suc-le-suc, not-suc-le-zero, add-one, arith, w64, SFits, to_z, of_z}
use borrow.Author.Differences.{ints}
use Rattle.std.proofs.lemmas.List.{length-take-le, set_at, take_more, append_assoc, set-append_right, take_all, take_at, drop_at, drop_more, drop_all}
use Rattle.problems.specs.Rows.{scale}
use Rattle.problems.specs.declared.problem.Problem.{Problem}
use Rattle.problems.specs.Box.{Box, no_ends}
use Rattle.problems.specs.View.{box_of, rows_of}
use Rattle.problems.proofs.Views.{row_of, rows_long, vars_long}
use Rattle.testers.specs.declared.row_in_box.RowInBox.{RowInBox}
use Rattle.testers.specs.RowInBox.{IsRow}
use Rattle.testers.specs.Leaf.{Leaf}
use Rattle.testers.specs.Leaf.Leaf.{sum}
use Rattle.testers.specs.Halving.{least, greatest, exceeds, falls_short, failing_sign, single, row_multipliers, failing, failing_row}
use Rattle.testers.specs.Ring.{neg_mul}
use Rattle.testers.specs.Halves.{length_scale, scale_one, none_some, some_none}
use Rattle.testers.proofs.Products.{fits, back, product_small}

-- ---- one multiplier

module _ (z a : ℤ) (hz : nat_abs z ≤ 1) (ha : nat_abs a ≤ 100) where
  pub product_fits : SFits w64 (to_z w64 (of_z w64 z) *ℤ to_z w64 (of_z w64 a))
  product_fits = rw (back z (omega arith), back a (omega arith)) (fits (z *ℤ a) (omega (arith, product_small 1 100 z a hz ha)))

  product_back : to_z w64 (of_z w64 (to_z w64 (of_z w64 z) *ℤ to_z w64 (of_z w64 a))) ≡ z *ℤ a
  product_back = rw (back z (omega arith), back a (omega arith)) (back (z *ℤ a) (omega (arith, product_small 1 100 z a hz ha)))

  pub turned_fits : SFits w64 (pos 0 -ℤ to_z w64 (of_z w64 (to_z w64 (of_z w64 z) *ℤ to_z w64 (of_z w64 a))))
  turned_fits = rw product_back (let p = product_small 1 100 z a hz ha in omega (arith, ints))

  pub turned_back : to_z w64 (of_z w64 (pos 0 -ℤ to_z w64 (of_z w64 (to_z w64 (of_z w64 z) *ℤ to_z w64 (of_z w64 a))))) ≡ neg_ℤ z *ℤ a
  turned_back =
      let p = product_small 1 100 z a hz ha in
      let e = neg_mul z a in
      rw product_back (omega (arith, ints))

-- ---- the whole list

scale_append : (w : ℤ) (a b : List ℤ) → scale w (a ++ b) ≡ scale w a ++ scale w b
scale_append w [] b = refl
scale_append w (x ∷ a) b = ap (λ (t : List ℤ). (w *ℤ x) ∷ t) (scale_append w a b)

-- one multiplier more is filled in
pub fill_next : (w : ℤ) (r : List ℤ) (j : ℕ) (v : ℤ) → j < length r → length r ≤ 24 → v ≡ w *ℤ get_or r j (pos 0)
    → set (scale w (take j r) ++ replicate (24 - j) (pos 0)) j v ≡ scale w (take (j + 1) r) ++ replicate (24 - (j + 1)) (pos 0)
fill_next w r j v h s e =
    let zeros = replicate (24 - (j + 1)) (pos 0) in
    let m : 24 - j ≡ suc (24 - (j + 1)) = omega arith in
    let l : length (scale w (take j r)) ≡ j = length_scale w (take j r) ∙ length-take-le j r (omega arith) in
    let more = ap (scale w) (take_more r j (pos 0) h) ∙ scale_append w (take j r) (get_or r j (pos 0) ∷ []) in
    ap (λ n. set (scale w (take j r) ++ replicate n (pos 0)) j v) m
    ∙ set_at (scale w (take j r)) (pos 0) zeros v j l
    ∙ ap (λ (x : ℤ). scale w (take j r) ++ (x ∷ zeros)) e
    ∙ sym (append_assoc (scale w (take j r)) ((w *ℤ get_or r j (pos 0)) ∷ []) zeros)
    ∙ ap (λ (x : List ℤ). x ++ zeros) (sym more)

-- and last the row's own
pub filled : (w : ℤ) (r : List ℤ) (i j : ℕ) (z : ℤ) → length r ≤ j → j ≤ length r
    → set (scale w (take j r) ++ replicate (24 - j) (pos 0)) (length r + i) z ≡ scale w r ++ set (replicate (24 - length r) (pos 0)) i z
filled w r i j z u v =
    let n = length r in
    let e : j ≡ n = omega arith in
    let d : (n + i) - n ≡ i = omega arith in
    ap (λ (x : List ℤ). set (scale w x ++ replicate (24 - j) (pos 0)) (n + i) z) (take_all j r u)
    ∙ set-append_right (scale w r) (replicate (24 - j) (pos 0)) n (n + i) z (length_scale w r) (omega arith)
    ∙ ap (λ k. scale w r ++ set (replicate (24 - j) (pos 0)) k z) d
    ∙ ap (λ k. scale w r ++ set (replicate (24 - k) (pos 0)) i z) e

-- ---- what the list says of n variables and m rows

zeros_are : (m c : ℕ) → m ≤ c → take m (replicate c (pos 0)) ≡ single m zero (pos 0)
zeros_are zero c h = refl
zeros_are (suc m) zero h = absurd (not-suc-le-zero h)
zeros_are (suc m) (suc c) h = ap (λ (x : List ℤ). pos 0 ∷ x) (zeros_are m c (le_of_suc-le-suc h))

one_set : (m c i : ℕ) (z : ℤ) → i < m → m ≤ c → take m (set (replicate c (pos 0)) i z) ≡ single m i z
one_set zero c i z h l = absurd (not-suc-le-zero h)
one_set (suc m) zero i z h l = absurd (not-suc-le-zero l)
one_set (suc m) (suc c) zero z h l = ap (λ (x : List ℤ). z ∷ x) (zeros_are m c (le_of_suc-le-suc l))
one_set (suc m) (suc c) (suc i) z h l = ap (λ (x : List ℤ). pos 0 ∷ x) (one_set m c i z (le_of_suc-le-suc h) (le_of_suc-le-suc l))

pub multipliers_say : (z : ℤ) (r : List ℤ) (n m i : ℕ) → length r ≡ n → i < m → n + m ≤ 24
    → sum (take n (row_multipliers z r i)) (take m (drop n (row_multipliers z r i))) ≡ sum (scale (neg_ℤ z) r) (single m i z)
multipliers_say z r n m i e h s =
    let front = scale (neg_ℤ z) r in
    let rest = set (replicate (24 - length r) (pos 0)) i z in
    let l = length_scale (neg_ℤ z) r ∙ e in
    ap (λ (x : List ℤ). sum x (take m (drop n (front ++ rest)))) (take_at front rest n l)
    ∙ ap (λ (x : List ℤ). sum front (take m x)) (drop_at front rest n l)
    ∙ ap (sum front) (one_set m (24 - length r) i z h (omega arith))

-- ---- one row of the check

leaf_by : (over under : Bool) (z : ℤ) (r : List ℤ) (m i : ℕ) (later : Option Leaf) → Some z ≡ cond over (Some (pos 1)) (cond under (Some (negsuc 0)) None)
    → Some (sum (scale (neg_ℤ z) r) (single m i z)) ≡ cond over (Some (sum (scale (negsuc 0) r) (single m i (pos 1)))) (cond under (Some (sum r (single m i (negsuc 0)))) later)
leaf_by true under z r m i later e = let h : z ≡ pos 1 = cc in rw h
leaf_by false true z r m i later e = let h : z ≡ negsuc 0 = cc in rw h (ap (λ (x : List ℤ). Some (sum x (single m i (negsuc 0)))) (scale_one r))
leaf_by false false z r m i later e = let h : ◌≡◌ {A = ℕ} 0 1 = cc in absurd (omega arith)

-- the leaf, told of a row in the box and the list of its multipliers
pub leaf_is : (p : Problem) (i : ℕ) (row : RowInBox) (z : ℤ) (ms : List ℤ) → i < length (rows_of p) → IsRow (rows_of p) (box_of p) i row
    → Some z ≡ failing_sign row.coefs.now row.vars.now row.ends → ms ≡ row_multipliers z row.coefs.now row.number
    → Some (sum (take p.ends.vars.n ms) (take p.ends.m (drop p.ends.vars.n ms))) ≡ failing_row (rows_of p) (box_of p) i
leaf_is p i row z ms h t s e =
    let n = p.ends.vars.n in
    let m = p.ends.m in
    let r = get_or (rows_of p) i [] in
    let es = get_or (box_of p).rows i no_ends in
    let ss = (box_of p).vars in
    let told : Some z ≡ failing_sign r ss es =
    s ∙ ap (λ x. failing_sign x row.vars.now row.ends) t.coefs ∙ ap (λ x. failing_sign r x row.ends) t.vars ∙ ap (failing_sign r ss) t.ends in
    let made : ms ≡ row_multipliers z r i = e ∙ ap (λ x. row_multipliers z x row.number) t.coefs ∙ ap (row_multipliers z r) t.numbered in
    ap (λ (x : List ℤ). Some (sum (take n x) (take m (drop n x)))) made
    ∙ ap Some (multipliers_say z r n m i ((row_of p i h).0 ∙ vars_long p.ends.vars) (omega (arith, rows_long p)) (omega (arith, p.ends.few, p.ends.vars.few)))
    ∙ ap (λ k. Some (sum (scale (neg_ℤ z) r) (single k i z))) (sym (rows_long p))
    ∙ leaf_by (exceeds (least r ss) es.upper) (falls_short (greatest r ss) es.lower) z r (length (rows_of p)) i None told

-- ---- the rows from i on

found_by : (over under : Bool) (x y l : Leaf) (later : Option Leaf) → cond over (Some x) (cond under (Some y) None) ≡ Some l → cond over (Some x) (cond under (Some y) later) ≡ Some l
found_by true under x y l later e = e
found_by false true x y l later e = e
found_by false false x y l later e = none_some l e

later_by : (over under : Bool) (x y : Leaf) (later : Option Leaf) → cond over (Some x) (cond under (Some y) None) ≡ None → later ≡ cond over (Some x) (cond under (Some y) later)
later_by true under x y later e = some_none x e
later_by false true x y later e = some_none y e
later_by false false x y later e = refl

module _ (rows : List (List ℤ)) (box : Box) where
  -- what is found from row i on
  abbrev pub failing_from : ℕ → Option Leaf
  failing_from i = failing box.vars (length rows) i (drop i rows) (drop i box.rows)

  pub none_left : failing_from (length rows) ≡ None
  none_left = rw (drop_all (length rows) rows (omega arith)) refl

  module _ (i : ℕ) (h : i < length rows) (k : i < length box.rows) where
    pub fails_at : (l : Leaf) → failing_row rows box i ≡ Some l → failing_from i ≡ Some l
    fails_at l e =
        let r = get_or rows i [] in
        let es = get_or box.rows i no_ends in
        rw (drop_more rows i [] h, drop_more box.rows i no_ends k)
        (found_by (exceeds (least r box.vars) es.upper) (falls_short (greatest r box.vars) es.lower) (sum (scale (negsuc 0) r) (single (length rows) i (pos 1))) (sum r (single (length rows) i (negsuc 0))) l
        (failing box.vars (length rows) (suc i) (drop (i + 1) rows) (drop (i + 1) box.rows)) e)

    pub passes_at : failing_row rows box i ≡ None → failing_from (i + 1) ≡ failing_from i
    passes_at e =
        let r = get_or rows i [] in
        let es = get_or box.rows i no_ends in
        rw (drop_more rows i [] h, drop_more box.rows i no_ends k, add-one)
        (later_by (exceeds (least r box.vars) es.upper) (falls_short (greatest r box.vars) es.lower) (sum (scale (negsuc 0) r) (single (length rows) i (pos 1))) (sum r (single (length rows) i (negsuc 0)))
        (failing box.vars (length rows) (suc i) (drop (suc i) rows) (drop (suc i) box.rows)) e)
