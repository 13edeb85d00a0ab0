-- Every line is negative at its own basic quantity and 0 at the others', at the start and after each pivot.
use Rattle.std.proofs.Common.{◌≡◌, ℕ, zero, suc, ◌+◌, ◌<◌, true, false, cond, eqb, ltb, List, [], ◌∷◌, ◌++◌, length, get_or, ℤ, pos, negsuc, ◌+ℤ◌, ◌*ℤ◌, neg_ℤ, ◌≤ℤ◌, ◌<ℤ◌, sym, refl, ap, ◌∙◌, subst, true≢false, le_of_suc-le-suc, not-suc-le-zero, arith}
use mathlib.Core.Bool.{false≢true}
use native.Mathlib.Nat.{zero-div}
use lib.IntN.{*ℤ-zero}
use borrow.Author.Differences.{ints}
use Rattle.std.specs.Int.{int_div_euclid}
use Rattle.std.proofs.lemmas.List.{get_or-append-add}
use Rattle.std.proofs.lemmas.Bool.{eqb-false, cond_both, eqb-true}
use Rattle.problems.specs.declared.quantity.RowEnds.{RowEnds}
use Rattle.problems.specs.Whole.{is_zero, positive}
use Rattle.problems.specs.Rows.{add, scale}
use Rattle.problems.specs.Ranges.{rows_proper}
use Rattle.problems.proofs.Propers.{row_length}
use Rattle.testers.specs.Halving.{single}
use Rattle.testers.specs.Ring.{out, mul_mono}
use Rattle.tableau.specs.declared.line.Line.{Line}
use Rattle.tableau.specs.Lines.{blank, start_line, start_lines, gcd_all, divide_all, reduced, turned, cleared, substituted}
use Rattle.tableau.specs.Tableau.{Tableau, exchanged, run}
use Rattle.tableau.specs.Sound.{Solved, DensOk}
use Rattle.tableau.proofs.Looks.{run_keeps}
use Rattle.problems.proofs.Tests.{zero_is}

-- ---- rows at a place

pub at_add : (a b : List ℤ) (j : ℕ) → get_or (add a b) j (pos 0) ≡ get_or a j (pos 0) +ℤ get_or b j (pos 0)
at_add [] b j = omega (arith, ints)
at_add (a ∷ av) [] j = omega (arith, ints)
at_add (a ∷ av) (b ∷ bv) zero = refl
at_add (a ∷ av) (b ∷ bv) (suc j) = at_add av bv j

pub at_scale : (k : ℤ) (a : List ℤ) (j : ℕ) → get_or (scale k a) j (pos 0) ≡ k *ℤ get_or a j (pos 0)
at_scale k [] j = sym (*ℤ-zero k)
at_scale k (a ∷ av) zero = refl
at_scale k (a ∷ av) (suc j) = at_scale k av j

pub at_divide : (g : ℕ) (a : List ℤ) (j : ℕ) → get_or (divide_all (pos g) a) j (pos 0) ≡ int_div_euclid (get_or a j (pos 0)) (pos g)
at_divide g [] j = ap pos (sym (zero-div g))
at_divide g (a ∷ av) zero = refl
at_divide g (a ∷ av) (suc j) = at_divide g av j

divided_negative : (g : ℕ) (a : ℤ) → a <ℤ pos 0 → int_div_euclid a (pos g) <ℤ pos 0
divided_negative g (pos n) h = absurd (omega (arith, ints))
divided_negative g (negsuc n) h = omega (arith, ints)

pub reduced_zero : (r : List ℤ) (j : ℕ) → get_or r j (pos 0) ≡ pos 0 → get_or (reduced r) j (pos 0) ≡ pos 0
reduced_zero r j e =
    let g = gcd_all 0 r in
    cond_both (ltb 1 g) (divide_all (pos g) r) r (λ (x : List ℤ). get_or x j (pos 0) ≡ pos 0)
    (λ _. at_divide g r j ∙ ap (λ z. int_div_euclid z (pos g)) e ∙ ap pos (zero-div g)) (λ _. e)

reduced_negative : (r : List ℤ) (j : ℕ) → get_or r j (pos 0) <ℤ pos 0 → get_or (reduced r) j (pos 0) <ℤ pos 0
reduced_negative r j h =
    let g = gcd_all 0 r in
    cond_both (ltb 1 g) (divide_all (pos g) r) r (λ (x : List ℤ). get_or x j (pos 0) <ℤ pos 0)
    (λ _. subst (λ (z : ℤ). z <ℤ pos 0) (sym (at_divide g r j)) (divided_negative g (get_or r j (pos 0)) h)) (λ _. h)

pub is_positive : (a : ℤ) → positive a ≡ true → pos 0 <ℤ a
is_positive (pos zero) e = absurd (false≢true e)
is_positive (pos (suc n)) e = omega (arith, ints)
is_positive (negsuc n) e = absurd (false≢true e)

pub not_positive : (a : ℤ) → positive a ≡ false → (a ≡ pos 0 → ⊥) → a <ℤ pos 0
not_positive (pos zero) e n = absurd (n refl)
not_positive (pos (suc m)) e n = absurd (true≢false e)
not_positive (negsuc m) e n = omega (arith, ints)

pub turned_negative : (q : ℕ) (l : Line) → (get_or l.nums q (pos 0) ≡ pos 0 → ⊥) → get_or (turned q l).nums q (pos 0) <ℤ pos 0
turned_negative q l n =
    let a = get_or l.nums q (pos 0) in
    cond_both (positive a) (scale (negsuc 0) l.nums) l.nums (λ (x : List ℤ). get_or x q (pos 0) <ℤ pos 0)
    (λ p. let h = is_positive a p in let e = at_scale (negsuc 0) l.nums q in omega (arith, ints))
    (λ p. not_positive a p n)

pub turned_zero : (q : ℕ) (l : Line) (j : ℕ) → get_or l.nums j (pos 0) ≡ pos 0 → get_or (turned q l).nums j (pos 0) ≡ pos 0
turned_zero q l j z =
    cond_both (positive (get_or l.nums q (pos 0))) (scale (negsuc 0) l.nums) l.nums (λ (x : List ℤ). get_or x j (pos 0) ≡ pos 0)
    (λ p. at_scale (negsuc 0) l.nums j ∙ ap (λ a. negsuc 0 *ℤ a) z) (λ p. z)

-- what r comes to where q stands in it
abbrev pub mixed : ℕ → List ℤ → List ℤ → List ℤ
mixed q t r = reduced (add (scale (neg_ℤ (get_or t q (pos 0))) r) (scale (get_or r q (pos 0)) t))

pub at_mix : (p c : ℤ) (r t : List ℤ) (j : ℕ) → get_or (add (scale p r) (scale c t)) j (pos 0) ≡ p *ℤ get_or r j (pos 0) +ℤ c *ℤ get_or t j (pos 0)
at_mix p c r t j = at_add (scale p r) (scale c t) j ∙ ap (λ a. a +ℤ get_or (scale c t) j (pos 0)) (at_scale p r j) ∙ ap (λ a. p *ℤ get_or r j (pos 0) +ℤ a) (at_scale c t j)

pub zero_sum : (p c a b : ℤ) → a ≡ pos 0 → b ≡ pos 0 → p *ℤ a +ℤ c *ℤ b ≡ pos 0
zero_sum p c a b e f =
    ap (λ z. p *ℤ z +ℤ c *ℤ b) e ∙ ap (λ z. p *ℤ pos 0 +ℤ c *ℤ z) f ∙ ap (λ z. z +ℤ c *ℤ pos 0) (*ℤ-zero p) ∙ ap (λ z. pos 0 +ℤ z) (*ℤ-zero c)

mixed_zero : (q : ℕ) (t r : List ℤ) (j : ℕ) → get_or t j (pos 0) ≡ pos 0 → get_or r j (pos 0) ≡ pos 0
    → get_or (mixed q t r) j (pos 0) ≡ pos 0
mixed_zero q t r j et er =
    let p = neg_ℤ (get_or t q (pos 0)) in
    let c = get_or r q (pos 0) in
    reduced_zero (add (scale p r) (scale c t)) j (at_mix p c r t j ∙ zero_sum p c (get_or r j (pos 0)) (get_or t j (pos 0)) er et)

cleared_zero : (q : ℕ) (t r : List ℤ) (j : ℕ) → get_or t j (pos 0) ≡ pos 0 → get_or r j (pos 0) ≡ pos 0 → get_or (cleared q t r) j (pos 0) ≡ pos 0
cleared_zero q t r j et er =
    cond_both (is_zero (get_or r q (pos 0))) r (mixed q t r) (λ (x : List ℤ). get_or x j (pos 0) ≡ pos 0) (λ _. er) (λ _. mixed_zero q t r j et er)

cancels_out : (a b : ℤ) → neg_ℤ a *ℤ b +ℤ b *ℤ a ≡ pos 0
cancels_out a b = simp out (omega (arith, ints))

cleared_at : (q : ℕ) (t r : List ℤ) → get_or (cleared q t r) q (pos 0) ≡ pos 0
cleared_at q t r =
    let p = neg_ℤ (get_or t q (pos 0)) in
    let c = get_or r q (pos 0) in
    cond_both (is_zero c) r (mixed q t r) (λ (x : List ℤ). get_or x q (pos 0) ≡ pos 0) (λ e. zero_is c e)
    (λ _. reduced_zero (add (scale p r) (scale c t)) q (at_mix p c r t q ∙ cancels_out (get_or t q (pos 0)) c))

product_negative : (a b : ℤ) → a <ℤ pos 0 → b <ℤ pos 0 → (neg_ℤ a *ℤ b) <ℤ pos 0
product_negative (pos n) b h k = absurd (omega (arith, ints))
product_negative (negsuc n) b h k =
    let l : b ≤ℤ negsuc 0 = omega (arith, ints) in
    let m = mul_mono (suc n) b (negsuc 0) l in
    omega (arith, ints)

pub mixed_negative : (q : ℕ) (t r : List ℤ) (j : ℕ) → get_or t q (pos 0) <ℤ pos 0 → get_or t j (pos 0) ≡ pos 0 → get_or r j (pos 0) <ℤ pos 0
    → get_or (mixed q t r) j (pos 0) <ℤ pos 0
mixed_negative q t r j ht et hr =
    let p = neg_ℤ (get_or t q (pos 0)) in
    let c = get_or r q (pos 0) in
    let e : get_or (add (scale p r) (scale c t)) j (pos 0) ≡ p *ℤ get_or r j (pos 0) +ℤ pos 0 =
    at_mix p c r t j ∙ ap (λ a. p *ℤ get_or r j (pos 0) +ℤ c *ℤ a) et ∙ ap (λ a. p *ℤ get_or r j (pos 0) +ℤ a) (*ℤ-zero c) in
    let m = product_negative (get_or t q (pos 0)) (get_or r j (pos 0)) ht hr in
    reduced_negative (add (scale p r) (scale c t)) j (subst (λ (z : ℤ). z <ℤ pos 0) (sym e) (omega (arith, ints)))

cleared_negative : (q : ℕ) (t r : List ℤ) (j : ℕ) → get_or t q (pos 0) <ℤ pos 0 → get_or t j (pos 0) ≡ pos 0 → get_or r j (pos 0) <ℤ pos 0
    → get_or (cleared q t r) j (pos 0) <ℤ pos 0
cleared_negative q t r j ht et hr =
    cond_both (is_zero (get_or r q (pos 0))) r (mixed q t r) (λ (x : List ℤ). get_or x j (pos 0) <ℤ pos 0) (λ _. hr) (λ _. mixed_negative q t r j ht et hr)

-- ---- lines at a place

pub length_exchanged : (place q : ℕ) (t : Line) (j : ℕ) (ls : List Line) → length (exchanged place q t j ls) ≡ length ls
length_exchanged place q t j [] = refl
length_exchanged place q t j (l ∷ ls) = ap suc (length_exchanged place q t (suc j) ls)

exchanged_from : (place q : ℕ) (t : Line) (j : ℕ) (ls : List Line) (i : ℕ) → i < length ls
    → get_or (exchanged place q t j ls) i blank ≡ cond (eqb (j + i) place) t (substituted q t (get_or ls i blank))
exchanged_from place q t j [] i h = absurd (not-suc-le-zero h)
exchanged_from place q t j (l ∷ ls) zero h = let e : j ≡ j + 0 = omega arith in ap (λ (n : ℕ). cond (eqb n place) t (substituted q t l)) e
exchanged_from place q t j (l ∷ ls) (suc i) h =
    let e : suc j + i ≡ j + suc i = omega arith in
    exchanged_from place q t (suc j) ls i (le_of_suc-le-suc h) ∙ ap (λ (n : ℕ). cond (eqb n place) t (substituted q t (get_or ls i blank))) e

pub exchanged_at : (place q : ℕ) (t : Line) (ls : List Line) (i : ℕ) → i < length ls
    → get_or (exchanged place q t 0 ls) i blank ≡ cond (eqb i place) t (substituted q t (get_or ls i blank))
exchanged_at place q t ls i h =
    let e : 0 + i ≡ i = omega arith in
    exchanged_from place q t 0 ls i h ∙ ap (λ (n : ℕ). cond (eqb n place) t (substituted q t (get_or ls i blank))) e

pub solved_pivot : (place q : ℕ) (ls : List Line) → Solved ls → place < length ls → (get_or (get_or ls place blank).nums q (pos 0) ≡ pos 0 → ⊥)
    → Solved (exchanged place q (turned q (get_or ls place blank)) 0 ls)
solved_pivot place q ls s h n =
    let l : ℕ → Line = λ i. get_or ls i blank in
    let t : Line = turned q (l place) in
    let new : ℕ → Line = λ i. cond (eqb i place) t (substituted q t (l i)) in
    let tn = turned_negative q (l place) n in
    let size = length_exchanged place q t 0 ls in
    record {
      own = λ i g.
          let gi : i < length ls = subst (λ (m : ℕ). i < m) size g in
          subst (λ (x : Line). get_or x.nums x.basic (pos 0) <ℤ pos 0) (sym (exchanged_at place q t ls i gi))
          (cond_both (eqb i place) t (substituted q t (l i)) (λ (x : Line). get_or x.nums x.basic (pos 0) <ℤ pos 0) (λ _. tn)
          (λ e. cleared_negative q t.nums (l i).nums (l i).basic tn (turned_zero q (l place) (l i).basic (s.other place i h gi (λ d. eqb-false i place e (sym d)))) (s.own i gi)));
      other = λ i j g k d.
          let gi : i < length ls = subst (λ (m : ℕ). i < m) size g in
          let gj : j < length ls = subst (λ (m : ℕ). j < m) size k in
          subst (λ (x : Line). get_or x.nums (get_or (exchanged place q t 0 ls) j blank).basic (pos 0) ≡ pos 0) (sym (exchanged_at place q t ls i gi))
          (subst (λ (y : Line). get_or (new i).nums y.basic (pos 0) ≡ pos 0) (sym (exchanged_at place q t ls j gj))
          (cond_both (eqb i place) t (substituted q t (l i)) (λ (x : Line). get_or x.nums (new j).basic (pos 0) ≡ pos 0)
          (λ ei. cond_both (eqb j place) t (substituted q t (l j)) (λ (y : Line). get_or t.nums y.basic (pos 0) ≡ pos 0)
          (λ ej. absurd (d (eqb-true i place ei ∙ sym (eqb-true j place ej))))
          (λ ej. turned_zero q (l place) (l j).basic (s.other place j h gj (λ p. eqb-false j place ej (sym p)))))
          (λ ei. cond_both (eqb j place) t (substituted q t (l j)) (λ (y : Line). get_or (cleared q t.nums (l i).nums) y.basic (pos 0) ≡ pos 0)
          (λ ej. cleared_at q t.nums (l i).nums)
          (λ ej. cleared_zero q t.nums (l i).nums (l j).basic (turned_zero q (l place) (l j).basic (s.other place j h gj (λ p. eqb-false j place ej (sym p)))) (s.other i j gi gj d)))));
    }

-- ---- a run

pub run_solved : (n : ℕ) (ends : List RowEnds) (k : ℕ) (t : Tableau) → Solved t.lines → Solved (run n ends k t).tableau.lines
run_solved n ends k =
    run_keeps (λ t. Solved t.lines) ends k (λ t f q g s. solved_pivot f.place q t.lines s g.placed g.enters.moves) n

pub solved_rest : (l : Line) (ls : List Line) → Solved (l ∷ ls) → Solved ls
solved_rest l ls s =
    record {
      own = λ i h. let g : suc i < suc (length ls) = omega arith in s.own (suc i) g;
      other = λ i j h k d.
          let g : suc i < suc (length ls) = omega arith in
          let m : suc j < suc (length ls) = omega arith in
          s.other (suc i) (suc j) g m (λ e. d (omega arith));
    }

pub dens : (ls : List Line) → Solved ls → DensOk ls
dens [] s = tt
dens (l ∷ ls) s =
    let g : 0 < suc (length ls) = omega arith in
    let h = s.own 0 g in
    (omega (arith, ints), dens ls (solved_rest l ls s))

-- ---- the lines at the start are solved

pub single_own : (m i : ℕ) (z : ℤ) → i < m → get_or (single m i z) i (pos 0) ≡ z
single_own zero i z h = absurd (not-suc-le-zero h)
single_own (suc m) zero z h = refl
single_own (suc m) (suc i) z h = single_own m i z (le_of_suc-le-suc h)

single_zeros : (m j : ℕ) → get_or (single m zero (pos 0)) j (pos 0) ≡ pos 0
single_zeros zero j = refl
single_zeros (suc m) zero = refl
single_zeros (suc m) (suc j) = single_zeros m j

pub single_other : (m i j : ℕ) (z : ℤ) → (i ≡ j → ⊥) → get_or (single m i z) j (pos 0) ≡ pos 0
single_other zero i j z d = refl
single_other (suc m) zero zero z d = absurd (d refl)
single_other (suc m) zero (suc j) z d = single_zeros m j
single_other (suc m) (suc i) zero z d = refl
single_other (suc m) (suc i) (suc j) z d = single_other m i j z (λ e. d (ap suc e))

start_from : (m i : ℕ) (rs : List (List ℤ)) (j : ℕ) → j < length rs → get_or (start_lines m i rs) j blank ≡ start_line m (i + j) (get_or rs j [])
start_from m i [] j h = absurd (not-suc-le-zero h)
start_from m i (r ∷ rs) zero h = let e : i ≡ i + 0 = omega arith in ap (λ k. start_line m k r) e
start_from m i (r ∷ rs) (suc j) h =
    let e : suc i + j ≡ i + suc j = omega arith in
    start_from m (suc i) rs j (le_of_suc-le-suc h) ∙ ap (λ k. start_line m k (get_or rs j [])) e

pub start_at : (m : ℕ) (rs : List (List ℤ)) (j : ℕ) → j < length rs → get_or (start_lines m 0 rs) j blank ≡ start_line m j (get_or rs j [])
start_at m rs j h = let e : 0 + j ≡ j = omega arith in start_from m 0 rs j h ∙ ap (λ k. start_line m k (get_or rs j [])) e

pub length_start : (m i : ℕ) (rs : List (List ℤ)) → length (start_lines m i rs) ≡ length rs
length_start m i [] = refl
length_start m i (r ∷ rs) = ap suc (length_start m (suc i) rs)

pub start_solved : (n : ℕ) (rs : List (List ℤ)) → rows_proper n rs ≡ true → Solved (start_lines (length rs) 0 rs)
start_solved n rs a =
    let m = length rs in
    let r : ℕ → List ℤ = λ j. get_or rs j [] in
    record {
      own = λ i g.
          let h : i < m = subst (λ (k : ℕ). i < k) (length_start m 0 rs) g in
          let e : get_or (r i ++ single m i (negsuc 0)) (length (r i) + i) (pos 0) ≡ negsuc 0 =
          get_or-append-add (r i) (single m i (negsuc 0)) i (pos 0) ∙ single_own m i (negsuc 0) h in
          subst (λ (x : Line). get_or x.nums x.basic (pos 0) <ℤ pos 0) (sym (start_at m rs i h)) (subst (λ (z : ℤ). z <ℤ pos 0) (sym e) (omega (arith, ints)));
      other = λ i j g k d.
          let h : i < m = subst (λ (q : ℕ). i < q) (length_start m 0 rs) g in
          let l : j < m = subst (λ (q : ℕ). j < q) (length_start m 0 rs) k in
          let s : length (r j) + j ≡ length (r i) + j = ap (λ q. q + j) (row_length n rs j a l ∙ sym (row_length n rs i a h)) in
          let e : get_or (r i ++ single m i (negsuc 0)) (length (r j) + j) (pos 0) ≡ pos 0 =
          ap (λ q. get_or (r i ++ single m i (negsuc 0)) q (pos 0)) s ∙ get_or-append-add (r i) (single m i (negsuc 0)) j (pos 0) ∙ single_other m i j (negsuc 0) d in
          subst (λ (x : Line). get_or x.nums (get_or (start_lines m 0 rs) j blank).basic (pos 0) ≡ pos 0) (sym (start_at m rs i h))
          (subst (λ (y : Line). get_or (r i ++ single m i (negsuc 0)) y.basic (pos 0) ≡ pos 0) (sym (start_at m rs j l)) e);
    }
