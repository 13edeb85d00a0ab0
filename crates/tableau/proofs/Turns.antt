-- The line of the entering quantity, and a line from which it is taken out: they hold at the same points as before, are as long, and have no common divisor but 1.
use Rattle.std.proofs.Common.{◌≡◌, ℕ, suc, List, [], ◌∷◌, length, get_or, ℤ, pos, negsuc, ◌+ℤ◌, ◌*ℤ◌, neg_ℤ, nat_abs, ◌<ℤ◌, sym, refl, ap, ◌∙◌, one-mul, arith}
use lib.IntN.{*ℤ-zero}
use borrow.Author.Differences.{ints}
use Rattle.problems.specs.Whole.{is_zero, positive}
use Rattle.problems.specs.Rows.{dot, add, scale}
use Rattle.testers.specs.Ring.{lin}
use Rattle.testers.specs.Dots.{dot_add, dot_scale}
use Rattle.testers.specs.Halves.{length_scale}
use Rattle.testers.proofs.Products.{abs_mul}
use Rattle.tableau.specs.declared.line.Line.{Line}
use Rattle.tableau.specs.Lines.{reduced, turned, cleared}
use Rattle.tableau.specs.Sound.{DividesAll}
use Rattle.tableau.proofs.Reduces.{reduced_multiple, length_reduced, multiple_holds, multiple_back, zero_factor, reduced_coprime}
use Rattle.tableau.proofs.Solves.{mixed, reduced_zero, mixed_negative, zero_sum}
use Rattle.std.proofs.lemmas.Bool.{cond_both}

-- only 1 divides every number
abbrev pub Coprime : List ℤ → Type 0
Coprime r = (h : ℕ) → DividesAll h r → h ≡ 1

-- ---- the line of the entering quantity

pub turned_holds : (q : ℕ) (l : Line) (z : List ℤ) → dot l.nums z ≡ pos 0 → dot (turned q l).nums z ≡ pos 0
turned_holds q l z e =
    cond_both (positive (get_or l.nums q (pos 0))) (scale (negsuc 0) l.nums) l.nums (λ (x : List ℤ). dot x z ≡ pos 0)
    (λ _. dot_scale (negsuc 0) l.nums z ∙ ap (λ a. negsuc 0 *ℤ a) e) (λ _. e)

pub turned_back : (q : ℕ) (l : Line) (z : List ℤ) → dot (turned q l).nums z ≡ pos 0 → dot l.nums z ≡ pos 0
turned_back q l z =
    cond_both (positive (get_or l.nums q (pos 0))) (scale (negsuc 0) l.nums) l.nums (λ (x : List ℤ). dot x z ≡ pos 0 → dot l.nums z ≡ pos 0)
    (λ _ e. let k = sym (dot_scale (negsuc 0) l.nums z) ∙ e in omega (arith, ints)) (λ _ e. e)

pub length_turned : (q : ℕ) (l : Line) → length (turned q l).nums ≡ length l.nums
length_turned q l =
    cond_both (positive (get_or l.nums q (pos 0))) (scale (negsuc 0) l.nums) l.nums (λ (x : List ℤ). length x ≡ length l.nums)
    (λ _. length_scale (negsuc 0) l.nums) (λ _. refl)

negated_divides : (h : ℕ) (r : List ℤ) → DividesAll h (scale (negsuc 0) r) → DividesAll h r
negated_divides h [] d = tt
negated_divides h (a ∷ r) d =
    let e : nat_abs a ≡ nat_abs (negsuc 0 *ℤ a) = sym (abs_mul (negsuc 0) a ∙ one-mul (nat_abs a)) in
    ((d.0.0, e ∙ d.0.1), negated_divides h r d.1)

pub turned_coprime : (q : ℕ) (l : Line) → Coprime l.nums → Coprime (turned q l).nums
turned_coprime q l c =
    cond_both (positive (get_or l.nums q (pos 0))) (scale (negsuc 0) l.nums) l.nums Coprime (λ _ h d. c h (negated_divides h l.nums d)) (λ _. c)

-- ---- a line from which it is taken out

dot_mix : (p c : ℤ) (r t z : List ℤ) → dot (add (scale p r) (scale c t)) z ≡ p *ℤ dot r z +ℤ c *ℤ dot t z
dot_mix p c r t z =
    dot_add (scale p r) (scale c t) z ∙ ap (λ a. a +ℤ dot (scale c t) z) (dot_scale p r z) ∙ ap (λ a. p *ℤ dot r z +ℤ a) (dot_scale c t z)

pub cleared_holds : (q : ℕ) (t r z : List ℤ) → dot t z ≡ pos 0 → dot r z ≡ pos 0 → dot (cleared q t r) z ≡ pos 0
cleared_holds q t r z et er =
    let p = neg_ℤ (get_or t q (pos 0)) in
    let c = get_or r q (pos 0) in
    let sum = add (scale p r) (scale c t) in
    cond_both (is_zero c) r (mixed q t r) (λ (x : List ℤ). dot x z ≡ pos 0) (λ _. er)
    (λ _. multiple_holds sum (reduced sum) z (reduced_multiple sum) (dot_mix p c r t z ∙ zero_sum p c (dot r z) (dot t z) er et))

first_zero : (a c x y : ℤ) → a <ℤ pos 0 → y ≡ pos 0 → neg_ℤ a *ℤ x +ℤ c *ℤ y ≡ pos 0 → x ≡ pos 0
first_zero (pos n) c x y h f e = absurd (omega (arith, ints))
first_zero (negsuc n) c x y h f e = zero_factor n x (omega (arith, lin, e, ap (λ b. c *ℤ b) f, *ℤ-zero c))

pub cleared_back : (q : ℕ) (t r z : List ℤ) → get_or t q (pos 0) <ℤ pos 0 → dot t z ≡ pos 0 → dot (cleared q t r) z ≡ pos 0 → dot r z ≡ pos 0
cleared_back q t r z ht et =
    let a = get_or t q (pos 0) in
    let c = get_or r q (pos 0) in
    let sum = add (scale (neg_ℤ a) r) (scale c t) in
    cond_both (is_zero c) r (mixed q t r) (λ (x : List ℤ). dot x z ≡ pos 0 → dot r z ≡ pos 0) (λ _ e. e)
    (λ _ e. first_zero a c (dot r z) (dot t z) ht et (sym (dot_mix (neg_ℤ a) c r t z) ∙ multiple_back sum (reduced sum) z (reduced_multiple sum) e))

length_add : (a b : List ℤ) → length a ≡ length b → length (add a b) ≡ length b
length_add [] b h = refl
length_add (a ∷ av) [] h = h
length_add (a ∷ av) (b ∷ bv) h = ap suc (length_add av bv (omega arith))

pub length_cleared : (q : ℕ) (t r : List ℤ) (k : ℕ) → length t ≡ k → length r ≡ k → length (cleared q t r) ≡ k
length_cleared q t r k ht hr =
    let p = neg_ℤ (get_or t q (pos 0)) in
    let c = get_or r q (pos 0) in
    let sum = add (scale p r) (scale c t) in
    let lp = length_scale p r ∙ hr in
    let lc = length_scale c t ∙ ht in
    cond_both (is_zero c) r (mixed q t r) (λ (x : List ℤ). length x ≡ k) (λ _. hr) (λ _. length_reduced sum ∙ length_add (scale p r) (scale c t) (lp ∙ sym lc) ∙ lc)

pub cleared_coprime : (q : ℕ) (t r : List ℤ) (j : ℕ) → get_or t q (pos 0) <ℤ pos 0 → get_or t j (pos 0) ≡ pos 0 → get_or r j (pos 0) <ℤ pos 0
    → Coprime r → Coprime (cleared q t r)
cleared_coprime q t r j ht et hr cr =
    let sum = add (scale (neg_ℤ (get_or t q (pos 0))) r) (scale (get_or r q (pos 0)) t) in
    cond_both (is_zero (get_or r q (pos 0))) r (mixed q t r) Coprime (λ _. cr)
    (λ _. reduced_coprime sum j (λ e. let m = mixed_negative q t r j ht et hr in let z = reduced_zero sum j e in absurd (omega (arith, ints))))
