-- A list of numbers divided by their greatest common divisor: the same list up to a factor, and no common divisor is left but 1.
use Rattle.std.proofs.Common.{◌≡◌, ℕ, zero, suc, ◌+◌, ◌*◌, ◌<◌, ◌≤◌, ltb, List, [], ◌∷◌, length, get_or, ℤ, pos, negsuc, ◌+ℤ◌, ◌*ℤ◌, neg_ℤ, nat_abs, ◌≤ℤ◌, ◌<ℤ◌, sym, refl, ap, ◌∙◌, subst, not-suc-le-zero, arith}
use native.Mathlib.Nat.{le_of_mul-le-mul_left, eq_of_mul-eq-mul_left}
use lib.IntN.{*ℤ-zero}
use borrow.Author.Differences.{ints, up, down, at_most_in}
use Rattle.std.specs.Int.{int_div_euclid}
use Rattle.std.proofs.lemmas.Int.{by_lt_z}
use Rattle.std.proofs.lemmas.Bool.{ltb-true, ltb-false, cond_both}
use Rattle.problems.specs.Rows.{scale, dot}
use Rattle.testers.specs.Gcd.{gcd, Divides}
use Rattle.testers.proofs.Gcds.{gcd_is_greatest, divides_through}
use Rattle.testers.specs.Ring.{lin, mul_neg, mul_mono}
use Rattle.testers.specs.Dots.{dot_scale}
use Rattle.testers.specs.Halves.{scale_one}
use Rattle.testers.specs.Leaves.{floor}
use Rattle.testers.proofs.Products.{abs_mul}
use Rattle.tableau.specs.Lines.{gcd_all, divide_all, reduced}
use Rattle.tableau.specs.Sound.{DividesAll}

-- ---- exact division

cancel_le : (n : ℕ) (a b : ℤ) → (pos (suc n) *ℤ a) ≤ℤ (pos (suc n) *ℤ b) → a ≤ℤ b
cancel_le n a b h = let p : suc n * (up a + down b) ≤ suc n * (up b + down a) = omega (arith, ints) in at_most_in a b (le_of_mul-le-mul_left p (omega arith))

exact : (n : ℕ) (a k : ℤ) → a ≡ pos (suc n) *ℤ k → int_div_euclid a (pos (suc n)) ≡ k
exact n a k e =
    let f = floor a n in
    let m = int_div_euclid a (pos (suc n)) in
    let le = cancel_le n m k (subst (λ z. (pos (suc n) *ℤ m) ≤ℤ z) e f.0) in
    by_lt_z m k
    (λ lt. let up : (m +ℤ pos 1) ≤ℤ k = omega (arith, lin) in
    let p = mul_mono (suc n) (m +ℤ pos 1) k up in
    let q = subst (λ z. z <ℤ (pos (suc n) *ℤ (m +ℤ pos 1))) e f.1 in
    absurd (omega (arith, lin)))
    (λ ge. omega (arith, lin))

signed_divides : (g : ℕ) (a : ℤ) → Divides g (nat_abs a) → (k : ℤ) × (a ≡ pos g *ℤ k)
signed_divides g (pos n) p = (pos p.0, ap pos p.1)
signed_divides g (negsuc n) p = (neg_ℤ (pos p.0), let e = p.1 in sym (mul_neg (pos g) (pos p.0) ∙ ap (λ m. neg_ℤ (pos m)) (sym e)))

divided_exactly : (n : ℕ) (a : ℤ) → Divides (suc n) (nat_abs a) → pos (suc n) *ℤ int_div_euclid a (pos (suc n)) ≡ a
divided_exactly n a d = let s = signed_divides (suc n) a d in ap (λ k. pos (suc n) *ℤ k) (exact n a s.0 s.1) ∙ sym s.1

divided_back : (n : ℕ) (r : List ℤ) → DividesAll (suc n) r → scale (pos (suc n)) (divide_all (pos (suc n)) r) ≡ r
divided_back n [] d = refl
divided_back n (a ∷ r) d =
    ap (λ z. z ∷ scale (pos (suc n)) (divide_all (pos (suc n)) r)) (divided_exactly n a d.0) ∙ ap (λ t. a ∷ t) (divided_back n r d.1)

-- ---- the greatest common divisor of all

pub gcd_all_divides : (g : ℕ) (r : List ℤ) → Divides (gcd_all g r) g × DividesAll (gcd_all g r) r
gcd_all_divides g [] = ((1, omega arith), tt)
gcd_all_divides g (a ∷ r) =
    let rest = gcd_all_divides (gcd (nat_abs a) g) r in
    let here = gcd_is_greatest (nat_abs a) g in
    (divides_through _ _ g rest.0 here.second, (divides_through _ _ (nat_abs a) rest.0 here.first, rest.1))

pub gcd_all_greatest : (d g : ℕ) (r : List ℤ) → Divides d g → DividesAll d r → Divides d (gcd_all g r)
gcd_all_greatest d g [] p q = p
gcd_all_greatest d g (a ∷ r) p q = gcd_all_greatest d (gcd (nat_abs a) g) r ((gcd_is_greatest (nat_abs a) g).greatest d q.0 p) q.1

-- ---- up to a factor the same list

-- r is a positive factor times s
pub record Multiple (r s : List ℤ) : Type 0 where
  pub less_one : ℕ
  pub same : r ≡ scale (pos (suc less_one)) s

divided_multiple : (g : ℕ) (r : List ℤ) → 1 < g → DividesAll g r → Multiple r (divide_all (pos g) r)
divided_multiple zero r h d = absurd (not-suc-le-zero h)
divided_multiple (suc n) r h d = record { less_one = n; same = sym (divided_back n r d) }

pub reduced_multiple : (r : List ℤ) → Multiple r (reduced r)
reduced_multiple r =
    let g = gcd_all 0 r in
    cond_both (ltb 1 g) (divide_all (pos g) r) r (Multiple r) (λ y. divided_multiple g r (ltb-true 1 g y) (gcd_all_divides 0 r).1)
    (λ _. record { less_one = 0; same = sym (scale_one r) })

length_divide : (g : ℤ) (r : List ℤ) → length (divide_all g r) ≡ length r
length_divide g [] = refl
length_divide g (a ∷ r) = ap suc (length_divide g r)

pub length_reduced : (r : List ℤ) → length (reduced r) ≡ length r
length_reduced r =
    let g = gcd_all 0 r in
    cond_both (ltb 1 g) (divide_all (pos g) r) r (λ (x : List ℤ). length x ≡ length r) (λ _. length_divide (pos g) r) (λ _. refl)

multiple_dot : (r s x : List ℤ) (m : Multiple r s) → dot r x ≡ pos (suc m.less_one) *ℤ dot s x
multiple_dot r s x m = ap (λ (t : List ℤ). dot t x) m.same ∙ dot_scale (pos (suc m.less_one)) s x

pub zero_factor : (n : ℕ) (a : ℤ) → pos (suc n) *ℤ a ≡ pos 0 → a ≡ pos 0
zero_factor n (pos zero) e = refl
zero_factor n (pos (suc k)) e = absurd (omega (arith, ints))
zero_factor n (negsuc k) e = absurd (omega (arith, ints))

pub multiple_holds : (r s x : List ℤ) → Multiple r s → dot r x ≡ pos 0 → dot s x ≡ pos 0
multiple_holds r s x m e = zero_factor m.less_one (dot s x) (sym (multiple_dot r s x m) ∙ e)

pub multiple_back : (r s x : List ℤ) → Multiple r s → dot s x ≡ pos 0 → dot r x ≡ pos 0
multiple_back r s x m e = multiple_dot r s x m ∙ ap (λ z. pos (suc m.less_one) *ℤ z) e ∙ *ℤ-zero (pos (suc m.less_one))

-- ---- no common divisor is left

one_factor : (h q : ℕ) → 1 ≡ h * q → h ≡ 1
one_factor zero q e = absurd (omega arith)
one_factor (suc zero) q e = refl
one_factor (suc (suc h)) zero e = absurd (omega arith)
one_factor (suc (suc h)) (suc q) e = absurd (omega arith)

pub divides_one : (h : ℕ) → Divides h 1 → h ≡ 1
divides_one h d = one_factor h d.0 d.1

own_multiple : (n h q : ℕ) → suc n ≡ (suc n * h) * q → h ≡ 1
own_multiple n h q e = one_factor h q (eq_of_mul-eq-mul_left (suc n) (omega arith) 1 (h * q) (omega (arith, e)))

divided_more : (n h : ℕ) (r : List ℤ) → DividesAll (suc n) r → DividesAll h (divide_all (pos (suc n)) r) → DividesAll (suc n * h) r
divided_more n h [] d e = tt
divided_more n h (a ∷ r) d e =
    let s = divided_exactly n a d.0 in
    let b = int_div_euclid a (pos (suc n)) in
    let m : nat_abs a ≡ suc n * nat_abs b = ap nat_abs (sym s) ∙ abs_mul (pos (suc n)) b in
    let q = e.0.0 in
    let f = e.0.1 in
    ((q, m ∙ ap (λ k. suc n * k) f ∙ omega arith), divided_more n h r d.1 e.1)

divided_coprime : (g h : ℕ) (r : List ℤ) → g ≡ gcd_all 0 r → 1 < g → DividesAll h (divide_all (pos g) r) → h ≡ 1
divided_coprime zero h r e l d = absurd (not-suc-le-zero l)
divided_coprime (suc n) h r e l d =
    let all = subst (λ k. DividesAll k r) (sym e) (gcd_all_divides 0 r).1 in
    let m = gcd_all_greatest (suc n * h) 0 r (0, omega arith) (divided_more n h r all d) in
    own_multiple n h m.0 (e ∙ m.1)

pub divides_at : (g : ℕ) (r : List ℤ) (j : ℕ) → DividesAll g r → Divides g (nat_abs (get_or r j (pos 0)))
divides_at g [] j d = (0, omega arith)
divides_at g (a ∷ r) zero d = d.0
divides_at g (a ∷ r) (suc j) d = divides_at g r j d.1

pub no_size : (a : ℤ) → nat_abs a ≡ 0 → a ≡ pos 0
no_size (pos n) e = ap pos e
no_size (negsuc n) e = absurd (omega arith)

gcd_one : (g : ℕ) (r : List ℤ) (j : ℕ) → g ≤ 1 → DividesAll g r → (get_or r j (pos 0) ≡ pos 0 → ⊥) → g ≡ 1
gcd_one zero r j l d n = let e = divides_at 0 r j d in absurd (n (no_size _ (e.1 ∙ omega arith)))
gcd_one (suc zero) r j l d n = refl
gcd_one (suc (suc g)) r j l d n = absurd (omega arith)

pub reduced_coprime : (r : List ℤ) (j : ℕ) → (get_or r j (pos 0) ≡ pos 0 → ⊥) → (h : ℕ) → DividesAll h (reduced r) → h ≡ 1
reduced_coprime r j n h =
    let g = gcd_all 0 r in
    cond_both (ltb 1 g) (divide_all (pos g) r) r (λ (x : List ℤ). DividesAll h x → h ≡ 1) (λ y. divided_coprime g h r refl (ltb-true 1 g y))
    (λ y d. divides_one h (subst (Divides h) (gcd_one g r j (ltb-false 1 g y) (gcd_all_divides 0 r).1 n) (gcd_all_greatest h 0 r (0, omega arith) d)))
