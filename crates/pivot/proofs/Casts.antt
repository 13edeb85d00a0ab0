-- What the code's numbers come to, to their bits and back.
use Rattle.std.proofs.Common.{◌≡◌, ℕ, ◌+◌, ◌*◌, ◌≤◌, ℤ, pos, ◌+ℤ◌, ◌-ℤ◌, ◌*ℤ◌, neg_ℤ, nat_abs, arith, w64, SFits, to_z, of_z}
use borrow.Author.Differences.{ints}
use Rattle.testers.proofs.Products.{product_small, fits, back}
use Rattle.pivot.proofs.Walks.{abs_add}

-- a product
pub mul_fits : (m n : ℕ) (p x : ℤ) → nat_abs p ≤ m → nat_abs x ≤ n → m * n ≤ 9000000000000000000 → n ≤ 9000000000000000000 → SFits w64 (p *ℤ to_z w64 (of_z w64 x))
mul_fits m n p x h k l b = rw (back x (omega arith)) (fits (p *ℤ x) (omega (arith, product_small m n p x h k)))

-- the sum of two products of numbers up to 1,000,000,000
pub mixed : (p x c y : ℤ) → nat_abs p ≤ 1000000000 → nat_abs x ≤ 1000000000 → nat_abs c ≤ 1000000000 → nat_abs y ≤ 1000000000
    → to_z w64 (of_z w64 (p *ℤ to_z w64 (of_z w64 x))) +ℤ to_z w64 (of_z w64 (c *ℤ to_z w64 (of_z w64 y))) ≡ p *ℤ x +ℤ c *ℤ y
mixed p x c y hp hx hc hy =
    let e = product_small 1000000000 1000000000 p x hp hx in
    let f = product_small 1000000000 1000000000 c y hc hy in
    rw (back x (omega arith), back y (omega arith), back (p *ℤ x) (omega arith), back (c *ℤ y) (omega arith))

pub mixed_small : (p x c y : ℤ) → nat_abs p ≤ 1000000000 → nat_abs x ≤ 1000000000 → nat_abs c ≤ 1000000000 → nat_abs y ≤ 1000000000
    → nat_abs (p *ℤ x +ℤ c *ℤ y) ≤ 2000000000000000000
mixed_small p x c y hp hx hc hy =
    let e = product_small 1000000000 1000000000 p x hp hx in
    let f = product_small 1000000000 1000000000 c y hc hy in
    omega (arith, abs_add (p *ℤ x) (c *ℤ y))

pub term_small : (s a x : ℤ) (i : ℕ) → nat_abs s ≤ i * 200000000000000000 → nat_abs a ≤ 1000000000 → nat_abs x ≤ 200000000
    → nat_abs (s +ℤ a *ℤ x) ≤ (i + 1) * 200000000000000000
term_small s a x i h ha hx =
    let e = product_small 1000000000 200000000 a x ha hx in
    omega (arith, abs_add s (a *ℤ x))

pub mixed_back : (p x c y : ℤ) → nat_abs p ≤ 1000000000 → nat_abs x ≤ 1000000000 → nat_abs c ≤ 1000000000 → nat_abs y ≤ 1000000000
    → to_z w64 (of_z w64 (to_z w64 (of_z w64 (p *ℤ to_z w64 (of_z w64 x))) +ℤ to_z w64 (of_z w64 (c *ℤ to_z w64 (of_z w64 y))))) ≡ p *ℤ x +ℤ c *ℤ y
mixed_back p x c y hp hx hc hy =
    rw (mixed p x c y hp hx hc hy) (back (p *ℤ x +ℤ c *ℤ y) (omega (arith, mixed_small p x c y hp hx hc hy)))

-- a denominator times an end
pub times_small : (d e : ℤ) → nat_abs d ≤ 1000000000 → nat_abs e ≤ 200000000 → nat_abs (d *ℤ e) ≤ 200000000000000000
times_small d e h k = product_small 1000000000 200000000 d e h k

pub times_fits : (d e : ℤ) → nat_abs d ≤ 1000000000 → nat_abs e ≤ 200000000 → SFits w64 (to_z w64 (of_z w64 d) *ℤ to_z w64 (of_z w64 e))
times_fits d e h k = rw (back d (omega arith), back e (omega arith)) (fits (d *ℤ e) (omega (arith, times_small d e h k)))

pub times_back : (d e : ℤ) → nat_abs d ≤ 1000000000 → nat_abs e ≤ 200000000 → to_z w64 (of_z w64 (to_z w64 (of_z w64 d) *ℤ to_z w64 (of_z w64 e))) ≡ d *ℤ e
times_back d e h k = rw (back d (omega arith), back e (omega arith)) (back (d *ℤ e) (omega (arith, times_small d e h k)))

-- a number turned
pub small_neg : (a : ℤ) → nat_abs a ≤ 1000000000 → nat_abs (neg_ℤ a) ≤ 1000000000
small_neg a h = omega (arith, ints)

pub neg_back : (a : ℤ) → nat_abs a ≤ 1000000000 → to_z w64 (of_z w64 (pos 0 -ℤ to_z w64 (of_z w64 a))) ≡ neg_ℤ a
neg_back a h = omega (arith, ints)

pub neg_fits : (a : ℤ) → nat_abs a ≤ 1000000000 → SFits w64 (pos 0 -ℤ to_z w64 (of_z w64 a))
neg_fits a h = omega (arith, ints)
