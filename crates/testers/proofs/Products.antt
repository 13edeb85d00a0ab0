-- A product of small numbers, as the code computes it.
use Rattle.std.proofs.Common.{◌≡◌, ℕ, ◌+◌, ◌*◌, ◌<◌, ◌≤◌, ◌+ℤ◌, ℤ, pos, negsuc, ◌*ℤ◌, nat_abs, refl, mul-le-mul, arith, w64, SFits, to_z, of_z}
use borrow.Author.Differences.{ints}
use Rattle.std.proofs.lemmas.Int.{to_z-of_z}

pub abs_mul : (a b : ℤ) → nat_abs (a *ℤ b) ≡ nat_abs a * nat_abs b
abs_mul (pos a) (pos b) = refl
abs_mul (pos a) (negsuc b) = omega (arith, ints)
abs_mul (negsuc a) (pos b) = omega (arith, ints)
abs_mul (negsuc a) (negsuc b) = refl

pub product_small : (m n : ℕ) (a b : ℤ) → nat_abs a ≤ m → nat_abs b ≤ n → nat_abs (a *ℤ b) ≤ m * n
product_small m n a b h k = rw abs_mul (mul-le-mul h k)

-- to 64 bits and back
pub fits : (z : ℤ) → nat_abs z ≤ 9000000000000000000 → SFits w64 z
fits z h = omega (arith, ints)

pub back : (z : ℤ) → nat_abs z ≤ 9000000000000000000 → to_z w64 (of_z w64 z) ≡ z
back z h = to_z-of_z w64 z (fits z h)

-- a coefficient times an end of a variable
pub term_small : (a x : ℤ) → nat_abs a ≤ 100 → nat_abs x ≤ 100000 → nat_abs (a *ℤ x) ≤ 10000000
term_small a x h k = product_small 100 100000 a x h k

pub term_fits : (a x : ℤ) → nat_abs a ≤ 100 → nat_abs x ≤ 100000 → SFits w64 (to_z w64 (of_z w64 a) *ℤ to_z w64 (of_z w64 x))
term_fits a x h k = rw (back a (omega arith), back x (omega arith)) (fits (a *ℤ x) (omega (arith, term_small a x h k)))

pub term_back : (a x : ℤ) → nat_abs a ≤ 100 → nat_abs x ≤ 100000 → to_z w64 (of_z w64 (to_z w64 (of_z w64 a) *ℤ to_z w64 (of_z w64 x))) ≡ a *ℤ x
term_back a x h k = rw (back a (omega arith), back x (omega arith)) (back (a *ℤ x) (omega (arith, term_small a x h k)))

-- a term more in a sum of at most 12
module _ (x t : ℤ) (i : ℕ) (s : nat_abs x ≤ i * 10000000) (k : i < 12) (h : nat_abs t ≤ 10000000) where
  pub sum_fits : SFits w64 (to_z w64 (of_z w64 x) +ℤ to_z w64 (of_z w64 t))
  sum_fits = rw (back x (omega arith), back t (omega arith)) (omega (arith, ints))

  pub sum_back : to_z w64 (of_z w64 (to_z w64 (of_z w64 x) +ℤ to_z w64 (of_z w64 t))) ≡ x +ℤ t
  sum_back = rw (back x (omega arith), back t (omega arith)) (back (x +ℤ t) (omega (arith, ints)))

  pub sum_small : nat_abs (to_z w64 (of_z w64 (to_z w64 (of_z w64 x) +ℤ to_z w64 (of_z w64 t)))) ≤ (i + 1) * 10000000
  sum_small = rw sum_back (omega (arith, ints))
