-- Euclid's steps, one at a time, and what they come to: the greatest common divisor, no larger than either number.
use Rattle.std.proofs.Common.{◌≡◌, ℕ, zero, suc, ◌+◌, ◌-◌, ◌*◌, ◌/◌, ◌%◌, ◌<◌, ◌≤◌, refl, ap, ◌∙◌, not-suc-le-zero, arith}
use native.Mathlib.Nat.{mul-sub}
use Rattle.testers.specs.Gcd.{gcd_by, gcd, Divides, GreatestCommon}

enough : (k j a b : ℕ) → b ≤ k → b ≤ j → gcd_by k a b ≡ gcd_by j a b
enough zero zero a b h l = refl
enough zero (suc j) a zero h l = refl
enough zero (suc j) a (suc b) h l = absurd (not-suc-le-zero h)
enough (suc k) zero a zero h l = refl
enough (suc k) zero a (suc b) h l = absurd (not-suc-le-zero l)
enough (suc k) (suc j) a zero h l = refl
enough (suc k) (suc j) a (suc b) h l = enough k j (suc b) (a % suc b) (omega arith) (omega arith)

pub gcd_step : (a b : ℕ) → 0 < b → gcd b (a % b) ≡ gcd a b
gcd_step a zero h = absurd (not-suc-le-zero h)
gcd_step a (suc b) h = enough (a % suc b) b (suc b) (a % suc b) (omega arith) (omega arith)

pub gcd_small : (n k a b : ℕ) → a ≤ n → b ≤ n → gcd_by k a b ≤ n
gcd_small n zero a b h l = h
gcd_small n (suc k) a zero h l = h
gcd_small n (suc k) a (suc b) h l = gcd_small n k (suc b) (a % suc b) l (omega arith)

step_up : (a b g p q : ℕ) → suc b ≡ g * p → a % suc b ≡ g * q → a ≡ g * (p * (a / suc b) + q)
step_up a b g p q h k = omega (arith, ap (λ m. m * (a / suc b)) h)

by_divides : (k a b : ℕ) → b ≤ k → Divides (gcd_by k a b) a × Divides (gcd_by k a b) b
by_divides zero a b h = ((1, omega arith), (0, omega arith))
by_divides (suc k) a zero h = ((1, omega arith), (0, omega arith))
by_divides (suc k) a (suc b) h =
    let r = by_divides k (suc b) (a % suc b) (omega arith) in
    ((_, step_up a b (gcd_by k (suc b) (a % suc b)) r.0.0 r.1.0 r.0.1 r.1.1), r.0)

-- what divides a and b divides the remainder
step_down : (a b d p q : ℕ) → a ≡ d * p → suc b ≡ d * q → a % suc b ≡ d * (p - q * (a / suc b))
step_down a b d p q h k = omega (arith, ap (λ m. m * (a / suc b)) k, mul-sub d p (q * (a / suc b)))

by_greatest : (k a b d : ℕ) → Divides d a → Divides d b → Divides d (gcd_by k a b)
by_greatest zero a b d p q = p
by_greatest (suc k) a zero d p q = p
by_greatest (suc k) a (suc b) d p q = by_greatest k (suc b) (a % suc b) d q (_, step_down a b d p.0 q.0 p.1 q.1)

pub gcd_is_greatest : (a b : ℕ) → GreatestCommon a b (gcd a b)
gcd_is_greatest a b =
    let r = by_divides b a b (omega arith) in
    record { first = r.0; second = r.1; greatest = λ d p q. by_greatest b a b d p q }

pub divides_through : (g d a : ℕ) → Divides g d → Divides d a → Divides g a
divides_through g d a p q = (p.0 * q.0, q.1 ∙ ap (λ n. n * q.0) p.1 ∙ omega arith)
