-- The greatest common divisor.
use Rattle.std.specs.Prelude.{◌≡◌, ℕ, zero, suc, ◌*◌, ◌%◌}

-- by at most k of Euclid's steps; b of them suffice
abbrev pub gcd_by : ℕ → ℕ → ℕ → ℕ
gcd_by zero a b = a
gcd_by (suc k) a zero = a
gcd_by (suc k) a (suc b) = gcd_by k (suc b) (a % suc b)

abbrev pub gcd : ℕ → ℕ → ℕ
gcd a b = gcd_by b a b

abbrev pub Divides : ℕ → ℕ → Type 0
Divides d a = (q : ℕ) × (a ≡ d * q)

-- g divides both, and whatever divides both divides g
pub record GreatestCommon (a b g : ℕ) : Type 0 where
  pub first : Divides g a
  pub second : Divides g b
  pub greatest : (d : ℕ) → Divides d a → Divides d b → Divides d g
