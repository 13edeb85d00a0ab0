-- Whole numbers: tests that compute.
use Rattle.std.specs.Prelude.{ℕ, zero, suc, ◌%◌, Bool, true, false, ◌&&◌, List, [], ◌∷◌, ℤ, pos, negsuc, ◌==◌, nat_le, unsigned_abs}

-- equal
abbrev pub eq_z : ℤ → ℤ → Bool
eq_z (pos a) (pos b) = a == b
eq_z (pos a) (negsuc b) = false
eq_z (negsuc a) (pos b) = false
eq_z (negsuc a) (negsuc b) = a == b

-- 0
abbrev pub is_zero : ℤ → Bool
is_zero z = eq_z z (pos 0)

-- above 0
abbrev pub positive : ℤ → Bool
positive (pos zero) = false
positive (pos (suc n)) = true
positive (negsuc n) = false

-- below 0
abbrev pub negative : ℤ → Bool
negative (pos n) = false
negative (negsuc n) = true

-- in -n..n
abbrev pub within : ℕ → ℤ → Bool
within n z = nat_le (unsigned_abs z) n

-- every number of the list is
abbrev pub all_within : ℕ → List ℤ → Bool
all_within n [] = true
all_within n (y ∷ ys) = within n y && all_within n ys

-- g divides a
abbrev pub divides : ℕ → ℤ → Bool
divides g a = unsigned_abs a % g == 0
