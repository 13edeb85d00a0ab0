-- The record's bytes: numbers are big-endian, four-byte ones two's complement.
use Rattle.std.specs.Prelude.{ℕ, suc, ◌+◌, ◌-◌, ◌*◌, ◌/◌, ◌%◌, ◌^◌, cond, List, [], ◌∷◌, ◌++◌, ℤ, pos, negsuc}
use Rattle.problems.specs.Whole.{is_zero}
use Rattle.testers.specs.Leaf.{Leaf}
use Rattle.testers.specs.Leaf.Leaf.{sum, divisor}

-- the 32 bits of a number in two's complement
abbrev pub bits : ℤ → ℕ
bits (pos n) = n
bits (negsuc n) = 2 ^ 32 - suc n

abbrev pub three_bytes : ℕ → List ℕ
three_bytes n = n / 65536 % 256 ∷ n / 256 % 256 ∷ n % 256 ∷ []

abbrev pub four_bytes : ℤ → List ℕ
four_bytes z = let n = bits z in n / 16777216 % 256 ∷ three_bytes n

-- the map of the multipliers that are not 0, the lowest bit the first
abbrev pub map_of : List ℤ → ℕ
map_of [] = 0
map_of (y ∷ ys) = cond (is_zero y) 0 1 + 2 * map_of ys

abbrev pub multipliers : List ℤ → List ℕ
multipliers [] = []
multipliers (y ∷ ys) = cond (is_zero y) (multipliers ys) (four_bytes y ++ multipliers ys)

abbrev pub leaf_bytes : Leaf → List ℕ
leaf_bytes (sum ys zs) = 2 ∷ three_bytes (map_of (ys ++ zs)) ++ multipliers (ys ++ zs)
leaf_bytes (divisor i g) = 3 ∷ suc i ∷ g ∷ []

abbrev pub split_bytes : ℕ → ℤ → List ℕ
split_bytes v k = 1 ∷ suc v ∷ four_bytes k
