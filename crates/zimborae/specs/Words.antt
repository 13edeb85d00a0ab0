-- What the words of a line write.
use Rattle.std.specs.Prelude.{◌≡◌, ℕ, ◌%◌, cond, List, [], ◌∷◌, length, ℤ, codes, Option, MatchOption, FitsSigned, ◌==◌, ◌≢◌, slice_index}
use Rattle.std.specs.Int.{w64}
use Rattle.std.specs.Option.{SomeIff}
use Rattle.std.specs.Str.Parse.{IsNumeral, without_leading_sign, signed_digits_value}
use Rattle.problems.specs.declared.quantity.Span.{Span}

-- the bytes are one digit or more, with a minus before them or none, and the number fits 64 bits
abbrev pub Numeric : List ℕ → Type 0
Numeric bs = (slice_index bs 0 ≢ 43) × IsNumeral 10 (without_leading_sign bs) × FitsSigned w64 (signed_digits_value 10 bs)

-- r is the number where the bytes write one, and nothing else
abbrev pub WritesNumber : List ℕ → Option ℤ → Type 0
WritesNumber bs r = SomeIff r (Numeric bs) (signed_digits_value 10 bs)

-- r is the end where the bytes write one, absent for a minus alone, and nothing else
abbrev pub WritesEnd : List ℕ → Option (Option ℤ) → Type 0
WritesEnd bs r =
    MatchOption r
    ((bs ≢ codes "-") × (Numeric bs → ⊥))
    (λ e. MatchOption e (bs ≡ codes "-") (λ x. Numeric bs × (x ≡ signed_digits_value 10 bs)))

-- ---- lists of ends

-- two by two, without one that is left over
abbrev pub pairs : List ℤ → List Span
pairs [] = []
pairs (a ∷ []) = []
pairs (a ∷ b ∷ xs) = record { lower = a; upper = b } ∷ pairs xs

-- a list with one left over is not one of pairs
abbrev pub paired : List ℤ → List Span
paired xs = cond (length xs % 2 == 0) (pairs xs) []
