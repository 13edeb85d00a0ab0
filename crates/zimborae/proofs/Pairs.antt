-- Ends taken from a list two by two.
use Rattle.std.proofs.Common.{◌≡◌, ℕ, zero, suc, ◌*◌, ◌/◌, ◌%◌, List, [], ◌∷◌, length, get_or, map, ℤ, pos, refl, ap, arith}
use Rattle.std.specs.Simd.{first_chunks}
use Rattle.problems.specs.declared.quantity.Span.{Span}
use Rattle.zimborae.specs.Words.{pairs, paired}

abbrev pub span_of : List ℤ → Span
span_of pair = record { lower = get_or pair 0 (pos 0); upper = get_or pair 1 (pos 0) }

chunks_paired : (xs : List ℤ) (n : ℕ) → 2 * n ≡ length xs → map span_of (first_chunks 2 n xs) ≡ pairs xs
chunks_paired [] zero e = refl
chunks_paired [] (suc n) e = absurd (omega arith)
chunks_paired (a ∷ xs) zero e = absurd (omega arith)
chunks_paired (a ∷ []) (suc n) e = absurd (omega arith)
chunks_paired (a ∷ b ∷ xs) (suc n) e = ap (λ more. span_of (a ∷ b ∷ []) ∷ more) (chunks_paired xs n (omega arith))

-- an even list, taken as chunks of two
pub even_paired : (xs : List ℤ) → length xs % 2 ≡ 0 → map span_of (first_chunks 2 (length xs / 2) xs) ≡ paired xs
even_paired xs even = rw even (chunks_paired xs (length xs / 2) (omega arith))
