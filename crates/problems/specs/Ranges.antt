-- The ranges of a problem's numbers, and the order of its ends.
use Rattle.std.specs.Prelude.{ℕ, Bool, true, ◌&&◌, List, [], ◌∷◌, length, ℤ, Some, None, Option, ◌==◌, int_le}
use Rattle.problems.specs.declared.quantity.Span.{Span}
use Rattle.problems.specs.declared.quantity.RowEnds.{RowEnds}
use Rattle.problems.specs.declared.quantity.Row.{Row}
use Rattle.problems.specs.Whole.{within, all_within}

-- lower end ≤ upper end, both in -100,000..100,000
abbrev pub span_proper : Span → Bool
span_proper s = int_le s.lower s.upper && within 100000 s.lower && within 100000 s.upper

abbrev pub spans_proper : List Span → Bool
spans_proper [] = true
spans_proper (s ∷ ss) = span_proper s && spans_proper ss

-- an absent end is no bound
abbrev pub in_order : Option ℤ → Option ℤ → Bool
in_order None u = true
in_order (Some l) None = true
in_order (Some l) (Some u) = int_le l u

-- absent, or in -200,000,000..200,000,000
abbrev pub in_reach : Option ℤ → Bool
in_reach None = true
in_reach (Some z) = within 200000000 z

-- lower end ≤ upper end where both are present, each in its range
abbrev pub ends_proper : RowEnds → Bool
ends_proper e = in_order e.lower e.upper && in_reach e.lower && in_reach e.upper

abbrev pub row_ends_proper : List RowEnds → Bool
row_ends_proper [] = true
row_ends_proper (e ∷ es) = ends_proper e && row_ends_proper es

-- n coefficients in -100..100
abbrev pub row_proper : ℕ → List ℤ → Bool
row_proper n r = length r == n && all_within 100 r

abbrev pub rows_proper : ℕ → List (List ℤ) → Bool
rows_proper n [] = true
rows_proper n (r ∷ rs) = row_proper n r && rows_proper n rs

abbrev pub coefs_of : Row → List ℤ
coefs_of r = r.coefs
