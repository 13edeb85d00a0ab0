-- A loop over the coefficients of a row and the variables: what is known of the pair that it took.
use Rattle.std.proofs.Common.{◌≡◌, ℕ, ◌<◌, ◌≤◌, true, List, length, get_or, ℤ, pos, nat_abs, Some, Option, arith}
use denote.Ref.{Bor}
use Rattle.std.proofs.Common.{Iter}
use Rattle.std.proofs.iter.Yields.{fronts}
use Rattle.std.proofs.lemmas.Iterator.{zips}
use Rattle.std.proofs.lemmas.Slice.Zip.{zip_turn}
use Rattle.std.specs.Iterator.{Yields}
use Rattle.std.specs.Iterator.Adapters.{zip_first, zip_second}
use Rattle.std.specs.Slice.Iter.{iter_rest}
use Rattle.std.specs.declared.iter.Zip.{Zip}
use Rattle.problems.specs.declared.quantity.Span.{Span}
use Rattle.problems.specs.Box.{nowhere}
use Rattle.problems.specs.Ranges.{span_proper}
use Rattle.testers.specs.declared.row_in_box.RowInBox.{RowInBox}
use Rattle.testers.proofs.Extremes.{coef_is, span_is}

-- the pair at place i
pub record Turn (row : RowInBox) (i : ℕ) (a : ℤ) (s : Span) : Type 0 where
  pub in_coefs : i < length row.coefs.now
  pub in_vars : i < length row.vars.now
  pub below : i < 12
  pub coef : a ≡ get_or row.coefs.now i (pos 0)
  pub span : s ≡ get_or row.vars.now i nowhere
  pub small : nat_abs a ≤ 100
  pub proper : span_proper s ≡ true

pub turn : (row : RowInBox) (xs : List (Bor ℤ × Bor Span)) (s t u : Zip (Iter ℤ) (Iter Span)) (r : Option (Bor ℤ × Bor Span)) (p : Bor ℤ × Bor Span) → iter_rest (zip_first s) ≡ row.coefs.now → iter_rest (zip_second s) ≡ row.vars.now
    → Yields (zips fronts fronts) s xs t → r ≡ Some p → zips fronts fronts t r u → Turn row (length xs) p.0.now p.1.now
turn row xs s t u r p first second y e z =
    let w = zip_turn row.coefs.now row.vars.now xs s t u r first second y p e z in
    record {
      in_coefs = w.0;
      in_vars = w.1;
      below = omega (arith, w.0, row.few);
      coef = w.2 (pos 0);
      span = w.3 nowhere;
      small = coef_is row.coefs.now (length xs) p.0.now (w.2 (pos 0)) row.coefficients;
      proper = span_is row.vars.now (length xs) p.1.now (w.3 nowhere) row.spans;
    }
