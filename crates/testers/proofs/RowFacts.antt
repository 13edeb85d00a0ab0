-- What is known of a row of a problem.
use Rattle.std.proofs.Common.{◌≡◌, ℕ, zero, suc, ◌<◌, ◌≤◌, true, List, [], ◌∷◌, length, get_or, ℤ, Some, None, Option, sym, refl, ap, ◌∙◌, arith}
use denote.Ref.{Bor}
use Rattle.std.specs.Option.{option_copied}
use Rattle.std.specs.Slice.{IsItemAt}
use Rattle.problems.specs.declared.quantity.Span.{Span}
use Rattle.problems.specs.declared.quantity.RowEnds.{RowEnds}
use Rattle.problems.specs.declared.problem.Problem.{Problem}
use Rattle.problems.specs.Whole.{all_within}
use Rattle.problems.specs.Ranges.{ends_proper, row_ends_proper, spans_proper}
use Rattle.problems.specs.Box.{no_ends}
use Rattle.problems.specs.View.{box_of, rows_of}
use Rattle.problems.proofs.Views.{proper, row_of}
use Rattle.testers.specs.Halves.{none_some, some_same}
use Rattle.std.proofs.lemmas.Bool.{and_parts}

-- the ends that `get` lends
pub got_ends : (es : List RowEnds) (i : ℕ) (r : Option (Bor RowEnds)) (e : RowEnds) → IsItemAt es i r → option_copied r ≡ Some e → (i < length es) × (e ≡ get_or es i no_ends)
got_ends es i None e g h = none_some e h
got_ends es i (Some x) e g h = (g.3.0, sym (some_same x.now e h) ∙ g.4 (omega arith) no_ends)

pub ends_at : (es : List RowEnds) (i : ℕ) → row_ends_proper es ≡ true → ends_proper (get_or es i no_ends) ≡ true
ends_at [] i h = refl
ends_at (e ∷ es) zero h = (and_parts (ends_proper e) (row_ends_proper es) h).0
ends_at (e ∷ es) (suc i) h = ends_at es i (and_parts (ends_proper e) (row_ends_proper es) h).1

-- row i, its coefficients and the variables
pub row_facts : (p : Problem) (i : ℕ) (es : List RowEnds) (r : List ℤ) (ss : List Span) → es ≡ (box_of p).rows → i < length es → r ≡ get_or (rows_of p) i [] → ss ≡ (box_of p).vars
    → (i < length (rows_of p)) × (i < 12) × (all_within 100 r ≡ true) × (spans_proper ss ≡ true) × (length r ≡ length ss) × (length r ≤ 12)
row_facts p i es r ss q h e v =
    let there : i < length (rows_of p) = omega (arith, ap length q, (proper p).ends_of_rows) in
    let row = row_of p i there in
    let l : length r ≡ length (box_of p).vars = ap length e ∙ row.0 in (
      there,
      omega (arith, (proper p).few_rows),
      ap (all_within 100) e ∙ row.1,
      ap spans_proper v ∙ (proper p).spans,
      l ∙ sym (ap length v),
      omega (arith, (proper p).few_variables),
    )
