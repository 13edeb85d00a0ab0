-- Every draft that calls lead to is a proper problem.
use Rattle.std.proofs.Common.{◌≡◌, ℕ, ◌+◌, true, ltb, leb, List, [], ◌∷◌, ◌++◌, length, ℤ, Some, None, Ok, Option, sym, refl, ap, ◌∙◌, arith, lit≤}
use Rattle.std.proofs.lemmas.List.{length_push}
use Rattle.problems.specs.declared.quantity.Span.{Span}
use Rattle.problems.specs.declared.quantity.RowEnds.{RowEnds}
use Rattle.problems.specs.declared.refusal.Refused.{Refused}
use Rattle.problems.specs.Ranges.{spans_proper, ends_proper, row_proper, rows_proper}
use Rattle.problems.specs.Box.{Proper}
use Rattle.problems.specs.Stated.{Stated, one_point, without_rows, with_row, may_vary, may_add}
use Rattle.problems.proofs.Builds.{ends_push}
use Rattle.book.specs.Fault.{first_fault, replied}
use Rattle.book.specs.Draft.{new_faults, row_faults, left_by, draft_after, DraftCall, drafted}
use Rattle.book.specs.Draft.DraftCall.{new, add_row}
use Rattle.book.proofs.Drafts.{new_may_vary, row_may_add}
use Rattle.std.proofs.lemmas.Bool.{and_from, and_parts, leb-true}

abbrev IsProper : Stated → Type 0
IsProper d = Proper d.rows d.box

rowless_proper : (ss : List Span) → may_vary ss ≡ true → IsProper (without_rows ss)
rowless_proper ss h =
    let a = and_parts _ (spans_proper ss) h in
    let b = and_parts (leb 1 (length ss)) (leb (length ss) 12) a.0 in
    record {
      a_variable = leb-true _ _ b.0;
      few_variables = leb-true _ _ b.1;
      few_rows = lit≤ tt;
      ends_of_rows = refl;
      coefficients = refl;
      spans = a.1;
      row_spans = refl;
    }

rows_push : (n : ℕ) (rs : List (List ℤ)) (av : List ℤ) → rows_proper n rs ≡ true → row_proper n av ≡ true → rows_proper n (rs ++ (av ∷ [])) ≡ true
rows_push n [] av h k = and_from _ _ k refl
rows_push n (r ∷ rs) av h k = let w = and_parts (row_proper n r) _ h in and_from _ _ w.0 (rows_push n rs av w.1 k)

longer_proper : (d : Stated) (av : List ℤ) (e : RowEnds) → may_add av e d ≡ true → IsProper d → IsProper (with_row av e d)
longer_proper d av e h p =
    let a = and_parts _ (ends_proper e) h in
    let b = and_parts (ltb (length d.rows) 12) (row_proper (length d.box.vars) av) a.0 in
    record {
      a_variable = p.a_variable;
      few_variables = p.few_variables;
      few_rows = rw (length_push d.rows av) (omega (arith, leb-true _ _ b.0));
      ends_of_rows = length_push d.box.rows e ∙ ap (λ n. n + 1) p.ends_of_rows ∙ sym (length_push d.rows av);
      coefficients = rows_push (length d.box.vars) d.rows av p.coefficients b.1;
      spans = p.spans;
      row_spans = ends_push d.box.rows e p.row_spans a.1;
    }

by_reply : (o : Option Refused) (before after : Stated) → IsProper before → (Ok tt ≡ replied (tt {0}) o → IsProper after) → IsProper (left_by before after o)
by_reply None before after p f = f refl
by_reply (Some r) before after p f = p

step_proper : (d : Stated) (c : DraftCall) → IsProper d → IsProper (draft_after d c)
step_proper d (new n ss) p =
    by_reply (first_fault (new_faults n ss)) d (without_rows ss) p (λ h. rowless_proper ss (new_may_vary n ss h))
step_proper d (add_row av e) p =
    by_reply (first_fault (row_faults d av e)) d (with_row av e d) p (λ h. longer_proper d av e (row_may_add d av e h) p)

steps_proper : (d : Stated) (cs : List DraftCall) → IsProper d → IsProper (drafted d cs)
steps_proper d [] p = p
steps_proper d (c ∷ cs) p = steps_proper (draft_after d c) cs (step_proper d c p)

pub draft_proper : (cs : List DraftCall) → Proper (drafted one_point cs).rows (drafted one_point cs).box
draft_proper cs = steps_proper one_point cs (rowless_proper one_point.box.vars refl)
