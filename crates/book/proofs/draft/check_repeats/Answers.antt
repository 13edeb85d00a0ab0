use Rattle.std.proofs.Common.{◌≡◌, true, false, [], get_or, refl, ◌∙◌, arith, rules, tests, Bool, ℕ, List, ℤ}
use Rattle.std.proofs.lemmas.Iterator.{IsFirst-from_position, YieldsList-from_range}
use Rattle.problems.specs.declared.refusal.Refusal.TheVariants.{Repeat}
use Rattle.problems.specs.View.{rows_of}
use Rattle.book.specs.Draft.{same_row}
use Rattle.book.proofs.Faults.{judged_by_first, first_of_indices}
use Rattle.book.proofs.Drafts.{same_is}
use Rattle.book.proofs.draft.check_repeats.Goals as goal

pub returns : goal.returns
returns c =
    let av = c.args.coefs.now in
    let rows = rows_of c.args.problem.now in
    let same = λ (row : List ℤ) (met : Bool). met ≡ same_row av row in
    let row = λ (i : ℕ). get_or rows i [] in
    let first =
    IsFirst-from_position _ _ c.position.result (λ i. same (row i) true) (λ i. same (row i) false) c.position.ensures.ran (YieldsList-from_range 0 c.rows.result c.rows.result refl (omega arith))
    (λ i q k. same_is av (row i) (row i) true (search (rules, tests)) refl)
    (λ i q k. (search (rules, tests), same_is av (row i) (row i) false (search (rules, tests)) refl))
    in
    c.refuse_at.ensures
    ∙ judged_by_first same (same_row av) Repeat rows c.position.result (λ k d l met e. e) (first_of_indices same rows c.rows.result [] c.position.result c.rows.ensures.value first)
