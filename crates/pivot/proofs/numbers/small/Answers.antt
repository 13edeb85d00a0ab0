use Rattle.std.proofs.Common.{◌∙◌, ◌&&◌, refl, rules, tests}
use Rattle.std.specs.List.{list_all}
use Rattle.std.proofs.lemmas.Iterator.{YieldsList-from_slice}
use Rattle.std.proofs.lemmas.Iterator.Search.{all_from_yields_List}
use Rattle.std.proofs.lemmas.List.Recursion.{same_from_clauses}
use Rattle.problems.specs.Whole.{within, all_within}
use Rattle.pivot.proofs.numbers.small.Goals as goal

pub returns : goal.returns
returns c =
    let row = c.args.row.now in
    all_from_yields_List (within 1000000000) _ _ _ c.all.ensures.ran (YieldsList-from_slice row (cc)) (λ x b q k. search (rules, tests))
    ∙ same_from_clauses (list_all (within 1000000000)) (all_within 1000000000) (λ x b. within 1000000000 x && b) refl (λ _ _. refl) (λ _ _. refl) row
