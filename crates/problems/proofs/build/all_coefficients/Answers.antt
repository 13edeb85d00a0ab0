use Rattle.std.proofs.Common.{◌&&◌, refl, ◌∙◌, rules, tests}
use Rattle.std.proofs.lemmas.Iterator.{YieldsList-from_slice}
use Rattle.std.proofs.lemmas.Iterator.Search.{all_from_yields_List}
use Rattle.std.proofs.lemmas.List.Recursion.{same_from_clauses}
use Rattle.std.specs.List.{list_all}
use Rattle.problems.specs.Whole.{within, all_within}
use Rattle.problems.proofs.build.all_coefficients.Goals as goal

pub returns : goal.returns
returns c =
    all_from_yields_List (within 100) _ _ _ c.all.ensures.ran (YieldsList-from_slice c.args.coefs.now cc) (λ x b q k. search (rules, tests))
    ∙ same_from_clauses (list_all (within 100)) (all_within 100) (λ a b. within 100 a && b) refl (λ a av. refl) (λ a av. refl) c.args.coefs.now
