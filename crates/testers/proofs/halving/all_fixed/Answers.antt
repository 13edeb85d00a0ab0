use Rattle.std.proofs.Common.{◌&&◌, refl, ◌∙◌, rules}
use Rattle.std.proofs.lemmas.Iterator.{YieldsList-from_slice}
use Rattle.std.proofs.lemmas.Iterator.Search.{all_from_yields_List}
use Rattle.std.proofs.lemmas.List.Recursion.{same_from_clauses}
use Rattle.std.specs.List.{list_all}
use Rattle.problems.specs.View.{box_of}
use Rattle.testers.specs.Leaf.{fixed}
use Rattle.testers.specs.Halving.{all_fixed}
use Rattle.testers.proofs.halving.all_fixed.Goals as goal

pub returns : goal.returns
returns c =
    all_from_yields_List fixed _ _ _ c.all.ensures.ran (YieldsList-from_slice (box_of c.args.problem.now).vars cc) (λ x b q k. search rules)
    ∙ same_from_clauses (list_all fixed) all_fixed (λ s b. fixed s && b) refl (λ _ _. refl) (λ _ _. refl) (box_of c.args.problem.now).vars
