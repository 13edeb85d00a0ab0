use Rattle.std.proofs.Common.{◌&&◌, refl, ◌∙◌, rules, tests}
use Rattle.std.proofs.lemmas.Iterator.{YieldsList-from_slice}
use Rattle.std.proofs.lemmas.Iterator.Search.{all_from_yields_List}
use Rattle.std.proofs.lemmas.List.Recursion.{same_from_clauses}
use Rattle.std.specs.List.{list_all}
use Rattle.problems.specs.Ranges.{span_proper, spans_proper}
use Rattle.problems.proofs.build.all_proper.Goals as goal

pub returns : goal.returns
returns c =
    all_from_yields_List span_proper _ _ _ c.all.ensures.ran (YieldsList-from_slice c.args.spans.now cc) (λ x b q k. search (rules, tests))
    ∙ same_from_clauses (list_all span_proper) spans_proper (λ s b. span_proper s && b) refl (λ s ss. refl) (λ s ss. refl) c.args.spans.now
