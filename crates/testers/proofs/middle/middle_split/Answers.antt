use Rattle.std.proofs.Common.{ap, ◌∙◌}
use Rattle.problems.specs.Ranges.{spans_proper}
use Rattle.problems.proofs.Views.{proper}
use Rattle.testers.proofs.Extremes.{span_at}
use Rattle.testers.proofs.middle.middle_split.Goals as goal

pub middle_of-requires : goal.middle_of-requires
middle_of-requires c = span_at c.vars-vars.result.now c.widest_of-v.result (ap spans_proper c.vars-vars.ensures ∙ (proper c.args.problem.now).spans)
