use Rattle.std.proofs.Common.{ap, ◌∙◌, rules}
use Rattle.problems.specs.Ranges.{ends_proper, row_ends_proper}
use Rattle.problems.proofs.Views.{proper}
use Rattle.testers.proofs.RowFacts.{got_ends, ends_at, row_facts}
use Rattle.testers.proofs.row_in_box.RowInBox.of.Goals as goal

pub invariant_of-result : goal.invariant_of-result
invariant_of-result c =
    let p = c.args.problem.now in
    let es = c.row_ends.result.now in
    let got = got_ends es c.args.i c.get.result c.in_ok-ends.ends c.get.ensures.lookup (search rules) in
    let row = row_facts p c.args.i es c.coefs.result.now c.vars.result.now c.row_ends.ensures got.0 c.coefs.ensures c.vars.ensures in
    record {
      numbered = row.1;
      coefficients = row.2;
      spans = row.3;
      alike = row.4;
      few = row.5;
      proper = ap ends_proper got.1 ∙ ends_at es c.args.i (ap row_ends_proper c.row_ends.ensures ∙ (proper p).row_spans);
    }
