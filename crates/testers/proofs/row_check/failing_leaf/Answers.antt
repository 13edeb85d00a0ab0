use Rattle.std.proofs.Common.{◌<◌, length, ap, ◌∙◌, w64, rules}
use Rattle.std.proofs.lemmas.Int.{to_z-of_z}
use Rattle.problems.specs.View.{rows_of}
use Rattle.testers.specs.Halving.{row_multipliers}
use Rattle.testers.proofs.RowLeaves.{leaf_is}
use Rattle.testers.proofs.row_check.failing_leaf.Goals as goal

pub returns : goal.returns
returns c =
    let there : c.args.i < length (rows_of c.args.problem.now) = search rules in
    let row = c.in_ok-row.row in
    let z = c.in_ok-z.z in
    let made = c.multipliers.ensures ∙ ap (λ k. row_multipliers k row.coefs.now row.number) (to_z-of_z w64 z (search rules)) in
    leaf_is c.args.problem.now c.args.i row z c.multipliers.result there c.in_ok-row.ensures.row c.in_ok-z.ensures.value made
