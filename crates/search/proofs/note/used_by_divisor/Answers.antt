use Rattle.std.proofs.Common.{◌≡◌, length, sym, ap, ◌∙◌, arith}
use Rattle.problems.specs.View.{rows_of, box_of}
use Rattle.problems.proofs.Views.{proper}
use Rattle.problems.proofs.Propers.{row_length}
use Rattle.search.proofs.note.used_by_divisor.Goals as goal

pub by_fixed-requires : goal.by_fixed-requires
by_fixed-requires c =
    let p = c.args.problem.now in
    let coefs : length c.coefs.result.now ≡ length (box_of p).vars = ap length c.coefs.ensures ∙ row_length _ (rows_of p) c.args.row (proper p).coefficients c.requires in
    let vars : length c.vars.result.now ≡ length (box_of p).vars = ap length c.vars.ensures in
    (omega (arith, (proper p).few_variables), coefs ∙ sym vars)
