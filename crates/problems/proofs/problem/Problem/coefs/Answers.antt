use Rattle.std.proofs.Common.{arith}
use Rattle.problems.proofs.Views.{row_long}
use Rattle.problems.proofs.problem.Problem.coefs.Goals as goal

pub front-requires : goal.front-requires
front-requires c =
    let p = c.args.self.now in
    omega (arith, row_long p.rows c.args.i p.proper (omega (arith, p.long, p.ends.few)), p.ends.vars.few)
