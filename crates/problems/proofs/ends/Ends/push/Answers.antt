use Rattle.std.proofs.Common.{◌∙◌, arith, length-set}
use Rattle.problems.proofs.Builds.{ends_more}
use Rattle.problems.proofs.ends.Ends.push.Goals as goal

pub invariant_of-self : goal.invariant_of-self
invariant_of-self c =
    let e = c.args.self.now in
    record {
      some = e.some;
      few = omega (arith, c.requires.room);
      long = length-set e.rows e.m _ ∙ e.long;
      proper = ends_more e.rows e.m c.args.ends (omega (arith, e.long, c.requires.room)) e.proper c.requires.proper;
    }
