use Rattle.std.proofs.Common.{set}
use lib.Seq.{take-set-lt}
use Rattle.problems.specs.View.{vars_in}
use Rattle.problems.proofs.Cuts.{facts_kept}
use Rattle.problems.proofs.vars.Vars.with.Goals as goal

pub invariant_of-result : goal.invariant_of-result
invariant_of-result c =
    let t = c.args.self.now in
    let v = c.args.v in
    let k = facts_kept t v c.args.span (set (vars_in t) v c.args.span) (take-set-lt t.n t.spans v c.args.span c.requires.within) c.requires.proper in
    record { few = k.0; long = k.1; proper = k.2 }

pub returns : goal.returns
returns c = let t = c.args.self.now in take-set-lt t.n t.spans c.args.v c.args.span c.requires.within
