use Rattle.std.proofs.Common.{sym, ap, ◌∙◌, subst, arith}
use Rattle.testers.specs.Gcd.{gcd, GreatestCommon}
use Rattle.testers.proofs.Gcds.{gcd_step, gcd_is_greatest}
use Rattle.testers.proofs.gcd.gcd.Goals as goal

pub loop-y-preserved : goal.loop-y-preserved
loop-y-preserved c = gcd_step c.loop-y.x c.loop-y.y (omega arith) ∙ c.loop-y.invariant

pub returns : goal.returns
returns c =
    let e = ap (gcd c.loop-y.x) (sym c.loop-y-test.false) ∙ c.loop-y.invariant in
    record { value = e; greatest = subst (GreatestCommon c.args.a c.args.b) (sym e) (gcd_is_greatest c.args.a c.args.b) }
