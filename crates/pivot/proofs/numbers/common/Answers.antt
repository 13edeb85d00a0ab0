use Rattle.std.proofs.Common.{drop, sym, ap, ◌∙◌}
use Rattle.tableau.specs.Lines.{gcd_all}
use Rattle.pivot.proofs.Commons.{gcd_one}
use Rattle.pivot.proofs.numbers.common.Goals as goal

pub returns-then-g-eq-UNIT : goal.returns-then-g-eq-UNIT
returns-then-g-eq-UNIT c = sym (gcd_one (drop c.loop-a.a-index c.args.row.now)) ∙ ap (λ g. gcd_all g (drop c.loop-a.a-index c.args.row.now)) (sym c.if-g-eq-UNIT.true) ∙ c.loop-a.invariant
