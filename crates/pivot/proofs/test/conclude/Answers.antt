use Rattle.std.proofs.Common.{◌≡◌, ℕ, map, length, get_or, take, sym, subst, arith}
use Rattle.problems.specs.View.{box_of}
use Rattle.problems.proofs.Views.{proper, vars_long, rows_long}
use Rattle.tableau.specs.Lines.{blank}
use Rattle.tableau.specs.Tableau.{Tableau}
use Rattle.tableau.specs.Pivot.{multipliers}
use Rattle.tableau.specs.Sound.{Solved}
use Rattle.pivot.specs.Shapes.{seen, shown}
use Rattle.tableau.proofs.Solves.{run_solved, dens}
use Rattle.pivot.proofs.Concludes.{failed}
use Rattle.pivot.proofs.test.conclude.Goals as goal

pub settle-requires : goal.settle-requires
settle-requires c =
    let p = proper c.args.problem.now in
    let b = c.args.board.now in
    let k = length b.values.now in
    let ls = c.run.new.self.lines.now in
    let s : Solved (map (seen k) ls) =
    subst (λ (x : Tableau). Solved x.lines) (sym c.in-Stands.ensures.left) (run_solved c.args.limit b.ends.now k (shown k b.values.now b.lines.now) c.requires.solved) in
    record {
      above = dens _ (subst (λ (n : ℕ). Solved (map (seen n) ls)) (sym c.run.ensures.long) s);
      inside = omega (arith, c.run.ensures.long, c.requires.all, c.variables.ensures.value);
      few = omega (arith, c.variables.ensures.value, p.few_variables);
    }

pub returns-in-Fails : goal.returns-in-Fails
returns-in-Fails c =
    let p = c.args.problem.now in
    let o = c.in-Fails.ensures in
    let k = length c.args.board.now.values.now in
    let new = c.run.new.self in
    failed (box_of p) p.ends.vars.n p.ends.m k new.values.now new.lines.now c.in-Fails.f c.refute.result _
    (sym (vars_long p.ends.vars)) (omega (arith, c.requires.all, vars_long p.ends.vars, rows_long p)) o.left.1 o.stop o.left.0
    (subst (λ (K : ℕ). take K c.refute.result ≡ multipliers c.in-Fails.f.side (take K (get_or new.lines.now c.in-Fails.f.place blank).nums)) c.run.ensures.long c.refute.ensures)
