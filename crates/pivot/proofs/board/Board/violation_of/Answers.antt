use Rattle.std.proofs.Common.{◌≤◌, length, nat_abs, sym, ◌∙◌, subst, w64, SFits, rules}
use Rattle.std.proofs.lemmas.Int.{to_z-of_z}
use Rattle.pivot.proofs.Picks.{den_small, ends_at}
use Rattle.pivot.proofs.board.Board.violation_of.Goals as goal

pub violated-requires : goal.violated-requires
violated-requires c =
    let b = c.args.self.now in
    let l = c.args.line.now in
    let f = c.fraction_of-f in
    let d : SFits w64 f.result.den = search rules in
    let e = ends_at b.ends.now l.basic b.ends_ok in
    record {
      den = subst (λ x. nat_abs x ≤ 1000000000) (sym (to_z-of_z w64 f.result.den d ∙ f.ensures.den)) (den_small (length b.values.now) l c.requires);
      lower = e.0;
      upper = e.1;
    }
