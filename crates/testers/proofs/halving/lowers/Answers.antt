use Rattle.std.proofs.Common.{get_or, pos, rules}
use Rattle.testers.specs.Halving.{lowers}
use Rattle.testers.proofs.Lowers.{all_made, lowers_made}
use Rattle.testers.proofs.halving.lowers.Goals as goal

pub returns : goal.returns
returns g c =
    let ss = c.args.vars.now in
    let h = c.from_fn.ensures.items in
    let at = all_made _ (λ k. get_or (lowers ss) k (pos 0)) _ c.from_fn.result g.row.N (λ k b q e. search rules) h.each in
    record { value = lowers_made g.row.N ss c.from_fn.result h.long (λ i l. at i (pos 0) l) }
