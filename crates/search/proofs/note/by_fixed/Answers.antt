use Rattle.std.proofs.Common.{arith, rules}
use Rattle.search.proofs.Marks.{all_told, fixed_past}
use Rattle.search.proofs.note.by_fixed.Goals as goal

pub returns : goal.returns
returns c =
    let past = fixed_past c.args.coefs.now c.args.vars.now in
    all_told _ _ _ (λ i s d h k. search (rules, past)) _ c.from_fn.ensures.items (λ side k h. past side k (omega arith))
