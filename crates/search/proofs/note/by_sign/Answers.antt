use Rattle.std.proofs.Common.{arith, rules}
use Rattle.search.proofs.Marks.{all_told, sign_past}
use Rattle.search.proofs.note.by_sign.Goals as goal

pub returns : goal.returns
returns c = all_told _ _ _ (λ i s d h k. search rules) _ c.from_fn.ensures.items (λ side k h. sign_past c.args.ms.now side k (omega arith))
