use Rattle.std.proofs.Common.{rules}
use Rattle.search.proofs.Marks.{all_told}
use Rattle.search.proofs.note.both_of.Goals as goal

pub returns : goal.returns
returns c = all_told _ _ _ (λ i s d h k. search rules) _ c.from_fn.ensures.items (λ side k h. search rules)
