use Rattle.std.proofs.Common.{refl, arith, rules}
use Rattle.search.proofs.Marks.{all_told, unmarked_past, standing_past}
use Rattle.search.proofs.note.standing.Goals as goal

pub returns : goal.returns
returns c =
    all_told _ _ _ (λ i s d h k. search (rules, standing_past c.args.root.now c.args.at.now)) _ c.from_fn.ensures.items
    (λ side k h. rw (unmarked_past c.args.sides.now side k (omega arith)) refl)
