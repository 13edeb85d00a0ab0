use Rattle.std.proofs.Common.{ap, ◌∙◌, w64}
use Rattle.std.proofs.lemmas.Int.{to_z-of_z}
use Rattle.problems.specs.Stated.{may_vary, without_rows}
use Rattle.book.specs.Fault.{judged}
use Rattle.book.specs.Draft.{new_faults}
use Rattle.book.proofs.Drafts.{new_may_vary, over_gives}
use Rattle.book.proofs.draft.Draft.new.Goals as goal

pub returns-in_default : goal.returns-in_default
returns-in_default c =
    let ss = c.args.ends.now in
    let clear = c.in_ok-check_new.ensures ∙ ap (λ z. judged (new_faults z ss)) (to_z-of_z w64 c.args.n c.ranges.n) in
    absurd (over_gives (may_vary ss) (without_rows ss) (new_may_vary c.args.n ss clear) c.in_default.ensures.value)
