use Rattle.std.proofs.Common.{true, false, refl, ◌∙◌, rules}
use Rattle.std.specs.Fn.{FnReturnsAt}
use denote.Param.Members.{step_stays_lem}
use Rattle.std.proofs.lemmas.Fn.{says_at}
use Rattle.std.proofs.lemmas.Iterator.{IsFirst-from_position, YieldsList-from_slice}
use Rattle.book.proofs.Faults.{judged_by_first}
use Rattle.book.proofs.fault.refuse_first.Goals as goal

pub returns : goal.returns
returns g c =
    λ bad are.
    let xs = c.args.items.now in
    let answers = FnReturnsAt g.F.Fn c.args.met in
    let first =
    IsFirst-from_position _ _ c.position.result (λ x. answers x true) (λ x. answers x false) c.position.ensures.ran (YieldsList-from_slice xs cc) (λ x q k. says_at g.F.Fn {y = x} (search (rules, step_stays_lem)) refl)
    (λ x q k. (search (rules, step_stays_lem), says_at g.F.Fn {y = x} (search (rules, step_stays_lem)) refl))
    in
    c.refuse_at.ensures ∙ judged_by_first answers bad c.args.why xs c.position.result are first
