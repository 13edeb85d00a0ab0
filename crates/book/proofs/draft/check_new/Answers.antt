use Rattle.std.proofs.Common.{ap, ◌∙◌, w64, rules}
use Rattle.std.proofs.lemmas.Int.{to_z-of_z}
use Rattle.book.specs.Draft.{miscounted, out_of_range, crossed}
use Rattle.book.proofs.Faults.{pass, stop, exit}
use Rattle.book.proofs.Drafts.{new_says}
use Rattle.book.proofs.draft.check_new.Goals as goal

pub returns-in_err-refuse_first : goal.returns-in_err-refuse_first
returns-in_err-refuse_first c =
    let n = c.args.n in
    let ss = c.args.spans.now in
    exit c.from_residual-in_err-refuse_first.result c.in_err-refuse_first.field-0.0 c.from_residual-in_err-refuse_first.ensures.1
    ∙ new_says n ss (c.is_miscounted.ensures ∙ ap (λ z. miscounted z ss) (to_z-of_z w64 n c.ranges.n))
    (pass c.in_ok-refuse_if.ensures (stop _ (c.in_err-refuse_first.ensures out_of_range (λ k d l met e. search rules))))

pub returns : goal.returns
returns c =
    let n = c.args.n in
    let ss = c.args.spans.now in
    new_says n ss (c.is_miscounted.ensures ∙ ap (λ z. miscounted z ss) (to_z-of_z w64 n c.ranges.n))
    (pass c.in_ok-refuse_if.ensures
    (pass (c.in_ok-refuse_first.ensures out_of_range (λ k d l met e. search rules)) (c.refuse_first-2.ensures crossed (λ k d l met e. search rules))))
