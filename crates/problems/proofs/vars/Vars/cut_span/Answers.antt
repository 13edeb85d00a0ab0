use Rattle.std.proofs.Common.{◌≡◌, ◌<◌, ◌≤◌, Bool, cond, length, get_or, Some, None, Option, sym, ap, ◌∙◌, rules}
use Rattle.problems.specs.declared.quantity.Span.{Span}
use Rattle.problems.specs.Box.{nowhere}
use Rattle.problems.specs.View.{vars_in}
use Rattle.problems.proofs.Cuts.{cuts, splits_here, splits_past, then_some_is}
use Rattle.problems.proofs.vars.Vars.cut_span.Goals as goal

pub returns-in_err-span : goal.returns-in_err-span
returns-in_err-span c =
    let ss = vars_in c.args.self.now in
    let past : length ss ≤ c.args.cut.0 = search rules in
    let none : c.from_residual.result ≡ None = search rules in
    none ∙ sym (ap (λ (b : Bool). cond {A = Option Span} b (Some (get_or ss c.args.cut.0 nowhere)) None) (splits_past c.args.cut.0 c.args.cut.1 ss past))

pub returns : goal.returns
returns c =
    let ss = vars_in c.args.self.now in
    let v = c.args.cut.0 in
    let among : v < length ss = search rules in
    let here : c.in_ok-span.span.now ≡ get_or ss v nowhere = search rules in
    c.then_some.ensures ∙ then_some_is c.splits_at.result c.in_ok-span.span.now
    ∙ ap (λ (b : Bool). cond {A = Option Span} b (Some c.in_ok-span.span.now) None) c.splits_at.ensures
    ∙ ap (λ (s : Span). cond {A = Option Span} (cuts c.args.cut.1 s) (Some s) None) here
    ∙ sym (ap (λ (b : Bool). cond {A = Option Span} b (Some (get_or ss v nowhere)) None) (splits_here v c.args.cut.1 ss among))
