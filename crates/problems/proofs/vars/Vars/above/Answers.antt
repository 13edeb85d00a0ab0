use Rattle.std.proofs.Common.{Bool, cond, List, Some, None, Option, sym, ap, ◌∙◌}
use Rattle.problems.specs.declared.quantity.Span.{Span}
use Rattle.problems.specs.Box.{high}
use Rattle.problems.specs.Ranges.{spans_proper}
use Rattle.problems.specs.View.{vars_in}
use Rattle.problems.proofs.Boxes.{high_range}
use Rattle.problems.proofs.Cuts.{among, cut_under, high_cut}
use Rattle.problems.proofs.vars.Vars.above.Goals as goal

pub above-requires : goal.above-requires
above-requires c = cut_under c.args.cut.0 c.args.cut.1 (vars_in c.args.self.now) c.in_ok-span.span c.in_ok-span.ensures

pub with-requires : goal.with-requires
with-requires c =
    let t = c.args.self.now in
    let h = high_cut c.args.cut.0 c.args.cut.1 (vars_in t) c.in_ok-span.span c.above.result c.in_ok-span.ensures c.above.ensures in
    record {
      within = among t c.args.cut.0 c.args.cut.1 h.0;
      proper = ap spans_proper h.1 ∙ high_range c.args.cut.0 c.args.cut.1 (vars_in t) h.0 t.proper;
    }

pub returns : goal.returns
returns c =
    let ss = vars_in c.args.self.now in
    let h = high_cut c.args.cut.0 c.args.cut.1 ss c.in_ok-span.span c.above.result c.in_ok-span.ensures c.above.ensures in
    ap (λ (half : List Span). Some half) (c.with.ensures ∙ h.1)
    ∙ ap (λ (b : Bool). cond {A = Option (List Span)} b (Some (high c.args.cut.0 c.args.cut.1 ss)) None) (sym h.0)
