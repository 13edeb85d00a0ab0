use Rattle.std.proofs.Common.{Bool, cond, List, Some, None, Option, sym, ap, ◌∙◌}
use Rattle.problems.specs.declared.quantity.Span.{Span}
use Rattle.problems.specs.Box.{low}
use Rattle.problems.specs.Ranges.{spans_proper}
use Rattle.problems.specs.View.{vars_in}
use Rattle.problems.proofs.Boxes.{low_range}
use Rattle.problems.proofs.Cuts.{among, low_cut}
use Rattle.problems.proofs.vars.Vars.below.Goals as goal

pub with-requires : goal.with-requires
with-requires c =
    let t = c.args.self.now in
    let h = low_cut c.args.cut.0 c.args.cut.1 (vars_in t) c.in_ok-span.span c.upto.result c.in_ok-span.ensures c.upto.ensures in
    record {
      within = among t c.args.cut.0 c.args.cut.1 h.0;
      proper = ap spans_proper h.1 ∙ low_range c.args.cut.0 c.args.cut.1 (vars_in t) h.0 t.proper;
    }

pub returns : goal.returns
returns c =
    let ss = vars_in c.args.self.now in
    let h = low_cut c.args.cut.0 c.args.cut.1 ss c.in_ok-span.span c.upto.result c.in_ok-span.ensures c.upto.ensures in
    ap (λ (half : List Span). Some half) (c.with.ensures ∙ h.1)
    ∙ ap (λ (b : Bool). cond {A = Option (List Span)} b (Some (low c.args.cut.0 c.args.cut.1 ss)) None) (sym h.0)
