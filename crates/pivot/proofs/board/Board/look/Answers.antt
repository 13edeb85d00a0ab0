use Rattle.std.proofs.Common.{◌+◌, ◌<◌, length, get_or, sym, ◌∙◌, subst, arith, rules}
use Rattle.pivot.specs.Shapes.{seen, InsideStep}
use Rattle.tableau.specs.Lines.{blank}
use Rattle.pivot.proofs.Picks.{lines_at}
use Rattle.pivot.proofs.Rounds.{FoundIn, outside_in, Under, entering_under, entered_by, entered_inside, look_some}
use Rattle.pivot.proofs.board.Board.look.Goals as goal

pub bounds-lines-f : goal.bounds-lines-f
bounds-lines-f c =
    let k = length c.args.self.now.values.now in
    let i = subst (FoundIn (0 + length c.args.self.now.lines.now) k) (sym c.outside.ensures ∙ c.in-Some.is) (outside_in k c.args.self.now.ends.now c.args.self.now.values.now 0 c.args.self.now.lines.now c.args.self.now.lines_ok) in
    omega (arith, i.0)

pub offset_bounds-lines-f : goal.offset_bounds-lines-f
offset_bounds-lines-f c =
    let k = length c.args.self.now.values.now in
    let i = subst (FoundIn (0 + length c.args.self.now.lines.now) k) (sym c.outside.ensures ∙ c.in-Some.is) (outside_in k c.args.self.now.ends.now c.args.self.now.values.now 0 c.args.self.now.lines.now c.args.self.now.lines_ok) in
    let h : c.in-Some.f.place < length c.args.self.now.lines.now = omega (arith, i.0) in
    search rules

pub entering-requires : goal.entering-requires
entering-requires c =
    let k = length c.args.self.now.values.now in
    let i = subst (FoundIn (0 + length c.args.self.now.lines.now) k) (sym c.outside.ensures ∙ c.in-Some.is) (outside_in k c.args.self.now.ends.now c.args.self.now.values.now 0 c.args.self.now.lines.now c.args.self.now.lines_ok) in
    lines_at k c.args.self.now.lines.now c.in-Some.f.place _ c.args.self.now.lines_ok (omega (arith, i.0))

pub returns : goal.returns
returns c =
    let k = length c.args.self.now.values.now in
    let f = c.in-Some.f in
    let o = sym c.outside.ensures ∙ c.in-Some.is in
    let i = subst (FoundIn (0 + length c.args.self.now.lines.now) k) o (outside_in k c.args.self.now.ends.now c.args.self.now.values.now 0 c.args.self.now.lines.now c.args.self.now.lines_ok) in
    let h : f.place < length c.args.self.now.lines.now = omega (arith, i.0) in
    let u = subst (Under (0 + k)) (sym c.entering.ensures) (entering_under f.side c.args.self.now.ends.now c.args.self.now.values.now (seen k (get_or c.args.self.now.lines.now f.place blank)) 0 k) in
    let e = entered_by f c.entering.result c.map_or.result _ c.map_or.ensures (λ q p. search rules) in
    record {
      value = e ∙ look_some k c.args.self.now.ends.now c.args.self.now.values.now c.args.self.now.lines.now f c.entering.result o h c.entering.ensures;
      inside = subst (InsideStep k (length c.args.self.now.lines.now)) (sym e) (entered_inside k (length c.args.self.now.lines.now) f c.entering.result h i.1 u);
    }
