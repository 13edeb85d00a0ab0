use Rattle.std.proofs.Common.{eqb, length, get_or, ℤ, pos, sym, ap, ◌∙◌, arith, rules, tests}
use Rattle.std.specs.Option.{option_map}
use Rattle.std.proofs.lemmas.Iterator.{YieldsList-from_slice}
use Rattle.std.proofs.lemmas.Iterator.Search.{find_from_yields_List}
use Rattle.testers.proofs.Products.{back}
use Rattle.tableau.specs.declared.fraction.Fraction.{Fraction}
use Rattle.tableau.specs.declared.line.Line.{Line}
use Rattle.pivot.specs.Shapes.{seen}
use Rattle.pivot.proofs.Walks.{within_at}
use Rattle.pivot.proofs.Reports.{made, found_ok, value_some, value_none}
use Rattle.pivot.proofs.board.Board.value_of.Goals as goal

pub fraction_of-requires : goal.fraction_of-requires
fraction_of-requires c =
    let ls = c.args.self.now.lines.now in
    let own = λ (l : Line). eqb l.basic c.args.v in
    let e = find_from_yields_List own _ _ c.find.result c.find.ensures.ran (YieldsList-from_slice ls (cc)) (λ x b q h. search (rules, tests)) in
    found_ok (length c.args.self.now.values.now) own ls c.in-Some.line.now c.args.self.now.lines_ok (sym e ∙ ap (option_map (λ x. x.now)) c.in-Some.is)

pub returns-in-Some : goal.returns-in-Some
returns-in-Some c =
    let ls = c.args.self.now.lines.now in
    let k = length c.args.self.now.values.now in
    let own = λ (l : Line). eqb l.basic c.args.v in
    let e = find_from_yields_List own _ _ c.find.result c.find.ensures.ran (YieldsList-from_slice ls (cc)) (λ x b q h. search (rules, tests)) in
    made c.fraction_of.result c.args.self.now.values.now (seen k c.in-Some.line.now) c.fraction_of.ensures.num c.fraction_of.ensures.den
    ∙ sym (value_some k c.args.v c.args.self.now.values.now ls c.in-Some.line.now (sym e ∙ ap (option_map (λ x. x.now)) c.in-Some.is))

pub returns-in-None : goal.returns-in-None
returns-in-None c =
    let ls = c.args.self.now.lines.now in
    let own = λ (l : Line). eqb l.basic c.args.v in
    let e = find_from_yields_List own _ _ c.find.result c.find.ensures.ran (YieldsList-from_slice ls (cc)) (λ x b q h. search (rules, tests)) in
    let whole : ℤ → Fraction = λ z. record { num = z; den = pos 1 } in
    let x = get_or c.args.self.now.values.now c.args.v (pos 0) in
    ap whole (back x (omega (arith, within_at 200000000 c.args.self.now.values.now c.args.self.now.small c.args.v)))
    ∙ sym (value_none (length c.args.self.now.values.now) c.args.v c.args.self.now.values.now ls (sym e ∙ ap (option_map (λ x. x.now)) c.in-None.is))
