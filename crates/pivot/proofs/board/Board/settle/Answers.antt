use Rattle.std.proofs.Common.{◌≡◌, ℕ, ◌<◌, not, map, length, pos, ◌<ℤ◌, sym, refl, ap, ◌∙◌, subst, arith, w64, SFits, rules, tests}
use Rattle.std.proofs.lemmas.Int.{to_z-of_z}
use Rattle.std.proofs.lemmas.Iterator.{YieldsList-from_range, serves_from_Range}
use Rattle.std.proofs.lemmas.Iterator.Adapters.{option_map_id}
use Rattle.std.proofs.lemmas.Iterator.Search.{find_from_yields_List}
use Rattle.testers.specs.Tester.Answer.{point, split}
use Rattle.tableau.specs.declared.fraction.Fraction.{Fraction}
use Rattle.tableau.specs.Pivot.{broken, floor, settled, value, whole}
use Rattle.pivot.specs.Shapes.{seen, shown}
use Rattle.pivot.proofs.Picks.{find_range}
use Rattle.pivot.proofs.Reports.{broken_step, broken_under, value_den}
use Rattle.pivot.proofs.board.Board.settle.Goals as goal

pub find-requires-clause-callable : goal.find-requires-clause-callable
find-requires-clause-callable c =
    let x = c.args.self.now.values.now in
    let ls = map (seen (length x)) c.args.self.now.lines.now in
    let above = λ (f : Fraction) (v : ℕ) (e : f ≡ value v x ls). subst (λ (g : Fraction). pos 0 <ℤ g.den) (sym e) (value_den v x ls c.requires.above) in
    serves_from_Range (λ q f h. search (rules, tests)) (λ q a b. λ y e. let h : y.now < length x = omega (arith, e, c.requires.inside) in search (rules, h, above))

pub value_of-requires : goal.value_of-requires
value_of-requires c =
    let x = c.args.self.now.values.now in
    let ls = map (seen (length x)) c.args.self.now.lines.now in
    let n = c.args.n in
    let left = λ (v : ℕ). not (whole (value v x ls)) in
    let first : c.find.result ≡ broken x ls 0 n =
    sym (option_map_id c.find.result)
    ∙ find_from_yields_List left _ _ c.find.result c.find.ensures.ran (YieldsList-from_range 0 n n (search rules) (omega arith)) (λ q b f h. search (rules, tests))
    ∙ find_range (broken x ls) left left n (λ _. refl) (broken_step x ls) (λ _ _. refl) 0 n (omega arith) in
    let h = broken_under x ls 0 n c.in-Some.v (sym first ∙ c.in-Some.is) in
    omega (arith, h, c.requires.inside)

pub floor-requires : goal.floor-requires
floor-requires c = subst (λ (f : Fraction). pos 0 <ℤ f.den) (sym c.value_of.ensures) (value_den c.in-Some.v c.args.self.now.values.now (map (seen (length c.args.self.now.values.now)) c.args.self.now.lines.now) c.requires.above)

pub returns-in-Some : goal.returns-in-Some
returns-in-Some c m =
    let x = c.args.self.now.values.now in
    let ls = map (seen (length x)) c.args.self.now.lines.now in
    let n = c.args.n in
    let left = λ (v : ℕ). not (whole (value v x ls)) in
    let first : c.find.result ≡ broken x ls 0 n =
    sym (option_map_id c.find.result)
    ∙ find_from_yields_List left _ _ c.find.result c.find.ensures.ran (YieldsList-from_range 0 n n (search rules) (omega arith)) (λ q b f h. search (rules, tests))
    ∙ find_range (broken x ls) left left n (λ _. refl) (broken_step x ls) (λ _ _. refl) 0 n (omega arith) in
    let g : SFits w64 c.floor.result = search rules in
    ap (split c.in-Some.v) (to_z-of_z w64 c.floor.result g ∙ c.floor.ensures ∙ ap floor c.value_of.ensures)
    ∙ ap (settled n (shown (length x) x c.args.self.now.lines.now)) (sym c.in-Some.is ∙ first)

pub returns-in-None : goal.returns-in-None
returns-in-None c m =
    let x = c.args.self.now.values.now in
    let ls = map (seen (length x)) c.args.self.now.lines.now in
    let n = c.args.n in
    let left = λ (v : ℕ). not (whole (value v x ls)) in
    let first : c.find.result ≡ broken x ls 0 n =
    sym (option_map_id c.find.result)
    ∙ find_from_yields_List left _ _ c.find.result c.find.ensures.ran (YieldsList-from_range 0 n n (search rules) (omega arith)) (λ q b f h. search (rules, tests))
    ∙ find_range (broken x ls) left left n (λ _. refl) (broken_step x ls) (λ _ _. refl) 0 n (omega arith) in
    ap point c.floors_of.ensures ∙ ap (settled n (shown (length x) x c.args.self.now.lines.now)) (sym c.in-None.is ∙ first)
