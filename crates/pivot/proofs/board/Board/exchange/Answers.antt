use Rattle.std.proofs.Common.{◌≡◌, ℕ, ◌+◌, ◌<◌, true, false, cond, eqb, List, ◌++◌, map, length, get_or, take, drop, set, sym, refl, ap, ◌∙◌, arith}
use Rattle.std.proofs.lemmas.Bool.{eq-eqb}
use Rattle.std.proofs.lemmas.Bool.Decides.{nat_tests}
use Rattle.tableau.specs.declared.line.Line.{Line}
use Rattle.tableau.specs.Lines.{blank, substituted}
use Rattle.tableau.specs.Tableau.{exchanged}
use Rattle.pivot.specs.Shapes.{seen, Shaped, AllShaped, LinesOk}
use Rattle.pivot.proofs.Parts.{exchange_next, shaped_set, ok_shaped, ok_next}
use Rattle.pivot.proofs.board.Board.exchange.Goals as goal

pub loop-j-init : goal.loop-j-init
loop-j-init c = (refl, ok_shaped _ c.args.lines.now c.requires.lines, c.requires.lines)

-- one line more is written, whichever of the two it is
written : (place q k : ℕ) (t : Line) (ls : List Line) (all : List Line) (j : ℕ) (new : Line) → j < length ls
    → seen k new ≡ cond (eqb j place) (seen k t) (substituted q (seen k t) (seen k (get_or ls j blank))) → Shaped k new
    → (map (seen k) (take j ls) ++ exchanged place q (seen k t) j (map (seen k) (drop j ls)) ≡ all) × AllShaped k ls × LinesOk k (drop j ls)
    → (map (seen k) (take (j + 1) (set ls j new)) ++ exchanged place q (seen k t) (j + 1) (map (seen k) (drop (j + 1) (set ls j new))) ≡ all)
    × AllShaped k (set ls j new) × LinesOk k (drop (j + 1) (set ls j new))
written place q k t ls all j new h e s i = (exchange_next place q k (seen k t) ls j new blank h e ∙ i.0, shaped_set k ls j new i.1 s, ok_next k ls j new i.2)

pub loop-j-preserved : goal.loop-j-preserved
loop-j-preserved c =
    let k = length c.args.self.now.values.now in
    let ls = c.loop-j.lines in
    let j = c.loop-j.j in
    let q = c.args.q in
    let t = c.args.t.now in
    let taken = substituted q (seen k t) (seen k (get_or ls j blank)) in
    elim c.if-j-place.branch [
      | goal.then-j-place w ↦
          let e : eqb j c.args.place ≡ true = eq-eqb j c.args.place w.if-j-place.true in
          rw w.lines-is (written c.args.place q k t ls _ j t (omega arith) (sym (ap (λ x. cond x (seen k t) taken) e))
          (record { basic = c.requires.turned.basic; long = c.requires.turned.long }) c.loop-j.invariant)
      | goal.else-j-place w ↦
          let e : eqb j c.args.place ≡ false = grind (arith, nat_tests) in
          rw w.lines-is (written c.args.place q k t ls _ j _ (omega arith) (w.substitute.ensures.value ∙ sym (ap (λ x. cond x (seen k t) taken) e)) w.substitute.ensures.shaped c.loop-j.invariant)
    ]
