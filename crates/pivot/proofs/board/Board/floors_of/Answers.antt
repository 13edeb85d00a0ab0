use Rattle.std.proofs.Common.{map, length, pos, ◌<ℤ◌, sym, ap, ◌∙◌, subst, arith, length-set, w64, SFits, rules}
use Rattle.std.proofs.lemmas.Int.{to_z-of_z}
use Rattle.tableau.specs.declared.fraction.Fraction.{Fraction}
use Rattle.tableau.specs.Pivot.{floor}
use Rattle.pivot.specs.Shapes.{seen}
use Rattle.pivot.proofs.Reports.{value_den, floors_next}
use Rattle.pivot.proofs.board.Board.floors_of.Goals as goal

pub floor-requires : goal.floor-requires
floor-requires c = subst (λ (f : Fraction). pos 0 <ℤ f.den) (sym c.value_of.ensures) (value_den c.loop-v.v c.args.self.now.values.now (map (seen (length c.args.self.now.values.now)) c.args.self.now.lines.now) c.requires.above)

pub loop-v-preserved : goal.loop-v-preserved
loop-v-preserved c =
    let ls = map (seen (length c.args.self.now.values.now)) c.args.self.now.lines.now in
    let g : SFits w64 c.floor.result = search rules in (
      simp length-set c.loop-v.invariant.0,
      floors_next c.args.self.now.values.now ls c.loop-v.v c.args.n c.loop-v.x-items _ (omega arith) (omega (arith, c.loop-v.invariant.0)) (to_z-of_z w64 c.floor.result g ∙ c.floor.ensures ∙ ap floor c.value_of.ensures)
          ∙ c.loop-v.invariant.1,
    )
