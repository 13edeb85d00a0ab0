use Rattle.std.proofs.Common.{◌≡◌, ℕ, ◌+◌, ◌<◌, true, false, length, get_or, drop, sym, ◌∙◌, subst, arith, w64, SFits, rules}
use Rattle.problems.specs.Box.{nowhere}
use Rattle.testers.specs.Halving.{widest, middle_split}
use Rattle.testers.proofs.Extremes.{span_at}
use Rattle.testers.proofs.Middles.{test_is, widest_then, widest_else, widest_end}
use Rattle.testers.proofs.middle.widest_of.Goals as goal
use Rattle.testers.proofs.middle.widest_of.Goals.{then-size_of, else-size_of}

pub size_of-requires : goal.size_of-requires
size_of-requires c = span_at c.args.vars.now c.loop-i.best c.requires.proper

pub size_of-requires-in-loop-i : goal.size_of-requires-in-loop-i
size_of-requires-in-loop-i c = span_at c.args.vars.now c.loop-i.i c.requires.proper

pub loop-i-preserved : goal.loop-i-preserved
loop-i-preserved c =
    let ss = c.args.vars.now in
    let i = c.loop-i.i in
    let v = c.loop-i.best in
    let f : SFits w64 c.size_of.result = search rules in
    let g : SFits w64 c.size_of-in-loop-i.result = search rules in
    let P : ℕ → Type 0 = λ b. (b < length ss) × (widest b (get_or ss b nowhere) (i + 1) (drop (i + 1) ss) ≡ middle_split ss) in
    elim c.if-size_of.branch [
      | then-size_of w ↦
          let t = test_is _ _ _ _ true f g c.size_of.ensures c.size_of-in-loop-i.ensures w.if-size_of.true in
          subst P (sym w.best-is) (c.loop-i-test.true, widest_then ss v i c.loop-i-test.true t ∙ c.loop-i.invariant.1)
      | else-size_of w ↦
          let t = test_is _ _ _ _ false f g c.size_of.ensures c.size_of-in-loop-i.ensures w.if-size_of.false in
          subst P (sym w.best-is) (c.loop-i.invariant.0, widest_else ss v i c.loop-i-test.true t ∙ c.loop-i.invariant.1)
    ]

pub returns : goal.returns
returns c = record { within = c.loop-i.invariant.0; value = widest_end c.args.vars.now c.loop-i.best c.loop-i.i (omega arith) ∙ c.loop-i.invariant.1 }
