use Rattle.std.proofs.Common.{◌-◌, length, sym, refl, ap, ◌∙◌, arith}
use Rattle.std.proofs.lemmas.Bool.{false≢true}
use Rattle.tableau.specs.Tableau.{Tableau, Run, run, small_lines}
use Rattle.pivot.specs.Shapes.{shown}
use Rattle.pivot.proofs.Rounds.{stands, fails, spent, large, onward, look_since, pivoted_since}
use Rattle.pivot.proofs.board.Board.run.Goals as goal

pub returns-in-Standing : goal.returns-in-Standing
returns-in-Standing c =
    let now = c.args.self.now in
    let b = c.loop-f.self in
    let k = length now.values.now in
    let t = shown k b.values.now b.lines.now in
    let e = stands c.loop-f.rest now.ends.now k t (look_since b.ends.now now.ends.now _ k b.values.now b.lines.now _ c.loop-f.invariant.2 c.loop-f.invariant.1 c.in-Standing.ensures.value) ∙ c.loop-f.invariant.0 in
    record { stop = ap (λ (r : Run). r.stop) e; left = ap (λ (r : Run). r.tableau) e; long = c.loop-f.invariant.1 }

pub returns-in-Stuck : goal.returns-in-Stuck
returns-in-Stuck c =
    let now = c.args.self.now in
    let b = c.loop-f.self in
    let k = length now.values.now in
    let t = shown k b.values.now b.lines.now in
    let e = fails c.loop-f.rest now.ends.now k t c.in-Stuck.f (look_since b.ends.now now.ends.now _ k b.values.now b.lines.now _ c.loop-f.invariant.2 c.loop-f.invariant.1 c.in-Stuck.ensures.value) ∙ c.loop-f.invariant.0 in
    record { stop = ap (λ (r : Run). r.stop) e; left = (ap (λ (r : Run). r.tableau) e, c.in-Stuck.ensures.inside); long = c.loop-f.invariant.1 }

pub returns-then-rest-eq0 : goal.returns-then-rest-eq0
returns-then-rest-eq0 c =
    let now = c.args.self.now in
    let b = c.loop-f.self in
    let k = length now.values.now in
    let t = shown k b.values.now b.lines.now in
    let l = look_since b.ends.now now.ends.now _ k b.values.now b.lines.now _ c.loop-f.invariant.2 c.loop-f.invariant.1 c.in-Turn.ensures.value in
    let e = spent c.loop-f.rest now.ends.now k t c.in-Turn.f c.in-Turn.q c.if-rest-eq0.true l ∙ c.loop-f.invariant.0 in
    record { stop = ap (λ (r : Run). r.stop) e; left = λ _. ap (λ (r : Run). r.tableau) e; long = c.loop-f.invariant.1 }

pub returns-then-not-pivot : goal.returns-then-not-pivot
returns-then-not-pivot c =
    let now = c.args.self.now in
    let b = c.loop-f.self in
    let k = length now.values.now in
    let t = shown k b.values.now b.lines.now in
    let l = look_since b.ends.now now.ends.now _ k b.values.now b.lines.now _ c.loop-f.invariant.2 c.loop-f.invariant.1 c.in-Turn.ensures.value in
    let p = pivoted_since b.ends.now now.ends.now (length b.values.now) k b.values.now b.lines.now c.in-Turn.f c.in-Turn.q c.loop-f.invariant.2 c.loop-f.invariant.1 in
    let s = sym (ap (λ (x : Tableau). small_lines x.lines) p) ∙ sym c.if-not-pivot.ensures.value in
    let e = large c.loop-f.rest now.ends.now k t c.in-Turn.f c.in-Turn.q (omega arith) l s ∙ c.loop-f.invariant.0 in
    record {
      stop = ap (λ (r : Run). r.stop) e;
      left = λ h. absurd (false≢true (sym s ∙ ap (λ (r : Run). small_lines r.tableau.lines) e ∙ h));
      long = c.pivot.ensures.long ∙ c.loop-f.invariant.1;
    }

pub loop-f-preserved : goal.loop-f-preserved
loop-f-preserved c =
    let now = c.args.self.now in
    let b = c.loop-f.self in
    let k = length now.values.now in
    let t = shown k b.values.now b.lines.now in
    let x = c.pivot.new.self.values.now in
    let ls = c.pivot.new.self.lines.now in
    let l = look_since b.ends.now now.ends.now _ k b.values.now b.lines.now _ c.loop-f.invariant.2 c.loop-f.invariant.1 c.in-Turn.ensures.value in
    let p = pivoted_since b.ends.now now.ends.now (length b.values.now) k b.values.now b.lines.now c.in-Turn.f c.in-Turn.q c.loop-f.invariant.2 c.loop-f.invariant.1 in
    let s = sym (ap (λ (y : Tableau). small_lines y.lines) p) ∙ sym c.if-not-pivot.ensures.value in
    let a = ap (λ n. shown n x ls) (sym c.loop-f.invariant.1) ∙ c.if-not-pivot.ensures.after refl ∙ p in (
      ap (run (c.loop-f.rest - 1) now.ends.now k) a ∙ onward c.loop-f.rest now.ends.now k t c.in-Turn.f c.in-Turn.q (omega arith) l s ∙ c.loop-f.invariant.0,
      c.pivot.ensures.long ∙ c.loop-f.invariant.1,
      c.pivot.ensures.ends ∙ c.loop-f.invariant.2,
    )
