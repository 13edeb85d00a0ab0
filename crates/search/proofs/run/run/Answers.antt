use Rattle.std.proofs.Common.{◌≡◌, sym, ap, ◌∙◌, drop, subst}
use Rattle.testers.specs.Tester.{Meaning}
use Rattle.problems.specs.View.{box_of, rows_of}
use Rattle.search.specs.declared.found.Found.{Found as FoundType}
use Rattle.search.specs.Search.{told}
use Rattle.search.specs.Shown.{found_of}
use Rattle.search.specs.Walk.{reached}
use Rattle.search.proofs.Runs.{goes_on, ends_here, kept_on}
use Rattle.search.proofs.run.run.Goals as goal

pub returns-in-Some-clause-answer : goal.returns-in-Some-clause-answer
returns-in-Some-clause-answer g c =
    let i = c.loop-walk.invariant in
    let w = c.loop-walk.walk in
    let r = c.loop-walk.written in
    let s = c.loop-walk.stack in
    ap (found_of c.args.root.now.ends.vars.n c.step.new.written.bytes.now) c.tell.ensures
    ∙ ends_here (g.T.Tester.meaning c.args.tester.now) c.args.root.now c.args.budget c.args.written.now c.args.stack.now w r s i.0
    c.step.new.self c.step.new.written c.step.new.stack c.loop-walk-test.true c.in-Some.ensures.moved c.in-Some.verdict
    (λ further. ap (λ (m : Meaning). told (rows_of w.root.now) (box_of w.root.now) further (reached w r s) (m (rows_of w.root.now) (box_of w.at))) (sym i.1) ∙ c.in-Some.ensures.goes further)

pub returns-in-Some-clause-kept : goal.returns-in-Some-clause-kept
returns-in-Some-clause-kept g c =
    let q = c.args.written.now in
    let r' = c.step.new.written in
    subst (λ (f : FoundType). drop f.bytes r'.bytes.now ≡ drop f.bytes q.bytes.now) (sym c.tell.ensures)
    (kept_on (g.T.Tester.meaning c.args.tester.now) c.args.root.now c.args.budget q c.args.stack.now c.loop-walk.walk c.loop-walk.written c.loop-walk.stack c.loop-walk.invariant.0
    c.step.new.self r' c.step.new.stack c.loop-walk-test.true c.in-Some.ensures.moved)

pub loop-walk-preserved : goal.loop-walk-preserved
loop-walk-preserved g c =
    let i = c.loop-walk.invariant in
    let w = c.loop-walk.walk in
    let r = c.loop-walk.written in
    let s = c.loop-walk.stack in
    let e = c.in_default.ensures in (
      goes_on (g.T.Tester.meaning c.args.tester.now) c.args.root.now c.args.budget c.args.written.now c.args.stack.now w r s i.0
          c.step.new.self c.step.new.written c.step.new.stack c.loop-walk-test.true e.moved
          (λ further. ap (λ (m : Meaning). told (rows_of w.root.now) (box_of w.root.now) further (reached w r s) (m (rows_of w.root.now) (box_of w.at))) (sym i.1) ∙ e.goes further),
      e.same ∙ i.1,
    )
