use Rattle.std.proofs.Common.{◌≡◌, ◌≤◌, true, List, get_or, set, ℤ, pos, sym, ap, ◌∙◌, subst, arith, length-set, w64, SFits, to_z, of_z, rules}
use Rattle.std.proofs.lemmas.Int.{to_z-of_z}
use Rattle.problems.specs.declared.quantity.RowEnds.{RowEnds}
use Rattle.problems.specs.Box.{no_ends}
use Rattle.problems.specs.Whole.{all_within}
use Rattle.tableau.specs.declared.run.Violation.{Violation}
use Rattle.tableau.specs.Tableau.{end_value}
use Rattle.pivot.specs.Shapes.{LinesOk, EndsOk}
use Rattle.pivot.proofs.Rounds.{within_set, end_small}
use Rattle.pivot.proofs.board.Board.shift.Goals as goal

within_one : (f : Violation) (x : List ℤ) (ends : List RowEnds) (v : ℤ) → SFits w64 v → v ≡ end_value f.side (get_or ends f.basic no_ends) → all_within 200000000 x ≡ true → EndsOk ends
    → all_within 200000000 (set x f.basic (to_z w64 (of_z w64 v))) ≡ true
within_one f x ends v g e s o =
    ap (λ (z : ℤ). all_within 200000000 (set x f.basic z)) (to_z-of_z w64 v g ∙ e) ∙ within_set 200000000 x f.basic _ s (end_small f.side ends f.basic o)

pub invariant_of-self-clause-small : goal.invariant_of-self-clause-small
invariant_of-self-clause-small c =
    let b = c.args.self.now in
    let g : SFits w64 c.end_value.result = search rules in
    within_one c.args.f b.values.now b.ends.now c.end_value.result g c.end_value.ensures b.small b.ends_ok

pub invariant_of-self-clause-lines_ok : goal.invariant_of-self-clause-lines_ok
invariant_of-self-clause-lines_ok c =
    let b = c.args.self.now in
    subst (λ k. LinesOk k b.lines.now) (sym (length-set b.values.now c.args.f.basic (to_z w64 (of_z w64 c.end_value.result)))) b.lines_ok

pub invariant_of-self-clause-short : goal.invariant_of-self-clause-short
invariant_of-self-clause-short c =
    let b = c.args.self.now in
    subst (λ n. n ≤ 24) (sym (length-set b.values.now c.args.f.basic (to_z w64 (of_z w64 c.end_value.result)))) b.short

pub invariant_of-self-clause-same : goal.invariant_of-self-clause-same
invariant_of-self-clause-same c =
    let b = c.args.self.now in
    b.same ∙ sym (length-set b.values.now c.args.f.basic (to_z w64 (of_z w64 c.end_value.result)))

pub invariant_of-self-2-clause-small : goal.invariant_of-self-2-clause-small
invariant_of-self-2-clause-small c =
    let x = set c.args.self.now.values.now c.args.f.basic (to_z w64 (of_z w64 c.end_value.result)) in
    let b = c.args.self.now in
    let g : SFits w64 c.end_value.result = search rules in
    within_set 200000000 x c.args.q (pos 0) (within_one c.args.f b.values.now b.ends.now c.end_value.result g c.end_value.ensures b.small b.ends_ok) (omega arith)

pub invariant_of-self-2-clause-lines_ok : goal.invariant_of-self-2-clause-lines_ok
invariant_of-self-2-clause-lines_ok c =
    let b = c.args.self.now in
    let v = to_z w64 (of_z w64 c.end_value.result) in
    subst (λ k. LinesOk k b.lines.now) (sym (length-set (set b.values.now c.args.f.basic v) c.args.q (pos 0) ∙ length-set b.values.now c.args.f.basic v)) b.lines_ok

pub invariant_of-self-2-clause-short : goal.invariant_of-self-2-clause-short
invariant_of-self-2-clause-short c =
    let b = c.args.self.now in
    let v = to_z w64 (of_z w64 c.end_value.result) in
    subst (λ n. n ≤ 24) (sym (length-set (set b.values.now c.args.f.basic v) c.args.q (pos 0) ∙ length-set b.values.now c.args.f.basic v)) b.short

pub invariant_of-self-2-clause-same : goal.invariant_of-self-2-clause-same
invariant_of-self-2-clause-same c =
    let b = c.args.self.now in
    let v = to_z w64 (of_z w64 c.end_value.result) in
    b.same ∙ sym (length-set (set b.values.now c.args.f.basic v) c.args.q (pos 0) ∙ length-set b.values.now c.args.f.basic v)
