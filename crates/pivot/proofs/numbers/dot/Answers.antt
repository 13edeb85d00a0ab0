use Rattle.std.proofs.Common.{◌≤◌, length, pos, ◌+ℤ◌, ◌*ℤ◌, nat_abs, sym, subst, arith, w64, SFits, rules}
use borrow.Author.Differences.{ints}
use Rattle.std.proofs.lemmas.Int.{to_z-of_z}
use Rattle.std.proofs.lemmas.List.{length-append}
use Rattle.std.proofs.lemmas.Slice.Zip.{zip_turn}
use Rattle.testers.proofs.Products.{fits}
use Rattle.pivot.proofs.Casts.{times_fits, times_back, term_small}
use Rattle.pivot.proofs.Walks.{dot_next, within_at}
use Rattle.pivot.proofs.numbers.dot.Goals as goal

pub overflow_mul-sum : goal.overflow_mul-sum
overflow_mul-sum c =
    let z = zip_turn c.args.a.now c.args.x.now c.loop-number.yielded _ _ c.next.new.self _ (search rules) (search rules) c.loop-number.yielded_by (c.in-Some.number, c.in-Some.value) c.in-Some.is c.next.ensures.steps in
    let i = length c.loop-number.yielded in
    let a = c.in-Some.number.now in
    let x = c.in-Some.value.now in
    let ha = subst (λ v. nat_abs v ≤ 1000000000) (sym (z.2 (pos 0))) (within_at 1000000000 c.args.a.now c.requires.left i) in
    let hx = subst (λ v. nat_abs v ≤ 200000000) (sym (z.3 (pos 0))) (within_at 200000000 c.args.x.now c.requires.right i) in
    times_fits a x ha hx

pub overflow_add-sum : goal.overflow_add-sum
overflow_add-sum c =
    let z = zip_turn c.args.a.now c.args.x.now c.loop-number.yielded _ _ c.next.new.self _ (search rules) (search rules) c.loop-number.yielded_by (c.in-Some.number, c.in-Some.value) c.in-Some.is c.next.ensures.steps in
    let i = length c.loop-number.yielded in
    let a = c.in-Some.number.now in
    let x = c.in-Some.value.now in
    let ha = subst (λ v. nat_abs v ≤ 1000000000) (sym (z.2 (pos 0))) (within_at 1000000000 c.args.a.now c.requires.left i) in
    let hx = subst (λ v. nat_abs v ≤ 200000000) (sym (z.3 (pos 0))) (within_at 200000000 c.args.x.now c.requires.right i) in
    let t = term_small c.loop-number.sum a x i (rw c.loop-number.sum-is at c.loop-number.invariant.1) ha hx in
    simp (c.loop-number.sum-is, times_back a x ha hx) (fits (c.loop-number.sum +ℤ a *ℤ x) (omega (arith, t, z.0, c.requires.short)))

pub loop-number-preserved : goal.loop-number-preserved
loop-number-preserved c =
    let z = zip_turn c.args.a.now c.args.x.now c.loop-number.yielded _ _ c.next.new.self _ (search rules) (search rules) c.loop-number.yielded_by (c.in-Some.number, c.in-Some.value) c.in-Some.is c.next.ensures.steps in
    let i = length c.loop-number.yielded in
    let a = c.in-Some.number.now in
    let x = c.in-Some.value.now in
    let ha = subst (λ v. nat_abs v ≤ 1000000000) (sym (z.2 (pos 0))) (within_at 1000000000 c.args.a.now c.requires.left i) in
    let hx = subst (λ v. nat_abs v ≤ 200000000) (sym (z.3 (pos 0))) (within_at 200000000 c.args.x.now c.requires.right i) in
    let t = term_small c.loop-number.sum a x i (rw c.loop-number.sum-is at c.loop-number.invariant.1) ha hx in
    let f : SFits w64 (c.loop-number.sum +ℤ a *ℤ x) = fits _ (omega (arith, t, z.0, c.requires.short)) in
    let n = dot_next c.args.a.now c.args.x.now i z.0 z.1 in
    let d = simp (← z.2 (pos 0), ← z.3 (pos 0)) at n in
    simp (c.loop-number.sum-is, times_back a x ha hx, to_z-of_z, length-append) (omega (arith, ints, c.loop-number.invariant.0, d), t)
