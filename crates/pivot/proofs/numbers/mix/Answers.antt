use Rattle.std.proofs.Common.{◌+◌, ◌<◌, ◌≤◌, get_or, pos, ◌+ℤ◌, ◌*ℤ◌, nat_abs, refl, ◌∙◌, arith, w64}
use Rattle.std.proofs.lemmas.Int.{to_z-of_z}
use Rattle.std.proofs.lemmas.List.{drop-set-lt}
use Rattle.testers.proofs.Products.{fits}
use Rattle.pivot.proofs.Casts.{mul_fits, mixed, mixed_small, mixed_back}
use Rattle.pivot.proofs.Walks.{mix_next, within_at, within_from, within_next}
use Rattle.pivot.proofs.numbers.mix.Goals as goal

pub overflow_mul-x : goal.overflow_mul-x
overflow_mul-x c =
    let hx = within_from 1000000000 c.loop-i.row c.loop-i.i c.loop-i.invariant.1 in
    simp (to_z-of_z w64 c.args.p c.ranges.p) (mul_fits 1000000000 1000000000 c.args.p (get_or c.loop-i.row c.loop-i.i (pos 0)) c.requires.factor hx (omega arith) (omega arith))

pub overflow_mul-x-in-loop-i : goal.overflow_mul-x-in-loop-i
overflow_mul-x-in-loop-i c =
    let hy = within_at 1000000000 c.args.t.now c.requires.other c.loop-i.i in
    simp (to_z-of_z w64 c.args.c c.ranges.c) (mul_fits 1000000000 1000000000 c.args.c (get_or c.args.t.now c.loop-i.i (pos 0)) c.requires.multiple hy (omega arith) (omega arith))

pub overflow_add-x : goal.overflow_add-x
overflow_add-x c =
    let x = get_or c.loop-i.row c.loop-i.i (pos 0) in
    let y = get_or c.args.t.now c.loop-i.i (pos 0) in
    let hx = within_from 1000000000 c.loop-i.row c.loop-i.i c.loop-i.invariant.1 in
    let hy = within_at 1000000000 c.args.t.now c.requires.other c.loop-i.i in
    simp (to_z-of_z w64 c.args.p c.ranges.p, to_z-of_z w64 c.args.c c.ranges.c, mixed c.args.p x c.args.c y c.requires.factor hx c.requires.multiple hy)
    (fits (c.args.p *ℤ x +ℤ c.args.c *ℤ y) (omega (arith, mixed_small c.args.p x c.args.c y c.requires.factor hx c.requires.multiple hy)))

pub loop-i-preserved : goal.loop-i-preserved
loop-i-preserved c =
    let i = c.loop-i.i in
    let row = c.loop-i.row in
    let t = c.args.t.now in
    let x = get_or row i (pos 0) in
    let y = get_or t i (pos 0) in
    let hx : nat_abs x ≤ 1000000000 = within_from 1000000000 row i c.loop-i.invariant.1 in
    let hy : nat_abs y ≤ 1000000000 = within_at 1000000000 t c.requires.other i in
    let ep = to_z-of_z w64 c.args.p c.ranges.p in
    let ec = to_z-of_z w64 c.args.c c.ranges.c in
    let l : i < i + 1 = omega arith in
    let m = mixed_back c.args.p x c.args.c y c.requires.factor hx c.requires.multiple hy in
    let s = simp (ep, ec) at c.loop-i.invariant.0 in
    simp (ep, ec, m) (
      mix_next c.args.p c.args.c row t i _ refl (omega arith) (omega (arith, c.requires.same)) ∙ s,
      rw (drop-set-lt (i + 1) row i (c.args.p *ℤ x +ℤ c.args.c *ℤ y) l) (within_next 1000000000 row i c.loop-i.invariant.1),
    )
