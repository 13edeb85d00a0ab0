use Rattle.std.proofs.Common.{◌≡◌, ◌≤◌, false, cond, get_or, pos, neg_ℤ, nat_abs, sym, ap, ◌∙◌, arith, w64, to_z, of_z}
use Rattle.problems.specs.Whole.{all_within, is_zero}
use Rattle.problems.proofs.Tests.{by_bool, eq_z_true}
use Rattle.problems.specs.Rows.{add, scale}
use Rattle.tableau.specs.Lines.{reduced}
use Rattle.testers.proofs.Products.{back}
use Rattle.pivot.proofs.Casts.{neg_back, neg_fits, small_neg}
use Rattle.pivot.proofs.Walks.{within_at, mix_within}
use Rattle.pivot.proofs.numbers.clear.Goals as goal

pub overflow_sub-t : goal.overflow_sub-t
overflow_sub-t c = neg_fits (get_or c.args.t.now c.args.q (pos 0)) (within_at 1000000000 c.args.t.now c.requires.other c.args.q)

pub mix-requires : goal.mix-requires
mix-requires c =
    let p = get_or c.args.t.now c.args.q (pos 0) in
    let x = get_or c.args.row.now c.args.q (pos 0) in
    let hp = within_at 1000000000 c.args.t.now c.requires.other c.args.q in
    let hx = within_at 1000000000 c.args.row.now c.requires.row c.args.q in
    record { row = c.requires.row; other = c.requires.other; same = c.requires.same; factor = rw (neg_back p hp) (small_neg p hp); multiple = rw (back x (omega arith)) hx }

pub reduce-requires : goal.reduce-requires
reduce-requires c =
    let p = get_or c.args.t.now c.args.q (pos 0) in
    let x = get_or c.args.row.now c.args.q (pos 0) in
    let hp : nat_abs p ≤ 1000000000 = within_at 1000000000 c.args.t.now c.requires.other c.args.q in
    let hx : nat_abs x ≤ 1000000000 = within_at 1000000000 c.args.row.now c.requires.row c.args.q in
    let e = c.mix.ensures ∙ ap (λ z. add (scale z c.args.row.now) (scale (to_z w64 (of_z w64 x)) c.args.t.now)) (neg_back p hp) ∙ ap (λ z. add (scale (neg_ℤ p) c.args.row.now) (scale z c.args.t.now)) (back x (omega arith)) in
    ap (all_within 2000000000000000000) e ∙ mix_within (neg_ℤ p) x c.args.row.now c.args.t.now (small_neg p hp) hx c.requires.row c.requires.other

pub returns-then-c-ne0 : goal.returns-then-c-ne0
returns-then-c-ne0 c =
    let p = get_or c.args.t.now c.args.q (pos 0) in
    let x = get_or c.args.row.now c.args.q (pos 0) in
    let hp : nat_abs p ≤ 1000000000 = within_at 1000000000 c.args.t.now c.requires.other c.args.q in
    let hx : nat_abs x ≤ 1000000000 = within_at 1000000000 c.args.row.now c.requires.row c.args.q in
    let e = c.mix.ensures ∙ ap (λ z. add (scale z c.args.row.now) (scale (to_z w64 (of_z w64 x)) c.args.t.now)) (neg_back p hp) ∙ ap (λ z. add (scale (neg_ℤ p) c.args.row.now) (scale z c.args.t.now)) (back x (omega arith)) in
    let n : is_zero x ≡ false = by_bool (is_zero x) (λ y. absurd (c.if-c-ne0.true (ap (of_z w64) (eq_z_true x (pos 0) y)))) (λ f. f) in
    c.reduce.ensures ∙ ap reduced e ∙ ap (λ b. cond b c.args.row.now (reduced (add (scale (neg_ℤ p) c.args.row.now) (scale x c.args.t.now)))) (sym n)
