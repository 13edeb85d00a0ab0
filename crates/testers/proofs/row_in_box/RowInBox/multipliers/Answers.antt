use Rattle.std.proofs.Common.{◌≡◌, ◌+◌, List, length, get_or, set, ℤ, pos, ◌-ℤ◌, ◌*ℤ◌, neg_ℤ, sym, ap, ◌∙◌, arith, w64, to_z, of_z}
use Rattle.testers.proofs.Products.{back}
use Rattle.testers.proofs.Extremes.{coef_at}
use Rattle.testers.proofs.RowLeaves.{product_fits, turned_fits, turned_back, fill_next, filled}
use Rattle.testers.proofs.row_in_box.RowInBox.multipliers.Goals as goal

pub overflow_mul-all : goal.overflow_mul-all
overflow_mul-all c =
    let r = c.args.self.now.coefs.now in
    product_fits c.args.z (get_or r c.loop-j.j (pos 0)) c.requires.sign (coef_at r c.loop-j.j c.args.self.now.coefficients)

pub overflow_sub-all : goal.overflow_sub-all
overflow_sub-all c =
    let r = c.args.self.now.coefs.now in
    turned_fits c.args.z (get_or r c.loop-j.j (pos 0)) c.requires.sign (coef_at r c.loop-j.j c.args.self.now.coefficients)

pub loop-j-preserved : goal.loop-j-preserved
loop-j-preserved c =
    let r = c.args.self.now.coefs.now in
    let j = c.loop-j.j in
    let a = get_or r j (pos 0) in
    let z = to_z w64 (of_z w64 c.args.z) in
    let v = to_z w64 (of_z w64 (pos 0 -ℤ to_z w64 (of_z w64 (z *ℤ to_z w64 (of_z w64 a))))) in
    let e : v ≡ neg_ℤ z *ℤ a =
    turned_back c.args.z a c.requires.sign (coef_at r j c.args.self.now.coefficients) ∙ ap (λ (t : ℤ). neg_ℤ t *ℤ a) (sym (back c.args.z (omega (arith, c.requires.sign)))) in
    ap (λ (x : List ℤ). set x j v) c.loop-j.invariant ∙ fill_next (neg_ℤ z) r j v (omega arith) (omega (arith, c.args.self.now.few)) e

pub returns : goal.returns
returns c =
    let r = c.args.self.now.coefs.now in
    let z = to_z w64 (of_z w64 c.args.z) in
    let b = back c.args.z (omega (arith, c.requires.sign)) in
    ap (λ (x : List ℤ). set x (length r + c.args.self.now.number) z) c.loop-j.invariant
    ∙ rw b (filled (neg_ℤ c.args.z) r c.args.self.now.number c.loop-j.j c.args.z (omega arith) (omega arith))
