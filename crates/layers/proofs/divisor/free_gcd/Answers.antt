use Rattle.std.proofs.Common.{◌≡◌, ◌+◌, [], ◌∷◌, ◌++◌, cond, length, length-append, ℤ, nat_abs, ap, ◌∙◌, arith, rules}
use Rattle.std.proofs.lemmas.Slice.Zip.{zip_end}
use Rattle.problems.proofs.Propers.{coefs_from}
use Rattle.testers.specs.Gcd.{gcd}
use Rattle.testers.specs.Leaf.{fixed}
use Rattle.testers.proofs.Turns.{turn}
use Rattle.testers.proofs.Products.{back}
use Rattle.layers.specs.Divisor.{free_gcd}
use Rattle.layers.specs.Frees.{gcd_none, free_small}
use Rattle.layers.proofs.Commons.{free_more, free_done}
use Rattle.layers.proofs.divisor.free_gcd.Goals as goal

pub loop-coef-init : goal.loop-coef-init
loop-coef-init c = gcd_none (free_gcd c.args.row.now.coefs.now c.args.row.now.vars.now)

pub loop-coef-preserved : goal.loop-coef-preserved
loop-coef-preserved c =
    let r = c.args.row.now.coefs.now in
    let ss = c.args.row.now.vars.now in
    let i = length c.loop-coef.yielded in
    let a = c.in-Some.coef.now in
    let s = c.in-Some.span.now in
    let t = turn c.args.row.now c.loop-coef.yielded c.into_iter-coef-iterator.result c.loop-coef.coef-iterator c.next.new.self c.next.result (c.in-Some.coef, c.in-Some.span) (search rules) (search rules) c.loop-coef.yielded_by (search rules) c.next.ensures.steps in
    let n : length (c.loop-coef.yielded ++ (c.in-Some.coef, c.in-Some.span) ∷ []) ≡ i + 1 = length-append c.loop-coef.yielded ((c.in-Some.coef, c.in-Some.span) ∷ []) in
    let b = back a (omega (arith, t.small)) in
    let size = c.free_size.ensures ∙ ap (λ (z : ℤ). cond (fixed s) 0 (nat_abs z)) b in
    rw (n, c.gcd-g.ensures.value ∙ ap (λ k. gcd k c.loop-coef.g) size) (free_more r ss i a s c.loop-coef.g t.in_coefs t.in_vars t.coef t.span c.loop-coef.invariant)

pub returns : goal.returns
returns c =
    let r = c.args.row.now.coefs.now in
    let ss = c.args.row.now.vars.now in
    let i = length c.loop-coef.yielded in
    let n = zip_end r ss c.loop-coef.yielded c.into_iter-coef-iterator.result c.loop-coef.coef-iterator c.next.new.self c.next.result (search rules) (search rules) c.loop-coef.yielded_by (search rules) c.next.ensures.steps in
    let e = free_done r ss i c.loop-coef.g (omega (arith, c.args.row.now.alike)) c.loop-coef.invariant in
    record { value = e; small = rw e (free_small r ss (coefs_from r c.args.row.now.coefficients)) }
