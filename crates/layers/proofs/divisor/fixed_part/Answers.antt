use Rattle.std.proofs.Common.{◌≡◌, ◌+◌, [], ◌∷◌, ◌++◌, cond, length, length-append, pos, ◌*ℤ◌, ℤ, ap, ◌∙◌, arith, rules}
use borrow.Author.Differences.{ints}
use Rattle.std.proofs.lemmas.Slice.Zip.{zip_end}
use Rattle.testers.specs.Leaf.{fixed}
use Rattle.testers.proofs.Turns.{turn}
use Rattle.testers.proofs.Products.{back}
use Rattle.layers.specs.Frees.{part_more, part_end}
use Rattle.layers.proofs.divisor.fixed_part.Goals as goal

pub fixed_term-sum-requires : goal.fixed_term-sum-requires
fixed_term-sum-requires c =
    let t = turn c.args.row.now c.loop-a.yielded c.into_iter-a-iterator.result c.loop-a.a-iterator c.next.new.self c.next.result (c.in-Some.a, c.in-Some.s) (search rules) (search rules) c.loop-a.yielded_by (search rules) c.next.ensures.steps in
    record { coefficient = rw (back c.in-Some.a.now (omega (arith, t.small))) t.small; proper = t.proper }

pub overflow_add-sum : goal.overflow_add-sum
overflow_add-sum c =
    let t = turn c.args.row.now c.loop-a.yielded c.into_iter-a-iterator.result c.loop-a.a-iterator c.next.new.self c.next.result (c.in-Some.a, c.in-Some.s) (search rules) (search rules) c.loop-a.yielded_by (search rules) c.next.ensures.steps in
    omega (arith, ints, t.below, c.loop-a.invariant.small, c.loop-a.sum-is)

pub loop-a-preserved : goal.loop-a-preserved
loop-a-preserved c =
    let r = c.args.row.now.coefs.now in
    let ss = c.args.row.now.vars.now in
    let i = length c.loop-a.yielded in
    let t = turn c.args.row.now c.loop-a.yielded c.into_iter-a-iterator.result c.loop-a.a-iterator c.next.new.self c.next.result (c.in-Some.a, c.in-Some.s) (search rules) (search rules) c.loop-a.yielded_by (search rules) c.next.ensures.steps in
    let a = c.in-Some.a.now in
    let s = c.in-Some.s.now in
    let b = back a (omega (arith, t.small)) in
    let e = c.fixed_term-sum.ensures.value ∙ ap (λ (z : ℤ). cond (fixed s) (z *ℤ s.lower) (pos 0)) b in
    let n : length (c.loop-a.yielded ++ (c.in-Some.a, c.in-Some.s) ∷ []) ≡ i + 1 = length-append c.loop-a.yielded ((c.in-Some.a, c.in-Some.s) ∷ []) in
    let d = part_more r ss i a s c.fixed_term-sum.result t.in_coefs t.in_vars t.coef t.span e in
    rw n (record { so_far = omega (arith, ints, t.below, d, c.loop-a.invariant.so_far, c.loop-a.invariant.small); small = omega (arith, ints, c.loop-a.invariant.small) })

pub returns : goal.returns
returns c =
    let r = c.args.row.now.coefs.now in
    let ss = c.args.row.now.vars.now in
    let i = length c.loop-a.yielded in
    let n = zip_end r ss c.loop-a.yielded c.into_iter-a-iterator.result c.loop-a.a-iterator c.next.new.self c.next.result (search rules) (search rules) c.loop-a.yielded_by (search rules) c.next.ensures.steps in
    let alike = c.args.row.now.alike in
    let few = c.args.row.now.few in
    let e = part_end r ss i (omega (arith, n)) in
    record { value = omega (arith, ints, c.loop-a.invariant.so_far); small = omega (arith, n, c.loop-a.invariant.small) }
