use Rattle.std.proofs.Common.{◌≡◌, ◌+◌, ◌∷◌, [], ◌++◌, length, length-append, ap, ◌∙◌, rules, arith, ℤ}
use Rattle.testers.specs.Leaf.{most}
use Rattle.testers.specs.Halving.{fewest}
use Rattle.testers.proofs.Products.{back, sum_fits, sum_back, sum_small}
use Rattle.testers.proofs.Turns.{turn}
use Rattle.testers.proofs.Extremes.{least_more, greatest_more}
use Rattle.testers.proofs.row_in_box.RowInBox.range.Goals as goal

pub products-term-requires : goal.products-term-requires
products-term-requires c =
    let t = turn c.args.self.now c.loop-a.yielded c.into_iter-a-iterator.result c.loop-a.a-iterator c.next.new.self c.next.result (c.in-Some.a, c.in-Some.s) (search rules) (search rules) c.loop-a.yielded_by (search rules) c.next.ensures.steps in
    record { coefficient = rw (back c.in-Some.a.now (omega (arith, t.small))) t.small; proper = t.proper }

pub overflow_add-sum : goal.overflow_add-sum
overflow_add-sum c =
    let t = turn c.args.self.now c.loop-a.yielded c.into_iter-a-iterator.result c.loop-a.a-iterator c.next.new.self c.next.result (c.in-Some.a, c.in-Some.s) (search rules) (search rules) c.loop-a.yielded_by (search rules) c.next.ensures.steps in
    sum_fits c.loop-a.sum.lower c.products-term.result.lower (length c.loop-a.yielded) c.loop-a.invariant.small.0 t.below c.products-term.ensures.small.0

pub overflow_add-sum-in-loop-a : goal.overflow_add-sum-in-loop-a
overflow_add-sum-in-loop-a c =
    let t = turn c.args.self.now c.loop-a.yielded c.into_iter-a-iterator.result c.loop-a.a-iterator c.next.new.self c.next.result (c.in-Some.a, c.in-Some.s) (search rules) (search rules) c.loop-a.yielded_by (search rules) c.next.ensures.steps in
    sum_fits c.loop-a.sum.upper c.products-term.result.upper (length c.loop-a.yielded) c.loop-a.invariant.small.1 t.below c.products-term.ensures.small.1

pub loop-a-preserved : goal.loop-a-preserved
loop-a-preserved c =
    let r = c.args.self.now.coefs.now in
    let ss = c.args.self.now.vars.now in
    let i = length c.loop-a.yielded in
    let t = turn c.args.self.now c.loop-a.yielded c.into_iter-a-iterator.result c.loop-a.a-iterator c.next.new.self c.next.result (c.in-Some.a, c.in-Some.s) (search rules) (search rules) c.loop-a.yielded_by (search rules) c.next.ensures.steps in
    let a = c.in-Some.a.now in
    let s = c.in-Some.s.now in
    let b = back a (omega (arith, t.small)) in
    let low = c.products-term.result.lower in
    let high = c.products-term.result.upper in
    let x = c.loop-a.sum.lower in
    let y = c.loop-a.sum.upper in
    let sums = c.loop-a.invariant.small in
    let terms = c.products-term.ensures.small in
    let n : length (c.loop-a.yielded ++ (c.in-Some.a, c.in-Some.s) ∷ []) ≡ i + 1 = length-append c.loop-a.yielded ((c.in-Some.a, c.in-Some.s) ∷ []) in
    record {
      least_so_far = rw (n, sum_back x low i sums.0 t.below terms.0)
          (least_more r ss i a s t.in_coefs t.in_vars t.coef t.span x low (c.products-term.ensures.least ∙ ap (λ (z : ℤ). fewest z s) b) c.loop-a.invariant.least_so_far);
      greatest_so_far = rw (n, sum_back y high i sums.1 t.below terms.1)
          (greatest_more r ss i a s t.in_coefs t.in_vars t.coef t.span y high (c.products-term.ensures.greatest ∙ ap (λ (z : ℤ). most z s) b) c.loop-a.invariant.greatest_so_far);
      small = rw n (sum_small x low i sums.0 t.below terms.0, sum_small y high i sums.1 t.below terms.1);
    }
