use Rattle.std.proofs.Common.{Bool, cond, pos, ◌*ℤ◌, sym, ap, ◌∙◌}
use Rattle.problems.proofs.Propers.{span_from}
use Rattle.testers.proofs.Products.{term_fits, term_back, term_small}
use Rattle.layers.proofs.divisor.fixed_term.Goals as goal

pub overflow_mul-result : goal.overflow_mul-result
overflow_mul-result c = term_fits c.args.a c.args.s.lower c.requires.coefficient (span_from c.args.s c.requires.proper).1

pub returns-then-is_fixed : goal.returns-then-is_fixed
returns-then-is_fixed c =
    let a = c.args.a in
    let s = c.args.s in
    let l = (span_from s c.requires.proper).1 in
    let e = term_back a s.lower c.requires.coefficient l in
    let f = sym c.if-is_fixed.ensures.value in
    record { value = e ∙ sym (ap (λ (b : Bool). cond b (a *ℤ s.lower) (pos 0)) f); small = rw e (term_small a s.lower c.requires.coefficient l) }
