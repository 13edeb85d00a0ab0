use Rattle.std.proofs.Common.{pos, ◌∙◌, arith, w64}
use Rattle.std.proofs.lemmas.Int.{to_z-of_z}
use borrow.Author.Differences.{ints}
use Rattle.problems.proofs.Tests.{lt_z_true, lt_z_false}
use Rattle.problems.proofs.Propers.{span_from}
use Rattle.testers.proofs.Products.{term_fits, term_back, term_small}
use Rattle.testers.proofs.Extremes.{fewest_upper, fewest_lower, most_upper, most_lower}
use Rattle.testers.proofs.row_in_box.products.Goals as goal

pub overflow_mul-result : goal.overflow_mul-result
overflow_mul-result c = term_fits c.args.a c.args.s.upper c.requires.coefficient (span_from c.args.s c.requires.proper).2

pub overflow_mul-result-then-a-lt0 : goal.overflow_mul-result-then-a-lt0
overflow_mul-result-then-a-lt0 c = term_fits c.args.a c.args.s.lower c.requires.coefficient (span_from c.args.s c.requires.proper).1

pub overflow_mul-result-else-a-lt0 : goal.overflow_mul-result-else-a-lt0
overflow_mul-result-else-a-lt0 c = term_fits c.args.a c.args.s.lower c.requires.coefficient (span_from c.args.s c.requires.proper).1

pub overflow_mul-result-else-a-lt0-2 : goal.overflow_mul-result-else-a-lt0-2
overflow_mul-result-else-a-lt0-2 c = term_fits c.args.a c.args.s.upper c.requires.coefficient (span_from c.args.s c.requires.proper).2

pub returns-then-a-lt0 : goal.returns-then-a-lt0
returns-then-a-lt0 c =
    let a = c.args.a in
    let s = c.args.s in
    let h = span_from s c.requires.proper in
    let l = term_back a s.lower c.requires.coefficient h.1 in
    let u = term_back a s.upper c.requires.coefficient h.2 in
    let n = lt_z_true a (pos 0) (simp (to_z-of_z w64 a c.ranges.a) at c.if-a-lt0.true) in
    record { least = u ∙ fewest_upper a s n; greatest = l ∙ most_lower a s (omega (arith, ints, n)); small = (rw u (term_small a s.upper c.requires.coefficient h.2), rw l (term_small a s.lower c.requires.coefficient h.1)) }

pub returns-else-a-lt0 : goal.returns-else-a-lt0
returns-else-a-lt0 c =
    let a = c.args.a in
    let s = c.args.s in
    let h = span_from s c.requires.proper in
    let l = term_back a s.lower c.requires.coefficient h.1 in
    let u = term_back a s.upper c.requires.coefficient h.2 in
    let n = lt_z_false a (pos 0) (simp (to_z-of_z w64 a c.ranges.a) at c.if-a-lt0.false) in
    record { least = l ∙ fewest_lower a s n; greatest = u ∙ most_upper a s n; small = (rw l (term_small a s.lower c.requires.coefficient h.1), rw u (term_small a s.upper c.requires.coefficient h.2)) }
