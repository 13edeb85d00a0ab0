use Rattle.std.proofs.Common.{ℤ, ap, ◌∙◌}
use Rattle.testers.specs.Leaf.{misses}
use Rattle.layers.proofs.Missed.{lower_reach, upper_reach, less_back, misses_by}
use Rattle.layers.proofs.divisor.misses_row.Goals as goal

pub returns-then-g-ge-LEAST : goal.returns-then-g-ge-LEAST
returns-then-g-ge-LEAST c =
    let g = c.args.g in
    let ends = c.args.row.now.ends in
    let l = c.in-Some-Some.lower in
    let u = c.in-Some-Some.upper in
    let f = c.fixed_part-part.result in
    let low = less_back l f (lower_reach ends l c.args.row.now.proper c.in-Some-Some.is-0) c.fixed_part-part.ensures.small in
    let high = less_back u f (upper_reach ends u c.args.row.now.proper c.in-Some-Some.is-1) c.fixed_part-part.ensures.small in
    misses_by c.no_multiple.result g f ends.lower ends.upper l u c.in-Some-Some.is-0 c.in-Some-Some.is-1 low high c.if-g-ge-LEAST.true c.no_multiple.ensures
    ∙ ap (λ (z : ℤ). misses g z ends.lower ends.upper) c.fixed_part-part.ensures.value
