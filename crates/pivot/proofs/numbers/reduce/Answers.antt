use Rattle.std.proofs.Common.{◌≡◌, true, cond, ltb, pos, sym, ap, ◌∙◌, arith, w64, to_z}
use borrow.Author.Differences.{ints}
use Rattle.std.proofs.lemmas.Bool.Decides.{nat_tests}
use Rattle.tableau.specs.Lines.{gcd_all, divide_all}
use Rattle.pivot.proofs.Commons.{gcd_all_small}
use Rattle.pivot.proofs.numbers.reduce.Goals as goal

pub overflow_cast-g : goal.overflow_cast-g
overflow_cast-g c = let h = gcd_all_small 2000000000000000000 0 c.args.row.now (omega arith) c.requires in omega (arith, ints)

pub divide-requires : goal.divide-requires
divide-requires c = let h = gcd_all_small 2000000000000000000 0 c.args.row.now (omega arith) c.requires in omega (arith, ints)

pub returns-then-g-gt-UNIT : goal.returns-then-g-gt-UNIT
returns-then-g-gt-UNIT c =
    let h = gcd_all_small 2000000000000000000 0 c.args.row.now (omega arith) c.requires in
    let row = c.args.row.now in
    let e : to_z w64 c.common-g.result ≡ pos (gcd_all 0 row) = omega (arith, ints) in
    let t : ltb 1 (gcd_all 0 row) ≡ true = grind (arith, nat_tests) in
    c.divide.ensures ∙ ap (λ g. divide_all g row) e ∙ ap (λ b. cond b (divide_all (pos (gcd_all 0 row)) row) row) (sym t)
