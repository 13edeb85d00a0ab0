use Rattle.std.proofs.Common.{arith}
use Rattle.problems.specs.View.{rows_of, box_of}
use Rattle.problems.proofs.Views.{proper}
use Rattle.search.proofs.Written.{wrote_as}
use Rattle.search.proofs.Fits.{leaf_short}
use Rattle.search.proofs.Entries.{quantities, part_small, part_bytes}
use Rattle.search.proofs.record.Record.write_leaf.Goals as goal

pub write_sum-requires-clause-small : goal.write_sum-requires-clause-small
write_sum-requires-clause-small c =
    let p = c.args.refutation.now.problem.now in
    let q = quantities p _ _ c.vars.ensures c.row_ends.ensures in
    part_small (rows_of p) (box_of p) p.ends.vars.n p.ends.m _ c.args.refutation.now.leaf.now c.in-Sum.ms c.in-Sum.is q c.args.refutation.now.formed

pub returns-in-Sum : goal.returns-in-Sum
returns-in-Sum c =
    let p = c.args.refutation.now.problem.now in
    let q = quantities p _ _ c.vars.ensures c.row_ends.ensures in
    let w = wrote_as _ _ _ _ (part_bytes p.ends.vars.n p.ends.m _ c.args.refutation.now.leaf.now c.in-Sum.ms c.in-Sum.is q) c.write_sum.ensures in
    record { after = w; short = omega (arith, w.len, leaf_short (rows_of p) (box_of p) _ (proper p) c.args.refutation.now.formed) }
