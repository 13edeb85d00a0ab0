use Rattle.std.proofs.Common.{length, rules}
use Rattle.problems.specs.View.{box_of, rows_of}
use Rattle.testers.specs.Told.{leaf_in}
use Rattle.testers.proofs.Firsts.{first_is, found_first}
use Rattle.layers.specs.Divisor.{missed_leaf}
use Rattle.layers.proofs.Missed.{missed_from, none_missed, missed_at, met_at}
use Rattle.layers.proofs.divisor.missed_row.Goals as goal

pub returns : goal.returns
returns c =
    let p = c.args.problem.now in
    let rows = rows_of p in
    let box = box_of p in
    let n = length rows in
    let told = leaf_in p.ends.vars.n p.ends.m in
    let first = found_first _ _ told n (missed_leaf rows box) (λ i b q k. search rules) c.find_map.result c.rows.result c.rows.ensures.value c.find_map.ensures.runs in
    first_is n (missed_leaf rows box) (missed_from rows box) (none_missed rows box) (λ i l h e. missed_at rows box i h l e) (λ i h e. met_at rows box i h e) told c.find_map.result first
