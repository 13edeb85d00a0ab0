use Rattle.std.proofs.Common.{◌≤◌, length, arith, rules}
use Rattle.problems.specs.View.{box_of, rows_of}
use Rattle.problems.proofs.Views.{proper}
use Rattle.testers.specs.Halving.{failing_row}
use Rattle.testers.specs.Told.{leaf_in}
use Rattle.testers.proofs.Firsts.{First, first_is, found_first}
use Rattle.testers.proofs.Plans.{lawful_leaf_means_no_plan}
use Rattle.testers.proofs.RowLeaves.{failing_from, none_left, fails_at, passes_at}
use Rattle.testers.proofs.row_check.row_check.Goals as goal

pub returns : goal.returns
returns c =
    let p = c.args.problem.now in
    let rows = rows_of p in
    let box = box_of p in
    let n = length rows in
    let first : First (leaf_in p.ends.vars.n p.ends.m) n (failing_row rows box) c.find_map.result =
    found_first _ _ (leaf_in p.ends.vars.n p.ends.m) n (failing_row rows box) (λ i b q k. search rules) c.find_map.result c.rows.result c.rows.ensures.value c.find_map.ensures.runs in
    let ends : n ≤ length box.rows = omega (arith, (proper p).ends_of_rows) in
    record {
      value = first_is n (failing_row rows box) (failing_from rows box) (none_left rows box) (λ i l h e. fails_at rows box i h (omega arith) l e) (λ i h e. passes_at rows box i h (omega arith) e) (leaf_in p.ends.vars.n p.ends.m) c.find_map.result first;
      leaf = lawful_leaf_means_no_plan;
    }
