use Rattle.std.proofs.Common.{◌≡◌, ℕ, ◌+◌, ◌-◌, ◌≤◌, List, ◌++◌, map, length, take, replicate, ℤ, pos, sym, refl, ap, ◌∙◌, subst, arith}
use Rattle.std.proofs.lemmas.List.{length-take, take_all}
use Rattle.problems.specs.declared.quantity.Span.{Span}
use Rattle.problems.specs.declared.problem.Problem.{Problem}
use Rattle.problems.specs.Whole.{all_within}
use Rattle.problems.specs.View.{box_of, rows_of}
use Rattle.problems.proofs.Views.{proper}
use Rattle.testers.specs.Halving.{lowers}
use Rattle.testers.proofs.Lowers.{length_lowers}
use Rattle.tableau.specs.Sound.{Solved}
use Rattle.pivot.specs.Shapes.{seen, EndsOk}
use Rattle.tableau.proofs.Solves.{start_solved}
use Rattle.pivot.proofs.Concludes.{values_small, all_in_reach, same_run, fronts}
use Rattle.pivot.proofs.test.by_pivots.Goals as goal

lowers_fit : (ss : List Span) → length ss ≤ 12 → take 24 (lowers ss) ++ replicate (24 - length ss) (pos 0) ≡ lowers ss ++ replicate (24 - length ss) (pos 0)
lowers_fit ss h = ap (λ (x : List ℤ). x ++ replicate (24 - length ss) (pos 0)) (take_all 24 (lowers ss) (omega (arith, h, length_lowers ss)))

few : (p : Problem) (n m : ℕ) → n ≡ length (box_of p).vars → m ≡ length (rows_of p) → n + m ≤ 24
few p n m e f = let q = proper p in omega (arith, q.few_variables, q.few_rows)

pub invariant_of-board : goal.invariant_of-board
invariant_of-board c =
    let p = c.args.problem.now in
    let q = proper p in
    let t = fronts p c.variables.result c.rows-m.result c.vars.result.now c.row_ends.result.now c.lowers-values.result c.all_ends-ends.result c.first_lines-lines.result
    c.variables.ensures.value c.rows-m.ensures.value c.vars.ensures c.row_ends.ensures
    (c.lowers-values.ensures.value ∙ ap (λ (x : List Span). take 24 (lowers x) ++ replicate (24 - length x) (pos 0)) c.vars-2.ensures ∙ lowers_fit (box_of p).vars q.few_variables)
    c.all_ends-ends.ensures c.first_lines-lines.ensures.value c.first_lines-lines.ensures.ok in
    record {
      few = omega (arith, length-take (c.rows-m.result - 0) c.first_lines-lines.result, c.rows-m.ensures.value, q.few_rows);
      short = subst (λ (i : ℕ). i ≤ 24) (sym t.long) (few p _ _ refl refl);
      same = t.same;
      small = ap (all_within 200000000) t.values_are ∙ values_small (box_of p).vars (length (rows_of p)) q.spans;
      lines_ok = t.lines_ok;
      ends_ok = subst EndsOk (sym t.ends_are) (all_in_reach (box_of p).vars (box_of p).rows q.spans q.row_spans);
    }

pub conclude-requires : goal.conclude-requires
conclude-requires c =
    let p = c.args.problem.now in
    let q = proper p in
    let t = fronts p c.variables.result c.rows-m.result c.vars.result.now c.row_ends.result.now c.lowers-values.result c.all_ends-ends.result c.first_lines-lines.result
    c.variables.ensures.value c.rows-m.ensures.value c.vars.ensures c.row_ends.ensures
    (c.lowers-values.ensures.value ∙ ap (λ (x : List Span). take 24 (lowers x) ++ replicate (24 - length x) (pos 0)) c.vars-2.ensures ∙ lowers_fit (box_of p).vars q.few_variables)
    c.all_ends-ends.ensures c.first_lines-lines.ensures.value c.first_lines-lines.ensures.ok in
    let L = take (c.rows-m.result - 0) c.first_lines-lines.result in
    record {
      solved = subst (λ (i : ℕ). Solved (map (seen i) L)) (sym t.long) (subst Solved (sym t.lines_are) (start_solved (length (box_of p).vars) (rows_of p) q.coefficients));
      all = t.long;
    }

pub returns : goal.returns
returns c =
    let p = c.args.problem.now in
    let q = proper p in
    let t = fronts p c.variables.result c.rows-m.result c.vars.result.now c.row_ends.result.now c.lowers-values.result c.all_ends-ends.result c.first_lines-lines.result
    c.variables.ensures.value c.rows-m.ensures.value c.vars.ensures c.row_ends.ensures
    (c.lowers-values.ensures.value ∙ ap (λ (x : List Span). take 24 (lowers x) ++ replicate (24 - length x) (pos 0)) c.vars-2.ensures ∙ lowers_fit (box_of p).vars q.few_variables)
    c.all_ends-ends.ensures c.first_lines-lines.ensures.value c.first_lines-lines.ensures.ok in
    c.conclude.ensures ∙ same_run c.args.limit (rows_of p) (box_of p) _ _ _ _ t.ends_are t.long t.values_are t.lines_are
