use Rattle.std.proofs.Common.{◌≡◌, ℕ, ◌+◌, ◌<◌, List, [], length, get_or, ℤ, sym, ap, ◌∙◌, subst, arith, length-set}
use Rattle.problems.specs.Whole.{all_within}
use Rattle.problems.specs.View.{box_of, rows_of}
use Rattle.problems.proofs.Views.{proper, row_of}
use Rattle.tableau.specs.declared.line.Line.{Line}
use Rattle.tableau.specs.Lines.{start_line}
use Rattle.pivot.specs.Shapes.{seen, LineOk}
use Rattle.pivot.proofs.Begins.{start_next, start_ok, within_more}
use Rattle.pivot.proofs.start.first_lines.Goals as goal

pub first_line-requires : goal.first_line-requires
first_line-requires c =
    let p = c.args.problem.now in
    let i = c.loop-i.i in
    let h : i < length (rows_of p) = omega (arith, c.rows-m.ensures.value) in
    let row = row_of p i h in
    record {
      long = omega (arith, ap length c.coefs.ensures, row.0, (proper p).few_variables, (proper p).few_rows, c.rows-m.ensures.value);
      inside = omega arith;
      small = within_more c.coefs.result.now (ap (all_within 100) c.coefs.ensures ∙ row.1);
    }

-- the new line, told of the problem's own numbers
line_is : (k m M i : ℕ) (coefs row : List ℤ) (new : Line) → M ≡ m → coefs ≡ row → length row + m ≡ k → seen (length coefs + M) new ≡ start_line M i coefs → LineOk (length coefs + M) new
    → (seen k new ≡ start_line m i row) × LineOk k new
line_is k m M i coefs row new e f g v o =
    let h : length coefs + M ≡ k = omega (arith, ap length f) in
    (sym (ap (λ (j : ℕ). seen j new) h) ∙ v ∙ ap (λ (j : ℕ). start_line j i coefs) e ∙ ap (start_line m i) f, subst (λ (j : ℕ). LineOk j new) h o)

pub loop-i-preserved : goal.loop-i-preserved
loop-i-preserved c =
    let p = c.args.problem.now in
    let i = c.loop-i.i in
    let m = length (rows_of p) in
    let k = length (box_of p).vars + m in
    let h : i < m = omega (arith, c.rows-m.ensures.value) in
    let l : i < length c.loop-i.line-items = omega (arith, c.loop-i.invariant.0, c.rows-m.ensures.value) in
    let w = line_is k m c.rows-m.result i c.coefs.result.now (get_or (rows_of p) i []) c.first_line.result c.rows-m.ensures.value c.coefs.ensures (ap (λ (n : ℕ). n + m) (row_of p i h).0) c.first_line.ensures.value c.first_line.ensures.ok in
    (simp length-set c.loop-i.invariant.0, start_next k m (rows_of p) c.loop-i.line-items i c.first_line.result l h w.0 ∙ c.loop-i.invariant.1, start_ok k c.loop-i.line-items i c.first_line.result l c.loop-i.invariant.2 w.1)
