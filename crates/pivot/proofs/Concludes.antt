-- What a run comes to, told of the code's tables.
use Rattle.std.proofs.Common.{◌≡◌, ℕ, zero, suc, ◌+◌, ◌-◌, ◌<◌, ◌≤◌, true, List, [], ◌∷◌, ◌++◌, map, length, get_or, take, drop, replicate, ℤ, pos, nat_abs, sym, refl, ap, ◌∙◌, subst, arith}
use Rattle.std.proofs.lemmas.List.{take-take, drop-take, take-replicate, get_or-map, length-append, length-replicate, length-map}
use Rattle.problems.specs.declared.quantity.Span.{Span}
use Rattle.problems.specs.declared.quantity.RowEnds.{RowEnds}
use Rattle.problems.specs.Whole.{all_within}
use Rattle.problems.specs.Ranges.{spans_proper, row_ends_proper, in_reach, in_order}
use Rattle.problems.specs.Box.{Box}
use Rattle.problems.specs.declared.problem.Problem.{Problem}
use Rattle.problems.specs.View.{box_of, rows_of}
use Rattle.problems.proofs.Views.{proper}
use Rattle.problems.proofs.Propers.{span_from}
use Rattle.testers.specs.Leaf.Leaf.{sum}
use Rattle.testers.specs.Tester.Answer.{empty}
use Rattle.testers.specs.Halving.{lowers}
use Rattle.testers.proofs.Lowers.{length_lowers}
use Rattle.tableau.specs.declared.line.Line.{Line}
use Rattle.tableau.specs.declared.run.Violation.{Violation}
use Rattle.tableau.specs.declared.run.Stop.TheVariants.{Fails}
use Rattle.tableau.specs.Lines.{blank, start_lines}
use Rattle.tableau.specs.Tableau.{Tableau, Run, span_ends, ends_of, run, run_on}
use Rattle.tableau.specs.Pivot.{multipliers, refuted, conclude, concluded}
use Rattle.pivot.specs.Shapes.{seen, shown, LinesOk, EndsOk}
use Rattle.pivot.proofs.Begins.{take_past, within_append}
use Rattle.std.proofs.lemmas.Bool.{and_from, and_parts, le-leb}

-- the leaf, read off the last tableau
pub failed : (box : Box) (n m k : ℕ) (values : List ℤ) (ls : List Line) (f : Violation) (ms : List ℤ) (r : Run)
    → n ≡ length box.vars → k ≡ n + m → f.place < length ls → Fails f ≡ r.stop → shown k values ls ≡ r.tableau
    → take k ms ≡ multipliers f.side (take k (get_or ls f.place blank).nums) → empty (sum (take n ms) (take m (drop n ms))) ≡ concluded box r
failed box n m k values ls f ms r e d h s t u =
    let l : n ≤ n + m = omega arith in
    let all : List ℤ = take (n + m) ms in
    ap (λ (a : List ℤ). empty (sum a (take m (drop n ms)))) (sym (take-take n (n + m) ms l))
    ∙ ap (λ (b : List ℤ). empty (sum (take n all) b)) (sym (drop-take n m ms))
    ∙ ap (λ (i : ℕ). refuted i all) e
    ∙ ap (λ (i : ℕ). refuted (length box.vars) (take i ms)) (sym d)
    ∙ ap (refuted (length box.vars)) (u ∙ ap (λ (x : Line). multipliers f.side x.nums) (sym (get_or-map (seen k) ls f.place blank blank h)))
    ∙ ap (λ (x : Tableau). conclude box x (Fails f)) t ∙ ap (conclude box r.tableau) s

-- ---- the tables at the start

pub values_front : (ss : List Span) (m : ℕ) → length ss + m ≤ 24 → take (length ss + m) (lowers ss ++ replicate (24 - length ss) (pos 0)) ≡ lowers ss ++ replicate m (pos 0)
values_front ss m h =
    take_past (lowers ss) (replicate (24 - length ss) (pos 0)) (length ss) m (length_lowers ss)
    ∙ ap (λ (x : List ℤ). lowers ss ++ x) (take-replicate m (24 - length ss) (pos 0) (omega arith))

lowers_small : (ss : List Span) → spans_proper ss ≡ true → all_within 200000000 (lowers ss) ≡ true
lowers_small [] h = refl
lowers_small (s ∷ ss) h =
    let w = and_parts _ (spans_proper ss) h in
    let p = (span_from s w.0).1 in
    and_from _ _ (le-leb (nat_abs s.lower) 200000000 (omega (arith, p))) (lowers_small ss w.1)

zeros_small : (m : ℕ) → all_within 200000000 (replicate m (pos 0)) ≡ true
zeros_small m = go m
  where
    go : (m : ℕ) → all_within 200000000 (replicate m (pos 0)) ≡ true
    go zero = refl
    go (suc m) = and_from _ _ (le-leb 0 200000000 (omega arith)) (go m)

pub values_small : (ss : List Span) (m : ℕ) → spans_proper ss ≡ true → all_within 200000000 (lowers ss ++ replicate m (pos 0)) ≡ true
values_small ss m h = within_append 200000000 (lowers ss) (replicate m (pos 0)) (lowers_small ss h) (zeros_small m)

rows_in_reach : (es : List RowEnds) → row_ends_proper es ≡ true → EndsOk es
rows_in_reach [] h = tt
rows_in_reach (e ∷ es) h =
    let w = and_parts _ (row_ends_proper es) h in
    let p = and_parts _ (in_reach e.upper) w.0 in
    let q = and_parts (in_order e.lower e.upper) (in_reach e.lower) p.0 in
    (q.1, p.1, rows_in_reach es w.1)

pub all_in_reach : (ss : List Span) (es : List RowEnds) → spans_proper ss ≡ true → row_ends_proper es ≡ true → EndsOk (map span_ends ss ++ es)
all_in_reach [] es h g = rows_in_reach es g
all_in_reach (s ∷ ss) es h g =
    let w = and_parts _ (spans_proper ss) h in
    let p = span_from s w.0 in
    (le-leb (nat_abs s.lower) 200000000 (omega (arith, p.1)), le-leb (nat_abs s.upper) 200000000 (omega (arith, p.2)), all_in_reach ss es w.1 g)

-- the run from the code's tables is the run from the start
pub same_run : (limit : ℕ) (rows : List (List ℤ)) (box : Box) (ends : List RowEnds) (k : ℕ) (values : List ℤ) (ls : List Line)
    → ends ≡ ends_of box → k ≡ length box.vars + length rows → values ≡ lowers box.vars ++ replicate (length rows) (pos 0)
    → map (seen (length box.vars + length rows)) ls ≡ start_lines (length rows) 0 rows
    → concluded box (run limit ends k (shown k values ls)) ≡ concluded box (run_on limit rows box)
same_run limit rows box ends k values ls e d v l =
    let made : List ℤ → List Line → Tableau = λ a b. record { values = a; lines = b } in
    let K = length box.vars + length rows in
    ap (λ (x : List RowEnds). concluded box (run limit x k (shown k values ls))) e
    ∙ ap (λ (j : ℕ). concluded box (run limit (ends_of box) j (shown j values ls))) d
    ∙ ap (λ (x : List ℤ). concluded box (run limit (ends_of box) K (made x (map (seen K) ls)))) v
    ∙ ap (λ (x : List Line). concluded box (run limit (ends_of box) K (made (lowers box.vars ++ replicate (length rows) (pos 0)) x))) l

-- what the code's tables say of the problem: the values, the ends and the lines of the start, over all quantities
pub record Tables (p : Problem) (values : List ℤ) (ends : List RowEnds) (ls : List Line) : Type 0 where
  pub long : length values ≡ length (box_of p).vars + length (rows_of p)
  pub same : length ends ≡ length values
  pub values_are : values ≡ lowers (box_of p).vars ++ replicate (length (rows_of p)) (pos 0)
  pub ends_are : ends ≡ ends_of (box_of p)
  pub lines_are : map (seen (length (box_of p).vars + length (rows_of p))) ls ≡ start_lines (length (rows_of p)) 0 (rows_of p)
  pub lines_ok : LinesOk (length values) ls

-- the fronts of full tables, of n variables and m rows
pub fronts : (p : Problem) (n m : ℕ) (ss : List Span) (es : List RowEnds) (values : List ℤ) (ends : List RowEnds) (ls : List Line)
    → n ≡ length (box_of p).vars → m ≡ length (rows_of p) → ss ≡ (box_of p).vars → es ≡ (box_of p).rows
    → values ≡ lowers (box_of p).vars ++ replicate (24 - length (box_of p).vars) (pos 0)
    → take (length ss + length es) ends ≡ map span_ends ss ++ es
    → map (seen (length (box_of p).vars + length (rows_of p))) (take (length (rows_of p)) ls) ≡ start_lines (length (rows_of p)) 0 (rows_of p)
    → LinesOk (length (box_of p).vars + length (rows_of p)) (take (length (rows_of p)) ls)
    → Tables p (take (n + m - 0) values) (take (n + m - 0) ends) (take (m - 0) ls)
fronts p n m ss es values ends ls en em e f v w l o =
    let q = proper p in
    let N = length (box_of p).vars in
    let M = length (rows_of p) in
    let k : n + m - 0 ≡ N + M = omega arith in
    let i : n + m - 0 ≡ length ss + length es = omega (arith, ap length e, ap length f, q.ends_of_rows) in
    let j : m - 0 ≡ M = omega arith in
    let small : N + M ≤ 24 = omega (arith, q.few_variables, q.few_rows) in
    let vs = ap (λ (x : ℕ). take x values) k ∙ ap (take (N + M)) v ∙ values_front (box_of p).vars M small in
    let long = ap length vs ∙ length-append (lowers (box_of p).vars) (replicate M (pos 0)) ∙ omega (arith, length_lowers (box_of p).vars, length-replicate M (pos 0)) in
    let all = ap (λ (x : ℕ). take x ends) i ∙ w ∙ ap (λ (x : List Span). map span_ends x ++ es) e ∙ ap (λ (x : List RowEnds). map span_ends (box_of p).vars ++ x) f in
    record {
      long = long;
      same = ap length all ∙ length-append (map span_ends (box_of p).vars) (box_of p).rows ∙ omega (arith, length-map (box_of p).vars span_ends, q.ends_of_rows, long);
      values_are = vs;
      ends_are = all;
      lines_are = ap (λ (x : ℕ). map (seen (N + M)) (take x ls)) j ∙ l;
      lines_ok = subst (λ (x : ℕ). LinesOk x (take (m - 0) ls)) (sym long) (subst (λ (x : ℕ). LinesOk (N + M) (take x ls)) (sym j) o);
    }
