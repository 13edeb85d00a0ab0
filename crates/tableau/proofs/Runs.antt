-- The start has all that a run keeps, so every tableau of a run has it; and where a run stops, the last look says why.
use Rattle.std.proofs.Common.{◌≡◌, ℕ, zero, suc, ◌+◌, ◌-◌, ◌<◌, ◌≤◌, true, List, [], ◌∷◌, ◌++◌, map, length, get_or, replicate, ℤ, pos, negsuc, nat_abs, sym, refl, ap, ◌∙◌, subst, inl, ⊎_elim, le_of_suc-le-suc, not-suc-le-zero, arith}
use Rattle.std.proofs.lemmas.List.{length-append, length-replicate, get_or-append-add}
use Rattle.std.proofs.lemmas.Bool.{cases_lt, and_from, cond_both}
use Rattle.problems.specs.declared.quantity.Span.{Span}
use Rattle.problems.specs.declared.quantity.RowEnds.{RowEnds}
use Rattle.problems.specs.Box.{Box, Proper, no_ends}
use Rattle.problems.proofs.Builds.{within_append}
use Rattle.problems.proofs.Propers.{RowLists, rows_from, row_length}
use Rattle.testers.specs.Gcd.{Divides}
use Rattle.testers.specs.Halving.{single, lowers}
use Rattle.testers.specs.Halves.{length_single, single_within, coefs_within}
use Rattle.testers.proofs.Lowers.{length_lowers}
use Rattle.tableau.specs.declared.line.Line.{Line}
use Rattle.tableau.specs.declared.run.Step.{Step}
use Rattle.tableau.specs.declared.run.Step.TheVariants.{Standing, Stuck, Turn}
use Rattle.tableau.specs.Lines.{blank, start_line, start_lines}
use Rattle.tableau.specs.Tableau.{Tableau, Run, span_ends, ends_of, start, pivoted, small_lines, look, go, gave_way, if_small, run, run_on}
use Rattle.tableau.specs.Sound.{DividesAll, Nonbasic, AtAnEnd}
use Rattle.tableau.proofs.Keeps.{quantities, Kept, Ended}
use Rattle.tableau.proofs.Looks.{run_keeps}
use Rattle.tableau.proofs.Solves.{single_own, start_at, length_start, start_solved}
use Rattle.tableau.proofs.Reduces.{divides_at, divides_one}
use Rattle.tableau.proofs.Pivots.{pivot_keeps}

-- ---- the start

zeros_at : (m i : ℕ) → get_or (replicate m (pos 0)) i (pos 0) ≡ pos 0
zeros_at zero i = refl
zeros_at (suc m) zero = refl
zeros_at (suc m) (suc i) = zeros_at m i

at_lower : (ss : List Span) (es : List RowEnds) (zs : List ℤ) (q : ℕ) → q < length ss
    → AtAnEnd (get_or (map span_ends ss ++ es) q no_ends) (get_or (lowers ss ++ zs) q (pos 0))
at_lower [] es zs q h = absurd (not-suc-le-zero h)
at_lower (s ∷ ss) es zs zero h = inl refl
at_lower (s ∷ ss) es zs (suc q) h = at_lower ss es zs q (le_of_suc-le-suc h)

-- where each line of the start is -1
pub start_own : (m i : ℕ) (r : List ℤ) → i < m → get_or (start_line m i r).nums (start_line m i r).basic (pos 0) ≡ negsuc 0
start_own m i r h = get_or-append-add r (single m i (negsuc 0)) i (pos 0) ∙ single_own m i (negsuc 0) h

start_coprime : (m i : ℕ) (r : List ℤ) (d : ℕ) → i < m → DividesAll d (start_line m i r).nums → d ≡ 1
start_coprime m i r d h e = divides_one d (subst (λ z. Divides d (nat_abs z)) (start_own m i r h) (divides_at d (start_line m i r).nums (start_line m i r).basic e))

module _ (rows : List (List ℤ)) (box : Box) (p : Proper rows box) where
  abbrev firsts : List Line
  firsts = start_lines (length rows) 0 rows

  within : (i : ℕ) → i < length firsts → i < length rows
  within i h = subst (λ (n : ℕ). i < n) (length_start (length rows) 0 rows) h

  each : (P : Line → Type 0) (i : ℕ) → i < length firsts → P (start_line (length rows) i (get_or rows i [])) → P (get_or firsts i blank)
  each P i h e = subst P (sym (start_at (length rows) rows i (within i h))) e

  wide_row : (i : ℕ) → i < length firsts → length (get_or rows i []) ≡ length box.vars
  wide_row i h = row_length (length box.vars) rows i p.coefficients (within i h)

  long_line : (i : ℕ) → i < length firsts → length (start_line (length rows) i (get_or rows i [])).nums ≡ quantities rows box
  long_line i h =
      length-append (get_or rows i []) (single (length rows) i (negsuc 0))
      ∙ omega (arith, wide_row i h, length_single (length rows) i (negsuc 0))

  abbrev places : List ℤ
  places = lowers box.vars ++ replicate (length rows) (pos 0)

  zero_place : (i : ℕ) → i < length firsts → get_or places (length (get_or rows i []) + i) (pos 0) ≡ pos 0
  zero_place i h =
      ap (λ n. get_or places (n + i) (pos 0)) (wide_row i h ∙ sym (length_lowers box.vars))
      ∙ get_or-append-add (lowers box.vars) (replicate (length rows) (pos 0)) i (pos 0) ∙ zeros_at (length rows) i

  -- a nonbasic quantity is a variable
  a_variable : (q : ℕ) → q < quantities rows box → Nonbasic firsts q → length box.vars ≤ q → ⊥
  a_variable q h free l =
      let i = q - length box.vars in
      let k : i < length firsts = omega (arith, length_start (length rows) 0 rows) in
      free i k (each (λ x. x.basic ≡ q) i k (omega (arith, wide_row i k)))

  pub start_kept : Kept rows box (start rows box)
  start_kept =
      record {
        solved = start_solved (length box.vars) rows p.coefficients;
        inside = λ i h. each (λ x. x.basic < quantities rows box) i h (omega (arith, wide_row i h, within i h));
        long = λ i h. each (λ x. length x.nums ≡ quantities rows box) i h (long_line i h);
        wide = length-append (lowers box.vars) (replicate (length rows) (pos 0)) ∙ omega (arith, length_lowers box.vars, length-replicate (length rows) (pos 0));
        zero_at = λ i h. each (λ x. get_or places x.basic (pos 0) ≡ pos 0) i h (zero_place i h);
        at_ends = λ q h free. ⊎_elim (λ (l : q < length box.vars). at_lower box.vars box.rows (replicate (length rows) (pos 0)) q l)
            (λ (l : length box.vars ≤ q). absurd (a_variable q h free l)) (cases_lt q (length box.vars));
        onward = λ z h. h;
        back = λ z h. h;
        reduced = λ i d h. each (λ x. DividesAll d x.nums → d ≡ 1) i h (start_coprime (length rows) i (get_or rows i []) d (within i h));
      }

-- ---- a run

pub run_kept : (rows : List (List ℤ)) (box : Box) → Proper rows box → (limit : ℕ) → Kept rows box (run_on limit rows box).tableau
run_kept rows box p limit =
    run_keeps (Kept rows box) (ends_of box) (quantities rows box) (λ t f q g k. pivot_keeps rows box t f q g k) limit (start rows box) (start_kept rows box p)

-- ---- where it stops

pub start_small : (n m i : ℕ) (rs : List (List ℤ)) → RowLists n rs → small_lines (start_lines m i rs) ≡ true
start_small n m i [] h = refl
start_small n m i (r ∷ rs) h =
    and_from _ _ (within_append 1000000000 r (single m i (negsuc 0)) (coefs_within r h.1) (single_within m i (negsuc 0) (omega arith))) (start_small n m (suc i) rs h.2)

go_ended : (further : Tableau → Run) (ends : List RowEnds) (k : ℕ) (t : Tableau) (s : Step) → look ends k t ≡ s → small_lines t.lines ≡ true
    → ((next : Tableau) → Ended ends k (further next).tableau (further next).stop) → Ended ends k (go further ends t s).tableau (go further ends t s).stop
go_ended further ends k t Standing e h w = (e, h)
go_ended further ends k t (Stuck f) e h w = (e, h)
go_ended further ends k t (Turn f q) e h w = w (pivoted ends f q t)

pub run_ends : (limit : ℕ) (ends : List RowEnds) (k : ℕ) (t : Tableau) → small_lines t.lines ≡ true → Ended ends k (run limit ends k t).tableau (run limit ends k t).stop
unfolding run
run_ends zero ends k t h = go_ended (λ next. gave_way t) ends k t (look ends k t) refl h (λ next. tt)
run_ends (suc limit) ends k t h =
    go_ended (if_small (run limit ends k)) ends k t (look ends k t) refl h
    (λ next. cond_both (small_lines next.lines) (run limit ends k next) (gave_way next) (λ (r : Run). Ended ends k r.tableau r.stop) (λ y. run_ends limit ends k next y) (λ _. tt))

pub run_ended : (rows : List (List ℤ)) (box : Box) → Proper rows box → (limit : ℕ)
    → Ended (ends_of box) (quantities rows box) (run_on limit rows box).tableau (run_on limit rows box).stop
run_ended rows box p limit =
    run_ends limit (ends_of box) (quantities rows box) (start rows box) (start_small (length box.vars) (length rows) 0 rows (rows_from (length box.vars) rows p.coefficients))
