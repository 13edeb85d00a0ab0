-- A problem's lists, and that they are proper.
use Rattle.std.proofs.Common.{◌≡◌, ℕ, zero, suc, ◌<◌, ◌≤◌, true, eqb, List, [], ◌∷◌, map, length, get_or, take, ℤ, sym, refl, ◌∙◌, le_of_suc-le-suc, not-suc-le-zero}
use mathlib.Core.Bool.{Bool-set}
use mathlib.Core.HLevel.{is_prop→PathP}
use native.Mathlib.Bridge.{le_prop}
use native.Mathlib.Nat.{ℕ_set}
use Rattle.std.proofs.lemmas.List.{length-map, length-take-le}
use Rattle.problems.specs.declared.quantity.Row.{Row}
use Rattle.problems.specs.declared.vars.Vars.{Vars}
use Rattle.problems.specs.declared.problem.Problem.{Problem}
use Rattle.problems.specs.Whole.{within, all_within}
use Rattle.problems.specs.Ranges.{spans_proper, row_proper, rows_proper, coefs_of}
use Rattle.problems.specs.Box.{Proper}
use Rattle.problems.specs.View.{vars_in, rows_of, box_of}
use Rattle.problems.proofs.Propers.{row_proper_at}
use Rattle.std.proofs.lemmas.Bool.{and_from, and_parts, eq-eqb, eqb-true}

-- ---- tables

-- each fact about a table has one proof, so equal tables are equal values
pub vars_same : (a b : Vars) → a.spans ≡ b.spans → a.n ≡ b.n → a ≡ b
vars_same a b p q = λ i. record {
  spans = p i;
  n = q i;
  few = is_prop→PathP (λ j. q j ≤ 12) (λ j. le_prop) a.few b.few i;
  long = is_prop→PathP (λ j. length (p j) ≡ 12) (λ j. ℕ_set (length (p j)) 12) a.long b.long i;
  proper = is_prop→PathP (λ j. spans_proper (take (q j) (p j)) ≡ true) (λ j. Bool-set (spans_proper (take (q j) (p j))) true) a.proper b.proper i;
}

-- ---- rows

abbrev pub no_row : Row
no_row = record { coefs = [] }

pub row_long : (rows : List Row) (i : ℕ) → rows_proper 12 (map coefs_of rows) ≡ true → i < length rows → length (get_or rows i no_row).coefs ≡ 12
row_long [] i h k = absurd (not-suc-le-zero k)
row_long (r ∷ rs) zero h k = eqb-true _ _ (and_parts (eqb (length r.coefs) 12) (all_within 100 r.coefs) (and_parts (row_proper 12 r.coefs) _ h).0).0
row_long (r ∷ rs) (suc i) h k = row_long rs i (and_parts (row_proper 12 r.coefs) _ h).1 (le_of_suc-le-suc k)

-- a part of a row stays small
pub within_take : (b n : ℕ) (xs : List ℤ) → all_within b xs ≡ true → all_within b (take n xs) ≡ true
within_take b zero xs h = refl
within_take b (suc n) [] h = refl
within_take b (suc n) (x ∷ xs) h = let w = and_parts (within b x) (all_within b xs) h in and_from _ _ w.0 (within_take b n xs w.1)

pub rows_proper_of : (rows : List Row) (n m : ℕ) → n ≤ 12 → rows_proper 12 (map coefs_of rows) ≡ true → rows_proper n (map (λ (r : Row). take n r.coefs) (take m rows)) ≡ true
rows_proper_of rows n zero l h = refl
rows_proper_of [] n (suc m) l h = refl
rows_proper_of (r ∷ rs) n (suc m) l h =
    let w = and_parts (row_proper 12 r.coefs) (rows_proper 12 (map coefs_of rs)) h in
    let v = and_parts (eqb (length r.coefs) 12) (all_within 100 r.coefs) w.0 in
    let e = eqb-true _ _ v.0 in
    and_from _ _ (and_from _ _ (eq-eqb _ _ (length-take-le n r.coefs (rw e l))) (within_take 100 n r.coefs v.1)) (rows_proper_of rs n m l w.1)

-- ---- lengths

pub vars_long : (t : Vars) → length (vars_in t) ≡ t.n
vars_long t = length-take-le t.n t.spans (rw t.long t.few)

pub row_ends_long : (p : Problem) → length (box_of p).rows ≡ p.ends.m
row_ends_long p = length-take-le p.ends.m p.ends.rows (rw p.ends.long p.ends.few)

pub rows_long : (p : Problem) → length (rows_of p) ≡ p.ends.m
rows_long p =
    length-map (take p.ends.m p.rows) (λ (w : Row). take p.ends.vars.n w.coefs)
    ∙ length-take-le p.ends.m p.rows (rw p.long p.ends.few)

-- ---- the problem's lists are proper

pub proper : (p : Problem) → Proper (rows_of p) (box_of p)
proper p =
    let v = p.ends.vars in
    let n = vars_long v in
    let m = row_ends_long p in
    let r = rows_long p in
    record {
      a_variable = rw n p.ends.some;
      few_variables = rw n v.few;
      few_rows = rw r p.ends.few;
      ends_of_rows = m ∙ sym r;
      coefficients = rw n (rows_proper_of p.rows v.n p.ends.m v.few p.proper);
      spans = v.proper;
      row_spans = p.ends.proper;
    }

-- row i of the problem has a coefficient for each variable, each at most 100 in size
pub row_of : (p : Problem) (i : ℕ) → i < length (rows_of p) → (length (get_or (rows_of p) i []) ≡ length (box_of p).vars) × (all_within 100 (get_or (rows_of p) i []) ≡ true)
row_of p i h =
    let r = get_or (rows_of p) i [] in
    let w = and_parts (eqb (length r) (length (box_of p).vars)) (all_within 100 r) (row_proper_at (length (box_of p).vars) (rows_of p) i h (proper p).coefficients) in
    (eqb-true _ _ w.0, w.1)
