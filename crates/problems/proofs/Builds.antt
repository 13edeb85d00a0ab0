-- What building writes into the tables, read back as lists.
use Rattle.std.proofs.Common.{◌≡◌, ℕ, zero, suc, ◌+◌, ◌-◌, ◌<◌, ◌≤◌, true, ltb, List, [], ◌∷◌, ◌++◌, map, length, take, set, replicate, ℤ, pos, refl, ap, ◌∙◌, arith}
use Rattle.std.proofs.lemmas.List.{length-append, length-replicate, map-set, map_push, take_all, take_at, take_more_set}
use Rattle.problems.specs.declared.quantity.RowEnds.{RowEnds}
use Rattle.problems.specs.declared.quantity.Row.{Row}
use Rattle.problems.specs.declared.problem.Problem.{Problem}
use Rattle.problems.specs.Whole.{within, all_within}
use Rattle.problems.specs.Ranges.{ends_proper, row_ends_proper, row_proper, rows_proper, coefs_of}
use Rattle.problems.specs.declared.vars.Vars.{Vars}
use Rattle.problems.specs.declared.ends.Ends.{Ends}
use Rattle.problems.specs.View.{rows_of, box_in, vars_in}
use Rattle.problems.specs.Stated.{Stated, stated, with_row, may_add}
use Rattle.problems.proofs.Views.{vars_long, rows_long}
use Rattle.std.proofs.lemmas.List.Recursion.{and_push, and_set}
use Rattle.std.proofs.lemmas.Bool.{and_from, and_parts, eq-eqb, eqb-true, leb-true}

-- ---- a table that begins with a list

-- what has room is all there
pub padded_all : {T : Type 0} (xs : List T) (n : ℕ) (blank : T) → length xs ≤ n → take n xs ++ replicate (n - length xs) blank ≡ xs ++ replicate (n - length xs) blank
padded_all xs n blank h = ap (λ ys. ys ++ replicate (n - length xs) blank) (take_all n xs h)

pub table_long : {T : Type 0} (xs : List T) (n : ℕ) (blank : T) → length xs ≤ n → length (xs ++ replicate (n - length xs) blank) ≡ n
table_long xs n blank h = simp (length-append, length-replicate) (omega arith)

-- ---- one more row

pub record Addable (av : List ℤ) (e : RowEnds) (p : Problem) : Type 0 where
  pub room : p.ends.m < 12
  pub long : length av ≡ p.ends.vars.n
  pub small : all_within 100 av ≡ true
  pub ends : ends_proper e ≡ true

pub addable : (av : List ℤ) (e : RowEnds) (p : Problem) → may_add av e (stated p) ≡ true → Addable av e p
addable av e p h =
    let a = and_parts _ (ends_proper e) h in
    let b = and_parts (ltb (length (rows_of p)) 12) _ a.0 in
    let r = and_parts _ (all_within 100 av) b.1 in
    record {
      room = omega (arith, leb-true _ _ b.0, rows_long p);
      long = eqb-true _ _ r.0 ∙ vars_long p.ends.vars;
      small = r.1;
      ends = a.1;
    }

zeros_within : (k : ℕ) → all_within 100 (replicate k (pos 0)) ≡ true
zeros_within zero = refl
zeros_within (suc k) = zeros_within k

pub within_append : (n : ℕ) (xs ys : List ℤ) → all_within n xs ≡ true → all_within n ys ≡ true → all_within n (xs ++ ys) ≡ true
within_append n [] ys h k = k
within_append n (x ∷ xs) ys h k = let w = and_parts (within n x) (all_within n xs) h in and_from _ _ w.0 (within_append n xs ys w.1 k)

-- the coefficients, with 0 past the last one
pub padded_proper : (av : List ℤ) → length av ≤ 12 → all_within 100 av ≡ true → row_proper 12 (av ++ replicate (12 - length av) (pos 0)) ≡ true
padded_proper av h k = and_from _ _ (eq-eqb _ _ (table_long av 12 (pos 0) h)) (within_append 100 av _ k (zeros_within (12 - length av)))

pub few_coefs : (p : Problem) (av : List ℤ) (e : RowEnds) → Addable av e p → length av ≤ 12
few_coefs p av e a = omega (arith, a.long, p.ends.vars.few)

pub padded_row : (p : Problem) (av : List ℤ) (e : RowEnds) → Addable av e p → (coefs : List ℤ) → coefs ≡ take 12 av ++ replicate (12 - length av) (pos 0) → row_proper 12 coefs ≡ true
padded_row p av e a coefs h =
    let few = few_coefs p av e a in
    ap (row_proper 12) (h ∙ padded_all av 12 (pos 0) few) ∙ padded_proper av few a.small

pub rows_set : (rows : List Row) (i : ℕ) (r : Row) → rows_proper 12 (map coefs_of rows) ≡ true → row_proper 12 r.coefs ≡ true → rows_proper 12 (map coefs_of (set rows i r)) ≡ true
rows_set rows i r h k = ap (rows_proper 12) (map-set coefs_of rows i r) ∙ and_set (rows_proper 12) (row_proper 12) refl (λ s ss. refl) (map coefs_of rows) i r.coefs k h

pub ends_push : (es : List RowEnds) (e : RowEnds) → row_ends_proper es ≡ true → ends_proper e ≡ true → row_ends_proper (es ++ (e ∷ [])) ≡ true
ends_push es e h k = and_push row_ends_proper ends_proper refl (λ f fs. refl) es e ∙ and_from _ _ h k

pub ends_more : (es : List RowEnds) (m : ℕ) (e : RowEnds) → m < length es → row_ends_proper (take m es) ≡ true → ends_proper e ≡ true → row_ends_proper (take (m + 1) (set es m e)) ≡ true
ends_more es m e l h k = ap row_ends_proper (take_more_set es m e l) ∙ ends_push (take m es) e h k

rows_more : (n : ℕ) (rows : List Row) (m : ℕ) (av coefs : List ℤ) → m < length rows → take n coefs ≡ av
    → map (λ (r : Row). take n r.coefs) (take (m + 1) (set rows m (record { coefs = coefs }))) ≡ map (λ (r : Row). take n r.coefs) (take m rows) ++ (av ∷ [])
rows_more n rows m av coefs l e =
    let row : Row = record { coefs = coefs } in
    let f : Row → List ℤ = λ r. take n r.coefs in
    ap (map f) (take_more_set rows m row l) ∙ map_push f (take m rows) row ∙ ap (λ r. map f (take m rows) ++ (r ∷ [])) e

-- what the tables then state
pub stated_more : (p : Problem) (av coefs : List ℤ) (e : RowEnds) → Addable av e p → coefs ≡ av ++ replicate (12 - length av) (pos 0)
    → (ends : Ends) → ends.vars ≡ p.ends.vars → take ends.m ends.rows ≡ take p.ends.m p.ends.rows ++ (e ∷ []) → ends.m ≡ p.ends.m + 1
    → let row : Row = record { coefs = coefs } in
    let after : Stated = record { rows = map (λ (r : Row). take ends.vars.n r.coefs) (take ends.m (set p.rows p.ends.m row)); box = box_in ends } in
    after ≡ with_row av e (stated p)
stated_more p av coefs e a h ends v rows m =
    let n = p.ends.vars.n in
    let row : Row = record { coefs = coefs } in
    let front : take n coefs ≡ av = ap (take n) h ∙ take_at av _ n a.long in
    let rs =
    ap (λ (w : Vars). map (λ (r : Row). take w.n r.coefs) (take ends.m (set p.rows p.ends.m row))) v
    ∙ ap (λ k. map (λ (r : Row). take n r.coefs) (take k (set p.rows p.ends.m row))) m
    ∙ rows_more n p.rows p.ends.m av coefs (rw p.long a.room) front
    in
    let vs = ap vars_in v in
    λ i. record { rows = rs i; box = record { vars = vs i; rows = rows i } }
