-- What is not refused may be built.
use Rattle.std.proofs.Common.{◌≡◌, ℕ, suc, ◌+◌, Bool, true, false, cond, not, ◌&&◌, ◌||◌, eqb, ltb, leb, List, [], ◌∷◌, ◌++◌, length, ℤ, pos, Some, None, Ok, Decides, Option, Result, int_eq, sym, refl, ap, ◌∙◌, subst, arith}
use mathlib.Core.Bool.{false≢true}
use lib.Signed.{lt_z}
use Rattle.std.proofs.lemmas.Bool.{or_parts, and_from, and_parts, not-false}
use Rattle.std.proofs.lemmas.Bool.Decides.{nat_tests, same_from_decides, Decides-int_eq}
use Rattle.std.proofs.lemmas.Slice.Eq.{slice_eq-Decides}
use Rattle.std.specs.Cmp.Lexicographic.{pointwise}
use Rattle.problems.specs.declared.quantity.Span.{Span}
use Rattle.problems.specs.declared.quantity.RowEnds.{RowEnds}
use Rattle.problems.specs.declared.refusal.Refusal.TheVariants.{Length, Range, Cross, Repeat, Full}
use Rattle.problems.specs.declared.refusal.Refused.{Refused}
use Rattle.problems.specs.Whole.{eq_z, within, all_within}
use Rattle.problems.specs.Ranges.{spans_proper, in_order, in_reach}
use Rattle.problems.specs.Stated.{Stated, with_row, may_vary, may_add}
use Rattle.book.specs.Fault.{Fault, fault, each, first_fault, replied, judged}
use Rattle.book.specs.Draft.{left_by, stepped, miscounted, out_of_range, crossed, new_faults, large, same_row, number_faults, row_faults}
use Rattle.book.proofs.Faults.{never, then, then_assoc, judged_cons, judged_append, unmet, both_pass}
use Rattle.problems.proofs.Tests.{eq_z_true, eq_z_same}

-- ---- a call that is not refused

accepted_by : {A : Type 0} (o : Option Refused) (told : A) (before after : Stated) → replied (tt {0}) o ≡ Ok (tt {0}) → (replied told o ≡ Ok told) × (left_by before after o ≡ after)
accepted_by None told before after h = (refl, refl)
accepted_by (Some r) told before after h = absurd (never r (sym h))

pub accepted : {A : Type 0} (fs : List Fault) (told : A) (before after : Stated) → Ok tt ≡ judged fs
    → ((stepped before told after fs).reply ≡ Ok told) × ((stepped before told after fs).draft ≡ after)
accepted fs told before after h = accepted_by (first_fault fs) told before after (sym h)

-- ---- beginning afresh

counted : (n : ℤ) (ss : List Span) → miscounted n ss ≡ false → (leb 1 (length ss) && leb (length ss) 12) ≡ true
counted n ss h =
    let a = or_parts (lt_z n (pos 1) || lt_z (pos 12) n) (not (eq_z n (pos (length ss)))) h in
    let b = or_parts (lt_z n (pos 1)) (lt_z (pos 12) n) a.0 in
    let e = eq_z_true n (pos (length ss)) (not-false _ a.1) in
    let l : ltb (length ss) 1 ≡ false = ap (λ z. lt_z z (pos 1)) (sym e) ∙ b.0 in
    let u : ltb 12 (length ss) ≡ false = ap (lt_z (pos 12)) (sym e) ∙ b.1 in
    and_from (leb 1 (length ss)) (leb (length ss) 12) (grind (arith, nat_tests)) (grind (arith, nat_tests))

ordered : (q r : ℕ) (ss : List Span) → judged (each out_of_range Range q ss) ≡ Ok tt → judged (each crossed Cross r ss) ≡ Ok tt → spans_proper ss ≡ true
ordered q r [] f g = refl
ordered q r (s ∷ ss) f g =
    let a = unmet (fault (out_of_range s) Range q) (each out_of_range Range (suc q) ss) f in
    let b = unmet (fault (crossed s) Cross r) (each crossed Cross (suc r) ss) g in
    let w = and_parts (within 100000 s.lower) (within 100000 s.upper) (not-false _ a.0) in
    and_from _ _ (and_from _ _ (and_from _ _ (not-false _ b.0) w.0) w.1) (ordered (suc q) (suc r) ss a.1 b.1)

pub new_may_vary : (n : ℤ) (ss : List Span) → Ok tt ≡ judged (new_faults n ss) → may_vary ss ≡ true
new_may_vary n ss h =
    let ranges = each out_of_range Range 1 ss in
    let crossings = each crossed Cross 1 ss in
    let a = unmet (fault (miscounted n ss) Length 0) (ranges ++ crossings) (sym h) in
    let b = both_pass ranges crossings a.1 in
    and_from _ _ (counted n ss a.0) (ordered 1 1 ss b.0 b.1)

-- the faults one after another: the count, by what its test said, the ranges, the crossings
pub new_says : {z : Result (Unit {0}) Refused} {met : Bool} (n : ℤ) (ss : List Span) → met ≡ miscounted n ss
    → z ≡ then (judged (fault met Length 0 ∷ [])) (then (judged (each out_of_range Range 1 ss)) (judged (each crossed Cross 1 ss)))
    → z ≡ judged (new_faults n ss)
new_says {z} {met} n ss e h =
    let ranges = each out_of_range Range 1 ss in
    let crossings = each crossed Cross 1 ss in
    h ∙ ap (λ b. then (judged (fault b Length 0 ∷ [])) (then (judged ranges) (judged crossings))) e
    ∙ sym (judged_cons (fault (miscounted n ss) Length 0) (ranges ++ crossings) ∙ ap (then (judged (fault (miscounted n ss) Length 0 ∷ []))) (judged_append ranges crossings))

-- what may be built is built
pub over_gives : {A : Type 0} (b : Bool) (x : A) → b ≡ true → None ≡ cond b (Some x) None → ⊥
over_gives true x e h = let z : ◌≡◌ {A = ℕ} 0 1 = cc in omega arith
over_gives false x e h = false≢true e

small : (q : ℕ) (av : List ℤ) → judged (each large Range q av) ≡ Ok tt → all_within 100 av ≡ true
small q [] h = refl
small q (a ∷ av) h =
    let u = unmet (fault (large a) Range q) (each large Range (suc q) av) h in
    and_from _ _ (not-false _ u.0) (small (suc q) av u.1)

-- ---- the same coefficients

same_true : (xs ys : List ℤ) → same_row xs ys ≡ true → xs ≡ ys
same_true [] [] h = refl
same_true [] (y ∷ ys) h = absurd (false≢true h)
same_true (x ∷ xs) [] h = absurd (false≢true h)
same_true (x ∷ xs) (y ∷ ys) h =
    let w = and_parts (eq_z x y) (same_row xs ys) h in
    let e = eq_z_true x y w.0 in
    let f = same_true xs ys w.1 in
    cc

same_itself : (xs : List ℤ) → same_row xs xs ≡ true
same_itself [] = refl
same_itself (x ∷ xs) = and_from _ _ (eq_z_same x) (same_itself xs)

same_decides : (xs ys : List ℤ) → Decides (same_row xs ys) (xs ≡ ys)
same_decides xs ys = (same_true xs ys, λ e. subst (λ zs. same_row xs zs ≡ true) e (same_itself xs))

-- what `==` says of two rows
pub same_is : (xs ys zs : List ℤ) (r : Bool) → r ≡ pointwise int_eq xs ys → ys ≡ zs → r ≡ same_row xs zs
same_is xs ys zs r h e = same_from_decides r (same_row xs ys) (slice_eq-Decides Decides-int_eq xs ys r h) (same_decides xs ys) ∙ ap (same_row xs) e

-- ---- adding a row

-- the faults one after another, by what the tests said
abbrev row_steps : Stated → List ℤ → ℕ → ℕ → Bool → Bool → Bool → Result (Unit {0}) Refused
row_steps d av n m low high cross =
    then (judged (fault (not (eqb (length av) n)) Length 0 ∷ []))
    (then (judged (each large Range 1 av))
    (then (judged (fault (not low) Range (n + 1) ∷ []))
    (then (judged (fault (not high) Range (n + 2) ∷ []))
    (then (judged (fault cross Cross (n + m + 1) ∷ []))
    (then (judged (each (same_row av) Repeat 1 d.rows))
    (judged (fault (leb 12 m) Full 12 ∷ [])))))))

row_judged : (d : Stated) (av : List ℤ) (e : RowEnds)
    → judged (row_faults d av e) ≡ row_steps d av (length d.box.vars) (length d.rows) (in_reach e.lower) (in_reach e.upper) (not (in_order e.lower e.upper))
row_judged d av e =
    let n = length d.box.vars in
    let m = length d.rows in
    let long = fault (not (eqb (length av) n)) Length 0 in
    let coefficients = each large Range 1 av in
    let low = fault (not (in_reach e.lower)) Range (n + 1) in
    let high = fault (not (in_reach e.upper)) Range (n + 2) in
    let cross = fault (not (in_order e.lower e.upper)) Cross (n + m + 1) in
    let repeats = each (same_row av) Repeat 1 d.rows in
    let full = fault (leb 12 m) Full 12 in
    let numbers = coefficients ++ (low ∷ high ∷ []) in
    let others = cross ∷ (repeats ++ (full ∷ [])) in
    let last : judged others ≡ then (judged (cross ∷ [])) (then (judged repeats) (judged (full ∷ []))) =
    judged_cons cross (repeats ++ (full ∷ [])) ∙ ap (then (judged (cross ∷ []))) (judged_append repeats (full ∷ []))
    in
    let first : judged numbers ≡ then (judged coefficients) (then (judged (low ∷ [])) (judged (high ∷ []))) =
    judged_append coefficients (low ∷ high ∷ []) ∙ ap (then (judged coefficients)) (judged_cons low (high ∷ []))
    in
    judged_cons long (numbers ++ others)
    ∙ ap (then (judged (long ∷ [])))
    (judged_append numbers others ∙ ap (λ x. then x (judged others)) first
    ∙ then_assoc (judged coefficients) (then (judged (low ∷ [])) (judged (high ∷ []))) (judged others)
    ∙ ap (then (judged coefficients)) (then_assoc (judged (low ∷ [])) (judged (high ∷ [])) (judged others) ∙ ap (λ x. then (judged (low ∷ [])) (then (judged (high ∷ [])) x)) last))

pub row_says : {z : Result (Unit {0}) Refused} {n m : ℕ} {low high cross : Bool} (d : Stated) (av : List ℤ) (e : RowEnds)
    → n ≡ length d.box.vars → m ≡ length d.rows → low ≡ in_reach e.lower → high ≡ in_reach e.upper → cross ≡ not (in_order e.lower e.upper)
    → z ≡ row_steps d av n m low high cross → z ≡ judged (row_faults d av e)
row_says {z} {n} {m} {low} {high} {cross} d av e f g i j k h =
    h
    ∙ ap (λ q. row_steps d av q m low high cross) f
    ∙ ap (λ q. row_steps d av (length d.box.vars) q low high cross) g
    ∙ ap (λ b. row_steps d av (length d.box.vars) (length d.rows) b high cross) i
    ∙ ap (λ b. row_steps d av (length d.box.vars) (length d.rows) (in_reach e.lower) b cross) j
    ∙ ap (λ b. row_steps d av (length d.box.vars) (length d.rows) (in_reach e.lower) (in_reach e.upper) b) k
    ∙ sym (row_judged d av e)

room : (m : ℕ) → leb 12 m ≡ false → ltb m 12 ≡ true
room m h = grind (arith, nat_tests)

pub row_may_add : (d : Stated) (av : List ℤ) (e : RowEnds) → Ok tt ≡ judged (row_faults d av e) → may_add av e d ≡ true
row_may_add d av e h =
    let n = length d.box.vars in
    let m = length d.rows in
    let full : List Fault = fault (leb 12 m) Full 12 ∷ [] in
    let repeats = each (same_row av) Repeat 1 d.rows in
    let crossing = fault (not (in_order e.lower e.upper)) Cross (n + m + 1) in
    let upper = fault (not (in_reach e.upper)) Range (n + 2) in
    let lower = fault (not (in_reach e.lower)) Range (n + 1) in
    let length-check = unmet (fault (not (eqb (length av) n)) Length 0) (number_faults n av e ++ (crossing ∷ (repeats ++ full))) (sym h) in
    let a = both_pass (number_faults n av e) (crossing ∷ (repeats ++ full)) length-check.1 in
    let numbers = both_pass (each large Range 1 av) (lower ∷ upper ∷ []) a.0 in
    let low = unmet lower (upper ∷ []) numbers.1 in
    let high = unmet upper [] low.1 in
    let order = unmet crossing (repeats ++ full) a.1 in
    let last = unmet (fault (leb 12 m) Full 12) [] (both_pass repeats full order.1).1 in
    and_from _ _ (and_from _ _ (room m last.0) (and_from _ _ (not-false _ length-check.0) (small 1 av numbers.0)))
    (and_from _ _ (and_from _ _ (not-false _ order.0) (not-false _ low.0)) (not-false _ high.0))

-- the row that is not refused is added
pub added : (d after : Stated) (av : List ℤ) (e : RowEnds) (r : Bool) → r ≡ may_add av e d → after ≡ cond r (with_row av e d) d → Ok tt ≡ judged (row_faults d av e) → after ≡ with_row av e d
added d after av e r f g h = g ∙ ap (λ b. cond b (with_row av e d) d) (f ∙ row_may_add d av e h)
