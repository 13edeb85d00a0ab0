-- An entry's bytes, written piece by piece.
use Rattle.std.proofs.Common.{◌≡◌, ℕ, zero, suc, ◌+◌, ◌-◌, ◌*◌, ◌<◌, ◌≤◌, true, false, List, [], ◌∷◌, ◌++◌, length, get_or, take, drop, ℤ, pos, nat_abs, sym, refl, ap, ◌∙◌, arith, length-append, w64, SFits, to_z, of_z}
use mathlib.Core.Bool.{false≢true}
use lib.Signed.{le_z, lt_z}
use borrow.Author.Differences.{ints}
use Rattle.std.proofs.lemmas.List.{drop_more, at_drop_all, drop-take, take-take, take-append-drop, length-take-le}
use Rattle.std.proofs.lemmas.Int.{to_z-of_z}
use Rattle.problems.specs.declared.quantity.Span.{Span}
use Rattle.problems.specs.declared.quantity.RowEnds.{RowEnds}
use Rattle.problems.specs.declared.problem.Problem.{Problem}
use Rattle.testers.specs.declared.leaf.Leaf.{Leaf as LeafType}
use Rattle.testers.specs.declared.leaf.Leaf.TheVariants.{Sum}
use Rattle.problems.specs.Whole.{is_zero, within, all_within}
use Rattle.problems.specs.Box.{Box, Proper, splits}
use Rattle.testers.specs.Leaf.{formed}
use Rattle.testers.specs.Leaf.Leaf.{sum}
use Rattle.problems.specs.View.{box_of}
use Rattle.testers.specs.Told.{leaf_in}
use Rattle.problems.proofs.Propers.{Spans, spans_from}
use Rattle.search.specs.Bytes.{four_bytes, three_bytes, map_of, multipliers, leaf_bytes}
use Rattle.search.specs.Written.{wrote}
use Rattle.search.proofs.Written.{wrote_next, wrote_none}
use Rattle.std.proofs.lemmas.Bool.{and_from, and_parts, leb-true}
use Rattle.problems.proofs.Tests.{le_z_true, lt_z_true}

-- a number to its bits and back
pub back : (z : ℤ) → nat_abs z ≤ 1000000000 → to_z w64 (of_z w64 z) ≡ z
back z h = let f : SFits w64 z = omega (arith, ints) in to_z-of_z w64 z f

split_within : (ss : List Span) (v : ℕ) (k : ℤ) → Spans ss → splits v k ss ≡ true → (v < length ss) × (nat_abs k ≤ 1000000000)
split_within [] v k p h = absurd (false≢true h)
split_within (s ∷ ss) zero k p h =
    let w = and_parts (le_z s.lower k) (lt_z k s.upper) h in
    let l = le_z_true s.lower k w.0 in
    let u = lt_z_true k s.upper w.1 in
    (omega arith, omega (arith, ints))
split_within (s ∷ ss) (suc v) k p h = let w = split_within ss v k p.3 h in (omega arith, w.1)

-- a split that its box allows can be written
pub split_small : (rows : List (List ℤ)) (box : Box) (v : ℕ) (k : ℤ) → Proper rows box → splits v k box.vars ≡ true
    → (v < 12) × (nat_abs k ≤ 1000000000)
split_small rows box v k p h =
    let w = split_within box.vars v k (spans_from box.vars p.spans) h in
    let f = p.few_variables in
    (omega arith, w.1)

-- ---- the multipliers

pub within_at : (n : ℕ) (ms : List ℤ) → all_within n ms ≡ true → (i : ℕ) → nat_abs (get_or ms i (pos 0)) ≤ n
within_at n [] s i = omega arith
within_at n (y ∷ ms) s zero = leb-true _ _ (and_parts _ _ s).0
within_at n (y ∷ ms) s (suc i) = within_at n ms (and_parts _ _ s).1 i

-- what is left of the multipliers, written at p into xs, gives all of them, written at q into start
abbrev pub Left : List ℤ → ℕ → ℕ → ℕ → List ℕ → List ℕ → Type 0
Left ms i p q xs start =
    (wrote p (multipliers (drop i ms)) xs ≡ wrote q (multipliers ms) start) × (p + length (multipliers (drop i ms)) ≡ q + length (multipliers ms)) × (p ≤ q + 4 * i)

-- a multiplier of 0 is not written
pub none_on : (ms : List ℤ) (i p r q : ℕ) (xs ys start : List ℕ) → i < length ms → is_zero (get_or ms i (pos 0)) ≡ true → ys ≡ xs → r ≡ p
    → Left ms i p q xs start → Left ms (i + 1) r q ys start
none_on ms i p r q xs ys start h z same place left =
    let m : multipliers (drop i ms) ≡ multipliers (drop (i + 1) ms) = rw (drop_more ms i (pos 0) h, z) in
    rw (same, place, ← m) (left.0, left.1, omega arith)

-- any other is
one_more : (ms : List ℤ) (i : ℕ) → i < length ms → is_zero (get_or ms i (pos 0)) ≡ false
    → multipliers (drop i ms) ≡ four_bytes (get_or ms i (pos 0)) ++ multipliers (drop (i + 1) ms)
one_more ms i h z = rw (drop_more ms i (pos 0) h, z)

pub one_on : (ms : List ℤ) (i p r q : ℕ) (bs xs ys start : List ℕ) → i < length ms → is_zero (get_or ms i (pos 0)) ≡ false
    → nat_abs (get_or ms i (pos 0)) ≤ 1000000000 → p ≤ length xs
    → bs ≡ four_bytes (to_z w64 (of_z w64 (get_or ms i (pos 0)))) → ys ≡ wrote p bs xs → r ≡ p + 4
    → Left ms i p q xs start → Left ms (i + 1) r q ys start
one_on ms i p r q bs xs ys start h z small room number written place left =
    let y = get_or ms i (pos 0) in
    let m = one_more ms i h z in
    let l = ap length m ∙ length-append (four_bytes y) (multipliers (drop (i + 1) ms)) in
    let b = number ∙ ap four_bytes (back y small) in
    let w = ap (wrote r (multipliers (drop (i + 1) ms))) (written ∙ ap (λ (cs : List ℕ). wrote p cs xs) b)
    ∙ wrote_next p r (four_bytes y) (multipliers (drop (i + 1) ms)) xs place room
    ∙ ap (λ (cs : List ℕ). wrote p cs xs) (sym m) in
    (w ∙ left.0, omega arith, omega arith)

-- all of them are
pub all_on : (ms : List ℤ) (i p q : ℕ) (xs start : List ℕ) → length ms ≤ i → Left ms i p q xs start
    → (xs ≡ wrote q (multipliers ms) start) × (p ≡ q + length (multipliers ms))
all_on ms i p q xs start h left =
    let d = at_drop_all multipliers ms i h in
    let e = ap length d in
    (sym (wrote_none p xs) ∙ ap (λ (cs : List ℕ). wrote p cs xs) (sym d) ∙ left.0, omega arith)

-- ---- leaves

-- the multipliers of the variables and those of the rows stand in one list
pub one_list : (n m : ℕ) (ms : List ℤ) → take n ms ++ take m (drop n ms) ≡ take (n + m) ms
one_list n m ms =
    let h : n ≤ n + m = omega arith in
    rw (← drop-take n m ms, ← take-take n (n + m) ms h) (take-append-drop n (take (n + m) ms))

within_both : (b : ℕ) (ys zs : List ℤ) → all_within b ys ≡ true → all_within b zs ≡ true → all_within b (ys ++ zs) ≡ true
within_both b [] zs h k = k
within_both b (y ∷ ys) zs h k = let w = and_parts (within b y) (all_within b ys) h in and_from _ _ w.0 (within_both b ys zs w.1 k)

pub sum_small : (rows : List (List ℤ)) (box : Box) (ys zs : List ℤ) → formed rows box (sum ys zs) ≡ true → all_within 1000000000 (ys ++ zs) ≡ true
sum_small rows box ys zs h =
    let a = and_parts _ (all_within 1000000000 zs) h in
    let b = and_parts _ (all_within 1000000000 ys) a.0 in
    within_both 1000000000 ys zs b.1 a.1

-- how many quantities a problem has
pub quantities : (p : Problem) (vs : List Span) (es : List RowEnds) → vs ≡ (box_of p).vars → es ≡ (box_of p).rows
    → length vs + length es ≡ p.ends.vars.n + p.ends.m
quantities p vs es e f =
    let v = p.ends.vars in
    let n : length (box_of p).vars ≡ v.n = length-take-le v.n v.spans (rw v.long v.few) in
    let m : length (box_of p).rows ≡ p.ends.m = length-take-le p.ends.m p.ends.rows (rw p.ends.long p.ends.few) in
    rw (e, f, n, m) refl

-- the part of a sum leaf's numbers that the problem has quantities for
pub part_is : (n m q : ℕ) (ms : List ℤ) → q ≡ n + m → take n ms ++ take m (drop n ms) ≡ take (q - 0) ms
part_is n m q ms e = one_list n m ms ∙ ap (λ k. take k ms) (omega arith)

pub part_small : (rows : List (List ℤ)) (box : Box) (n m q : ℕ) (l : LeafType) (ms : List ℤ) → l ≡ Sum ms → q ≡ n + m
    → formed rows box (leaf_in n m l) ≡ true → all_within 1000000000 (take (q - 0) ms) ≡ true
part_small rows box n m q l ms is e f = rw (← part_is n m q ms e) (sum_small rows box (take n ms) (take m (drop n ms)) (rw is at f))

pub part_bytes : (n m q : ℕ) (l : LeafType) (ms : List ℤ) → l ≡ Sum ms → q ≡ n + m
    → 2 ∷ three_bytes (map_of (take (q - 0) ms)) ++ multipliers (take (q - 0) ms) ≡ leaf_bytes (leaf_in n m l)
part_bytes n m q l ms is e = rw (is, ← part_is n m q ms e)
