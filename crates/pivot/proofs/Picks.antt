-- The two choices of Bland's rule, step by step.
use Rattle.std.proofs.Common.{◌≡◌, ℕ, zero, suc, ◌+◌, ◌<◌, ◌≤◌, Bool, true, false, cond, not, ◌&&◌, eqb, ltb, List, [], ◌∷◌, map, length, get_or, take, drop, ℤ, pos, ◌*ℤ◌, nat_abs, Some, None, Option, sym, refl, ap, ◌∙◌, subst, le_of_suc-le-suc, not-suc-le-zero, add-one, arith, w64, to_z, of_z}
use Rattle.std.specs.List.{find, range_with_len}
use Rattle.std.specs.Option.{MatchOption}
use Rattle.std.proofs.lemmas.Bool.Decides.{nat_tests}
use Rattle.std.proofs.lemmas.List.{get_or-take, drop_more}
use Rattle.problems.specs.declared.quantity.RowEnds.{RowEnds}
use Rattle.problems.specs.declared.quantity.Side.{Side}
use Rattle.problems.specs.Box.{no_ends}
use Rattle.problems.specs.Ranges.{in_reach}
use Rattle.problems.specs.Whole.{all_within}
use Rattle.testers.proofs.Products.{back}
use Rattle.tableau.specs.declared.run.Violation.{Violation}
use Rattle.tableau.specs.declared.line.Line.{Line}
use Rattle.tableau.specs.Choices.{scaled, violation, earlier, outside, suitable}
use Rattle.pivot.specs.Shapes.{seen, LineOk, LinesOk, EndsOk}
use Rattle.tableau.specs.Lines.{den}
use Rattle.pivot.proofs.Casts.{small_neg}
use Rattle.pivot.proofs.Walks.{within_at}
use Rattle.std.proofs.lemmas.Bool.{leb-true}
use Rattle.problems.proofs.Tests.{by_bool}

-- a number of a line is small
pub line_at : (k : ℕ) (l : Line) (q : ℕ) → LineOk k l → q < k → nat_abs (get_or l.nums q (pos 0)) ≤ 1000000000
line_at k l q o h = rw (get_or-take k l.nums q (pos 0) h) at (within_at 1000000000 (take k l.nums) o.small q)

pub lines_at : (k : ℕ) (ls : List Line) (i : ℕ) (d : Line) → LinesOk k ls → i < length ls → LineOk k (get_or ls i d)
lines_at k [] i d o h = absurd (not-suc-le-zero h)
lines_at k (l ∷ ls) zero d o h = o.0
lines_at k (l ∷ ls) (suc i) d o h = lines_at k ls i d o.1 (le_of_suc-le-suc h)

-- a present end is in reach
pub reach_at : (o : Option ℤ) (z : ℤ) → o ≡ Some z → in_reach o ≡ true → nat_abs z ≤ 200000000
reach_at o z e h = leb-true (nat_abs z) 200000000 (subst (λ (p : Option ℤ). in_reach p ≡ true) e h)

pub ends_at : (es : List RowEnds) (q : ℕ) → EndsOk es → (in_reach (get_or es q no_ends).lower ≡ true) × (in_reach (get_or es q no_ends).upper ≡ true)
ends_at [] q o = (refl, refl)
ends_at (e ∷ es) zero o = (o.0, o.1)
ends_at (e ∷ es) (suc q) o = ends_at es q o.2

-- a test of an end, where it is present
pub told : (o : Option ℤ) (d : ℤ) (test : Option ℤ → Bool) (r : Bool) (Q : ℤ → Type 0) → MatchOption o (r ≡ false) Q
    → ((x : ℤ) → o ≡ Some x → Q x → r ≡ test (Some (d *ℤ x))) → test None ≡ false → r ≡ test (scaled d o)
told None d test r Q h f n = h ∙ sym n
told (Some x) d test r Q h f n = f x refl h

pub den_small : (k : ℕ) (l : Line) → LineOk k l → nat_abs (den (seen k l)) ≤ 1000000000
den_small k l o = rw (get_or-take k l.nums l.basic (pos 0) o.basic) (small_neg (get_or l.nums l.basic (pos 0)) (line_at k l l.basic o o.basic))

-- ---- the first suitable quantity

-- `find` over a range, against a word that takes one number after the other, for tests that agree below n
pub find_range : (first : ℕ → ℕ → Option ℕ) (test want : ℕ → Bool) (n : ℕ) → ((q : ℕ) → first q zero ≡ None)
    → ((q k : ℕ) → first q (suc k) ≡ cond (want q) (Some q) (first (suc q) k)) → ((x : ℕ) → x < n → test x ≡ want x)
    → (q k : ℕ) → q + k ≤ n → find test (range_with_len q k) ≡ first q k
find_range first test want n none step same q zero h = sym (none q)
find_range first test want n none step same q (suc k) h =
    ap (λ b. cond b (Some q) (find test (range_with_len (q + 1) k))) (same q (omega arith))
    ∙ ap (cond (want q) (Some q)) (find_range first test want n none step same (q + 1) k (omega arith) ∙ ap (λ i. first i k) (add-one q))
    ∙ sym (step q k)

abbrev pub fit : Side → List RowEnds → List ℤ → Line → ℕ → Bool
fit side ends values l q = not (eqb q l.basic) && suitable side (get_or l.nums q (pos 0)) (get_or values q (pos 0)) (get_or ends q no_ends)

-- what the code computes of a quantity is what the line says
pub fit_at : (side : Side) (ends : List RowEnds) (values : List ℤ) (l : Line) (k : ℕ) → LineOk k l → all_within 200000000 values ≡ true → (q : ℕ) → q < k
    → (not (eqb q l.basic) && suitable side (to_z w64 (of_z w64 (get_or l.nums q (pos 0)))) (to_z w64 (of_z w64 (get_or values q (pos 0)))) (get_or ends q no_ends))
    ≡ fit side ends values (seen k l) q
fit_at side ends values l k o s q h =
    let a = line_at k l q o h in
    let x = within_at 200000000 values s q in
    rw (back (get_or l.nums q (pos 0)) (omega arith), back (get_or values q (pos 0)) (omega arith), get_or-take k l.nums q (pos 0) h)

-- ---- the smallest outside

pub earlier_assoc : (a b c : Option Violation) → earlier (earlier a b) c ≡ earlier a (earlier b c)
earlier_assoc None b c = refl
earlier_assoc (Some x) None c = refl
earlier_assoc (Some x) (Some y) None = by_bool (ltb y.basic x.basic) (λ e. rw e) (λ e. rw e)
earlier_assoc (Some x) (Some y) (Some z) =
    by_bool (ltb y.basic x.basic)
    (λ e. by_bool (ltb z.basic y.basic)
    (λ f. let g : ltb z.basic x.basic ≡ true = grind (arith, nat_tests) in rw (e, f, g))
    (λ f. rw (e, f, e)))
    (λ e. by_bool (ltb z.basic y.basic)
    (λ f. rw (e, f))
    (λ f. let g : ltb z.basic x.basic ≡ false = grind (arith, nat_tests) in rw (e, f, g, e)))

pub outside_next : (k : ℕ) (ends : List RowEnds) (values : List ℤ) (ls : List Line) (i : ℕ) (v : Option Violation) (d : Line) → i < length ls
    → earlier (earlier v (violation ends values i (seen k (get_or ls i d)))) (outside ends values (i + 1) (map (seen k) (drop (i + 1) ls)))
    ≡ earlier v (outside ends values i (map (seen k) (drop i ls)))
outside_next k ends values ls i v d h =
    let rest = map (seen k) (drop (i + 1) ls) in
    earlier_assoc v (violation ends values i (seen k (get_or ls i d))) (outside ends values (i + 1) rest)
    ∙ ap (λ j. earlier v (earlier (violation ends values i (seen k (get_or ls i d))) (outside ends values j rest))) (add-one i)
    ∙ sym (ap (λ (m : List Line). earlier v (outside ends values i (map (seen k) m))) (drop_more ls i d h))
