-- The run, round by round.
use Rattle.std.proofs.Common.{◌≡◌, ℕ, zero, suc, ◌+◌, ◌-◌, ◌<◌, ◌≤◌, true, false, cond, ltb, List, [], ◌∷◌, map, length, get_or, set, ℤ, nat_abs, Some, None, Option, sym, ap, ◌∙◌, subst, not-suc-le-zero, arith}
use Rattle.std.specs.Option.{MatchOption}
use Rattle.std.proofs.lemmas.List.{get_or-map}
use Rattle.problems.specs.declared.quantity.RowEnds.{RowEnds}
use Rattle.problems.specs.declared.quantity.Side.{Side}
use Rattle.problems.specs.declared.quantity.Side.TheVariants.{Lower, Upper}
use Rattle.problems.specs.Box.{no_ends}
use Rattle.problems.specs.Ranges.{in_reach}
use Rattle.problems.specs.Whole.{all_within}
use Rattle.tableau.specs.declared.line.Line.{Line}
use Rattle.tableau.specs.declared.run.Violation.{Violation}
use Rattle.tableau.specs.declared.run.Step.{Step}
use Rattle.tableau.specs.declared.run.Step.TheVariants.{Standing, Stuck, Turn}
use Rattle.tableau.specs.declared.run.Stop.TheVariants.{Stands, Fails}
use Rattle.tableau.specs.Choices.{found, violation, earlier, outside, entering}
use Rattle.tableau.specs.Lines.{blank}
use Rattle.tableau.specs.Tableau.{small_lines, or_zero, end_value, Tableau, pivoted, entered, chosen, look, go, gave_way, if_small, run}
use Rattle.pivot.specs.Shapes.{seen, shown, LinesOk, EndsOk, InsideStep}
use Rattle.pivot.proofs.Picks.{ends_at, fit}
use Rattle.std.proofs.lemmas.Bool.{and_from, and_parts, cond_both, le-leb, leb-true}

-- ---- what is chosen is there

abbrev pub FoundIn : ℕ → ℕ → Option Violation → Type 0
FoundIn n k None = Unit {0}
FoundIn n k (Some f) = (f.place < n) × (f.basic < k)

found_in : (n k i b : ℕ) (o : Option Side) → i < n → b < k → FoundIn n k (found i b o)
found_in n k i b None h l = tt
found_in n k i b (Some s) h l = (h, l)

earlier_in : (n k : ℕ) (a b : Option Violation) → FoundIn n k a → FoundIn n k b → FoundIn n k (earlier a b)
earlier_in n k None b p q = q
earlier_in n k (Some a) None p q = p
earlier_in n k (Some a) (Some b) p q = cond_both (ltb b.basic a.basic) (Some b) (Some a) (FoundIn n k) (λ _. q) (λ _. p)

pub outside_in : (k : ℕ) (ends : List RowEnds) (values : List ℤ) (i : ℕ) (ls : List Line) → LinesOk k ls → FoundIn (i + length ls) k (outside ends values i (map (seen k) ls))
outside_in k ends values i [] o = tt
outside_in k ends values i (l ∷ ls) o =
    let e : suc i + length ls ≡ i + suc (length ls) = omega arith in
    earlier_in (i + suc (length ls)) k (violation ends values i (seen k l)) (outside ends values (suc i) (map (seen k) ls))
    (found_in (i + suc (length ls)) k i l.basic _ (omega arith) o.0.basic)
    (subst (λ n. FoundIn n k (outside ends values (suc i) (map (seen k) ls))) e (outside_in k ends values (suc i) ls o.1))

abbrev pub Under : ℕ → Option ℕ → Type 0
Under k None = Unit {0}
Under k (Some q) = q < k

pub entering_under : (side : Side) (ends : List RowEnds) (values : List ℤ) (l : Line) (q n : ℕ) → Under (q + n) (entering side ends values l q n)
entering_under side ends values l q zero = tt
entering_under side ends values l q (suc n) =
    let e : suc q + n ≡ q + suc n = omega arith in
    let h : q < q + suc n = omega arith in
    cond_both (fit side ends values l q) (Some q) (entering side ends values l (suc q) n) (Under (q + suc n)) (λ _. h)
    (λ _. subst (λ m. Under m (entering side ends values l (suc q) n)) e (entering_under side ends values l (suc q) n))

-- ---- one look

pub entered_by : (f : Violation) (o : Option ℕ) (r : Step) (Q : ℕ → Type 0) → MatchOption o (r ≡ Stuck f) Q → ((q : ℕ) → Q q → r ≡ Turn f q) → r ≡ entered f o
entered_by f None r Q h g = h
entered_by f (Some q) r Q h g = g q h

pub entered_inside : (k m : ℕ) (f : Violation) (o : Option ℕ) → f.place < m → f.basic < k → Under (0 + k) o → InsideStep k m (entered f o)
entered_inside k m f None h g u = h
entered_inside k m f (Some q) h g u = (h, g, omega (arith, u))

pub look_some : (k : ℕ) (ends : List RowEnds) (values : List ℤ) (ls : List Line) (f : Violation) (r : Option ℕ)
    → outside ends values 0 (map (seen k) ls) ≡ Some f → f.place < length ls → r ≡ entering f.side ends values (seen k (get_or ls f.place blank)) 0 k
    → entered f r ≡ look ends k (shown k values ls)
look_some k ends values ls f r o h e =
    ap (entered f) (e ∙ ap (λ (l : Line). entering f.side ends values l 0 k) (sym (get_or-map (seen k) ls f.place blank blank h)))
    ∙ sym (ap (chosen ends k (shown k values ls)) o)

-- ---- one round

pub stands : (n : ℕ) (ends : List RowEnds) (k : ℕ) (t : Tableau) → Standing ≡ look ends k t → record { stop = Stands; tableau = t } ≡ run n ends k t
unfolding run
stands zero ends k t e = ap (go (λ next. gave_way t) ends t) e
stands (suc n) ends k t e = ap (go (if_small (run n ends k)) ends t) e

pub fails : (n : ℕ) (ends : List RowEnds) (k : ℕ) (t : Tableau) (f : Violation) → Stuck f ≡ look ends k t → record { stop = Fails f; tableau = t } ≡ run n ends k t
unfolding run
fails zero ends k t f e = ap (go (λ next. gave_way t) ends t) e
fails (suc n) ends k t f e = ap (go (if_small (run n ends k)) ends t) e

pub spent : (n : ℕ) (ends : List RowEnds) (k : ℕ) (t : Tableau) (f : Violation) (q : ℕ) → n ≡ 0 → Turn f q ≡ look ends k t → gave_way t ≡ run n ends k t
unfolding run
spent zero ends k t f q z e = ap (go (λ next. gave_way t) ends t) e
spent (suc n) ends k t f q z e = absurd (omega arith)

pub large : (n : ℕ) (ends : List RowEnds) (k : ℕ) (t : Tableau) (f : Violation) (q : ℕ) → 0 < n → Turn f q ≡ look ends k t → small_lines (pivoted ends f q t).lines ≡ false
    → gave_way (pivoted ends f q t) ≡ run n ends k t
unfolding run
large zero ends k t f q h e s = absurd (not-suc-le-zero h)
large (suc n) ends k t f q h e s =
    let next = pivoted ends f q t in
    ap (λ b. cond b (run n ends k next) (gave_way next)) (sym s) ∙ ap (go (if_small (run n ends k)) ends t) e

pub onward : (n : ℕ) (ends : List RowEnds) (k : ℕ) (t : Tableau) (f : Violation) (q : ℕ) → 0 < n → Turn f q ≡ look ends k t → small_lines (pivoted ends f q t).lines ≡ true
    → run (n - 1) ends k (pivoted ends f q t) ≡ run n ends k t
unfolding run
onward zero ends k t f q h e s = absurd (not-suc-le-zero h)
onward (suc n) ends k t f q h e s =
    let next = pivoted ends f q t in
    let m : suc n - 1 ≡ n = omega arith in
    ap (λ i. run i ends k next) m ∙ ap (λ b. cond b (run n ends k next) (gave_way next)) (sym s) ∙ ap (go (if_small (run n ends k)) ends t) e

-- ---- values stay within the ends' range

pub within_set : (n : ℕ) (a : List ℤ) (i : ℕ) (v : ℤ) → all_within n a ≡ true → nat_abs v ≤ n → all_within n (set a i v) ≡ true
within_set n [] i v w h = w
within_set n (a ∷ av) zero v w h = and_from _ _ (le-leb _ _ h) (and_parts _ _ w).1
within_set n (a ∷ av) (suc i) v w h = let e = and_parts _ _ w in and_from _ _ e.0 (within_set n av i v e.1 h)

or_zero_small : (o : Option ℤ) → in_reach o ≡ true → nat_abs (or_zero o) ≤ 200000000
or_zero_small None h = omega arith
or_zero_small (Some z) h = leb-true (nat_abs z) 200000000 h

pub end_small : (s : Side) (ends : List RowEnds) (q : ℕ) → EndsOk ends → nat_abs (end_value s (get_or ends q no_ends)) ≤ 200000000
end_small Lower ends q o = or_zero_small (get_or ends q no_ends).lower (ends_at ends q o).0
end_small Upper ends q o = or_zero_small (get_or ends q no_ends).upper (ends_at ends q o).1

-- what a look or a pivot says of a board, told of the ends and the number of quantities that it began with
pub look_since : (e e0 : List RowEnds) (k k0 : ℕ) (x : List ℤ) (ls : List Line) (r : Step) → e ≡ e0 → k ≡ k0 → r ≡ look e k (shown k x ls) → r ≡ look e0 k0 (shown k0 x ls)
look_since e e0 k k0 x ls r p q h = h ∙ ap (λ (a : List RowEnds). look a k (shown k x ls)) p ∙ ap (λ n. look e0 n (shown n x ls)) q

pub pivoted_since : (e e0 : List RowEnds) (k k0 : ℕ) (x : List ℤ) (ls : List Line) (f : Violation) (q : ℕ) → e ≡ e0 → k ≡ k0
    → pivoted e f q (shown k x ls) ≡ pivoted e0 f q (shown k0 x ls)
pivoted_since e e0 k k0 x ls f q p h = ap (λ (a : List RowEnds). pivoted a f q (shown k x ls)) p ∙ ap (λ n. pivoted e0 f q (shown n x ls)) h
