-- What a look says: the quantity that leaves is basic and goes to a present end, the one that enters is nonbasic and stands in its line. So what every such pivot keeps, a run keeps.
use Rattle.std.proofs.Common.{◌≡◌, ℕ, zero, suc, ◌+◌, ◌<◌, Bool, true, cond, not, ◌&&◌, eqb, ltb, List, [], ◌∷◌, length, get_or, ℤ, pos, Some, None, Option, sym, refl, ap, ◌∙◌, subst, inl, inr, arith}
use mathlib.Core.Bool.{false≢true}
use Rattle.std.proofs.lemmas.Bool.{eqb-false, and_parts, cond_both, not-true}
use Rattle.problems.specs.declared.quantity.RowEnds.{RowEnds}
use Rattle.problems.specs.declared.quantity.Side.{Side}
use Rattle.problems.specs.declared.quantity.Side.TheVariants.{Lower, Upper}
use Rattle.problems.specs.Rows.{dot}
use Rattle.problems.specs.Box.{no_ends}
use Rattle.testers.specs.Halving.{exceeds, falls_short}
use Rattle.tableau.specs.declared.line.Line.{Line}
use Rattle.tableau.specs.declared.run.Violation.{Violation}
use Rattle.tableau.specs.declared.run.Step.{Step}
use Rattle.tableau.specs.declared.run.Step.TheVariants.{Standing, Stuck, Turn}
use Rattle.tableau.specs.Lines.{blank, den}
use Rattle.tableau.specs.Choices.{scaled, found, violation, earlier, outside, suitable, entering}
use Rattle.tableau.specs.Tableau.{Tableau, Run, or_zero, end_value, pivoted, small_lines, entered, chosen, look, go, gave_way, if_small, run}
use Rattle.tableau.specs.Sound.{AtAnEnd}

-- ---- the quantity that leaves

short_present : (z d : ℤ) (o : Option ℤ) → falls_short z (scaled d o) ≡ true → o ≡ Some (or_zero o)
short_present z d None e = absurd (false≢true e)
short_present z d (Some l) e = refl

over_present : (z d : ℤ) (o : Option ℤ) → exceeds z (scaled d o) ≡ true → o ≡ Some (or_zero o)
over_present z d None e = absurd (false≢true e)
over_present z d (Some u) e = refl

-- f names a line of those from place i on, its basic quantity, and a present end of it
pub record Named (ends : List RowEnds) (i : ℕ) (ls : List Line) (f : Violation) : Type 0 where
  pub at : ℕ
  pub there : at < length ls
  pub place_is : f.place ≡ i + at
  pub names : f.basic ≡ (get_or ls at blank).basic
  pub seated : AtAnEnd (get_or ends f.basic no_ends) (end_value f.side (get_or ends f.basic no_ends))

abbrev NamedIf : List RowEnds → ℕ → List Line → Option Violation → Type 0
NamedIf ends i ls None = Unit {0}
NamedIf ends i ls (Some f) = Named ends i ls f

violation_named : (ends : List RowEnds) (values : List ℤ) (i : ℕ) (l : Line) (ls : List Line) → NamedIf ends i (l ∷ ls) (violation ends values i l)
violation_named ends values i l ls =
    let e = get_or ends l.basic no_ends in
    let z = dot l.nums values in
    let P : Option Side → Type 0 = λ o. NamedIf ends i (l ∷ ls) (found i l.basic o) in
    let upper = cond (exceeds z (scaled (den l) e.upper)) (Some Upper) None in
    cond_both (falls_short z (scaled (den l) e.lower)) (Some Lower) upper P
    (λ y. record { at = 0; there = omega arith; place_is = omega arith; names = refl; seated = inl (short_present z (den l) e.lower y) })
    (λ _. cond_both (exceeds z (scaled (den l) e.upper)) (Some Upper) None P
    (λ y. record { at = 0; there = omega arith; place_is = omega arith; names = refl; seated = inr (over_present z (den l) e.upper y) }) (λ _. tt))

named_later : (ends : List RowEnds) (i : ℕ) (l : Line) (ls : List Line) (o : Option Violation) → NamedIf ends (suc i) ls o → NamedIf ends i (l ∷ ls) o
named_later ends i l ls None n = tt
named_later ends i l ls (Some f) n =
    let h = n.there in
    let e = n.place_is in
    record { at = suc n.at; there = omega arith; place_is = omega arith; names = n.names; seated = n.seated }

earlier_named : (ends : List RowEnds) (i : ℕ) (ls : List Line) (a b : Option Violation) → NamedIf ends i ls a → NamedIf ends i ls b → NamedIf ends i ls (earlier a b)
earlier_named ends i ls None b p q = q
earlier_named ends i ls (Some a) None p q = p
earlier_named ends i ls (Some a) (Some b) p q = cond_both (ltb b.basic a.basic) (Some b) (Some a) (NamedIf ends i ls) (λ _. q) (λ _. p)

outside_named : (ends : List RowEnds) (values : List ℤ) (i : ℕ) (ls : List Line) → NamedIf ends i ls (outside ends values i ls)
outside_named ends values i [] = tt
outside_named ends values i (l ∷ ls) =
    earlier_named ends i (l ∷ ls) (violation ends values i l) (outside ends values (suc i) ls) (violation_named ends values i l ls)
    (named_later ends i l ls (outside ends values (suc i) ls) (outside_named ends values (suc i) ls))

-- ---- the quantity that enters

-- the test that it passes
abbrev pub fit : Side → List RowEnds → List ℤ → Line → ℕ → Bool
fit side ends values l q = not (eqb q l.basic) && suitable side (get_or l.nums q (pos 0)) (get_or values q (pos 0)) (get_or ends q no_ends)

suitable_nonzero : (side : Side) (a x : ℤ) (e : RowEnds) → suitable side a x e ≡ true → a ≡ pos 0 → ⊥
suitable_nonzero Lower a x e s z = false≢true (sym (ap (λ b. suitable Lower b x e) z) ∙ s)
suitable_nonzero Upper a x e s z = false≢true (sym (ap (λ b. suitable Upper b x e) z) ∙ s)

-- one of the first k quantities, not the line's own, and it stands in the line
pub record Helps (k : ℕ) (l : Line) (q : ℕ) : Type 0 where
  pub inside : q < k
  pub apart : q ≡ l.basic → ⊥
  pub moves : get_or l.nums q (pos 0) ≡ pos 0 → ⊥

abbrev HelpsIf : ℕ → Line → Option ℕ → Type 0
HelpsIf k l None = Unit {0}
HelpsIf k l (Some q) = Helps k l q

entering_helps : (side : Side) (ends : List RowEnds) (values : List ℤ) (l : Line) (q n : ℕ) → HelpsIf (q + n) l (entering side ends values l q n)
entering_helps side ends values l q zero = tt
entering_helps side ends values l q (suc n) =
    let e : suc q + n ≡ q + suc n = omega arith in
    cond_both (fit side ends values l q) (Some q) (entering side ends values l (suc q) n) (HelpsIf (q + suc n) l)
    (λ t. let h = and_parts _ _ t in record { inside = omega arith; apart = eqb-false q l.basic (not-true _ h.0); moves = suitable_nonzero side _ _ _ h.1 })
    (λ _. subst (λ k. HelpsIf k l (entering side ends values l (suc q) n)) e (entering_helps side ends values l (suc q) n))

-- ---- a look

pub record Good (ends : List RowEnds) (k : ℕ) (t : Tableau) (f : Violation) (q : ℕ) : Type 0 where
  pub placed : f.place < length t.lines
  pub names : f.basic ≡ (get_or t.lines f.place blank).basic
  pub seated : AtAnEnd (get_or ends f.basic no_ends) (end_value f.side (get_or ends f.basic no_ends))
  pub enters : Helps k (get_or t.lines f.place blank) q

abbrev pub GoodStep : List RowEnds → ℕ → Tableau → Step → Type 0
GoodStep ends k t Standing = Unit {0}
GoodStep ends k t (Stuck f) = Unit {0}
GoodStep ends k t (Turn f q) = Good ends k t f q

good_entered : (ends : List RowEnds) (k : ℕ) (t : Tableau) (f : Violation) (r : Option ℕ) → Named ends 0 t.lines f
    → HelpsIf k (get_or t.lines f.place blank) r → GoodStep ends k t (entered f r)
good_entered ends k t f None n h = tt
good_entered ends k t f (Some q) n h =
    let e : n.at ≡ f.place = omega (arith, n.place_is) in
    record {
      placed = subst (λ i. i < length t.lines) e n.there;
      names = n.names ∙ ap (λ i. (get_or t.lines i blank).basic) e;
      seated = n.seated;
      enters = h;
    }

good_chosen : (ends : List RowEnds) (k : ℕ) (t : Tableau) (o : Option Violation) → NamedIf ends 0 t.lines o → GoodStep ends k t (chosen ends k t o)
good_chosen ends k t None n = tt
good_chosen ends k t (Some f) n =
    let l = get_or t.lines f.place blank in
    let r = entering f.side ends t.values l 0 k in
    let e : 0 + k ≡ k = omega arith in
    good_entered ends k t f r n (subst (λ m. HelpsIf m l r) e (entering_helps f.side ends t.values l 0 k))

pub look_good : (ends : List RowEnds) (k : ℕ) (t : Tableau) → GoodStep ends k t (look ends k t)
look_good ends k t = good_chosen ends k t (outside ends t.values 0 t.lines) (outside_named ends t.values 0 t.lines)

-- ---- a run

-- every pivot that a look names keeps P
abbrev pub Steady : List RowEnds → ℕ → (Tableau → Type 0) → Type 0
Steady ends k P = (t : Tableau) (f : Violation) (q : ℕ) → Good ends k t f q → P t → P (pivoted ends f q t)

go_keeps : (P : Tableau → Type 0) (further : Tableau → Run) (ends : List RowEnds) (k : ℕ) (t : Tableau) (s : Step) → Steady ends k P → GoodStep ends k t s → P t
    → ((next : Tableau) → P next → P (further next).tableau) → P (go further ends t s).tableau
go_keeps P further ends k t Standing w g p h = p
go_keeps P further ends k t (Stuck f) w g p h = p
go_keeps P further ends k t (Turn f q) w g p h = h (pivoted ends f q t) (w t f q g p)

pub run_keeps : (P : Tableau → Type 0) (ends : List RowEnds) (k : ℕ) → Steady ends k P → (limit : ℕ) (t : Tableau) → P t → P (run limit ends k t).tableau
unfolding run
run_keeps P ends k w zero t p = go_keeps P (λ next. gave_way t) ends k t (look ends k t) w (look_good ends k t) p (λ next _. p)
run_keeps P ends k w (suc limit) t p =
    go_keeps P (if_small (run limit ends k)) ends k t (look ends k t) w (look_good ends k t) p
    (λ next h. cond_both (small_lines next.lines) (run limit ends k next) (gave_way next) (λ (r : Run). P r.tableau) (λ _. run_keeps P ends k w limit next h) (λ _. h))
