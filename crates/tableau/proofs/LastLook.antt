-- What a look at a tableau tells: which quantity is outside its ends, and that none can help it.
use Rattle.std.proofs.Common.{◌≡◌, ℕ, zero, suc, ◌+◌, ◌<◌, Bool, true, false, cond, not, ◌&&◌, eqb, ltb, ◌⊎◌, List, [], ◌∷◌, length, get_or, ℤ, pos, Some, None, Option, sym, refl, ap, ◌∙◌, subst, inl, inr, ⊎_elim, true≢false, le_of_suc-le-suc, not-suc-le-zero, arith}
use Rattle.std.proofs.lemmas.Bool.{cases_cond, ne_eqb}
use Rattle.problems.specs.declared.quantity.RowEnds.{RowEnds}
use Rattle.problems.specs.declared.quantity.Side.{Side}
use Rattle.problems.specs.declared.quantity.Side.TheVariants.{Lower, Upper}
use Rattle.problems.specs.Rows.{dot}
use Rattle.problems.specs.Box.{no_ends}
use Rattle.problems.proofs.Tests.{by_bool}
use Rattle.testers.specs.Halving.{exceeds, falls_short}
use Rattle.testers.specs.Halves.{some_same, some_none, none_some}
use Rattle.tableau.specs.declared.line.Line.{Line}
use Rattle.tableau.specs.declared.run.Violation.{Violation}
use Rattle.tableau.specs.declared.run.Step.TheVariants.{Standing, Stuck}
use Rattle.tableau.specs.Lines.{blank, den}
use Rattle.tableau.specs.Choices.{scaled, violated, found, violation, earlier, outside, suitable, entering}
use Rattle.tableau.specs.Tableau.{Tableau, entered, chosen, look}

-- ---- the look is stuck

pub record StuckAt (ends : List RowEnds) (k : ℕ) (t : Tableau) (f : Violation) : Type 0 where
  pub is_outside : outside ends t.values 0 t.lines ≡ Some f
  pub none_enters : entering f.side ends t.values (get_or t.lines f.place blank) 0 k ≡ None

entered_stuck : (g f : Violation) (o : Option ℕ) → entered g o ≡ Stuck f → (g ≡ f) × (o ≡ None)
entered_stuck g f None h = (cc, refl)
entered_stuck g f (Some q) h = let z : ◌≡◌ {A = ℕ} 0 1 = cc in absurd (omega arith)

chosen_stuck : (ends : List RowEnds) (k : ℕ) (t : Tableau) (f : Violation) (o : Option Violation) → outside ends t.values 0 t.lines ≡ o → chosen ends k t o ≡ Stuck f → StuckAt ends k t f
chosen_stuck ends k t f None e h = let z : ◌≡◌ {A = ℕ} 0 1 = cc in absurd (omega arith)
chosen_stuck ends k t f (Some g) e h =
    let p = entered_stuck g f (entering g.side ends t.values (get_or t.lines g.place blank) 0 k) h in
    record {
      is_outside = e ∙ ap Some p.0;
      none_enters = subst (λ (v : Violation). entering v.side ends t.values (get_or t.lines v.place blank) 0 k ≡ None) p.0 p.1;
    }

pub look_stuck : (ends : List RowEnds) (k : ℕ) (t : Tableau) (f : Violation) → look ends k t ≡ Stuck f → StuckAt ends k t f
look_stuck ends k t f h = chosen_stuck ends k t f (outside ends t.values 0 t.lines) refl h

-- ---- the look finds nothing outside

chosen_standing : (ends : List RowEnds) (k : ℕ) (t : Tableau) (o : Option Violation) → chosen ends k t o ≡ Standing → o ≡ None
chosen_standing ends k t None h = refl
chosen_standing ends k t (Some f) h = not_standing f (entering f.side ends t.values (get_or t.lines f.place blank) 0 k) h
  where
    not_standing : {B : Type 0} (f : Violation) (o : Option ℕ) → entered f o ≡ Standing → B
    not_standing f None h = let z : ◌≡◌ {A = ℕ} 0 1 = cc in absurd (omega arith)
    not_standing f (Some q) h = let z : ◌≡◌ {A = ℕ} 0 1 = cc in absurd (omega arith)

pub look_standing : (ends : List RowEnds) (k : ℕ) (t : Tableau) → look ends k t ≡ Standing → outside ends t.values 0 t.lines ≡ None
look_standing ends k t h = chosen_standing ends k t (outside ends t.values 0 t.lines) h

-- ---- the quantity outside its ends

-- the line's quantity passes that end
abbrev pub Violates : Side → ℤ → ℤ → RowEnds → Type 0
Violates Lower z d e = falls_short z (scaled d e.lower) ≡ true
Violates Upper z d e = exceeds z (scaled d e.upper) ≡ true

pub record Found (ends : List RowEnds) (values : List ℤ) (ls : List Line) (f : Violation) : Type 0 where
  pub there : f.place < length ls
  pub own : f.basic ≡ (get_or ls f.place blank).basic
  pub violates : Violates f.side (dot (get_or ls f.place blank).nums values) (den (get_or ls f.place blank)) (get_or ends (get_or ls f.place blank).basic no_ends)

sides : (a b : Bool) (s : Side) → cond a (Some Lower) (cond b (Some Upper) None) ≡ Some s → ((a ≡ true) × (s ≡ Lower)) ⊎ ((b ≡ true) × (s ≡ Upper))
sides true b s h = inl (refl, cc)
sides false true s h = inr (refl, cc)
sides false false s h = none_some s h

violated_is : (e : RowEnds) (d z : ℤ) (s : Side) → violated e d z ≡ Some s → Violates s z d e
violated_is e d z s h =
    ⊎_elim (λ (p : (falls_short z (scaled d e.lower) ≡ true) × (s ≡ Lower)). subst (λ v. Violates v z d e) (sym p.1) p.0)
    (λ (p : (exceeds z (scaled d e.upper) ≡ true) × (s ≡ Upper)). subst (λ v. Violates v z d e) (sym p.1) p.0)
    (sides (falls_short z (scaled d e.lower)) (exceeds z (scaled d e.upper)) s h)

found_is : (i b : ℕ) (o : Option Side) (f : Violation) → found i b o ≡ Some f → (f.place ≡ i) × (f.basic ≡ b) × (o ≡ Some f.side)
found_is i b None f h = none_some f h
found_is i b (Some s) f h =
    let e = some_same _ f h in
    (ap (λ (v : Violation). v.place) (sym e), ap (λ (v : Violation). v.basic) (sym e), ap (λ (v : Violation). Some v.side) e)

earlier_is : (a b : Option Violation) (f : Violation) → earlier a b ≡ Some f → (a ≡ Some f) ⊎ (b ≡ Some f)
earlier_is None b f h = inr h
earlier_is (Some a) None f h = inl h
earlier_is (Some a) (Some b) f h = ⊎_elim (λ e. inr (sym e)) (λ e. inl (sym e)) (cases_cond (ltb b.basic a.basic) (Some b) (Some a) (Some f) (sym h))

outside_is : (ends : List RowEnds) (values : List ℤ) (i : ℕ) (ls : List Line) (f : Violation) → outside ends values i ls ≡ Some f
    → (j : ℕ) × (j < length ls) × (violation ends values (i + j) (get_or ls j blank) ≡ Some f)
outside_is ends values i [] f h = none_some f h
outside_is ends values i (l ∷ ls) f h =
    ⊎_elim (λ (e : violation ends values i l ≡ Some f). let z : i ≡ i + 0 = omega arith in (0, omega arith, subst (λ n. violation ends values n l ≡ Some f) z e))
    (λ (e : outside ends values (suc i) ls ≡ Some f).
    let r = outside_is ends values (suc i) ls f e in
    let z : suc i + r.0 ≡ i + suc r.0 = omega arith in
    (suc r.0, (let k = r.1 in omega arith), subst (λ n. violation ends values n (get_or ls r.0 blank) ≡ Some f) z r.2))
    (earlier_is (violation ends values i l) (outside ends values (suc i) ls) f h)

pub outside_found : (ends : List RowEnds) (values : List ℤ) (ls : List Line) (f : Violation) → outside ends values 0 ls ≡ Some f → Found ends values ls f
outside_found ends values ls f h =
    let r = outside_is ends values 0 ls f h in
    let l = get_or ls r.0 blank in
    let p = found_is (0 + r.0) l.basic (violated (get_or ends l.basic no_ends) (den l) (dot l.nums values)) f r.2 in
    let e : r.0 ≡ f.place = omega (arith, p.0) in
    record {
      there = subst (λ j. j < length ls) e r.1;
      own = subst (λ j. f.basic ≡ (get_or ls j blank).basic) e p.1;
      violates = subst (λ j. Violates f.side (dot (get_or ls j blank).nums values) (den (get_or ls j blank)) (get_or ends (get_or ls j blank).basic no_ends)) e (violated_is (get_or ends l.basic no_ends) (den l) (dot l.nums values) f.side p.2);
    }

-- ---- no quantity is outside its ends

earlier_none : (a b : Option Violation) → earlier a b ≡ None → (a ≡ None) × (b ≡ None)
earlier_none None b h = (refl, h)
earlier_none (Some a) None h = some_none a h
earlier_none (Some a) (Some b) h =
    by_bool (ltb b.basic a.basic) (λ y. some_none b (subst (λ v. cond v (Some b) (Some a) ≡ None) y h)) (λ n. some_none a (subst (λ v. cond v (Some b) (Some a) ≡ None) n h))

found_none : (i b : ℕ) (o : Option Side) → found i b o ≡ None → o ≡ None
found_none i b None h = refl
found_none i b (Some s) h = some_none _ h

neither : (a b : Bool) → cond a (Some Lower) (cond b (Some Upper) None) ≡ None → (a ≡ false) × (b ≡ false)
neither true b h = some_none Lower h
neither false true h = some_none Upper h
neither false false h = (refl, refl)

-- the line's quantity lies within its ends
abbrev pub Stays : List RowEnds → List ℤ → Line → Type 0
Stays ends values l =
    (falls_short (dot l.nums values) (scaled (den l) (get_or ends l.basic no_ends).lower) ≡ false)
    × (exceeds (dot l.nums values) (scaled (den l) (get_or ends l.basic no_ends).upper) ≡ false)

pub outside_none : (ends : List RowEnds) (values : List ℤ) (i : ℕ) (ls : List Line) → outside ends values i ls ≡ None → (j : ℕ) → j < length ls → Stays ends values (get_or ls j blank)
outside_none ends values i [] h j k = absurd (not-suc-le-zero k)
outside_none ends values i (l ∷ ls) h zero k =
    let p = earlier_none (violation ends values i l) (outside ends values (suc i) ls) h in
    neither _ _ (found_none i l.basic (violated (get_or ends l.basic no_ends) (den l) (dot l.nums values)) p.0)
outside_none ends values i (l ∷ ls) h (suc j) k = outside_none ends values (suc i) ls (earlier_none (violation ends values i l) (outside ends values (suc i) ls) h).1 j (le_of_suc-le-suc k)

-- ---- no quantity enters

unchosen : (a b : Bool) (q : ℕ) (o : Option ℕ) → cond (not a && b) (Some q) o ≡ None → (a ≡ false → b ≡ false) × (o ≡ None)
unchosen true b q o h = (λ e. absurd (true≢false e), h)
unchosen false true q o h = some_none q h
unchosen false false q o h = (λ e. refl, h)

entering_from : (side : Side) (ends : List RowEnds) (values : List ℤ) (l : Line) (q k : ℕ) → entering side ends values l q k ≡ None
    → (j : ℕ) → j < k → eqb (q + j) l.basic ≡ false → suitable side (get_or l.nums (q + j) (pos 0)) (get_or values (q + j) (pos 0)) (get_or ends (q + j) no_ends) ≡ false
entering_from side ends values l q zero h j m e = absurd (not-suc-le-zero m)
entering_from side ends values l q (suc k) h zero m e =
    let z : q ≡ q + 0 = omega arith in
    let p = unchosen (eqb q l.basic) (suitable side (get_or l.nums q (pos 0)) (get_or values q (pos 0)) (get_or ends q no_ends)) q (entering side ends values l (suc q) k) h in
    subst (λ n. eqb n l.basic ≡ false → suitable side (get_or l.nums n (pos 0)) (get_or values n (pos 0)) (get_or ends n no_ends) ≡ false) z p.0 e
entering_from side ends values l q (suc k) h (suc j) m e =
    let z : suc q + j ≡ q + suc j = omega arith in
    let p = unchosen (eqb q l.basic) (suitable side (get_or l.nums q (pos 0)) (get_or values q (pos 0)) (get_or ends q no_ends)) q (entering side ends values l (suc q) k) h in
    subst (λ n. eqb n l.basic ≡ false → suitable side (get_or l.nums n (pos 0)) (get_or values n (pos 0)) (get_or ends n no_ends) ≡ false) z (entering_from side ends values l (suc q) k p.1 j (le_of_suc-le-suc m)) e

pub entering_none : (side : Side) (ends : List RowEnds) (values : List ℤ) (l : Line) (k : ℕ) → entering side ends values l 0 k ≡ None
    → (q : ℕ) → q < k → (q ≡ l.basic → ⊥) → suitable side (get_or l.nums q (pos 0)) (get_or values q (pos 0)) (get_or ends q no_ends) ≡ false
entering_none side ends values l k h q m n =
    let z : 0 + q ≡ q = omega arith in
    subst (λ i. eqb i l.basic ≡ false → suitable side (get_or l.nums i (pos 0)) (get_or values i (pos 0)) (get_or ends i no_ends) ≡ false) z (entering_from side ends values l 0 k h q m) (ne_eqb q l.basic n)
