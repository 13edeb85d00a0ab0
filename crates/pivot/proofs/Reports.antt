-- The values of the quantities, read off the lines.
use Rattle.std.proofs.Common.{◌≡◌, ℕ, zero, suc, ◌+◌, ◌-◌, ◌<◌, Bool, true, false, cond, not, eqb, List, [], ◌∷◌, ◌++◌, map, length, get_or, take, set, ℤ, pos, ◌<ℤ◌, Some, None, Option, sym, refl, ap, ◌∙◌, subst, add-one, arith}
use borrow.Author.Differences.{ints}
use Rattle.std.specs.List.{find}
use Rattle.std.proofs.lemmas.Option.{none-some, same_Some}
use Rattle.problems.specs.Rows.{dot}
use Rattle.tableau.specs.declared.line.Line.{Line}
use Rattle.tableau.specs.declared.fraction.Fraction.{Fraction}
use Rattle.tableau.specs.Lines.{den}
use Rattle.tableau.specs.Pivot.{value, whole, floor, broken, floors}
use Rattle.pivot.specs.Shapes.{seen, LineOk, LinesOk}
use Rattle.tableau.specs.Sound.{DensOk}
use Rattle.pivot.proofs.Walks.{wrote}
use Rattle.std.proofs.lemmas.Bool.{cond_both}

abbrev pub told : List ℤ → Line → Fraction
told values l = record { num = dot l.nums values; den = den l }

pub made : (r : Fraction) (values : List ℤ) (l : Line) → r.num ≡ dot l.nums values → r.den ≡ den l → r ≡ told values l
made r values l n d =
    let f : ℤ → ℤ → Fraction = λ a b. record { num = a; den = b } in
    ap (λ a. f a r.den) n ∙ ap (f (dot l.nums values)) d

-- ---- the line of a quantity

pub found_ok : (k : ℕ) (test : Line → Bool) (ls : List Line) (l : Line) → LinesOk k ls → find test ls ≡ Some l → LineOk k l
found_ok k test [] l o e = absurd (none-some l e)
found_ok k test (m ∷ ls) l o e = by_way (test m) e (found_ok k test ls l o.1)
  where
    by_way : (b : Bool) → cond b (Some m) (find test ls) ≡ Some l → (find test ls ≡ Some l → LineOk k l) → LineOk k l
    by_way true f later = subst (LineOk k) (same_Some m l f) o.0
    by_way false f later = later f

pub value_some : (k v : ℕ) (values : List ℤ) (ls : List Line) (l : Line) → find (λ (m : Line). eqb m.basic v) ls ≡ Some l
    → value v values (map (seen k) ls) ≡ told values (seen k l)
value_some k v values [] l e = absurd (none-some l e)
value_some k v values (m ∷ ls) l e = by_way (eqb m.basic v) e (value_some k v values ls l)
  where
    by_way : (b : Bool) → cond b (Some m) (find (λ (n : Line). eqb n.basic v) ls) ≡ Some l
        → (find (λ (n : Line). eqb n.basic v) ls ≡ Some l → value v values (map (seen k) ls) ≡ told values (seen k l))
        → cond b (told values (seen k m)) (value v values (map (seen k) ls)) ≡ told values (seen k l)
    by_way true f later = ap (λ (n : Line). told values (seen k n)) (same_Some m l f)
    by_way false f later = later f

pub value_none : (k v : ℕ) (values : List ℤ) (ls : List Line) → ◌≡◌ {A = Option Line} (find (λ (m : Line). eqb m.basic v) ls) None
    → value v values (map (seen k) ls) ≡ record { num = get_or values v (pos 0); den = pos 1 }
value_none k v values [] e = refl
value_none k v values (m ∷ ls) e = by_way (eqb m.basic v) e (value_none k v values ls)
  where
    by_way : (b : Bool) → ◌≡◌ {A = Option Line} (cond b (Some m) (find (λ (n : Line). eqb n.basic v) ls)) None
        → (◌≡◌ {A = Option Line} (find (λ (n : Line). eqb n.basic v) ls) None → value v values (map (seen k) ls) ≡ record { num = get_or values v (pos 0); den = pos 1 })
        → cond b (told values (seen k m)) (value v values (map (seen k) ls)) ≡ record { num = get_or values v (pos 0); den = pos 1 }
    by_way true f later = absurd (none-some m (sym f))
    by_way false f later = later f

pub value_den : (v : ℕ) (values : List ℤ) (ls : List Line) → DensOk ls → pos 0 <ℤ (value v values ls).den
value_den v values [] o = omega (arith, ints)
value_den v values (l ∷ ls) o =
    cond_both (eqb l.basic v) (told values l) (value v values ls) (λ (f : Fraction). pos 0 <ℤ f.den) (λ _. o.0) (λ _. value_den v values ls o.1)

pub broken_step : (values : List ℤ) (ls : List Line) (v k : ℕ) → broken values ls v (suc k) ≡ cond (not (whole (value v values ls))) (Some v) (broken values ls (suc v) k)
broken_step values ls v k = by_way (whole (value v values ls))
  where
    by_way : (b : Bool) → cond b (broken values ls (suc v) k) (Some v) ≡ cond (not b) (Some v) (broken values ls (suc v) k)
    by_way true = refl
    by_way false = refl

-- one value more is rounded and written
pub floors_next : (values : List ℤ) (ls : List Line) (v n : ℕ) (point : List ℤ) (z : ℤ) → v < n → v < length point → z ≡ floor (value v values ls)
    → take (v + 1) (set point v z) ++ floors values ls (v + 1) (n - (v + 1)) ≡ take v point ++ floors values ls v (n - v)
floors_next values ls v n point z h l e =
    let m : n - v ≡ suc (n - (v + 1)) = omega arith in
    wrote point v z (floors values ls (v + 1) (n - (v + 1))) l
    ∙ ap (λ (x : ℤ). take v point ++ (x ∷ floors values ls (v + 1) (n - (v + 1)))) e
    ∙ ap (λ (i : ℕ). take v point ++ (floor (value v values ls) ∷ floors values ls i (n - (v + 1)))) (add-one v)
    ∙ sym (ap (λ (i : ℕ). take v point ++ floors values ls v i) m)

-- the broken quantity is one of those looked at
pub broken_under : (values : List ℤ) (ls : List Line) (v k b : ℕ) → broken values ls v k ≡ Some b → b < v + k
broken_under values ls v zero b e = absurd (none_some b e)
  where
    none_some : (b : ℕ) → ◌≡◌ {A = Option ℕ} None (Some b) → ⊥
    none_some b e = let z : ◌≡◌ {A = ℕ} 0 1 = cc in omega arith
broken_under values ls v (suc k) b e = by_way (whole (value v values ls)) e (λ f. broken_under values ls (suc v) k b f)
  where
    by_way : (w : Bool) → cond w (broken values ls (suc v) k) (Some v) ≡ Some b → (broken values ls (suc v) k ≡ Some b → b < suc v + k) → b < v + suc k
    by_way true f later = let h = later f in omega arith
    by_way false f later = let h : v ≡ b = cc in omega arith
