-- The values of all quantities over one denominator, the product of the lines' own, and that all lines hold there.
use Rattle.std.proofs.Common.{◌≡◌, ℕ, zero, suc, ◌+◌, ◌*◌, ◌<◌, ◌≤◌, eqb, ◌⊎◌, List, [], ◌∷◌, length, get_or, drop, set, ℤ, pos, negsuc, ◌+ℤ◌, ◌*ℤ◌, neg_ℤ, ◌≤ℤ◌, ◌<ℤ◌, sym, refl, ap, ◌∙◌, subst, inl, inr, ⊎_elim, le_of_suc-le-suc, not-suc-le-zero, arith}
use native.Mathlib.Nat.{eq_of_mul-eq-mul_left, le_of_mul-le-mul_left}
use lib.IntN.{*ℤ-zero, zero-*ℤ, *ℤ_comm}
use borrow.Author.Differences.{ints, up, down, same_in, at_most_in}
use Rattle.std.proofs.lemmas.Bool.{cases_eq, cond-true, cond-false, ne_eqb, eq-eqb}
use Rattle.std.proofs.lemmas.List.{length-set, get_or-set_same, get_or-set_other}
use Rattle.problems.specs.Rows.{dot, scale}
use Rattle.testers.specs.Ring.{out, lin, mul_mono, mul_assoc}
use Rattle.testers.specs.Dots.{dot_cons, get_or_drop_one}
use Rattle.testers.specs.Halves.{length_scale}
use Rattle.tableau.specs.declared.line.Line.{Line}
use Rattle.tableau.specs.Lines.{blank, den}
use Rattle.tableau.specs.Pivot.{value}
use Rattle.tableau.specs.Sound.{Solved, Hold, Nonbasic}
use Rattle.tableau.proofs.Points.{dot_set, dot_times, hold_from}

-- ---- a positive factor

pub suc_of : (d : ℤ) → pos 0 <ℤ d → (n : ℕ) × (d ≡ pos (suc n))
suc_of (pos zero) h = absurd (omega (arith, ints))
suc_of (pos (suc n)) h = (n, refl)
suc_of (negsuc n) h = absurd (omega (arith, ints))

pub cancel : (c a b : ℤ) → pos 0 <ℤ c → c *ℤ a ≡ c *ℤ b → a ≡ b
cancel (pos zero) a b h e = absurd (omega (arith, ints))
cancel (pos (suc k)) a b h e = same_in a b (eq_of_mul-eq-mul_left (suc k) (omega arith) _ _ (omega (arith, ints, e)))
cancel (negsuc k) a b h e = absurd (omega (arith, ints))

pub cancel_le : (c a b : ℤ) → pos 0 <ℤ c → (c *ℤ a) ≤ℤ (c *ℤ b) → a ≤ℤ b
cancel_le (pos zero) a b h k = absurd (omega (arith, ints))
cancel_le (pos (suc n)) a b h k = let p : suc n * (up a + down b) ≤ suc n * (up b + down a) = omega (arith, ints) in at_most_in a b (le_of_mul-le-mul_left p (omega arith))
cancel_le (negsuc n) a b h k = absurd (omega (arith, ints))

mul_positive : (a b : ℤ) → pos 0 <ℤ a → pos 0 <ℤ b → pos 0 <ℤ (a *ℤ b)
mul_positive (pos zero) b h k = absurd (omega (arith, ints))
mul_positive (negsuc n) b h k = absurd (omega (arith, ints))
mul_positive (pos (suc n)) b h k = let p : pos 1 ≤ℤ b = omega (arith, ints) in let q = mul_mono (suc n) (pos 1) b p in omega (arith, ints)

-- ---- lists of lines

-- no two lines are of one quantity
abbrev pub Apart : List Line → Type 0
Apart ls = (i j : ℕ) → i < length ls → j < length ls → (get_or ls i blank).basic ≡ (get_or ls j blank).basic → i ≡ j

abbrev pub Dens : List Line → Type 0
Dens ls = (i : ℕ) → i < length ls → pos 0 <ℤ den (get_or ls i blank)

pub solved_dens : (ls : List Line) → Solved ls → Dens ls
solved_dens ls s i h = omega (arith, ints, s.own i h)

pub solved_apart : (ls : List Line) → Solved ls → Apart ls
solved_apart ls s i j h k e =
    ⊎_elim (λ (y : i ≡ j). y)
    (λ (n : i ≡ j → ⊥). let a = subst (λ q. get_or (get_or ls i blank).nums q (pos 0) <ℤ pos 0) e (s.own i h) in let b = s.other i j h k n in absurd (omega (arith, ints)))
    (cases_eq i j)

rest_apart : (l : Line) (ls : List Line) → Apart (l ∷ ls) → Apart ls
rest_apart l ls a i j h k e = let z = a (suc i) (suc j) (omega arith) (omega arith) e in omega arith

rest_dens : (l : Line) (ls : List Line) → Dens (l ∷ ls) → Dens ls
rest_dens l ls a i h = a (suc i) (omega arith)

rest_nonbasic : (l : Line) (ls : List Line) (q : ℕ) → Nonbasic (l ∷ ls) q → Nonbasic ls q
rest_nonbasic l ls q a i h e = a (suc i) (omega arith) e

abbrev pub Basic : List Line → ℕ → Type 0
Basic ls q = (i : ℕ) × (i < length ls) × ((get_or ls i blank).basic ≡ q)

-- a quantity is basic or it is not
pub cases_basic : (ls : List Line) (q : ℕ) → Basic ls q ⊎ Nonbasic ls q
cases_basic [] q = inr (λ i h e. absurd (not-suc-le-zero h))
cases_basic (l ∷ ls) q =
    ⊎_elim (λ (e : l.basic ≡ q). inl (0, omega arith, e))
    (λ (n : l.basic ≡ q → ⊥).
    ⊎_elim (λ (r : Basic ls q). let k = r.1 in inl (suc r.0, omega arith, r.2)) (λ (r : Nonbasic ls q). inr (neither n r)) (cases_basic ls q))
    (cases_eq l.basic q)
  where
    neither : (l.basic ≡ q → ⊥) → Nonbasic ls q → Nonbasic (l ∷ ls) q
    neither n r zero h e = n e
    neither n r (suc i) h e = r i (le_of_suc-le-suc h) e

-- ---- the common denominator, and the numerators

abbrev pub common : List Line → ℤ
common [] = pos 1
common (l ∷ ls) = den l *ℤ common ls

abbrev pub filled : List Line → List ℤ → List ℤ
filled [] z = z
filled (l ∷ ls) z = set (scale (den l) (filled ls z)) l.basic (common ls *ℤ dot l.nums z)

pub common_positive : (ls : List Line) → Dens ls → pos 0 <ℤ common ls
common_positive [] a = omega (arith, ints)
common_positive (l ∷ ls) a = mul_positive (den l) (common ls) (a 0 (omega arith)) (common_positive ls (rest_dens l ls a))

pub at_scale : (k : ℤ) (a : List ℤ) (j : ℕ) → get_or (scale k a) j (pos 0) ≡ k *ℤ get_or a j (pos 0)
at_scale k [] j = sym (*ℤ-zero k)
at_scale k (a ∷ av) zero = refl
at_scale k (a ∷ av) (suc j) = at_scale k av j

pub length_filled : (ls : List Line) (z : List ℤ) → length (filled ls z) ≡ length z
length_filled [] z = refl
length_filled (l ∷ ls) z = length-set (scale (den l) (filled ls z)) l.basic _ ∙ length_scale (den l) (filled ls z) ∙ length_filled ls z

pub filled_other : (ls : List Line) (z : List ℤ) (q : ℕ) → Nonbasic ls q → get_or (filled ls z) q (pos 0) ≡ common ls *ℤ get_or z q (pos 0)
filled_other [] z q n = omega (arith, ints)
filled_other (l ∷ ls) z q n =
    get_or-set_other (scale (den l) (filled ls z)) l.basic q _ (pos 0) (λ e. n 0 (omega arith) (sym e)) ∙ at_scale (den l) (filled ls z) q
    ∙ ap (λ v. den l *ℤ v) (filled_other ls z q (rest_nonbasic l ls q n)) ∙ sym (mul_assoc (den l) (common ls) (get_or z q (pos 0)))

in_numbers : (d v e s t : ℤ) → v *ℤ e ≡ s *ℤ t → (d *ℤ v) *ℤ e ≡ (d *ℤ s) *ℤ t
in_numbers d v e s t h = mul_assoc d v e ∙ ap (λ w. d *ℤ w) h ∙ sym (mul_assoc d s t)

pub filled_own : (ls : List Line) (z : List ℤ) → Apart ls → (i : ℕ) → i < length ls → (get_or ls i blank).basic < length z
    → get_or (filled ls z) (get_or ls i blank).basic (pos 0) *ℤ den (get_or ls i blank) ≡ common ls *ℤ dot (get_or ls i blank).nums z
filled_own [] z a i h k = absurd (not-suc-le-zero h)
filled_own (l ∷ ls) z a zero h k =
    ap (λ v. v *ℤ den l) (get_or-set_same (scale (den l) (filled ls z)) l.basic (common ls *ℤ dot l.nums z) (pos 0) (subst (λ n. l.basic < n) (sym (length_scale (den l) (filled ls z) ∙ length_filled ls z)) k))
    ∙ *ℤ_comm (common ls *ℤ dot l.nums z) (den l) ∙ sym (mul_assoc (den l) (common ls) (dot l.nums z))
filled_own (l ∷ ls) z a (suc i) h k =
    let g = get_or ls i blank in
    let n : g.basic ≡ l.basic → ⊥ = λ e. let z = a (suc i) 0 h (omega arith) e in omega arith in
    ap (λ v. v *ℤ den g) (get_or-set_other (scale (den l) (filled ls z)) l.basic g.basic _ (pos 0) n ∙ at_scale (den l) (filled ls z) g.basic)
    ∙ in_numbers (den l) (get_or (filled ls z) g.basic (pos 0)) (den g) (common ls) (dot g.nums z) (filled_own ls z (rest_apart l ls a) i (le_of_suc-le-suc h) k)

-- ---- the lines hold

dot_alike : (c x y : List ℤ) → ((j : ℕ) → get_or c j (pos 0) *ℤ get_or x j (pos 0) ≡ get_or c j (pos 0) *ℤ get_or y j (pos 0)) → dot c x ≡ dot c y
dot_alike [] x y h = refl
dot_alike (c ∷ cs) x y h =
    omega (arith, lin, dot_cons c cs x, dot_cons c cs y, h 0, dot_alike cs (drop 1 x) (drop 1 y) (λ j. rw (get_or_drop_one x j (pos 0), get_or_drop_one y j (pos 0)) (h (suc j))))

own_numbers : (a s b x d t : ℤ) → s +ℤ b *ℤ x ≡ a +ℤ b *ℤ pos 0 → s ≡ d *ℤ t → x *ℤ neg_ℤ b ≡ d *ℤ t → a ≡ pos 0
own_numbers a s b x d t h e k = let f = simp out at k in omega (arith, lin, *ℤ-zero b)

agreeing : (ls : List Line) (z : List ℤ) → Solved ls → ((i : ℕ) → i < length ls → (get_or ls i blank).basic < length z)
    → ((i : ℕ) → i < length ls → get_or z (get_or ls i blank).basic (pos 0) ≡ pos 0) → (i : ℕ) → i < length ls → (j : ℕ)
    → get_or (get_or ls i blank).nums j (pos 0) *ℤ get_or (set (filled ls z) (get_or ls i blank).basic (pos 0)) j (pos 0) ≡ get_or (get_or ls i blank).nums j (pos 0) *ℤ get_or (scale (common ls) z) j (pos 0)
agreeing ls z s inside zeros i h j =
    let l = get_or ls i blank in
    let X = filled ls z in
    let k = subst (λ n. l.basic < n) (sym (length_filled ls z)) (inside i h) in
    ⊎_elim
    (λ (e : j ≡ l.basic).
    ap (λ v. get_or l.nums j (pos 0) *ℤ v)
    (ap (λ q. get_or (set X l.basic (pos 0)) q (pos 0)) e ∙ get_or-set_same X l.basic (pos 0) (pos 0) k
    ∙ sym (at_scale (common ls) z j ∙ ap (λ q. common ls *ℤ get_or z q (pos 0)) e ∙ ap (λ v. common ls *ℤ v) (zeros i h) ∙ *ℤ-zero (common ls))))
    (λ (n : j ≡ l.basic → ⊥).
    ⊎_elim
    (λ (r : Basic ls j).
    let apart : i ≡ r.0 → ⊥ = λ e. n (sym r.2 ∙ ap (λ i. (get_or ls i blank).basic) (sym e)) in
    let c : get_or l.nums j (pos 0) ≡ pos 0 = subst (λ q. get_or l.nums q (pos 0) ≡ pos 0) r.2 (s.other i r.0 h r.1 apart) in
    ap (λ v. v *ℤ get_or (set X l.basic (pos 0)) j (pos 0)) c ∙ zero-*ℤ (get_or (set X l.basic (pos 0)) j (pos 0))
    ∙ sym (ap (λ v. v *ℤ get_or (scale (common ls) z) j (pos 0)) c ∙ zero-*ℤ (get_or (scale (common ls) z) j (pos 0))))
    (λ (r : Nonbasic ls j). ap (λ v. get_or l.nums j (pos 0) *ℤ v) (get_or-set_other X l.basic j (pos 0) (pos 0) n ∙ filled_other ls z j r ∙ sym (at_scale (common ls) z j)))
    (cases_basic ls j))
    (cases_eq j l.basic)

pub filled_holds : (ls : List Line) (z : List ℤ) → Solved ls → ((i : ℕ) → i < length ls → (get_or ls i blank).basic < length z)
    → ((i : ℕ) → i < length ls → get_or z (get_or ls i blank).basic (pos 0) ≡ pos 0) → Hold ls (filled ls z)
filled_holds ls z s inside zeros =
    hold_from ls (filled ls z)
    (λ i h. let l = get_or ls i blank in
    let X = filled ls z in
    own_numbers (dot l.nums X) (dot l.nums (set X l.basic (pos 0))) (get_or l.nums l.basic (pos 0)) (get_or X l.basic (pos 0)) (common ls) (dot l.nums z)
    (dot_set l.nums X l.basic (pos 0) (subst (λ n. l.basic < n) (sym (length_filled ls z)) (inside i h)))
    (dot_alike l.nums (set X l.basic (pos 0)) (scale (common ls) z) (agreeing ls z s inside zeros i h) ∙ dot_times (common ls) l.nums z)
    (filled_own ls z (solved_apart ls s) i h (inside i h)))

-- ---- the value of a quantity

pub value_basic : (values : List ℤ) (ls : List Line) → Apart ls → (i : ℕ) → i < length ls
    → value (get_or ls i blank).basic values ls ≡ record { num = dot (get_or ls i blank).nums values; den = den (get_or ls i blank) }
value_basic values [] a i h = absurd (not-suc-le-zero h)
value_basic values (l ∷ ls) a zero h = cond-true (eqb l.basic l.basic) _ _ (eq-eqb l.basic l.basic refl)
value_basic values (l ∷ ls) a (suc i) h =
    cond-false (eqb l.basic (get_or ls i blank).basic) _ _ (ne_eqb _ _ (λ e. let z = a 0 (suc i) (omega arith) h e in omega arith)) ∙ value_basic values ls (rest_apart l ls a) i (le_of_suc-le-suc h)

pub value_nonbasic : (values : List ℤ) (ls : List Line) (q : ℕ) → Nonbasic ls q → value q values ls ≡ record { num = get_or values q (pos 0); den = pos 1 }
value_nonbasic values [] q n = refl
value_nonbasic values (l ∷ ls) q n = cond-false (eqb l.basic q) _ _ (ne_eqb _ _ (λ e. n 0 (omega arith) e)) ∙ value_nonbasic values ls q (rest_nonbasic l ls q n)
