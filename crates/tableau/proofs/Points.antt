-- A line at a point: its sum by parts, and the lines of the rows at x with what the rows come to.
use Rattle.std.proofs.Common.{◌≡◌, ℕ, zero, suc, ◌+◌, ◌<◌, ◌≤◌, List, [], ◌∷◌, ◌++◌, length, get_or, drop, set, ℤ, pos, negsuc, ◌+ℤ◌, ◌-ℤ◌, ◌*ℤ◌, sym, refl, ap, ◌∙◌, subst, le_of_suc-le-suc, not-suc-le-zero, arith}
use lib.IntN.{*ℤ-zero}
use borrow.Author.Differences.{ints}
use Rattle.problems.specs.Rows.{dot, scale, values}
use Rattle.problems.proofs.Propers.{RowLists}
use Rattle.testers.specs.Halving.{single}
use Rattle.testers.specs.Ring.{out, lin}
use Rattle.testers.specs.Dots.{dot_cons}
use Rattle.testers.specs.Halves.{dot_single}
use Rattle.tableau.specs.declared.line.Line.{Line}
use Rattle.tableau.specs.Lines.{blank, start_line, start_lines}
use Rattle.tableau.specs.Sound.{Hold}

pub dot_append : (a b x y : List ℤ) → length a ≡ length x → dot (a ++ b) (x ++ y) ≡ dot a x +ℤ dot b y
dot_append [] b [] y h = omega (arith, ints)
dot_append [] b (x ∷ xs) y h = absurd (omega arith)
dot_append (a ∷ av) b [] y h = absurd (omega arith)
dot_append (a ∷ av) b (x ∷ xs) y h = omega (arith, lin, dot_append av b xs y (omega arith))

-- one entry replaced
pub dot_set : (a x : List ℤ) (b : ℕ) (z : ℤ) → b < length x → dot a (set x b z) +ℤ get_or a b (pos 0) *ℤ get_or x b (pos 0) ≡ dot a x +ℤ get_or a b (pos 0) *ℤ z
dot_set a [] b z h = absurd (not-suc-le-zero h)
dot_set [] (x ∷ xs) zero z h = omega (arith, ints)
dot_set [] (x ∷ xs) (suc b) z h = omega (arith, ints)
dot_set (a ∷ av) (x ∷ xs) zero z h = omega (arith, lin)
dot_set (a ∷ av) (x ∷ xs) (suc b) z h = omega (arith, lin, dot_set av xs b z (le_of_suc-le-suc h))

-- the point times k
pub dot_times : (k : ℤ) (a x : List ℤ) → dot a (scale k x) ≡ k *ℤ dot a x
dot_times k [] x = sym (*ℤ-zero k)
dot_times k (a ∷ av) [] = sym (*ℤ-zero k)
dot_times k (a ∷ av) (x ∷ xs) = simp out (omega (arith, ints, dot_times k av xs))

-- ---- n entries of a point

pub pad : ℕ → List ℤ → List ℤ
pad zero x = []
pad (suc n) x = get_or x 0 (pos 0) ∷ pad n (drop 1 x)

pub length_pad : (n : ℕ) (x : List ℤ) → length (pad n x) ≡ n
unfolding pad
length_pad zero x = refl
length_pad (suc n) x = ap suc (length_pad n (drop 1 x))

pub dot_pad : (n : ℕ) (a x : List ℤ) → length a ≤ n → dot a (pad n x) ≡ dot a x
unfolding pad
dot_pad n [] x h = refl
dot_pad zero (a ∷ av) x h = absurd (omega arith)
dot_pad (suc n) (a ∷ av) x h = omega (arith, lin, dot_cons a av x, dot_pad n av (drop 1 x) (le_of_suc-le-suc h))

pub values_pad : (n : ℕ) (rows : List (List ℤ)) (x : List ℤ) → RowLists n rows → values rows (pad n x) ≡ values rows x
values_pad n [] x h = refl
values_pad n (r ∷ rs) x h =
    let k = h.0 in
    ap (λ z. z ∷ values rs (pad n x)) (dot_pad n r x (omega arith)) ∙ ap (λ t. dot r x ∷ t) (values_pad n rs x h.2)

-- ---- the lines of the rows

pub start_dot : (m i : ℕ) (r x y : List ℤ) → length r ≡ length x → i < m → dot (start_line m i r).nums (x ++ y) ≡ dot r x -ℤ get_or y i (pos 0)
start_dot m i r x y h k = omega (arith, ints, dot_append r (single m i (negsuc 0)) x y h, dot_single m i (negsuc 0) y k)

-- with the rows from i on
pub start_holds : (n m i : ℕ) (rows : List (List ℤ)) (x y : List ℤ) → RowLists n rows → length x ≡ n → i + length rows ≤ m
    → ((j : ℕ) → j < length rows → get_or y (i + j) (pos 0) ≡ dot (get_or rows j []) x) → Hold (start_lines m i rows) (x ++ y)
start_holds n m i [] x y l w h f = tt
start_holds n m i (r ∷ rs) x y l w h f =
    let z : i + 0 ≡ i = omega arith in
    let e = subst (λ k. get_or y k (pos 0) ≡ dot r x) z (f 0 (omega arith)) in
    let a = l.0 in (
      omega (arith, lin, start_dot m i r x y (omega arith) (omega arith)),
      start_holds n m (suc i) rs x y l.2 w (omega arith) (λ j k. let s : i + suc j ≡ suc i + j = omega arith in subst (λ q. get_or y q (pos 0) ≡ dot (get_or rs j []) x) s (f (suc j) (omega arith))),
    )

pub start_rows : (n m i : ℕ) (rows : List (List ℤ)) (x y : List ℤ) → RowLists n rows → length x ≡ n → i + length rows ≤ m
    → Hold (start_lines m i rows) (x ++ y) → (j : ℕ) → j < length rows → get_or y (i + j) (pos 0) ≡ dot (get_or rows j []) x
start_rows n m i [] x y l w h f j k = absurd (not-suc-le-zero k)
start_rows n m i (r ∷ rs) x y l w h f zero k =
    let z : i ≡ i + 0 = omega arith in
    let a = l.0 in
    let e : get_or y i (pos 0) ≡ dot r x = omega (arith, lin, start_dot m i r x y (omega arith) (omega arith), f.0) in
    subst (λ q. get_or y q (pos 0) ≡ dot r x) z e
start_rows n m i (r ∷ rs) x y l w h f (suc j) k =
    let s : suc i + j ≡ i + suc j = omega arith in
    subst (λ q. get_or y q (pos 0) ≡ dot (get_or rs j []) x) s (start_rows n m (suc i) rs x y l.2 w (omega arith) f.1 j (le_of_suc-le-suc k))

-- ---- the line at a place

pub hold_at : (ls : List Line) (z : List ℤ) → Hold ls z → (i : ℕ) → i < length ls → dot (get_or ls i blank).nums z ≡ pos 0
hold_at [] z h i k = absurd (not-suc-le-zero k)
hold_at (l ∷ ls) z h zero k = h.0
hold_at (l ∷ ls) z h (suc i) k = hold_at ls z h.1 i (le_of_suc-le-suc k)

pub hold_from : (ls : List Line) (z : List ℤ) → ((i : ℕ) → i < length ls → dot (get_or ls i blank).nums z ≡ pos 0) → Hold ls z
hold_from [] z h = tt
hold_from (l ∷ ls) z h = (h 0 (omega arith), hold_from ls z (λ i k. h (suc i) (omega arith)))
