-- The tables at the start, as the code fills them, one place at a time.
use Rattle.std.proofs.Common.{◌≡◌, ℕ, zero, suc, ◌+◌, ◌-◌, ◌<◌, ◌≤◌, true, List, [], ◌∷◌, ◌++◌, map, length, get_or, take, drop, set, replicate, ℤ, pos, negsuc, nat_abs, sym, refl, ap, ◌∙◌, subst, le_of_suc-le-suc, not-suc-le-zero, add-one, arith}
use Rattle.std.proofs.lemmas.List.{length-map, length-take-le, set_at, take_more, take_more_set, append_assoc, append-nil, map-append, set-append_right, take_all, drop_more, drop_all, length-append, length-set, length-replicate}
use Rattle.problems.specs.Whole.{all_within}
use Rattle.testers.specs.Halving.{single}
use Rattle.tableau.specs.declared.line.Line.{Line}
use Rattle.tableau.specs.Lines.{start_line, start_lines}
use Rattle.pivot.specs.Shapes.{seen, LineOk, LinesOk}
use Rattle.std.proofs.lemmas.Bool.{and_from, and_parts, le-leb, leb-true}

zeros : (m c : ℕ) → m ≤ c → take m (replicate c (pos 0)) ≡ single m zero (pos 0)
zeros zero c h = refl
zeros (suc m) zero h = absurd (not-suc-le-zero h)
zeros (suc m) (suc c) h = ap (λ (x : List ℤ). pos 0 ∷ x) (zeros m c (le_of_suc-le-suc h))

one_set : (m c i : ℕ) (z : ℤ) → i < m → m ≤ c → take m (set (replicate c (pos 0)) i z) ≡ single m i z
one_set zero c i z h l = absurd (not-suc-le-zero h)
one_set (suc m) zero i z h l = absurd (not-suc-le-zero l)
one_set (suc m) (suc c) zero z h l = ap (λ (x : List ℤ). z ∷ x) (zeros m c (le_of_suc-le-suc l))
one_set (suc m) (suc c) (suc i) z h l = ap (λ (x : List ℤ). pos 0 ∷ x) (one_set m c i z (le_of_suc-le-suc h) (le_of_suc-le-suc l))

pub take_past : (r s : List ℤ) (n m : ℕ) → length r ≡ n → take (n + m) (r ++ s) ≡ r ++ take m s
take_past r s n m e = ap (λ i. take (i + m) (r ++ s)) (sym e) ∙ past r s m
  where
    past : (r s : List ℤ) (m : ℕ) → take (length r + m) (r ++ s) ≡ r ++ take m s
    past [] s m = let e : 0 + m ≡ m = omega arith in ap (λ i. take i s) e
    past (a ∷ r) s m =
        let e : suc (length r) + m ≡ suc (length r + m) = omega arith in
        ap (λ i. take i (a ∷ (r ++ s))) e ∙ ap (λ (x : List ℤ). a ∷ x) (past r s m)

-- the numbers that the code ends with
pub begun : (r : List ℤ) (m i : ℕ) (z : ℤ) → length r + m ≤ 24 → i < m
    → take (length r + m) (set (r ++ replicate (24 - length r) (pos 0)) (length r + i) z) ≡ r ++ single m i z
begun r m i z s h =
    let n = length r in
    let d : (n + i) - n ≡ i = omega arith in
    let g : n ≤ n + i = omega arith in
    ap (λ (x : List ℤ). take (n + m) x) (set-append_right r (replicate (24 - n) (pos 0)) n (n + i) z refl g)
    ∙ take_past r (set (replicate (24 - n) (pos 0)) ((n + i) - n) z) n m refl
    ∙ ap (λ q. r ++ take m (set (replicate (24 - n) (pos 0)) q z)) d
    ∙ ap (λ (x : List ℤ). r ++ x) (one_set m (24 - n) i z h (omega arith))

pub within_append : (n : ℕ) (a b : List ℤ) → all_within n a ≡ true → all_within n b ≡ true → all_within n (a ++ b) ≡ true
within_append n [] b p q = q
within_append n (x ∷ a) b p q = let e = and_parts _ _ p in and_from _ _ e.0 (within_append n a b e.1 q)

within_single : (n m i : ℕ) (z : ℤ) → nat_abs z ≤ n → all_within n (single m i z) ≡ true
within_single n zero i z h = refl
within_single n (suc m) zero z h = and_from _ _ (le-leb _ _ h) (within_single n m zero (pos 0) (omega arith))
within_single n (suc m) (suc i) z h = and_from _ _ (le-leb _ _ (omega arith)) (within_single n m i z h)

pub start_small : (r : List ℤ) (m i : ℕ) → all_within 1000000000 r ≡ true → all_within 1000000000 (r ++ single m i (negsuc 0)) ≡ true
start_small r m i w = within_append 1000000000 r (single m i (negsuc 0)) w (within_single 1000000000 m i (negsuc 0) (omega arith))

pub begun_long : (r : List ℤ) (q : ℕ) (z : ℤ) → length r ≤ 24 → length (set (r ++ replicate (24 - length r) (pos 0)) q z) ≡ 24
begun_long r q z s =
    length-set (r ++ replicate (24 - length r) (pos 0)) q z ∙ length-append r (replicate (24 - length r) (pos 0))
    ∙ omega (arith, length-replicate (24 - length r) (pos 0))

-- ---- all lines

pub start_next : (k m : ℕ) (rows : List (List ℤ)) (ls : List Line) (i : ℕ) (new : Line) → i < length ls → i < length rows
    → seen k new ≡ start_line m i (get_or rows i [])
    → map (seen k) (take (i + 1) (set ls i new)) ++ start_lines m (i + 1) (drop (i + 1) rows) ≡ map (seen k) (take i ls) ++ start_lines m i (drop i rows)
start_next k m rows ls i new h g e =
    let f : Line → Line = seen k in
    let rest = drop (i + 1) rows in
    ap (λ (x : List Line). map f x ++ start_lines m (i + 1) rest) (take_more_set ls i new h)
    ∙ ap (λ (x : List Line). x ++ start_lines m (i + 1) rest) (map-append f (take i ls) (new ∷ []))
    ∙ append_assoc (map f (take i ls)) (f new ∷ []) (start_lines m (i + 1) rest)
    ∙ ap (λ (x : Line). map f (take i ls) ++ (x ∷ start_lines m (i + 1) rest)) e
    ∙ ap (λ (j : ℕ). map f (take i ls) ++ (start_line m i (get_or rows i []) ∷ start_lines m j rest)) (add-one i)
    ∙ sym (ap (λ (x : List (List ℤ)). map f (take i ls) ++ start_lines m i x) (drop_more rows i [] g))

pub start_end : (k m : ℕ) (rows : List (List ℤ)) (ls : List Line) (i : ℕ) → length rows ≤ i → i ≤ length rows
    → map (seen k) (take i ls) ++ start_lines m i (drop i rows) ≡ map (seen k) (take (length rows) ls)
start_end k m rows ls i h g =
    let e : i ≡ length rows = omega arith in
    ap (λ (x : List (List ℤ)). map (seen k) (take i ls) ++ start_lines m i x) (drop_all i rows h) ∙ append-nil (map (seen k) (take i ls))
    ∙ ap (λ (j : ℕ). map (seen k) (take j ls)) e

ok_more : (k : ℕ) (ls : List Line) (l : Line) → LinesOk k ls → LineOk k l → LinesOk k (ls ++ (l ∷ []))
ok_more k [] l o h = (h, tt)
ok_more k (x ∷ ls) l o h = (o.0, ok_more k ls l o.1 h)

pub start_ok : (k : ℕ) (ls : List Line) (i : ℕ) (new : Line) → i < length ls → LinesOk k (take i ls) → LineOk k new → LinesOk k (take (i + 1) (set ls i new))
start_ok k ls i new h o l = subst (LinesOk k) (sym (take_more_set ls i new h)) (ok_more k (take i ls) new o l)

-- ---- a table that begins with what h makes of each element of a list

pub table_next : {S X : Type 0} (h : S → X) (d : X) (n : ℕ) (xs : List S) (i : ℕ) (v : X) (past : S) → i < length xs → length xs ≤ n → v ≡ h (get_or xs i past)
    → set (map h (take i xs) ++ replicate (n - i) d) i v ≡ map h (take (i + 1) xs) ++ replicate (n - (i + 1)) d
table_next {S} {X} h d n xs i v past l s e =
    let rest = replicate (n - (i + 1)) d in
    let front = map h (take i xs) in
    let m : n - i ≡ suc (n - (i + 1)) = omega arith in
    let more = ap (map h) (take_more xs i past l) ∙ map-append h (take i xs) (get_or xs i past ∷ []) in
    ap (λ j. set (front ++ replicate j d) i v) m
    ∙ set_at front d rest v i (length-map (take i xs) h ∙ length-take-le i xs (omega arith))
    ∙ ap (λ (x : X). front ++ (x ∷ rest)) e
    ∙ sym (append_assoc front (h (get_or xs i past) ∷ []) rest)
    ∙ ap (λ (x : List X). x ++ rest) (sym more)

pub table_end : {S X : Type 0} (h : S → X) (d : X) (n : ℕ) (xs : List S) (i : ℕ) → length xs ≤ i → i ≤ length xs
    → map h (take i xs) ++ replicate (n - i) d ≡ map h xs ++ replicate (n - length xs) d
table_end {S} h d n xs i l k =
    let e : i ≡ length xs = omega arith in
    ap (λ (x : List S). map h x ++ replicate (n - i) d) (take_all i xs l) ∙ ap (λ j. map h xs ++ replicate (n - j) d) e

pub within_more : (r : List ℤ) → all_within 100 r ≡ true → all_within 1000000000 r ≡ true
within_more [] h = refl
within_more (a ∷ r) h = let w = and_parts _ _ h in and_from _ _ (le-leb _ _ (omega (arith, leb-true _ _ w.0))) (within_more r w.1)
