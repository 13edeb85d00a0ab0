-- What a loop over rows keeps: what it wrote, and what is left.
use Rattle.std.proofs.Common.{◌≡◌, ℕ, zero, suc, ◌+◌, ◌<◌, ◌≤◌, true, ◌&&◌, leb, List, [], ◌∷◌, ◌++◌, length, get_or, take, drop, set, ℤ, pos, negsuc, ◌+ℤ◌, ◌*ℤ◌, nat_abs, refl, ap, ◌∙◌, subst, add-one, arith}
use borrow.Author.Differences.{ints}
use Rattle.std.proofs.lemmas.List.{take_more_set, append_assoc, append-nil, drop_more, take_all, drop-set-lt}
use Rattle.std.specs.Int.{int_div_euclid}
use Rattle.problems.specs.Rows.{dot, add, scale}
use Rattle.problems.specs.Whole.{all_within}
use Rattle.testers.proofs.Products.{product_small}
use Rattle.tableau.specs.Lines.{divide_all}
use Rattle.std.proofs.lemmas.Bool.{and_from, and_parts, le-leb, leb-true}

pub wrote : (row : List ℤ) (i : ℕ) (v : ℤ) (rest : List ℤ) → i < length row → take (i + 1) (set row i v) ++ rest ≡ take i row ++ (v ∷ rest)
wrote row i v rest h = rw (take_more_set row i v h) (append_assoc (take i row) (v ∷ []) rest)

pub done : (row rest : List ℤ) (i : ℕ) → length row ≤ i → rest ≡ [] → take i row ++ rest ≡ row
done row rest i h e = rw (e, take_all i row h) (append-nil row)

pub divide_next : (g : ℤ) (row : List ℤ) (i : ℕ) → i < length row
    → take (i + 1) (set row i (int_div_euclid (get_or row i (pos 0)) g)) ++ divide_all g (drop (i + 1) (set row i (int_div_euclid (get_or row i (pos 0)) g)))
    ≡ take i row ++ divide_all g (drop i row)
divide_next g row i h =
    let l : i < i + 1 = omega arith in
    rw (drop-set-lt (i + 1) row i (int_div_euclid (get_or row i (pos 0)) g) l, drop_more row i (pos 0) h)
    (wrote row i (int_div_euclid (get_or row i (pos 0)) g) (divide_all g (drop (i + 1) row)) h)

pub mix_next : (p c : ℤ) (row t : List ℤ) (i : ℕ) (v : ℤ) → v ≡ p *ℤ get_or row i (pos 0) +ℤ c *ℤ get_or t i (pos 0) → i < length row → i < length t
    → take (i + 1) (set row i v) ++ add (scale p (drop (i + 1) (set row i v))) (scale c (drop (i + 1) t))
    ≡ take i row ++ add (scale p (drop i row)) (scale c (drop i t))
mix_next p c row t i v e h k =
    let l : i < i + 1 = omega arith in
    rw (drop-set-lt (i + 1) row i v l, drop_more row i (pos 0) h, drop_more t i (pos 0) k, ← e)
    (wrote row i v _ h)

pub dot_next : (a x : List ℤ) (i : ℕ) → i < length a → i < length x
    → dot (drop i a) (drop i x) ≡ get_or a i (pos 0) *ℤ get_or x i (pos 0) +ℤ dot (drop (i + 1) a) (drop (i + 1) x)
dot_next a x i h k = rw (drop_more a i (pos 0) h, drop_more x i (pos 0) k)

pub within_at : (n : ℕ) (a : List ℤ) → all_within n a ≡ true → (i : ℕ) → nat_abs (get_or a i (pos 0)) ≤ n
within_at n [] s i = omega arith
within_at n (a ∷ av) s zero = leb-true _ _ (and_parts _ _ s).0
within_at n (a ∷ av) s (suc i) = within_at n av (and_parts _ _ s).1 i

pub abs_add : (a b : ℤ) → nat_abs (a +ℤ b) ≤ nat_abs a + nat_abs b
abs_add a b = omega (arith, ints)

pub within_from : (n : ℕ) (a : List ℤ) (i : ℕ) → all_within n (drop i a) ≡ true → nat_abs (get_or a i (pos 0)) ≤ n
within_from n [] i s = omega arith
within_from n (a ∷ av) zero s = leb-true _ _ (and_parts _ _ s).0
within_from n (a ∷ av) (suc i) s = within_from n av i s

within_suc : (n : ℕ) (a : List ℤ) (i : ℕ) → all_within n (drop i a) ≡ true → all_within n (drop (suc i) a) ≡ true
within_suc n [] i s = refl
within_suc n (a ∷ av) zero s = (and_parts _ _ s).1
within_suc n (a ∷ av) (suc i) s = within_suc n av i s

pub within_next : (n : ℕ) (a : List ℤ) (i : ℕ) → all_within n (drop i a) ≡ true → all_within n (drop (i + 1) a) ≡ true
within_next n a i s = rw add-one (within_suc n a i s)

pub negate_next : (row : List ℤ) (i : ℕ) (v : ℤ) → v ≡ negsuc 0 *ℤ get_or row i (pos 0) → i < length row
    → take (i + 1) (set row i v) ++ scale (negsuc 0) (drop (i + 1) (set row i v)) ≡ take i row ++ scale (negsuc 0) (drop i row)
negate_next row i v e h =
    let l : i < i + 1 = omega arith in
    rw (drop-set-lt (i + 1) row i v l, drop_more row i (pos 0) h, ← e)
    (wrote row i v (scale (negsuc 0) (drop (i + 1) row)) h)

add_nil : (a : List ℤ) → add a [] ≡ a
add_nil [] = refl
add_nil (a ∷ av) = refl

-- sizes of sums of two rows
pub mix_within : (p c : ℤ) (r t : List ℤ) → nat_abs p ≤ 1000000000 → nat_abs c ≤ 1000000000 → all_within 1000000000 r ≡ true → all_within 1000000000 t ≡ true
    → all_within 2000000000000000000 (add (scale p r) (scale c t)) ≡ true
mix_within p c [] [] hp hc hr ht = refl
mix_within p c [] (b ∷ t) hp hc hr ht =
    let n = and_parts _ _ ht in
    and_from _ _ (le-leb _ _ (omega (arith, product_small 1000000000 1000000000 c b hc (leb-true _ _ n.0)))) (mix_within p c [] t hp hc hr n.1)
mix_within p c (a ∷ r) [] hp hc hr ht =
    let n = and_parts _ _ hr in
    and_from _ _ (le-leb _ _ (omega (arith, product_small 1000000000 1000000000 p a hp (leb-true _ _ n.0))))
    (subst (λ z. all_within 2000000000000000000 z ≡ true) (add_nil (scale p r)) (mix_within p c r [] hp hc n.1 ht))
mix_within p c (a ∷ r) (b ∷ t) hp hc hr ht =
    let m = and_parts _ _ hr in
    let n = and_parts _ _ ht in
    let x = product_small 1000000000 1000000000 p a hp (leb-true _ _ m.0) in
    let y = product_small 1000000000 1000000000 c b hc (leb-true _ _ n.0) in
    and_from _ _ (le-leb _ _ (omega (arith, abs_add (p *ℤ a) (c *ℤ b)))) (mix_within p c r t hp hc m.1 n.1)

neg_size : (a : ℤ) → nat_abs (negsuc 0 *ℤ a) ≡ nat_abs a
neg_size a = omega (arith, ints)

pub negate_within : (n : ℕ) (r : List ℤ) → all_within n (scale (negsuc 0) r) ≡ all_within n r
negate_within n [] = refl
negate_within n (a ∷ r) = ap (λ m. leb m n && all_within n (scale (negsuc 0) r)) (neg_size a) ∙ ap (λ b. leb (nat_abs a) n && b) (negate_within n r)
