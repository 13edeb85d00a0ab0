-- Greatest common divisors in any order.
use Rattle.std.proofs.Common.{◌≡◌, ℕ, zero, suc, ◌+◌, ◌<◌, ◌≤◌, List, length, get_or, drop, ℤ, pos, nat_abs, cond, ap, ◌∙◌, arith}
use Rattle.problems.specs.declared.quantity.Span.{Span}
use Rattle.problems.specs.Box.{nowhere}
use Rattle.testers.specs.Gcd.{gcd, Divides}
use Rattle.testers.specs.Leaf.{fixed}
use Rattle.testers.proofs.Gcds.{gcd_is_greatest, divides_through}
use Rattle.layers.specs.Divisor.{free_gcd}
use Rattle.layers.specs.Frees.{free_next, free_end}

divides_small : (a b : ℕ) → 0 < b → Divides a b → a ≤ b
divides_small a b h (zero, e) = absurd (omega arith)
divides_small a b h (suc k, e) = omega (arith, e)

divides_both : (a b : ℕ) → Divides a b → Divides b a → a ≡ b
divides_both zero b p q = let e = p.1 in omega arith
divides_both (suc a) zero p q = let e = q.1 in absurd (omega arith)
divides_both (suc a) (suc b) p q = let h = divides_small (suc a) (suc b) (omega arith) p in let k = divides_small (suc b) (suc a) (omega arith) q in omega arith

-- the number that is taken in may change its place
pub taken_in : (a g d : ℕ) → gcd (gcd a g) d ≡ gcd g (gcd a d)
taken_in a g d =
    let ag = gcd_is_greatest a g in
    let ad = gcd_is_greatest a d in
    let x = gcd_is_greatest (gcd a g) d in
    let y = gcd_is_greatest g (gcd a d) in
    let here : Divides (gcd (gcd a g) d) (gcd g (gcd a d)) =
    y.greatest _ (divides_through _ _ _ x.first ag.second) (ad.greatest _ (divides_through _ _ _ x.first ag.first) x.second) in
    let there : Divides (gcd g (gcd a d)) (gcd (gcd a g) d) =
    x.greatest _ (ag.greatest _ (divides_through _ _ _ y.second ad.first) y.first) (divides_through _ _ _ y.second ad.second) in
    divides_both _ _ here there

-- the divisor so far and that of the rest
pub free_more : (r : List ℤ) (ss : List Span) (i : ℕ) (a : ℤ) (s : Span) (g : ℕ) → i < length r → i < length ss → a ≡ get_or r i (pos 0) → s ≡ get_or ss i nowhere
    → gcd g (free_gcd (drop i r) (drop i ss)) ≡ free_gcd r ss → gcd (gcd (cond (fixed s) 0 (nat_abs a)) g) (free_gcd (drop (i + 1) r) (drop (i + 1) ss)) ≡ free_gcd r ss
free_more r ss i a s g h k e f t =
    let size = cond (fixed s) 0 (nat_abs a) in
    let rest = free_gcd (drop (i + 1) r) (drop (i + 1) ss) in
    let next : gcd size rest ≡ free_gcd (drop i r) (drop i ss) =
    ap (λ (z : ℤ). gcd (cond (fixed s) 0 (nat_abs z)) rest) e ∙ ap (λ (x : Span). gcd (cond (fixed x) 0 (nat_abs (get_or r i (pos 0)))) rest) f ∙ free_next r ss i h k in
    taken_in size g rest ∙ ap (gcd g) next ∙ t

-- no variable is left
pub free_done : (r : List ℤ) (ss : List Span) (i g : ℕ) → length r ≤ i → gcd g (free_gcd (drop i r) (drop i ss)) ≡ free_gcd r ss → g ≡ free_gcd r ss
free_done r ss i g h e = ap (gcd g) (free_end r ss i h) ∙ e
