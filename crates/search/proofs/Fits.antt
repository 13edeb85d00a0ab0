-- What a search writes fits: at most 100 bytes and one open split for each box.
use Rattle.std.proofs.Common.{◌≡◌, ℕ, suc, ◌*◌, ◌≤◌, true, eqb, List, [], ◌∷◌, ◌++◌, length, ℤ, arith, length-append}
use Rattle.problems.specs.Whole.{is_zero, all_within}
use Rattle.problems.specs.Box.{Box, Proper}
use Rattle.testers.specs.Leaf.{Leaf, formed}
use Rattle.testers.specs.Leaf.Leaf.{sum, divisor}
use Rattle.search.specs.Bytes.{four_bytes, multipliers, leaf_bytes}
use Rattle.std.proofs.lemmas.Bool.{and_parts, cond_both, eqb-true}

four_each : (ms : List ℤ) → length (multipliers ms) ≤ 4 * length ms
four_each [] = omega arith
four_each (y ∷ ms) =
    cond_both (is_zero y) (multipliers ms) (four_bytes y ++ multipliers ms) (λ (bs : List ℕ). length bs ≤ 4 * suc (length ms)) (λ _. omega (arith, four_each ms)) (λ _. omega (arith, four_each ms))

-- a leaf of a proper problem
pub leaf_short : (rows : List (List ℤ)) (box : Box) (l : Leaf) → Proper rows box → formed rows box l ≡ true → length (leaf_bytes l) ≤ 100
leaf_short rows box (sum ys zs) p h =
    let a = and_parts _ (all_within 1000000000 zs) h in
    let b = and_parts _ (all_within 1000000000 ys) a.0 in
    let c = and_parts (eqb (length ys) (length box.vars)) (eqb (length zs) (length rows)) b.0 in
    let y = eqb-true _ _ c.0 in
    let z = eqb-true _ _ c.1 in
    let f = p.few_variables in
    let g = p.few_rows in
    let n = length-append ys zs in
    let m = four_each (ys ++ zs) in
    omega arith
leaf_short rows box (divisor i g) p h = omega arith
