-- The map of the multipliers that are not 0: its size.
use Rattle.std.proofs.Common.{◌≡◌, suc, ◌+◌, ◌*◌, ◌^◌, ◌<◌, ◌≤◌, true, false, List, [], ◌∷◌, length, ℤ, pos, negsuc, refl, pow-suc, arith, lit<, pow_mono, w64, SFits, of_z}
use borrow.Author.Differences.{ints}
use Rattle.problems.specs.Whole.{is_zero}
use Rattle.std.proofs.lemmas.Bool.Decides.{nat_tests}
use Rattle.search.specs.Bytes.{map_of}
use Rattle.std.proofs.lemmas.Bool.{cond_both, eq-eqb}

-- ---- its size

map_below : (ms : List ℤ) → map_of ms < 2 ^ length ms
map_below [] = lit< tt
map_below (y ∷ ms) =
    let h = map_below ms in
    let e = pow-suc 2 (length ms) in
    cond_both (is_zero y) 0 1 (λ n. n + 2 * map_of ms < 2 ^ suc (length ms)) (λ _. omega arith) (λ _. omega arith)

pub map_small : (ms : List ℤ) → length ms ≤ 24 → map_of ms < 16777216
map_small ms h = let p : 2 ^ length ms ≤ 2 ^ 24 = pow_mono h in let l = map_below ms in omega arith

-- ---- a test for 0

pub stands : (y : ℤ) → (of_z w64 y ≡ 0 → ⊥) → is_zero y ≡ false
stands (pos n) h = grind (arith, nat_tests)
stands (negsuc n) h = refl

pub missing : (y : ℤ) → SFits w64 y → of_z w64 y ≡ 0 → is_zero y ≡ true
missing (pos n) f h = eq-eqb n 0 h
missing (negsuc n) f h = absurd (omega (arith, ints))
