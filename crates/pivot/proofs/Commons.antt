-- The common divisor of a row, one number at a time, and its size.
use Rattle.std.proofs.Common.{◌≡◌, ℕ, ◌≤◌, true, List, [], ◌∷◌, ℤ, nat_abs, refl}
use Rattle.problems.specs.Whole.{all_within}
use Rattle.testers.specs.Gcd.{gcd}
use Rattle.testers.proofs.Gcds.{gcd_small}
use Rattle.tableau.specs.Lines.{gcd_all}
use Rattle.std.proofs.lemmas.Bool.{and_parts, leb-true}

pub gcd_one : (av : List ℤ) → gcd_all 1 av ≡ 1
gcd_one [] = refl
gcd_one (a ∷ av) = gcd_one av

pub gcd_all_small : (n d : ℕ) (av : List ℤ) → d ≤ n → all_within n av ≡ true → gcd_all d av ≤ n
gcd_all_small n d [] h w = h
gcd_all_small n d (a ∷ av) h w =
    let e = and_parts _ _ w in
    gcd_all_small n (gcd (nat_abs a) d) av (gcd_small n d (nat_abs a) d (leb-true _ _ e.0) h) e.1
