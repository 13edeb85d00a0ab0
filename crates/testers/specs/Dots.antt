-- Products of rows, a missing entry counting as 0.
use Rattle.std.specs.Prelude.{◌≡◌, ℕ, zero, suc, true, List, [], ◌∷◌, get_or, drop, ℤ, pos, ◌+ℤ◌, ◌*ℤ◌, refl}
use Rattle.std.proofs.Common.{sym, arith}
use Rattle.std.proofs.Math.IntN.{*ℤ-zero}
use Rattle.std.proofs.lemmas.Int.{ints}
use Rattle.testers.specs.Ring.{out, lin}
use Rattle.problems.specs.Rows.{dot, add, scale, comb, values}
use Rattle.testers.specs.Leaf.{all_zero}
use Rattle.std.proofs.lemmas.Bool.{and_parts}
use Rattle.problems.proofs.Tests.{zero_is}

pub dot_add : (a b x : List ℤ) → dot (add a b) x ≡ dot a x +ℤ dot b x
dot_add [] b x = omega (arith, ints)
dot_add (a ∷ av) [] x = omega (arith, ints)
dot_add (a ∷ av) (b ∷ bv) [] = refl
dot_add (a ∷ av) (b ∷ bv) (x ∷ xs) = simp out (omega (arith, ints, dot_add av bv xs))

pub dot_scale : (k : ℤ) (a x : List ℤ) → dot (scale k a) x ≡ k *ℤ dot a x
dot_scale k [] x = sym (*ℤ-zero k)
dot_scale k (a ∷ av) [] = sym (*ℤ-zero k)
dot_scale k (a ∷ av) (x ∷ xs) = simp out (omega (arith, ints, dot_scale k av xs))

pub dot_comb : (zs : List ℤ) (rs : List (List ℤ)) (x : List ℤ) → dot (comb zs rs) x ≡ dot zs (values rs x)
dot_comb [] rs x = refl
dot_comb (z ∷ zs) [] x = refl
dot_comb (z ∷ zs) (r ∷ rs) x = omega (arith, ints, dot_add (scale z r) (comb zs rs) x, dot_scale z r x, dot_comb zs rs x)

pub dot_zeros : (a x : List ℤ) → all_zero a ≡ true → dot a x ≡ pos 0
dot_zeros [] x z = refl
dot_zeros (a ∷ av) [] z = refl
dot_zeros (a ∷ av) (x ∷ xs) z =
    let h = and_parts _ _ z in rw (zero_is a h.0) (omega (arith, ints, dot_zeros av xs h.1))

-- all that a lawful sum leaf needs of its multipliers
pub cancels : (ys zs : List ℤ) (rs : List (List ℤ)) → all_zero (add ys (comb zs rs)) ≡ true → (x : List ℤ) → dot ys x +ℤ dot zs (values rs x) ≡ pos 0
cancels ys zs rs z x = omega (arith, lin, dot_zeros (add ys (comb zs rs)) x z, dot_add ys (comb zs rs) x, dot_comb zs rs x)

pub dot_nil : (a : List ℤ) → dot a [] ≡ pos 0
dot_nil [] = refl
dot_nil (a ∷ av) = refl

pub dot_cons : (a : ℤ) (av x : List ℤ) → dot (a ∷ av) x ≡ a *ℤ get_or x 0 (pos 0) +ℤ dot av (drop 1 x)
dot_cons a av [] = omega (arith, ints, *ℤ-zero a, dot_nil av)
dot_cons a av (x ∷ xs) = refl

pub get_or_drop_one {ℓ} : {A : Type ℓ} (xs : List A) (i : ℕ) (d : A) → get_or (drop 1 xs) i d ≡ get_or xs (suc i) d
get_or_drop_one [] i d = refl
get_or_drop_one (x ∷ xs) i d = refl

pub at_values : (rs : List (List ℤ)) (x : List ℤ) (i : ℕ) → get_or (values rs x) i (pos 0) ≡ dot (get_or rs i []) x
at_values [] x i = refl
at_values (r ∷ rs) x zero = refl
at_values (r ∷ rs) x (suc i) = at_values rs x i
