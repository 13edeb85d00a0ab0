-- What a test that passed or failed tells.
use Rattle.std.proofs.Common.{◌≡◌, Bool, true, false, not, T, eqb-true, eq-eqb, ℤ, pos, negsuc, ◌≤ℤ◌, ◌<ℤ◌, sym, refl, ap, ◌∙◌, subst, true≢false}
use mathlib.Core.Bool.{false≢true}
use lib.Signed.{lt_z, le_z, lt_z_no}
use Rattle.problems.specs.Whole.{eq_z, is_zero}

pub by_bool : {P : Type 0} (b : Bool) → (b ≡ true → P) → (b ≡ false → P) → P
by_bool true f g = f refl
by_bool false f g = g refl

pub lt_z_true : (a b : ℤ) → lt_z a b ≡ true → a <ℤ b
lt_z_true a b e = record { lt = subst T (sym e) tt }

pub lt_z_false : (a b : ℤ) → lt_z a b ≡ false → b ≤ℤ a
lt_z_false a b e = lt_z_no (subst (λ v. T (not v)) (sym e) tt)

pub le_z_true : (a b : ℤ) → le_z a b ≡ true → a ≤ℤ b
le_z_true a b e = record { le = subst T (sym e) tt }

from_T : (b : Bool) → T b → b ≡ true
from_T true t = refl
from_T false t = absurd t

pub le_z_is : (a b : ℤ) → a ≤ℤ b → le_z a b ≡ true
le_z_is a b h = from_T (le_z a b) h.le

pub lt_z_is : (a b : ℤ) → a <ℤ b → lt_z a b ≡ true
lt_z_is a b h = from_T (lt_z a b) h.lt

pub eq_z_true : (a b : ℤ) → eq_z a b ≡ true → a ≡ b
eq_z_true (pos a) (pos b) e = ap pos (eqb-true a b e)
eq_z_true (pos a) (negsuc b) e = absurd (false≢true e)
eq_z_true (negsuc a) (pos b) e = absurd (false≢true e)
eq_z_true (negsuc a) (negsuc b) e = ap negsuc (eqb-true a b e)

pub eq_z_same : (a : ℤ) → eq_z a a ≡ true
eq_z_same (pos a) = eq-eqb a a refl
eq_z_same (negsuc a) = eq-eqb a a refl

pub eq_z_is : (a b : ℤ) → a ≡ b → eq_z a b ≡ true
eq_z_is a b e = subst (λ z. eq_z a z ≡ true) e (eq_z_same a)

pub eq_z_false : (a b : ℤ) → eq_z a b ≡ false → a ≡ b → ⊥
eq_z_false a b e h = true≢false (sym (eq_z_is a b h) ∙ e)

pub zero_is : (a : ℤ) → is_zero a ≡ true → a ≡ pos 0
zero_is a e = eq_z_true a (pos 0) e
