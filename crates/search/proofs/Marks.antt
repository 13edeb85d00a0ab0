-- Marks made place by place, and those that stand past the last place.
use Rattle.std.proofs.Common.{◌≡◌, ℕ, zero, suc, ◌+◌, ◌<◌, ◌≤◌, Bool, true, false, not, ◌&&◌, List, length, get_or, ℤ, pos, sym, refl, ap, ◌∙◌, subst, ⊎_elim, arith}
use denote.Param.Members.{Mut, Called}
use Rattle.std.specs.Array.{IsFromFnResult, IsFromFnResultFrom}
use Rattle.std.proofs.lemmas.List.{get_or_past}
use Rattle.std.proofs.lemmas.Bool.{cases_lt}
use Rattle.problems.specs.declared.quantity.Side.{Side}
use Rattle.problems.specs.declared.quantity.Side.TheVariants.{Lower, Upper}
use Rattle.problems.specs.declared.quantity.Span.{Span}
use Rattle.problems.specs.Whole.{eq_z, is_zero, positive, negative}
use Rattle.problems.specs.Box.{nowhere, span_end}
use Rattle.testers.specs.Leaf.{fixed, by_sign, by_fixed}
use Rattle.problems.proofs.Tests.{eq_z_is}
use Rattle.search.specs.declared.uses.Sides.{Sides}
use Rattle.search.specs.Search.{still_standing}
use Rattle.search.specs.Shown.{side_in, neither, marked}

-- no place past the last one is marked
pub unmarked_past : (ss : List Sides) (side : Side) (k : ℕ) → length ss ≤ k → marked ss side k ≡ false
unmarked_past ss Lower k h = ap (side_in Lower) (get_or_past ss k neither h)
unmarked_past ss Upper k h = ap (side_in Upper) (get_or_past ss k neither h)

module _ {F : Type 0} (g : Mut F (ℕ × Unit {0}) Sides) (c : F) (f : Side → ℕ → Bool)
    (tells : (i : ℕ) (s : Sides) (d : F) → i < 12 → Called g c (i, tt) s d → (d ≡ c) × ((side : Side) → side_in side s ≡ f side i)) where
  each_told : (ss : List Sides) (i n : ℕ) → i + n ≤ 12 → IsFromFnResultFrom g c ss i n → (side : Side) (k : ℕ) → i ≤ k → k < i + n → marked ss side k ≡ f side k
  each_told ss i zero h told side k a b = absurd (omega arith)
  each_told ss i (suc n) h told side k a b =
      let one = tells i told.1 told.0 (omega arith) told.3 in
      ⊎_elim
      (λ (l : i < k). each_told ss (i + 1) n (omega arith) (subst (λ (d : F). IsFromFnResultFrom g d ss (i + 1) n) one.0 told.4) side k (omega arith) (omega arith))
      (λ (l : k ≤ i). let e : k ≡ i = omega arith in ap (marked ss side) e ∙ ap (side_in side) (told.2.1 neither) ∙ one.1 side ∙ ap (f side) (sym e))
      (cases_lt i k)

  -- twelve sides made by calls at their places, where nothing is marked past the last place
  pub all_told : (ss : List Sides) → IsFromFnResult g c ss 12 → ((side : Side) (k : ℕ) → 12 ≤ k → false ≡ f side k) → (side : Side) (k : ℕ) → marked ss side k ≡ f side k
  all_told ss made past side k =
      ⊎_elim
      (λ (l : k < 12). each_told ss 0 12 (omega arith) made.each side k (omega arith) (omega arith))
      (λ (l : 12 ≤ k). unmarked_past ss side k (omega (arith, made.long)) ∙ past side k l)
      (cases_lt k 12)

-- ---- past the last quantity

pub sign_past : (ms : List ℤ) (side : Side) (k : ℕ) → length ms ≤ k → false ≡ by_sign ms side k
sign_past ms Lower k h = ap negative (sym (get_or_past ms k (pos 0) h))
sign_past ms Upper k h = ap positive (sym (get_or_past ms k (pos 0) h))

and_false : (a : Bool) → false ≡ (a && false)
and_false true = refl
and_false false = refl

pub fixed_past : (av : List ℤ) (ss : List Span) (side : Side) (k : ℕ) → length av ≤ k → false ≡ by_fixed av ss side k
fixed_past av ss side k h = and_false (fixed (get_or ss k nowhere)) ∙ ap (λ z. fixed (get_or ss k nowhere) && not (is_zero z)) (sym (get_or_past av k (pos 0) h))

and_right : (a b : Bool) → true ≡ b → a ≡ (a && b)
and_right true b e = e
and_right false b e = refl

end_same : (s t : Span) (side : Side) → nowhere ≡ s → nowhere ≡ t → true ≡ eq_z (span_end side t) (span_end side s)
end_same s t side p q = sym (eq_z_is (span_end side t) (span_end side s) (ap (span_end side) (sym q ∙ p)))

pub standing_past : (root ss : List Span) (side : Side) (k : ℕ) (a : Bool) → length root ≤ k → length ss ≤ k → a ≡ (a && still_standing root ss side k)
standing_past root ss side k a h l = and_right a (still_standing root ss side k) (end_same (get_or root k nowhere) (get_or ss k nowhere) side (sym (get_or_past root k nowhere h)) (sym (get_or_past ss k nowhere l)))
