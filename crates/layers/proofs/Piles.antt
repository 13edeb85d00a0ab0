-- Four places for a layer, filled from the bottom up, make a pile.
use Rattle.std.proofs.Common.{◌≡◌, ℕ, zero, suc, ◌≤◌, Bool, cond, ltb, leb, Some, None, sym, refl, ap, ◌∙◌, arith}
use Rattle.testers.specs.Tester.{Meaning}
use Rattle.layers.specs.Divisor.{divisor_layer}
use Rattle.layers.specs.Pile.{piled}
use Rattle.std.proofs.lemmas.Bool.{le-leb}

-- one layer, if so asked
abbrev lay : Bool → Meaning → Meaning
lay layered m = cond layered (divisor_layer m) m

four_places : (k : ℕ) (m : Meaning) → k ≤ 4 → lay (ltb 3 k) (lay (ltb 2 k) (lay (ltb 1 k) (lay (ltb 0 k) m))) ≡ piled k m
four_places zero m h = refl
four_places (suc zero) m h = refl
four_places (suc (suc zero)) m h = refl
four_places (suc (suc (suc zero))) m h = refl
four_places (suc (suc (suc (suc zero)))) m h = refl
four_places (suc (suc (suc (suc (suc k))))) m h = absurd (omega arith)

-- m₁ to m₄ are what stands up to each place
pub pile_is : (k : ℕ) (m m₁ m₂ m₃ m₄ : Meaning) → k ≤ 4 → m₁ ≡ cond (ltb 0 k) (divisor_layer m) m → m₂ ≡ cond (ltb 1 k) (divisor_layer m₁) m₁
    → m₃ ≡ cond (ltb 2 k) (divisor_layer m₂) m₂ → m₄ ≡ cond (ltb 3 k) (divisor_layer m₃) m₃ → Some m₄ ≡ cond (leb k 4) (Some (piled k m)) None
pile_is k m m₁ m₂ m₃ m₄ h p q r s =
    ap Some (s ∙ ap (lay (ltb 3 k)) (r ∙ ap (lay (ltb 2 k)) (q ∙ ap (lay (ltb 1 k)) p)) ∙ four_places k m h)
    ∙ ap (λ (b : Bool). cond b (Some (piled k m)) None) (sym (le-leb k 4 h))
