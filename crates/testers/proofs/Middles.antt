-- The widest variable, one variable at a time.
use Rattle.std.proofs.Common.{◌≡◌, ℕ, suc, ◌+◌, ◌<◌, ◌≤◌, Bool, true, false, cond, List, length, get_or, drop, ℤ, pos, ◌+ℤ◌, sym, ap, ◌∙◌, add-one, w64, SFits, to_z, of_z}
use lib.Signed.{lt_z}
use Rattle.std.proofs.lemmas.Int.{to_z-of_z}
use Rattle.std.specs.Int.{int_div_euclid}
use Rattle.std.proofs.lemmas.List.{drop_more, drop_all}
use Rattle.problems.specs.declared.quantity.Span.{Span}
use Rattle.problems.specs.Box.{nowhere}
use Rattle.testers.specs.Tester.Answer.{split}
use Rattle.testers.specs.Halving.{size, widest}

chosen : (b : Bool) (v i : ℕ) (s t : Span) (k : ℕ) (ts : List Span) (c : Bool) → b ≡ c → widest (cond c i v) (cond c t s) k ts ≡ widest (cond b i v) (cond b t s) k ts
chosen b v i s t k ts c e = ap (λ (x : Bool). widest (cond x i v) (cond x t s) k ts) (sym e)

-- the code's comparison of two numbers
pub test_is : (a b x y : ℤ) (r : Bool) → SFits w64 a → SFits w64 b → a ≡ x → b ≡ y → lt_z (to_z w64 (of_z w64 a)) (to_z w64 (of_z w64 b)) ≡ r → lt_z x y ≡ r
test_is a b x y r f g p q h = ap (λ (z : ℤ). lt_z z y) (sym (to_z-of_z w64 a f ∙ p)) ∙ ap (lt_z (to_z w64 (of_z w64 a))) (sym (to_z-of_z w64 b g ∙ q)) ∙ h

-- variable i is wider than the best so far
pub widest_then : (ss : List Span) (v i : ℕ) → i < length ss → lt_z (size (get_or ss v nowhere)) (size (get_or ss i nowhere)) ≡ true
    → widest i (get_or ss i nowhere) (i + 1) (drop (i + 1) ss) ≡ widest v (get_or ss v nowhere) i (drop i ss)
widest_then ss v i h e =
    rw (drop_more ss i nowhere h, add-one)
    (chosen (lt_z (size (get_or ss v nowhere)) (size (get_or ss i nowhere))) v i (get_or ss v nowhere) (get_or ss i nowhere) (suc i) (drop (suc i) ss) true e)

-- it is not
pub widest_else : (ss : List Span) (v i : ℕ) → i < length ss → lt_z (size (get_or ss v nowhere)) (size (get_or ss i nowhere)) ≡ false
    → widest v (get_or ss v nowhere) (i + 1) (drop (i + 1) ss) ≡ widest v (get_or ss v nowhere) i (drop i ss)
widest_else ss v i h e =
    rw (drop_more ss i nowhere h, add-one)
    (chosen (lt_z (size (get_or ss v nowhere)) (size (get_or ss i nowhere))) v i (get_or ss v nowhere) (get_or ss i nowhere) (suc i) (drop (suc i) ss) false e)

pub widest_end : (ss : List Span) (v i : ℕ) → length ss ≤ i
    → split v (int_div_euclid ((get_or ss v nowhere).lower +ℤ (get_or ss v nowhere).upper) (pos 2)) ≡ widest v (get_or ss v nowhere) i (drop i ss)
widest_end ss v i h = rw (drop_all i ss h)
