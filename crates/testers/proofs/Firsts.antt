-- The first row of which something is found.
use Rattle.std.proofs.Common.{◌≡◌, ℕ, zero, suc, ◌+◌, ◌<◌, ◌≤◌, Some, None, Option, sym, refl, ap, ◌∙◌, subst, arith}
use denote.Param.Members.{Mut, Called}
use Rattle.std.proofs.iter.Yields.{nat_range_steps}
use Rattle.std.proofs.iter.runs.Sources.{range_runs}
use Rattle.std.specs.declared.ops.Range.{Range}
use Rattle.std.specs.Bool.{IsTrue}
use Rattle.std.specs.Iterator.Runs.{Run, ItemsCountUp, AllItemsGive, IsFirstToGive, CallKeepsClosure}
use Rattle.std.specs.Option.{IfSome, IsSomeAnd, MatchOption, option_map}
use Rattle.testers.specs.Halves.{some_same, none_some, some_none}

-- o is what is found at the first of n places that has anything
pub record First {A B : Type 0} (told : A → B) (n : ℕ) (at : ℕ → Option B) (o : Option A) : Type 0 where
  pub nowhere : o ≡ None → (k : ℕ) → k < n → at k ≡ None
  pub there : (x : A) → o ≡ Some x → (i : ℕ) × (i < n) × (at i ≡ Some (told x)) × ((k : ℕ) → k < i → at k ≡ None)

-- rest i is what is found from place i on
module _ {B : Type 0} (n : ℕ) (at rest : ℕ → Option B) (past : rest n ≡ None) (found : (i : ℕ) (x : B) → i < n → at i ≡ Some x → rest i ≡ Some x) (none : (i : ℕ) → i < n → at i ≡ None → rest (i + 1) ≡ rest i) where
  up_to : (i : ℕ) → i ≤ n → ((k : ℕ) → k < i → at k ≡ None) → rest i ≡ rest 0
  up_to zero h e = ap rest (omega arith)
  up_to (suc i) h e =
      let z : suc i ≡ i + 1 = omega arith in
      ap rest z ∙ none i (omega arith) (e i (omega arith)) ∙ up_to i (omega arith) (λ k l. e k (omega arith))

  pub first_is : {A : Type 0} (told : A → B) (o : Option A) → First told n at o → option_map told o ≡ rest 0
  first_is told None h = sym past ∙ up_to n (omega arith) (h.nowhere refl)
  first_is told (Some x) h =
      let f = h.there x refl in
      sym (found f.0 (told x) f.1 f.2) ∙ up_to f.0 (omega (arith, f.1)) f.3

-- ---- what `find_map` finds over the places below n

counts : (p : Run nat_range_steps) (n m : ℕ) → p.from ≡ record { start = 0; end = m } → m ≡ n → ItemsCountUp p 0 n
counts p n m e f =
    subst (λ k. ItemsCountUp p 0 k) f (subst (λ (r : Range ℕ). ItemsCountUp p r.start r.end) e (range_runs p p.seen))

placed : (o : Option ℕ) (k : ℕ) → option_map (λ y. y) o ≡ Some (0 + k) → o ≡ Some k
placed None k e = none_some (0 + k) e
placed (Some x) k e = let z : 0 + k ≡ k = omega arith in e ∙ ap Some z

module _ {F A B : Type 0} (g : Mut F (ℕ × Unit {0}) (Option A)) (f : F) (told : A → B) (n : ℕ) (at : ℕ → Option B) (call : (i : ℕ) (b : Option A) (q : F) → Called g f (i, tt) b q → (q ≡ f) × (option_map told b ≡ at i)) where
  keeps : CallKeepsClosure g f
  keeps a r q k = (call a.0 r q k).0

  first_found : (p : Run nat_range_steps) (r : Option A) → ItemsCountUp p 0 n
      → MatchOption r (IsTrue p.whole × AllItemsGive p g f None) (λ y. (i : ℕ) × (i < p.len) × (p.len ≡ i + 1) × IsFirstToGive p g f (Some y) None i)
      → First told n at r
  first_found p None c h =
      record {
        nowhere = λ _ k l.
            let here = placed (p.at k) k (c.3 k (omega (arith, c.1 h.0))) in
            sym (call k None f (subst (λ (o : Option ℕ). IfSome o (λ x. Called g f (x, tt) None f)) here (h.1 keeps k))).1;
        there = λ x e. none_some x e;
      }
  first_found p (Some y) c h =
      let first = h.3 keeps in
      record {
        nowhere = λ e. some_none y e;
        there = λ x e. (
          h.0,
          omega (arith, h.1, c.0),
          sym (call h.0 (Some y) f (subst (λ (o : Option ℕ). IsSomeAnd o (λ z. Called g f (z, tt) (Some y) f)) (placed (p.at h.0) h.0 (c.3 h.0 h.1)) first.0)).1 ∙ ap (λ z. Some (told z)) (some_same y x e),
          λ k l. sym (call k None f (subst (λ (o : Option ℕ). IsSomeAnd o (λ z. Called g f (z, tt) None f)) (placed (p.at k) k (c.3 k (omega (arith, h.1)))) (first.1 k l))).1,
        );
      }

  pub found_first : (r : Option A) (m : ℕ) → m ≡ n
      → (p : Run nat_range_steps) × (p.from ≡ record { start = 0; end = m }) × MatchOption r (IsTrue p.whole × AllItemsGive p g f None) (λ y. (i : ℕ) × (i < p.len) × (p.len ≡ i + 1) × IsFirstToGive p g f (Some y) None i)
      → First told n at r
  found_first r m e h = first_found h.0 r (counts h.0 n m h.1 e) h.2
