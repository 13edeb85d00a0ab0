-- What holds of every search: an induction over its boxes.
use Rattle.std.proofs.Common.{◌≡◌, ℕ, zero, suc, true, ◌&&◌, List, [], ◌∷◌, ℤ, refl, subst}
use Rattle.problems.proofs.Boxes.{low_proper, high_proper}
use Rattle.problems.specs.Box.{Box, IsPlan, splits, Proper}
use Rattle.testers.specs.Leaf.{Leaf, formed, lawful}
use Rattle.testers.specs.Tester.{Answer, Meaning, LawfulAnswer, KeepsLaws}
use Rattle.testers.specs.Tester.Answer.{empty, point, split}
use Rattle.search.specs.Search.{Search, Open, Found, ends_with, with_leaf, take_up, with_split, with_point, next, told, search_on}
use Rattle.search.specs.Search.Verdict.{plan, none, spent}

-- every open split lies within the ends of a proper box
abbrev pub Opens : List (List ℤ) → List Open → Type 0
Opens rows [] = Unit {0}
Opens rows (o ∷ os) = (splits o.variable o.at o.box.vars ≡ true) × Proper rows o.box × Opens rows os

pub record Fine (rows : List (List ℤ)) (s : Search) : Type 0 where
  pub box_proper : Proper rows s.box
  pub opens : Opens rows s.open_splits

abbrev pub LawfulLeaf : List (List ℤ) → Box → Leaf → Type 0
LawfulLeaf rows box l = (formed rows box l && lawful rows box l) ≡ true

-- the cases of one box; P speaks of the boxes that may still be tested, of the search so far and of its end
pub record Cases (rows : List (List ℤ)) (root : Box) (P : ℕ → Search → Found → Type 0) : Type 0 where
  pub at_spent : (s : Search) → Fine rows s → P 0 s (ends_with spent s)
  pub at_last : (b : ℕ) (s : Search) (l : Leaf) → Fine rows s → LawfulLeaf rows s.box l → s.open_splits ≡ []
      → P (suc b) s (ends_with (none (with_leaf rows root l s).used) (with_leaf rows root l s))
  pub at_leaf : (b : ℕ) (s : Search) (l : Leaf) (o : Open) (os : List Open) (f : Found) → Fine rows s → LawfulLeaf rows s.box l → s.open_splits ≡ o ∷ os
      → P b (take_up o os (with_leaf rows root l s)) f → P (suc b) s f
  pub at_point : (b : ℕ) (s : Search) (x : List ℤ) → Fine rows s → IsPlan rows s.box x → P (suc b) s (ends_with (plan x) (with_point s))
  pub at_split : (b : ℕ) (s : Search) (v : ℕ) (k : ℤ) (f : Found) → Fine rows s → splits v k s.box.vars ≡ true → P b (with_split v k s) f → P (suc b) s f

module _ (rows : List (List ℤ)) (root : Box) (P : ℕ → Search → Found → Type 0) (c : Cases rows root P) where
  by_next : (b : ℕ) (further : Search → Found) → ((t : Search) → Fine rows t → P b t (further t)) → (s : Search) (l : Leaf) → Fine rows s → LawfulLeaf rows s.box l
      → (os : List Open) → s.open_splits ≡ os → P (suc b) s (next further (with_leaf rows root l s) os)
  by_next b further ih s l fine law [] e = c.at_last b s l fine law e
  by_next b further ih s l fine law (o ∷ os) e =
      let p = subst (Opens rows) e fine.opens in
      c.at_leaf b s l o os _ fine law e
      (ih (take_up o os (with_leaf rows root l s)) (record { box_proper = high_proper rows o.variable o.at o.box p.0 p.1; opens = p.2 }))

  by_told : (b : ℕ) (further : Search → Found) → ((t : Search) → Fine rows t → P b t (further t)) → (s : Search) → Fine rows s
      → (a : Answer) → LawfulAnswer rows s.box a → P (suc b) s (told rows root further s a)
  by_told b further ih s fine (empty l) law = by_next b further ih s l fine law s.open_splits refl
  by_told b further ih s fine (point x) law = c.at_point b s x fine law
  by_told b further ih s fine (split v k) law =
      c.at_split b s v k _ fine law
      (ih (with_split v k s) (record { box_proper = low_proper rows v k s.box law fine.box_proper; opens = (law, fine.box_proper, fine.opens) }))

  pub by_steps : (tester : Meaning) → KeepsLaws tester → (b : ℕ) (s : Search) → Fine rows s → P b s (search_on tester rows root b s)
  by_steps tester laws zero s fine = c.at_spent s fine
  by_steps tester laws (suc b) s fine =
      by_told b (search_on tester rows root b) (by_steps tester laws b) s fine (tester rows s.box) (laws rows s.box fine.box_proper)
