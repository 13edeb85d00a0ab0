-- A search that is not spent comes out the same at a larger budget, with any tester of equal meaning.
use Rattle.std.proofs.Common.{◌≡◌, ℕ, zero, suc, ◌≤◌, List, [], ◌∷◌, ℤ, refl, ap, ◌∙◌, le_of_suc-le-suc, not-suc-le-zero}
use Rattle.problems.specs.Box.{Box}
use Rattle.testers.specs.Tester.{Answer, Meaning}
use Rattle.testers.specs.Tester.Answer.{empty, point, split}
use Rattle.search.specs.Search.{Search, Open, Found, with_leaf, take_up, with_split, next, told, search_on, search_box, nothing_yet}
use Rattle.search.specs.Search.Verdict.{spent}

module _ (rows : List (List ℤ)) (root : Box) (f g : Search → Found) (same : (s : Search) → ((f s).verdict ≡ spent → ⊥) → g s ≡ f s) where
  next_again : (s : Search) (os : List Open) → ((next f s os).verdict ≡ spent → ⊥) → next g s os ≡ next f s os
  next_again s [] h = refl
  next_again s (o ∷ os) h = same (take_up o os s) h

  told_again : (s : Search) (a : Answer) → ((told rows root f s a).verdict ≡ spent → ⊥) → told rows root g s a ≡ told rows root f s a
  told_again s (empty l) h = next_again (with_leaf rows root l s) s.open_splits h
  told_again s (point x) h = refl
  told_again s (split v k) h = same (with_split v k s) h

pub goes_again : (t u : Meaning) → ((rows : List (List ℤ)) (box : Box) → u rows box ≡ t rows box) → (rows : List (List ℤ)) (root : Box) (b c : ℕ) → b ≤ c
    → (s : Search) → ((search_on t rows root b s).verdict ≡ spent → ⊥) → search_on u rows root c s ≡ search_on t rows root b s
goes_again t u e rows root zero c le s h = absurd (h refl)
goes_again t u e rows root (suc b) zero le s h = absurd (not-suc-le-zero le)
goes_again t u e rows root (suc b) (suc c) le s h =
    ap (told rows root (search_on u rows root c) s) (e rows s.box)
    ∙ told_again rows root (search_on t rows root b) (search_on u rows root c) (goes_again t u e rows root b c (le_of_suc-le-suc le)) s (t rows s.box) h

pub found_again : (t u : Meaning) → ((rows : List (List ℤ)) (box : Box) → u rows box ≡ t rows box) → (rows : List (List ℤ)) (box : Box) (b c : ℕ) → b ≤ c
    → ((search_box t rows box b).verdict ≡ spent → ⊥) → search_box u rows box c ≡ search_box t rows box b
found_again t u e rows box b c le h = goes_again t u e rows box b c le (nothing_yet box) h
