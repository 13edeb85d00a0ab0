-- What the answer of a search promises, whatever the tester.
use Rattle.std.specs.Prelude.{◌≡◌, ℕ, ◌+◌, ◌*◌, ◌<◌, ◌≤◌, List, ℤ, Ok, Err, Result, ◌≢◌, unsigned_abs}
use Rattle.problems.specs.declared.problem.Problem.{Problem}
use Rattle.problems.specs.declared.refusal.Refused.{Refused}
use Rattle.problems.specs.Box.{Box, IsPlan, NoPlan, points}
use Rattle.testers.specs.Leaf.{Uses}
use Rattle.testers.specs.Tester.{Meaning}
use Rattle.problems.specs.View.{box_of, rows_of}
use Rattle.search.specs.Search.{Found, search_box}
use Rattle.search.specs.Search.Verdict.{plan, none, spent}
use Rattle.search.specs.Tree.{OfLawfulTree}

pub record Truthful (tester : Meaning) (rows : List (List ℤ)) (box : Box) (budget : ℕ) (f : Found) : Type 0 where
  pub none_means_no_plan : (u : Uses) → f.verdict ≡ none u → NoPlan rows box
  pub plan_is_a_plan_of_the_box : (x : List ℤ) → f.verdict ≡ plan x → IsPlan rows box x
  pub none_leaves_a_lawful_tree : (u : Uses) → f.verdict ≡ none u → OfLawfulTree rows box f.bytes f.boxes
  pub boxes_within_budget : f.boxes ≤ budget
  pub boxes_at_most_twice_the_points_less_one : f.boxes + 1 ≤ 2 * points box.vars
  pub spent_only_below_twice_the_points_less_one : f.verdict ≡ spent → budget + 1 < 2 * points box.vars
  pub larger_budget_same_content : (f.verdict ≢ spent) → (more : ℕ) → budget ≤ more → search_box tester rows box more ≡ f

-- of a reply; a refusal promises nothing
abbrev pub ReplyTruthful : Meaning → Problem → ℤ → Result Found Refused → Type 0
ReplyTruthful tester p budget (Ok f) = Truthful tester (rows_of p) (box_of p) (unsigned_abs budget) f
ReplyTruthful tester p budget (Err e) = Unit {0}
