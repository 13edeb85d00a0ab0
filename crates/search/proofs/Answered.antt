-- The reply is the one asked for, it is truthful, and the buffers are left as said.
use Rattle.std.proofs.Common.{◌≡◌, ℕ, ◌+◌, ◌-◌, ◌*◌, ◌<◌, ◌≤◌, false, leb, List, ◌++◌, length, take, drop, replicate, ℤ, pos, nat_abs, Some, None, Ok, Err, Option, sym, refl, ap, ◌∙◌, ⊎_elim, append_assoc, arith, take-append-drop, drop_of_length-le}
use Rattle.std.proofs.lemmas.List.{length-take-le, replicate-append-replicate, take_all}
use Rattle.std.proofs.lemmas.Bool.{cases_lt, leb-true}
use Rattle.problems.specs.declared.problem.Problem.{Problem}
use Rattle.problems.specs.declared.refusal.Refused.{Refused}
use Rattle.problems.specs.declared.refusal.Refusal.TheVariants.{Budget, Buffer}
use Rattle.problems.specs.Box.{Box, Proper}
use Rattle.testers.specs.Tester.{Meaning, KeepsLaws}
use Rattle.problems.specs.View.{box_of, rows_of}
use Rattle.search.specs.declared.open_split.OpenSplit.{OpenSplit}
use Rattle.search.specs.Search.{search_box}
use Rattle.search.specs.Walk.{blank_split, Blanked}
use Rattle.search.specs.Asked.{in_budget, refusal, granted, asked}
use Rattle.search.specs.Promise.{Truthful}
use Rattle.search.proofs.Searches.{none_right, plan_right, few_boxes, boxes_in_budget, spent_right}
use Rattle.search.proofs.Records.{none_record}
use Rattle.search.proofs.Repeats.{found_again}
use Rattle.problems.proofs.Tests.{by_bool}

pub truthful : (tester : Meaning) → KeepsLaws tester → (rows : List (List ℤ)) (box : Box) → Proper rows box → (budget : ℕ) → Truthful tester rows box budget (search_box tester rows box budget)
truthful tester laws rows box p budget =
    record {
      none_means_no_plan = none_right tester laws rows box p budget;
      plan_is_a_plan_of_the_box = plan_right tester laws rows box p budget;
      none_leaves_a_lawful_tree = none_record tester laws rows box p budget;
      boxes_within_budget = boxes_in_budget tester laws rows box p budget;
      boxes_at_most_twice_the_points_less_one = few_boxes tester laws rows box p budget;
      spent_only_below_twice_the_points_less_one = spent_right tester laws rows box p budget;
      larger_budget_same_content = λ told more le. found_again tester tester (λ _ _. refl) rows box budget more le told;
    }

-- ---- refused or granted

refused_by : {A : Type 0} (o : Option Refused) (a : A) (e : Refused) → Err e ≡ granted o a → o ≡ Some e
refused_by None a e h = let z : ◌≡◌ {A = ℕ} 0 1 = cc in absurd (omega arith)
refused_by (Some d) a e h = cc

granted_by : {A : Type 0} (o : Option Refused) (a x : A) → Ok x ≡ granted o a → (o ≡ None) × (x ≡ a)
granted_by None a x h = (refl, cc)
granted_by (Some d) a x h = let z : ◌≡◌ {A = ℕ} 0 1 = cc in absurd (omega arith)

pub asked_refused : (m : Meaning) (p : Problem) (budget : ℤ) (bytes places : ℕ) (e : Refused) → Err e ≡ granted (refusal budget bytes places) (nat_abs budget) → asked m p budget bytes places ≡ Err e
asked_refused m p budget bytes places e h =
    ap (λ (o : Option Refused). granted o (search_box m (rows_of p) (box_of p) (nat_abs budget))) (refused_by (refusal budget bytes places) (nat_abs budget) e h)

pub asked_granted : (m : Meaning) (p : Problem) (budget : ℤ) (bytes places boxes : ℕ) → Ok boxes ≡ granted (refusal budget bytes places) (nat_abs budget)
    → asked m p budget bytes places ≡ Ok (search_box m (rows_of p) (box_of p) boxes)
asked_granted m p budget bytes places boxes h =
    let g = granted_by (refusal budget bytes places) (nat_abs budget) boxes h in
    ap (λ (o : Option Refused). granted o (search_box m (rows_of p) (box_of p) (nat_abs budget))) g.0 ∙ ap (λ k. Ok (search_box m (rows_of p) (box_of p) k)) (sym g.1)

pub boxes_are : (budget : ℤ) (bytes places boxes : ℕ) → Ok boxes ≡ granted (refusal budget bytes places) (nat_abs budget) → boxes ≡ nat_abs budget
boxes_are budget bytes places boxes h = (granted_by (refusal budget bytes places) (nat_abs budget) boxes h).1

-- a search that is granted has 100 bytes for each box
pub room_for : (budget : ℤ) (bytes places boxes : ℕ) → Ok boxes ≡ granted (refusal budget bytes places) (nat_abs budget) → 100 * boxes ≤ bytes
room_for budget bytes places boxes h =
    let g = granted_by (refusal budget bytes places) (nat_abs budget) boxes h in
    let e = g.1 in
    by_bool (leb (100 * nat_abs budget) bytes) (λ y. let l = leb-true _ _ y in omega arith) (λ n. absurd (no_room n g.0))
  where
    no_room : leb (100 * nat_abs budget) bytes ≡ false → refusal budget bytes places ≡ None → ⊥
    no_room n r =
        by_bool (in_budget budget)
        (λ y. let e : refusal budget bytes places ≡ Some (record { why = Buffer; place = pos 1 }) = rw (y, n) in let z : ◌≡◌ {A = ℕ} 0 1 = cc in omega arith)
        (λ y. let e : refusal budget bytes places ≡ Some (record { why = Budget; place = budget }) = rw y in let z : ◌≡◌ {A = ℕ} 0 1 = cc in omega arith)

-- ---- the buffers

-- what stands at the front, and the rest as it was
pub front_and_rest : (xs ys : List ℕ) (k : ℕ) → length ys ≡ length xs → drop k ys ≡ drop k xs → ys ≡ take k ys ++ drop (length (take k ys)) xs
front_and_rest xs ys k l e =
    ⊎_elim
    (λ (h : k < length ys). sym (take-append-drop k ys) ∙ ap (λ (zs : List ℕ). take k ys ++ zs) (e ∙ ap (λ i. drop i xs) (sym (length-take-le k ys (omega arith)))))
    (λ (h : length ys ≤ k). sym (take-append-drop k ys)
    ∙ ap (λ (zs : List ℕ). take k ys ++ zs) (drop_of_length-le ys h ∙ sym (ap (λ (zs : List ℕ). drop (length zs) xs) (take_all k ys h) ∙ drop_of_length-le xs (omega arith))))
    (cases_lt k (length ys))

-- all that was used is blank once the stack is cleared
pub all_blank : (path xs ys : List OpenSplit) (d n : ℕ) → Blanked path d xs n → ys ≡ replicate n blank_split ++ drop n xs → ys ≡ replicate d blank_split ++ drop d path
all_blank path xs ys d n b e =
    let k : n + (d - n) ≡ d = omega (arith, b.0) in
    e ∙ ap (λ (os : List OpenSplit). replicate n blank_split ++ os) b.1 ∙ sym (append_assoc (replicate n blank_split) (replicate (d - n) blank_split) (drop d path))
    ∙ ap (λ (os : List OpenSplit). os ++ drop d path) (replicate-append-replicate n (d - n) blank_split ∙ ap (λ i. replicate i blank_split) k)
