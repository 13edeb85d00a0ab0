-- A search is right: its none, its plan, its count, and the ends that its none names.
use Rattle.std.proofs.Common.{◌≡◌, ℕ, ◌+◌, ◌-◌, ◌*◌, ◌<◌, ◌≤◌, true, false, List, [], ◌∷◌, get_or, ℤ, pos, ◌+ℤ◌, ◌≤ℤ◌, sym, refl, ap, ◌∙◌, subst, ⊎_elim, true≢false, arith}
use borrow.Author.Differences.{ints}
use Rattle.std.proofs.lemmas.Int.{by_lt_z}
use Rattle.testers.specs.Leaves.{Meets, leaf_refutes}
use Rattle.testers.proofs.Plans.{plan_meets}
use Rattle.problems.proofs.Boxes.{low_lower, low_upper, high_lower, high_upper, low_inside, high_inside, points_split, some_points, low_proper, high_proper}
use Rattle.search.proofs.Steps.{Opens, Fine, Cases, by_steps}
use Rattle.problems.specs.declared.quantity.Side.{Side}
use Rattle.problems.specs.declared.quantity.Side.TheVariants.{Lower, Upper}
use Rattle.problems.specs.Box.{Box, IsPlan, NoPlan, nowhere, points, low, high, lower_half, upper_half, Proper}
use Rattle.testers.specs.Leaf.{Leaf, Uses, uses}
use Rattle.testers.specs.Tester.{Meaning, KeepsLaws}
use Rattle.search.specs.Search.{Search, Open, Found, still_standing, also_used, nothing_yet, search_box}
use Rattle.search.specs.Search.Verdict.{plan, none, spent}
use Rattle.std.proofs.lemmas.Bool.{and_from, or_left, or_right}
use Rattle.problems.proofs.Tests.{by_bool, eq_z_true, eq_z_same}

-- ---- verdicts are told apart

pub none_same : (u w : Uses) → none u ≡ none w → u ≡ w
none_same u w e = cc

pub plan_same : (x y : List ℤ) → plan x ≡ plan y → x ≡ y
plan_same x y e = cc

pub plan_none : {A : Type 0} (x : List ℤ) (u : Uses) → plan x ≡ none u → A
plan_none x u e = let z : ◌≡◌ {A = ℕ} 0 1 = cc in absurd (omega arith)

pub spent_none : {A : Type 0} (u : Uses) → spent ≡ none u → A
spent_none u e = let z : ◌≡◌ {A = ℕ} 0 1 = cc in absurd (omega arith)

pub spent_plan : {A : Type 0} (x : List ℤ) → spent ≡ plan x → A
spent_plan x e = let z : ◌≡◌ {A = ℕ} 0 1 = cc in absurd (omega arith)

pub none_spent : {A : Type 0} (u : Uses) → none u ≡ spent → A
none_spent u e = let z : ◌≡◌ {A = ℕ} 0 1 = cc in absurd (omega arith)

pub plan_spent : {A : Type 0} (x : List ℤ) → plan x ≡ spent → A
plan_spent x e = let z : ◌≡◌ {A = ℕ} 0 1 = cc in absurd (omega arith)

pub none_plan : {A : Type 0} (x : List ℤ) (u : Uses) → none u ≡ plan x → A
none_plan x u e = let z : ◌≡◌ {A = ℕ} 0 1 = cc in absurd (omega arith)

-- ---- the ends that a none names rule out every point that meets them

pub record Sub (u w : Uses) : Type 0 where
  pub vars : (side : Side) (i : ℕ) → u.vars side i ≡ true → w.vars side i ≡ true
  pub rows : (side : Side) (i : ℕ) → u.rows side i ≡ true → w.rows side i ≡ true

-- the point meets the ends of the box that splits have replaced
pub record Cut (root box : Box) (x : List ℤ) : Type 0 where
  pub from : (i : ℕ) → still_standing root.vars box.vars Lower i ≡ false → (get_or box.vars i nowhere).lower ≤ℤ get_or x i (pos 0)
  pub to : (i : ℕ) → still_standing root.vars box.vars Upper i ≡ false → get_or x i (pos 0) ≤ℤ (get_or box.vars i nowhere).upper
  pub rows_same : box.rows ≡ root.rows

cut_low : (root box : Box) (x : List ℤ) (v : ℕ) (k : ℤ) → Cut root box x → get_or x v (pos 0) ≤ℤ k → Cut root (lower_half v k box) x
cut_low root box x v k c h =
    record {
      from = λ i n. rw (low_lower v k box.vars i) (c.from i (rw (low_lower v k box.vars i) at n));
      to = λ i n. ⊎_elim {C = get_or x i (pos 0) ≤ℤ (get_or (low v k box.vars) i nowhere).upper} (λ e. rw e (c.to i (rw e at n))) (λ p. rw (p.1, p.0) h) (low_upper v k box.vars i);
      rows_same = c.rows_same;
    }

cut_high : (root box : Box) (x : List ℤ) (v : ℕ) (k : ℤ) → Cut root box x → (k +ℤ pos 1) ≤ℤ get_or x v (pos 0) → Cut root (upper_half v k box) x
cut_high root box x v k c h =
    record {
      from = λ i n. ⊎_elim {C = (get_or (high v k box.vars) i nowhere).lower ≤ℤ get_or x i (pos 0)} (λ e. rw e (c.from i (rw e at n))) (λ p. rw (p.1, p.0) h) (high_lower v k box.vars i);
      to = λ i n. rw (high_upper v k box.vars i) (c.to i (rw (high_upper v k box.vars i) at n));
      rows_same = c.rows_same;
    }

meets_leaf : (rows : List (List ℤ)) (root box : Box) (l : Leaf) (u w : Uses) (x : List ℤ) → Sub (also_used rows root box l u) w → Meets w rows root x → Cut root box x → Meets (uses rows box l) rows box x
meets_leaf rows root box l u w x sub m c =
    record {
      in_vars =
          record {
            from = λ i h. by_bool (still_standing root.vars box.vars Lower i)
                (λ y. rw (eq_z_true (get_or box.vars i nowhere).lower (get_or root.vars i nowhere).lower y) (m.in_vars.from i (sub.vars Lower i (or_right (u.vars Lower i) _ (and_from _ _ h y)))))
                (c.from i);
            to = λ i h. by_bool (still_standing root.vars box.vars Upper i)
                (λ y. rw (eq_z_true (get_or box.vars i nowhere).upper (get_or root.vars i nowhere).upper y) (m.in_vars.to i (sub.vars Upper i (or_right (u.vars Upper i) _ (and_from _ _ h y)))))
                (c.to i);
          };
      in_rows =
          rw c.rows_same
          (record {
            from = λ i h. m.in_rows.from i (sub.rows Lower i (or_right (u.rows Lower i) _ h));
            to = λ i h. m.in_rows.to i (sub.rows Upper i (or_right (u.rows Upper i) _ h));
          });
    }

abbrev Out : Box → List ℤ → List Open → Type 0
Out root x [] = Unit {0}
Out root x (o ∷ os) = (Cut root (upper_half o.variable o.at o.box) x → ⊥) × Out root x os

pub record RuledOut (rows : List (List ℤ)) (root : Box) (s : Search) (u : Uses) : Type 0 where
  pub more : Sub s.used u
  pub here : (x : List ℤ) → Meets u rows root x → Cut root s.box x → ⊥
  pub there : (x : List ℤ) → Meets u rows root x → Out root x s.open_splits

abbrev NoneRulesOut : List (List ℤ) → Box → ℕ → Search → Found → Type 0
NoneRulesOut rows root b s f = (u : Uses) → f.verdict ≡ none u → RuledOut rows root s u

before : (rows : List (List ℤ)) (root box : Box) (l : Leaf) (u w : Uses) → Sub (also_used rows root box l u) w → Sub u w
before rows root box l u w sub =
    record { vars = λ side i h. sub.vars side i (or_left (u.vars side i) _ h); rows = λ side i h. sub.rows side i (or_left (u.rows side i) _ h) }

same_sub : (u w : Uses) → u ≡ w → Sub u w
same_sub u w e = subst (Sub u) e (record { vars = λ side i h. h; rows = λ side i h. h })

none_cases : (rows : List (List ℤ)) (root : Box) → Cases rows root (NoneRulesOut rows root)
none_cases rows root =
    record {
      at_spent = λ s fine u e. spent_none u e;
      at_last = λ b s l fine law e u h.
          let sub = same_sub _ u (none_same _ u h) in
          record {
            more = before rows root s.box l s.used u sub;
            here = λ x m c. leaf_refutes rows s.box l fine.box_proper.coefficients law x (meets_leaf rows root s.box l s.used u x sub m c);
            there = λ x m. subst (Out root x) (sym e) tt;
          };
      at_leaf = λ b s l o os f fine law e ih u h.
          let r = ih u h in
          record {
            more = before rows root s.box l s.used u r.more;
            here = λ x m c. leaf_refutes rows s.box l fine.box_proper.coefficients law x (meets_leaf rows root s.box l s.used u x r.more m c);
            there = λ x m. subst (Out root x) (sym e) (r.here x m, r.there x m);
          };
      at_point = λ b s x fine p u e. plan_none x u e;
      at_split = λ b s v k f fine law ih u h.
          let r = ih u h in
          record {
            more = r.more;
            here = λ x m c.
                by_lt_z k (get_or x v (pos 0)) (λ lt. (r.there x m).0 (cut_high root s.box x v k c (omega (arith, ints, lt))))
                (λ le. r.here x m (cut_low root s.box x v k c le));
            there = λ x m. (r.there x m).1;
          };
    }

start_fine : (rows : List (List ℤ)) (box : Box) → Proper rows box → Fine rows (nothing_yet box)
start_fine rows box p = record { box_proper = p; opens = tt }

root_cut : (root : Box) (x : List ℤ) → Cut root root x
root_cut root x =
    record { from = λ i n. absurd (true≢false (sym (eq_z_same (get_or root.vars i nowhere).lower) ∙ n)); to = λ i n. absurd (true≢false (sym (eq_z_same (get_or root.vars i nowhere).upper) ∙ n)); rows_same = refl }

-- no point meets the standing ends that a none used
pub none_names : (tester : Meaning) → KeepsLaws tester → (rows : List (List ℤ)) (box : Box) → Proper rows box → (budget : ℕ) (u : Uses)
    → (search_box tester rows box budget).verdict ≡ none u → (x : List ℤ) → Meets u rows box x → ⊥
none_names tester laws rows box p budget u e x m =
    (by_steps rows box (NoneRulesOut rows box) (none_cases rows box) tester laws budget (nothing_yet box) (start_fine rows box p) u e).here x m (root_cut box x)

pub none_right : (tester : Meaning) → KeepsLaws tester → (rows : List (List ℤ)) (box : Box) → Proper rows box → (budget : ℕ) (u : Uses)
    → (search_box tester rows box budget).verdict ≡ none u → NoPlan rows box
none_right tester laws rows box p budget u e x h = none_names tester laws rows box p budget u e x (plan_meets u rows box x h)

-- ---- a shown plan is a plan

abbrev Narrows : List (List ℤ) → Box → Box → Type 0
Narrows rows root box = (x : List ℤ) → IsPlan rows box x → IsPlan rows root x

abbrev AllNarrow : List (List ℤ) → Box → List Open → Type 0
AllNarrow rows root [] = Unit {0}
AllNarrow rows root (o ∷ os) = Narrows rows root o.box × AllNarrow rows root os

abbrev PlanIsPlan : List (List ℤ) → Box → ℕ → Search → Found → Type 0
PlanIsPlan rows root b s f = Narrows rows root s.box → AllNarrow rows root s.open_splits → (x : List ℤ) → f.verdict ≡ plan x → IsPlan rows root x

plan_cases : (rows : List (List ℤ)) (root : Box) → Cases rows root (PlanIsPlan rows root)
plan_cases rows root =
    record {
      at_spent = λ s fine n ns x e. spent_plan x e;
      at_last = λ b s l fine law e n ns x h. none_plan x _ h;
      at_leaf = λ b s l o os f fine law e ih n ns x h.
          let p = subst (AllNarrow rows root) e ns in
          let q = subst (Opens rows) e fine.opens in
          ih (λ y r. p.0 y (high_inside o.variable o.at o.box.vars y q.0 r.0, r.1)) p.1 x h;
      at_point = λ b s y fine p n ns x e. n x (subst (IsPlan rows s.box) (plan_same y x e) p);
      at_split = λ b s v k f fine law ih n ns x h.
          ih (λ y r. n y (low_inside v k s.box.vars y law r.0, r.1)) (n, ns) x h;
    }

pub plan_right : (tester : Meaning) → KeepsLaws tester → (rows : List (List ℤ)) (box : Box) → Proper rows box → (budget : ℕ) (x : List ℤ)
    → (search_box tester rows box budget).verdict ≡ plan x → IsPlan rows box x
plan_right tester laws rows box p budget x e =
    by_steps rows box (PlanIsPlan rows box) (plan_cases rows box) tester laws budget (nothing_yet box) (start_fine rows box p) (λ y r. r) tt x e

-- ---- the count

-- the boxes that may still have to be tested
abbrev owed : List Open → ℕ
owed [] = 0
owed (o ∷ os) = 2 * points (high o.variable o.at o.box.vars) - 1 + owed os

abbrev work : Search → ℕ
work s = 2 * points s.box.vars - 1 + owed s.open_splits

pub record Counted (b : ℕ) (s : Search) (f : Found) : Type 0 where
  pub few : f.boxes ≤ s.boxes + work s
  pub in_budget : f.boxes ≤ s.boxes + b
  pub spent_late : f.verdict ≡ spent → b < work s

count_cases : (rows : List (List ℤ)) (root : Box) → Cases rows root Counted
count_cases rows root =
    record {
      at_spent = λ s fine.
          let p = some_points s.box.vars fine.box_proper.spans in
          record { few = omega arith; in_budget = omega arith; spent_late = λ _. omega arith };
      at_last = λ b s l fine law e.
          let p = some_points s.box.vars fine.box_proper.spans in
          record { few = omega arith; in_budget = omega arith; spent_late = λ h. none_spent _ h };
      at_leaf = λ b s l o os f fine law e ih.
          let p = some_points s.box.vars fine.box_proper.spans in
          let w = ap owed e in
          record { few = omega (arith, ih.few); in_budget = omega (arith, ih.in_budget); spent_late = λ h. omega (arith, ih.spent_late h) };
      at_point = λ b s x fine p.
          let p = some_points s.box.vars fine.box_proper.spans in
          record { few = omega arith; in_budget = omega arith; spent_late = λ h. plan_spent x h };
      at_split = λ b s v k f fine law ih.
          let e = points_split v k s.box.vars law in
          let p = some_points (low v k s.box.vars) (low_proper rows v k s.box law fine.box_proper).spans in
          let q = some_points (high v k s.box.vars) (high_proper rows v k s.box law fine.box_proper).spans in
          record { few = omega (arith, ih.few); in_budget = omega (arith, ih.in_budget); spent_late = λ h. omega (arith, ih.spent_late h) };
    }

counted : (tester : Meaning) → KeepsLaws tester → (rows : List (List ℤ)) (box : Box) → Proper rows box → (budget : ℕ) → Counted budget (nothing_yet box) (search_box tester rows box budget)
counted tester laws rows box p budget = by_steps rows box Counted (count_cases rows box) tester laws budget (nothing_yet box) (start_fine rows box p)

-- at most 2 P - 1 boxes, and at most the budget
pub few_boxes : (tester : Meaning) → KeepsLaws tester → (rows : List (List ℤ)) (box : Box) → Proper rows box → (budget : ℕ) → (search_box tester rows box budget).boxes + 1 ≤ 2 * points box.vars
few_boxes tester laws rows box p budget = omega (arith, (counted tester laws rows box p budget).few, some_points box.vars p.spans)

pub boxes_in_budget : (tester : Meaning) → KeepsLaws tester → (rows : List (List ℤ)) (box : Box) → Proper rows box → (budget : ℕ) → (search_box tester rows box budget).boxes ≤ budget
boxes_in_budget tester laws rows box p budget = omega (arith, (counted tester laws rows box p budget).in_budget)

-- spent only below a budget of 2 P - 1
pub spent_right : (tester : Meaning) → KeepsLaws tester → (rows : List (List ℤ)) (box : Box) → Proper rows box → (budget : ℕ)
    → (search_box tester rows box budget).verdict ≡ spent → budget + 1 < 2 * points box.vars
spent_right tester laws rows box p budget e = omega (arith, (counted tester laws rows box p budget).spent_late e, some_points box.vars p.spans)
