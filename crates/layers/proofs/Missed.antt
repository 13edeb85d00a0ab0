-- The rows that their divisors miss, one row at a time.
use Rattle.std.proofs.Common.{◌≡◌, ℕ, suc, ◌+◌, ◌<◌, ◌≤◌, Bool, true, false, cond, ◌&&◌, List, [], length, get_or, drop, ℤ, ◌-ℤ◌, nat_abs, Some, None, Option, sym, refl, ap, ◌∙◌, add-one, arith, w64, to_z, of_z}
use borrow.Author.Differences.{ints}
use Rattle.std.proofs.lemmas.List.{drop_more, drop_all}
use Rattle.problems.specs.declared.quantity.RowEnds.{RowEnds}
use Rattle.problems.specs.Box.{Box}
use Rattle.problems.specs.Ranges.{in_reach, ends_proper}
use Rattle.testers.specs.Leaf.{Leaf, no_multiple, misses, row_misses}
use Rattle.testers.specs.Leaf.Leaf.{divisor}
use Rattle.testers.specs.Halves.{none_some, some_none}
use Rattle.testers.proofs.Products.{back}
use Rattle.layers.specs.Divisor.{free_gcd, missed_leaf, missing}
use Rattle.std.proofs.lemmas.Bool.{and_parts, le-leb, leb-true}

-- ---- the ends of a row

reach_of : (o : Option ℤ) (z : ℤ) → o ≡ Some z → in_reach o ≡ true → nat_abs z ≤ 200000000
reach_of o z e h = leb-true (nat_abs z) 200000000 (sym (ap in_reach e) ∙ h)

-- ends that are present are in range
pub lower_reach : (e : RowEnds) (z : ℤ) → ends_proper e ≡ true → e.lower ≡ Some z → nat_abs z ≤ 200000000
lower_reach e z h p = reach_of e.lower z p (and_parts _ (in_reach e.lower) (and_parts _ (in_reach e.upper) h).0).1

pub upper_reach : (e : RowEnds) (z : ℤ) → ends_proper e ≡ true → e.upper ≡ Some z → nat_abs z ≤ 200000000
upper_reach e z h p = reach_of e.upper z p (and_parts _ (in_reach e.upper) h).1

-- ---- one row

-- an end without the fixed part, as the code computes it
pub less_back : (l f : ℤ) → nat_abs l ≤ 200000000 → nat_abs f ≤ 120000000 → to_z w64 (of_z w64 (to_z w64 (of_z w64 l) -ℤ to_z w64 (of_z w64 f))) ≡ l -ℤ f
less_back l f h k = rw (back l (omega arith), back f (omega arith)) (back (l -ℤ f) (omega (arith, ints)))

-- both ends are present, and x and y are they without the fixed part
pub misses_by : {x y : ℤ} (b : Bool) (g : ℕ) (f : ℤ) (lo up : Option ℤ) (l u : ℤ) → lo ≡ Some l → up ≡ Some u → x ≡ l -ℤ f → y ≡ u -ℤ f → 2 ≤ g
    → b ≡ no_multiple g x y → b ≡ misses g f lo up
misses_by {x} {y} b g f lo up l u p q d e h n =
    n
    ∙ ap (λ (z : ℤ). no_multiple g z y) d
    ∙ ap (no_multiple g (l -ℤ f)) e
    ∙ ap (λ (t : Bool). t && no_multiple g (l -ℤ f) (u -ℤ f)) (sym (le-leb 2 g h))
    ∙ ap (λ (o : Option ℤ). misses g f o (Some u)) (sym p)
    ∙ ap (misses g f lo) (sym q)

-- ---- the rows from i on

found_by : (misses : Bool) (x l : Leaf) (later : Option Leaf) → cond misses (Some x) None ≡ Some l → cond misses (Some x) later ≡ Some l
found_by true x l later e = e
found_by false x l later e = none_some l e

later_by : (misses : Bool) (x : Leaf) (later : Option Leaf) → cond misses (Some x) None ≡ None → later ≡ cond misses (Some x) later
later_by true x later e = some_none x e
later_by false x later e = refl

module _ (rows : List (List ℤ)) (box : Box) where
  -- what is found from row i on
  abbrev pub missed_from : ℕ → Option Leaf
  missed_from i = missing rows box i (drop i rows)

  pub none_missed : missed_from (length rows) ≡ None
  none_missed = rw (drop_all (length rows) rows (omega arith)) refl

  module _ (i : ℕ) (h : i < length rows) where
    pub missed_at : (l : Leaf) → missed_leaf rows box i ≡ Some l → missed_from i ≡ Some l
    missed_at l e =
        let g = free_gcd (get_or rows i []) box.vars in
        rw (drop_more rows i [] h) (found_by (row_misses rows box i g) (divisor i g) l (missing rows box (suc i) (drop (i + 1) rows)) e)

    pub met_at : missed_leaf rows box i ≡ None → missed_from (i + 1) ≡ missed_from i
    met_at e =
        let g = free_gcd (get_or rows i []) box.vars in
        rw (drop_more rows i [] h, add-one) (later_by (row_misses rows box i g) (divisor i g) (missing rows box (suc i) (drop (suc i) rows)) e)
