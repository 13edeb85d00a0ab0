-- The search of a box by splits, box by box.
use Rattle.std.specs.Prelude.{ℕ, zero, suc, max, Bool, false, ◌&&◌, ◌||◌, List, [], ◌∷◌, ◌++◌, length, ℤ, slice_index_or}
use Rattle.problems.specs.declared.quantity.Span.{Span}
use Rattle.problems.specs.declared.quantity.Side.{Side}
use Rattle.problems.specs.Whole.{eq_z}
use Rattle.problems.specs.Box.{Box, nowhere, span_end, lower_half, upper_half}
use Rattle.testers.specs.Leaf.{Leaf, Uses, uses}
use Rattle.search.specs.Bytes.{leaf_bytes, split_bytes}
use Rattle.testers.specs.Tester.{Answer, Meaning}
use Rattle.testers.specs.Tester.Answer.{empty, point, split}

-- ---- the standing ends used so far

-- the end of variable i is still that of root: a split always changes the end that it replaces
abbrev pub still_standing : List Span → List Span → Side → ℕ → Bool
still_standing root ss side i = eq_z (span_end side (slice_index_or ss i nowhere)) (span_end side (slice_index_or root i nowhere))

-- the standing ends of root that a leaf of the box uses, with those used so far
abbrev pub also_used : List (List ℤ) → Box → Box → Leaf → Uses → Uses
also_used rows root box l u =
    let now = uses rows box l in
    record {
      vars = λ side i. u.vars side i || (now.vars side i && still_standing root.vars box.vars side i);
      rows = λ side i. u.rows side i || now.rows side i;
    }

abbrev pub unused : Uses
unused = record { vars = λ side i. false; rows = λ side i. false }

-- ---- the steps

-- a split with an untested upper half
pub record Open : Type 0 where
  pub variable : ℕ
  pub at : ℤ
  pub box : Box

-- the box that waits, the open splits, the latest first, and what has been told so far
pub record Search : Type 0 where
  pub box : Box
  pub open_splits : List Open
  pub boxes : ℕ
  pub bytes : List ℕ
  pub used : Uses
  pub deepest : ℕ

pub data Verdict : Type 0 where
  plan : List ℤ → Verdict
  none : Uses → Verdict
  spent : Verdict

pub record Found : Type 0 where
  pub verdict : Verdict
  pub boxes : ℕ
  pub bytes : List ℕ
  pub deepest : ℕ

abbrev pub ends_with : Verdict → Search → Found
ends_with v s = record { verdict = v; boxes = s.boxes; bytes = s.bytes; deepest = s.deepest }

-- the leaf is written, and its standing ends are noted
abbrev pub with_leaf : List (List ℤ) → Box → Leaf → Search → Search
with_leaf rows root l s =
    record {
      box = s.box;
      open_splits = s.open_splits;
      boxes = suc s.boxes;
      bytes = s.bytes ++ leaf_bytes l;
      used = also_used rows root s.box l s.used;
      deepest = s.deepest;
    }

-- the upper half of the open split o is taken up
abbrev pub take_up : Open → List Open → Search → Search
take_up o os s =
    record { box = upper_half o.variable o.at o.box; open_splits = os; boxes = s.boxes; bytes = s.bytes; used = s.used; deepest = s.deepest }

-- the split is written, and its lower half waits
abbrev pub with_split : ℕ → ℤ → Search → Search
with_split v k s =
    let os = record { variable = v; at = k; box = s.box } ∷ s.open_splits in
    record {
      box = lower_half v k s.box;
      open_splits = os;
      boxes = suc s.boxes;
      bytes = s.bytes ++ split_bytes v k;
      used = s.used;
      deepest = max s.deepest (length os);
    }

abbrev pub with_point : Search → Search
with_point s =
    record { box = s.box; open_splits = s.open_splits; boxes = suc s.boxes; bytes = s.bytes; used = s.used; deepest = s.deepest }

-- after a leaf: the latest open split, else none
abbrev pub next : (Search → Found) → Search → List Open → Found
next further s [] = ends_with (none s.used) s
next further s (o ∷ os) = further (take_up o os s)

-- what the answer for the waiting box leads to
abbrev pub told : List (List ℤ) → Box → (Search → Found) → Search → Answer → Found
told rows root further s (empty l) = next further (with_leaf rows root l s) s.open_splits
told rows root further s (point x) = ends_with (plan x) (with_point s)
told rows root further s (split v k) = further (with_split v k s)

-- at most so many boxes more are tested
abbrev pub search_on : Meaning → List (List ℤ) → Box → ℕ → Search → Found
search_on tester rows root zero s = ends_with spent s
search_on tester rows root (suc b) s = told rows root (search_on tester rows root b) s (tester rows s.box)

abbrev pub nothing_yet : Box → Search
nothing_yet box = record { box = box; open_splits = []; boxes = 0; bytes = []; used = unused; deepest = 0 }

abbrev pub search_box : Meaning → List (List ℤ) → Box → ℕ → Found
search_box tester rows box budget = search_on tester rows box budget (nothing_yet box)
