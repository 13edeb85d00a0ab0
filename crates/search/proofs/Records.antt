-- The record of a searched none is the encoding of a lawful tree.
use Rattle.std.proofs.Common.{◌≡◌, ℕ, ◌+◌, ◌*◌, ◌≤◌, List, [], ◌∷◌, ◌++◌, ℤ, sym, refl, ap, ◌∙◌, subst, append_assoc, arith}
use Rattle.std.proofs.lemmas.List.{append-nil}
use Rattle.search.proofs.Steps.{Cases, by_steps}
use Rattle.search.proofs.Searches.{spent_none, plan_none}
use Rattle.problems.specs.Box.{Box, upper_half, Proper}
use Rattle.testers.specs.Leaf.{Uses}
use Rattle.search.specs.Bytes.{leaf_bytes, split_bytes}
use Rattle.testers.specs.Tester.{Meaning, KeepsLaws}
use Rattle.search.specs.Search.{Search, Open, Found, nothing_yet, search_box}
use Rattle.search.specs.Search.Verdict.{none}
use Rattle.search.specs.Tree.{Tree, LawfulTree, OfLawfulTree, depth, entries, tree_bytes}
use Rattle.search.specs.Tree.Tree.{leaf, node}

-- a tree for the upper half of each open split
pub data Forest (rows : List (List ℤ)) : List Open → List ℕ → ℕ → Type 0 where
  done : Forest rows [] [] 0
  more : {o : Open} {os : List Open} {bs : List ℕ} {e : ℕ} (t : Tree) → LawfulTree rows (upper_half o.variable o.at o.box) t → Forest rows os bs e
      → Forest rows (o ∷ os) (tree_bytes t ++ bs) (entries t + e)

pub record Grown (rows : List (List ℤ)) (s : Search) (f : Found) : Type 0 where
  pub tree : Tree
  pub is_lawful : LawfulTree rows s.box tree
  pub forest_bytes : List ℕ
  pub forest_entries : ℕ
  pub forest : Forest rows s.open_splits forest_bytes forest_entries
  pub written : f.bytes ≡ s.bytes ++ (tree_bytes tree ++ forest_bytes)
  pub counted : f.boxes ≡ s.boxes + (entries tree + forest_entries)

abbrev RecordGrown : List (List ℤ) → ℕ → Search → Found → Type 0
RecordGrown rows b s f = (u : Uses) → f.verdict ≡ none u → Grown rows s f

taken : (rows : List (List ℤ)) (o : Open) (os : List Open) (bs : List ℕ) (e : ℕ) → Forest rows (o ∷ os) bs e
    → (t : Tree) × LawfulTree rows (upper_half o.variable o.at o.box) t × (cs : List ℕ) × (d : ℕ) × Forest rows os cs d × (bs ≡ tree_bytes t ++ cs) × (e ≡ entries t + d)
taken rows o os bs e (more {bs = cs} {e = d} t l f) = (t, l, cs, d, f, refl, refl)

grow_cases : (rows : List (List ℤ)) (root : Box) → Cases rows root (RecordGrown rows)
grow_cases rows root =
    record {
      at_spent = λ s fine u e. spent_none u e;
      at_last = λ b s l fine law e u h.
          record {
            tree = leaf l;
            is_lawful = law;
            forest_bytes = [];
            forest_entries = 0;
            forest = subst (λ os. Forest rows os [] 0) (sym e) done;
            written = ap (λ r. s.bytes ++ r) (sym (append-nil (leaf_bytes l)));
            counted = omega arith;
          };
      at_leaf = λ b s l o os f fine law e ih u h.
          let r = ih u h in
          record {
            tree = leaf l;
            is_lawful = law;
            forest_bytes = tree_bytes r.tree ++ r.forest_bytes;
            forest_entries = entries r.tree + r.forest_entries;
            forest = subst (λ os. Forest rows os (tree_bytes r.tree ++ r.forest_bytes) (entries r.tree + r.forest_entries)) (sym e) (more r.tree r.is_lawful r.forest);
            written = r.written ∙ append_assoc s.bytes (leaf_bytes l) (tree_bytes r.tree ++ r.forest_bytes);
            counted = omega (arith, r.counted);
          };
      at_point = λ b s x fine p u e. plan_none x u e;
      at_split = λ b s v k f fine law ih u h.
          let r = ih u h in
          let w = taken rows _ _ _ _ r.forest in
          record {
            tree = node v k r.tree w.0;
            is_lawful = (law, r.is_lawful, w.1);
            forest_bytes = w.2;
            forest_entries = w.3;
            forest = w.4;
            written = r.written ∙ ap (λ bs. (s.bytes ++ split_bytes v k) ++ (tree_bytes r.tree ++ bs)) w.5 ∙ simp append_assoc;
            counted = omega (arith, r.counted, w.6);
          };
    }

empty_forest : (rows : List (List ℤ)) (bs : List ℕ) (e : ℕ) → Forest rows [] bs e → (bs ≡ []) × (e ≡ 0)
empty_forest rows bs e done = (refl, refl)

pub none_record : (tester : Meaning) → KeepsLaws tester → (rows : List (List ℤ)) (box : Box) → Proper rows box → (budget : ℕ) (u : Uses)
    → (search_box tester rows box budget).verdict ≡ none u → OfLawfulTree rows box (search_box tester rows box budget).bytes (search_box tester rows box budget).boxes
none_record tester laws rows box p budget u e =
    let g = by_steps rows box (RecordGrown rows) (grow_cases rows box) tester laws budget (nothing_yet box) (record { box_proper = p; opens = tt }) u e in
    let f = empty_forest rows _ _ g.forest in
    record {
      tree = g.tree;
      is_lawful = g.is_lawful;
      its_bytes = g.written ∙ ap (λ bs. tree_bytes g.tree ++ bs) f.0 ∙ append-nil (tree_bytes g.tree);
      its_entries = omega (arith, g.counted, f.1);
    }

-- a tree has more than twice as many entries as it is deep
pub deep : (t : Tree) → 2 * depth t + 1 ≤ entries t
deep (leaf l) = omega arith
deep (node v k t u) = omega (arith, deep t, deep u)
