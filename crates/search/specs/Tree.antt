-- A tree of splits with a leaf for each box that is left.
use Rattle.std.specs.Prelude.{◌≡◌, ℕ, suc, ◌+◌, max, true, ◌&&◌, List, ◌++◌, ℤ}
use Rattle.problems.specs.Box.{Box, splits, lower_half, upper_half}
use Rattle.testers.specs.Leaf.{Leaf, formed, lawful}
use Rattle.search.specs.Bytes.{leaf_bytes, split_bytes}

pub data Tree : Type 0 where
  leaf : Leaf → Tree
  node : (v : ℕ) (k : ℤ) (lower upper : Tree) → Tree

-- every split lies within the ends of its box, and every leaf is lawful for its own
abbrev pub LawfulTree : List (List ℤ) → Box → Tree → Type 0
LawfulTree rows box (leaf l) = (formed rows box l && lawful rows box l) ≡ true
LawfulTree rows box (node v k t u) = (splits v k box.vars ≡ true) × LawfulTree rows (lower_half v k box) t × LawfulTree rows (upper_half v k box) u

-- the most splits on the way to a leaf
abbrev pub depth : Tree → ℕ
depth (leaf l) = 0
depth (node v k t u) = suc (max (depth t) (depth u))

-- how many entries
abbrev pub entries : Tree → ℕ
entries (leaf l) = 1
entries (node v k t u) = suc (entries t + entries u)

abbrev pub tree_bytes : Tree → List ℕ
tree_bytes (leaf l) = leaf_bytes l
tree_bytes (node v k t u) = split_bytes v k ++ (tree_bytes t ++ tree_bytes u)

-- the bytes are those of a lawful tree of e entries
pub record OfLawfulTree (rows : List (List ℤ)) (box : Box) (bs : List ℕ) (e : ℕ) : Type 0 where
  pub tree : Tree
  pub is_lawful : LawfulTree rows box tree
  pub its_bytes : bs ≡ tree_bytes tree
  pub its_entries : e ≡ entries tree
