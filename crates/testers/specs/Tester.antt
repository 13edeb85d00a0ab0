-- What a tester means: one fixed answer to each pair of rows and a box.
use Rattle.std.specs.Prelude.{◌≡◌, ℕ, true, ◌&&◌, List, ℤ}
use Rattle.problems.specs.Box.{Box, IsPlan, splits, Proper}
use Rattle.testers.specs.Leaf.{Leaf, formed, lawful}

pub data Answer : Type 0 where
  empty : Leaf → Answer
  point : List ℤ → Answer
  split : (v : ℕ) (k : ℤ) → Answer

abbrev pub Meaning : Type 0
Meaning = List (List ℤ) → Box → Answer

-- a leaf that is lawful for the rows and the box; a plan of the box; a variable and k with lower end ≤ k < upper end
abbrev pub LawfulAnswer : List (List ℤ) → Box → Answer → Type 0
LawfulAnswer rows box (empty l) = (formed rows box l && lawful rows box l) ≡ true
LawfulAnswer rows box (point x) = IsPlan rows box x
LawfulAnswer rows box (split v k) = splits v k box.vars ≡ true

abbrev pub KeepsLaws : Meaning → Type 0
KeepsLaws meaning = (rows : List (List ℤ)) (box : Box) → Proper rows box → LawfulAnswer rows box (meaning rows box)
