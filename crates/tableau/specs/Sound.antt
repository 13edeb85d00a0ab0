-- What holds of every tableau of a run.
use Rattle.std.specs.Prelude.{◌≡◌, ℕ, ◌+◌, ◌<◌, ◌⊎◌, List, [], ◌∷◌, ◌++◌, length, get_or, ℤ, pos, ◌<ℤ◌, Some, ◌≢◌, slice_index_or, unsigned_abs}
use Rattle.problems.specs.declared.quantity.RowEnds.{RowEnds}
use Rattle.problems.specs.Rows.{dot, values}
use Rattle.problems.specs.Box.{Box, no_ends}
use Rattle.testers.specs.Gcd.{Divides}
use Rattle.tableau.specs.declared.line.Line.{Line}
use Rattle.tableau.specs.Lines.{blank, den}
use Rattle.tableau.specs.Tableau.{Tableau, ends_of, run_on}

-- each line is below 0 at its own basic quantity, and 0 at those of the others
pub record Solved (ls : List Line) : Type 0 where
  pub own : (i : ℕ) → i < length ls → slice_index_or (get_or ls i blank).nums (get_or ls i blank).basic (pos 0) <ℤ pos 0
  pub other : (i j : ℕ) → i < length ls → j < length ls → (i ≢ j) → slice_index_or (get_or ls i blank).nums (get_or ls j blank).basic (pos 0) ≡ pos 0

-- every d is above 0
abbrev pub DensOk : List Line → Type 0
DensOk [] = Unit {0}
DensOk (l ∷ ls) = (pos 0 <ℤ den l) × DensOk ls

-- every line's equation holds at the point
abbrev pub Hold : List Line → List ℤ → Type 0
Hold [] z = Unit {0}
Hold (l ∷ ls) z = (dot l.nums z ≡ pos 0) × Hold ls z

-- g divides every number
abbrev pub DividesAll : ℕ → List ℤ → Type 0
DividesAll g [] = Unit {0}
DividesAll g (a ∷ av) = Divides g (unsigned_abs a) × DividesAll g av

-- no line has q as its basic quantity
abbrev pub Nonbasic : List Line → ℕ → Type 0
Nonbasic ls q = (i : ℕ) → i < length ls → (get_or ls i blank).basic ≢ q

-- x is the lower end or the upper end, and that end is present
abbrev pub AtAnEnd : RowEnds → ℤ → Type 0
AtAnEnd e x = (e.lower ≡ Some x) ⊎ (e.upper ≡ Some x)

pub record Sound (rows : List (List ℤ)) (box : Box) (t : Tableau) : Type 0 where
  -- the lines are solved for their basic quantities
  pub solved : Solved t.lines
  -- with x for the variables and y for the rows, all lines hold exactly where y is what the rows come to at x
  pub rows_hold : (x y : List ℤ) → length x ≡ length box.vars → length y ≡ length rows → Hold t.lines (x ++ y) → y ≡ values rows x
  pub lines_hold : (x y : List ℤ) → length x ≡ length box.vars → length y ≡ length rows → y ≡ values rows x → Hold t.lines (x ++ y)
  -- the numbers of a line have no common divisor but 1
  pub reduced : (i g : ℕ) → i < length t.lines → DividesAll g (get_or t.lines i blank).nums → g ≡ 1
  -- each nonbasic quantity sits at a present end
  pub at_ends : (q : ℕ) → q < length box.vars + length rows → Nonbasic t.lines q → AtAnEnd (slice_index_or (ends_of box) q no_ends) (slice_index_or t.values q (pos 0))

-- a run with so many pivots at most stops at a sound tableau; so every tableau of every run is sound
abbrev pub EveryTableauSound : List (List ℤ) → Box → Type 0
EveryTableauSound rows box = (pivots : ℕ) → Sound rows box (run_on pivots rows box).tableau
