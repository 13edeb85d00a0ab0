-- What a run keeps from tableau to tableau, and how it ends: statements that the proofs of its laws share.
use Rattle.std.proofs.Common.{◌≡◌, ℕ, ◌+◌, ◌<◌, true, List, length, get_or, ℤ, pos}
use Rattle.problems.specs.declared.quantity.RowEnds.{RowEnds}
use Rattle.problems.specs.Box.{Box, no_ends}
use Rattle.tableau.specs.declared.run.Step.TheVariants.{Standing, Stuck}
use Rattle.tableau.specs.declared.run.Stop.{Stop}
use Rattle.tableau.specs.declared.run.Stop.TheVariants.{Stands, Fails, GaveWay}
use Rattle.tableau.specs.Lines.{blank, start_lines}
use Rattle.tableau.specs.Tableau.{Tableau, ends_of, small_lines, look}
use Rattle.tableau.specs.Sound.{Solved, Hold, DividesAll, Nonbasic, AtAnEnd}

-- the number of quantities
abbrev pub quantities : List (List ℤ) → Box → ℕ
quantities rows box = length box.vars + length rows

pub record Kept (rows : List (List ℤ)) (box : Box) (t : Tableau) : Type 0 where
  pub solved : Solved t.lines
  pub inside : (i : ℕ) → i < length t.lines → (get_or t.lines i blank).basic < quantities rows box
  pub long : (i : ℕ) → i < length t.lines → length (get_or t.lines i blank).nums ≡ quantities rows box
  pub wide : length t.values ≡ quantities rows box
  -- a basic quantity has the value 0 in the list
  pub zero_at : (i : ℕ) → i < length t.lines → get_or t.values (get_or t.lines i blank).basic (pos 0) ≡ pos 0
  pub at_ends : (q : ℕ) → q < quantities rows box → Nonbasic t.lines q → AtAnEnd (get_or (ends_of box) q no_ends) (get_or t.values q (pos 0))
  -- the lines hold at the same points as those of the start, whatever the numbers
  pub onward : (z : List ℤ) → Hold (start_lines (length rows) 0 rows) z → Hold t.lines z
  pub back : (z : List ℤ) → Hold t.lines z → Hold (start_lines (length rows) 0 rows) z
  pub reduced : (i g : ℕ) → i < length t.lines → DividesAll g (get_or t.lines i blank).nums → g ≡ 1

-- where a run stops, the last look says why, and no number is too large unless it gave way
abbrev pub Ended : List RowEnds → ℕ → Tableau → Stop → Type 0
Ended ends k t Stands = (look ends k t ≡ Standing) × (small_lines t.lines ≡ true)
Ended ends k t (Fails f) = (look ends k t ≡ Stuck f) × (small_lines t.lines ≡ true)
Ended ends k t GaveWay = Unit {0}
