-- A problem as it is stated, and how one is made.
use Rattle.std.specs.Prelude.{Bool, ◌&&◌, List, [], ◌∷◌, ◌++◌, length, ℤ, nat_le, nat_lt}
use Rattle.problems.specs.declared.quantity.Span.{Span}
use Rattle.problems.specs.declared.quantity.RowEnds.{RowEnds}
use Rattle.problems.specs.declared.problem.Problem.{Problem}
use Rattle.problems.specs.Ranges.{spans_proper, ends_proper, row_proper}
use Rattle.problems.specs.Box.{Box, nowhere}
use Rattle.problems.specs.View.{rows_of, box_of}

-- the rows and the box
pub record Stated : Type 0 where
  pub rows : List (List ℤ)
  pub box : Box

abbrev pub stated : Problem → Stated
stated p = record { rows = rows_of p; box = box_of p }

-- these variables and no row
abbrev pub without_rows : List Span → Stated
without_rows ss = record { rows = []; box = record { vars = ss; rows = [] } }

-- one variable, 0..0
abbrev pub one_point : Stated
one_point = without_rows (nowhere ∷ [])

-- 1 to 12 variables, each in order and in range
abbrev pub may_vary : List Span → Bool
may_vary ss = nat_le 1 (length ss) && nat_le (length ss) 12 && spans_proper ss

-- one more row at the end
abbrev pub with_row : List ℤ → RowEnds → Stated → Stated
with_row av e p =
    record { rows = p.rows ++ (av ∷ []); box = record { vars = p.box.vars; rows = p.box.rows ++ (e ∷ []) } }

-- fewer than 12 rows, a coefficient for each variable, each number in its range, and the ends in order
abbrev pub may_add : List ℤ → RowEnds → Stated → Bool
may_add av e p = nat_lt (length p.rows) 12 && row_proper (length p.box.vars) av && ends_proper e
