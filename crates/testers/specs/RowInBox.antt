-- Which row of a problem a row in a box is.
use Rattle.std.specs.Prelude.{◌≡◌, ℕ, List, [], ℤ, slice_index_or}
use Rattle.problems.specs.Box.{Box, no_ends}
use Rattle.testers.specs.declared.row_in_box.RowInBox.{RowInBox}

-- row i of the rows and the box, over the ends of its variables
pub record IsRow (rows : List (List ℤ)) (box : Box) (i : ℕ) (r : RowInBox) : Type 0 where
  pub numbered : r.number ≡ i
  pub coefs : r.coefs.now ≡ slice_index_or rows i []
  pub vars : r.vars.now ≡ box.vars
  pub ends : r.ends ≡ slice_index_or box.rows i no_ends
