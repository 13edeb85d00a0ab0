-- A plan meets every end, so a box with a lawful leaf has none.
use Rattle.std.proofs.Common.{List, ℤ}
use Rattle.problems.specs.Rows.{values}
use Rattle.problems.specs.Box.{Box, IsPlan}
use Rattle.problems.proofs.Boxes.{inside_at, kept_at}
use Rattle.testers.specs.Leaf.{Uses, uses, LawfulLeafMeansNoPlan}
use Rattle.testers.specs.Leaves.{Meets, leaf_refutes}

pub plan_meets : (u : Uses) (rows : List (List ℤ)) (box : Box) (x : List ℤ) → IsPlan rows box x → Meets u rows box x
plan_meets u rows box x p =
    record {
      in_vars = record { from = λ i _. (inside_at box.vars x p.0 i).0; to = λ i _. (inside_at box.vars x p.0 i).1 };
      in_rows = record { from = λ i _. (kept_at box.rows (values rows x) p.1 i).0; to = λ i _. (kept_at box.rows (values rows x) p.1 i).1 };
    }

pub lawful_leaf_means_no_plan : LawfulLeafMeansNoPlan
lawful_leaf_means_no_plan rows box l p h x plan = leaf_refutes rows box l p.coefficients h x (plan_meets (uses rows box l) rows box x plan)
