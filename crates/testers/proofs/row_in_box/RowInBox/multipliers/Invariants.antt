use Rattle.std.proofs.Common.{◌≡◌, ◌-◌, ◌++◌, take, replicate, pos, neg_ℤ}
use Rattle.problems.specs.Rows.{scale}
use Rattle.testers.proofs.row_in_box.RowInBox.multipliers.Given as goal

abbrev pub invariant-loop-j : goal.invariant-loop-j
invariant-loop-j l = l.all ≡ scale (neg_ℤ l.z) (take l.j l.self.coefs.now) ++ replicate (24 - l.j) (pos 0)
