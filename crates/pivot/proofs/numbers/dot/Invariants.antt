use Rattle.std.proofs.Common.{◌≡◌, ◌*◌, ◌≤◌, length, drop, ◌+ℤ◌, nat_abs}
use Rattle.problems.specs.Rows.{dot}
use Rattle.pivot.proofs.numbers.dot.Given as goal

abbrev pub invariant-loop-number : goal.invariant-loop-number
invariant-loop-number l =
    (l.sum +ℤ dot (drop (length l.yielded) l.a) (drop (length l.yielded) l.x) ≡ dot l.a l.x) × (nat_abs l.sum ≤ length l.yielded * 200000000000000000)
