use Rattle.std.proofs.Common.{◌≡◌, ◌*◌, ◌≤◌, length, drop, ◌+ℤ◌, nat_abs}
use Rattle.testers.specs.Leaf.{fixed_part}
use Rattle.layers.proofs.divisor.fixed_part.Given as goal

abbrev pub invariant-loop-a : goal.invariant-loop-a
invariant-loop-a l =
    let i = length l.yielded in
    record {
      so_far : l.sum +ℤ fixed_part (drop i l.row.coefs.now) (drop i l.row.vars.now) ≡ fixed_part l.row.coefs.now l.row.vars.now;
      small : nat_abs l.sum ≤ i * 10000000;
    }
