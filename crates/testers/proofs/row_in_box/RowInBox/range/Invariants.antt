use Rattle.std.proofs.Common.{◌≡◌, ◌*◌, ◌≤◌, length, drop, ◌+ℤ◌, nat_abs}
use Rattle.testers.specs.Halving.{least, greatest}
use Rattle.testers.proofs.row_in_box.RowInBox.range.Given as goal

abbrev pub invariant-loop-a : goal.invariant-loop-a
invariant-loop-a l =
    let i = length l.yielded in
    record {
      least_so_far : l.sum.lower +ℤ least (drop i l.self.coefs.now) (drop i l.self.vars.now) ≡ least l.self.coefs.now l.self.vars.now;
      greatest_so_far : l.sum.upper +ℤ greatest (drop i l.self.coefs.now) (drop i l.self.vars.now) ≡ greatest l.self.coefs.now l.self.vars.now;
      small : (nat_abs l.sum.lower ≤ i * 10000000) × (nat_abs l.sum.upper ≤ i * 10000000);
    }
