use Rattle.std.proofs.Common.{◌≡◌, length, drop}
use Rattle.testers.specs.Gcd.{gcd}
use Rattle.layers.specs.Divisor.{free_gcd}
use Rattle.layers.proofs.divisor.free_gcd.Given as goal

abbrev pub invariant-loop-coef : goal.invariant-loop-coef
invariant-loop-coef l =
    let i = length l.yielded in
    gcd l.g (free_gcd (drop i l.row.coefs.now) (drop i l.row.vars.now)) ≡ free_gcd l.row.coefs.now l.row.vars.now
