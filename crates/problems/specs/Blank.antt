-- No variables.
use Rattle.std.proofs.Common.{lit≤}
use Rattle.std.specs.Prelude.{replicate, refl}
use Rattle.problems.specs.declared.vars.Vars.{Vars}
use Rattle.problems.specs.Box.{nowhere}

abbrev pub no_vars : Vars
no_vars = record { spans = replicate 12 nowhere; n = 0; few = lit≤ tt; long = refl; proper = refl }
