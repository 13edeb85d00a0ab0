use Rattle.std.proofs.Common.{pos, refl, ap}
use Rattle.problems.specs.declared.vars.Vars.{Vars}
use Rattle.problems.specs.Blank.{no_vars}
use Rattle.problems.proofs.Views.{vars_same}
use Rattle.search.specs.declared.open_split.OpenSplit.{OpenSplit}
use Rattle.search.proofs.open_split.OpenSplitEntry.BLANK.Goals as goal

at_zero : Vars → OpenSplit
at_zero v = record { cut = (0, pos 0); vars = v }

pub returns : goal.returns
unfolding at_zero
returns c = ap at_zero (vars_same _ no_vars refl refl)
