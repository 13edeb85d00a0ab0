use Rattle.std.proofs.Common.{◌∙◌, w64, rules}
use Rattle.std.proofs.lemmas.Int.{to_z-of_z}
use Rattle.testers.proofs.Lowers.{lower_got}
use Rattle.testers.proofs.halving.lower_at.Goals as goal

pub returns : goal.returns
returns c = to_z-of_z w64 c.map_or.result (search rules) ∙ lower_got c.args.vars.now c.args.v c.get.result c.map_or.result c.get.ensures.lookup (search rules)
