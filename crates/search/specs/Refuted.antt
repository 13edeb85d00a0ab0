-- What a leaf in the code says of its problem.
use Rattle.testers.specs.Leaf.{Leaf}
use Rattle.testers.specs.Told.{leaf_in}
use Rattle.search.specs.declared.refutation.Refutation.{Refutation}

abbrev pub leaf_of : Refutation → Leaf
leaf_of r = leaf_in r.problem.now.ends.vars.n r.problem.now.ends.m r.leaf.now
