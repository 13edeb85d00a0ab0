use Rattle.std.proofs.Common.{sym, subst}
use Rattle.testers.specs.Leaf.{formed, lawful}
use Rattle.testers.specs.Tester.{LawfulAnswer}
use Rattle.problems.specs.View.{box_of, rows_of}
use Rattle.testers.specs.Told.{leaf_in}
use Rattle.problems.proofs.Views.{proper}
use Rattle.search.proofs.walk.Walk.step.Goals as goal
use Rattle.std.proofs.lemmas.Bool.{and_parts}

pub refute-requires-clause-formed : goal.refute-requires-clause-formed
refute-requires-clause-formed g c =
    let p = c.args.self.now.at in
    let law = g.met.T.Tester.lawful c.args.tester.now (rows_of p) (box_of p) (proper p) in
    let l = leaf_in p.ends.vars.n p.ends.m c.in-Empty.leaf in
    let h = subst (LawfulAnswer (rows_of p) (box_of p)) (sym c.in-Empty.ensures.answer) law in
    (and_parts (formed (rows_of p) (box_of p) l) (lawful (rows_of p) (box_of p) l) h).0

pub divide-requires-clause-splits : goal.divide-requires-clause-splits
divide-requires-clause-splits g c =
    let p = c.args.self.now.at in
    let law = g.met.T.Tester.lawful c.args.tester.now (rows_of p) (box_of p) (proper p) in
    subst (LawfulAnswer (rows_of p) (box_of p)) (sym c.in-Split.ensures.answer) law
