use Rattle.std.proofs.Common.{pos, ◌∙◌, length-set}
use Rattle.problems.proofs.Builds.{addable, few_coefs, padded_all, padded_row, rows_set, stated_more}
use Rattle.problems.proofs.problem.Problem.push_row.Goals as goal

pub push-requires-clause-proper : goal.push-requires-clause-proper
push-requires-clause-proper c = (addable c.args.coefs.now c.args.ends c.args.self.now c.requires).ends

pub invariant_of-self : goal.invariant_of-self
invariant_of-self c =
    let p = c.args.self.now in
    let a = addable c.args.coefs.now c.args.ends p c.requires in
    let row = padded_row p c.args.coefs.now c.args.ends a c.padded.result c.padded.ensures.value in
    record { long = length-set p.rows p.ends.m _ ∙ p.long; proper = rows_set p.rows p.ends.m _ p.proper row }

pub returns : goal.returns
returns c =
    let p = c.args.self.now in
    let av = c.args.coefs.now in
    let a = addable av c.args.ends p c.requires in
    stated_more p av c.padded.result c.args.ends a (c.padded.ensures.value ∙ padded_all av 12 (pos 0) (few_coefs p av c.args.ends a)) c.push.new.self c.push.ensures.vars c.push.ensures.rows c.push.ensures.count
