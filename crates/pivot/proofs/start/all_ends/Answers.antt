use Rattle.std.proofs.Common.{◌≡◌, ℕ, ◌+◌, ◌-◌, ◌<◌, ◌≤◌, List, ◌++◌, map, length, get_or, take, set, replicate, ap, ◌∙◌, arith, rules}
use Rattle.std.proofs.lemmas.List.{length-append, length-map, take_at}
use Rattle.std.proofs.lemmas.Slice.{take-put_mid}
use Rattle.problems.specs.declared.quantity.RowEnds.{RowEnds}
use Rattle.problems.specs.declared.quantity.Span.{Span}
use Rattle.problems.specs.Box.{no_ends, nowhere}
use Rattle.tableau.specs.Tableau.{span_ends}
use Rattle.pivot.proofs.Begins.{table_next, table_end}
use Rattle.pivot.proofs.start.all_ends.Goals as goal

-- the ends of one variable more are written
written : (ss : List Span) (all : List RowEnds) (v : ℕ) (e : RowEnds) → all ≡ map span_ends (take v ss) ++ replicate (24 - v) no_ends → v < length ss → length ss ≤ 24
    → e ≡ span_ends (get_or ss v nowhere) → set all v e ≡ map span_ends (take (v + 1) ss) ++ replicate (24 - (v + 1)) no_ends
written ss all v e i h f p = ap (λ t. set t v e) i ∙ table_next span_ends no_ends 24 ss v e nowhere h f p

pub loop-v-preserved : goal.loop-v-preserved
loop-v-preserved c = written c.args.vars.now c.loop-v.all c.loop-v.v _ c.loop-v.invariant (omega arith) (omega (arith, c.requires.variables)) (search rules)

pub returns : goal.returns
returns c =
    let ss = c.args.vars.now in
    let es = c.args.rows.now in
    let n = length ss in
    let past = replicate (24 - n) no_ends in
    let all : c.loop-v.all ≡ map span_ends ss ++ past = c.loop-v.invariant ∙ table_end span_ends no_ends 24 ss c.loop-v.v (omega arith) (omega arith) in
    let room : n ≤ length c.loop-v.all = omega (arith, ap length all, length-append (map span_ends ss) past, length-map ss span_ends) in
    take-put_mid n _ c.loop-v.all c.copy_from_slice.new.self (n + length es) (omega (arith, ap length c.copy_from_slice.ensures.after)) room
    ∙ ap (λ (x : List RowEnds). take n x ++ c.copy_from_slice.new.self) all
    ∙ ap (λ (x : List RowEnds). x ++ c.copy_from_slice.new.self) (take_at (map span_ends ss) past n (length-map ss span_ends))
    ∙ ap (λ (x : List RowEnds). map span_ends ss ++ x) c.copy_from_slice.ensures.after
