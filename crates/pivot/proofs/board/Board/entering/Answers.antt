use Rattle.std.proofs.Common.{length, get_or, not, ◌&&◌, eqb, pos, sym, refl, ◌∙◌, arith, w64, to_z, of_z, rules, tests}
use Rattle.std.proofs.lemmas.Iterator.{YieldsList-from_range}
use Rattle.std.proofs.lemmas.Iterator.Search.{find_from_yields_List}
use Rattle.std.proofs.lemmas.Iterator.Adapters.{option_map_id}
use Rattle.problems.specs.Box.{no_ends}
use Rattle.tableau.specs.Choices.{entering, suitable}
use Rattle.pivot.specs.Shapes.{seen}
use Rattle.pivot.proofs.Picks.{fit, fit_at, find_range}
use Rattle.pivot.proofs.board.Board.entering.Goals as goal

pub returns : goal.returns
returns c =
    let side = c.args.side in
    let l = c.args.line.now in
    let x = c.args.self.now.values.now in
    let es = c.args.self.now.ends.now in
    let k = length x in
    sym (option_map_id c.find.result)
    ∙ find_from_yields_List
    (λ q. not (eqb q l.basic) && suitable side (to_z w64 (of_z w64 (get_or l.nums q (pos 0)))) (to_z w64 (of_z w64 (get_or x q (pos 0)))) (get_or es q no_ends))
    _ _ c.find.result c.find.ensures.ran (YieldsList-from_range 0 k k (search rules) (omega arith)) (λ q b f h. search (rules, tests))
    ∙ find_range (entering side es x (seen k l)) _ (fit side es x (seen k l)) k (λ _. refl) (λ _ _. refl) (fit_at side es x l k c.requires c.args.self.now.small) 0 k (omega arith)
