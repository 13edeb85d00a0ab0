use Rattle.std.proofs.Common.{◌∙◌, ◌&&◌, List, length, map, take, refl, rules, tests}
use Rattle.std.specs.List.{list_all}
use Rattle.std.proofs.lemmas.Iterator.{YieldsList-from_slice}
use Rattle.std.proofs.lemmas.Iterator.Search.{all_from_yields_List}
use Rattle.std.proofs.lemmas.List.Recursion.{same_from_clauses}
use Rattle.problems.specs.Whole.{all_within}
use Rattle.tableau.specs.declared.line.Line.{Line}
use Rattle.tableau.specs.Tableau.{small_lines}
use Rattle.pivot.specs.Shapes.{seen}
use Rattle.pivot.proofs.board.Board.are_small.Goals as goal

pub returns : goal.returns
returns c =
    let ls = c.args.lines.now in
    let k = length c.args.self.now.values.now in
    let small = λ (l : Line). all_within 1000000000 (take k l.nums) in
    all_from_yields_List small _ _ _ c.all.ensures.ran (YieldsList-from_slice ls (cc)) (λ x b q h. search (rules, tests))
    ∙ same_from_clauses (list_all small) (λ (m : List Line). small_lines (map (seen k) m)) (λ l b. small l && b) refl (λ _ _. refl) (λ _ _. refl) ls
