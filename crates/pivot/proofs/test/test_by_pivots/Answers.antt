use Rattle.problems.specs.View.{box_of, rows_of}
use Rattle.problems.proofs.Views.{proper}
use Rattle.tableau.proofs.Sounds.{every_tableau_sound}
use Rattle.pivot.proofs.test.test_by_pivots.Goals as goal

pub returns : goal.returns
returns c =
    let p = c.args.problem.now in
    record { answer = c.answer_within.ensures; tableaux = every_tableau_sound (rows_of p) (box_of p) (proper p) }
