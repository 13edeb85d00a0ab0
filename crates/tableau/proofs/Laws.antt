-- The pivot tester keeps the laws of a tester, at every limit.
use Rattle.std.proofs.Common.{◌≡◌, ℕ, false, List, ℤ, refl}
use Rattle.problems.specs.Box.{Box, Proper}
use Rattle.testers.specs.Tester.{KeepsLaws, LawfulAnswer}
use Rattle.testers.specs.Halving.{all_fixed, halving}
use Rattle.testers.specs.Halves.{halving_laws, middle_lawful}
use Rattle.tableau.specs.declared.run.Stop.{Stop}
use Rattle.tableau.specs.declared.run.Stop.TheVariants.{Stands, Fails, GaveWay}
use Rattle.tableau.specs.Tableau.{Tableau, ends_of, run_on}
use Rattle.tableau.specs.Pivot.{conclude, concluded, pivot}
use Rattle.tableau.proofs.Keeps.{quantities, Kept, Ended}
use Rattle.tableau.proofs.Refutes.{fails_lawful}
use Rattle.tableau.proofs.Settles.{stands_lawful}
use Rattle.tableau.proofs.Runs.{run_kept, run_ended}
use Rattle.std.proofs.lemmas.Bool.{cond_both}

conclude_lawful : (rows : List (List ℤ)) (box : Box) (t : Tableau) (s : Stop) → Proper rows box → all_fixed box.vars ≡ false → Kept rows box t
    → Ended (ends_of box) (quantities rows box) t s → LawfulAnswer rows box (conclude box t s)
conclude_lawful rows box t Stands p free k e = stands_lawful rows box t p k e.0
conclude_lawful rows box t (Fails f) p free k e = fails_lawful rows box t f p k e.1 e.0
conclude_lawful rows box t GaveWay p free k e = middle_lawful rows box box.vars refl free p.spans

pub pivot_laws : (limit : ℕ) → KeepsLaws (pivot limit)
pivot_laws limit rows box p =
    cond_both (all_fixed box.vars) (halving rows box) (concluded box (run_on limit rows box)) (LawfulAnswer rows box) (λ _. halving_laws rows box p)
    (λ free. conclude_lawful rows box (run_on limit rows box).tableau (run_on limit rows box).stop p free (run_kept rows box p limit) (run_ended rows box p limit))
