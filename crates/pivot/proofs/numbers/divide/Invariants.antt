use Rattle.std.proofs.Common.{◌≡◌, ◌++◌, take, drop}
use Rattle.tableau.specs.Lines.{divide_all}
use Rattle.pivot.proofs.numbers.divide.Given as goal

abbrev pub invariant-loop-x : goal.invariant-loop-x
invariant-loop-x l = take l.x-index l.row ++ divide_all l.g (drop l.x-index l.row) ≡ divide_all l.g l.initial.row
