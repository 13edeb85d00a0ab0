-- The pivot tester: what a run of pivots comes to.
use Rattle.std.specs.Prelude.{ℕ, zero, suc, Bool, cond, List, [], ◌∷◌, length, get_or, take, drop, ℤ, pos, negsuc, Some, None, Option, ◌==◌, slice_index_or}
use Rattle.std.specs.Int.{int_div_euclid, int_rem_euclid}
use Rattle.problems.specs.declared.quantity.Side.{Side}
use Rattle.problems.specs.declared.quantity.Side.TheVariants.{Lower, Upper}
use Rattle.problems.specs.Whole.{is_zero}
use Rattle.problems.specs.Rows.{dot, scale}
use Rattle.problems.specs.Box.{Box}
use Rattle.testers.specs.Leaf.Leaf.{sum}
use Rattle.testers.specs.Tester.{Answer, Meaning}
use Rattle.testers.specs.Tester.Answer.{empty, point, split}
use Rattle.testers.specs.Halving.{all_fixed, middle_split, halving}
use Rattle.tableau.specs.declared.line.Line.{Line}
use Rattle.tableau.specs.declared.fraction.Fraction.{Fraction}
use Rattle.tableau.specs.declared.run.Stop.{Stop}
use Rattle.tableau.specs.declared.run.Stop.TheVariants.{Stands, Fails, GaveWay}
use Rattle.tableau.specs.Lines.{blank, den}
use Rattle.tableau.specs.Tableau.{Tableau, Run, run_on}

-- ---- no quantity is outside its ends

-- the value of quantity v: what its line says if it is basic, else where it sits
abbrev pub value : ℕ → List ℤ → List Line → Fraction
value v values [] = record { num = slice_index_or values v (pos 0); den = pos 1 }
value v values (l ∷ ls) = cond (l.basic == v) (record { num = dot l.nums values; den = den l }) (value v values ls)

abbrev pub whole : Fraction → Bool
whole f = is_zero (int_rem_euclid f.num f.den)

-- rounded downward
abbrev pub floor : Fraction → ℤ
floor f = int_div_euclid f.num f.den

-- the first of the k quantities from v on that is not whole
abbrev pub broken : List ℤ → List Line → ℕ → ℕ → Option ℕ
broken values ls v zero = None
broken values ls v (suc k) = let later = broken values ls (suc v) k in cond (whole (value v values ls)) later (Some v)

-- the values of the k quantities from v on, rounded
abbrev pub floors : List ℤ → List Line → ℕ → ℕ → List ℤ
floors values ls v zero = []
floors values ls v (suc k) = floor (value v values ls) ∷ floors values ls (suc v) k

-- the point, if all n variables are whole, else a split of the first that is not
abbrev pub settled : ℕ → Tableau → Option ℕ → Answer
settled n t None = point (floors t.values t.lines 0 n)
settled n t (Some v) = split v (floor (value v t.values t.lines))

-- ---- one is, and none can help it

-- the multipliers of the leaf: the line's numbers under its lower end, and all signs turned over its upper end
abbrev pub multipliers : Side → List ℤ → List ℤ
multipliers Lower r = r
multipliers Upper r = scale (negsuc 0) r

abbrev pub refuted : ℕ → List ℤ → Answer
refuted n ms = empty (sum (take n ms) (drop n ms))

-- ---- the tester

abbrev pub conclude : Box → Tableau → Stop → Answer
conclude box t Stands = let n = length box.vars in settled n t (broken t.values t.lines 0 n)
conclude box t (Fails f) = refuted (length box.vars) (multipliers f.side (get_or t.lines f.place blank).nums)
conclude box t GaveWay = middle_split box.vars

abbrev pub concluded : Box → Run → Answer
concluded box r = conclude box r.tableau r.stop

-- where all variables are fixed it answers as the halving tester does
abbrev pub pivot : ℕ → Meaning
pivot limit rows box = let on = concluded box (run_on limit rows box) in cond (all_fixed box.vars) (halving rows box) on
