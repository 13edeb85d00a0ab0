-- Bland's rule: the smallest basic quantity outside its ends, and the smallest nonbasic quantity that helps it.
use Rattle.std.specs.Prelude.{ℕ, zero, suc, Bool, true, cond, not, ◌&&◌, ◌||◌, List, [], ◌∷◌, ℤ, pos, ◌*ℤ◌, Some, None, Option, ◌==◌, int_lt, nat_lt, slice_index_or}
use Rattle.problems.specs.declared.quantity.RowEnds.{RowEnds}
use Rattle.problems.specs.declared.quantity.Side.{Side}
use Rattle.problems.specs.declared.quantity.Side.TheVariants.{Lower, Upper}
use Rattle.problems.specs.Whole.{positive, negative}
use Rattle.problems.specs.Rows.{dot}
use Rattle.problems.specs.Box.{no_ends}
use Rattle.testers.specs.Halving.{exceeds, falls_short}
use Rattle.tableau.specs.declared.line.Line.{Line}
use Rattle.tableau.specs.declared.run.Violation.{Violation}
use Rattle.tableau.specs.Lines.{den}

-- ---- the basic quantity that leaves

abbrev pub scaled : ℤ → Option ℤ → Option ℤ
scaled d None = None
scaled d (Some e) = Some (d *ℤ e)

-- the end that z / d violates: the lower one if it is under it, the upper one if it is over it
abbrev pub violated : RowEnds → ℤ → ℤ → Option Side
violated e d z = cond (falls_short z (scaled d e.lower)) (Some Lower) (cond (exceeds z (scaled d e.upper)) (Some Upper) None)

abbrev pub found : ℕ → ℕ → Option Side → Option Violation
found i b None = None
found i b (Some s) = Some (record { place = i; basic = b; side = s })

-- the line at place i, if its basic quantity is outside its ends; values has the end at which each nonbasic quantity sits, and 0 for a basic one
abbrev pub violation : List RowEnds → List ℤ → ℕ → Line → Option Violation
violation ends values i l = found i l.basic (violated (slice_index_or ends l.basic no_ends) (den l) (dot l.nums values))

-- the one of the smaller quantity
abbrev pub earlier : Option Violation → Option Violation → Option Violation
earlier None b = b
earlier (Some a) None = Some a
earlier (Some a) (Some b) = cond (nat_lt b.basic a.basic) (Some b) (Some a)

-- the smallest basic quantity outside its ends, of the lines from place i on
abbrev pub outside : List RowEnds → List ℤ → ℕ → List Line → Option Violation
outside ends values i [] = None
outside ends values i (l ∷ ls) = earlier (violation ends values i l) (outside ends values (suc i) ls)

-- ---- the nonbasic quantity that enters

-- an absent end never holds a quantity back
abbrev pub may_rise : ℤ → Option ℤ → Bool
may_rise x None = true
may_rise x (Some u) = int_lt x u

abbrev pub may_fall : ℤ → Option ℤ → Bool
may_fall x None = true
may_fall x (Some l) = int_lt l x

-- moving the quantity of number a, at x, within its ends moves the basic one towards the violated end
abbrev pub suitable : Side → ℤ → ℤ → RowEnds → Bool
suitable Lower a x e = (positive a && may_rise x e.upper) || (negative a && may_fall x e.lower)
suitable Upper a x e = (positive a && may_fall x e.lower) || (negative a && may_rise x e.upper)

-- the smallest suitable one of the k quantities from q on; another basic quantity has the number 0 and is never suitable
abbrev pub entering : Side → List RowEnds → List ℤ → Line → ℕ → ℕ → Option ℕ
entering side ends values l q zero = None
entering side ends values l q (suc k) =
    let later = entering side ends values l (suc q) k in
    cond (not (q == l.basic) && suitable side (slice_index_or l.nums q (pos 0)) (slice_index_or values q (pos 0)) (slice_index_or ends q no_ends)) (Some q) later
