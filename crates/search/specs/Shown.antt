-- What the code's answers hold.
use Rattle.std.specs.Prelude.{ℕ, Bool, false, List, take, slice_index_or}
use Rattle.problems.specs.declared.quantity.Side.{Side}
use Rattle.problems.specs.declared.quantity.Side.TheVariants.{Lower, Upper}
use Rattle.testers.specs.Leaf.{Uses}
use Rattle.search.specs.declared.uses.Sides.{Sides}
use Rattle.search.specs.declared.uses.Uses.{Uses as UsesType}
use Rattle.search.specs.declared.found.Verdict.{Verdict as VerdictType}
use Rattle.search.specs.declared.found.Verdict.TheVariants.{Plan, None, Spent}
use Rattle.search.specs.declared.found.Found.{Found as FoundType}
use Rattle.search.specs.Search.{Found, Verdict}
use Rattle.search.specs.Search.Verdict.{plan, none, spent}

abbrev pub side_in : Side → Sides → Bool
side_in Lower s = s.lower
side_in Upper s = s.upper

abbrev pub neither : Sides
neither = record { lower = false; upper = false }

-- which end of quantity i is marked
abbrev pub marked : List Sides → Side → ℕ → Bool
marked ss side i = side_in side (slice_index_or ss i neither)

abbrev pub uses_of : UsesType → Uses
uses_of u = record { vars = marked u.vars; rows = marked u.rows }

-- the verdict, for n variables
abbrev pub verdict_of : ℕ → VerdictType → Verdict
verdict_of n (Plan x) = plan (take n x)
verdict_of n (None u) = none (uses_of u)
verdict_of n Spent = spent

-- the answer, with the bytes that it counts at the front of the record
abbrev pub found_of : ℕ → List ℕ → FoundType → Found
found_of n bytes f = record { verdict = verdict_of n f.verdict; boxes = f.boxes; bytes = take f.bytes bytes; deepest = f.deepest }
