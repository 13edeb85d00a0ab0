-- The code's lines, of whose 24 numbers the first k count, and the sizes that keep its sums within 64 bits.
use Rattle.std.specs.Prelude.{◌≡◌, ℕ, ◌<◌, Bool, true, false, List, [], ◌∷◌, map, length, take, ℤ}
use Rattle.problems.specs.declared.quantity.RowEnds.{RowEnds}
use Rattle.problems.specs.declared.quantity.Side.{Side}
use Rattle.problems.specs.declared.quantity.Side.TheVariants.{Lower, Upper}
use Rattle.problems.specs.Whole.{all_within}
use Rattle.problems.specs.Ranges.{in_reach}
use Rattle.tableau.specs.declared.line.Line.{Line}
use Rattle.tableau.specs.declared.run.Step.{Step}
use Rattle.tableau.specs.declared.run.Step.TheVariants.{Standing, Stuck, Turn}
use Rattle.tableau.specs.declared.run.Stop.{Stop}
use Rattle.tableau.specs.declared.run.Stop.TheVariants.{Stands, Fails, GaveWay}
use Rattle.tableau.specs.Tableau.{Tableau, small_lines}

-- a leaf over an upper end has the line's signs turned
abbrev pub turns_signs : Side → Bool
turns_signs Lower = false
turns_signs Upper = true

-- what the code's line says of k quantities
abbrev pub seen : ℕ → Line → Line
seen k l = record { basic = l.basic; nums = take k l.nums }

abbrev pub shown : ℕ → List ℤ → List Line → Tableau
shown k values ls = record { values = values; lines = map (seen k) ls }

pub record Shaped (k : ℕ) (l : Line) : Type 0 where
  pub basic : l.basic < k
  pub long : length l.nums ≡ 24

abbrev pub AllShaped : ℕ → List Line → Type 0
AllShaped k [] = Unit {0}
AllShaped k (l ∷ ls) = Shaped k l × AllShaped k ls

pub record LineOk (k : ℕ) (l : Line) : Type 0 where
  pub basic : l.basic < k
  pub small : all_within 1000000000 (take k l.nums) ≡ true
  pub long : length l.nums ≡ 24

abbrev pub LinesOk : ℕ → List Line → Type 0
LinesOk k [] = Unit {0}
LinesOk k (l ∷ ls) = LineOk k l × LinesOk k ls

abbrev pub EndsOk : List RowEnds → Type 0
EndsOk [] = Unit {0}
EndsOk (e ∷ es) = (in_reach e.lower ≡ true) × (in_reach e.upper ≡ true) × EndsOk es

-- a run leaves the last tableau behind, unless a number of that is too large, and a line that fails is one of its m lines
abbrev pub LeftAt : ℕ → Stop → Tableau → Tableau → Type 0
LeftAt m Stands t last = t ≡ last
LeftAt m (Fails f) t last = (t ≡ last) × (f.place < m)
LeftAt m GaveWay t last = small_lines last.lines ≡ true → t ≡ last

-- the choice names a line and a quantity
abbrev pub InsideStep : ℕ → ℕ → Step → Type 0
InsideStep k m Standing = Unit {0}
InsideStep k m (Stuck f) = f.place < m
InsideStep k m (Turn f q) = (f.place < m) × (f.basic < k) × (q < k)
