-- What the code's answers say, for so many variables and rows.
use Rattle.std.specs.Prelude.{ℕ, take, drop, Option}
use Rattle.std.specs.Option.{option_map}
use Rattle.problems.specs.declared.problem.Problem.{Problem}
use Rattle.testers.specs.declared.leaf.Leaf.{Leaf as LeafType}
use Rattle.testers.specs.declared.leaf.Leaf.TheVariants.{Sum, Divisor}
use Rattle.testers.specs.declared.answer.Answer.{Answer as AnswerType}
use Rattle.testers.specs.declared.answer.Answer.TheVariants.{Empty, Point, Split}
use Rattle.testers.specs.Leaf.{Leaf}
use Rattle.testers.specs.Leaf.Leaf.{sum, divisor}
use Rattle.testers.specs.Tester.{Answer}
use Rattle.testers.specs.Tester.Answer.{empty, point, split}

-- the leaf, for n variables and m rows
abbrev pub leaf_in : ℕ → ℕ → LeafType → Leaf
leaf_in n m (Sum ms) = sum (take n ms) (take m (drop n ms))
leaf_in n m (Divisor i g) = divisor i g

abbrev pub answer_in : ℕ → ℕ → AnswerType → Answer
answer_in n m (Empty l) = empty (leaf_in n m l)
answer_in n m (Point x) = point (take n x)
answer_in n m (Split s) = split s.0 s.1

-- what the answer says of the problem's quantities
abbrev pub answer_of : Problem → AnswerType → Answer
answer_of p a = answer_in p.ends.vars.n p.ends.m a

-- what a leaf that may be there says of them
abbrev pub leaf_found : Problem → Option LeafType → Option Leaf
leaf_found p o = option_map (leaf_in p.ends.vars.n p.ends.m) o
