-- What is lent for a budget is enough: no search is refused for its buffers.
use Rattle.std.proofs.Common.{◌≡◌, ℕ, ◌*◌, ◌≤◌, min, List, ◌++◌, length, take, ℤ, pos, negsuc, nat_abs, Result, refl, ◌∙◌, arith, length-take, take_at}
use Rattle.std.proofs.lemmas.Bool.Decides.{nat_tests}
use Rattle.problems.specs.declared.problem.Problem.{Problem}
use Rattle.problems.specs.declared.refusal.Refused.{Refused}
use Rattle.testers.specs.Halving.{halving}
use Rattle.problems.specs.View.{box_of, rows_of}
use Rattle.problems.proofs.Views.{vars_long}
use Rattle.search.specs.declared.found.Found.{Found as FoundType}
use Rattle.search.specs.Asked.{asked, refusal, granted, reply_of}
use Rattle.search.specs.Search.{search_box}
use Rattle.zimborae.specs.Desk.{lent, lent_for, over_budget}

pub lent_small : (budget : ℤ) → lent_for budget ≤ 10000
lent_small (pos n) = grind (arith, nat_tests)
lent_small (negsuc n) = grind (arith, nat_tests)

lent_is_enough : (budget : ℤ) → refusal budget (100 * lent_for budget) (lent_for budget) ≡ over_budget budget
lent_is_enough (pos n) = grind (arith, nat_tests)
lent_is_enough (negsuc n) = refl

-- the front that is lent has the length that was asked for
pub lent_long : {A : Type 0} (xs : List A) (k n : ℕ) → k ≡ min (length xs) n → n ≤ length xs → length (take k xs) ≡ n
lent_long xs k n e h = simp length-take (omega (arith, e))

-- the answer to what is lent is the answer
pub answer_within : (p : Problem) (budget : ℤ) (last rest : List ℕ) (bytes places : ℕ) (r : Result FoundType Refused) → bytes ≡ 100 * lent_for budget → places ≡ lent_for budget → length last ≡ bytes → reply_of p.ends.vars.n last r ≡ asked halving p budget bytes places → reply_of (length (box_of p).vars) (lent budget (last ++ rest)) r ≡ granted (over_budget budget) (search_box halving (rows_of p) (box_of p) (nat_abs budget))
answer_within p budget last rest bytes places r b k l e =
    let front : take (100 * lent_for budget) (last ++ rest) ≡ last = take_at last rest _ (l ∙ b) in
    rw (vars_long p.ends.vars, front, e, b, k, lent_is_enough budget)
