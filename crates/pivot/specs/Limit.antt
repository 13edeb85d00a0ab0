-- The pivot limit with which a tester is made.
use Rattle.std.specs.Prelude.{ℕ, Bool, cond, ◌&&◌, ℤ, pos, Ok, Err, Result, int_le, unsigned_abs}
use Rattle.problems.specs.declared.refusal.Refused.{Refused}
use Rattle.problems.specs.declared.refusal.Refusal.TheVariants.{Range}
use Rattle.pivot.specs.declared.tester.Pivot.{Pivot}

-- in 0..1,000
abbrev pub in_limits : ℤ → Bool
in_limits z = int_le (pos 0) z && int_le z (pos 1000)

-- the limit, or refusal 3 at place 0
abbrev pub granted_limit : ℤ → Result ℕ Refused
granted_limit z = cond (in_limits z) (Ok (unsigned_abs z)) (Err (record { why = Range; place = pos 0 }))

-- what the tester was made with
abbrev pub limit_of : Result Pivot Refused → Result ℕ Refused
limit_of (Ok t) = Ok t.limit
limit_of (Err e) = Err e
