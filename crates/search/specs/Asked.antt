-- Asking for a search: what is refused, what is answered, and what the buffers hold afterwards.
use Rattle.std.specs.Prelude.{ℕ, ◌*◌, Bool, cond, ◌&&◌, List, ◌++◌, length, drop, replicate, ℤ, pos, Some, None, Ok, Err, Option, Result, int_le, nat_le, unsigned_abs}
use Rattle.problems.specs.declared.problem.Problem.{Problem}
use Rattle.problems.specs.declared.refusal.Refused.{Refused}
use Rattle.problems.specs.declared.refusal.Refusal.TheVariants.{Budget, Buffer}
use Rattle.testers.specs.Tester.{Meaning}
use Rattle.problems.specs.View.{box_of, rows_of}
use Rattle.search.specs.declared.open_split.OpenSplit.{OpenSplit}
use Rattle.search.specs.declared.found.Found.{Found as FoundType}
use Rattle.search.specs.Search.{Found, search_box}
use Rattle.search.specs.Shown.{found_of}
use Rattle.search.specs.Walk.{blank_split}

-- 1 to 10,000 boxes
abbrev pub in_budget : ℤ → Bool
in_budget budget = int_le (pos 1) budget && int_le budget (pos 10000)

-- the budget is looked at first, then a record of 100 bytes a box, then a path of one entry a box
abbrev pub refusal : ℤ → ℕ → ℕ → Option Refused
refusal budget bytes places =
    let path = cond (nat_le (unsigned_abs budget) places) None (Some (record { why = Buffer; place = pos 2 })) in
    let buffers = cond (nat_le (100 * unsigned_abs budget) bytes) path (Some (record { why = Buffer; place = pos 1 })) in
    cond (in_budget budget) buffers (Some (record { why = Budget; place = budget }))

-- a refusal, or what was granted
abbrev pub granted : {A : Type 0} → Option Refused → A → Result A Refused
granted None a = Ok a
granted (Some e) a = Err e

-- what is answered to a problem, for a record of so many bytes and a path of so many places
abbrev pub asked : Meaning → Problem → ℤ → ℕ → ℕ → Result Found Refused
asked tester p budget bytes places = granted (refusal budget bytes places) (search_box tester (rows_of p) (box_of p) (unsigned_abs budget))

-- the record afterwards: what was written stands at its front
abbrev pub record_after : Result Found Refused → List ℕ → List ℕ
record_after (Ok f) xs = f.bytes ++ drop (length f.bytes) xs
record_after (Err e) xs = xs

-- the path afterwards: every place that was used is blank
abbrev pub path_after : Result Found Refused → List OpenSplit → List OpenSplit
path_after (Ok f) os = replicate f.deepest blank_split ++ drop f.deepest os
path_after (Err e) os = os

-- the code's reply, with the bytes at the front of the record, for n variables
abbrev pub reply_of : ℕ → List ℕ → Result FoundType Refused → Result Found Refused
reply_of n bytes (Ok f) = Ok (found_of n bytes f)
reply_of n bytes (Err e) = Err e

-- how many bytes the reply tells of, and how many the answer has
abbrev pub bytes_told : Result FoundType Refused → ℕ
bytes_told (Ok f) = f.bytes
bytes_told (Err e) = 0

abbrev pub bytes_written : Result Found Refused → ℕ
bytes_written (Ok f) = length f.bytes
bytes_written (Err e) = 0
