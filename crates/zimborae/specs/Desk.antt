-- The desk between two calls, and what each call does to it.
use Rattle.std.specs.Prelude.{ℕ, ◌*◌, cond, List, take, ℤ, pos, Some, None, Ok, Err, Option, Result, int_lt, unsigned_abs}
use Rattle.std.specs.Option.{option_map, unwrap_or}
use Rattle.problems.specs.declared.quantity.Span.{Span}
use Rattle.problems.specs.declared.quantity.RowEnds.{RowEnds}
use Rattle.problems.specs.declared.refusal.Refused.{Refused}
use Rattle.problems.specs.declared.refusal.Refusal.TheVariants.{Budget}
use Rattle.testers.specs.Halving.{halving}
use Rattle.problems.specs.Stated.{Stated, stated, one_point}
use Rattle.book.specs.Draft.{held, begun, row_added}
use Rattle.search.specs.Search.{Found, search_box}
use Rattle.search.specs.Shown.{verdict_of}
use Rattle.search.specs.Asked.{in_budget, granted}
use Rattle.zimborae.specs.declared.desk.Desk.{Desk}
use Rattle.zimborae.specs.declared.shown.Shown.{Shown}
use Rattle.zimborae.specs.declared.stop.Stop.{Stop}
use Rattle.zimborae.specs.declared.stop.Stop.TheVariants.{Refused as refused, NoDraft, NothingOpen}

-- what the draft states, and what the problem does that is open
pub record Standing : Type 0 where
  pub draft : Option Stated
  pub problem : Option Stated

abbrev pub standing : Desk → Standing
standing d = record { draft = option_map held d.draft; problem = option_map stated d.problem }

abbrev pub at_first : Standing
at_first = record { draft = Some one_point; problem = None }

-- a refusal is one of the reasons to stop
abbrev pub told : {A : Type 0} → Result A Refused → Result A Stop
told (Ok a) = Ok a
told (Err e) = Err (refused e)

-- the reply to a call, and the desk after
pub record Turn (A : Type 0) : Type 0 where
  pub reply : Result A Stop
  pub after : Standing

-- ---- the calls

-- where there is no draft, the first one is made
abbrev pub begins : Standing → ℤ → List Span → Turn (Unit {0})
begins s n ss =
    let step = begun (unwrap_or s.draft one_point) n ss in
    record { reply = told step.reply; after = record { draft = Some step.draft; problem = s.problem } }

abbrev pub row_onto : Option Stated → Option Stated → List ℤ → RowEnds → Turn ℕ
row_onto None p av e = record { reply = Err NoDraft; after = record { draft = None; problem = p } }
row_onto (Some d) p av e =
    let step = row_added d av e in
    record { reply = told step.reply; after = record { draft = Some step.draft; problem = p } }

abbrev pub adds_row : Standing → List ℤ → RowEnds → Turn ℕ
adds_row s av e = row_onto s.draft s.problem av e

abbrev pub opened : Option Stated → Option Stated → Turn (Unit {0})
opened None p = record { reply = Err NoDraft; after = record { draft = None; problem = p } }
opened (Some d) p = record { reply = Ok tt; after = record { draft = None; problem = Some d } }

abbrev pub opens : Standing → Turn (Unit {0})
opens s = opened s.draft s.problem

-- ---- asking

abbrev pub over_budget : ℤ → Option Refused
over_budget budget = cond (in_budget budget) None (Some (record { why = Budget; place = budget }))

-- the defined search, unless the budget is not 1..10,000
abbrev pub answered : Option Stated → ℤ → Result Found Stop
answered None budget = Err NothingOpen
answered (Some s) budget = told (granted (over_budget budget) (search_box halving s.rows s.box (unsigned_abs budget)))

-- as many boxes as buffers are lent for
abbrev pub lent_for : ℤ → ℕ
lent_for budget = cond (int_lt budget (pos 0)) 0 (cond (int_lt (pos 10000) budget) 10000 (unsigned_abs budget))

-- the part of the record's bytes that is lent
abbrev pub lent : ℤ → List ℕ → List ℕ
lent budget bytes = take (100 * lent_for budget) bytes

-- what an answer shows
abbrev pub found_in : Shown → Found
found_in a = record { verdict = verdict_of a.variables a.verdict; boxes = a.boxes; bytes = a.record.now; deepest = a.deepest }

abbrev pub shown_reply : Result Shown Stop → Result Found Stop
shown_reply (Ok a) = Ok (found_in a)
shown_reply (Err e) = Err e
