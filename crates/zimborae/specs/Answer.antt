-- What each call is answered, and the desk after it.
use Rattle.std.specs.Prelude.{ℕ, Ok, Err, vec_items, Result}
use Rattle.search.specs.Search.{Found}
use Rattle.zimborae.specs.declared.call.Call.{Call}
use Rattle.zimborae.specs.declared.call.Call.TheVariants.{New, Row, Open, Ask}
use Rattle.zimborae.specs.declared.reply.Reply.{Reply}
use Rattle.zimborae.specs.declared.reply.Reply.TheVariants.{Done, Row as RowNumber, Found as SearchFound}
use Rattle.zimborae.specs.declared.stop.Stop.{Stop}
use Rattle.zimborae.specs.Desk.{Standing, begins, adds_row, opens, answered, found_in}

-- a call is done, or tells the number of a row's quantity, or what a search found
pub data Told : Type 0 where
  done : Told
  numbered : ℕ → Told
  found : Found → Told

abbrev pub told_by : Reply → Told
told_by Done = done
told_by (RowNumber q) = numbered q
told_by (SearchFound a) = found (found_in a)

-- the same, of what is told where it is not refused
abbrev pub telling : {A B : Type 0} → (A → B) → Result A Stop → Result B Stop
telling f (Ok a) = Ok (f a)
telling f (Err e) = Err e

abbrev pub reply_to : Standing → Call → Result Told Stop
reply_to s (New n ends) = telling (λ _. done) (begins s n (vec_items ends)).reply
reply_to s (Row coefs ends) = telling numbered (adds_row s (vec_items coefs) ends).reply
reply_to s Open = telling (λ _. done) (opens s).reply
reply_to s (Ask tester budget) = telling found (answered s.problem budget)

abbrev pub desk_after : Standing → Call → Standing
desk_after s (New n ends) = (begins s n (vec_items ends)).after
desk_after s (Row coefs ends) = (adds_row s (vec_items coefs) ends).after
desk_after s Open = (opens s).after
desk_after s (Ask tester budget) = s
