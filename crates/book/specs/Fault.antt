-- Faults of a call, in the order in which they are looked for.
use Rattle.std.specs.Prelude.{ℕ, suc, ◌+◌, ◌≡◌, All, Bool, cond, List, [], ◌∷◌, pos, Some, None, Ok, Err, Option, Result}
use Rattle.problems.specs.declared.refusal.Refusal.{Refusal}
use Rattle.problems.specs.declared.refusal.Refused.{Refused}

-- whether it is met, and what is told then
pub record Fault : Type 0 where
  pub met : Bool
  pub tells : Refused

abbrev pub fault : Bool → Refusal → ℕ → Fault
fault met why q = record { met = met; tells = record { why = why; place = pos q } }

-- one for each of the list, at places from q on
abbrev pub each : {A : Type 0} → (A → Bool) → Refusal → ℕ → List A → List Fault
each bad why q [] = []
each bad why q (x ∷ xs) = fault (bad x) why q ∷ each bad why (suc q) xs

abbrev pub first_fault : List Fault → Option Refused
first_fault [] = None
first_fault (f ∷ fs) = cond f.met (Some f.tells) (first_fault fs)

-- accepted with what there is to tell, or refused
abbrev pub replied : {A : Type 0} → A → Option Refused → Result A Refused
replied told None = Ok told
replied told (Some r) = Err r

-- refused by the first fault that is met
abbrev pub judged : List Fault → Result (Unit {0}) Refused
judged fs = replied tt (first_fault fs)

-- ---- the items of a list, looked at one after another

-- whatever is answered at an item is `bad` of it
abbrev pub AnswersAre : {A : Type 0} → (A → Bool → Type 0) → (A → Bool) → List A → Type 0
AnswersAre answers bad xs = All (λ x. (met : Bool) → answers x met → met ≡ bad x) xs

-- what is told of the item at index i
abbrev pub placed : Refusal → ℕ → Refused
placed why i = record { why = why; place = pos (i + 1) }
