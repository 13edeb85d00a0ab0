-- Judging by a list of faults, one part of the list after another.
use Rattle.std.proofs.Common.{◌≡◌, ℕ, zero, suc, ◌+◌, ◌<◌, Bool, true, false, List, [], ◌∷◌, ◌++◌, length, get_or, pos, Some, None, IsErrAnd, Ok, Err, Option, Result, MatchOption, sym, refl, ap, ◌∙◌, subst, true≢false, arith}
use Rattle.std.specs.List.{AllWithin, HoldsAt, range_with_len}
use Rattle.std.specs.Option.{option_map}
use Rattle.std.proofs.lemmas.List.{get_or_default}
use Rattle.std.proofs.lemmas.List.FromFn.{get_or-range_with_len, length-range_with_len}
use Rattle.std.proofs.lemmas.Result.{err_from_is_err_and}
use Rattle.problems.specs.declared.refusal.Refusal.{Refusal}
use Rattle.problems.specs.declared.refusal.Refused.{Refused}
use Rattle.book.specs.Fault.{Fault, each, replied, judged, AnswersAre, placed}

pub never : (r : Refused) → ◌≡◌ {A = Result (Unit {0}) Refused} (Ok tt) (Err r) → ⊥
never r h = let z : ◌≡◌ {A = ℕ} 0 1 = cc in omega arith

-- what one part says, and where it passes, what the rest says
abbrev pub then : Result (Unit {0}) Refused → Result (Unit {0}) Refused → Result (Unit {0}) Refused
then (Ok u) rest = rest
then (Err r) rest = Err r

pub then_assoc : (x y z : Result (Unit {0}) Refused) → then (then x y) z ≡ then x (then y z)
then_assoc (Ok u) y z = refl
then_assoc (Err r) y z = refl

judged_by_test : (b : Bool) (r : Refused) (fs : List Fault) → judged (record { met = b; tells = r } ∷ fs) ≡ then (judged (record { met = b; tells = r } ∷ [])) (judged fs)
judged_by_test true r fs = refl
judged_by_test false r fs = refl

pub judged_cons : (f : Fault) (fs : List Fault) → judged (f ∷ fs) ≡ then (judged (f ∷ [])) (judged fs)
judged_cons f fs = judged_by_test f.met f.tells fs

pub judged_append : (fs gs : List Fault) → judged (fs ++ gs) ≡ then (judged fs) (judged gs)
judged_append [] gs = refl
judged_append (f ∷ fs) gs =
    judged_cons f (fs ++ gs) ∙ ap (then (judged (f ∷ []))) (judged_append fs gs)
    ∙ sym (ap (λ x. then x (judged gs)) (judged_cons f fs) ∙ then_assoc (judged (f ∷ [])) (judged fs) (judged gs))

-- a part that passes leaves it to the rest
pub pass : {x y z : Result (Unit {0}) Refused} → Ok tt ≡ x → z ≡ y → z ≡ then x y
pass {x} {y} {z} h k = k ∙ ap (λ w. then w y) h

-- a part that refuses is the whole answer
pub stop : {x : Result (Unit {0}) Refused} {r : Refused} (rest : Result (Unit {0}) Refused) → Err r ≡ x → Err r ≡ then x rest
stop {x} {r} rest h = ap (λ w. then w rest) h

-- what the exit of a `?` gives
pub exit : {A : Type 0} (result : Result A Refused) (r : Refused) → IsErrAnd result (λ y. y ≡ r) → result ≡ Err r
exit result r h = let p = err_from_is_err_and result h in p.1 ∙ ap Err p.2

-- ---- nothing is met

unmet_by : (b : Bool) (r : Refused) (fs : List Fault) → judged (record { met = b; tells = r } ∷ fs) ≡ Ok tt → (b ≡ false) × (judged fs ≡ Ok tt)
unmet_by true r fs h = absurd (never r (sym h))
unmet_by false r fs h = (refl, h)

pub unmet : (f : Fault) (fs : List Fault) → judged (f ∷ fs) ≡ Ok tt → (f.met ≡ false) × (judged fs ≡ Ok tt)
unmet f fs h = unmet_by f.met f.tells fs h

unmet_first : (b : Bool) (r : Refused) (fs : List Fault) → b ≡ false → judged (record { met = b; tells = r } ∷ fs) ≡ judged fs
unmet_first true r fs e = absurd (true≢false e)
unmet_first false r fs e = refl

pub both_pass : (fs gs : List Fault) → judged (fs ++ gs) ≡ Ok tt → (judged fs ≡ Ok tt) × (judged gs ≡ Ok tt)
both_pass [] gs h = (refl, h)
both_pass (f ∷ fs) gs h =
    let u = unmet f (fs ++ gs) h in
    let v = both_pass fs gs u.1 in
    (unmet_first f.met f.tells fs u.0 ∙ v.0, v.1)

-- ---- the first item that meets the test

met_first : (b : Bool) (r : Refused) (fs : List Fault) → b ≡ true → judged (record { met = b; tells = r } ∷ fs) ≡ Err r
met_first true r fs e = refl
met_first false r fs e = absurd (true≢false (sym e))

none_judged : {A : Type 0} (bad : A → Bool) (why : Refusal) (q : ℕ) (xs : List A) → AllWithin (λ x. bad x ≡ false) xs 0 (length xs) → judged (each bad why q xs) ≡ Ok tt
none_judged bad why q [] h = refl
none_judged bad why q (x ∷ xs) h =
    unmet_first (bad x) (record { why = why; place = pos q }) (each bad why (suc q) xs) (h 0 x (omega arith) (omega arith))
    ∙ none_judged bad why (suc q) xs (λ k d low high. h (suc k) d (omega arith) (omega arith))

first_judged : {A : Type 0} (bad : A → Bool) (why : Refusal) (q : ℕ) (xs : List A) (i place : ℕ) → place ≡ q + i → i < length xs → HoldsAt (λ x. bad x ≡ true) xs i → AllWithin (λ x. bad x ≡ false) xs 0 i
    → judged (each bad why q xs) ≡ Err (record { why = why; place = pos place })
first_judged bad why q [] i place e l at below = absurd (omega arith)
first_judged bad why q (x ∷ xs) zero place e l at below =
    met_first (bad x) (record { why = why; place = pos q }) (each bad why (suc q) xs) (at x)
    ∙ ap (λ k. Err (record { why = why; place = pos k })) (omega arith)
first_judged bad why q (x ∷ xs) (suc i) place e l at below =
    unmet_first (bad x) (record { why = why; place = pos q }) (each bad why (suc q) xs) (below 0 x (omega arith) (omega arith))
    ∙ first_judged bad why (suc q) xs i place (omega arith) (omega arith) (λ d. at d) (λ k d low high. below (suc k) d (omega arith) (omega arith))

-- r is the index of the first item at which the answer is yes
abbrev IsFirst : {A : Type 0} → (A → Bool → Type 0) → List A → Option ℕ → Type 0
IsFirst answers xs r =
    MatchOption r (AllWithin (λ x. answers x false) xs 0 (length xs)) (λ i. (i < length xs) × HoldsAt (λ x. answers x true) xs i × AllWithin (λ x. answers x false) xs 0 i)

-- a refusal at the first item is the judgement on all
pub judged_by_first : {A : Type 0} (answers : A → Bool → Type 0) (bad : A → Bool) (why : Refusal) (xs : List A) (r : Option ℕ) → AnswersAre answers bad xs → IsFirst answers xs r
    → replied tt (option_map (placed why) r) ≡ judged (each bad why 1 xs)
judged_by_first answers bad why xs None are h = sym (none_judged bad why 1 xs (λ k d low high. sym (are k d high false (h k d low high))))
judged_by_first answers bad why xs (Some i) are h =
    sym (first_judged bad why 1 xs i (i + 1) (omega arith) h.0 (λ d. sym (are i d h.0 true (h.1 d))) (λ k d low high. sym (are k d (omega (arith, h.0)) false (h.2 k d low high))))

at_index : {A : Type 0} (xs : List A) (n k : ℕ) (e d : A) → n ≡ length xs → k < length xs → get_or xs (get_or (range_with_len 0 n) k 0) e ≡ get_or xs k d
at_index xs n k e d l h =
    let here : get_or (range_with_len 0 n) k 0 ≡ k = get_or-range_with_len 0 n k 0 (omega arith) ∙ omega arith in
    ap (λ j. get_or xs j e) here ∙ get_or_default xs k e d h

-- the same, of the items' indices
pub first_of_indices : {A : Type 0} (answers : A → Bool → Type 0) (xs : List A) (n : ℕ) (e : A) (r : Option ℕ) → n ≡ length xs → IsFirst (λ i. answers (get_or xs i e)) (range_with_len 0 n) r
    → IsFirst answers xs r
first_of_indices answers xs n e None l h = λ k d low high. subst (λ x. answers x false) (at_index xs n k e d l high) (h k 0 low (omega (arith, length-range_with_len 0 n)))
first_of_indices answers xs n e (Some i) l h =
    let below : i < length xs = omega (arith, h.0, length-range_with_len 0 n) in
    (below, λ d. subst (λ x. answers x true) (at_index xs n i e d l below) (h.1 0), λ k d low high. subst (λ x. answers x false) (at_index xs n k e d l (omega arith)) (h.2 k 0 low high))
