-- A split of a variable in the code's table is the split of the list.
use Rattle.std.proofs.Common.{◌≡◌, ℕ, zero, suc, ◌<◌, ◌≤◌, Bool, true, false, cond, ◌&&◌, Some, None, List, [], ◌∷◌, length, get_or, take, set, ℤ, pos, ◌+ℤ◌, ◌<ℤ◌, sym, refl, ap, ◌∙◌, le_of_suc-le-suc, not-suc-le-zero, arith, length-set}
use lib.Signed.{le_z, lt_z}
use Rattle.std.specs.Bool.{then_some}
use Rattle.std.proofs.lemmas.Option.{cond_some}
use Rattle.problems.specs.declared.quantity.Span.{Span}
use Rattle.problems.specs.declared.vars.Vars.{Vars}
use Rattle.problems.specs.Box.{nowhere, splits, low, high}
use Rattle.problems.specs.Ranges.{spans_proper}
use Rattle.problems.specs.View.{vars_in}
use Rattle.problems.proofs.Views.{vars_long}
use Rattle.std.proofs.lemmas.Bool.{and_parts}
use Rattle.problems.proofs.Tests.{lt_z_true}

abbrev pub cuts : ℤ → Span → Bool
cuts k s = le_z s.lower k && lt_z k s.upper

pub splits_here : (v : ℕ) (k : ℤ) (ss : List Span) → v < length ss → splits v k ss ≡ cuts k (get_or ss v nowhere)
splits_here v k [] h = absurd (not-suc-le-zero h)
splits_here zero k (s ∷ ss) h = refl
splits_here (suc v) k (s ∷ ss) h = splits_here v k ss (le_of_suc-le-suc h)

pub splits_past : (v : ℕ) (k : ℤ) (ss : List Span) → length ss ≤ v → splits v k ss ≡ false
splits_past v k [] h = refl
splits_past zero k (s ∷ ss) h = absurd (not-suc-le-zero h)
splits_past (suc v) k (s ∷ ss) h = splits_past v k ss (le_of_suc-le-suc h)

pub splits_among : (v : ℕ) (k : ℤ) (ss : List Span) → splits v k ss ≡ true → v < length ss
splits_among v k [] h = absurd (let z : ◌≡◌ {A = ℕ} 0 1 = cc in omega arith)
splits_among zero k (s ∷ ss) h = omega arith
splits_among (suc v) k (s ∷ ss) h = let r = splits_among v k ss h in omega arith

pub low_set : (v : ℕ) (k : ℤ) (ss : List Span) → low v k ss ≡ set ss v (record { lower = (get_or ss v nowhere).lower; upper = k })
low_set v k [] = refl
low_set zero k (s ∷ ss) = refl
low_set (suc v) k (s ∷ ss) = ap (λ (ts : List Span). s ∷ ts) (low_set v k ss)

pub high_set : (v : ℕ) (k : ℤ) (ss : List Span) → high v k ss ≡ set ss v (record { lower = k +ℤ pos 1; upper = (get_or ss v nowhere).upper })
high_set v k [] = refl
high_set zero k (s ∷ ss) = refl
high_set (suc v) k (s ∷ ss) = ap (λ (ts : List Span). s ∷ ts) (high_set v k ss)

pub then_some_is : (b : Bool) (s : Span) → then_some b s ≡ cond b (Some s) None
then_some_is true s = refl
then_some_is false s = refl

-- where the variable is cut, its part makes the half
pub low_cut : (v : ℕ) (k : ℤ) (ss : List Span) (s t : Span) → Some s ≡ cond (splits v k ss) (Some (get_or ss v nowhere)) None → t ≡ record { lower = s.lower; upper = k }
    → (splits v k ss ≡ true) × (set ss v t ≡ low v k ss)
low_cut v k ss s t e f =
    let c = cond_some (splits v k ss) (get_or ss v nowhere) s (sym e) in
    (c.0, ap (set ss v) (f ∙ ap (λ (w : Span). record { lower = w.lower; upper = k }) (sym c.1)) ∙ sym (low_set v k ss))

pub high_cut : (v : ℕ) (k : ℤ) (ss : List Span) (s t : Span) → Some s ≡ cond (splits v k ss) (Some (get_or ss v nowhere)) None → t ≡ record { lower = k +ℤ pos 1; upper = s.upper }
    → (splits v k ss ≡ true) × (set ss v t ≡ high v k ss)
high_cut v k ss s t e f =
    let c = cond_some (splits v k ss) (get_or ss v nowhere) s (sym e) in
    (c.0, ap (set ss v) (f ∙ ap (λ (w : Span). record { lower = k +ℤ pos 1; upper = w.upper }) (sym c.1)) ∙ sym (high_set v k ss))

-- k lies below the upper end
pub cut_under : (v : ℕ) (k : ℤ) (ss : List Span) (s : Span) → Some s ≡ cond (splits v k ss) (Some (get_or ss v nowhere)) None → k <ℤ s.upper
cut_under v k ss s e =
    let c = cond_some (splits v k ss) (get_or ss v nowhere) s (sym e) in
    let b = ap (cuts k) (sym c.1) ∙ sym (splits_here v k ss (splits_among v k ss c.0)) ∙ c.0 in
    lt_z_true _ _ (and_parts (le_z s.lower k) _ b).1

-- ---- in the table

pub among : (t : Vars) (v : ℕ) (k : ℤ) → splits v k (vars_in t) ≡ true → v < t.n
among t v k h = let r = splits_among v k (vars_in t) h in rw (vars_long t) at r

-- a table with one span changed keeps its facts, if what it holds is proper
pub facts_kept : (t : Vars) (v : ℕ) (s : Span) (ss : List Span) → take t.n (set t.spans v s) ≡ ss → spans_proper ss ≡ true
    → (t.n ≤ 12) × (length (set t.spans v s) ≡ 12) × (spans_proper (take t.n (set t.spans v s)) ≡ true)
facts_kept t v s ss e p = (t.few, simp length-set t.long, ap spans_proper e ∙ p)
