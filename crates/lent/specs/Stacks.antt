-- A stack over lent slots: what a push, a pop and a clearing leave in every slot.
use Rattle.std.specs.Prelude.{◌≡◌, ℕ, ◌+◌, ◌-◌, ◌<◌, ◌≤◌, List, ◌++◌, length, drop, replicate, Some, None, Ok, Err, Option, Result, slice_index_or, slice_set}

-- e is put on n of the slots xs, which leaves m of the slots ys; without room it comes back
abbrev pub Pushed : {E : Type 0} → List E → ℕ → E → List E → ℕ → Result (Unit {0}) E → Type 0
Pushed xs n e ys m (Ok u) = (n < length xs) × (ys ≡ slice_set xs n e) × (m ≡ n + 1)
Pushed xs n e ys m (Err y) = (length xs ≤ n) × (ys ≡ xs) × (m ≡ n) × (y ≡ e)

-- the latest of n of the slots xs is taken off, and its slot is left with the blank b
abbrev pub Popped : {E : Type 0} → E → List E → ℕ → List E → ℕ → Option E → Type 0
Popped b xs n ys m None = (n ≡ 0) × (ys ≡ xs) × (m ≡ n)
Popped b xs n ys m (Some x) = (0 < n) × (ys ≡ slice_set xs (n - 1) b) × (m ≡ n - 1) × (x ≡ slice_index_or xs (n - 1) b)

-- all n of the slots xs in use are left with the blank b, and none is in use
abbrev pub Cleared : {E : Type 0} → E → List E → ℕ → List E → ℕ → Type 0
Cleared b xs n ys m = (ys ≡ replicate n b ++ drop n xs) × (m ≡ 0)
