-- Piles of divisor layers.
use Rattle.std.specs.Prelude.{ℕ, zero, suc}
use Rattle.testers.specs.Tester.{Meaning}
use Rattle.layers.specs.declared.pile.Over.{Over}
use Rattle.layers.specs.declared.pile.Over.TheVariants.{Bare, Layered}
use Rattle.layers.specs.Divisor.{divisor_layer}

-- so many divisor layers over a meaning
abbrev pub piled : ℕ → Meaning → Meaning
piled zero below = below
piled (suc k) below = divisor_layer (piled k below)

-- what a tester with or without a layer means, where m says what the tester below means
abbrev pub over : {T : Type 0} → (T → Meaning) → Over T → Meaning
over m (Bare t) = m t
over m (Layered d) = divisor_layer (m d.below)

-- what a pile of four places means, each place with or without a layer
abbrev pub pile_meaning : {B : Type 0} → (B → Meaning) → Over (Over (Over (Over B))) → Meaning
pile_meaning m = over (over (over (over m)))
