use Rattle.std.proofs.Common.{◌≡◌, refl, rules, tests}
use Rattle.std.proofs.lemmas.Int.{to_z-of_z}
use Rattle.testers.specs.Halving.{exceeds, falls_short}
use Rattle.tableau.specs.Choices.{scaled}
use Rattle.pivot.proofs.Picks.{reach_at, told}
use Rattle.pivot.proofs.Casts.{times_fits, times_back}
use Rattle.pivot.proofs.choose.violated.Goals as goal

pub is_some_and-requires : goal.is_some_and-requires
is_some_and-requires c = λ x h. let f = times_fits c.args.d x c.requires.den (reach_at c.args.e.lower x h c.requires.lower) in search (rules, f)

pub is_some_and-requires-else-is_some_and : goal.is_some_and-requires-else-is_some_and
is_some_and-requires-else-is_some_and c = λ x h. let f = times_fits c.args.d x c.requires.den (reach_at c.args.e.upper x h c.requires.upper) in search (rules, f)

pub returns-then-is_some_and : goal.returns-then-is_some_and
returns-then-is_some_and c =
    let u : c.is_some_and.result ≡ falls_short c.args.z (scaled c.args.d c.args.e.lower) =
    told c.args.e.lower c.args.d (falls_short c.args.z) _ _ c.is_some_and.ensures
    (λ x h q. let b = times_back c.args.d x c.requires.den (reach_at c.args.e.lower x h c.requires.lower) in search (rules, tests, b, to_z-of_z)) refl in
    search (rules, u)

pub returns-then-is_some_and-2 : goal.returns-then-is_some_and-2
returns-then-is_some_and-2 c =
    let u : c.is_some_and.result ≡ falls_short c.args.z (scaled c.args.d c.args.e.lower) =
    told c.args.e.lower c.args.d (falls_short c.args.z) _ _ c.is_some_and.ensures
    (λ x h q. let b = times_back c.args.d x c.requires.den (reach_at c.args.e.lower x h c.requires.lower) in search (rules, tests, b, to_z-of_z)) refl in
    let v : c.is_some_and-else-is_some_and.result ≡ exceeds c.args.z (scaled c.args.d c.args.e.upper) =
    told c.args.e.upper c.args.d (exceeds c.args.z) _ _ c.is_some_and-else-is_some_and.ensures
    (λ x h q. let b = times_back c.args.d x c.requires.den (reach_at c.args.e.upper x h c.requires.upper) in search (rules, tests, b, to_z-of_z)) refl in
    search (rules, u, v)

pub returns-else-is_some_and-2 : goal.returns-else-is_some_and-2
returns-else-is_some_and-2 c =
    let u : c.is_some_and.result ≡ falls_short c.args.z (scaled c.args.d c.args.e.lower) =
    told c.args.e.lower c.args.d (falls_short c.args.z) _ _ c.is_some_and.ensures
    (λ x h q. let b = times_back c.args.d x c.requires.den (reach_at c.args.e.lower x h c.requires.lower) in search (rules, tests, b, to_z-of_z)) refl in
    let v : c.is_some_and-else-is_some_and.result ≡ exceeds c.args.z (scaled c.args.d c.args.e.upper) =
    told c.args.e.upper c.args.d (exceeds c.args.z) _ _ c.is_some_and-else-is_some_and.ensures
    (λ x h q. let b = times_back c.args.d x c.requires.den (reach_at c.args.e.upper x h c.requires.upper) in search (rules, tests, b, to_z-of_z)) refl in
    search (rules, u, v)
