use Rattle.std.proofs.Common.{◌≡◌, ◌++◌, drop, replicate}
use Rattle.lent.proofs.stack.Stack.clear.Given as goal

abbrev pub invariant-loop : goal.invariant-loop
invariant-loop g l =
    (replicate l.self.len g.E.Entry.BLANK ++ drop l.self.len l.self.slots.now
    ≡ replicate l.initial.self.len g.E.Entry.BLANK ++ drop l.initial.self.len l.initial.self.slots.now)
    × (l.self.slots.ghost_name ≡ l.initial.self.slots.ghost_name)

abbrev pub decreases-loop : goal.decreases-loop
decreases-loop g l = l.self.len
