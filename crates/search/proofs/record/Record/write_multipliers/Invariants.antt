use Rattle.std.proofs.Common.{◌≡◌, length}
use Rattle.search.proofs.Entries.{Left}
use Rattle.search.proofs.record.Record.write_multipliers.Given as goal

abbrev pub invariant-loop-y : goal.invariant-loop-y
invariant-loop-y l =
    Left l.ms l.y-index l.self.len l.initial.self.len l.self.bytes.now l.initial.self.bytes.now
    × (length l.self.bytes.now ≡ length l.initial.self.bytes.now)
    × (l.self.bytes.ghost_name ≡ l.initial.self.bytes.ghost_name)
