use Rattle.std.proofs.Common.{length, sym}
use Rattle.pivot.proofs.Picks.{lines_at}
use Rattle.pivot.proofs.Parts.{shaped_ok}
use Rattle.pivot.proofs.board.Board.pivot.Goals as goal

pub turn-t-requires-clause-line : goal.turn-t-requires-clause-line
turn-t-requires-clause-line c =
    let b = c.args.self.now in
    rw c.take-lines.ensures.value (lines_at (length b.values.now) b.lines.now c.args.f.place _ b.lines_ok c.requires.standing)

pub invariant_of-self-2-clause-lines_ok : goal.invariant_of-self-2-clause-lines_ok
invariant_of-self-2-clause-lines_ok c =
    let k = length c.args.self.now.values.now in
    shaped_ok k _ c.exchange.ensures.shaped (sym c.if-not-are_small.ensures)
