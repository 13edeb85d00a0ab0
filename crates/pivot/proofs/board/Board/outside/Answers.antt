use Rattle.std.proofs.Common.{length, arith}
use Rattle.pivot.proofs.Picks.{lines_at}
use Rattle.pivot.proofs.board.Board.outside.Goals as goal

pub violation_of-requires : goal.violation_of-requires
violation_of-requires c = lines_at (length c.args.self.now.values.now) c.args.self.now.lines.now c.loop-i.i _ c.args.self.now.lines_ok (omega arith)
