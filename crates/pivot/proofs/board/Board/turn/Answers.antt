use Rattle.std.proofs.Common.{length, ◌∙◌, arith}
use Rattle.pivot.proofs.Parts.{front_long, turned_ok}
use Rattle.pivot.proofs.board.Board.turn.Goals as goal

pub returns-then-nums-q-gt0-clause-ok : goal.returns-then-nums-q-gt0-clause-ok
returns-then-nums-q-gt0-clause-ok c =
    let k = length c.args.self.now.values.now in
    let l = c.args.line.now in
    turned_ok k c.args.q l c.negate.new.row c.requires.inside c.args.self.now.short c.requires.line
    (c.negate.auto.row ∙ front_long k l.nums (omega (arith, c.requires.line.long, c.args.self.now.short))) c.negate.ensures
