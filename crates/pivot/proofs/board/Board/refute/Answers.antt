use Rattle.std.proofs.Common.{length, get_or, ap, ◌∙◌, arith}
use Rattle.problems.specs.Whole.{all_within}
use Rattle.tableau.specs.Lines.{blank}
use Rattle.pivot.proofs.Parts.{front}
use Rattle.pivot.proofs.Picks.{lines_at}
use Rattle.pivot.proofs.board.Board.refute.Goals as goal

pub slice_bounds-nums-end : goal.slice_bounds-nums-end
slice_bounds-nums-end c =
    let o = lines_at (length c.args.self.now.values.now) c.args.self.now.lines.now c.args.place blank c.args.self.now.lines_ok c.requires in
    omega (arith, o.long, c.args.self.now.short)

pub negate-requires : goal.negate-requires
negate-requires c =
    let k = length c.args.self.now.values.now in
    let o = lines_at k c.args.self.now.lines.now c.args.place blank c.args.self.now.lines_ok c.requires in
    ap (all_within 1000000000) (front k (get_or c.args.self.now.lines.now c.args.place blank).nums) ∙ o.small
