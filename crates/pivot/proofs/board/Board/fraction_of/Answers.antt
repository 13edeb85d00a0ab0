use Rattle.std.proofs.Common.{length, get_or, pos, neg_ℤ, sym, ap, ◌∙◌, w64, SFits, rules}
use Rattle.std.proofs.lemmas.Int.{to_z-of_z}
use Rattle.std.proofs.lemmas.List.{get_or-take}
use Rattle.problems.specs.Rows.{dot}
use Rattle.pivot.proofs.Picks.{line_at}
use Rattle.pivot.proofs.Casts.{neg_back, neg_fits}
use Rattle.pivot.proofs.Parts.{front}
use Rattle.pivot.proofs.board.Board.fraction_of.Goals as goal

pub overflow_sub-result : goal.overflow_sub-result
overflow_sub-result c =
    neg_fits (get_or c.args.line.now.nums c.args.line.now.basic (pos 0))
    (line_at (length c.args.self.now.values.now) c.args.line.now c.args.line.now.basic c.requires c.requires.basic)

pub returns : goal.returns
returns c =
    let l = c.args.line.now in
    let x = c.args.self.now.values.now in
    let k = length x in
    let f : SFits w64 c.dot-num.result = search rules in
    record {
      num = to_z-of_z w64 c.dot-num.result f ∙ c.dot-num.ensures ∙ ap (λ r. dot r x) (front k l.nums);
      den = neg_back (get_or l.nums l.basic (pos 0)) (line_at k l l.basic c.requires c.requires.basic) ∙ ap neg_ℤ (sym (get_or-take k l.nums l.basic (pos 0) c.requires.basic));
    }
