use Rattle.std.proofs.Common.{List, ℕ, length, refl, ap, ◌∙◌, arith}
use Rattle.search.proofs.Written.{part_wrote, wrote_long}
use Rattle.search.proofs.record.Record.put.Goals as goal

pub returns : goal.returns
returns c =
    let r = c.args.self.now in
    let e = part_wrote r.len _ c.args.piece.now r.bytes.now _ c.copy_from_slice.ensures.after (omega arith) in
    record { bytes = e; len = refl; long = ap (λ (xs : List ℕ). length xs) e ∙ wrote_long r.len c.args.piece.now r.bytes.now c.requires.room; named = refl }
