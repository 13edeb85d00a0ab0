use Rattle.std.proofs.Common.{rules, suc, [], ◌∷◌, ap, ◌∙◌, List, ℕ}
use Rattle.search.specs.Bytes.{four_bytes, split_bytes}
use Rattle.search.proofs.Entries.{back}
use Rattle.search.proofs.Written.{wrote_both, wrote_as}
use Rattle.search.proofs.record.Record.write_split.Goals as goal

pub returns : goal.returns
returns c =
    let v = c.args.cut.0 in
    let k = c.args.cut.1 in
    let number = c.big_endian.ensures.value ∙ ap four_bytes (back k c.requires.small) in
    wrote_as _ (split_bytes v k) _ _ (ap (λ (bs : List ℕ). 1 ∷ suc v ∷ bs) number) (wrote_both (1 ∷ suc v ∷ []) _ _ _ _ (wrote_as _ (1 ∷ suc v ∷ []) _ _ (search rules) c.put.ensures) c.put-2.ensures)
