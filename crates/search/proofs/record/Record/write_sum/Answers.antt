use Rattle.std.proofs.Common.{◌∷◌, refl}
use Rattle.search.specs.Bytes.{three_bytes, map_of, multipliers}
use Rattle.search.proofs.Written.{wrote_both, wrote_as}
use Rattle.search.proofs.record.Record.write_sum.Goals as goal

pub returns : goal.returns
returns c =
    let ms = c.args.ms.now in
    let head = wrote_as _ (2 ∷ three_bytes (map_of ms)) _ _ (rw (c.to_be_bytes.ensures, c.standing.ensures.value) refl) c.put.ensures in
    wrote_both (2 ∷ three_bytes (map_of ms)) (multipliers ms) _ _ _ head c.write_multipliers.ensures
