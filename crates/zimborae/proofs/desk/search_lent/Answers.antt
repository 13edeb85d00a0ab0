use Rattle.std.proofs.Common.{◌≡◌, ℕ, ◌*◌, ap, ◌∙◌, arith, w64}
use Rattle.std.proofs.lemmas.Int.{to_z-of_z}
use Rattle.zimborae.specs.Desk.{lent_for}
use Rattle.zimborae.proofs.Lends.{lent_small, lent_long, answer_within}
use Rattle.zimborae.proofs.desk.search_lent.Goals as goal

pub returns : goal.returns
returns c =
    let budget = c.args.budget in
    let bytes = c.args.bytes.now in
    let path = c.args.path.now in
    let boxes = c.boxes_of-boxes.result in
    let same = to_z-of_z w64 budget c.ranges.budget in
    let few : boxes ≡ lent_for budget = c.boxes_of-boxes.ensures.value ∙ ap lent_for same in
    let small = lent_small budget in
    record {
      answer =
          λ wide deep.
          let bytes-long = lent_long bytes c.min-room.result (100 * boxes) c.min-room.ensures (omega arith) in
          let path-long = lent_long path c.min-places.result boxes c.min-places.ensures (omega arith) in
          answer_within c.args.problem.now budget c.search_box.new.bytes _ _ _ c.search_box.result
          (bytes-long ∙ ap (λ (k : ℕ). 100 * k) few)
          (path-long ∙ few)
          c.search_box.auto.bytes
          (rw same at c.search_box.ensures.answer);
    }
