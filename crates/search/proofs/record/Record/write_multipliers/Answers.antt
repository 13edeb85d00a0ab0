use Rattle.std.proofs.Common.{ℕ, List, ◌+◌, length, get_or, pos, ap, ◌∙◌, w64, SFits, rules}
use Rattle.search.proofs.Entries.{back, within_at, none_on, one_on, all_on}
use Rattle.search.proofs.Maps.{stands, missing}
use Rattle.search.specs.declared.record.Record.{Record}
use Rattle.search.proofs.record.Record.write_multipliers.Goals as goal
use Rattle.search.proofs.record.Record.write_multipliers.Goals.{then-y-ne0, else-y-ne0}

pub big_endian-requires : goal.big_endian-requires
big_endian-requires c =
    let s = within_at 1000000000 c.args.ms.now c.requires.small c.loop-y.y-index in
    record { small = rw (back _ s) s }

pub loop-y-preserved : goal.loop-y-preserved
loop-y-preserved c =
    let ms = c.args.ms.now in
    let i = c.loop-y.y-index in
    let was = c.loop-y.invariant in
    let small = within_at 1000000000 ms c.requires.small i in
    let f : SFits w64 (get_or c.args.ms.now c.loop-y.y-index (pos 0)) = search rules in
    elim c.if-y-ne0.branch [
      | then-y-ne0 w ↦
          let e = w.self-is in
          let p = w.put.ensures in (
            one_on ms i _ _ _ _ _ _ _ c.loop-y-test.true (stands (get_or ms i (pos 0)) w.if-y-ne0.true) small c.loop-y.self.within
                w.big_endian.ensures.value (ap (λ (r : Record). r.bytes.now) e ∙ p.bytes) (ap (λ (r : Record). r.len) e ∙ p.len ∙ ap (λ (bs : List ℕ). c.loop-y.self.len + length bs) w.big_endian.ensures.value) was.0,
            ap (λ (r : Record). length r.bytes.now) e ∙ p.long ∙ was.1,
            ap (λ (r : Record). r.bytes.ghost_name) e ∙ p.named ∙ was.2,
          )
      | else-y-ne0 w ↦
          let e = w.self-is in (
            none_on ms i _ _ _ _ _ _ c.loop-y-test.true (missing (get_or ms i (pos 0)) f w.if-y-ne0.false) (ap (λ (r : Record). r.bytes.now) e) (ap (λ (r : Record). r.len) e) was.0,
            ap (λ (r : Record). length r.bytes.now) e ∙ was.1,
            ap (λ (r : Record). r.bytes.ghost_name) e ∙ was.2,
          )
    ]

pub returns : goal.returns
returns c =
    let w = all_on c.args.ms.now c.loop-y.y-index c.loop-y.self.len c.args.self.now.len _ _ c.loop-y-test.false c.loop-y.invariant.0 in
    record { bytes = w.0; len = w.1; long = c.loop-y.invariant.1; named = c.loop-y.invariant.2 }
