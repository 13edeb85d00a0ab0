use Rattle.std.proofs.Common.{◌≡◌, ◌/◌, length, map, vec_items, IfOk, ◌∙◌, rules}
use Rattle.std.specs.Simd.{first_chunks}
use Rattle.std.proofs.lemmas.Iterator.{YieldsList-from_slice, YieldsList-from_map, items_from_collect}
use Rattle.std.proofs.lemmas.Result.{IfOk-weaker}
use Rattle.zimborae.proofs.Pairs.{span_of, even_paired}
use Rattle.zimborae.proofs.call.spans.Goals as goal

pub returns : goal.returns
returns c =
    let xs = c.args.numbers.now in
    let chunks = first_chunks 2 (length xs / 2) xs in
    let made : IfOk c.collect.result (λ v. vec_items v ≡ map span_of chunks) =
    items_from_collect _ c.collect.ensures.ran (YieldsList-from_map _ span_of (YieldsList-from_slice chunks cc) c.map.ensures.closure (λ x r q k. search rules))
    in
    record { value = IfOk-weaker c.collect.result _ _ (λ v e. e ∙ even_paired xs c.if-numbers-ne0.false) made }
