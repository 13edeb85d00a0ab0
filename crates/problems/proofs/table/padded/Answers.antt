use Rattle.std.proofs.Common.{◌≡◌, ◌++◌, min, length, take, drop, replicate, ap, ◌∙◌, arith, rules}
use Rattle.std.proofs.lemmas.List.{drop-replicate, take_min}
use Rattle.problems.proofs.table.padded.Goals as goal

pub returns : goal.returns
returns g c =
    let xs = c.args.front.now in
    let n = g.row.N in
    let k : c.min-n.result ≡ min n (length xs) = search rules in
    record {
      value =
          ap (λ ys. ys ++ drop c.min-n.result (replicate n c.args.blank)) (c.copy_from_slice.ensures.after ∙ ap (λ i. take i xs) k ∙ take_min n xs)
          ∙ ap (λ ys. take n xs ++ ys) (drop-replicate c.min-n.result n c.args.blank)
          ∙ ap (λ i. take n xs ++ replicate i c.args.blank) (omega (arith, k));
    }
