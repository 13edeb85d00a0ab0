use Rattle.std.proofs.Common.{◌≡◌, ◌+◌, ◌-◌, List, ◌++◌, length, take, set, replicate, ℤ, pos, negsuc, ap, ◌∙◌, arith}
use Rattle.problems.proofs.Builds.{padded_all}
use Rattle.problems.specs.Whole.{all_within}
use Rattle.tableau.specs.declared.line.Line.{Line}
use Rattle.pivot.proofs.Begins.{begun, begun_long, start_small}
use Rattle.pivot.proofs.start.first_line.Goals as goal

pub returns : goal.returns
returns c =
    let r = c.args.coefs.now in
    let m = c.args.m in
    let i = c.args.i in
    let n = length r in
    let all : c.padded-nums.result ≡ r ++ replicate (24 - n) (pos 0) = c.padded-nums.ensures.value ∙ padded_all r 24 (pos 0) (omega (arith, c.requires.long)) in
    let e = ap (λ (y : List ℤ). take (n + m) (set y (n + i) (negsuc 0))) all ∙ begun r m i (negsuc 0) c.requires.long c.requires.inside in
    let made : List ℤ → Line = λ y. record { basic = n + i; nums = y } in
    record {
      value = ap made e;
      ok = record {
        basic = omega (arith, c.requires.inside);
        small = ap (all_within 1000000000) e ∙ start_small r m i c.requires.small;
        long = ap (λ (y : List ℤ). length (set y (n + i) (negsuc 0))) all ∙ begun_long r (n + i) (negsuc 0) (omega (arith, c.requires.long));
      };
    }
