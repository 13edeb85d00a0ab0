use Rattle.std.proofs.Common.{◌≡◌, ℕ, ◌≤◌, List, drop, length, nat_abs, Ok, Err, Result, sym, refl, ap, ◌∙◌, subst, arith, w64, rules}
use Rattle.search.specs.Walk.{Blanked}
use Rattle.std.proofs.lemmas.List.{length-take-le}
use Rattle.std.proofs.lemmas.Int.{to_z-of_z}
use Rattle.std.proofs.lemmas.Result.{err_from_is_err_and}
use Rattle.problems.specs.declared.refusal.Refused.{Refused}
use Rattle.problems.specs.View.{box_of, rows_of}
use Rattle.problems.proofs.Views.{proper}
use Rattle.search.specs.declared.open_split.OpenSplit.{OpenSplit}
use Rattle.search.specs.declared.found.Found.{Found as FoundType}
use Rattle.search.specs.Search.{Found, search_box}
use Rattle.search.specs.Asked.{bytes_told, bytes_written, reply_of, record_after, path_after}
use Rattle.search.specs.Promise.{Truthful, ReplyTruthful}
use Rattle.search.specs.Shown.{found_of}
use Rattle.search.proofs.Answered.{truthful, asked_refused, asked_granted, boxes_are, room_for, front_and_rest, all_blank}
use Rattle.search.proofs.search_box.search_box.Goals as goal

pub returns-in_err-boxes : goal.returns-in_err-boxes
returns-in_err-boxes g c =
    let m = g.T.Tester.meaning c.args.tester.now in
    let p = c.args.problem.now in
    let bytes = c.args.bytes.now in
    let path = c.args.path.now in
    let q = err_from_is_err_and c.from_residual.result c.from_residual.ensures.1 in
    let h = rw (to_z-of_z w64 c.args.budget c.ranges.budget) at c.in_err-boxes.ensures in
    let a = asked_refused m p c.args.budget (length bytes) (length path) _ h in
    let r = q.1 ∙ ap (λ (x : Refused). Err x) q.2 in
    record {
      answer = ap (reply_of p.ends.vars.n bytes) r ∙ sym a;
      count = ap bytes_told r ∙ ap bytes_written (sym a);
      written = ap (λ (x : Result Found Refused). record_after x bytes) (sym a);
      path = ap (λ (x : Result Found Refused). path_after x path) (sym a);
      same = refl;
      truthful = subst (λ (x : Result FoundType Refused). ReplyTruthful m p c.args.budget (reply_of p.ends.vars.n bytes x)) (sym r) tt;
    }

pub returns : goal.returns
returns g c =
    let m = g.T.Tester.meaning c.args.tester.now in
    let p = c.args.problem.now in
    let bytes = c.args.bytes.now in
    let path = c.args.path.now in
    let h = rw (to_z-of_z w64 c.args.budget c.ranges.budget) at c.in_ok-boxes.ensures in
    let boxes = c.in_ok-boxes.boxes in
    let a = asked_granted m p c.args.budget (length bytes) (length path) boxes h in
    let f = c.run-found.result in
    let ran = c.run-found.ensures in
    let bytes' = c.run-found.new.written.bytes.now in
    let F = search_box m (rows_of p) (box_of p) boxes in
    let same_bytes = c.over-written.ensures.value.0 in
    let is : found_of p.ends.vars.n bytes' f ≡ F = ran.answer in
    let long : length bytes' ≡ length bytes = ran.long ∙ ap (λ (xs : List ℕ). length xs) same_bytes in
    let fits : f.bytes ≤ length bytes' = omega (arith, long, ran.room, room_for c.args.budget (length bytes) (length path) boxes h) in
    let st = c.run-found.new.stack in
    let blanks = subst (λ (os : List OpenSplit). Blanked os f.deepest st.slots.now st.len) c.over-stack.ensures.value.0 ran.blanks in
    let cleared = all_blank path st.slots.now c.clear.new.self.slots.now f.deepest st.len blanks c.clear.ensures.after.0
    ∙ ap (λ (x : Result Found Refused). path_after x path) (ap Ok is ∙ sym a) in
    record {
      answer = ap (λ (xs : List ℕ). Ok (found_of p.ends.vars.n xs f)) (search rules) ∙ ap (λ (x : Found). Ok x) is ∙ sym a;
      count = sym (length-take-le f.bytes bytes' fits) ∙ ap (λ (x : Found). length x.bytes) is ∙ ap bytes_written (sym a);
      written = search rules ∙ front_and_rest bytes bytes' f.bytes long (ran.kept ∙ ap (drop f.bytes) same_bytes)
          ∙ ap (λ (x : Result Found Refused). record_after x bytes) (ap Ok is ∙ sym a);
      path = search (rules, cleared);
      same = ran.same;
      truthful = subst (λ (x : Found). Truthful m (rows_of p) (box_of p) (nat_abs c.args.budget) x) (sym (ap (λ (xs : List ℕ). found_of p.ends.vars.n xs f) (search rules) ∙ is))
          (subst (λ k. Truthful m (rows_of p) (box_of p) k F) (boxes_are c.args.budget (length bytes) (length path) boxes h) (truthful m (g.met.T.Tester.lawful c.args.tester.now) (rows_of p) (box_of p) (proper p) boxes));
    }
