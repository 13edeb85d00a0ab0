use Rattle.std.proofs.Common.{◌≡◌, ◌+◌, length, Ok, sym, ap, ◌∙◌, arith}
use Rattle.std.proofs.lemmas.List.{length_push}
use Rattle.problems.specs.Stated.{Stated, stated, with_row}
use Rattle.book.specs.Draft.{row_faults}
use Rattle.book.proofs.Drafts.{accepted, added}
use Rattle.book.proofs.draft.Draft.add_row.Goals as goal

-- the row was added
after : (c : goal.After-rows) → stated c.add_row.new.self ≡ with_row c.args.coefs.now c.args.ends (stated c.args.self.now.problem)
after c =
    added (stated c.args.self.now.problem) (stated c.add_row.new.self) c.args.coefs.now c.args.ends c.add_row.result c.add_row.ensures.value
    c.add_row.ensures.after c.in_ok-check_row.ensures

pub returns : goal.returns
returns c =
    let d = stated c.args.self.now.problem in
    let av = c.args.coefs.now in
    let e = c.args.ends in
    let n = length d.box.vars in
    let m = length d.rows in
    let k = accepted (row_faults d av e) (n + m + 1) d (with_row av e d) c.in_ok-check_row.ensures in
    let vars : c.variables.result ≡ n = c.variables.ensures.value ∙ ap (λ (s : Stated). length s.box.vars) (after c) in
    let rows : c.rows.result ≡ m + 1 = c.rows.ensures.value ∙ ap (λ (s : Stated). length s.rows) (after c) ∙ length_push d.rows av in
    let number : c.variables.result + c.rows.result ≡ n + m + 1 = omega arith in
    record { value = ap Ok number ∙ sym k.0; after = after c ∙ sym k.1 }
