use Rattle.std.proofs.Common.{refl, ◌∙◌, rules}
use Rattle.problems.specs.Stated.{stated}
use Rattle.book.specs.Draft.{large}
use Rattle.book.proofs.Faults.{pass, stop, exit}
use Rattle.book.proofs.Drafts.{row_says}
use Rattle.book.proofs.draft.check_row.Goals as goal

pub returns-in_err-refuse_if : goal.returns-in_err-refuse_if
returns-in_err-refuse_if c =
    exit c.from_residual.result c.in_err-refuse_if.field-0.0 c.from_residual.ensures.1
    ∙ row_says (stated c.args.problem.now) c.args.coefs.now c.args.ends
    c.variables-n.ensures.value c.rows-m.ensures.value refl refl refl
    (stop _ c.in_err-refuse_if.ensures)

pub returns-in_err-refuse_first : goal.returns-in_err-refuse_first
returns-in_err-refuse_first c =
    exit c.from_residual-in_err-refuse_first.result c.in_err-refuse_first.field-0.0 c.from_residual-in_err-refuse_first.ensures.1
    ∙ row_says (stated c.args.problem.now) c.args.coefs.now c.args.ends
    c.variables-n.ensures.value c.rows-m.ensures.value refl refl refl
    (pass c.in_ok-refuse_if.ensures (stop _ (c.in_err-refuse_first.ensures large (λ k d l met e. search rules))))

pub returns-in_err-refuse_if-2 : goal.returns-in_err-refuse_if-2
returns-in_err-refuse_if-2 c =
    exit c.from_residual-in_err-refuse_if-2.result c.in_err-refuse_if-2.field-0.0 c.from_residual-in_err-refuse_if-2.ensures.1
    ∙ row_says (stated c.args.problem.now) c.args.coefs.now c.args.ends
    c.variables-n.ensures.value c.rows-m.ensures.value c.is_row_end.ensures.value refl refl
    (pass c.in_ok-refuse_if.ensures (pass (c.in_ok-refuse_first.ensures large (λ k d l met e. search rules)) (stop _ c.in_err-refuse_if-2.ensures)))

pub returns-in_err-refuse_if-3 : goal.returns-in_err-refuse_if-3
returns-in_err-refuse_if-3 c =
    exit c.from_residual-in_err-refuse_if-3.result c.in_err-refuse_if-3.field-0.0 c.from_residual-in_err-refuse_if-3.ensures.1
    ∙ row_says (stated c.args.problem.now) c.args.coefs.now c.args.ends
    c.variables-n.ensures.value c.rows-m.ensures.value c.is_row_end.ensures.value c.is_row_end-2.ensures.value refl
    (pass c.in_ok-refuse_if.ensures (pass (c.in_ok-refuse_first.ensures large (λ k d l met e. search rules)) (pass c.in_ok-refuse_if-2.ensures (stop _ c.in_err-refuse_if-3.ensures))))

pub returns-in_err-refuse_if-4 : goal.returns-in_err-refuse_if-4
returns-in_err-refuse_if-4 c =
    exit c.from_residual-in_err-refuse_if-4.result c.in_err-refuse_if-4.field-0.0 c.from_residual-in_err-refuse_if-4.ensures.1
    ∙ row_says (stated c.args.problem.now) c.args.coefs.now c.args.ends
    c.variables-n.ensures.value c.rows-m.ensures.value c.is_row_end.ensures.value c.is_row_end-2.ensures.value c.cross.ensures.value
    (pass c.in_ok-refuse_if.ensures (pass (c.in_ok-refuse_first.ensures large (λ k d l met e. search rules)) (pass c.in_ok-refuse_if-2.ensures (pass c.in_ok-refuse_if-3.ensures (stop _ c.in_err-refuse_if-4.ensures)))))

pub returns-in_err-check_repeats : goal.returns-in_err-check_repeats
returns-in_err-check_repeats c =
    exit c.from_residual-in_err-check_repeats.result c.in_err-check_repeats.field-0.0 c.from_residual-in_err-check_repeats.ensures.1
    ∙ row_says (stated c.args.problem.now) c.args.coefs.now c.args.ends
    c.variables-n.ensures.value c.rows-m.ensures.value c.is_row_end.ensures.value c.is_row_end-2.ensures.value c.cross.ensures.value
    (pass c.in_ok-refuse_if.ensures (pass (c.in_ok-refuse_first.ensures large (λ k d l met e. search rules)) (pass c.in_ok-refuse_if-2.ensures (pass c.in_ok-refuse_if-3.ensures (pass c.in_ok-refuse_if-4.ensures (stop _ c.in_err-check_repeats.ensures))))))

pub returns : goal.returns
returns c =
    row_says (stated c.args.problem.now) c.args.coefs.now c.args.ends
    c.variables-n.ensures.value c.rows-m.ensures.value c.is_row_end.ensures.value c.is_row_end-2.ensures.value c.cross.ensures.value
    (pass c.in_ok-refuse_if.ensures (pass (c.in_ok-refuse_first.ensures large (λ k d l met e. search rules)) (pass c.in_ok-refuse_if-2.ensures (pass c.in_ok-refuse_if-3.ensures (pass c.in_ok-refuse_if-4.ensures (pass c.in_ok-check_repeats.ensures c.refuse_if-5.ensures))))))
