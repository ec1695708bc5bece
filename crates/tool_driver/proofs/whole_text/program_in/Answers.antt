use Rattle.std.proofs.Common.{ℕ, ◌<◌, get_or, sym, subst, ◌∙◌, arith}
use Rattle.std.proofs.lemmas.List.{get_or_default}
use Rattle.std.proofs.lemmas.Result.{IfOk-weaker, IfErr-weaker, err_from_is_err_and}
use Rattle.cli.specs.declared.fault.Fault.{Fault}
use Rattle.cli.specs.declared.fault.Fault.TheVariants.{NoFunction}
use Rattle.read_program.specs.declared.program.Program.{Program}
use Rattle.tool_driver.specs.Answer.{HasFunctions}
use Rattle.tool_driver.specs.steps.Ends.{RefusesText}
use Rattle.tool_driver.proofs.Inputs.{only_memory}
use Rattle.tool_driver.proofs.whole_text.program_in.Goals as goal

pub returns-in_ok-program-in-Ok-clause-ok : goal.returns-in_ok-program-in-Ok-clause-ok
returns-in_ok-program-in-Ok-clause-ok c =
    let same = c.in_ok-program-in-Ok.ensures.ok in
    let has : HasFunctions c.args.linked c.args.text.now c.in-Ok.program = record { reads = c.in-Ok.ensures; some = same.1 } in
    IfOk-weaker c.with_lines.result _ _
    (λ t is. (subst (λ (p : Program). HasFunctions c.args.linked c.args.text.now p) (sym (is.0 ∙ same.0)) has, is.1)) c.with_lines.ensures.ok

pub returns-in_ok-program-in-Ok-clause-err : goal.returns-in_ok-program-in-Ok-clause-err
returns-in_ok-program-in-Ok-clause-err c =
    IfErr-weaker c.with_lines.result _ (RefusesText c.args.linked c.args.text.now) (only_memory c.args.linked c.args.text.now) c.with_lines.ensures.err

pub returns-in_err-program-in-Ok-clause-err : goal.returns-in_err-program-in-Ok-clause-err
returns-in_err-program-in-Ok-clause-err c =
    let lacks = c.in_err-program-in-Ok.ensures.err in
    let none : RefusesText c.args.linked c.args.text.now NoFunction =
    record { program = c.in-Ok.program; reads = c.in-Ok.ensures; no_one = lacks.1 } in
    let p = err_from_is_err_and c.from_residual.result c.from_residual.ensures.1 in
    rw (p.1, p.2) (subst (λ (f : Fault). RefusesText c.args.linked c.args.text.now f) (sym lacks.0) none)

pub returns-in_err-program-in-Ok-clause-bytes : goal.returns-in_err-program-in-Ok-clause-bytes
returns-in_err-program-in-Ok-clause-bytes c = λ k d lt.
    let fits : get_or c.args.text.now k 0 < 256 = omega (arith, c.type_inv.text k) in
    subst (λ (b : ℕ). b < 256) (get_or_default c.args.text.now k 0 d lt) fits

pub returns-in-Err-Refused-clause-bytes : goal.returns-in-Err-Refused-clause-bytes
returns-in-Err-Refused-clause-bytes c = λ k d lt.
    let fits : get_or c.args.text.now k 0 < 256 = omega (arith, c.type_inv.text k) in
    subst (λ (b : ℕ). b < 256) (get_or_default c.args.text.now k 0 d lt) fits

pub returns-in-Err-Memory-clause-bytes : goal.returns-in-Err-Memory-clause-bytes
returns-in-Err-Memory-clause-bytes c = λ k d lt.
    let fits : get_or c.args.text.now k 0 < 256 = omega (arith, c.type_inv.text k) in
    subst (λ (b : ℕ). b < 256) (get_or_default c.args.text.now k 0 d lt) fits
