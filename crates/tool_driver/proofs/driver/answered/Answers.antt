-- What each command writes: those that read, of the program that was read.
use Rattle.std.proofs.Common.{sym, ap, ◌∙◌, subst, refl, IfOk, IfErr}
use Rattle.std.proofs.lemmas.Result.{err_from_is_err_and}
use Rattle.readback_strip.proofs.read_proof.Texts.{programs_are_as_read}
use Rattle.readback_strip.specs.strip_command.StripText.{stripped_text}
use Rattle.cli.specs.Command.{AreWithin}
use Rattle.cli.specs.declared.command.Command.{Command}
use Rattle.cli.specs.declared.command.Command.TheVariants.{Compile, Listing, Report, Run, Strip}
use Rattle.tool_driver.specs.Run.{AnswersInput}
use Rattle.tool_driver.specs.steps.Ends.{ReadingEnds}
use Rattle.tool_driver.specs.Stream.{change}
use Rattle.tool_driver.proofs.AnswerLemmas.{compile_ok, compile_err, listing_ok, listing_err, report_ok, report_err}
use Rattle.tool_driver.proofs.AnswerLemmas.{run_ok, run_err, strip_ok, test_ok, test_err, read_none}
use Rattle.tool_driver.proofs.driver.answered.Goals as goal

pub compiled_text-requires : goal.compiled_text-requires
compiled_text-requires g c =
    let read = c.in_ok-program-in-Compile.ensures.ok in
    programs_are_as_read c.in-Compile.plan.plan.linked read.text c.in_ok-program-in-Compile.program read.has.reads

pub listing_text-requires : goal.listing_text-requires
listing_text-requires g c =
    let read = c.in_ok-program-in-Listing.ensures.ok in
    programs_are_as_read c.in-Listing.plan.linked read.text c.in_ok-program-in-Listing.program read.has.reads

pub report_text-requires : goal.report_text-requires
report_text-requires g c =
    let read = c.in_ok-program-in-Report.ensures.ok in
    programs_are_as_read c.in-Report.plan.linked read.text c.in_ok-program-in-Report.program read.has.reads

pub run_text-requires : goal.run_text-requires
run_text-requires g c =
    let read = c.in_ok-program-in-Run.ensures.ok in
    programs_are_as_read c.in-Run.plan.plan.linked read.text c.in_ok-program-in-Run.program read.has.reads

pub returns-in_ok-program-in-Compile-clause-ok : goal.returns-in_ok-program-in-Compile-clause-ok
returns-in_ok-program-in-Compile-clause-ok g c =
    let input = change g.S.Source.left g.S.Source.faults c.args.input.now c.read.new.input in
    subst (λ (k : Command). IfOk c.compiled_text.result (AnswersInput k input)) (sym c.in-Compile.is)
    (compile_ok c.in-Compile.plan input c.in_ok-program-in-Compile.program c.in_ok-program-in-Compile.ensures.ok c.compiled_text.result
    c.compiled_text.ensures.ok)

pub returns-in_ok-program-in-Compile-clause-err : goal.returns-in_ok-program-in-Compile-clause-err
returns-in_ok-program-in-Compile-clause-err g c =
    let input = change g.S.Source.left g.S.Source.faults c.args.input.now c.read.new.input in
    subst (λ (k : Command). IfErr c.compiled_text.result (ReadingEnds k input)) (sym c.in-Compile.is)
    (compile_err c.in-Compile.plan input c.in_ok-program-in-Compile.program c.in_ok-program-in-Compile.ensures.ok c.compiled_text.result
    c.compiled_text.ensures.err)

pub returns-in_ok-program-in-Listing-clause-ok : goal.returns-in_ok-program-in-Listing-clause-ok
returns-in_ok-program-in-Listing-clause-ok g c =
    let input = change g.S.Source.left g.S.Source.faults c.args.input.now c.read-in-Listing.new.input in
    subst (λ (k : Command). IfOk c.listing_text.result (AnswersInput k input)) (sym c.in-Listing.is)
    (listing_ok c.in-Listing.plan input c.in_ok-program-in-Listing.program c.in_ok-program-in-Listing.ensures.ok c.listing_text.result
    c.listing_text.ensures.ok)

pub returns-in_ok-program-in-Listing-clause-err : goal.returns-in_ok-program-in-Listing-clause-err
returns-in_ok-program-in-Listing-clause-err g c =
    let input = change g.S.Source.left g.S.Source.faults c.args.input.now c.read-in-Listing.new.input in
    subst (λ (k : Command). IfErr c.listing_text.result (ReadingEnds k input)) (sym c.in-Listing.is)
    (listing_err c.in-Listing.plan input c.in_ok-program-in-Listing.program c.in_ok-program-in-Listing.ensures.ok c.listing_text.result
    c.listing_text.ensures.err)

pub returns-in_ok-program-in-Report-clause-ok : goal.returns-in_ok-program-in-Report-clause-ok
returns-in_ok-program-in-Report-clause-ok g c =
    let input = change g.S.Source.left g.S.Source.faults c.args.input.now c.read-in-Report.new.input in
    subst (λ (k : Command). IfOk c.report_text.result (AnswersInput k input)) (sym c.in-Report.is)
    (report_ok c.in-Report.plan input c.in_ok-program-in-Report.program c.in_ok-program-in-Report.ensures.ok c.report_text.result
    c.report_text.ensures.ok)

pub returns-in_ok-program-in-Report-clause-err : goal.returns-in_ok-program-in-Report-clause-err
returns-in_ok-program-in-Report-clause-err g c =
    let input = change g.S.Source.left g.S.Source.faults c.args.input.now c.read-in-Report.new.input in
    subst (λ (k : Command). IfErr c.report_text.result (ReadingEnds k input)) (sym c.in-Report.is)
    (report_err c.in-Report.plan input c.in_ok-program-in-Report.program c.in_ok-program-in-Report.ensures.ok c.report_text.result
    c.report_text.ensures.err)

pub returns-in-Object-clause-ok : goal.returns-in-Object-clause-ok
returns-in-Object-clause-ok g c =
    let input = change g.S.Source.left g.S.Source.faults c.args.input.now c.object_answered.new.input in
    subst (λ (k : Command). IfOk c.object_answered.result (AnswersInput k input)) (sym c.in-Object.is) c.object_answered.ensures.ok

pub returns-in-Object-clause-err : goal.returns-in-Object-clause-err
returns-in-Object-clause-err g c =
    let input = change g.S.Source.left g.S.Source.faults c.args.input.now c.object_answered.new.input in
    subst (λ (k : Command). IfErr c.object_answered.result (ReadingEnds k input)) (sym c.in-Object.is) c.object_answered.ensures.err

pub returns-in_ok-program-in-Run-clause-ok : goal.returns-in_ok-program-in-Run-clause-ok
returns-in_ok-program-in-Run-clause-ok g c =
    let input = change g.S.Source.left g.S.Source.faults c.args.input.now c.read-in-Run.new.input in
    subst (λ (k : Command). IfOk c.run_text.result (AnswersInput k input)) (sym c.in-Run.is)
    (run_ok c.in-Run.plan input c.in_ok-program-in-Run.program c.in_ok-program-in-Run.ensures.ok c.run_text.result
    c.run_text.ensures.ok)

pub returns-in_ok-program-in-Run-clause-err : goal.returns-in_ok-program-in-Run-clause-err
returns-in_ok-program-in-Run-clause-err g c =
    let input = change g.S.Source.left g.S.Source.faults c.args.input.now c.read-in-Run.new.input in
    subst (λ (k : Command). IfErr c.run_text.result (ReadingEnds k input)) (sym c.in-Run.is)
    (run_err c.in-Run.plan input c.in_ok-program-in-Run.program c.in_ok-program-in-Run.ensures.ok c.run_text.result
    c.run_text.ensures.err)

pub returns-in_ok-strip_text-in-Strip-clause-ok : goal.returns-in_ok-strip_text-in-Strip-clause-ok
returns-in_ok-strip_text-in-Strip-clause-ok g c =
    let input = change g.S.Source.left g.S.Source.faults c.args.input.now c.read-in-Strip.new.input in
    subst (λ (k : Command). AnswersInput k input c.in_ok-strip_text-in-Strip.field-0) (sym c.in-Strip.is)
    (strip_ok c.in-Strip.linked input c.in_ok-program-in-Strip.program c.in_ok-strip_text-in-Strip.field-0 c.in_ok-program-in-Strip.ensures.ok
    (c.in_ok-strip_text-in-Strip.ensures ∙ ap stripped_text c.as_slice.ensures))

pub test_text-requires : goal.test_text-requires
test_text-requires g c = subst AreWithin c.in-SelfTest.is c.requires

pub returns-in-SelfTest-clause-ok : goal.returns-in-SelfTest-clause-ok
returns-in-SelfTest-clause-ok g c =
    let input = change g.S.Source.left g.S.Source.faults c.args.input.now c.args.input.now in
    subst (λ (k : Command). IfOk c.test_text.result (AnswersInput k input)) (sym c.in-SelfTest.is)
    (test_ok c.in-SelfTest.asked input refl c.test_text.result c.test_text.ensures.ok)

pub returns-in-SelfTest-clause-err : goal.returns-in-SelfTest-clause-err
returns-in-SelfTest-clause-err g c =
    let input = change g.S.Source.left g.S.Source.faults c.args.input.now c.args.input.now in
    subst (λ (k : Command). IfErr c.test_text.result (ReadingEnds k input)) (sym c.in-SelfTest.is)
    (test_err c.in-SelfTest.asked input c.test_text.result c.test_text.ensures.err)

-- ---- no program was read

pub returns-in_err-program-in-Compile-clause-err : goal.returns-in_err-program-in-Compile-clause-err
returns-in_err-program-in-Compile-clause-err g c =
    let p = err_from_is_err_and c.from_residual.result c.from_residual.ensures.1 in
    rw (p.1, p.2, c.in-Compile.is)
    (read_none (Compile c.in-Compile.plan) tt (change g.S.Source.left g.S.Source.faults c.args.input.now c.read.new.input)
    c.in_err-program-in-Compile.field-0.0 c.in_err-program-in-Compile.ensures.err)

pub returns-in_err-program-in-Listing-clause-err : goal.returns-in_err-program-in-Listing-clause-err
returns-in_err-program-in-Listing-clause-err g c =
    let p = err_from_is_err_and c.from_residual-in_err-program-in-Listing.result c.from_residual-in_err-program-in-Listing.ensures.1 in
    rw (p.1, p.2, c.in-Listing.is)
    (read_none (Listing c.in-Listing.plan) tt (change g.S.Source.left g.S.Source.faults c.args.input.now c.read-in-Listing.new.input)
    c.in_err-program-in-Listing.field-0.0 c.in_err-program-in-Listing.ensures.err)

pub returns-in_err-program-in-Report-clause-err : goal.returns-in_err-program-in-Report-clause-err
returns-in_err-program-in-Report-clause-err g c =
    let p = err_from_is_err_and c.from_residual-in_err-program-in-Report.result c.from_residual-in_err-program-in-Report.ensures.1 in
    rw (p.1, p.2, c.in-Report.is)
    (read_none (Report c.in-Report.plan) tt (change g.S.Source.left g.S.Source.faults c.args.input.now c.read-in-Report.new.input)
    c.in_err-program-in-Report.field-0.0 c.in_err-program-in-Report.ensures.err)

pub returns-in_err-program-in-Run-clause-err : goal.returns-in_err-program-in-Run-clause-err
returns-in_err-program-in-Run-clause-err g c =
    let p = err_from_is_err_and c.from_residual-in_err-program-in-Run.result c.from_residual-in_err-program-in-Run.ensures.1 in
    rw (p.1, p.2, c.in-Run.is)
    (read_none (Run c.in-Run.plan) tt (change g.S.Source.left g.S.Source.faults c.args.input.now c.read-in-Run.new.input)
    c.in_err-program-in-Run.field-0.0 c.in_err-program-in-Run.ensures.err)

pub returns-in_err-program-in-Strip-clause-err : goal.returns-in_err-program-in-Strip-clause-err
returns-in_err-program-in-Strip-clause-err g c =
    let p = err_from_is_err_and c.from_residual-in_err-program-in-Strip.result c.from_residual-in_err-program-in-Strip.ensures.1 in
    rw (p.1, p.2, c.in-Strip.is)
    (read_none (Strip c.in-Strip.linked) tt (change g.S.Source.left g.S.Source.faults c.args.input.now c.read-in-Strip.new.input)
    c.in_err-program-in-Strip.field-0.0 c.in_err-program-in-Strip.ensures.err)
