-- The report of a compilation is the program's.
use Rattle.std.proofs.Common.{◌≡◌, ℕ, List, sym, subst}
use Rattle.report_command.proofs.Reported.{compilation_reported}
use Rattle.report_command.specs.ProgramReport.{IsReportText, compilation_report}
use Rattle.read_program.specs.declared.program.Program.{Program}
use Rattle.pass_list.specs.declared.kind.PassKind.{PassKind}
use Rattle.selftest_command.specs.run_command.Program.{IsCompilationOf}
use Rattle.selftest_command.specs.run_command.Runs.{Compilation}
use Rattle.tool_driver.proofs.compiled.report_text.Goals as goal

pub report-requires : goal.report-requires
report-requires c =
    (compilation_reported c.args.plan.now.reserve c.args.plan.now.passes c.args.program.now c.in_ok-compilation.compilation
    c.in_ok-compilation.ensures.compilation).lists

reported : (reserve : List ℕ) (passes : List PassKind) (p : Program) (c : Compilation) (text : List ℕ) → IsCompilationOf reserve passes p c →
    text ≡ compilation_report c → IsReportText reserve passes p text
reported reserve passes p c text is spelled =
    subst (IsReportText reserve passes p) (sym spelled) (compilation_reported reserve passes p c is).text

pub returns-clause-ok : goal.returns-clause-ok
returns-clause-ok c =
    reported c.args.plan.now.reserve c.args.plan.now.passes c.args.program.now c.in_ok-compilation.compilation c.in_ok-report.field-0
    c.in_ok-compilation.ensures.compilation c.in_ok-report.ensures
