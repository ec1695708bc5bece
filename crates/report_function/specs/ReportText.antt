-- The text of the reports of a program.
use Rattle.std.specs.Prelude.{ℕ, List}
use Rattle.std.specs.List.{flat_map}
use Rattle.report_function.specs.Report.{report_of}
use Rattle.report_function.specs.Text.{report_text}
use Rattle.report_function.specs.declared.reported_function.ReportedFunction.{ReportedFunction}

-- the text of the report on the debug info coverage and losses of a function
abbrev pub function_report : ReportedFunction → List ℕ
function_report f = report_text (report_of f.code f.names f.lists f.losses)

-- The reports of functions, one after the other.
abbrev pub program_report : List ReportedFunction → List ℕ
program_report functions = flat_map function_report functions
