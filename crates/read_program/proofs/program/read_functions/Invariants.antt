use Rattle.std.proofs.Common.{List, Result, drop}
use Rattle.read_program.specs.declared.closing.Parsed.{Parsed}
use Rattle.read_program.specs.declared.error.ParseError.{ParseError}
use Rattle.read_program.specs.Program.{FunctionsFrom}
use Rattle.read_program.proofs.program.read_functions.Given as goal

abbrev pub invariant-loop-document : goal.invariant-loop-document
invariant-loop-document l =
    (answer : Result (List Parsed) ParseError) → FunctionsFrom l.meta l.functions (drop l.document-index l.documents) answer →
    FunctionsFrom l.meta l.initial.functions l.documents answer
