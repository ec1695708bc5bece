-- The declarations of a function's document: its name, its stack entries, its fixed objects, its debug value substitutions, its constants and what it exposes.
use Rattle.std.specs.Prelude.{◌≡◌, ◌-◌, length, Option, Some, None, Result, Ok, Err}
use Rattle.read_documents.specs.declared.parts.FunctionDocument.{FunctionDocument}
use Rattle.read_refusal.specs.declared.first.Refusal.{Refusal}
use Rattle.read_refusal.specs.First.{earlier}
use Rattle.read_declarations.specs.declared.declarations.Declarations.{Declarations}
use Rattle.read_declarations.specs.declared.declarations.DeclarationError.{DeclarationError}
use Rattle.read_declarations.specs.declared.declarations.DeclarationError.TheVariants as errors
use Rattle.read_declarations.specs.declared.fixed.FixedRead.{FixedRead}
use Rattle.read_declarations.specs.Name.{name_of}
use Rattle.read_declarations.specs.Stack.{stack_of}
use Rattle.read_declarations.specs.Fixed.{fixed_of}
use Rattle.mir_substitution.specs.mir_func.Limits.{MAX_SLOTS}
use Rattle.read_declarations.specs.Substitutions.{substitutions_of}
use Rattle.read_declarations.specs.Constants.{pool_of}
use Rattle.read_declarations.specs.Exposure.{exposure_of}

-- the fixed objects that a document declares, and the first refusal: there is room for as many as its stack entries leave
abbrev pub fixed_in : FunctionDocument → FixedRead
fixed_in doc = fixed_of doc.linked (MAX_SLOTS - length (stack_of doc.stack).entries) doc.fixed

-- the first refusal among the lines that declare something
abbrev pub refusal_of : FunctionDocument → Option Refusal
refusal_of doc =
    earlier (earlier (earlier (name_of doc.name).refused (stack_of doc.stack).refused)
    (earlier (fixed_in doc).refused (substitutions_of doc.substitutions).refused)) (pool_of doc.linked doc.constants).refused

-- the declarations, which count only if nothing is refused
abbrev pub declared_of : FunctionDocument → Declarations
declared_of doc = record {
  name = (name_of doc.name).name;
  stack = (stack_of doc.stack).entries;
  fixed = (fixed_in doc).entries;
  substitutions = (substitutions_of doc.substitutions).entries;
  pool = (pool_of doc.linked doc.constants).constants;
  exposure = exposure_of doc.linked doc.twice;
}

-- declarations, unless there is a refusal
abbrev pub checked : Option Refusal → Declarations → Result Declarations Refusal
checked (Some r) declared = Err r
checked None declared = Ok declared

-- The declarations of a function's document, or the first refusal of the lines that declare something.
abbrev pub declarations_of : FunctionDocument → Result Declarations Refusal
declarations_of doc = checked (refusal_of doc) (declared_of doc)

-- What a call returns is this result, unless memory ran out.
abbrev pub Gives : Result Declarations DeclarationError → Result Declarations Refusal → Type 0
Gives (Ok x) read = read ≡ Ok x
Gives (Err errors.Memory) read = Unit {0}
Gives (Err (errors.Refused r)) read = read ≡ Err r
