-- The scan that cuts a text into documents, line by line.
use Rattle.std.specs.Prelude.{ℕ, Bool, true, false, not, ◌&&◌, ◌||◌, ◌==◌, if◌then◌else◌, List, [], ◌∷◌, ◌++◌, length, Option, Some, None, is_none}
use Rattle.std.specs.Option.{option_map_or}
use Rattle.read_lexer.specs.declared.line.Line.{Line}
use Rattle.read_documents.specs.declared.key.Key.{Key}
use Rattle.read_documents.specs.declared.key.Key.TheVariants.{Name, Stack, FixedStack, DebugValueSubstitutions, Constants, ReturnsTwice, Body, Other}
use Rattle.read_documents.specs.declared.open_function.OpenFunction.{OpenFunction}
use Rattle.read_documents.specs.declared.scan.Scan.{Scan}
use Rattle.read_documents.specs.declared.parts.FunctionDocument.{FunctionDocument}
use Rattle.read_documents.specs.declared.parts.Documents.{Documents}
use Rattle.read_documents.specs.Key.{is_close, opens_block, opens_function, is_passed, is_plain, heading}

-- ---- a function that isn't closed yet

-- a function right after the line that opens it
abbrev pub just_opened : (linked : Bool) → ℕ → OpenFunction
just_opened linked opened = record {
  opened = opened;
  linked = linked;
  key = Other;
  has_body = false;
  name = [];
  stack = [];
  fixed = [];
  substitutions = [];
  constants = [];
  twice = [];
  body = [];
}

-- whether a line with this key came already, for a key that may come once
abbrev pub has : OpenFunction → Key → Bool
has f Name = not (length f.name == 0)
has f Stack = not (length f.stack == 0)
has f FixedStack = not (length f.fixed == 0)
has f DebugValueSubstitutions = not (length f.substitutions == 0)
has f Constants = f.linked && not (length f.constants == 0)
has f ReturnsTwice = f.linked && not (length f.twice == 0)
has f Body = f.has_body
has f Other = false

-- whether a line is a fault in the function
abbrev pub can_not_take : OpenFunction → List ℕ → Bool
can_not_take f text =
    (opens_block text || opens_function text)
    || (option_map_or (λ key. has f key) (heading text) false || (is_none (heading text) && (not (is_plain text) && not f.has_body)))

-- the function with one more line under this key
abbrev pub with_line : OpenFunction → Key → Line → OpenFunction
with_line f Name line = record f { name = f.name ++ line ∷ [] }
with_line f Stack line = record f { stack = f.stack ++ line ∷ [] }
with_line f FixedStack line = record f { fixed = f.fixed ++ line ∷ [] }
with_line f DebugValueSubstitutions line = record f { substitutions = f.substitutions ++ line ∷ [] }
with_line f Constants line = record f { constants = f.constants ++ line ∷ [] }
with_line f ReturnsTwice line = record f { twice = f.twice ++ line ∷ [] }
with_line f Body line = record f { body = f.body ++ line ∷ [] }
with_line f Other line = f

-- the function after a line that begins with a key
abbrev pub with_key : OpenFunction → Key → Line → OpenFunction
with_key f Body line = record f { key = Body; has_body = true }
with_key f key line = with_line (record f { key = key }) key line

-- the function after a line, given the key that the line begins with, if any
abbrev pub taken_under : OpenFunction → Option Key → Line → OpenFunction
taken_under f (Some key) line = with_key f key line
taken_under f None line = with_line f f.key line

-- the function after a line
abbrev pub taken : OpenFunction → Line → OpenFunction
taken f line = taken_under f (heading line.text) line

-- whether the function has a name and a body
abbrev pub can_close : OpenFunction → Bool
can_close f = not (length f.name == 0) && f.has_body

-- the document of the function, once the line with number `closed` closes it
abbrev pub closed_at : OpenFunction → ℕ → FunctionDocument
closed_at f closed = record {
  opened = f.opened;
  closed = closed;
  linked = f.linked;
  name = f.name;
  stack = f.stack;
  fixed = f.fixed;
  substitutions = f.substitutions;
  constants = f.constants;
  twice = f.twice;
  body =
      f.body;
}

-- ---- the scan

-- the state before the first line
abbrev pub start : (linked : Bool) → Scan
start linked = record { linked = linked; had_block = false; in_block = false; function = None; meta = []; functions = [] }

-- the line number of a fault outside documents, if this line is one
abbrev pub outside_fault : Scan → Line → Option ℕ
outside_fault s line =
    if is_passed line.text then None
    else (if opens_block line.text then (if s.had_block then Some line.number else None)
    else (if opens_function line.text then None
    else Some line.number))

-- the line number of a fault in a function, if this line reveals one: its own, or the function's opening line if `...` comes before a name and a body
abbrev pub function_fault : OpenFunction → Line → Option ℕ
function_fault f line =
    if is_close line.text then (if can_close f then None else Some f.opened)
    else (if can_not_take f line.text then Some line.number else None)

-- the line number of a fault, if this line reveals one
abbrev pub fault_in : Scan → Option OpenFunction → Line → Option ℕ
fault_in s (Some f) line = function_fault f line
fault_in s None line = if s.in_block then None else outside_fault s line

abbrev pub fault : Scan → Line → Option ℕ
fault s line = fault_in s s.function line

-- the state after a line of the IR block
abbrev pub block_step : Scan → Line → Scan
block_step s line = if is_close line.text then record s { in_block = false } else record s { meta = s.meta ++ line ∷ [] }

-- the state after a line outside documents
abbrev pub outside_step : Scan → Line → Scan
outside_step s line =
    if is_passed line.text then s
    else (if opens_block line.text then record s { had_block = true; in_block = true }
    else (if opens_function line.text then record s { function = Some (just_opened s.linked line.number) }
    else s))

-- the state after a line of a function
abbrev pub function_step : Scan → OpenFunction → Line → Scan
function_step s f line =
    if is_close line.text then record s { function = None; functions = s.functions ++ closed_at f line.number ∷ [] }
    else record s { function = Some (taken f line) }

-- the state after a line
abbrev pub step_in : Scan → Option OpenFunction → Line → Scan
step_in s (Some f) line = function_step s f line
step_in s None line = if s.in_block then block_step s line else outside_step s line

abbrev pub step : Scan → Line → Scan
step s line = step_in s s.function line

-- the line number of a fault at the end of the text, whose last line has number `last`
abbrev pub fault_at_end : Scan → Option OpenFunction → ℕ → Option ℕ
fault_at_end s (Some f) last = if can_close f then Some last else Some f.opened
fault_at_end s None last = if s.in_block then Some last else None

-- the documents read so far, with the line number of the fault, if any
abbrev pub found : Scan → Option ℕ → Documents
found s bad = record { meta = s.meta; functions = s.functions; bad = bad }

-- the documents of the state and the fault at this line, if there is one, and else `others`
abbrev pub scan_or_stop : Scan → Option ℕ → Documents → Documents
scan_or_stop s (Some bad) others = found s (Some bad)
scan_or_stop s None others = others

unfoldable pub scan : Scan → ℕ → List Line → Documents
scan s last [] = found s (fault_at_end s s.function last)
scan s last (line ∷ lines) = scan_or_stop s (fault s line) (scan (step s line) line.number lines)
