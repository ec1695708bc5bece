-- The lines of a function's body: the effect of each on the body read so far, or its refusal.
use Rattle.std.specs.Prelude.{◌≡◌, ℕ, Bool, true, false, if◌then◌else◌, List, [], ◌∷◌, Option, Some, None, Result, Ok, Err}
use Rattle.std.specs.declared.alloc.AllocError.{AllocError}
use Rattle.read_refusal.specs.declared.first.Refusal.{Refusal}
use Rattle.read_refusal.specs.declared.kind.RefusalKind.{RefusalKind}
use Rattle.read_refusal.specs.declared.kind.RefusalKind.TheVariants as kinds
use Rattle.read_metadata.specs.Maps.{Maps}
use Rattle.read_lexer.specs.declared.line.Line.{Line}
use Rattle.mir_func.specs.declared.block.Block.{Block}
use Rattle.read_line.specs.declared.form.BodyLine.{BodyLine}
use Rattle.read_line.specs.declared.form.BodyLine.TheVariants.{Passed, Closed, Label, Item}
use Rattle.read_line.specs.declared.form.ItemForm.{ItemForm}
use Rattle.read_line.specs.declared.form.FormError.{FormError}
use Rattle.read_line.specs.declared.form.FormError.TheVariants.{BadByte, UnclosedString, BadLine, Memory}
use Rattle.read_line.specs.Body.{body_line_of}
use Rattle.read_item.specs.declared.judged.Judged.{Judged}
use Rattle.read_item.specs.declared.judged.Judged.TheVariants as judged_as
use Rattle.read_item.specs.declared.judged.JudgedItem.{JudgedItem}
use Rattle.read_item.specs.Judge.{judged}
use Rattle.read_body.specs.declared.body.Body.{Body}
use Rattle.read_body.specs.Body.{nothing_read, label_cause, with_label, with_closed, repeats, item_cause, with_item, refused_cause}
use Rattle.read_program.specs.Ends.{with_ends}

-- the body, unless there is a cause to refuse the line
abbrev pub unless : Option RefusalKind → Body → Result Body RefusalKind
unless None body = Ok body
unless (Some cause) body = Err cause

-- the body after a label; a label whose number is above the limit is refused like an operand above it
abbrev pub label_said : Body → Option ℕ → Result Body RefusalKind
label_said body None = Err kinds.BadOperands
label_said body (Some n) = unless (label_cause body n) (with_label body n)

-- the body after an item that was judged by itself
abbrev pub one_said : Body → JudgedItem → Result Body RefusalKind
one_said body j = unless (item_cause body j.kind j.loc j.entries) (with_item body j.kind j.loc j.entries)

-- the body after another one
abbrev pub second_said : Result Body RefusalKind → JudgedItem → Result Body RefusalKind
second_said (Ok body) j = one_said body j
second_said (Err cause) j = Err cause

-- the body after two items of one line. Of their refusals the one with the lower number counts: the second alone may repeat a debug instruction number
abbrev pub two_said : Body → (first second : JudgedItem) → Result Body RefusalKind
two_said body first second = if repeats body second.kind then Err kinds.DuplicateNumber else second_said (one_said body first) second

-- the body after an item line that was judged by itself
abbrev pub judged_said : Body → Option ℕ → Result Judged RefusalKind → Result Body RefusalKind
judged_said body number (Ok judged_as.Passed) = Ok body
judged_said body number (Ok (judged_as.Item j)) = one_said body j
judged_said body number (Ok (judged_as.Two first second)) = two_said body first second
judged_said body number (Err cause) = Err (refused_cause body cause number)

-- the body after an item line, which must be in a block
abbrev pub item_said : (linked : Bool) → Maps → Body → Option Block → ItemForm → Result Body RefusalKind
item_said linked meta body None form = Err kinds.BadLine
item_said linked meta body (Some b) form = judged_said body form.number (judged linked meta form)

-- the refusal of a line that has no accepted form. Want of memory, which is no fault of the line, is mapped to BadLine
abbrev pub kind_of : FormError → RefusalKind
kind_of BadByte = kinds.BadByte
kind_of UnclosedString = kinds.UnclosedString
kind_of BadLine = kinds.BadLine
kind_of Memory = kinds.BadLine

-- the body after a parsed line, or the line's refusal
abbrev pub line_said : (linked : Bool) → Maps → Body → Result BodyLine FormError → Result Body RefusalKind
line_said linked meta body (Ok Passed) = Ok body
line_said linked meta body (Ok Closed) = Ok (with_closed body body.last)
line_said linked meta body (Ok (Label n)) = label_said body n
line_said linked meta body (Ok (Item form)) = item_said linked meta body body.last form
line_said linked meta body (Err e) = Err (kind_of e)

-- The body after one more line, or the line's refusal; `linked` is whether the linked language is read.
abbrev pub behind_line : (linked : Bool) → Maps → Body → List ℕ → Result Body RefusalKind
behind_line linked meta body text = line_said linked meta body (body_line_of linked text)

-- the result for the lines after a line, or that line's refusal at its number
abbrev pub and_then : ℕ → Result Body RefusalKind → (Body → Result Body Refusal) → Result Body Refusal
and_then line (Ok body) next = next body
and_then line (Err kind) next = Err (record { line = line; kind = kind })

-- The body after these lines, or the first refusal of one of them.
unfoldable pub body_behind : (linked : Bool) → Maps → Body → List Line → Result Body Refusal
body_behind linked meta body [] = Ok body
body_behind linked meta body (line ∷ lines) = and_then line.number (behind_line linked meta body line.text) (λ b. body_behind linked meta b lines)

-- the body as its lines read it, or the first refusal
abbrev pub lines_of_body : (linked : Bool) → Maps → List Line → Result Body Refusal
lines_of_body linked meta lines = body_behind linked meta nothing_read lines

-- the body whose blocks end as the linked language says, where that is read
abbrev pub ended : (linked : Bool) → Result Body Refusal → Result Body Refusal
ended false read = read
ended true (Ok body) = Ok (with_ends body)
ended true (Err refusal) = Err refusal

-- the body of these lines, or the first refusal
abbrev pub body_of : (linked : Bool) → Maps → List Line → Result Body Refusal
body_of linked meta lines = ended linked (lines_of_body linked meta lines)

-- A call's result for a line agrees with `said`: no refusal with the body `body`, and a refusal with the same one. Nothing is claimed if memory ran out.
abbrev pub Reads : Result (Option RefusalKind) AllocError → Body → Result Body RefusalKind → Type 0
Reads (Ok None) body said = said ≡ Ok body
Reads (Ok (Some cause)) body said = said ≡ Err cause
Reads (Err e) body said = Unit {0}
