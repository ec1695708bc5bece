-- The step function of the machine, by the words of the image and the table of rows.
use Rattle.std.specs.Prelude.{◌≡◌, ℕ, ◌+◌, ◌-◌, ◌*◌, ◌/◌, ◌%◌, ◌^◌, List, [], ◌∷◌, ◌++◌, length, map, Option, Some, None, Bool, true, false, cond}
use Rattle.std.specs.Prelude.{nat_eq, nat_lt, nat_le, ◌&&◌, ◌||◌}
use Rattle.std.specs.List.{list_any}
use Rattle.rv64_instr.specs.declared.place.Place.TheVariants.{Slot}
use Rattle.rv64_instr.specs.Arithmetic.{computed, taken, load_width, store_width, extended}
use Rattle.rv64_instr.specs.Row.{PointedBy, ObjectAt, BesidePart}
use Rattle.rv64_instr.specs.Row.{Row, Fixes, Moves, Sets, Addresses, Loads, Stores, LoadsSlot, StoresSlot, Branches, Jumps, Calls, Returns, Unfit}
use Rattle.rv64_instr.specs.Row.{row_of, implicit_uses, Callee, Named, Held, CallSite, Back, Way, Tail, Never, Ending}
use Rattle.rv64_instr.specs.DefsAndUses.{caller_saved}
use Rattle.rv64_instr.specs.declared.start.CallTarget.{CallTarget}
use Rattle.rv64_instr.specs.declared.start.CallTarget.TheVariants.{Function, Address}
use Rattle.rv64_word.specs.declared.machine_op.MachineOp.{MachineOp}
use Rattle.rv64_word.specs.MachineRow.{MachineRow, Does, Links, LinksTo, machine_row}
use Rattle.sem_mir.specs.State.{Called, Wrote, Event, Reply, spelled, low_bytes, stored, written, updated, in_frame, touches_frame, RunResult}
use Rattle.sem_machine.specs.Image.{CodeLine, Image, line_at, word_at}
use Rattle.rv64_word.specs.Decoded.{decoded}
use Rattle.rv64_word.specs.Linked.{linked_word}
use Rattle.std.specs.Option.{option_map}
use Rattle.sem_machine.specs.Machine.{Machine, register, input, set_in, set_all_in, address_of, place_content}

-- the result of a step
pub data Stepped : Type 0 where
  -- the run goes on
  Continues : Machine → Stepped
  -- the run ends
  Ends : (result : RunResult) → Stepped
  -- the machine waits, since no reply is left for its call
  Awaits : Stepped
  -- the machine stops: no line with code is at the counter
  Leaves : Stepped
  -- the machine stops: no word of a valid operation is at the counter
  BadWord : Stepped

-- `JALR x0, 0(x1)`, which returns (RISC-V Unprivileged ISA, "Unconditional Jumps")
abbrev pub return_word : ℕ
return_word = 0x00008067

-- the counter advanced by so many bytes
abbrev pub past : (bytes : ℕ) → Machine → Machine
past n s = record s { counter = s.counter + n }

-- the counter set to a target
abbrev pub at : (target : ℕ) → Machine → Machine
at target s = record s { counter = target }

-- an integer register written. x0 drops writes
abbrev pub set_register : (rd v : ℕ) → Machine → Machine
set_register rd v s = record s { regs = set_in rd v s.regs }

-- the events after a store. A store that touches the frame shows none
abbrev pub shown_store : (address : ℕ) → List ℕ → Machine → List Event
shown_store a bytes s = cond (touches_frame s.entry s.area a (length bytes)) s.events (Wrote a bytes ∷ s.events)

-- bytes stored in memory from an address on, with the event of the store
abbrev pub store : (address : ℕ) → List ℕ → Machine → Machine
store a bytes s = record s { memory = stored s.memory a bytes; events = shown_store a bytes s }

-- the step of a word whose operation has this row. No word has the row of a slot, a stack object, a half of an address, a call or a return
unfoldable pub does_row : Row → Machine → Stepped
does_row (Fixes rd n) s = Continues (past 4 (set_register rd n s))
does_row (Moves rd rs) s = Continues (past 4 (set_register rd (register s rs) s))
does_row (Sets rd op a b) s = Continues (past 4 (set_register rd (computed op (register s a) (input s b)) s))
does_row (Addresses rd n offset) s = BadWord
does_row (Loads rd op (PointedBy r) offset) s =
    Continues (past 4 (set_register rd (extended op (spelled s.memory (address_of s r offset) (load_width op))) s))
does_row (Loads rd op (ObjectAt n) offset) s = BadWord
does_row (Loads rd op (BesidePart r y) offset) s = BadWord
does_row (Stores op rs (PointedBy r) offset) s =
    Continues (past 4 (store (address_of s r offset) (low_bytes (store_width op) (register s rs)) s))
does_row (Stores op rs (ObjectAt n) offset) s = BadWord
does_row (Stores op rs (BesidePart r y) offset) s = BadWord
does_row (LoadsSlot rd n) s = BadWord
does_row (StoresSlot rs n) s = BadWord
does_row (Branches op a b target) s = Continues (cond (taken op (register s a) (register s b)) (at target s) (past 4 s))
does_row (Jumps target) s = Continues (at target s)
does_row (Calls call) s = BadWord
does_row (Returns ending) s = BadWord
does_row Unfit s = BadWord

-- the step of a word. A jump to a register's content clears bit 0 of its target
abbrev pub does : MachineRow → Machine → Stepped
does (Does row) s = does_row row s
does (Links rd target) s = Continues (at target (set_register rd ((s.counter + 4) % 2 ^ 64) s))
does (LinksTo rd base offset) s = Continues (at (address_of s base offset / 2 * 2) (set_register rd ((s.counter + 4) % 2 ^ 64) s))

-- the step of a decoded word at the counter. A word that decodes to no operation stops the machine
abbrev pub does_operation : Option MachineOp → Machine → Stepped
does_operation None s = BadWord
does_operation (Some m) s = does (machine_row s.counter m) s

-- the step of the word at a line: `return_word` ends the run, with the contents of the registers of the line's implicit uses,
-- without x2, as results
abbrev pub does_word : CodeLine → Option ℕ → Machine → Stepped
does_word l None s = BadWord
does_word l (Some w) s =
    cond (nat_eq w return_word) (Ends (record { way = Back; values = map (register s) (implicit_uses l.instruction.operands) }))
    (does_operation (decoded w) s)

-- the content of a slot: the eight bytes at its offset from x2
abbrev pub word_content : Machine → ℕ → ℕ
word_content s n = place_content (Slot n) s

-- as many words as slots are passed, from an offset from x2 on: where the callee looks for its arguments on the stack (RISC-V ELF psABI, "Integer
-- Calling Convention")
abbrev pub words_from : Machine → (offset : ℕ) → (outgoing : List ℕ) → List ℕ
words_from s o [] = []
words_from s o (n ∷ ns) = word_content s o ∷ words_from s (o + 8) ns

-- the values that a call passes: the contents of its registers, and then the words from x2 on
abbrev pub passed : Machine → CallSite → List ℕ
passed s call = map (register s) call.args ++ words_from s 0 call.outgoing

-- a byte that is so far from x2 is in one of the words that a call passes
abbrev pub in_words : (outgoing : List ℕ) (offset : ℕ) → Bool
in_words outgoing o = list_any (λ n. nat_le n o && nat_lt o (n + 8)) outgoing

-- a byte of the frame that a callee owns: it is below its caller's stack pointer, or in a word that it is passed (RISC-V ELF psABI, "Integer
-- Calling Convention")
abbrev pub is_callees : (entry area pointer : ℕ) → (outgoing : List ℕ) → (address : ℕ) → Bool
is_callees entry area pointer outgoing a = in_frame entry area a && (nat_lt a pointer || in_words outgoing (a - pointer))

-- memory with the bytes that a callee leaves in what it owns of the frame. Writes to other bytes write nothing
abbrev pub left_below : (entry area pointer : ℕ) → (outgoing : List ℕ) → (ℕ → ℕ) → List (ℕ × ℕ) → ℕ → ℕ
left_below entry area pointer outgoing m [] = m
left_below entry area pointer outgoing m (w ∷ ws) =
    left_below entry area pointer outgoing (cond (is_callees entry area pointer outgoing w.0) (updated w.0 w.1 m) m) ws

-- the memory after a reply to a call that passes these slots
abbrev pub memory_after : (outgoing : List ℕ) → Reply → Machine → ℕ → ℕ
memory_after outgoing r s = left_below s.entry s.area (register s 2) outgoing (written s.memory r.writes) r.below

-- the bytes of a call: one by its callee's name has two words, which get the function's address when the program is linked, and one by a register has one
abbrev pub callee_size : Callee → ℕ
callee_size (Named name) = 8
callee_size (Held r) = 4

-- the step of a call of so many bytes, that passes these values and slots: it adds its event, the next reply sets the caller-saved registers, writes its
-- bytes and leaves what the callee owns of the frame, and the counter advances past the call
abbrev pub step_call : (size : ℕ) → CallTarget → (args outgoing : List ℕ) → Machine → List Reply → Stepped
step_call size target args outgoing s [] = Awaits
step_call size target args outgoing s (r ∷ rest) =
    let regs = set_all_in caller_saved r.regs s.regs in
    Continues (past size (record s { regs = regs; memory = memory_after outgoing r s; script = rest; events = Called target args ∷ s.events }))

-- what a callee is when the call is made: the function of its name, or what its register holds (`JALR` goes there with bit 0 cleared)
abbrev pub called_at : Machine → Callee → CallTarget
called_at s (Named name) = Function name
called_at s (Held r) = Address (register s r)

-- the way on which control leaves the function, when it does
abbrev pub way_at : Machine → Way Callee → Way CallTarget
way_at s Back = Back
way_at s (Tail callee) = Tail (called_at s callee)
way_at s (Never callee) = Never (called_at s callee)

-- the result of a run that ends so
abbrev pub result_at : Machine → Ending Callee → RunResult
result_at s ending = record { way = way_at s ending.way; values = map (register s) ending.values }

-- the callee of a call, and what it passes
abbrev pub call_of : Row → Option CallSite
call_of (Calls call) = Some call
call_of _ = None

-- how control leaves the function for a callee, if it does
abbrev pub elsewhere : Ending Callee → Way Callee → Option (Ending Callee)
elsewhere ending Back = None
elsewhere ending (Tail callee) = Some ending
elsewhere ending (Never callee) = Some ending

abbrev pub left_by : Row → Option (Ending Callee)
left_by (Returns ending) = elsewhere ending ending.way
left_by _ = None

-- what a word does is to jump to the content of a register, with this link register
abbrev pub is_jump_to : (link r : ℕ) → MachineRow → Bool
is_jump_to link r (Does row) = false
is_jump_to link r (Links rd target) = false
is_jump_to link r (LinksTo rd base offset) = nat_eq rd link && (nat_eq base r && nat_eq offset 0)

abbrev pub operation_jumps_to : (link r counter : ℕ) → Option MachineOp → Bool
operation_jumps_to link r a None = false
operation_jumps_to link r a (Some m) = is_jump_to link r (machine_row a m)

abbrev pub word_jumps_to : (link r counter : ℕ) → Option ℕ → Bool
word_jumps_to link r a None = false
word_jumps_to link r a (Some w) = operation_jumps_to link r a (decoded w)

-- the word at the counter goes to a callee, with this link register: to one by a register it is `JALR link, 0(r)` (RISC-V Unprivileged ISA, "Unconditional
-- Jumps"). The two words for one by its name get the function's address when the program is linked, and aren't looked at
abbrev pub goes_to : (link : ℕ) → Callee → (counter : ℕ) → Option ℕ → Bool
goes_to link (Named name) a w = true
goes_to link (Held r) a w = word_jumps_to link r a w

-- the word at the counter leaves the function so: x1 is kept for a callee in the function's place
abbrev pub leaves_by : Way Callee → (counter : ℕ) → Option ℕ → Bool
leaves_by Back a w = true
leaves_by (Tail callee) a w = goes_to 0 callee a w
leaves_by (Never callee) a w = goes_to 1 callee a w

-- the word at the counter as it is when the program is linked: with the half of an address that the line's instruction names
abbrev pub linked_at : Image → CodeLine → Machine → Option ℕ
linked_at image l s = option_map (linked_word s.symbols (row_of l.instruction)) (word_at image.text s.counter)

-- the step at a call site whose word goes to the callee is the call
abbrev pub does_call : CallSite → Option ℕ → Machine → Stepped
does_call call w s =
    cond (goes_to 1 call.callee s.counter w) (step_call (callee_size call.callee) (called_at s call.callee) (passed s call) call.outgoing s s.script)
    BadWord

-- where the word leaves the function for a callee the run ends
abbrev pub does_ending : Ending Callee → Option ℕ → Machine → Stepped
does_ending ending w s = cond (leaves_by ending.way s.counter w) (Ends (result_at s ending)) BadWord

-- the step at a line that calls nothing: a line that doesn't leave for a callee runs the word at the counter
abbrev pub does_left : Image → CodeLine → (left : Option (Ending Callee)) → Machine → Stepped
does_left image l (Some ending) s = does_ending ending (word_at image.text s.counter) s
does_left image l None s = does_word l (linked_at image l s) s

-- the step at a line: a call site calls
abbrev pub does_line : Image → CodeLine → (call : Option CallSite) → Machine → Stepped
does_line image l (Some call) s = does_call call (word_at image.text s.counter) s
does_line image l None s = does_left image l (left_by (row_of l.instruction)) s

-- the step at the line at the counter. Without one the machine has left the function
abbrev pub does_at : Image → Option CodeLine → Machine → Stepped
does_at image None s = Leaves
does_at image (Some l) s = does_line image l (call_of (row_of l.instruction)) s

-- one step
abbrev pub machine_step : Image → Machine → Stepped
machine_step image s = does_at image (line_at image.lines s.counter) s

-- the machine reaches the second state from the first in some number of steps
pub data Comes (image : Image) : Machine → Machine → Type 0 where
  there : {s : Machine} → Comes image s s
  steps : {s t u : Machine} → Comes image s t → machine_step image t ≡ Continues u → Comes image s u

-- the result is no error: the machine goes on, its run ends, or it waits for a reply
abbrev pub IsWell : Stepped → Type 0
IsWell (Continues s) = Unit {0}
IsWell (Ends results) = Unit {0}
IsWell Awaits = Unit {0}
IsWell Leaves = ⊥
IsWell BadWord = ⊥
