-- The entries of `stack`: the objects in a function's stack frame, spill slots included. (LLVM, "Machine IR (MIR) Format Reference Manual", has the list;
-- its fields are those of `MachineStackObject`.)
use Rattle.std.specs.Prelude.{◌≡◌, ℕ, Bool, not, ◌&&◌, ◌||◌, is_none, ◌==◌, nat_le, if◌then◌else◌, codes}
use Rattle.std.specs.Prelude.{List, [], ◌∷◌, ◌++◌, map, length, Option, Some, None, Result, Ok, Err}
use Rattle.std.specs.List.{list_any}
use Rattle.std.specs.Ordering.{nat_cmp}
use Rattle.std.specs.BTreeSet.{BTreeSet, contains}
use Rattle.read_lexer.specs.declared.line.Line.{Line}
use Rattle.read_refusal.specs.declared.first.Refusal.{Refusal}
use Rattle.read_refusal.specs.First.{earlier}
use Rattle.read_refusal.specs.declared.kind.RefusalKind.{RefusalKind}
use Rattle.read_refusal.specs.declared.kind.RefusalKind.TheVariants.{BadLine, StackObject, TooMany}
use Rattle.read_declarations.specs.declared.entry.MappingField.{MappingField}
use Rattle.read_declarations.specs.declared.entry.MappingEntry.{MappingEntry}
use Rattle.read_declarations.specs.declared.stack.StackEntry.{StackEntry}
use Rattle.read_declarations.specs.declared.stack.StackRead.{StackRead}
use Rattle.read_declarations.specs.Field.{value_at, needed, given, negated, is_variable_sized}
use Rattle.read_declarations.specs.List.{list_of}
use Rattle.mir_substitution.specs.mir_func.Limits.{MAX_SLOTS}
use Rattle.mir_substitution.specs.mir_func.Objects.{local_count}

-- whether a stack entry may have this alignment, in bytes
abbrev pub is_alignment : ℕ → Bool
is_alignment align = align == 1 || (align == 2 || (align == 4 || (align == 8 || align == 16)))

-- the entry with this number, size, alignment and local offset; it is refused as a stack object if its size is variable or its alignment isn't allowed
abbrev pub sized_entry : Bool → ℕ → ℕ → ℕ → Option ℕ → Result StackEntry RefusalKind
sized_entry variable id size align local =
    if variable || not (is_alignment align) then Err StackObject else Ok (record { id = id; size = size; align = align; local_offset = local })

-- the entry with these numbers; it is refused as a bad line if its number, size or alignment couldn't be read
abbrev pub entry_with : Bool → Option ℕ → Option ℕ → Option ℕ → Option ℕ → Result StackEntry RefusalKind
entry_with variable (Some id) (Some size) (Some align) local = sized_entry variable id size align local
entry_with _ _ _ _ _ = Err BadLine

-- an entry of variable size without `size` is refused: as a stack object, or as a bad line if its number couldn't be read
abbrev pub unsized : Option ℕ → Result StackEntry RefusalKind
unsized (Some id) = Err StackObject
unsized None = Err BadLine

-- The stack entry with these fields, judged by itself: `id` and `size` are required, and `alignment` is 1 by default. A `local-offset` that isn't a
-- negative integer above -2^30 is ignored.
abbrev pub stack_entry_of : List Line → List MappingField → Result StackEntry RefusalKind
stack_entry_of lines fields =
    if is_variable_sized lines fields && is_none (value_at lines (codes "size") fields) then unsized (needed lines (codes "id") fields)
    else entry_with (is_variable_sized lines fields) (needed lines (codes "id") fields) (needed lines (codes "size") fields)
    (given lines (codes "alignment") 1 fields) (negated lines (codes "local-offset") fields)

-- whether one of the entries has this number
abbrev pub has_id : List StackEntry → ℕ → Bool
has_id entries id = list_any (λ e. id == e.id) entries

-- a set contains the numbers of these entries and no others
abbrev pub AreIds : BTreeSet ℕ → List StackEntry → Type 0
AreIds ids entries = (q : ℕ) → contains nat_cmp ids q ≡ has_id entries q

-- why an entry can't be added to `count` others where there is room for so many: its number is taken, or there is no room
abbrev pub clash_in : (room : ℕ) → Bool → (count : ℕ) → Option RefusalKind
clash_in room is_there count = if is_there then Some StackObject else (if nat_le room count then Some TooMany else None)

-- the same within the limit of slots and objects
abbrev pub clash : Bool → ℕ → Option RefusalKind
clash is_there count = clash_in MAX_SLOTS is_there count

-- the refusal of a line, if there is a cause
abbrev pub refusal_at : ℕ → Option RefusalKind → Option Refusal
refusal_at line None = None
refusal_at line (Some kind) = Some (record { line = line; kind = kind })

-- the entries and the first refusal after one more entry: it may be refused by itself, or because of the entries before it
abbrev pub judged : StackRead → ℕ → Result StackEntry RefusalKind → StackRead
judged read line (Err kind) = record read { refused = earlier read.refused (Some (record { line = line; kind = kind })) }
judged read line (Ok e) = record {
  entries = read.entries ++ e ∷ [];
  refused = earlier read.refused (refusal_at line (clash (has_id read.entries e.id) (length read.entries)));
}

-- the entries and the first refusal after further entries
unfoldable pub stack_behind : List Line → StackRead → List MappingEntry → StackRead
stack_behind lines read [] = read
stack_behind lines read (e ∷ es) = stack_behind lines (judged read e.line (stack_entry_of lines e.fields)) es

-- the local offsets of entries
abbrev pub entry_offsets : List StackEntry → List (Option ℕ)
entry_offsets entries = map (λ e. e.local_offset) entries

-- an entry without its local offset
abbrev pub without_offset : StackEntry → StackEntry
without_offset e = record e { local_offset = None }

-- entries, without a local offset if there is one alone: it is relative to nothing then
abbrev pub shared : List StackEntry → List StackEntry
shared entries = if local_count (entry_offsets entries) == 1 then map without_offset entries else entries

-- the entries in the lines of `stack`, each judged after those before it, and the first refusal
abbrev pub stack_read : List Line → StackRead
stack_read lines = stack_behind lines (record { entries = []; refused = (list_of lines).refused }) (list_of lines).entries

-- the stack entries in the lines of `stack`, and the first refusal
abbrev pub stack_of : List Line → StackRead
stack_of lines = record { entries = shared (stack_read lines).entries; refused = (stack_read lines).refused }
