-- The entries of `fixedStack`: stack objects at a given offset from the stack pointer at entry, as the arguments that a caller passes on the stack. (LLVM,
-- "Machine IR (MIR) Format Reference Manual", has the list; its fields are those of `FixedMachineStackObject`.)
use Rattle.std.specs.Prelude.{ℕ, zero, suc, ◌+◌, ℤ, pos, negsuc, Bool, if◌then◌else◌, nat_eq, codes, List, [], ◌∷◌, ◌++◌, map, length, Option, Some, None}
use Rattle.std.specs.Prelude.{Result, Ok, Err}
use Rattle.std.specs.List.{list_any}
use Rattle.base_ids.specs.Limits.{FIXED}
use Rattle.read_lexer.specs.declared.line.Line.{Line}
use Rattle.read_refusal.specs.declared.first.Refusal.{Refusal}
use Rattle.read_refusal.specs.First.{earlier}
use Rattle.read_refusal.specs.declared.kind.RefusalKind.{RefusalKind}
use Rattle.read_refusal.specs.declared.kind.RefusalKind.TheVariants.{BadLine, StackObject}
use Rattle.read_declarations.specs.declared.entry.MappingField.{MappingField}
use Rattle.read_declarations.specs.declared.entry.MappingEntry.{MappingEntry}
use Rattle.read_declarations.specs.declared.fixed.FixedEntry.{FixedEntry}
use Rattle.read_declarations.specs.declared.fixed.FixedRead.{FixedRead}
use Rattle.read_declarations.specs.Field.{needed, negated}
use Rattle.read_declarations.specs.List.{list_of}
use Rattle.read_declarations.specs.Stack.{clash_in, refusal_at}

-- the negative of a number
abbrev pub minus : ℕ → ℤ
minus zero = pos 0
minus (suc n) = negsuc n

-- the integer with this number, or with the one behind its minus sign
abbrev pub signed : (number negated : Option ℕ) → Option ℤ
signed (Some n) m = Some (pos n)
signed None (Some m) = Some (minus m)
signed None None = None

-- the integer of the field with this key, from -2^30 + 1 to 2^30 - 1
abbrev pub integer_in : List Line → List ℕ → List MappingField → Option ℤ
integer_in lines key fields = signed (needed lines key fields) (negated lines key fields)

-- the entry with this N, size and offset; a bad line if one of them couldn't be read
abbrev pub fixed_with : Option ℕ → Option ℕ → Option ℤ → Result FixedEntry RefusalKind
fixed_with (Some n) (Some size) (Some offset) = Ok (record { id = FIXED + n; size = size; offset = offset })
fixed_with _ _ _ = Err BadLine

-- The fixed object with these fields, judged by itself: `id`, `size` and `offset` are required.
abbrev pub fixed_entry_of : List Line → List MappingField → Result FixedEntry RefusalKind
fixed_entry_of lines fields =
    fixed_with (needed lines (codes "id") fields) (needed lines (codes "size") fields) (integer_in lines (codes "offset") fields)

-- the numbers of fixed objects
abbrev pub fixed_ids : List FixedEntry → List ℕ
fixed_ids entries = map (λ e. e.id) entries

-- The fixed objects and the first refusal after one more, where there is room for so many: it may be refused by itself, or because of those before it.
abbrev pub fixed_judged : (room : ℕ) → FixedRead → (line : ℕ) → Result FixedEntry RefusalKind → FixedRead
fixed_judged room read line (Err kind) = record read { refused = earlier read.refused (Some (record { line = line; kind = kind })) }
fixed_judged room read line (Ok e) = record {
  entries = read.entries ++ e ∷ [];
  refused = earlier read.refused (refusal_at line (clash_in room (list_any (nat_eq e.id) (fixed_ids read.entries)) (length read.entries)));
}

-- the same after further entries
unfoldable pub fixed_behind : (room : ℕ) → List Line → FixedRead → List MappingEntry → FixedRead
fixed_behind room lines read [] = read
fixed_behind room lines read (e ∷ es) = fixed_behind room lines (fixed_judged room read e.line (fixed_entry_of lines e.fields)) es

-- the fixed objects in the lines of `fixedStack`, each judged after those before it, and the first refusal
abbrev pub fixed_read : (room : ℕ) → List Line → FixedRead
fixed_read room lines = fixed_behind room lines (record { entries = []; refused = (list_of lines).refused }) (list_of lines).entries

-- where no fixed object is supported, the first one is refused as a stack object; the result is the earlier of that and `refused`
abbrev pub fixed_entries : Option Refusal → List MappingEntry → Option Refusal
fixed_entries refused [] = refused
fixed_entries refused (e ∷ es) = earlier refused (Some (record { line = e.line; kind = StackObject }))

-- the first refusal in the lines of `fixedStack` there
abbrev pub fixed_refusal : List Line → Option Refusal
fixed_refusal lines = fixed_entries (list_of lines).refused (list_of lines).entries

-- the fixed objects in the lines of `fixedStack`, where there is room for so many, and the first refusal: the language that isn't linked has none
abbrev pub fixed_of : (linked : Bool) → (room : ℕ) → List Line → FixedRead
fixed_of linked room lines = if linked then fixed_read room lines else record { entries = []; refused = fixed_refusal lines }
