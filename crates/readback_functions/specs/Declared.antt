-- The printed lines of a function's name and of its stack entries, and what they are read as.
use Rattle.std.specs.Prelude.{◌≡◌, ℕ, ◌<◌, ◌≤◌, true, cond, ◌&&◌, codes, List, [], ◌∷◌, ◌++◌, map, length, All, Option, Some, None}
use Rattle.std.specs.Fmt.{decimal}
use Rattle.base_ids.specs.Limits.{MAX_NUMBER}
use Rattle.mir_func.specs.declared.object.Object.{Object}
use Rattle.mir_func.specs.Objects.{local_count}
use Rattle.mir_func.specs.Sound.{AreApart, IsLocalOffset}
use Rattle.mir_func.specs.Limits.{MAX_SLOTS}
use Rattle.read_declarations.specs.declared.stack.StackEntry.{StackEntry}
use Rattle.read_declarations.specs.Name.{name_of}
use Rattle.read_declarations.specs.Stack.{is_alignment, entry_offsets, stack_of}
use Rattle.mir_func_printer.specs.FuncText.{name_text, is_nothing}
use Rattle.readback_functions.specs.Document.{lines_from}

-- ---- names

-- the line of a name
abbrev pub name_line : List ℕ → List ℕ
name_line name = codes "name: " ++ name_text name

-- The line of a function's name is read as the name.
abbrev pub NamesReadBack : Type 0
NamesReadBack = (n : ℕ) (name : List ℕ) → All (λ b. b < 256) name →
    name_of (lines_from n (name_line name ∷ [])) ≡ record { name = name; refused = None }

-- ---- the stack

-- the line of a spill slot
abbrev pub slot_line : ℕ → List ℕ
slot_line n = codes "  - { id: " ++ (decimal n ++ codes ", size: 8 }")

-- the field of a local offset and the end of the line
abbrev pub line_end : Option ℕ → List ℕ
line_end None = codes " }"
line_end (Some n) = codes ", local-offset: -" ++ (decimal n ++ codes " }")

-- the line of a stack object
abbrev pub object_line : Object → List ℕ
object_line o =
    codes "  - { id: " ++ (decimal o.id ++ (codes ", size: " ++ (decimal o.size ++ (codes ", alignment: " ++ (decimal o.align ++ line_end o.local_offset)))))

-- the lines of slots and objects
abbrev pub entry_lines : List ℕ → List Object → List (List ℕ)
entry_lines slots objects = map slot_line slots ++ map object_line objects

-- the lines of `stack`; none if there is neither a slot nor an object
abbrev pub stack_lines : List ℕ → List Object → List (List ℕ)
stack_lines slots objects = cond (is_nothing slots && is_nothing objects) [] (codes "stack:" ∷ entry_lines slots objects)

-- the stack entry that the line of a slot is read as
abbrev pub slot_entry : ℕ → StackEntry
slot_entry n = record { id = n; size = 8; align = 1; local_offset = None }

-- the stack entry that the line of an object is read as
abbrev pub object_entry : Object → StackEntry
object_entry o = record { id = o.id; size = o.size; align = o.align; local_offset = o.local_offset }

-- the stack entries that the lines of slots and objects are read as
abbrev pub entries_read : List ℕ → List Object → List StackEntry
entries_read slots objects = map slot_entry slots ++ map object_entry objects

-- a stack entry within the limits of reading
pub record IsEntry (e : StackEntry) : Type 0 where
  pub id : e.id ≤ MAX_NUMBER
  pub size : e.size ≤ MAX_NUMBER
  pub aligned : is_alignment e.align ≡ true
  pub local : IsLocalOffset e.local_offset

-- The lines of slots and objects are read as these stack entries, if each is within the limits, not one alone has a local offset, no number occurs twice,
-- and there are at most MAX_SLOTS.
abbrev pub StacksReadBack : Type 0
StacksReadBack = (n : ℕ) (slots : List ℕ) (objects : List Object) → All IsEntry (entries_read slots objects) →
    (local_count (entry_offsets (entries_read slots objects)) ≡ 1 → ⊥) →
    AreApart (map (λ (e : StackEntry). e.id) (entries_read slots objects)) → length (entries_read slots objects) ≤ MAX_SLOTS →
    stack_of (lines_from n (stack_lines slots objects)) ≡ record { entries = entries_read slots objects; refused = None }
