-- The frame of a function: which of its stack entries are spill slots, and which are stack objects.
use Rattle.std.specs.Prelude.{ℕ, ◌+◌, ◌<◌, ◌≤◌, Bool, not, ◌||◌, ◌==◌, if◌then◌else◌, is_some, List, [], ◌∷◌, ◌++◌, None}
use Rattle.mir_func.specs.declared.object.Object.{Object}
use Rattle.mir_func.specs.Objects.{block_size, place_of, next_end}
use Rattle.read_declarations.specs.declared.stack.StackEntry.{StackEntry}
use Rattle.read_declarations.specs.Stack.{entry_offsets}
use Rattle.read_body.specs.declared.stack_entry_kind.ObjectLayout.{ObjectLayout}
use Rattle.read_body.specs.FirstUseOrder.{is_met, met}

-- the limits of a stack entry
pub record IsStackEntry (e : StackEntry) : Type 0 where
  pub size : e.size ≤ 1073741823
  pub positive : 0 < e.align
  pub aligned : e.align ≤ 16

-- whether a stack entry is an object: it has a local offset, its size isn't the 8 bytes of a spill slot, or code names it as an object
abbrev pub is_stack_object : List ℕ → StackEntry → Bool
is_stack_object named e = is_some e.local_offset || (not (e.size == 8) || is_met e.id named)

-- the slots with one more entry, if that is a slot
abbrev pub with_slot : List ℕ → List ℕ → StackEntry → List ℕ
with_slot named slots e = if is_stack_object named e then slots else slots ++ e.id ∷ []

-- the slots with those of further entries
unfoldable pub slots_behind : List ℕ → List ℕ → List StackEntry → List ℕ
slots_behind named slots [] = slots
slots_behind named slots (e ∷ es) = slots_behind named (with_slot named slots e) es

-- the spill slots among stack entries, in declared order
abbrev pub slots_of : List ℕ → List StackEntry → List ℕ
slots_of named es = slots_behind named [] es

-- the object of an entry: in a local block of this size if it has a local offset, and else not below `end`
abbrev pub laid_at : (block end : ℕ) → StackEntry → Object
laid_at block end e = record {
  id = e.id;
  size = e.size;
  align = e.align;
  local_offset = e.local_offset;
  fixed_offset = None;
  offset = place_of block end e.align e.local_offset;
}

-- the objects with one more entry, if that is an object
abbrev pub with_object : List ℕ → (block : ℕ) → ObjectLayout → StackEntry → ObjectLayout
with_object named block laid e =
    if is_stack_object named e then record {
      objects = laid.objects ++ laid_at block laid.end e ∷ [];
      end = next_end laid.end (place_of block laid.end e.align e.local_offset + e.size) e.local_offset;
    } else laid

-- the objects with those of further entries
unfoldable pub objects_behind : List ℕ → (block : ℕ) → ObjectLayout → List StackEntry → ObjectLayout
objects_behind named block laid [] = laid
objects_behind named block laid (e ∷ es) = objects_behind named block (with_object named block laid e) es

-- the size of the local block of stack entries
abbrev pub local_block : List StackEntry → ℕ
local_block es = block_size (entry_offsets es)

-- the stack objects among stack entries, in declared order: the local block from offset 0, and the others above it
abbrev pub objects_of : List ℕ → List StackEntry → ObjectLayout
objects_of named es = objects_behind named (local_block es) (record { objects = []; end = local_block es }) es

-- a set of numbers with that of an entry, if the entry is an object
abbrev pub with_id : List ℕ → List ℕ → StackEntry → List ℕ
with_id named ids e = if is_stack_object named e then met e.id ids else ids

-- the set with the numbers of further objects
unfoldable pub ids_behind : List ℕ → List ℕ → List StackEntry → List ℕ
ids_behind named ids [] = ids
ids_behind named ids (e ∷ es) = ids_behind named (with_id named ids e) es

-- the set of the numbers of the objects among stack entries
abbrev pub ids_of_objects : List ℕ → List StackEntry → List ℕ
ids_of_objects named es = ids_behind named [] es
