-- The slots and objects of a function, printed as stack entries and read again.
use Rattle.std.specs.Prelude.{◌≡◌, ℕ, ◌≤◌, true, List, map, length, All}
use Rattle.mir_func.specs.Limits.{MAX_SLOTS}
use Rattle.mir_func.specs.Objects.{local_count}
use Rattle.mir_func.specs.Sound.{AreApart}
use Rattle.read_declarations.specs.declared.stack.StackEntry.{StackEntry}
use Rattle.read_declarations.specs.Stack.{entry_offsets}
use Rattle.read_body.specs.StackEntryKind.{slots_of, objects_of}
use Rattle.read_body.specs.FirstUseOrder.{is_met}
use Rattle.read_program.specs.Closing.{entry_ids}
use Rattle.readback_functions.specs.Declared.{IsEntry, entries_read}

-- the conditions on stack entries that were read: at most MAX_SLOTS, each within its limits, not one alone with a local offset, and no number twice
pub record AreDeclared (es : List StackEntry) : Type 0 where
  pub each : All IsEntry es
  pub several : local_count (entry_offsets es) ≡ 1 → ⊥
  pub apart : AreApart (map (λ (e : StackEntry). e.id) es)
  pub few : length es ≤ MAX_SLOTS

-- the stack entries that are read again, if the slots and then the objects among stack entries are printed
abbrev pub entries_again : List ℕ → List StackEntry → List StackEntry
entries_again named es = entries_read (slots_of named es) (objects_of named es).objects

-- the stack entries that are read again meet these conditions, and have the same slots, objects and numbers, where code then names the objects `again`
pub record IsReadBack (named again : List ℕ) (es : List StackEntry) : Type 0 where
  pub declared : AreDeclared (entries_again named es)
  pub slots : slots_of again (entries_again named es) ≡ slots_of named es
  pub objects : (objects_of again (entries_again named es)).objects ≡ (objects_of named es).objects
  pub ids : (n : ℕ) → is_met n (entry_ids es) ≡ true → is_met n (entry_ids (entries_again named es)) ≡ true

-- If code names the same objects, the slots and objects of a frame are read back from their printed lines.
abbrev pub FramesReadBack : Type 0
FramesReadBack = (named again : List ℕ) (es : List StackEntry) → AreDeclared es → ((n : ℕ) → is_met n again ≡ is_met n named) → IsReadBack named again es
