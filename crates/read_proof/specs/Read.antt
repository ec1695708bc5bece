-- Invariants of every function and program that was read from a text.
use Rattle.std.specs.Prelude.{ℕ, ℤ, ◌+◌, ◌<◌, ◌≤◌, Bool, is_some, IfSome, List, All, length, Option, Some, None, Ok}
use Rattle.read_metadata.specs.Maps.{Maps}
use Rattle.read_metadata.specs.Metadata.{location_at}
use Rattle.mir_func.specs.declared.debug_substitution.DebugSubstitution.{DebugSubstitution}
use Rattle.mir_func.specs.declared.debug_substitution.OperandPair.{OperandPair}
use Rattle.mir_func.specs.Function.{Function}
use Rattle.mir_func.specs.Objects.{object_of}
use Rattle.mir_func.specs.Sound.{AllItems, items_of, IsSound, HasForm}
use Rattle.base_ids.specs.Limits.{MAX_NUMBER, FIXED}
use Rattle.sem_mir.specs.Follow.{IsRead}
use Rattle.read_program.specs.read_item.Debug.{inlined_at_node}
use Rattle.read_program.specs.read_body.Limits.{MAX_ITEMS}
use Rattle.read_program.specs.declared.closing.Parsed.{Parsed}
use Rattle.read_program.specs.declared.program.Program.{Program}
use Rattle.read_program.specs.Limited.{KindIsLimited, LocIsLimited, IsOfLanguage}
use Rattle.read_program.specs.Program.{MAX_FUNCTIONS, ReadsText}
use Rattle.mir_printer.specs.Printable.{Declared, IsPrintable}

-- what the printed text of a function depends on: the numbers of its stack objects, and the `inlinedAt` of the location nodes in the metadata
abbrev pub declared_in : Maps → Function → Declared
declared_in meta f = record { objects = λ n. is_some (object_of f.objects n); inlined = λ n. inlined_at_node (location_at meta n) }

-- ---- numbers and counts: at most 2^30 - 1

-- the debug instruction number and the operand index of a pair are within the limit
abbrev pub PairIsLimited : OperandPair → Type 0
PairIsLimited q = (q.number ≤ MAX_NUMBER) × (q.operand ≤ MAX_NUMBER)

-- the numbers of a substitution are within the limit: those of its source and destination pairs, and its subregister index
pub record EntryIsLimited (e : DebugSubstitution) : Type 0 where
  pub src : PairIsLimited e.src
  pub dst : PairIsLimited e.dst
  pub subreg : e.subreg ≤ MAX_NUMBER

-- the `inlinedAt` of each location node in the metadata is within the limit
abbrev pub LocationsAreLimited : Maps → Type 0
LocationsAreLimited meta = (n : ℕ) → IfSome (inlined_at_node (location_at meta n)) (λ k. k ≤ MAX_NUMBER)

-- ---- functions

-- the number of a stack object, or of a fixed one, is within its limits
abbrev pub IsObjectNumber : (id : ℕ) → (fixed : Option ℤ) → Type 0
IsObjectNumber id None = id ≤ MAX_NUMBER
IsObjectNumber id (Some d) = (FIXED ≤ id) × (id ≤ FIXED + MAX_NUMBER)

-- A function that was read: it is well formed, each item has its own position as origin, the silent position of each block is the end
-- of its items, each instruction has the form of its opcode, numbers and counts are within their limits, and the printed text of each
-- item determines its kind and its debug location.
pub record IsReadFunction (meta : Maps) (f : Function) : Type 0 where
  pub sound : IsSound f
  pub read : IsRead f.blocks
  pub form : AllItems (λ i. HasForm i.kind) f.blocks
  pub limited : AllItems (λ i. KindIsLimited i.kind × LocIsLimited i.loc) f.blocks
  pub printable : AllItems (IsPrintable (declared_in meta f)) f.blocks
  pub few_items : length (items_of f.blocks) ≤ MAX_ITEMS
  pub ids : All (λ b. b.id ≤ MAX_NUMBER) f.blocks
  pub objects : All (λ o. IsObjectNumber o.id o.fixed_offset) f.objects
  pub slots : All (λ n. n ≤ MAX_NUMBER) f.slots

-- A program that was read: it has at most MAX_FUNCTIONS functions, all as read, and the numbers of their substitutions and of the metadata's locations are
-- within the limit.
pub record IsReadProgram (p : Program) : Type 0 where
  pub few : length p.functions ≤ MAX_FUNCTIONS
  pub functions : All (λ (f : Parsed). IsReadFunction p.meta f.func) p.functions
  pub substitutions : All (λ (f : Parsed). All EntryIsLimited f.subs) p.functions
  pub locations : LocationsAreLimited p.meta

-- Every program read from a text has these properties, whichever language is read.
abbrev pub ProgramsAreAsRead : Type 0
ProgramsAreAsRead = (linked : Bool) (text : List ℕ) (p : Program) → ReadsText linked text (Ok p) → IsReadProgram p

-- Its items are of the language that is read.
abbrev pub ProgramsAreOfTheirLanguage : Type 0
ProgramsAreOfTheirLanguage = (linked : Bool) (text : List ℕ) (p : Program) → ReadsText linked text (Ok p) →
    All (λ (f : Parsed). AllItems (λ i. IsOfLanguage linked i.kind) f.func.blocks) p.functions
