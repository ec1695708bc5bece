-- The body of a function as it is read: its blocks, and the facts by which further lines are judged.
use Rattle.std.specs.Prelude.{ℕ, ◌+◌, Bool, false, ◌||◌, nat_le, nat_lt, if◌then◌else◌, List, [], ◌∷◌, ◌++◌, length, Option, Some, None, IfSome, ◌≤◌}
use Rattle.std.specs.Option.{option_map}
use Rattle.rv64_instr.specs.Arithmetic.{word}
use Rattle.rv64_instr.specs.LocationEffects.{literal_set, object_named as row_object}
use Rattle.rv64_instr.specs.Row.{row_of}
use Rattle.rv64_instr.specs.View.{write_of}
use Rattle.mir_func.specs.declared.block.Block.{Block}
use Rattle.mir_func.specs.declared.item.ItemKind.{ItemKind}
use Rattle.mir_func.specs.declared.item.ItemKind.TheVariants.{Code, Mark, Phi}
use Rattle.mir_func.specs.declared.location.Loc.{Loc}
use Rattle.mir_func.specs.declared.position.Origin.TheVariants.{Kept}
use Rattle.mir_func.specs.declared.variable.MarkValue.{MarkValue}
use Rattle.mir_func.specs.declared.variable.MarkValue.TheVariants.{Nothing, Constant, At, Pair}
use Rattle.mir_func.specs.Limits.{MAX_BLOCKS}
use Rattle.read_refusal.specs.declared.kind.RefusalKind.{RefusalKind}
use Rattle.read_refusal.specs.declared.kind.RefusalKind.TheVariants.{DuplicateBlock, DuplicateNumber, TooMany}
use Rattle.read_refusal.specs.Kind as kinds
use Rattle.read_body.specs.declared.body.Body.{Body}
use Rattle.read_body.specs.FirstUseOrder.{is_met, met, known}
use Rattle.read_body.specs.Limits.{MAX_ITEMS, MAX_VARIABLES, MAX_NUMBERS, MAX_CONSTANTS}

-- ---- facts of an item

-- the constant of a debug value, as 64 bits
abbrev pub mark_constant : MarkValue → Option ℕ
mark_constant Nothing = None
mark_constant (Constant n) = Some (word n)
mark_constant (At r) = None
mark_constant (Pair p) = None

-- the constant of an instruction that sets a register to one, or of a debug value
abbrev pub constant_of : ItemKind → Option ℕ
constant_of (Code i number) = literal_set (write_of (row_of i))
constant_of (Mark v m) = mark_constant m
constant_of (Phi p number) = None

-- the stack object that an item names
abbrev pub object_named : ItemKind → Option ℕ
object_named (Code i number) = row_object (row_of i)
object_named (Mark v m) = None
object_named (Phi p number) = None

-- ---- the blocks

-- the body before the first line
abbrev pub nothing_read : Body
nothing_read = record {
  before = [];
  last = None;
  closed = [];
  entries = [];
  items = 0;
  ids = [];
  codes = [];
  numbers = [];
  constants = [];
  objects = [];
  variables = [];
}

-- the blocks, with one more if there is one
abbrev pub and_last : List Block → Option Block → List Block
and_last before None = before
and_last before (Some b) = before ++ b ∷ []

-- the blocks that were read
abbrev pub blocks_of : Body → List Block
blocks_of body = and_last body.before body.last

-- ---- labels

-- why no block may begin with this number: another block has it, or the limit is reached
abbrev pub label_cause : Body → ℕ → Option RefusalKind
label_cause body n = if is_met n body.ids then Some DuplicateBlock else (if nat_le MAX_BLOCKS (length body.ids) then Some TooMany else None)

-- the body with a new last block
abbrev pub with_label : Body → ℕ → Body
with_label body n = record body { before = blocks_of body; last = Some (record { id = n; items = []; source_end = 0 }); ids = met n body.ids }

-- ---- the ends of blocks

-- the body after a line that says that control doesn't leave the last block, if there is one
abbrev pub with_closed : Body → Option Block → Body
with_closed body None = body
with_closed body (Some b) = record body { closed = met b.id body.closed }

-- ---- items

-- whether the debug instruction number of an item is a duplicate: an instruction shares its number with no item, but several DBG_PHIs may share one
abbrev pub repeats : Body → ItemKind → Bool
repeats body (Code i None) = false
repeats body (Code i (Some k)) = is_met k body.numbers
repeats body (Mark v m) = false
repeats body (Phi p k) = is_met k body.codes

-- a block with one more item, whose origin is its position there
abbrev pub block_with : ItemKind → Loc → Block → Block
block_with kind loc b = record {
  id = b.id;
  items = b.items ++ record { kind = kind; origin = Kept (record { block = b.id; item = b.source_end }); loc = loc } ∷ [];
  source_end = b.source_end + 1;
}

-- the body with the debug instruction number of an item recorded
abbrev pub with_number : Body → ItemKind → Body
with_number body (Code i None) = body
with_number body (Code i (Some k)) = record body { codes = met k body.codes; numbers = met k body.numbers }
with_number body (Mark v m) = body
with_number body (Phi p k) = record body { numbers = met k body.numbers }

-- the body with a constant recorded, if there is one
abbrev pub with_constant : Body → Option ℕ → Body
with_constant body None = body
with_constant body (Some n) = record body { constants = met n body.constants }

-- the body with a stack object recorded, if there is one
abbrev pub with_object : Body → Option ℕ → Body
with_object body None = body
with_object body (Some n) = record body { objects = met n body.objects }

-- the body with the variable of a debug value recorded
abbrev pub with_variable : Body → ItemKind → Body
with_variable body (Code i k) = body
with_variable body (Mark v m) = record body { variables = known v body.variables }
with_variable body (Phi p k) = body

-- the body with all facts of an item recorded
abbrev pub with_facts : Body → ItemKind → Body
with_facts body kind = with_variable (with_object (with_constant (with_number body kind) (constant_of kind)) (object_named kind)) kind

-- the body with an item appended to the last block
abbrev pub placed : Body → ItemKind → Loc → List ℕ → Body
placed body kind loc entries = record body {
  last = option_map (block_with kind loc) body.last;
  entries = body.entries ++ entries;
  items = body.items + 1;
}

-- the body after one more item, which names these stack entries
abbrev pub with_item : Body → ItemKind → Loc → List ℕ → Body
with_item body kind loc entries = placed (with_facts body kind) kind loc entries

-- the silent position of the last block is at most the number of items
abbrev pub IsCounted : Body → Type 0
IsCounted body = IfSome body.last (λ b. b.source_end ≤ body.items)

-- whether a limit is exceeded
abbrev pub exceeds : Body → Bool
exceeds body =
    nat_lt MAX_ITEMS body.items || (nat_lt MAX_VARIABLES (length body.variables)
    || (nat_lt MAX_NUMBERS (length body.numbers) || nat_lt MAX_CONSTANTS (length body.constants)))

-- why an item can't follow those before it: a duplicate debug instruction number, or a limit
abbrev pub item_cause : Body → ItemKind → Loc → List ℕ → Option RefusalKind
item_cause body kind loc entries =
    if repeats body kind then Some DuplicateNumber
    else (if exceeds (with_item body kind loc entries) then Some TooMany else None)

-- The refusal of a line that is refused by itself for `kind` and has this debug instruction number: if the number is a duplicate, the refusal with the
-- lower number counts.
abbrev pub refused_cause : Body → RefusalKind → Option ℕ → RefusalKind
refused_cause body kind None = kind
refused_cause body kind (Some k) = if is_met k body.numbers then (if nat_lt 9 (kinds.number_of kind) then DuplicateNumber else kind) else kind
