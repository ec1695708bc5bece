-- The checks at the line that closes a function.
use Rattle.std.specs.Prelude.{◌≡◌, ℕ, ◌≤◌, Bool, ◌&&◌, if◌then◌else◌, is_some, List, [], ◌∷◌, All, length, Option, Some, None, Result, Ok, Err}
use Rattle.read_refusal.specs.declared.first.Refusal.{Refusal}
use Rattle.read_refusal.specs.declared.kind.RefusalKind.{RefusalKind}
use Rattle.read_refusal.specs.declared.kind.RefusalKind.TheVariants.{UnknownBlock, StackObject, BlockEnd}
use Rattle.read_refusal.specs.First.{comes_before}
use Rattle.read_metadata.specs.Maps.{Maps}
use Rattle.read_documents.specs.declared.parts.FunctionDocument.{FunctionDocument}
use Rattle.mir_func.specs.declared.block.Block.{Block}
use Rattle.mir_func.specs.declared.object.Object.{Object}
use Rattle.mir_func.specs.Objects.{AreLaid}
use Rattle.mir_func.specs.Function.{Function}
use Rattle.mir_func.specs.Sound.{IsSoundObject, EndsWell, LastCloses}
use Rattle.mir_pool.specs.Pool.{constant_ids}
use Rattle.read_body.specs.read_declarations.declared.declarations.Declarations.{Declarations}
use Rattle.read_body.specs.read_declarations.declared.stack.StackEntry.{StackEntry}
use Rattle.read_body.specs.read_declarations.declared.fixed.FixedEntry.{FixedEntry}
use Rattle.mir_func.specs.Limits.{MAX_SLOTS}
use Rattle.read_body.specs.read_declarations.Declarations.{declarations_of}
use Rattle.read_body.specs.declared.body.Body.{Body}
use Rattle.read_body.specs.FirstUseOrder.{met}
use Rattle.read_body.specs.Body.{blocks_of}
use Rattle.read_body.specs.Closing.{blocks_go_to, all_met}
use Rattle.read_body.specs.StackEntryKind.{IsStackEntry, slots_of, objects_of, ids_of_objects}
use Rattle.read_body.specs.FixedObjects.{with_fixed}
use Rattle.read_program.specs.declared.closing.Parts.{Parts}
use Rattle.read_program.specs.declared.closing.Parsed.{Parsed}
use Rattle.read_program.specs.declared.error.ParseError.{ParseError}
use Rattle.read_program.specs.declared.error.ParseError.TheVariants as errors
use Rattle.read_program.specs.Objects.{blocks_as, blocks_stay}
use Rattle.read_program.specs.Pool.{are_known}
use Rattle.read_program.specs.BodyLines.{body_of}

-- a set of numbers after adding those of these stack entries
unfoldable pub ids_behind : List ℕ → List StackEntry → List ℕ
ids_behind ids [] = ids
ids_behind ids (e ∷ es) = ids_behind (met e.id ids) es

-- the set of the numbers of these stack entries
abbrev pub entry_ids : List StackEntry → List ℕ
entry_ids es = ids_behind [] es

-- a set of numbers after adding those of these fixed objects
abbrev pub fixed_behind : List ℕ → List FixedEntry → List ℕ
fixed_behind ids [] = ids
fixed_behind ids (e ∷ es) = fixed_behind (met e.id ids) es

-- the set of the numbers of the stack entries and fixed objects of a document
abbrev pub known_ids : Declarations → List ℕ
known_ids d = fixed_behind (entry_ids d.stack) d.fixed

-- objects are sound, and where they must be
pub record AreObjects (objects : List Object) : Type 0 where
  pub each : All IsSoundObject objects
  pub laid : AreLaid objects

-- the limits on the stack entries of a document: at most MAX_SLOTS, each with a size and an alignment within its limits; whichever of them code names as
-- objects, these are laid out
abbrev pub AreEntries : List StackEntry → Type 0
AreEntries es = (length es ≤ MAX_SLOTS) × All IsStackEntry es × ((named : List ℕ) → AreObjects (objects_of named es).objects)

-- the objects of a function: those among its stack entries, and its fixed objects
abbrev pub all_objects : List ℕ → List StackEntry → List FixedEntry → List Object
all_objects named es fixed = with_fixed (objects_of named es).objects fixed

-- the slots, objects and blocks of a function. `named` are the numbers of the stack entries that code names as objects
abbrev pub laid_out : List ℕ → List StackEntry → List FixedEntry → List Block → Parts
laid_out named es fixed blocks = record {
  slots = slots_of named es;
  objects = all_objects named es fixed;
  blocks = blocks_as (ids_of_objects named es) blocks;
}

-- each access of a stack object is within its object
abbrev pub stays : (linked : Bool) → Parts → Bool
stays linked parts = blocks_stay linked parts.objects parts.blocks

-- the slots, objects and blocks of a function, if each access of a stack object is within it
abbrev pub parts_of : (linked : Bool) → List ℕ → List StackEntry → List FixedEntry → List Block → Option Parts
parts_of linked named es fixed blocks = if stays linked (laid_out named es fixed blocks) then Some (laid_out named es fixed blocks) else None

-- Why a function is refused at its closing line: a branch to a block that it doesn't have, else a `%stack.N`, `%fixed-stack.N` or `%const.N` that isn't
-- declared or an access outside its object.
abbrev pub closing_cause : (linked : Bool) → Declarations → Body → Option RefusalKind
closing_cause linked d body =
    if blocks_go_to body.ids (blocks_of body)
    then (if all_met (known_ids d) body.entries && (are_known (constant_ids d.pool) (blocks_of body) &&
    is_some (parts_of linked body.objects d.stack d.fixed (blocks_of body))) then None else Some StackObject)
    else Some UnknownBlock

-- the function with these declarations and this body
abbrev pub function_of : Declarations → Body → Function
function_of d body = record {
  name = d.name;
  slots = slots_of body.objects d.stack;
  objects = all_objects body.objects d.stack d.fixed;
  blocks = blocks_as (ids_of_objects body.objects d.stack) (blocks_of body);
}

-- Each block ends well: with no branch, a return, a jump, a conditional branch, or a conditional branch and a jump; and there is a last block, through
-- whose end control doesn't fall.
abbrev pub EndWell : List Block → Type 0
EndWell blocks = All (λ b. EndsWell b.items) blocks × LastCloses blocks

-- The refusal at the closing line: the cause, if there is one; else BlockEnd, for blocks that don't end well.
abbrev pub ClosesWith : ℕ → Refusal → Option RefusalKind → Function → Type 0
ClosesWith line r (Some cause) f = r ≡ record { line = line; kind = cause }
ClosesWith line r None f = (r ≡ record { line = line; kind = BlockEnd }) × (EndWell f.blocks → ⊥)

-- What a call returns for declarations and a body that close at this line. Nothing is claimed if memory ran out.
abbrev pub Closes : (linked : Bool) → ℕ → Declarations → Body → Result Parsed ParseError → Type 0
Closes linked line d body (Ok p) = (closing_cause linked d body ≡ None) × (p.func ≡ function_of d body) × (p.subs ≡ d.substitutions) × EndWell (function_of d body).blocks
    × (p.exposure ≡ d.exposure) × (p.pool ≡ d.pool)
Closes linked line d body (Err errors.Memory) = Unit {0}
Closes linked line d body (Err (errors.Refused r)) = ClosesWith line r (closing_cause linked d body) (function_of d body)

-- what a call returns for a function with this refusal: it, or that memory ran out
abbrev pub IsRefused : Refusal → Result Parsed ParseError → Type 0
IsRefused r (Ok p) = ⊥
IsRefused r (Err errors.Memory) = Unit {0}
IsRefused r (Err (errors.Refused s)) = s ≡ r

-- what a call returns for declarations and a body, each read or refused: if any is refused, the first refusal
abbrev pub ParsesParts : (linked : Bool) → ℕ → Result Declarations Refusal → Result Body Refusal → Result Parsed ParseError → Type 0
ParsesParts linked line (Ok d) (Ok body) answer = Closes linked line d body answer
ParsesParts linked line (Err r) (Ok body) answer = IsRefused r answer
ParsesParts linked line (Ok d) (Err s) answer = IsRefused s answer
ParsesParts linked line (Err r) (Err s) answer = IsRefused (if comes_before s r then s else r) answer

-- What a call returns for a function's document, given the metadata of its text: the function with its substitutions, the constants of its pool and what it
-- exposes, or its first refusal. That is the first of its declarations and body lines, and if there is none, that of the closing line.
abbrev pub Parses : Maps → FunctionDocument → Result Parsed ParseError → Type 0
Parses meta doc answer = ParsesParts doc.linked doc.closed (declarations_of doc) (body_of doc.linked meta doc.body) answer
