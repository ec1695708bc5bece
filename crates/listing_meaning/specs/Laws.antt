-- The statements of the theorems on the listing of a layout.
use Rattle.std.specs.Prelude.{◌≡◌, ◌↔◌, ℕ, ◌+◌, ◌<◌, ◌≤◌, ◌++◌, List, drop, map, Contains}
use Rattle.std.specs.List.{flat_map}
use Rattle.std.specs.Int.{w32, to_le_bytes}
use Rattle.mir_func.specs.declared.debug_substitution.DebugSubstitution.{DebugSubstitution}
use Rattle.mir_func.specs.declared.position.Pos.{Pos}
use Rattle.mir_func.specs.Function.{FramedFunction}
use Rattle.mir_func.specs.Sound.{AllItems, contents_of}
use Rattle.mir_func.specs.SoundFrame.{IsFramed}
use Rattle.emit_code.specs.declared.code.EncodedInstruction.{EncodedInstruction as Laid}
use Rattle.emit_code.specs.Rule.{Layout, words_of, entries_of}
use Rattle.emit_code.specs.Laid.{IsWorded}
use Rattle.emit_code.specs.steps.Emitted.{IsFormed, point_of}
use Rattle.machine_steps_proof.specs.Images.{IsImageOf}
use Rattle.listing_text.specs.declared.output.ListedVariable.{ListedVariable}
use Rattle.listing_text.specs.declared.output.Output.{Output}
use Rattle.listing_meaning.specs.Program.{image_of, blocks_shown, IsLaidOut, IsListedAt}
use Rattle.listing_meaning.specs.Settled.{settled, StaysInside}
use Rattle.listing_meaning.specs.Listing.{listing_of}

-- the operands of all code have the form of the opcode
abbrev pub AreFormed : FramedFunction → Type 0
AreFormed f = AllItems IsFormed f.blocks

-- In an output whose `.text` has the layout's words from the layout's first address on, the image of the layout's listing is an image of the layout.
abbrev pub ListingsShowTheImage : Type 0
ListingsShowTheImage = (l : Layout) (variables : List ListedVariable) (substitutions : List DebugSubstitution) (o : Output) (more : List ℕ) →
    AreFormed l.framed → drop l.base o.text ≡ flat_map (to_le_bytes w32) (words_of l) ++ more → IsImageOf l (image_of o (listing_of l variables substitutions))

-- The listing of a layout shows exactly the function with its frame: the numbers and items of its blocks, in order. An address of a stack object is
-- shown relative to the last object that has its byte (see `object_at`).
abbrev pub ListingsShowTheFunction : Type 0
ListingsShowTheFunction = (l : Layout) (variables : List ListedVariable) (substitutions : List DebugSubstitution) → IsFramed l.framed → AreFormed l.framed →
    map contents_of (blocks_shown (listing_of l variables substitutions)) ≡ map contents_of (map (settled l.framed) l.framed.blocks)

-- If each address, load and store of a stack object begins at one of the object's bytes, which no other object has, the listing shows the function's own
-- items.
abbrev pub ListingsShowTheItems : Type 0
ListingsShowTheItems = (l : Layout) (variables : List ListedVariable) (substitutions : List DebugSubstitution) → IsFramed l.framed → AreFormed l.framed →
    AllItems (λ i. StaysInside l.framed.objects i.kind) l.framed.blocks →
    map contents_of (blocks_shown (listing_of l variables substitutions)) ≡ map contents_of l.framed.blocks

-- The lines of a listing fill the function's addresses in order.
abbrev pub ListingsLie : Type 0
ListingsLie = (l : Layout) (variables : List ListedVariable) (substitutions : List DebugSubstitution) → AreFormed l.framed → IsWorded l →
    IsLaidOut (listing_of l variables substitutions)

-- an entry of this point has a byte at the address
pub record HasByteAt (entries : List Laid) (address : ℕ) (p : Pos) : Type 0 where
  pub entry : Laid
  pub among : Contains entries entry
  pub point : entry.point ≡ point_of p
  pub from : entry.address ≤ address
  pub within : address < entry.address + entry.size

-- The listing has a byte of an item at an address exactly if the layout has an entry of this item with a byte there: both words of a long branch have
-- the position of the branch, both of a call that of the call.
abbrev pub PlacesArePoints : Type 0
PlacesArePoints = (l : Layout) (variables : List ListedVariable) (substitutions : List DebugSubstitution) → IsFramed l.framed → AreFormed l.framed →
    (address : ℕ) (p : Pos) → IsListedAt (listing_of l variables substitutions) address p ↔ HasByteAt (entries_of l) address p
