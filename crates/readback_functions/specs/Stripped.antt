-- The printed document of a function without its debug items, and what it is read as.
use Rattle.std.specs.Prelude.{◌≡◌, ℕ, false, ◌+◌, ◌<◌, List, [], ◌∷◌, length, map, All, Ok}
use Rattle.read_metadata.specs.Maps.{Maps}
use Rattle.read_documents.specs.declared.parts.FunctionDocument.{FunctionDocument}
use Rattle.mir_exposure.specs.declared.exposure.Exposure.TheVariants.{Nothing}
use Rattle.mir_func.specs.declared.block.Block.{Block}
use Rattle.mir_func.specs.declared.item.Item.{Item}
use Rattle.mir_func.specs.declared.position.Origin.TheVariants.{Kept}
use Rattle.mir_func.specs.Function.{Function}
use Rattle.mir_func.specs.Sound.{AllItems}
use Rattle.mir_func.specs.Strip.{stripped}
use Rattle.read_program.specs.declared.closing.Parsed.{Parsed}
use Rattle.read_program.specs.Closing.{Parses}
use Rattle.readback_items.specs.Laws.{HasByteNames}
use Rattle.readback_items.specs.Body.{body_lines}
use Rattle.readback_functions.specs.Document.{Document, IsDocument, document_at}
use Rattle.readback_functions.specs.Declared.{name_line, stack_lines}

-- ---- a function with its own positions as origins

-- an item with its own position as origin
abbrev pub placed_item : (block index : ℕ) → Item → Item
placed_item block index i = record { kind = i.kind; origin = Kept (record { block = block; item = index }); loc = i.loc }

-- items with their own positions as origins, from an index on
unfoldable pub placed_items : (block index : ℕ) → List Item → List Item
placed_items block index [] = []
placed_items block index (i ∷ is) = placed_item block index i ∷ placed_items block (index + 1) is

-- a block with the positions of its own items as origins, and its end as silent position
abbrev pub placed_block : Block → Block
placed_block b = record { id = b.id; items = placed_items b.id 0 b.items; source_end = length b.items }

-- a function with the positions of its own items as origins and silent positions
abbrev pub placed : Function → Function
placed f = record { name = f.name; slots = f.slots; objects = f.objects; blocks = map placed_block f.blocks }

-- ---- its document

-- the document of a function without substitutions
abbrev pub document_of : Function → Document
document_of f = record { name = name_line f.name; stack = stack_lines f.slots f.objects; substitutions = []; body = body_lines f.blocks }

-- the name and the symbols of a function consist of bytes
pub record HasNamesOfBytes (f : Function) : Type 0 where
  pub name : All (λ b. b < 256) f.name
  pub symbols : AllItems (λ i. HasByteNames i.kind) f.blocks

-- a function that was read, without its debug items, as it is read again
abbrev pub reread : Parsed → Parsed
reread p = record { func = placed (stripped p.func); subs = []; pool = []; exposure = Nothing }

-- The document of a function without its debug items is read unchanged, and as the stripped function, with its own positions as origins. It is so with any
-- metadata, and whichever line the document begins at.
pub record IsReadAgain (p : Parsed) : Type 0 where
  pub document : IsDocument (document_of (stripped p.func))
  pub parses : (meta : Maps) (n : ℕ) → Parses meta (document_at n (document_of (stripped p.func))) (Ok (reread p))

-- A function that was read, but not in the linked language, and whose names consist of bytes, is read back without its debug items.
abbrev pub StrippedReadsBack : Type 0
StrippedReadsBack = (meta : Maps) (doc : FunctionDocument) (p : Parsed) → doc.linked ≡ false → Parses meta doc (Ok p) → HasNamesOfBytes p.func →
    IsReadAgain p
