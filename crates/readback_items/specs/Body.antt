-- The printed lines of blocks, and what they are read as.
use Rattle.std.specs.Prelude.{◌≡◌, ℕ, ◌+◌, ◌≤◌, Bool, true, false, ◌==◌, codes, List, [], ◌∷◌, ◌++◌, map, length, All, IfSome, Option, Ok}
use Rattle.std.specs.List.{flat_map, list_any}
use Rattle.std.specs.Option.{option_map_or}
use Rattle.std.specs.Fmt.{decimal}
use Rattle.read_metadata.specs.Maps.{Maps}
use Rattle.read_lexer.specs.declared.line.Line.{Line}
use Rattle.mir_func.specs.declared.block.Block.{Block}
use Rattle.mir_func.specs.declared.item.Item.{Item}
use Rattle.mir_func.specs.declared.item.ItemKind.{ItemKind}
use Rattle.mir_func.specs.declared.item.ItemKind.TheVariants.{Code, Mark, Phi}
use Rattle.mir_func.specs.declared.position.Origin.TheVariants.{Kept}
use Rattle.mir_func.specs.declared.variable.VarId.{VarId}
use Rattle.mir_func.specs.Sound.{AreApart, ids_of, items_of, number_of, NumbersOnce}
use Rattle.mir_func.specs.Limits.{MAX_BLOCKS}
use Rattle.base_ids.specs.Limits.{MAX_NUMBER}
use Rattle.read_item.specs.Judge.{entries_of}
use Rattle.read_body.specs.declared.body.Body.{Body}
use Rattle.read_body.specs.Body.{constant_of, object_named, blocks_of}
use Rattle.read_body.specs.Limits.{MAX_ITEMS, MAX_VARIABLES, MAX_NUMBERS, MAX_CONSTANTS}
use Rattle.read_body.specs.FirstUseOrder.{is_met, is_known}
use Rattle.read_program.specs.BodyLines.{body_of}
use Rattle.mir_printer.specs.Spelling.{item_text}
use Rattle.readback_items.specs.Forms.{form_of}
use Rattle.readback_items.specs.Laws.{IsWritable}
use Rattle.readback_items.specs.Code.{judged_kind, IsReadable}

-- ---- lines

-- the line of a label
abbrev pub label_line : ℕ → List ℕ
label_line n = codes "  bb." ++ decimal n ++ codes ":"

-- the line of an item in a function's text
abbrev pub item_line : Item → List ℕ
item_line i = codes "    " ++ item_text i

-- the lines of a block in a function's text: its label, then its items
abbrev pub block_lines : Block → List (List ℕ)
block_lines b = label_line b.id ∷ map item_line b.items

-- the lines of blocks: of each its label, and its items
abbrev pub body_lines : List Block → List (List ℕ)
body_lines blocks = flat_map block_lines blocks

-- the bytes of each line, without its number
abbrev pub texts_of : List Line → List (List ℕ)
texts_of lines = map (λ l. l.text) lines

-- ---- the blocks that lines are judged as

-- the item that the line of an item is judged as, at this position
abbrev pub item_at : (block index : ℕ) → Item → Item
item_at block index i = record { kind = judged_kind i.kind; origin = Kept (record { block = block; item = index }); loc = i.loc }

-- the items that the lines of items are judged as, at consecutive positions of a block
unfoldable pub items_from : (block index : ℕ) → List Item → List Item
items_from block index [] = []
items_from block index (i ∷ is) = item_at block index i ∷ items_from block (index + 1) is

-- the block that the lines of a block are judged as: its items are counted from 0, and its silent position is after the last
abbrev pub judged_block : Block → Block
judged_block b = record { id = b.id; items = items_from b.id 0 b.items; source_end = length b.items }

-- the numbers of the `%stack.N` on the line of an item
abbrev pub entries_named : Item → List ℕ
entries_named i = entries_of (form_of i).operands

-- whether the line of an item is judged as an instruction that names this stack object
abbrev pub names_object : ℕ → Item → Bool
names_object n i = option_map_or (λ m. n == m) (object_named (judged_kind i.kind)) false

-- ---- conditions on a function

-- the conditions under which the line of an item is read back
pub record IsReadableItem (meta : Maps) (i : Item) : Type 0 where
  pub writable : IsWritable i
  pub readable : IsReadable meta i.loc i.kind

-- the items have at most `n` different numbers of this sort: all of them are in a list of that length
pub record GiveFew (n : ℕ) (of : ItemKind → Option ℕ) (items : List Item) : Type 0 where
  pub among : List ℕ
  pub few : length among ≤ n
  pub all : All (λ i. IfSome (of i.kind) (λ k. is_met k among ≡ true)) items

-- the variable of a debug value is in this list
abbrev pub VariableIn : List VarId → ItemKind → Type 0
VariableIn among (Code i k) = Unit {0}
VariableIn among (Mark v m) = is_known v among ≡ true
VariableIn among (Phi p k) = Unit {0}

-- the debug values of the items are for at most `n` different variables or fragments of variables
pub record NameFew (n : ℕ) (items : List Item) : Type 0 where
  pub among : List VarId
  pub few : length among ≤ n
  pub all : All (λ i. VariableIn among i.kind) items

-- the constant of an item, as its line is judged
abbrev pub judged_constant : ItemKind → Option ℕ
judged_constant kind = constant_of (judged_kind kind)

-- the conditions under which the lines of blocks are read back: distinct block numbers, debug instruction numbers without clashes, and all limits of a body
pub record AreWithin (blocks : List Block) : Type 0 where
  pub apart : AreApart (ids_of blocks)
  pub ids : All (λ b. b.id ≤ MAX_NUMBER) blocks
  pub once : NumbersOnce (items_of blocks)
  pub few_blocks : length blocks ≤ MAX_BLOCKS
  pub few_items : length (items_of blocks) ≤ MAX_ITEMS
  pub few_variables : NameFew MAX_VARIABLES (items_of blocks)
  pub few_numbers : GiveFew MAX_NUMBERS number_of (items_of blocks)
  pub few_constants : GiveFew MAX_CONSTANTS judged_constant (items_of blocks)

-- lines are read as these blocks, with the numbers of these blocks, of the `%stack.N` on the lines, and of the stack objects that instructions name
pub record ReadsBlocks (meta : Maps) (lines : List Line) (blocks : List Block) : Type 0 where
  pub body : Body
  pub read : body_of false meta lines ≡ Ok body
  pub made : blocks_of body ≡ map judged_block blocks
  pub ids : body.ids ≡ ids_of blocks
  pub entries : body.entries ≡ flat_map entries_named (items_of blocks)
  pub objects : (n : ℕ) → is_met n body.objects ≡ list_any (names_object n) (items_of blocks)

-- The lines of blocks are read back as these blocks: each item as its line is judged, with its position in the text as origin.
abbrev pub BodiesReadBack : Type 0
BodiesReadBack = (meta : Maps) (blocks : List Block) (lines : List Line) → texts_of lines ≡ body_lines blocks →
    All (IsReadableItem meta) (items_of blocks) → AreWithin blocks → ReadsBlocks meta lines blocks
