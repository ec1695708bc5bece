-- The meaning of a listed function: the function that its lines show, its machine image, and the position of each byte.
--
-- A long branch has two lines, a skip and then a jump. They show one item, the long branch, in the place of the jump.
use Rattle.std.specs.Prelude.{◌≡◌, ℕ, ◌+◌, ◌<◌, ◌≤◌, pos, Bool, true, false, cond, List, [], ◌∷◌, take, map, filter, length, Option, Some, None, slice_get}
use Rattle.std.specs.List.{flat_map}
use Rattle.rv64_instr.specs.declared.op.Op.TheVariants.{Branch}
use Rattle.rv64_instr.specs.declared.operand.Operand.{Operand}
use Rattle.rv64_instr.specs.declared.operand.Operand.TheVariants.{Def, Use, ImplicitDef, ImplicitUse, Imm, Slot, Object, Part, Outgoing, Symbol, Mask}
use Rattle.rv64_instr.specs.declared.operand.Operand.TheVariants.{GlobalRegisters}
use Rattle.rv64_instr.specs.declared.operand.Operand.TheVariants.{Block as OfBlock}
use Rattle.rv64_instr.specs.Instruction.{Instruction}
use Rattle.rv64_instr.specs.Row.{row_of}
use Rattle.rv64_instr.specs.LocationEffects.{has_site}
use Rattle.rv64_instr.specs.Inverse.{inverse}
use Rattle.mir_func.specs.declared.block.Block.{Block}
use Rattle.mir_func.specs.declared.item.Item.{Item}
use Rattle.mir_func.specs.declared.item.ItemKind.{ItemKind}
use Rattle.mir_func.specs.declared.item.ItemKind.TheVariants.{Code, Mark, Phi}
use Rattle.mir_func.specs.declared.position.Pos.{Pos}
use Rattle.mir_func.specs.Graph.{Program, framed_program}
use Rattle.mir_func.specs.Resolve.{resolve}
use Rattle.machine_steps_proof.specs.sem_mir.Align.{is_code}
use Rattle.machine_steps_proof.specs.sem_machine.Image.{CodeLine, Image, line_of}
use Rattle.listing_text.specs.declared.output.ItemLine.{ItemLine}
use Rattle.listing_text.specs.declared.output.SkipLine.{SkipLine}
use Rattle.listing_text.specs.declared.output.Line.{Line}
use Rattle.listing_text.specs.declared.output.Line.TheVariants.{Item as OfItem, Skip}
use Rattle.listing_text.specs.declared.output.ListedBlock.{ListedBlock}
use Rattle.listing_text.specs.declared.output.ListedFunction.{ListedFunction}
use Rattle.listing_text.specs.declared.output.Output.{Output}
use Rattle.listing_text.specs.Output.{operand_of}
use Rattle.listing_meaning.specs.Frame.{ShownFrame, area_shown, frame_shown, raised}

-- ---- blocks and lines

-- the number of the first block, or 0 if there is none
abbrev pub first_id : List ListedBlock → ℕ
first_id [] = 0
first_id (b ∷ bs) = b.id

-- the blocks of a listed function, with its prologue as the first block, which gets the number of the first block of the body
abbrev pub blocks_of : ListedFunction → List ListedBlock
blocks_of f = record { id = first_id f.blocks; lines = f.prologue } ∷ f.blocks

-- all lines of a function, the prologue's first
abbrev pub lines_of : ListedFunction → List Line
lines_of f = flat_map (λ b. b.lines) (blocks_of f)

-- ---- the function that the lines show

-- the branch that a skip and a jump to block `target` encode: the inverse of the skip's operation, with the jump's target
abbrev pub branch_over : SkipLine → (target : ℕ) → Instruction
branch_over s n = record { op = Branch (inverse s.op); operands = Use s.first ∷ Use s.second ∷ OfBlock n ∷ map operand_of s.implicit; volatile = false }

-- the block that an instruction names as its first operand, if it does
abbrev pub target_of : List Operand → Option ℕ
target_of [] = None
target_of (OfBlock n ∷ rest) = Some n
target_of (Def r ∷ rest) = None
target_of (Use r ∷ rest) = None
target_of (ImplicitDef r ∷ rest) = None
target_of (ImplicitUse r ∷ rest) = None
target_of (Imm i ∷ rest) = None
target_of (Slot n ∷ rest) = None
target_of (Object n ∷ rest) = None
target_of (Part half y ∷ rest) = None
target_of (Outgoing n ∷ rest) = None
target_of (GlobalRegisters ∷ rest) = None
target_of (Symbol name ∷ rest) = None
target_of (Mask ∷ rest) = None

-- The instruction after a skip: the long branch, if the instruction has a target block.
abbrev pub below_skip : SkipLine → (target : Option ℕ) → Instruction → Instruction
below_skip s None i = i
below_skip s (Some n) i = branch_over s n

-- the item kind that a line shows, after a skip or after none
abbrev pub kind_shown : ShownFrame → Option SkipLine → ItemKind → ItemKind
kind_shown frame None kind = raised frame kind
kind_shown frame (Some s) (Code i k) = Code (below_skip s (target_of i.operands) i) k
kind_shown frame (Some s) (Mark v m) = Mark v m
kind_shown frame (Some s) (Phi p k) = Phi p k

-- the item that a line shows, with the line's origin and debug location
abbrev pub item_shown : ShownFrame → Option SkipLine → ItemLine → Item
item_shown frame skip l = record l.item { kind = kind_shown frame skip l.item.kind }

-- the items that lines show, if `skip` is the skip before the first
abbrev pub items_shown : ShownFrame → Option SkipLine → List Line → List Item
items_shown frame skip [] = []
items_shown frame skip (OfItem l ∷ ls) = item_shown frame skip l ∷ items_shown frame None ls
items_shown frame skip (Skip s ∷ ls) = items_shown frame (Some s) ls

-- the block that a listed block shows
abbrev pub block_shown : ShownFrame → ListedBlock → Block
block_shown frame b = record { id = b.id; items = items_shown frame None b.lines; source_end = length b.lines }

-- the blocks that a function's lines show, the prologue first
abbrev pub blocks_shown : ListedFunction → List Block
blocks_shown f = map (block_shown (frame_shown f)) (blocks_of f)

-- the program that a function's lines and substitutions show
abbrev pub program_shown : ListedFunction → Program
program_shown f = framed_program (blocks_shown f) (resolve f.substitutions)

-- ---- addresses of lines

-- The line is an item's. A skip is part of the long branch on the next line.
abbrev pub is_item : Line → Bool
is_item (OfItem l) = true
is_item (Skip s) = false

-- the address of the first byte of a line; a debug item has none
abbrev pub address_of : Line → Option ℕ
address_of (OfItem l) = l.address
address_of (Skip s) = Some s.address

-- the address after an item: code that names a callee has two words, other code has one, and a debug item has none
abbrev pub past_item : ℕ → ItemKind → ℕ
past_item a (Code i k) = a + cond (has_site (row_of i)) 8 4
past_item a (Mark v m) = a
past_item a (Phi p k) = a

-- the address after a line; a skip has one word
abbrev pub past_line : ℕ → Line → ℕ
past_line a (OfItem l) = past_item a l.item.kind
past_line a (Skip s) = a + 4

-- A line with a byte at the address is at this position: in the block with this index, 0 for the prologue, and at this index among the items of the
-- block. A skip has the position of the next item.
pub record IsListedAt (f : ListedFunction) (address : ℕ) (p : Pos) : Type 0 where
  pub block : ListedBlock
  pub number : ℕ
  pub line : Line
  pub first : ℕ
  pub stands : slice_get (blocks_of f) p.block ≡ Some block
  pub listed : slice_get block.lines number ≡ Some line
  pub item : length (filter is_item (take number block.lines)) ≡ p.item
  pub begins : address_of line ≡ Some first
  pub from : first ≤ address
  pub within : address < past_line first line

-- the address of an item if it is code, and none if it is a debug item
abbrev pub start_of : (address : ℕ) → (code : Bool) → Option ℕ
start_of a true = Some a
start_of a false = None

-- The lines fill the addresses from a to b in order: code has its address, and a debug item has none.
abbrev pub LinesLie : ℕ → List Line → ℕ → Type 0
LinesLie a [] b = a ≡ b
LinesLie a (OfItem l ∷ ls) b = (l.address ≡ start_of a (is_code l.item.kind)) × LinesLie (past_item a l.item.kind) ls b
LinesLie a (Skip s ∷ ls) b = (s.address ≡ a) × LinesLie (a + 4) ls b

-- the lines of a function fill its addresses in order
abbrev pub IsLaidOut : ListedFunction → Type 0
IsLaidOut f = LinesLie f.low (lines_of f) f.high

-- ---- the machine image

-- a branch over the next word as an instruction: the target operand is the offset 8
abbrev pub skip_instruction : SkipLine → Instruction
skip_instruction s = record { op = Branch s.op; operands = Use s.first ∷ Use s.second ∷ Imm (pos 8) ∷ map operand_of s.implicit; volatile = false }

-- the code line of a line; none for a debug item
abbrev pub code_lines : Line → List CodeLine
code_lines (OfItem l) = line_of l.address l.item.origin l.item.kind
code_lines (Skip s) = record { address = s.address; origin = s.origin; instruction = skip_instruction s } ∷ []

-- The machine image of a listed function: the bytes of `.text`, the function's first address, the size of its stack objects, and its code lines, each
-- with address, origin and instruction.
abbrev pub image_of : Output → ListedFunction → Image
image_of o f = record { text = o.text; low = f.low; area = area_shown f.objects; lines = flat_map code_lines (lines_of f) }
