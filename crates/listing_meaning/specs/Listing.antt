-- The listing of a layout: the lines of a function with its frame.
use Rattle.std.specs.Prelude.{ℕ, ℤ, suc, ◌+◌, ◌*◌, List, [], ◌∷◌, ◌++◌, length, map, Option, Some, None}
use Rattle.std.specs.List.{flat_map}
use Rattle.rv64_instr.specs.declared.op.Op.{Op}
use Rattle.rv64_instr.specs.declared.op.Op.TheVariants.{Branch}
use Rattle.rv64_instr.specs.declared.operand.Operand.{Operand}
use Rattle.rv64_instr.specs.declared.operand.Operand.TheVariants.{Use, ImplicitDef, ImplicitUse}
use Rattle.rv64_instr.specs.Instruction.{Instruction}
use Rattle.rv64_instr.specs.Inverse.{inverse}
use Rattle.mir_func.specs.declared.block.Block.{Block}
use Rattle.mir_func.specs.declared.debug_substitution.DebugSubstitution.{DebugSubstitution}
use Rattle.mir_func.specs.declared.item.Item.{Item}
use Rattle.mir_func.specs.declared.item.ItemKind.{ItemKind}
use Rattle.mir_func.specs.declared.item.ItemKind.TheVariants.{Code, Mark, Phi}
use Rattle.mir_func.specs.declared.object.Object.{Object}
use Rattle.mir_func.specs.declared.position.Origin.{Origin}
use Rattle.emit_code.specs.LongBranch.{jump_to}
use Rattle.emit_code.specs.Listed.{listed}
use Rattle.emit_code.specs.Rule.{Layout, Site, Form, Nothing, OneWord, CallSite, LongBranch, form_of, address_in, added_before, sites_in, words_of}
use Rattle.listing_text.specs.declared.output.Implicit.{Implicit}
use Rattle.listing_text.specs.declared.output.Implicit.TheVariants.{Def as SetsImplicit, Use as ReadsImplicit}
use Rattle.listing_text.specs.declared.output.Line.{Line}
use Rattle.listing_text.specs.declared.output.Line.TheVariants.{Item as OfItem, Skip}
use Rattle.listing_text.specs.declared.output.ListedVariable.{ListedVariable}
use Rattle.listing_text.specs.declared.output.ObjectPlace.{ObjectPlace}
use Rattle.listing_text.specs.declared.output.ObjectPlace.TheVariants.{InArea, FromEntry}
use Rattle.listing_text.specs.declared.output.ListedObject.{ListedObject}
use Rattle.listing_text.specs.declared.output.ListedBlock.{ListedBlock}
use Rattle.listing_text.specs.declared.output.ListedFunction.{ListedFunction}

-- the implicit operands among operands
abbrev pub implicits : List Operand → List Implicit
implicits [] = []
implicits (ImplicitDef r ∷ rest) = SetsImplicit r ∷ implicits rest
implicits (ImplicitUse r ∷ rest) = ReadsImplicit r ∷ implicits rest
implicits (_ ∷ rest) = implicits rest

-- the skip line of a long branch: the inverse of a conditional branch with these operands, over the next word. Other instructions have none.
abbrev pub branch_skip : (address : ℕ) → Origin → Op → List Operand → List Line
branch_skip a o (Branch op) (Use first ∷ Use second ∷ target ∷ rest) = Skip (record {
  address = a;
  origin = added_before o;
  op = inverse op;
  first = first;
  second = second;
  implicit = implicits rest;
}) ∷ []
branch_skip a o op operands = []

-- the line of an item, code at an address
abbrev pub line_at : (address : Option ℕ) → Item → ItemKind → Line
line_at a i kind = OfItem (record { address = a; item = record i { kind = kind } })

-- The lines of code at an address. A frame slot or a stack object is listed as x2 and an offset, as in the word. A long branch has two lines: its
-- inverse over the next word, and a jump with the branch's number, debug location and origin.
abbrev pub form_lines : Layout → (address : ℕ) → Item → Instruction → (number : Option ℕ) → Form → List Line
form_lines l a i c k Nothing = []
form_lines l a i c k OneWord = line_at (Some a) i (Code (listed l.framed c) k) ∷ []
form_lines l a i c k CallSite = line_at (Some a) i (Code (listed l.framed c) k) ∷ []
form_lines l a i c k (LongBranch n) = branch_skip a i.origin c.op c.operands ++ line_at (Some (a + 4)) i (Code (jump_to n) k) ∷ []

-- the lines of an item of a kind: a debug value or a DBG_PHI has a line without an address
abbrev pub kind_lines : Layout → Site → ItemKind → List Line
kind_lines l s (Code c k) = form_lines l (address_in l s.point) s.item c k (form_of (l.long s.point) (Code c k))
kind_lines l s (Mark v m) = line_at None s.item (Mark v m) ∷ []
kind_lines l s (Phi p k) = line_at None s.item (Phi p k) ∷ []

-- the lines of an item at its point
abbrev pub site_lines : Layout → Site → List Line
site_lines l s = kind_lines l s s.item.kind

-- the lines of the items of the block at an index
abbrev pub items_listed : Layout → (block : ℕ) → List Item → List Line
items_listed l b items = flat_map (site_lines l) (sites_in b 0 items)

-- the listed blocks, of which the first has this index
abbrev pub blocks_listed : Layout → (index : ℕ) → List Block → List ListedBlock
blocks_listed l b [] = []
blocks_listed l b (block ∷ blocks) = record { id = block.id; lines = items_listed l b block.items } ∷ blocks_listed l (suc b) blocks

-- the lines of the prologue, which is the block at index 0
abbrev pub prologue_listed : Layout → List Block → List Line
prologue_listed l [] = []
prologue_listed l (p ∷ blocks) = items_listed l 0 p.items

-- the body: all blocks but the prologue
abbrev pub body_listed : Layout → List Block → List ListedBlock
body_listed l [] = []
body_listed l (p ∷ blocks) = blocks_listed l 1 blocks

-- the place of an object as a listing has it, by its offset from the lowest byte of the area or, if it is fixed, from the stack pointer at entry
abbrev pub place_listed : (offset : ℕ) → (fixed : Option ℤ) → ObjectPlace
place_listed offset None = InArea offset
place_listed offset (Some d) = FromEntry d

-- a stack object as a listing has it
abbrev pub object_listed : Object → ListedObject
object_listed o = record { id = o.id; size = o.size; place = place_listed o.offset o.fixed_offset }

-- the listing of a layout, with variables and substitutions
abbrev pub listing_of : Layout → List ListedVariable → List DebugSubstitution → ListedFunction
listing_of l variables substitutions = record {
  name = l.framed.name;
  low = l.base;
  high = l.base + 4 * length (words_of l);
  objects = map object_listed l.framed.objects;
  variables = variables;
  substitutions = substitutions;
  prologue = prologue_listed l l.framed.blocks;
  blocks = body_listed l l.framed.blocks;
}
