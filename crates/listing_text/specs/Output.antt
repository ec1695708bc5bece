-- The text of an output.
use Rattle.std.specs.Prelude.{ℕ, cond, nat_eq, List, [], ◌∷◌, ◌++◌, length, codes, Option, Some, None}
use Rattle.std.specs.List.{flat_map}
use Rattle.std.specs.Fmt.{decimal, signed_decimal}
use Rattle.base_ids.specs.Limits.{text_number}
use Rattle.rv64_instr.specs.declared.operand.Operand.{Operand}
use Rattle.rv64_instr.specs.declared.operand.Operand.TheVariants.{ImplicitDef, ImplicitUse}
use Rattle.rv64_instr.specs.Mnemonic.{branch_name}
use Rattle.mir_func.specs.declared.position.Pos.{Pos}
use Rattle.mir_func.specs.declared.position.Origin.{Origin}
use Rattle.mir_func.specs.declared.position.Origin.TheVariants.{Kept, Before}
use Rattle.mir_func.specs.declared.debug_substitution.DebugSubstitution.{DebugSubstitution}
use Rattle.mir_func.specs.declared.debug_substitution.OperandPair.{OperandPair}
use Rattle.mir_printer.specs.Spelling.{item_text, operand_text, register_text, quoted_byte}
use Rattle.listing_text.specs.declared.output.ItemLine.{ItemLine}
use Rattle.listing_text.specs.declared.output.Implicit.{Implicit}
use Rattle.listing_text.specs.declared.output.Implicit.TheVariants.{Def, Use}
use Rattle.listing_text.specs.declared.output.SkipLine.{SkipLine}
use Rattle.listing_text.specs.declared.output.Line.{Line}
use Rattle.listing_text.specs.declared.output.Line.TheVariants.{Item, Skip}
use Rattle.listing_text.specs.declared.output.ListedVariable.{ListedVariable}
use Rattle.listing_text.specs.declared.output.ObjectPlace.{ObjectPlace}
use Rattle.listing_text.specs.declared.output.ObjectPlace.TheVariants.{InArea, FromEntry}
use Rattle.listing_text.specs.declared.output.ListedObject.{ListedObject}
use Rattle.listing_text.specs.declared.output.ListedBlock.{ListedBlock}
use Rattle.listing_text.specs.declared.output.ListedFunction.{ListedFunction}
use Rattle.listing_text.specs.declared.output.Output.{Output}
use Rattle.listing_text.specs.Hex.{hex_lines, address_text}

-- ---- sections

-- a section: a line with its name and its length in bytes, and its bytes
abbrev pub section_text : (name bytes : List ℕ) → List ℕ
section_text name bytes = codes "section " ++ name ++ codes " " ++ decimal (length bytes) ++ 10 ∷ [] ++ hex_lines 0 bytes

-- a section that may be absent
abbrev pub section_if : (name : List ℕ) → Option (List ℕ) → List ℕ
section_if name None = []
section_if name (Some bytes) = section_text name bytes

-- all sections: the code first, and then those of DWARF, of which the last two may be absent
abbrev pub sections_text : Output → List ℕ
sections_text o = section_text (codes ".text") o.text ++ section_text (codes ".debug_abbrev") o.abbreviations
    ++ section_text (codes ".debug_info") o.info ++ section_text (codes ".debug_line") o.rows
    ++ section_text (codes ".debug_loclists") o.loclists ++ section_if (codes ".debug_frame") o.frame
    ++ section_if (codes ".debug_rnglists") o.ranges

-- ---- a function's own lines

-- A byte of a name. A space is escaped, as other bytes are in quoted names.
abbrev pub name_byte : ℕ → List ℕ
name_byte b = cond (nat_eq b 32) (codes "\\20") (quoted_byte b)

-- a name without blanks, so that it ends at the next blank
abbrev pub name_text : List ℕ → List ℕ
name_text name = flat_map name_byte name

-- the first line of a function: its name, its first address, and the address after its code
abbrev pub function_line : (name : List ℕ) → (low high : ℕ) → List ℕ
function_line name low high = codes "function " ++ name_text name ++ codes " " ++ address_text low ++ codes " " ++ address_text high ++ 10 ∷ []

-- a stack object: its number, its size in bytes, and its offset from the lowest byte of the objects' area; of a fixed one, which the caller may have written,
-- the N of `%fixed-stack.N`, its size, and its offset from the stack pointer at entry
abbrev pub object_text : (id size : ℕ) → ObjectPlace → List ℕ
object_text id size (InArea n) = codes "object " ++ decimal id ++ codes " " ++ decimal size ++ codes " " ++ decimal n ++ 10 ∷ []
object_text id size (FromEntry d) = codes "incoming " ++ decimal (text_number id) ++ codes " " ++ decimal size ++ codes " " ++ signed_decimal d ++ 10 ∷ []

-- the line of a stack object
abbrev pub object_line : ListedObject → List ℕ
object_line o = object_text o.id o.size o.place

-- the node of the location at which a variable is inlined, or `-`
abbrev pub inlined_text : Option ℕ → List ℕ
inlined_text None = codes " -"
inlined_text (Some node) = codes " !" ++ decimal node

-- a variable: the number of its location list, its node, the node at which it is inlined, and its name
abbrev pub variable_line : ListedVariable → List ℕ
variable_line v =
    codes "variable " ++ decimal v.list ++ codes " !" ++ decimal v.variable.node ++ inlined_text v.variable.inlined_at ++ codes " "
    ++ name_text v.name ++ 10 ∷ []

-- a debug instruction number and an operand, as in DBG_INSTR_REF
abbrev pub pair_text : OperandPair → List ℕ
pair_text q = decimal q.number ++ codes " " ++ decimal q.operand ++ codes " "

-- a debug value substitution, as in debugValueSubstitutions of LLVM MIR
abbrev pub substitution_line : DebugSubstitution → List ℕ
substitution_line e = codes "substitute " ++ pair_text e.src ++ pair_text e.dst ++ decimal e.subreg ++ 10 ∷ []

-- ---- the lines of its code

-- a sign, and a position in the source as block and item
abbrev pub position_text : (sign : List ℕ) → Pos → List ℕ
position_text sign p = sign ++ decimal p.block ++ codes "." ++ decimal p.item

-- an origin: ` =B.I` of a kept item, ` <B.I` of one that was added before a position
abbrev pub origin_text : Origin → List ℕ
origin_text (Kept p) = position_text (codes " =") p
origin_text (Before p) = position_text (codes " <") p

-- an origin, between blanks
abbrev pub spaced_origin : Origin → List ℕ
spaced_origin o = origin_text o ++ codes " "

-- an address, or `-`
abbrev pub start_text : Option ℕ → List ℕ
start_text None = codes "-"
start_text (Some address) = address_text address

-- the line of an item: its address, its origin, and its text as in LLVM MIR
abbrev pub item_line : ItemLine → List ℕ
item_line l = start_text l.address ++ spaced_origin l.item.origin ++ item_text l.item ++ 10 ∷ []

-- an implicit operand as an operand of an instruction
abbrev pub operand_of : Implicit → Operand
operand_of (Def r) = ImplicitDef r
operand_of (Use r) = ImplicitUse r

-- an implicit operand after other operands
abbrev pub implicit_text : Implicit → List ℕ
implicit_text x = codes ", " ++ operand_text (operand_of x)

-- a branch over the next word, with `+8` as its target
abbrev pub skip_text : SkipLine → List ℕ
skip_text s = branch_name s.op ++ codes " " ++ register_text s.first ++ codes ", " ++ register_text s.second ++ codes ", +8" ++
    flat_map implicit_text s.implicit

-- the line of a branch over the next word, the first line of a long branch
abbrev pub skip_line : SkipLine → List ℕ
skip_line s = address_text s.address ++ spaced_origin s.origin ++ skip_text s ++ 10 ∷ []

-- a line of code or of debug information
abbrev pub line_text : Line → List ℕ
line_text (Item l) = item_line l
line_text (Skip s) = skip_line s

-- the head of a basic block: its number, N of `bb.N`
abbrev pub block_line : ℕ → List ℕ
block_line id = codes "block " ++ decimal id ++ 10 ∷ []

-- a basic block: its head, and its lines
abbrev pub block_text : ListedBlock → List ℕ
block_text b = block_line b.id ++ flat_map line_text b.lines

-- ---- functions, and all of it

-- the lines before the code of a function: its first line, stack objects, variables and substitutions
abbrev pub head_text : ListedFunction → List ℕ
head_text f = function_line f.name f.low f.high ++ flat_map object_line f.objects ++ flat_map variable_line f.variables ++
    flat_map substitution_line f.substitutions

-- the lines of a function's code, the prologue before the first block
abbrev pub code_text : ListedFunction → List ℕ
code_text f = flat_map line_text f.prologue ++ flat_map block_text f.blocks

-- a function: its head, and its code
abbrev pub function_text : ListedFunction → List ℕ
function_text f = head_text f ++ code_text f

-- the listing of all functions, one after the other
abbrev pub listing_text : List ListedFunction → List ℕ
listing_text functions = flat_map function_text functions

-- the whole text of an output: its sections, and then the listing
abbrev pub spelling : Output → List ℕ
spelling o = sections_text o ++ listing_text o.functions
