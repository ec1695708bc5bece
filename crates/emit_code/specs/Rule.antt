-- The layout of a function with its frame: the address of each item, and its machine words and entries.
--
-- A layout is the function, its first address, and which of its conditional branches are long. The address of an item's point is
-- the first address plus the bytes of the items before it. `sites_of` are the items in text order, each with its point;
-- `entries_of` and `words_of` concatenate the entries and the words of all items, each at its address and by its form.
use Rattle.std.specs.Prelude.{ℕ, zero, suc, ◌+◌, ℤ, pos, ◌-ℤ◌, Bool, true, false, cond, List, [], ◌∷◌, ◌++◌, take, Option, Some, None}
use Rattle.std.specs.List.{flat_map}
use Rattle.rv64_instr.specs.Instruction.{Instruction}
use Rattle.rv64_instr.specs.Row.{Row, row_of, Callee, Way, Back, Tail, Never, Returns}
use Rattle.rv64_word.specs.declared.machine_op.MachineOp.{MachineOp}
use Rattle.rv64_word.specs.MachineOp.{word_of}
use Rattle.rv64_instr.specs.LocationEffects.{object_named, has_site}
use Rattle.rv64_word.specs.Lowering.{lowered}
use Rattle.mir_func.specs.declared.block.Block.{Block}
use Rattle.mir_func.specs.declared.exit.Exit.{Exit}
use Rattle.mir_func.specs.declared.exit.Exit.TheVariants.{Onward, Perhaps, Always, Final}
use Rattle.mir_func.specs.declared.item.Item.{Item}
use Rattle.mir_func.specs.declared.item.ItemKind.{ItemKind}
use Rattle.mir_func.specs.declared.item.ItemKind.TheVariants.{Code, Mark, Phi}
use Rattle.mir_func.specs.declared.position.Pos.{Pos}
use Rattle.mir_func.specs.declared.position.Origin.{Origin}
use Rattle.mir_func.specs.declared.position.Origin.TheVariants.{Kept, Before}
use Rattle.mir_func.specs.Exits.{row_exit}
use Rattle.mir_func.specs.Function.{FramedFunction}
use Rattle.mir_func.specs.Graph.{index_of, block_start}
use Rattle.mir_func.specs.Objects.{offset_of}
use Rattle.mir_func.specs.SoundFrame.{body_of, own_size}
use Rattle.mir_func.specs.Successors.{pos_in}
use Rattle.emit_code.specs.declared.code.EncodedInstruction.{EncodedInstruction}
use Rattle.emit_code.specs.LongBranch.{inverted_branch, jump_to}

-- a layout: a function with its frame, the points of its long conditional branches, and its first address
pub record Layout : Type 0 where
  pub framed : FramedFunction
  pub long : Pos → Bool
  pub base : ℕ

-- ---- sizes and addresses

-- how an item is encoded: no word (a debug value or DBG_PHI), one word, the two words by which control goes to a function of a name, or the two
-- words of a long conditional branch to a block
pub data Form : Type 0 where
  Nothing : Form
  OneWord : Form
  CallSite : Form
  LongBranch : (block : ℕ) → Form

-- the form of an instruction by its exit, and by whether it names a callee: only a conditional branch can be long
abbrev pub exit_form : (long : Bool) → Exit → (site : Bool) → Form
exit_form long Onward site = cond site CallSite OneWord
exit_form long (Perhaps n) site = cond long (LongBranch n) OneWord
exit_form long (Always n) site = OneWord
exit_form long Final site = cond site CallSite OneWord

-- the form of an instruction by its row
abbrev pub row_form : (long : Bool) → Row → Form
row_form long row = exit_form long (row_exit row) (has_site row)

-- the form of an item: a debug value or DBG_PHI emits no word
abbrev pub form_of : (long : Bool) → ItemKind → Form
form_of long (Code i k) = row_form long (row_of i)
form_of long (Mark v m) = Nothing
form_of long (Phi p k) = Nothing

-- the bytes of a form
abbrev pub form_size : Form → ℕ
form_size Nothing = 0
form_size OneWord = 4
form_size CallSite = 8
form_size (LongBranch n) = 8

-- the bytes of an item. The flag counts only for a conditional branch: whether it is long
abbrev pub size_of : (long : Bool) → Item → ℕ
size_of long i = form_size (form_of long i.kind)

-- the bytes of these items of the block with this index. The first of them has index n in its block
abbrev pub items_size : (long : Pos → Bool) → (block index : ℕ) → List Item → ℕ
items_size long b n [] = 0
items_size long b n (i ∷ items) = size_of (long (pos_in b n)) i + items_size long b (suc n) items

-- the bytes of blocks. The first of them has this index
abbrev pub blocks_size : (long : Pos → Bool) → (index : ℕ) → List Block → ℕ
blocks_size long b [] = 0
blocks_size long b (block ∷ blocks) = items_size long b 0 block.items + blocks_size long (suc b) blocks

-- the items of the block at an index, or none if there is no such block
abbrev pub items_at : List Block → (index : ℕ) → List Item
items_at [] b = []
items_at (block ∷ blocks) zero = block.items
items_at (block ∷ blocks) (suc b) = items_at blocks b

-- the bytes of all items before a point in text order
abbrev pub bytes_before : (long : Pos → Bool) → List Block → Pos → ℕ
bytes_before long blocks p = blocks_size long 0 (take p.block blocks) + items_size long p.block 0 (take p.item (items_at blocks p.block))

-- the address of a point
abbrev pub address_in : Layout → Pos → ℕ
address_in l p = l.base + bytes_before l.long l.framed.blocks p

-- the target address of a branch to the block with this number: the block's first item. The prologue (index 0) is no target
abbrev pub start_of : Layout → (block : ℕ) → ℕ
start_of l n = address_in l (block_start (suc (index_of (body_of l.framed.blocks) n)))

-- ---- words

-- the offset from an address to the target of an instruction's jump or branch, and 0 if it has none
abbrev pub offset_to : Layout → (address : ℕ) → Exit → ℤ
offset_to l a Onward = pos 0
offset_to l a (Perhaps n) = pos (start_of l n) -ℤ pos a
offset_to l a (Always n) = pos (start_of l n) -ℤ pos a
offset_to l a Final = pos 0

-- the offset of a stack object from x2, and 0 for None
abbrev pub object_offset : FramedFunction → (object : Option ℕ) → ℕ
object_offset f None = 0
object_offset f (Some n) = own_size f + offset_of f.objects n

-- the machine operation of an instruction at an address, or None if it isn't encodable as one word
abbrev pub operation_at : Layout → (address : ℕ) → Instruction → Option MachineOp
operation_at l a i = lowered (offset_to l a (row_exit (row_of i))) (object_offset l.framed (object_named (row_of i))) i

-- the first word of a long branch: the inverted branch over the next word
abbrev pub skip_operation : Instruction → Option MachineOp
skip_operation i = lowered (pos 8) 0 (inverted_branch i)

-- the second word of a long branch at this address: a jump to the block
abbrev pub jump_operation : Layout → (address block : ℕ) → Option MachineOp
jump_operation l a n = operation_at l (a + 4) (jump_to n)

-- the words of every call of a function of a name: `AUIPC x1, 0` and `JALR x1, 0(x1)` (RISC-V Unprivileged ISA, "Integer Register-Immediate
-- Instructions" and "Unconditional Jumps")
abbrev pub call_words : List ℕ
call_words = 0x00000097 ∷ 0x000080e7 ∷ []

-- those of a call in tail position: `AUIPC x6, 0` and `JALR x0, 0(x6)`
abbrev pub tail_words : List ℕ
tail_words = 0x00000317 ∷ 0x00030067 ∷ []

abbrev pub way_words : Way Callee → List ℕ
way_words Back = call_words
way_words (Tail callee) = tail_words
way_words (Never callee) = call_words

-- the words by which control goes to the function that an instruction names
abbrev pub site_words : Row → List ℕ
site_words (Returns ending) = way_words ending.way
site_words _ = call_words

-- the word of an operation, and no word for None
abbrev pub word_if : Option MachineOp → List ℕ
word_if None = []
word_if (Some m) = word_of m ∷ []

-- the words of an instruction of a form at an address
abbrev pub form_words : Layout → (address : ℕ) → Instruction → Form → List ℕ
form_words l a i Nothing = []
form_words l a i OneWord = word_if (operation_at l a i)
form_words l a i CallSite = site_words (row_of i)
form_words l a i (LongBranch n) = word_if (skip_operation i) ++ word_if (jump_operation l a n)

-- the words of an item of this kind at its point: a debug value or DBG_PHI has none
abbrev pub kind_words : Layout → Pos → ItemKind → List ℕ
kind_words l p (Code i k) = form_words l (address_in l p) i (form_of (l.long p) (Code i k))
kind_words l p (Mark v m) = []
kind_words l p (Phi r k) = []

-- ---- entries

-- the origin of an added word: before the position of the item that it was added for
abbrev pub added_before : Origin → Origin
added_before (Kept p) = Before p
added_before (Before p) = Before p

-- an entry at an address, for the item at this point
abbrev pub entry : (address size : ℕ) → Origin → Pos → (call : Bool) → EncodedInstruction
entry a n o p call = record { address = a; size = n; origin = o; point = record { block = p.block; item = p.item }; call = call }

-- the entries of an item. Those of a long branch have one point: the inverted branch's origin is `Before` the item's position,
-- the jump's is the item's
abbrev pub form_entries : (address : ℕ) → Origin → Pos → Form → List EncodedInstruction
form_entries a o p Nothing = []
form_entries a o p OneWord = entry a 4 o p false ∷ []
form_entries a o p CallSite = entry a 8 o p true ∷ []
form_entries a o p (LongBranch n) = entry a 4 (added_before o) p false ∷ entry (a + 4) 4 o p false ∷ []

-- ---- all of them

-- an item at its point
pub record Site : Type 0 where
  pub point : Pos
  pub item : Item

-- the items of a block, each with its point. The first of them has index n
abbrev pub sites_in : (block index : ℕ) → List Item → List Site
sites_in b n [] = []
sites_in b n (i ∷ items) = record { point = pos_in b n; item = i } ∷ sites_in b (suc n) items

-- the items of blocks, each with its point. The first block has this index
abbrev pub sites_from : (index : ℕ) → List Block → List Site
sites_from b [] = []
sites_from b (block ∷ blocks) = sites_in b 0 block.items ++ sites_from (suc b) blocks

-- the items of a function in text order
abbrev pub sites_of : FramedFunction → List Site
sites_of f = sites_from 0 f.blocks

-- the entries of an item at the address of its point
abbrev pub entries_at : Layout → Site → List EncodedInstruction
entries_at l s = form_entries (address_in l s.point) s.item.origin s.point (form_of (l.long s.point) s.item.kind)

-- the words of an item, at the address of its point
abbrev pub words_at : Layout → Site → List ℕ
words_at l s = kind_words l s.point s.item.kind

-- all entries of a function, in the order of their addresses
abbrev pub entries_of : Layout → List EncodedInstruction
entries_of l = flat_map (entries_at l) (sites_of l.framed)

-- all words of a function from its first address on
abbrev pub words_of : Layout → List ℕ
words_of l = flat_map (words_at l) (sites_of l.framed)
