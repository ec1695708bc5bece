-- Functions in which each address of a stack object names the object that a listing shows for it.
--
-- An address of the form object + number may point to the end of the object, where the next object may begin, or anywhere else, and objects of the local
-- block may overlap. The machine word is the same for each of them, and a listing shows the address relative to the last object that has its byte (`object_at`).
use Rattle.std.specs.Prelude.{◌≡◌, ℕ, ◌+◌, pos, ◌+ℤ◌, List, ◌∷◌, ◌++◌, map, Some, Contains, IsTrue}
use Rattle.rv64_instr.specs.Instruction.{is_volatile_load}
use Rattle.rv64_instr.specs.declared.op.Op.{Op}
use Rattle.rv64_instr.specs.declared.op.Op.TheVariants.{Registers, Immediate, Lui, Branch, Load, Store, Copy}
use Rattle.rv64_instr.specs.declared.op.Op.TheVariants.{PseudoBr, PseudoCall, PseudoRet, PseudoCallIndirect}
use Rattle.rv64_instr.specs.declared.op.Op.TheVariants.{PseudoTail, PseudoTailIndirect, NoReturnCall, NoReturnCallIndirect}
use Rattle.rv64_instr.specs.declared.operand.Operand.{Operand}
use Rattle.rv64_instr.specs.declared.operand.Operand.TheVariants.{Object as OfObject, Imm}
use Rattle.rv64_instr.specs.Row.{Base, PointedBy, ObjectAt, BesidePart}
use Rattle.rv64_instr.specs.Row.{Row, row_of}
use Rattle.rv64_instr.specs.View.{Access, NoAccess, SlotAccess, MemoryAccess, ObjectAddress, access_of}
use Rattle.mir_func.specs.declared.block.Block.{Block}
use Rattle.mir_func.specs.declared.item.Item.{Item}
use Rattle.mir_func.specs.declared.item.ItemKind.{ItemKind}
use Rattle.mir_func.specs.declared.item.ItemKind.TheVariants.{Code, Mark, Phi}
use Rattle.mir_func.specs.declared.object.Object.{Object}
use Rattle.mir_func.specs.Function.{FramedFunction}
use Rattle.mir_func.specs.Sound.{HasBytes}
use Rattle.mir_func.specs.Objects.{object_of, offset_of}
use Rattle.mir_func.specs.SoundFrame.{own_size}
use Rattle.listing_meaning.specs.Frame.{ShownObject, ShownFrame, has_byte, by_object, address_at}

-- a stack object as a listing shows it
abbrev pub object_placed : Object → ShownObject
object_placed o = record { id = o.id; size = o.size; offset = o.offset }

-- the frame that the listing of a function shows
abbrev pub frame_of : FramedFunction → ShownFrame
frame_of f = record { below = own_size f; objects = map object_placed f.objects }

-- operands of an access of the form object + number, relative to the object that a listing shows for it
abbrev pub settled_sum : FramedFunction → List Operand → List Operand
settled_sum f (register ∷ OfObject n ∷ Imm (pos i) ∷ rest) = register ∷ by_object (frame_of f) (own_size f + offset_of f.objects n + i) ++ rest
settled_sum f operands = operands

-- operands of an address of that form, which may lie outside of the object
abbrev pub settled_address : FramedFunction → List Operand → List Operand
settled_address f (register ∷ OfObject n ∷ Imm i ∷ rest) =
    register ∷ address_at (frame_of f) (pos (own_size f + offset_of f.objects n) +ℤ i) ++ rest
settled_address f operands = operands

-- the operands of an instruction: addresses, loads and stores of objects are changed so
abbrev pub settled_operands : FramedFunction → Op → List Operand → List Operand
settled_operands f (Registers op) operands = operands
settled_operands f (Immediate op) operands = settled_address f operands
settled_operands f Lui operands = operands
settled_operands f (Branch op) operands = operands
settled_operands f (Load op) operands = settled_sum f operands
settled_operands f (Store op) operands = settled_sum f operands
settled_operands f Copy operands = operands
settled_operands f PseudoBr operands = operands
settled_operands f PseudoCall operands = operands
settled_operands f PseudoRet operands = operands
settled_operands f PseudoCallIndirect operands = operands
settled_operands f PseudoTail operands = operands
settled_operands f PseudoTailIndirect operands = operands
settled_operands f NoReturnCall operands = operands
settled_operands f NoReturnCallIndirect operands = operands

-- an item kind with the operands of code changed so. Only a load is shown as volatile
abbrev pub settled_kind : FramedFunction → ItemKind → ItemKind
settled_kind f (Code c k) = Code (record c { operands = settled_operands f c.op c.operands; volatile = is_volatile_load c }) k
settled_kind f (Mark v m) = Mark v m
settled_kind f (Phi p k) = Phi p k

-- an item changed so, with the same origin and debug location
abbrev pub settled_item : FramedFunction → Item → Item
settled_item f i = record i { kind = settled_kind f i.kind }

-- a block changed so, as a listing shows it
abbrev pub settled : FramedFunction → Block → Block
settled f b = record b { items = map (settled_item f) b.items }

-- no object but the one with this number has the byte at an offset of it
abbrev pub IsAlone : List Object → (n offset : ℕ) → Type 0
IsAlone objects n offset =
    (o : Object) → Contains objects o → IsTrue (has_byte (offset_of objects n + offset) (object_placed o)) → object_of objects n ≡ Some o

-- if the base is a stack object, no other object has the byte at this offset
abbrev pub IsBaseAlone : List Object → Base → (offset : ℕ) → Type 0
IsBaseAlone objects (PointedBy r) offset = Unit {0}
IsBaseAlone objects (ObjectAt n) offset = IsAlone objects n offset
IsBaseAlone objects (BesidePart r y) offset = Unit {0}

-- an access of an object, or an address of it, begins at a byte that no other object has, and such an address is that of one of its bytes
abbrev pub AccessIsInside : List Object → Access → Type 0
AccessIsInside objects NoAccess = Unit {0}
AccessIsInside objects (SlotAccess n) = Unit {0}
AccessIsInside objects (MemoryAccess base offset width) = IsBaseAlone objects base offset
AccessIsInside objects (ObjectAddress n offset) = HasBytes objects n (offset + 1) × IsAlone objects n offset

-- If the instruction forms an address of an object, the address is that of one of the object's bytes. No other object has a byte that an address, a load
-- or a store begins at.
abbrev pub LeadsInside : List Object → Row → Type 0
LeadsInside objects row = AccessIsInside objects (access_of row)

-- code whose addresses of objects lead to bytes of those objects alone, so that a listing shows them relative to the same objects, and that is volatile
-- only if it is a load
abbrev pub StaysInside : List Object → ItemKind → Type 0
StaysInside objects (Code c k) = LeadsInside objects (row_of c) × (is_volatile_load c ≡ c.volatile)
StaysInside objects (Mark v m) = Unit {0}
StaysInside objects (Phi p k) = Unit {0}
