-- The frame that a listing shows. Listed instructions access the frame by x2 and an offset. These definitions map such accesses back to frame slots
-- and stack objects.
use Rattle.std.specs.Prelude.{ℕ, zero, suc, ◌+◌, ◌-◌, ◌^◌, ℤ, ◌-ℤ◌, max, Bool, true, false, cond, ◌&&◌, nat_eq, nat_le, nat_lt, pos, negsuc, map, List, [], ◌∷◌, ◌++◌}
use Rattle.std.specs.Prelude.{Option, Some}
use Rattle.std.specs.Prelude.{None}
use Rattle.rv64_instr.specs.declared.op.Op.{Op}
use Rattle.rv64_instr.specs.declared.op.Op.TheVariants.{Registers, Immediate, Lui, Branch, Load, Store, Copy}
use Rattle.rv64_instr.specs.declared.op.Op.TheVariants.{PseudoBr, PseudoCall, PseudoRet, PseudoCallIndirect}
use Rattle.rv64_instr.specs.declared.op.Op.TheVariants.{PseudoTail, PseudoTailIndirect, NoReturnCall, NoReturnCallIndirect}
use Rattle.rv64_instr.specs.declared.op.RegisterOp.TheVariants.{Add}
use Rattle.rv64_instr.specs.declared.op.ImmediateOp.{ImmediateOp}
use Rattle.rv64_instr.specs.declared.op.ImmediateOp.TheVariants.{Addi, Slti, Sltiu, Xori, Ori, Andi, Slli, Srli, Srai, Addiw, Slliw, Srliw, Sraiw}
use Rattle.rv64_instr.specs.declared.op.LoadOp.{LoadOp}
use Rattle.rv64_instr.specs.declared.op.StoreOp.{StoreOp}
use Rattle.rv64_instr.specs.declared.operand.Operand.{Operand}
use Rattle.rv64_instr.specs.declared.operand.Operand.TheVariants.{Def, Use, Imm, Slot, Object}
use Rattle.rv64_instr.specs.Row.{Number}
use Rattle.rv64_instr.specs.Arithmetic.{load_width, store_width}
use Rattle.rv64_instr.specs.Row.{Row, Sets, row_of}
use Rattle.mir_func.specs.declared.item.ItemKind.{ItemKind}
use Rattle.mir_func.specs.declared.item.ItemKind.TheVariants.{Code, Mark, Phi}
use Rattle.mir_func.specs.Objects.{up_to, depth_of}
use Rattle.listing_text.specs.declared.output.Line.{Line}
use Rattle.listing_text.specs.declared.output.Line.TheVariants.{Item, Skip}
use Rattle.listing_text.specs.declared.output.ObjectPlace.{ObjectPlace}
use Rattle.listing_text.specs.declared.output.ObjectPlace.TheVariants.{InArea, FromEntry}
use Rattle.listing_text.specs.declared.output.ListedObject.{ListedObject}
use Rattle.listing_text.specs.declared.output.ListedFunction.{ListedFunction}

-- ---- its size

-- the end offset of an object of this size and place if it isn't fixed and that is greater than n
abbrev pub end_at : (n size : ℕ) → ObjectPlace → ℕ
end_at n size (InArea offset) = max n (offset + size)
end_at n size (FromEntry d) = n

-- the greatest end offset of listed stack objects that aren't fixed, or n
abbrev pub end_of : ℕ → List ListedObject → ℕ
end_of n [] = n
end_of n (o ∷ os) = end_of (end_at n o.size o.place) os

-- how far below the stack pointer at entry a fixed object begins, or 0
abbrev pub depth_at : ObjectPlace → ℕ
depth_at (InArea offset) = 0
depth_at (FromEntry d) = depth_of (Some d)

-- the greatest depth of listed stack objects, or n
abbrev pub deepest : ℕ → List ListedObject → ℕ
deepest n [] = n
deepest n (o ∷ os) = deepest (max n (depth_at o.place)) os

-- the size of the area of stack objects at the top of the frame: up to the greatest end of those that aren't fixed, and above them from the deepest fixed one
-- on, each rounded up to a multiple of 16
abbrev pub area_shown : List ListedObject → ℕ
area_shown objects = up_to 16 (end_of 0 objects) + up_to 16 (deepest 0 objects)

-- a stack object that a listing shows: its number, its size, and its offset from the lowest byte of the area
pub record ShownObject : Type 0 where
  pub id : ℕ
  pub size : ℕ
  pub offset : ℕ

-- the offset of a place, in an area of this size
abbrev pub offset_at : (area : ℕ) → ObjectPlace → ℕ
offset_at area (InArea offset) = offset
offset_at area (FromEntry (pos n)) = area + n
offset_at area (FromEntry (negsuc n)) = area - suc n

-- a listed object, in an area of this size
abbrev pub object_shown : (area : ℕ) → ListedObject → ShownObject
object_shown area o = record { id = o.id; size = o.size; offset = offset_at area o.place }

-- by how many bytes an instruction lowers x2: N for `$x2 = ADDI $x2, -N`
abbrev pub lowered_by : Row → ℕ
lowered_by (Sets (suc (suc zero)) Add (suc (suc zero)) (Number n)) = 2 ^ 64 - n
lowered_by _ = 0

-- debug items don't change x2
abbrev pub lowered_by_kind : ItemKind → ℕ
lowered_by_kind (Code i k) = lowered_by (row_of i)
lowered_by_kind (Mark v m) = 0
lowered_by_kind (Phi p k) = 0

-- a skip is a branch, which doesn't change x2
abbrev pub lowered_by_line : Line → ℕ
lowered_by_line (Item l) = lowered_by_kind l.item.kind
lowered_by_line (Skip s) = 0

-- the size of the frame: by how many bytes the first instruction of the prologue lowers x2
abbrev pub size_shown : (prologue : List Line) → ℕ
size_shown [] = 0
size_shown (l ∷ ls) = lowered_by_line l

-- `below`: the size of the area of slots and saved registers, which begins at x2 and ends at the stack objects. `objects`: the stack objects.
pub record ShownFrame : Type 0 where
  pub below : ℕ
  pub objects : List ShownObject

-- the frame of a listed function: its size without the area of stack objects, and its objects
abbrev pub frame_shown : ListedFunction → ShownFrame
frame_shown f = record { below = size_shown f.prologue - area_shown f.objects; objects = map (object_shown (area_shown f.objects)) f.objects }

-- ---- accesses to the frame

-- the operands of the address x2 + n
abbrev pub by_pointer : ℕ → List Operand
by_pointer n = Use 2 ∷ Imm (pos n) ∷ []

-- the last object that passes a test, or `found` if there is none
abbrev pub last_of : (ShownObject → Bool) → (found : Option ShownObject) → List ShownObject → Option ShownObject
last_of test found [] = found
last_of test found (o ∷ os) = last_of test (cond (test o) (Some o) found) os

-- the object begins at an offset or below
abbrev pub begins_by : (offset : ℕ) → ShownObject → Bool
begins_by n o = nat_le o.offset n

-- the object has the byte at an offset
abbrev pub has_byte : (offset : ℕ) → ShownObject → Bool
has_byte n o = nat_le o.offset n && nat_lt n (o.offset + o.size)

-- The last object that has the byte at an offset. If none has it, as at the end of an object, the last one that begins below it, or None.
abbrev pub object_at : List ShownObject → (offset : ℕ) → Option ShownObject
object_at objects n = last_of (has_byte n) (last_of (begins_by n) None objects) objects

-- the operands of an offset into an object, or `otherwise` without an object
abbrev pub in_object : Option ShownObject → (offset : ℕ) → (otherwise : List Operand) → List Operand
in_object None n otherwise = otherwise
in_object (Some o) n otherwise = Object o.id ∷ Imm (pos (n - o.offset)) ∷ []

-- for n from `below` on, the operands of the address x2 + n: the object that is there (`object_at`) and the offset from it, or by x2 if there is none
abbrev pub by_object : ShownFrame → ℕ → List Operand
by_object f n = in_object (object_at f.objects (n - f.below)) (n - f.below) (by_pointer n)

-- The operands of an access at x2 + n. Below the stack objects, a doubleword access is of a slot, and any other is by x2. From the first object on,
-- the operands are those of `by_object`.
abbrev pub accessed : ShownFrame → (is_doubleword : Bool) → ℕ → List Operand
accessed f true n = cond (nat_lt n f.below) (Slot n ∷ Imm (pos 0) ∷ []) (by_object f n)
accessed f false n = cond (nat_lt n f.below) (by_pointer n) (by_object f n)

-- the first object, if there is one
abbrev pub first_object : List ShownObject → Option ShownObject
first_object [] = None
first_object (o ∷ os) = Some o

-- an object, or another one where there is none
abbrev pub or_object : Option ShownObject → (other : Option ShownObject) → Option ShownObject
or_object None other = other
or_object (Some o) other = Some o

-- The object by which the address x2 + z is told. From the objects on it is the one that is there (`object_at`); below them, and where none is there, it is
-- the first one.
abbrev pub object_near : ShownFrame → ℤ → Option ShownObject
object_near f (pos n) =
    cond (nat_lt n f.below) (first_object f.objects) (or_object (object_at f.objects (n - f.below)) (first_object f.objects))
object_near f (negsuc n) = first_object f.objects

-- the operands of the address x2 + z by an object, or by x2 without one
abbrev pub addressed : (below : ℕ) → Option ShownObject → ℤ → List Operand
addressed below None z = Use 2 ∷ Imm z ∷ []
addressed below (Some o) z = Object o.id ∷ Imm (z -ℤ pos (below + o.offset)) ∷ []

-- the same by the object that tells it
abbrev pub address_at : ShownFrame → ℤ → List Operand
address_at f z = addressed f.below (object_near f z) z

-- The operands of the sum x2 + z, which is the new content of register rd: by x2 if rd is x2, as in frame setup and destruction, and otherwise those of
-- the address of an object.
abbrev pub summed : ShownFrame → (rd : ℕ) → ℤ → List Operand
summed f rd z = cond (nat_eq rd 2) (Use 2 ∷ Imm z ∷ []) (address_at f z)

-- a load by x2 as a load of a slot or of an object; only LD can be of a slot
abbrev pub raised_load : ShownFrame → LoadOp → List Operand → List Operand
raised_load f op (Def rd ∷ Use (suc (suc zero)) ∷ Imm (pos n) ∷ rest) = Def rd ∷ accessed f (nat_eq (load_width op) 8) n ++ rest
raised_load f op operands = operands

-- a store by x2 as a store to a slot or to an object; only SD can be to a slot
abbrev pub raised_store : ShownFrame → StoreOp → List Operand → List Operand
raised_store f op (Use rs ∷ Use (suc (suc zero)) ∷ Imm (pos n) ∷ rest) = Use rs ∷ accessed f (nat_eq (store_width op) 8) n ++ rest
raised_store f op operands = operands

-- x2 + z as the address of an object, unless the result is x2
abbrev pub raised_sum : ShownFrame → List Operand → List Operand
raised_sum f (Def rd ∷ Use (suc (suc zero)) ∷ Imm z ∷ rest) = Def rd ∷ summed f rd z ++ rest
raised_sum f operands = operands

-- register-immediate arithmetic; only ADDI forms the address of an object
abbrev pub raised_number : ShownFrame → ImmediateOp → List Operand → List Operand
raised_number f Addi operands = raised_sum f operands
raised_number f Slti operands = operands
raised_number f Sltiu operands = operands
raised_number f Xori operands = operands
raised_number f Ori operands = operands
raised_number f Andi operands = operands
raised_number f Slli operands = operands
raised_number f Srli operands = operands
raised_number f Srai operands = operands
raised_number f Addiw operands = operands
raised_number f Slliw operands = operands
raised_number f Srliw operands = operands
raised_number f Sraiw operands = operands

-- the operands of a listed instruction, with accesses by x2 replaced by slots and objects
abbrev pub raised_operands : ShownFrame → Op → List Operand → List Operand
raised_operands f (Registers op) operands = operands
raised_operands f (Immediate op) operands = raised_number f op operands
raised_operands f Lui operands = operands
raised_operands f (Branch op) operands = operands
raised_operands f (Load op) operands = raised_load f op operands
raised_operands f (Store op) operands = raised_store f op operands
raised_operands f Copy operands = operands
raised_operands f PseudoBr operands = operands
raised_operands f PseudoCall operands = operands
raised_operands f PseudoRet operands = operands
raised_operands f PseudoCallIndirect operands = operands
raised_operands f PseudoTail operands = operands
raised_operands f PseudoTailIndirect operands = operands
raised_operands f NoReturnCall operands = operands
raised_operands f NoReturnCallIndirect operands = operands

-- the reverse of frame index elimination: the item names slots and objects again
abbrev pub raised : ShownFrame → ItemKind → ItemKind
raised f (Code i k) = Code (record i { operands = raised_operands f i.op i.operands }) k
raised f (Mark v m) = Mark v m
raised f (Phi p k) = Phi p k
