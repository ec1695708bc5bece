-- Debug values and DBG_PHIs before spilling: those of spilled registers and of scratch registers are rewritten.
use Rattle.std.specs.Prelude.{ℕ, ◌+◌, List, [], ◌∷◌, ◌++◌, Option, Some, None, Bool, false, cond, ◌||◌, nat_eq}
use Rattle.rv64_instr.specs.declared.place.Place.{Place}
use Rattle.rv64_instr.specs.declared.place.Place.TheVariants.{Register, Slot, Const}
use Rattle.mir_func.specs.declared.position.Origin.{Origin}
use Rattle.mir_func.specs.declared.location.Loc.{Loc}
use Rattle.mir_func.specs.declared.variable.VarId.{VarId}
use Rattle.mir_func.specs.declared.variable.MarkValue.{MarkValue}
use Rattle.mir_func.specs.declared.variable.MarkValue.TheVariants.{Nothing, Constant, At, Pair}
use Rattle.mir_func.specs.declared.item.Item.{Item}
use Rattle.mir_func.specs.declared.item.ItemKind.{ItemKind}
use Rattle.mir_func.specs.declared.item.ItemKind.TheVariants.{Code, Mark, Phi}
use Rattle.mir_func.specs.declared.block.Block.{Block}
use Rattle.mir_func.specs.Function.{Function}
use Rattle.pass_trait.specs.Rule.{item, item_before, first_operand}
use Rattle.spill_code.specs.declared.spilling.SlotAssignment.{SlotAssignment}
use Rattle.spill_code.specs.declared.spilling.Spilling.{Spilling}
use Rattle.spill_code.specs.Rewrite.{slot_of}

-- one of the two scratch registers, which reloads and spills overwrite
abbrev pub is_scratch : Spilling → ℕ → Bool
is_scratch s r = nat_eq r s.first || nat_eq r s.second

-- the value of a debug value of a register that isn't spilled: undef for a scratch register
abbrev pub value_left : Spilling → ℕ → MarkValue
value_left s r = cond (is_scratch s r) Nothing (At r)

-- the place is a scratch register
abbrev pub is_scratch_place : Spilling → Place → Bool
is_scratch_place s (Register r) = is_scratch s r
is_scratch_place s (Slot n) = false
is_scratch_place s (Const z) = false

-- the location of a DBG_PHI: none for a scratch register
abbrev pub place_left : Spilling → Option Place → Option Place
place_left s None = None
place_left s (Some p) = cond (is_scratch_place s p) None (Some p)

-- a DBG_PHI of a register with number k, and a DBG_INSTR_REF to that number
abbrev pub phi_and_mark : (k : ℕ) → VarId → (r : ℕ) → Origin → Loc → List Item
phi_and_mark k v r o l = item_before (Phi (Some (Register r)) k) o ∷ item (Mark v (Pair (first_operand k))) o l ∷ []

-- what a debug value of a register becomes, if the next fresh number is k: if the register is spilled, it refers to a
-- new DBG_PHI right before it
abbrev pub mark_asked : Spilling → (k : ℕ) → VarId → (r : ℕ) → (home : Option ℕ) → Origin → Loc → List Item
mark_asked s k v r None o l = item (Mark v (value_left s r)) o l ∷ []
mark_asked s k v r (Some n) o l = phi_and_mark k v r o l

-- the items that an item becomes: a debug value of a spilled register refers to a new DBG_PHI, debug values and
-- DBG_PHIs of scratch registers become undef, and all others are unchanged
abbrev pub kind_asked : Spilling → (k : ℕ) → ItemKind → Origin → Loc → List Item
kind_asked s k (Code i n) o l = item (Code i n) o l ∷ []
kind_asked s k (Phi p n) o l = item (Phi (place_left s p) n) o l ∷ []
kind_asked s k (Mark v (At r)) o l = mark_asked s k v r (slot_of s.homes r) o l
kind_asked s k (Mark v Nothing) o l = item (Mark v Nothing) o l ∷ []
kind_asked s k (Mark v (Constant n)) o l = item (Mark v (Constant n)) o l ∷ []
kind_asked s k (Mark v (Pair q)) o l = item (Mark v (Pair q)) o l ∷ []

-- a debug value of a spilled register uses a number
abbrev pub number_past : (k : ℕ) → (home : Option ℕ) → ℕ
number_past k None = k
number_past k (Some n) = k + 1

-- the next fresh number after an item
abbrev pub next_number : List SlotAssignment → (k : ℕ) → ItemKind → ℕ
next_number homes k (Mark v (At r)) = number_past k (slot_of homes r)
next_number homes k (Mark v Nothing) = k
next_number homes k (Mark v (Constant n)) = k
next_number homes k (Mark v (Pair q)) = k
next_number homes k (Code i n) = k
next_number homes k (Phi p n) = k

-- the next fresh number after items
abbrev pub number_behind : List SlotAssignment → (k : ℕ) → List Item → ℕ
number_behind homes k [] = k
number_behind homes k (x ∷ xs) = number_behind homes (next_number homes k x.kind) xs

-- the items of a block, rewritten, if the next fresh number is k
abbrev pub items_asked : Spilling → (k : ℕ) → List Item → List Item
items_asked s k [] = []
items_asked s k (x ∷ xs) = kind_asked s k x.kind x.origin x.loc ++ items_asked s (next_number s.homes k x.kind) xs

-- the next fresh number after blocks
abbrev pub number_beyond : List SlotAssignment → (k : ℕ) → List Block → ℕ
number_beyond homes k [] = k
number_beyond homes k (b ∷ bs) = number_beyond homes (number_behind homes k b.items) bs

-- the blocks, rewritten, with fresh numbers from k on in the order of the text
abbrev pub blocks_asked : Spilling → (k : ℕ) → List Block → List Block
blocks_asked s k [] = []
blocks_asked s k (b ∷ bs) =
    record { id = b.id; items = items_asked s k b.items; source_end = b.source_end } ∷ blocks_asked s (number_behind s.homes k b.items) bs

-- the function, rewritten, with fresh numbers from k on
abbrev pub asked : Spilling → (k : ℕ) → Function → Function
asked s k f = record f { blocks = blocks_asked s k f.blocks }
