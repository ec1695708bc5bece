-- The tracker's state between two items of a block, and the effect of an item on it.
use Rattle.std.specs.Prelude.{
  ◌≡◌,
  ◌≢◌,
  ℕ,
  ◌+◌,
  ◌-◌,
  ◌*◌,
  ◌/◌,
  ◌<◌,
  ◌≤◌,
  List,
  ◌++◌,
  length,
  Contains,
  Option,
  Some,
  None,
  Bool,
  true,
  false,
  ◌&&◌,
  cond,
  nat_eq,
  nat_le,
  nat_lt,
  slice_get,
  slice_index,
}
use Rattle.std.specs.List.{list_any}
use Rattle.std.specs.HashMap.{get}
use Rattle.rv64_instr.specs.declared.operand.Operand.{Operand}
use Rattle.rv64_instr.specs.Row.{Row}
use Rattle.rv64_instr.specs.View.{Value, Literal, OfRegister, OfSlot, Computed, Write, SetsNothing, SetsRegister, SetsSlot, Clobbers, write_of}
use Rattle.rv64_instr.specs.DefsAndUses.{caller_saved}
use Rattle.rv64_instr.specs.LocationEffects.{is_outgoing}
use Rattle.rv64_instr.specs.Arithmetic.{word}
use Rattle.rv64_instr.specs.declared.place.Place.{Place}
use Rattle.rv64_instr.specs.declared.place.Place.TheVariants.{Register, Slot, Const}
use Rattle.mir_func.specs.declared.variable.MarkValue.{MarkValue}
use Rattle.mir_func.specs.declared.variable.MarkValue.TheVariants.{Nothing, Constant, At, Pair}
use Rattle.mir_func.specs.declared.debug_substitution.OperandPair.{OperandPair}
use Rattle.mir_func.specs.declared.variable.VarId.{VarId}
use Rattle.mir_func.specs.declared.item.ItemKind.{ItemKind}
use Rattle.mir_func.specs.declared.item.ItemKind.TheVariants.{Code, Mark, Phi}
use Rattle.mir_func.specs.Variables.{is_same, overlaps}
use Rattle.mir_substitution.specs.Index.{is_key}
use Rattle.value_proof.specs.sem_value_ids.Pullback as path
use Rattle.value_proof.specs.sem_value_ids.Pullback.{InRegister, InSlot, OfPair, OfVariable, OfNumber, back}
use Rattle.value_proof.specs.Classes.{Classes, IsKnown, KnowsItem, class_back, pairs_of}
use Rattle.value_tracker.specs.declared.index.TrackedIndex.{TrackedIndex}
use Rattle.value_tracker.specs.declared.location_tracker.LocationTracker.{LocationTracker}
use Rattle.value_tracker.specs.Things.{IsOffset}

-- the location index of the doubleword at x2. Registers have the indices below it, and the doublewords at offsets up to 2,024
-- those from it on
abbrev pub SLOTS_FROM : ℕ
SLOTS_FROM = 32

-- the number of machine locations: 32 registers, and the 254 doublewords at offsets 0 to 2,024
abbrev pub PLACES : ℕ
PLACES = 286

-- the location index of the doubleword at an offset from x2, in bytes
abbrev pub slot_place : ℕ → ℕ
slot_place n = SLOTS_FROM + n / 8

-- the class at an index in a list, or 0 for None
abbrev pub class_at : List ℕ → Option ℕ → ℕ
class_at settled None = 0
class_at settled (Some i) = slice_index settled i

-- a constant's class, which is the one at the block's start
abbrev pub number_class : TrackedIndex → List ℕ → ℕ → ℕ
number_class index settled c = class_at settled (get nat_eq index.numbers c)

-- a pair's class: the one that an item of the block defined, or else the one at the block's start
abbrev pub given_or : Option ℕ → ℕ → ℕ
given_or None c = c
given_or (Some d) c = d

-- the class of operand o of debug instruction number k, between two items of the block
abbrev pub pair_class : TrackedIndex → List ℕ → LocationTracker → ℕ → ℕ → ℕ
pair_class index settled h k o = given_or (get is_key h.pairs (k, o)) (class_at settled (get is_key index.pairs (k, o)))

-- the state holds these classes of registers and known entities
pub record Holds (variables : List VarId) (known : List path.Tracked) (index : TrackedIndex) (settled : List ℕ) (h : LocationTracker)
    (class : Classes) : Type 0 where
  pub count : length h.places.items ≡ PLACES
  pub registers : (r : ℕ) → r < 32 → slice_index h.places.items r ≡ class (InRegister r)
  pub slots : (n : ℕ) → Contains known (InSlot n) → slice_index h.places.items (slot_place n) ≡ class (InSlot n)
  pub offsets : (n : ℕ) → Contains known (InSlot n) → IsOffset n
  pub slots_known : (i : ℕ) → SLOTS_FROM ≤ i → slice_index h.places.items i ≢ 0 → Contains known (InSlot (8 * (i - SLOTS_FROM)))
  pub pairs : (k o : ℕ) → Contains known (OfPair k o) → pair_class index settled h k o ≡ class (OfPair k o)
  pub parts : (j : ℕ) (v : VarId) → slice_get variables j ≡ Some v → slice_get h.parts.items j ≡ Some (class (OfVariable v))
  pub numbers : (c : ℕ) → Contains known (OfNumber c) → number_class index settled c ≡ class (OfNumber c)
  pub below : (x : path.Tracked) → IsKnown known x → class x < h.next
  pub zero : class (InRegister 0) ≡ class (OfNumber 0)
  pub pointer : class (InRegister 2) ≡ 0

-- the step over an item: if the state before it holds the classes there, the state after it holds those past it, also of the pairs
-- that the item defines. The class of a new token is `before.next` plus its register
abbrev pub Passes : (variables : List VarId) (index : TrackedIndex) (settled : List ℕ) → (OperandPair → Option OperandPair) →
    (before after : LocationTracker) → ItemKind → Type 0
Passes variables index settled resolve before after kind = (known : List path.Tracked) (class : Classes) →
    Holds variables known index settled before class → KnowsItem known resolve kind →
    Holds variables (pairs_of kind ++ known) index settled after (λ x. class_back class (λ r. before.next + r) (back resolve 0 kind x))

-- ---- locations past an instruction

-- the class at location i past a write of class c to register rd: a write to x0 is dropped, and a write to x2 clears the classes
-- of all slots
abbrev pub put : (rd c : ℕ) → (places : ℕ → ℕ) → ℕ → ℕ
put rd c places i = cond (nat_eq rd 2) (cond (nat_lt i SLOTS_FROM) (places i) 0)
    (cond (nat_eq rd 0) (places i) (cond (nat_lt rd SLOTS_FROM) (cond (nat_eq i rd) c (places i)) (places i)))

-- the class of a value that register rd is set to: a constant's class is that of the constant, copies, slot loads and
-- slot stores copy classes, and each other definition has the class `next` plus its register
abbrev pub value_past : (number : ℕ → ℕ) → (next rd : ℕ) → Value → (places : ℕ → ℕ) → ℕ
value_past number next rd (Literal c) places = number c
value_past number next rd (OfRegister rs) places = places rs
value_past number next rd (OfSlot n) places = places (slot_place n)
value_past number next rd Computed places = next + rd

-- the location at an index is one of these slots
abbrev pub is_slot_at : List ℕ → ℕ → Bool
is_slot_at ns i = nat_le SLOTS_FROM i && list_any (nat_eq (8 * (i - SLOTS_FROM))) ns

-- the location at an index is a slot that the operand passes to a callee
abbrev pub is_passed_at : Operand → ℕ → Bool
is_passed_at o i = nat_le SLOTS_FROM i && is_outgoing (8 * (i - SLOTS_FROM)) o

-- the class at location i after this is set
abbrev pub written_past : (number : ℕ → ℕ) → (next : ℕ) → Write → (places : ℕ → ℕ) → ℕ → ℕ
written_past number next SetsNothing places i = places i
written_past number next (SetsRegister rd value) places i = put rd (value_past number next rd value places) places i
written_past number next (SetsSlot n rs) places i = cond (nat_eq i (slot_place n)) (cond (nat_lt i PLACES) (places rs) 0) (places i)
written_past number next (Clobbers outgoing) places i =
    cond (list_any (λ q. nat_eq i q) caller_saved) (next + i) (cond (is_slot_at outgoing i) 0 (places i))

-- the class at location i past an instruction of this row
abbrev pub places_past : (number : ℕ → ℕ) → (next : ℕ) → Row → (places : ℕ → ℕ) → ℕ → ℕ
places_past number next row places i = written_past number next (write_of row) places i

-- the class of a part of a variable past a debug value for the part `marked`: c for that part, and 0 for an overlapping one
abbrev pub part_past : (marked : VarId) → (c : ℕ) → VarId → ℕ → ℕ
part_past v c w d = cond (is_same w v) c (cond (overlaps w v) 0 d)

-- the item is a debug value
abbrev pub is_mark : ItemKind → Bool
is_mark (Code i n) = false
is_mark (Mark v value) = true
is_mark (Phi p n) = false

-- ---- what debug values and DBG_PHIs read, and what operands define

-- the class of the pair that a debug operand resolves to, or 0 if it resolves to none
abbrev pub resolved_class : TrackedIndex → List ℕ → LocationTracker → Option OperandPair → ℕ
resolved_class index settled h None = 0
resolved_class index settled h (Some q) = pair_class index settled h q.number q.operand

-- the class of the value of a debug value's operand, or 0 for $noreg
abbrev pub value_class : TrackedIndex → List ℕ → (OperandPair → Option OperandPair) → LocationTracker → MarkValue → ℕ
value_class index settled resolve h Nothing = 0
value_class index settled resolve h (Constant c) = number_class index settled (word c)
value_class index settled resolve h (At r) = slice_index h.places.items r
value_class index settled resolve h (Pair q) = resolved_class index settled h (resolve q)

-- the class of the value in a location
abbrev pub at_class : TrackedIndex → List ℕ → LocationTracker → Place → ℕ
at_class index settled h (Register r) = slice_index h.places.items r
at_class index settled h (Slot n) = slice_index h.places.items (slot_place n)
at_class index settled h (Const c) = number_class index settled (word c)

-- the class of the value in a DBG_PHI's location, or 0 if it has none
abbrev pub place_class : TrackedIndex → List ℕ → LocationTracker → Option Place → ℕ
place_class index settled h None = 0
place_class index settled h (Some p) = at_class index settled h p

-- the class of an operand's pair past an instruction: that of the register that the operand defines, or the old one if it defines
-- none
abbrev pub operand_class : (places : List ℕ) → Option ℕ → Option ℕ → Option ℕ
operand_class places None old = old
operand_class places (Some r) old = Some (slice_index places r)
