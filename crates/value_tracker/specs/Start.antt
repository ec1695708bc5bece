-- The locations at a block's start, and the constants of classes.
use Rattle.std.specs.Prelude.{
  ◌≡◌,
  ◌≢◌,
  ℕ,
  ◌<◌,
  ◌≤◌,
  ◌&&◌,
  ℤ,
  List,
  length,
  map,
  Contains,
  Option,
  Some,
  None,
  IsSome,
  Bool,
  false,
  cond,
  nat_eq,
  nat_lt,
  slice_get,
  slice_index,
  slice_index_or,
}
use Rattle.rv64_instr.specs.declared.place.Place.TheVariants.{Const}
use Rattle.rv64_instr.specs.Arithmetic.{word}
use Rattle.sem_mir.specs.PreferredLocation.{IsPlace}
use Rattle.value_proof.specs.sem_value_ids.Pullback.{InRegister, InSlot, OfNumber}
use Rattle.value_solver.specs.declared.tracked.Tracked.{Tracked}
use Rattle.value_solver.specs.declared.tracked.Tracked.TheVariants.{Register, Slot, Pair, Part, Number}
use Rattle.value_solver.specs.Entry.{thing}
use Rattle.value_proof.specs.Classes.{Classes}
use Rattle.value_tracker.specs.Things.{Settle}
use Rattle.value_tracker.specs.LocationTracker.{SLOTS_FROM, PLACES, slot_place}

-- the entity is the location with this index
abbrev pub stands_at : Tracked → ℕ → Bool
stands_at (Register r) p = nat_eq p r && nat_lt p SLOTS_FROM
stands_at (Slot n) p = nat_eq p (slot_place n) && nat_lt p PLACES
stands_at (Pair q) p = false
stands_at (Part v) p = false
stands_at (Number c) p = false

-- the classes of the registers and slots among the first i entities are at their location indices, and only tracked slots have a
-- class other than 0
pub record PlacedBelow (things : List Tracked) (settled : List ℕ) (i : ℕ) (places : List ℕ) : Type 0 where
  pub registers : (class : Classes) → Settle things settled class → (j r : ℕ) → j < i → slice_get things j ≡ Some (Register r) → r < SLOTS_FROM →
      slice_index places r ≡ class (InRegister r)
  pub slots : (class : Classes) → Settle things settled class → (j n : ℕ) → j < i → slice_get things j ≡ Some (Slot n) → slot_place n < PLACES →
      slice_index places (slot_place n) ≡ class (InSlot n)
  pub others : (p : ℕ) → SLOTS_FROM ≤ p → slice_index places p ≢ 0 → (n : ℕ) × (j : ℕ) × (slice_get things j ≡ Some (Slot n)) × (p ≡ slot_place n)

-- the constant of an entity: the signed form of a tracked number, and None for any other entity
abbrev pub IsConstantOf : Tracked → Option ℤ → Type 0
IsConstantOf (Number n) (Some c) = (word c ≡ n) × IsPlace (Const c)
IsConstantOf (Number n) None = n ≢ n
IsConstantOf x o = o ≡ None

-- the constant of class k after this class was assigned a constant, or none
abbrev pub constant_past : Option ℤ → (class k : ℕ) → Option ℤ → Option ℤ
constant_past None class k old = old
constant_past (Some c) class k old = cond (nat_eq k class) (Some c) old

-- the table has a constant for the class of each number among the first i entities, and each constant in it is that of a tracked
-- number with its class
pub record AreConstantsBelow (things : List Tracked) (i : ℕ) (class : Classes) (constants : List (Option ℤ)) : Type 0 where
  pub each : (j n : ℕ) → j < i → slice_get things j ≡ Some (Number n) → IsSome (slice_index_or constants (class (OfNumber n)) None)
  pub only : (k : ℕ) (c : ℤ) → slice_index_or constants k None ≡ Some c →
      IsPlace (Const c) × ((j : ℕ) × (slice_get things j ≡ Some (Number (word c)))) × (class (OfNumber (word c)) ≡ k)

-- the same for all entities of the list
abbrev pub AreConstants : List Tracked → Classes → List (Option ℤ) → Type 0
AreConstants things class constants = AreConstantsBelow things (length things) class constants

-- the same table by the classes between two items
pub record ConstantsNow (things : List Tracked) (class : Classes) (constants : List (Option ℤ)) : Type 0 where
  pub each : (n : ℕ) → Contains (map thing things) (OfNumber n) → IsSome (slice_index_or constants (class (OfNumber n)) None)
  pub only : (k : ℕ) (c : ℤ) → slice_index_or constants k None ≡ Some c →
      IsPlace (Const c) × Contains (map thing things) (OfNumber (word c)) × (class (OfNumber (word c)) ≡ k)
