-- The location required for a part of a variable, computed by classes.
use Rattle.std.specs.Prelude.{◌≡◌, ℕ, zero, suc, List, [], ◌++◌, Contains, Option, Some, None}
use Rattle.rv64_instr.specs.declared.place.Place.{Place}
use Rattle.rv64_instr.specs.declared.place.Place.TheVariants.{Register, Slot, Const}
use Rattle.rv64_instr.specs.Arithmetic.{word}
use Rattle.mir_func.specs.declared.position.Pos.{Pos}
use Rattle.mir_func.specs.declared.variable.VarId.{VarId}
use Rattle.mir_func.specs.declared.item.Item.{Item}
use Rattle.mir_func.specs.Graph.{Program, Fetch, Here, EndOfBlock, Outside}
use Rattle.sem_mir.specs.PreferredLocation.{IsPlace, IsPreferredTo, IsPreferredLocation, NoneIsPreferred}
use Rattle.sem_value_ids.specs.Pullback.{Tracked, InRegister, InSlot, OfVariable, OfNumber}
use Rattle.value_proof.specs.Classes.{Classes, IsKnown, HaveOneClass, AreClasses, KnowsItem, pairs_of}

-- the tracked entity of a location. A constant's is its number modulo 2^64
abbrev pub thing_at : Place → Tracked
thing_at (Register r) = InRegister r
thing_at (Slot n) = InSlot n
thing_at (Const c) = OfNumber (word c)

-- the location may be named and has the class of the part of a variable, which isn't 0
pub record HasItsClass (things : List Tracked) (class : Classes) (v : VarId) (place : Place) : Type 0 where
  pub named : IsPlace place
  pub known : IsKnown things (thing_at place)
  pub one : HaveOneClass class (OfVariable v) (thing_at place)

-- the first location by `IsPreferredTo` that has the part's class, or None if no location has it
abbrev pub IsFirstByClass : (things : List Tracked) → Classes → VarId → Option Place → Type 0
IsFirstByClass things class v None = (place : Place) → HasItsClass things class v place → ⊥
IsFirstByClass things class v (Some place) = HasItsClass things class v place
    × ((other : Place) → IsPreferredTo other place → HasItsClass things class v other → ⊥)

-- the location required for the part at p, or None if none is required
abbrev pub IsWantedOrNone : Program → Pos → VarId → Pos → Option Place → Type 0
IsWantedOrNone g start v p None = NoneIsPreferred g start v p
IsWantedOrNone g start v p (Some place) = IsPreferredLocation g start v p place

-- the pairs that what is at a position defines
abbrev pub pairs_at : Fetch → List Tracked
pairs_at (Here item) = pairs_of item.kind
pairs_at (EndOfBlock k n) = []
pairs_at Outside = []

-- what is known before the item at an index of a block: these entities, and the pairs that the items above it in the block define
abbrev pub known_before : Program → List Tracked → (b i : ℕ) → List Tracked
known_before g things b zero = things
known_before g things b (suc i) = pairs_at (g.fetch (record { block = b; item = i })) ++ known_before g things b i

-- the list contains all entities that items of the function copy from, all parts of variables that debug values assign, and the
-- constant 0, which is x0's value
pub record AreThingsOf (g : Program) (things : List Tracked) : Type 0 where
  pub zero : Contains things (OfNumber 0)
  pub items : (p : Pos) (item : Item) → g.fetch p ≡ Here item → KnowsItem things g.resolve item.kind

-- the same, but for pairs that items above them define in their block
pub record AreEnoughFor (g : Program) (things : List Tracked) : Type 0 where
  pub zero : Contains things (OfNumber 0)
  pub items : (p : Pos) (item : Item) → g.fetch p ≡ Here item → KnowsItem (known_before g things p.block p.item) g.resolve item.kind

-- The first location by classes is the required one, and if there is none, none is required.
abbrev pub FirstByClassIsWanted : Type 0
FirstByClassIsWanted = (g : Program) (start p : Pos) (things : List Tracked) (class : Classes) → AreEnoughFor g things → AreClasses g start p things class →
    (v : VarId) → Contains things (OfVariable v) → (place : Option Place) → IsFirstByClass things class v place → IsWantedOrNone g start v p place

-- No location is required for a part of a variable outside the list: no debug value assigns it.
abbrev pub UnmarkedIsNowhere : Type 0
UnmarkedIsNowhere = (g : Program) (start p : Pos) (things : List Tracked) → AreEnoughFor g things →
    (v : VarId) → (Contains things (OfVariable v) → ⊥) → NoneIsPreferred g start v p
