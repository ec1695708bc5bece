-- What a pass declares about its effect on debug items.
use Rattle.std.specs.Prelude.{◌≡◌, ◌⊎◌, ◌↔◌, ℕ, suc, List, Option, Some, None, filter_map, Contains}
use Rattle.sem_simulation.specs.rv64_instr.declared.place.Place.{Place}
use Rattle.sem_simulation.specs.rv64_instr.Row.{Row, Moves, Jumps}
use Rattle.sem_simulation.specs.mir_func.declared.position.Pos.{Pos}
use Rattle.sem_simulation.specs.mir_func.declared.position.Origin.{Origin}
use Rattle.sem_simulation.specs.mir_func.declared.position.Origin.TheVariants.{Before}
use Rattle.sem_simulation.specs.mir_func.declared.location.Loc.{Loc}
use Rattle.sem_simulation.specs.mir_func.declared.location.Loc.TheVariants.{Absent}
use Rattle.sem_simulation.specs.mir_func.declared.item.Item.{Item}
use Rattle.sem_simulation.specs.mir_func.declared.item.ItemKind.{ItemKind}
use Rattle.sem_simulation.specs.mir_func.declared.debug_substitution.OperandPair.{OperandPair}
use Rattle.sem_simulation.specs.mir_func.declared.debug_substitution.DebugSubstitution.{DebugSubstitution}
use Rattle.sem_simulation.specs.mir_func.Function.{Function}
use Rattle.sem_simulation.specs.mir_func.Sound.{items_of, number_of}
use Rattle.sem_simulation.specs.mir_func.Graph.{Here, fetch_in, from_block}
use Rattle.sem_simulation.specs.mir_func.Positions.{position_of}
use Rattle.pass_trait.specs.declared.loss.Reason.{Reason}
use Rattle.pass_trait.specs.declared.loss.Lost.TheVariants as lost
use Rattle.pass_trait.specs.declared.loss.Loss.{Loss}
use Rattle.pass_trait.specs.Change.{Change}

-- What a pass declares about each change that it makes; every pass defines its own. A position is that of an item in the
-- function before the pass: its block's number and its index in the block. The losses are exactly those that `loses` and
-- `leaves` list: a pass that declares more losses than it has, or fewer, breaks the debug rule
pub record Rule : Type 1 where
  -- what is lost of the item at a position, and why
  pub loses : Change → (place : Pos) → Loss → Type 0
  -- which registers aren't spilled, and why
  pub leaves : Change → (r : ℕ) → Reason → Type 0
  -- which registers are spilled, and into which slots
  pub spills : Change → (r slot : ℕ) → Type 0
  -- which registers are renamed, and to which register
  pub renames : Change → (r now : ℕ) → Type 0
  -- the debug instruction number that code at a position gets, even if the code is removed later, or that the DBG_PHI
  -- added before a debug value there gets
  pub numbers : Change → (place : Pos) → (number : ℕ) → Type 0
  -- the location that the DBG_PHI names which replaces a removed copy at a position
  pub salvages : Change → (place : Pos) → Place → Type 0
  -- the debug value substitutions that are added, in order
  pub substitutes : Change → List DebugSubstitution → Type 0
  -- the kills (undef debug values and DBG_PHIs) that are added at the start of a block, in order
  pub kills : Change → (block : ℕ) → List Item → Type 0

-- a register copy whose destination isn't x0; a copy to x0 has no effect
abbrev pub IsCopy : Row → Type 0
IsCopy (Moves (suc rd) rs) = Unit {0}
IsCopy _ = ⊥

-- an unconditional branch (`PseudoBR`)
abbrev pub IsJump : Row → Type 0
IsJump (Jumps target) = Unit {0}
IsJump _ = ⊥

-- the loss of a debug instruction number
abbrev pub number_lost : ℕ → Reason → Loss
number_lost k why = record { what = lost.Number k; reason = why }

-- the loss of a debug value, identified by the position of its origin
abbrev pub mark_lost : Origin → Reason → Loss
mark_lost o why = record { what = lost.Mark (position_of o); reason = why }

-- a register that was to be spilled and wasn't
abbrev pub register_lost : ℕ → Reason → Loss
register_lost r why = record { what = lost.Register r; reason = why }

-- an item of this kind, with its origin and debug location
abbrev pub item : ItemKind → Origin → Loc → Item
item k o l = record { kind = k; origin = o; loc = l }

-- an added item, with no debug location, whose origin is right before the position of this origin
abbrev pub item_before : ItemKind → Origin → Item
item_before k o = record { kind = k; origin = Before (position_of o); loc = Absent }

-- the pair of this number and operand 0
abbrev pub first_operand : ℕ → OperandPair
first_operand k = record { number = k; operand = 0 }

-- the function's item at this position is this one
abbrev pub StandsAt : Function → (place : Pos) → Item → Type 0
StandsAt f p i = fetch_in (from_block f.blocks p.block) p.item ≡ Here i

-- the numbers of code and DBG_PHIs, in order
abbrev pub numbers_on : Function → List ℕ
numbers_on f = filter_map (λ i. number_of i.kind) (items_of f.blocks)

-- the debug instruction number that the code at a position has, or, if it has none, one that the pass assigns there
abbrev pub Has : Rule → Change → (at : Pos) → Option ℕ → ℕ → Type 0
Has rule c at (Some j) k = j ≡ k
Has rule c at None k = rule.numbers c at k

-- a register's name after the pass: the same register, or the one to which the pass renames it
abbrev pub IsNow : Rule → Change → (r now : ℕ) → Type 0
IsNow rule c r now = (r ≡ now) ⊎ rule.renames c r now

-- the list's members are exactly the losses of these numbers, for this reason
abbrev pub AreNumbersLost : List ℕ → Reason → List Loss → Type 0
AreNumbersLost numbers why losses = (l : Loss) → Contains losses l ↔ ((k : ℕ) × Contains numbers k × (l ≡ number_lost k why))
