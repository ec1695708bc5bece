-- Points of a function, and whether a place holds a value there.
use Rattle.std.specs.Prelude.{◌≡◌, ◌≢◌, ℕ, ◌%◌, List, Option, Some, None, true, cond, nat_eq, nat_lt, slice_index}
use Rattle.rv64_instr.specs.declared.place.Place.{Place}
use Rattle.rv64_instr.specs.declared.place.Place.TheVariants.{Register, Slot, Const}
use Rattle.rv64_instr.specs.Arithmetic.{word}
use Rattle.mir_func.specs.declared.block.Block.{Block}
use Rattle.mir_func.specs.declared.position.Pos.{Pos}
use Rattle.mir_func.specs.Graph.{Program, block_start}
use Rattle.mir_func.specs.Successors.{pos_in}
use Rattle.sem_mir.specs.ValueId.{Token, Tokens, Sits, place_token}
use Rattle.sem_mir.specs.PreferredLocation.{IsPlace}
use Rattle.value_tracker.specs.declared.location_tracker.LocationTracker.{LocationTracker}
use Rattle.value_tracker.specs.declared.index.TrackedIndex.{TrackedIndex}
use Rattle.value_tracker.specs.Things.{Indexes}
use Rattle.value_tracker.specs.LocationTracker.{number_class, slot_place}
use Rattle.location_ranges.specs.declared.transfer_tracker.TransferTracker.{TransferTracker}
use Rattle.location_ranges.specs.declared.values.Values.{Values}
use Rattle.location_ranges.specs.Stands.{Stands}
use Rattle.value_queries.specs.declared.point.QueryPoint.{QueryPoint}

-- the position of a point
abbrev pub position : QueryPoint → Pos
position p = pos_in p.stand.block p.stand.item

-- a valid point: its index is that of the tracked entities, and its state is the walk's before its item
pub record IsPointOf (blocks : List Block) (v : Values) (p : QueryPoint) : Type 0 where
  pub index : Indexes v.things.now p.index
  pub stands : Stands blocks v p.index p.stand

-- a place holds a value at a position: a list may name the place, some path leads to the position, and on every path to it both
-- have a token, and the same one
abbrev pub SitsAt : Program → (Tokens → Option Token) → Place → Pos → Type 0
SitsAt g x place p = IsPlace place × Sits g (block_start 0) x (place_token (Some place)) p

-- the class of a place: a register of x1 to x31, a slot at a multiple of 8, or a constant, and 0 for any other
abbrev pub named_class : TrackedIndex → List ℕ → LocationTracker → Place → ℕ
named_class index settled h (Register r) = cond (nat_eq r 0) 0 (cond (nat_lt r 32) (slice_index h.places.items r) 0)
named_class index settled h (Slot n) = cond (nat_eq (n % 8) 0) (slice_index h.places.items (slot_place n)) 0
named_class index settled h (Const c) = number_class index settled (word c)

-- the place holds the value of this class: some path leads to the item, and the class isn't 0 and is that of the place
pub record SitsByClass (s : TransferTracker) (index : TrackedIndex) (class : ℕ) (place : Place) : Type 0 where
  pub reached : s.reached ≡ true
  pub some : class ≢ 0
  pub one : class ≡ named_class index s.settled.items s.held place

-- the number of a constant, modulo 2^64, and None for any other place
abbrev pub place_number : Place → Option ℕ
place_number (Register r) = None
place_number (Slot n) = None
place_number (Const c) = Some (word c)

-- a constant fits in 64 bits
abbrev pub IsFit : Place → Type 0
IsFit (Register r) = Unit {0}
IsFit (Slot n) = Unit {0}
IsFit (Const c) = IsPlace (Const c)
