-- Which registers are stale along the items of a block, from its start downwards, given those that are at the start. A register is stale where its place
-- may have another value than the register's, or none.
use Rattle.std.specs.Prelude.{◌≡◌, ◌⊎◌, ℕ, zero, suc, ◌<◌, List, length, slice_get, Option, Some, None, is_some, Bool, true, false, not, ◌&&◌, ◌||◌, nat_eq}
use Rattle.std.specs.List.{list_any}
use Rattle.rv64_instr.specs.declared.place.Place.{Place}
use Rattle.rv64_instr.specs.declared.place.Place.TheVariants.{Register, Slot, Const}
use Rattle.rv64_instr.specs.DefsAndUses.{sets}
use Rattle.rv64_instr.specs.Row.{row_of}
use Rattle.rv64_instr.specs.LocationEffects.{defines_of}
use Rattle.mir_func.specs.declared.exit.Exit.{Exit}
use Rattle.mir_func.specs.declared.exit.Exit.TheVariants.{Onward, Perhaps, Always, Final}
use Rattle.mir_func.specs.declared.item.Item.{Item}
use Rattle.mir_func.specs.declared.item.ItemKind.{ItemKind}
use Rattle.mir_func.specs.declared.item.ItemKind.TheVariants.{Code, Mark, Phi}
use Rattle.mir_func.specs.declared.position.Pos.{Pos}
use Rattle.mir_func.specs.Exits.{exit_of}
use Rattle.mir_func.specs.Graph.{Fetch, Here, EndOfBlock, Outside, Program, Edge}
use Rattle.mir_func.proofs.Ways.{IsOut}
use Rattle.sem_mir.specs.Live.{Defines}
use Rattle.dce_stale.specs.pass_trait.Causes.{Comes}
use Rattle.scan_choice.specs.scan_allocation.Coloring.{now}

-- a set of places, as a test
abbrev pub Places : Type 0
Places = Place → Bool

-- some of these registers has the place of this one, which is none of them
abbrev pub takes_place : (given : ℕ → Option ℕ) → List ℕ → ℕ → Bool
takes_place given rs r = list_any (λ s. nat_eq (now given s) (now given r)) rs && not (list_any (nat_eq r) rs)

-- the registers whose place some of these take
abbrev pub taken_by : (given : ℕ → Option ℕ) → List ℕ → Places
taken_by given rs (Register r) = takes_place given rs r
taken_by given rs (Slot n) = false
taken_by given rs (Const c) = false

-- the registers whose place an item takes: it is code that sets another register, whose value is now in the same place
abbrev pub sets_other : (given : ℕ → Option ℕ) → ItemKind → Places
sets_other given (Code i k) x = taken_by given (sets (row_of i)) x
sets_other given (Mark v m) x = false
sets_other given (Phi p k) x = false

-- the item is code that sets the place
abbrev pub sets_place : ItemKind → Places
sets_place (Code i k) x = defines_of (row_of i) x
sets_place (Mark v m) x = false
sets_place (Phi p k) x = false

-- a register that gets a place is stale where the function starts
abbrev pub is_unset : (given : ℕ → Option ℕ) → Places
is_unset given (Register r) = is_some (given r)
is_unset given (Slot n) = false
is_unset given (Const c) = false

-- the registers that are stale after an item
abbrev pub stale_past : (given : ℕ → Option ℕ) → ItemKind → (before : Places) → Places
stale_past given kind before x = sets_other given kind x || (before x && not (sets_place kind x))

-- control may go on to the next item
abbrev pub goes_on : Exit → Bool
goes_on Onward = true
goes_on (Perhaps n) = true
goes_on (Always n) = false
goes_on Final = false

-- the registers that are stale before the next item
abbrev pub stale_next : (given : ℕ → Option ℕ) → ItemKind → (before : Places) → Places
stale_next given kind before x = goes_on (exit_of kind) && stale_past given kind before x

-- the same after the item at some index, if there is one
abbrev pub stale_over : (given : ℕ → Option ℕ) → Option Item → (before : Places) → Places
stale_over given (Some i) before = stale_next given i.kind before
stale_over given None before = λ x. false

module _ (given : ℕ → Option ℕ) (items : List Item) where
  -- the registers that are stale before the item of an index, or at the block's end
  abbrev pub stale_at : (index : ℕ) → (start : Places) → Places
  stale_at zero start = start
  stale_at (suc k) start = stale_over given (slice_get items k) (stale_at k start)

  -- a register that is stale after one of the first items, which has block n as branch target, is so at the start of block n
  pub record IsHanded (start : Places) (count : ℕ) (n : ℕ) (x : Place) : Type 0 where
    pub index : ℕ
    pub within : index < count
    pub item : Item
    pub stands : slice_get items index ≡ Some item
    pub out : IsOut (exit_of item.kind) n
    pub stale : stale_past given item.kind (stale_at index start) x ≡ true

  -- a register that is stale at the block's end is so at the start of the next block
  abbrev pub IsHandedDown : (start : Places) → (next : Option ℕ) → (n : ℕ) → Place → Type 0
  IsHandedDown start next n x = (next ≡ Some n) × (stale_at (length items) start x ≡ true)

-- ---- paths

-- what is at a position is code that sets another register, whose value is now in the same place
abbrev pub takes_at : (given : ℕ → Option ℕ) → Fetch → Places
takes_at given (Here i) x = sets_other given i.kind x
takes_at given (EndOfBlock k n) x = false
takes_at given Outside x = false

module _ (g : Program) (start : Pos) (given : ℕ → Option ℕ) (x : Place) where
  -- a register is stale at the start, if it gets a place; and right after code that takes its place
  abbrev pub BeginsStale : Pos → Type 0
  BeginsStale q = ((is_unset given x ≡ true) × (q ≡ start)) ⊎ ((p : Pos) × (takes_at given (g.fetch p) x ≡ true) × Edge g p q)

  -- some path leads here from there without a definition of the register
  abbrev pub IsStale : Pos → Type 0
  IsStale at = Comes g BeginsStale (λ p. Defines (g.fetch p) x) at
