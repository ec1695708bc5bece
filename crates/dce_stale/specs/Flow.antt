-- Which places are stale ("wrong") along the items of a block, from its start downwards, given those that are at the
-- start.
use Rattle.std.specs.Prelude.{◌≡◌, ℕ, zero, suc, ◌<◌, List, length, slice_get, slice_index_or, Option, Some, None, Bool, true, false, not, ◌&&◌, ◌||◌}
use Rattle.rv64_instr.specs.declared.place.Place.{Place}
use Rattle.rv64_instr.specs.Row.{row_of}
use Rattle.rv64_instr.specs.LocationEffects.{defines_of}
use Rattle.mir_func.specs.declared.exit.Exit.{Exit}
use Rattle.mir_func.specs.declared.exit.Exit.TheVariants.{Onward, Perhaps, Always, Final}
use Rattle.mir_func.specs.declared.item.Item.{Item}
use Rattle.mir_func.specs.declared.item.ItemKind.{ItemKind}
use Rattle.mir_func.specs.declared.item.ItemKind.TheVariants.{Code, Mark, Phi}
use Rattle.mir_func.specs.Exits.{exit_of}
use Rattle.mir_func.proofs.Ways.{IsOut}
use Rattle.dce_analysis.specs.dce_rule.Dead.{Places}

-- the places that are wrong after an item: dead code makes wrong what it sets, and other code makes right what it sets
abbrev pub wrong_past : ItemKind → (dead : Bool) → (before : Places) → Places
wrong_past (Code i k) true before = λ x. defines_of (row_of i) x || before x
wrong_past (Code i k) false before = λ x. before x && not (defines_of (row_of i) x)
wrong_past (Mark v m) dead before = before
wrong_past (Phi p k) dead before = before

-- control may go on to the next item
abbrev pub goes_on : Exit → Bool
goes_on Onward = true
goes_on (Perhaps n) = true
goes_on (Always n) = false
goes_on Final = false

-- the places that are wrong before the next item
abbrev pub wrong_next : ItemKind → (dead : Bool) → (before : Places) → Places
wrong_next kind dead before = λ x. goes_on (exit_of kind) && wrong_past kind dead before x

-- the same after the item at some index, if there is one
abbrev pub wrong_over : Option Item → (dead : Bool) → (before : Places) → Places
wrong_over (Some i) dead before = wrong_next i.kind dead before
wrong_over None dead before = λ x. false

module _ (items : List Item) (dead : List Bool) where
  -- the places that are wrong before the item of an index, or at the block's end
  abbrev pub wrong_at : (index : ℕ) → (start : Places) → Places
  wrong_at zero start = start
  wrong_at (suc k) start = wrong_over (slice_get items k) (slice_index_or dead k false) (wrong_at k start)

  -- a place that is wrong after one of the first items, which has block n as branch target, is so at the start of block n
  pub record IsHanded (start : Places) (count : ℕ) (n : ℕ) (x : Place) : Type 0 where
    pub index : ℕ
    pub within : index < count
    pub item : Item
    pub stands : slice_get items index ≡ Some item
    pub out : IsOut (exit_of item.kind) n
    pub wrong : wrong_past item.kind (slice_index_or dead index false) (wrong_at index start) x ≡ true

  -- a place that is wrong at the block's end is so at the start of the next block
  abbrev pub IsHandedDown : (start : Places) → (next : Option ℕ) → (n : ℕ) → Place → Type 0
  IsHandedDown start next n x = (next ≡ Some n) × (wrong_at (length items) start x ≡ true)
