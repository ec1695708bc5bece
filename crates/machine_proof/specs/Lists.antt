-- Location lists that name only places that have the value, and the positions of addresses.
use Rattle.std.specs.Prelude.{◌≡◌, ℕ, ◌+◌, true}
use Rattle.rv64_instr.specs.declared.place.Place.{Place}
use Rattle.mir_func.specs.declared.exit.Exit.TheVariants.{Perhaps}
use Rattle.mir_func.specs.declared.item.Item.{Item}
use Rattle.mir_func.specs.declared.position.Pos.{Pos}
use Rattle.mir_func.specs.declared.variable.VarId.{VarId}
use Rattle.mir_func.specs.Exits.{exit_of}
use Rattle.mir_func.specs.Function.{FramedFunction}
use Rattle.mir_func.specs.Graph.{Here, Program, below, block_start}
use Rattle.sem_mir.specs.Align.{is_code}
use Rattle.sem_mir.specs.PreferredLocation.{SitsIn}
use Rattle.machine_steps_proof.specs.Laid.{fetched}

-- each place that the lists name for a part of a variable at an address has the part's value at each position of the address, on all
-- paths of the function with its frame. `points` relates addresses to positions
abbrev pub GiveSitting : Program → (points : (address : ℕ) → Pos → Type 0) → (lists : VarId → (address : ℕ) → Place → Type 0) → Type 0
GiveSitting g points lists = (v : VarId) (a : ℕ) (place : Place) → lists v a place → (p : Pos) → points a p → SitsIn g (block_start 0) v place p

-- the address is that of the instruction at the position: of its first word, or of the second word of a long branch
pub data IsPointAt (f : FramedFunction) (address : Pos → ℕ) (a : ℕ) (p : Pos) : Type 0 where
  at_code : (i : Item) → fetched f p ≡ Here i → is_code i.kind ≡ true → a ≡ address p → IsPointAt f address a p
  at_jump : (i : Item) (target : ℕ) → fetched f p ≡ Here i → exit_of i.kind ≡ Perhaps target → address (below p) ≡ address p + 8 → a ≡ address p + 4 →
      IsPointAt f address a p
