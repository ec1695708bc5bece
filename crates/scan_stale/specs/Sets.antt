-- The registers that are stale at the starts of a function's blocks, as sets.
use Rattle.std.specs.Prelude.{◌≡◌, ◌↔◌, ◌⊎◌, ℕ, ◌+◌, List, [], ◌∷◌, length, slice_get, slice_index_or, Option, Contains, true, false, ◌&&◌, ◌||◌, nat_eq}
use Rattle.rv64_instr.specs.declared.place.Place.{Place}
use Rattle.mir_func.specs.declared.block.Block.{Block}
use Rattle.mir_func.specs.declared.debug_substitution.OperandPair.{OperandPair}
use Rattle.mir_func.specs.declared.position.Pos.{Pos}
use Rattle.mir_func.specs.Function.{Function}
use Rattle.mir_func.specs.Graph.{block_start, from_block, program_of}
use Rattle.mir_func.specs.Sound.{ids_of, AreApart}
use Rattle.sem_mir.specs.InitialState.{first_of}
use Rattle.pass_liveness.specs.Sets.{has}
use Rattle.pass_liveness.specs.Liveness.{has_at_start, items_at}
use Rattle.scan_stale.specs.Flow.{Places, is_unset, stale_at, IsHanded, IsHandedDown, IsStale}

-- the register is stale at this position of the function, whatever its pairs resolve to
abbrev pub IsStaleIn : Function → (given : ℕ → Option ℕ) → Place → Pos → Type 0
IsStaleIn f given x p =
    (resolve : OperandPair → Option OperandPair) → IsStale (program_of false f.blocks resolve) (block_start (first_of f.blocks)) given x p

-- the registers that are stale where the block of an index starts: if it is the first one, those that get a place too
abbrev pub start_in : (given : ℕ → Option ℕ) → (block : ℕ) → Places → Places
start_in given b found x = (nat_eq b 0 && is_unset given x) || found x

module _ (slots ids : List ℕ) (f : Function) (given : ℕ → Option ℕ) where
  -- what is stale at the start of the block of an index, according to the sets
  abbrev pub started : (sets : List (List ℕ)) → (block : ℕ) → Places
  started sets b = start_in given b (has slots (slice_index_or sets b []))

  -- what the block of an index propagates to its successors, by what is stale at its start
  abbrev pub HandsOn : (sets : List (List ℕ)) → (block : ℕ) → (n : ℕ) → Place → Type 0
  HandsOn sets b n x =
      IsHanded given (items_at f.blocks b) (started sets b) (length (items_at f.blocks b)) n x ⊎
      IsHandedDown given (items_at f.blocks b) (started sets b) (slice_get (ids_of f.blocks) (b + 1)) n x

  -- the sets have all that the block propagates
  abbrev pub IsClosed : (sets : List (List ℕ)) → (block : ℕ) → Type 0
  IsClosed sets b = (n : ℕ) (x : Place) → Contains ids n → HandsOn sets b n x → has_at_start slots ids sets n x ≡ true

  -- all members of the sets are stale (soundness)
  abbrev pub AreFound : (sets : List (List ℕ)) → Type 0
  AreFound sets = (n : ℕ) (x : Place) → has_at_start slots ids sets n x ≡ true → IsStaleIn f given x (block_start n)

  -- the invariant of the sets while they are computed
  pub record IsState (sets : List (List ℕ)) : Type 0 where
    pub names : ids ≡ ids_of f.blocks
    pub apart : AreApart ids
    pub long : length sets ≡ length f.blocks
    pub found : AreFound sets

-- the stale registers at each index of a block, by those at the starts of blocks
abbrev pub stale_in : (given : ℕ → Option ℕ) → List Block → (starts : ℕ → Places) → (index : ℕ) → Places
stale_in given [] starts k = λ x. false
stale_in given (b ∷ bs) starts k = stale_at given b.items k (starts b.id)

-- the stale registers at a position of the function, by those at the starts of blocks
abbrev pub stale_of : (given : ℕ → Option ℕ) → Function → (starts : ℕ → Places) → Pos → Places
stale_of given f starts p = stale_in given (from_block f.blocks p.block) starts p.item

-- the sets of the stale registers at the starts of a function's blocks, with its slots and block numbers
pub record StaleSets : Type 0 where
  pub slots : List ℕ
  pub ids : List ℕ
  pub starts : List (List ℕ)

-- the stale registers at the start of the block with this number
abbrev pub starts_of : Function → (given : ℕ → Option ℕ) → StaleSets → ℕ → Places
starts_of f given w n x = (nat_eq n (first_of f.blocks) && is_unset given x) || has_at_start w.slots w.ids w.starts n x

-- the sets determine exactly the stale registers of the function
pub record AreStaleSets (f : Function) (given : ℕ → Option ℕ) (w : StaleSets) : Type 0 where
  pub ids : w.ids ≡ ids_of f.blocks
  pub long : length w.starts ≡ length f.blocks
  pub exact : (p : Pos) (x : Place) (resolve : OperandPair → Option OperandPair) → (stale_of given f (starts_of f given w) p x ≡ true) ↔
      IsStale (program_of false f.blocks resolve) (block_start (first_of f.blocks)) given x p
