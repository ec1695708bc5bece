-- The places that are wrong at the starts of a function's blocks, as sets.
use Rattle.std.specs.Prelude.{◌≡◌, ◌↔◌, ◌⊎◌, ℕ, ◌+◌, ◌<◌, List, [], ◌∷◌, map, length, slice_get, slice_index_or, Contains, Bool, true, false}
use Rattle.rv64_instr.specs.declared.place.Place.{Place}
use Rattle.mir_func.specs.declared.block.Block.{Block}
use Rattle.mir_func.specs.declared.position.Pos.{Pos}
use Rattle.mir_func.specs.Function.{Function}
use Rattle.mir_func.specs.Graph.{block_start, from_block}
use Rattle.mir_func.specs.Sound.{AllItems, SlotsIn, ids_of, AreApart}
use Rattle.pass_liveness.specs.Sets.{has}
use Rattle.pass_liveness.specs.Liveness.{has_at_start, items_at}
use Rattle.pass_liveness.specs.Solving.{gap_of}
use Rattle.dce_analysis.specs.dce_rule.Dead.{Places, Ends}
use Rattle.dce_analysis.specs.dce_rule.Wrong.{IsWrongAt}
use Rattle.dce_analysis.specs.Judge.{verdicts}
use Rattle.dce_stale.specs.Flow.{wrong_at, IsHanded, IsHandedDown}

-- for each item of the function whether it is dead, if these places are needed at the ends of its blocks
abbrev pub AreVerdicts : Ends → Function → List (List Bool) → Type 0
AreVerdicts ends f dead = dead ≡ map (λ b. verdicts b.items (ends b.id)) f.blocks

-- an update of the sets with what is wrong at the starts of some blocks; `grown` is whether any set grew
pub record Handed (slots ids : List ℕ) (old new : List (List ℕ)) (From : ℕ → Place → Type 0) (grown : Bool) : Type 0 where
  pub long : length new ≡ length old
  pub fuller : grown ≡ true → gap_of new < gap_of old
  pub same : grown ≡ false → new ≡ old
  pub found : (n : ℕ) (x : Place) → has_at_start slots ids new n x ≡ true → (has_at_start slots ids old n x ≡ true) ⊎ From n x
  pub all : grown ≡ false → (n : ℕ) (x : Place) → Contains ids n → From n x → has_at_start slots ids old n x ≡ true

module _ (slots ids : List ℕ) (f : Function) (dead : List (List Bool)) where
  -- what the block of an index propagates to its successors, by what is wrong at its start according to the sets
  abbrev pub HandsOn : (sets : List (List ℕ)) → (block : ℕ) → (n : ℕ) → Place → Type 0
  HandsOn sets b n x =
      IsHanded (items_at f.blocks b) (slice_index_or dead b []) (has slots (slice_index_or sets b [])) (length (items_at f.blocks b)) n x ⊎
      IsHandedDown (items_at f.blocks b) (slice_index_or dead b []) (has slots (slice_index_or sets b [])) (slice_get (ids_of f.blocks) (b + 1)) n x

  -- the sets have all that the block propagates
  abbrev pub IsClosed : (sets : List (List ℕ)) → (block : ℕ) → Type 0
  IsClosed sets b = (n : ℕ) (x : Place) → Contains ids n → HandsOn sets b n x → has_at_start slots ids sets n x ≡ true

  -- all members of the sets are wrong (soundness)
  abbrev pub AreFound : (sets : List (List ℕ)) → Type 0
  AreFound sets = (ends : Ends) → AreVerdicts ends f dead → (n : ℕ) (x : Place) → has_at_start slots ids sets n x ≡ true → IsWrongAt ends f x (block_start n)

  -- the invariant of the sets while they are computed
  pub record IsState (sets : List (List ℕ)) : Type 0 where
    pub known : AllItems (λ i. SlotsIn slots i.kind) f.blocks
    pub names : ids ≡ ids_of f.blocks
    pub apart : AreApart ids
    pub long : length sets ≡ length f.blocks
    pub found : AreFound sets

-- the wrong places at each index of a block, by those at the starts of blocks
abbrev pub wrong_in : (ends : Ends) → List Block → (starts : ℕ → Places) → (index : ℕ) → Places
wrong_in ends [] starts k = λ x. false
wrong_in ends (b ∷ bs) starts k = wrong_at b.items (verdicts b.items (ends b.id)) k (starts b.id)

-- the wrong places at a position of the function, by those at the starts of blocks
abbrev pub wrong_of : Ends → Function → (starts : ℕ → Places) → Pos → Places
wrong_of ends f starts p = wrong_in ends (from_block f.blocks p.block) starts p.item

-- the sets of the wrong places at the starts of a function's blocks, with its slots and block numbers
pub record StaleSets : Type 0 where
  pub slots : List ℕ
  pub ids : List ℕ
  pub starts : List (List ℕ)

-- the wrong places at the start of the block with this number
abbrev pub starts_of : StaleSets → ℕ → Places
starts_of w n = has_at_start w.slots w.ids w.starts n

-- the sets determine exactly the wrong places of the function, if these items are dead
pub record AreStaleSets (f : Function) (dead : List (List Bool)) (w : StaleSets) : Type 0 where
  pub slots : w.slots ≡ f.slots
  pub ids : w.ids ≡ ids_of f.blocks
  pub apart : AreApart w.ids
  pub long : length w.starts ≡ length f.blocks
  pub exact : (ends : Ends) → AreVerdicts ends f dead → (p : Pos) (x : Place) → (wrong_of ends f (starts_of w) p x ≡ true) ↔ IsWrongAt ends f x p
