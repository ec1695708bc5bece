-- What the predecessors of a block propagate into it, by a table of entries.
use Rattle.std.specs.Prelude.{◌≡◌, ◌≢◌, ◌⊎◌, ℕ, zero, suc, ◌<◌, List, [], ◌∷◌, ◌++◌, length, map, slice_get, slice_index_or, slice_set, Bool, true, false}
use Rattle.std.specs.Prelude.{cond, Option, None, Some, Contains}
use Rattle.dataflow.specs.Graph.{ways_at}
use Rattle.value_solver.specs.declared.entry.BlockEntry.{BlockEntry}
use Rattle.value_solver.specs.declared.flow.Flow.{Flow}
use Rattle.value_solver.specs.Joining.{Hand, AreWithin, IsKnown, IsJoin}

-- what a block with this entry propagates to its successors: nothing while no path is known to lead to it
abbrev pub hand_by : Option BlockEntry → Option Flow → List Hand
hand_by (Some e) (Some f) = cond e.reached (record { entry = e; changes = f.changes } ∷ []) []
hand_by (Some e) None = []
hand_by None f = []

-- what the block with this index propagates
abbrev pub hand_of : List Flow → List BlockEntry → (block : ℕ) → List Hand
hand_of flows entries p = hand_by (slice_get entries p) (slice_get flows p)

-- what these predecessors propagate, in order
abbrev pub hands_of : List Flow → List BlockEntry → List ℕ → List Hand
hands_of flows entries [] = []
hands_of flows entries (p ∷ ps) = hand_of flows entries p ++ hands_of flows entries ps

-- the start entry is propagated into the first block only
abbrev pub first_hand : BlockEntry → (block : ℕ) → List Hand
first_hand start zero = record { entry = start; changes = [] } ∷ []
first_hand start (suc b) = []

-- all that is propagated into a block: the start entry, if it is the first block, and what its predecessors propagate
abbrev pub handed : BlockEntry → List Flow → List BlockEntry → (block : ℕ) → List ℕ → List Hand
handed start flows entries b ps = first_hand start b ++ hands_of flows entries ps

-- the successors of each block, by the flows
abbrev pub ways_of : List Flow → List (List ℕ)
ways_of flows = map (λ f. f.ways) flows

-- the flows are over this many tracked entities, and all successors exist
abbrev pub AreSoundFlows : (things : ℕ) → List Flow → Type 0
AreSoundFlows n flows = (b : ℕ) (f : Flow) → slice_get flows b ≡ Some f → AreWithin n f.changes × ((c : ℕ) → Contains f.ways c → c < length flows)

-- an entry over this many tracked entities: a known one, or the empty one of an unreached block
abbrev pub IsShaped : (things : ℕ) → BlockEntry → Type 0
IsShaped n e = ((e.reached ≡ true) × IsKnown n e) ⊎ ((e.reached ≡ false) × (e.classes ≡ []) × (e.given ≡ []))

-- a visit of a block computes the join of what is propagated into it. If the join is reached and isn't yet the block's entry it
-- becomes the entry, and the flag reports the change
abbrev pub Visited : BlockEntry → List Flow → List (List ℕ) → (old new : List BlockEntry) → (block : ℕ) → (changed : Bool) → Type 0
Visited start flows preds old new b true = (e : BlockEntry) × (e.reached ≡ true) × (slice_index_or old b e ≢ e) × (new ≡ slice_set old b e)
    × IsJoin (length start.classes) (handed start flows old b (ways_at preds b)) e
Visited start flows preds old new b false = (new ≡ old)
    × ((e : BlockEntry) × IsJoin (length start.classes) (handed start flows old b (ways_at preds b)) e × ((e.reached ≡ false) ⊎ (slice_get old b ≡ Some e)))
