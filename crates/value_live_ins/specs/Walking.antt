-- The walk over a block's items by which its flow is computed: classes encode the sources of tokens.
use Rattle.std.specs.Prelude.{◌≡◌, ℕ, zero, suc, ◌+◌, ◌-◌, ◌*◌, ◌/◌, ◌%◌, ◌<◌, ◌≤◌, List, length, map, cond, nat_lt, Option, None, Some, slice_get, slice_index}
use Rattle.mir_func.specs.declared.debug_substitution.OperandPair.{OperandPair}
use Rattle.mir_func.specs.declared.item.Item.{Item}
use Rattle.mir_func.specs.Resolve.{resolve}
use Rattle.sem_mir.specs.ValueId.{Tokens}
use Rattle.sem_value_ids.specs.Pullback as path
use Rattle.sem_value_ids.specs.Pullback.{InRegister, token_of, after_items}
use Rattle.value_proof.specs.Classes.{Classes, IsKnown, known_past}
use Rattle.value_solver.specs.declared.tracked.Tracked.{Tracked}
use Rattle.value_solver.specs.declared.tracked.Tracked.TheVariants.{Register}
use Rattle.value_solver.specs.Entry.{thing}
use Rattle.value_tracker.specs.declared.location_tracker.LocationTracker.{LocationTracker}
use Rattle.value_tracker.specs.LocationTracker.{Holds}
use Rattle.value_tracker.specs.Things.{AreThings, Indexes}
use Rattle.value_solver.specs.declared.flow.Source.{Source}
use Rattle.value_solver.specs.declared.flow.Source.TheVariants.{Was, New, Nameless}
use Rattle.value_solver.specs.declared.flow.Change.{Change}
use Rattle.value_solver.specs.Joining.{source_from}
use Rattle.value_solver.specs.Flows.{told}
use Rattle.value_live_ins.specs.declared.changes.Tracking.{Tracking}

-- each entity is listed once, and only registers but x0 and x2 are
pub record AreTracked (things : List Tracked) : Type 0 where
  pub once : (i j : ℕ) (x : Tracked) → slice_get things i ≡ Some x → slice_get things j ≡ Some x → i ≡ j
  pub registers : (i r : ℕ) → slice_get things i ≡ Some (Register r) → (r < 32) × (r ≡ 0 → ⊥) × (r ≡ 2 → ⊥)

-- each of n entities has a class of its own: its index plus 1
pub record AreOwn (n : ℕ) (settled : List ℕ) : Type 0 where
  pub count : length settled ≡ n
  pub each : (i : ℕ) → i < n → slice_index settled i ≡ suc i

-- what the walk over blocks needs: the list of tracked entities, with a length that fits in memory and the parts of variables
-- first, its index, and a class of its own for each entity
pub record IsTracking (t : Tracking) : Type 0 where
  pub few : length t.things.now < 4294967295
  pub tracked : AreTracked t.things.now
  pub things : AreThings t.variables.now t.things.now
  pub variables : length t.variables.now ≤ length t.things.now
  pub index : Indexes t.things.now t.index.now
  pub own : AreOwn (length t.things.now) t.settled.now

-- the source of the k-th new class of a block: a new token, of which each item has 32, one for each register
abbrev pub new_of : ℕ → Source
new_of k = New (k / 32) (k % 32)

-- the source that a class encodes, with n tracked entities: 0 is none, then come the tokens of the entities, and then new tokens
abbrev pub decoded : (n class : ℕ) → Source
decoded n zero = Nameless
decoded n (suc c) = cond (nat_lt c n) (Was c) (new_of (c - n))

-- past these items the token of each known entity, and of each pair that they define, is that of the source that its class encodes,
-- if x2 has no token before them
pub record ClassesTell (resolve : OperandPair → Option OperandPair) (things : List Tracked) (items : List Item) (class : Classes) : Type 0 where
  pub each : (n : ℕ) (t : Tokens) → token_of (InRegister 2) t ≡ None → (x : path.Tracked) →
      IsKnown (known_past (map thing things) items) x →
      token_of x (after_items resolve n items t) ≡ told things n t (decoded (length things) (class x))
  pub below : (x : path.Tracked) → IsKnown (known_past (map thing things) items) x → class x < length things + 1 + 32 * length items

-- the tracker's state past these items holds such classes
pub record Walked (t : Tracking) (items : List Item) (h : LocationTracker) : Type 0 where
  pub class : Classes
  pub holds : Holds t.variables.now (known_past (map thing t.things.now) items) t.index.now t.settled.now h class
  pub tells : ClassesTell (resolve t.subs.now) t.things.now items class

-- the source of each entity by the changes is the one that its class encodes
pub record AreChanges (things : List Tracked) (class : Classes) (changes : List Change) : Type 0 where
  pub each : (i : ℕ) (x : Tracked) → slice_get things i ≡ Some x → source_from (Was i) changes i ≡ decoded (length things) (class (thing x))
