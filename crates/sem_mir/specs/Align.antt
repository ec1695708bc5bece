-- Matching of runs: which states of the source match the states of a function, by the origins of items alone.
use Rattle.std.specs.Prelude.{◌≡◌, ◌⊎◌, ℕ, Option, Some, None, Bool, true, false}
use Rattle.mir_func.specs.rv64_instr.Row.{Row, Jumps, row_of}
use Rattle.mir_func.specs.declared.position.Pos.{Pos}
use Rattle.mir_func.specs.declared.position.Origin.{Origin}
use Rattle.mir_func.specs.declared.position.Origin.TheVariants.{Kept, Before}
use Rattle.mir_func.specs.declared.variable.VarId.{VarId}
use Rattle.mir_func.specs.declared.item.Item.{Item}
use Rattle.mir_func.specs.declared.item.ItemKind.{ItemKind}
use Rattle.mir_func.specs.declared.item.ItemKind.TheVariants.{Code, Mark, Phi}
use Rattle.sem_mir.specs.State.{State, assigned, RunResult}
use Rattle.sem_mir.specs.Step.{Went, Returned, Faulted, step}
use Rattle.mir_func.specs.Graph.{Fetch, Here, EndOfBlock, Outside, Program}
use Rattle.mir_func.specs.Positions.{position_of}

-- an instruction, and no debug item
abbrev pub is_code : ItemKind → Bool
is_code (Code i k) = true
is_code (Mark v m) = false
is_code (Phi p k) = false

-- an unconditional branch
abbrev pub is_jump_row : Row → Bool
is_jump_row (Jumps n) = true
is_jump_row _ = false

-- an item that is an unconditional branch
abbrev pub is_jump : ItemKind → Bool
is_jump (Code i k) = is_jump_row (row_of i)
is_jump _ = false

-- an observation point of f: its origin, a position of the source, and whether the source may still be at that position
-- at f's next observation point
pub record SyncPoint : Type 0 where
  pub pos : Pos
  pub waits : Bool

-- which positions are observation points (stations)
pub data Count : Type 0 where
  -- instructions. After an unconditional branch the source must leave its position
  ByItems : Count
  -- block ends too; for functions whose positions name blocks by their numbers
  ByEnds : Count
  -- instructions as machine words: after any code that was added before a position, branches too, the source may wait
  -- there
  ByWords : Count

-- whether the source must leave an item's position even if the item was added before it: after an unconditional branch,
-- unless machine words are counted
abbrev pub moves_on : Count → ItemKind → Bool
moves_on ByWords k = false
moves_on ByItems k = is_jump k
moves_on ByEnds k = is_jump k

-- whether the source may still be at an item's position at the next station: if the item was added before it and the
-- source needn't leave
abbrev pub waits_at : (moves : Bool) → Origin → Bool
waits_at moves (Kept p) = false
waits_at true (Before p) = false
waits_at false (Before p) = true

-- the station of an item that is one
abbrev pub sync_point_of : Count → Item → SyncPoint
sync_point_of c i = record { pos = position_of i.origin; waits = waits_at (moves_on c i.kind) i.origin }

-- the station of an item: instructions are stations, debug items aren't
abbrev pub item_sync_point : Count → (code : Bool) → Item → Option SyncPoint
item_sync_point c true i = Some (sync_point_of c i)
item_sync_point c false i = None

-- the station of a block's end, if ends count. The source doesn't wait there
abbrev pub end_sync_point : Count → Pos → Option SyncPoint
end_sync_point ByEnds p = Some (record { pos = p; waits = false })
end_sync_point ByItems p = None
end_sync_point ByWords p = None

-- the station of what is at a position of a block; the origin of the block's end is the silent position
abbrev pub fetch_sync_point : Count → (block : ℕ) → Fetch → Option SyncPoint
fetch_sync_point c b (Here i) = item_sync_point c (is_code i.kind) i
fetch_sync_point c b (EndOfBlock k n) = end_sync_point c (record { block = b; item = k })
fetch_sync_point c b Outside = None

-- the station at a position of f, if there is one
abbrev pub sync_point_at : Count → Program → Pos → Option SyncPoint
sync_point_at c f p = fetch_sync_point c p.block (f.fetch p)

-- p is the origin of some station
pub record IsOrigin (sync_points : Pos → Option SyncPoint) (p : Pos) : Type 0 where
  pub place : Pos
  pub sync_point : SyncPoint
  pub stands : sync_points place ≡ Some sync_point
  pub from : sync_point.pos ≡ p

-- the source's run from the first state reaches the second, which is at position p, and no state before it is at a
-- position in Stops
pub data Arrives (src : Program) (Stops : Pos → Type 0) (p : Pos) : State → State → Type 0 where
  here : {s : State} → s.pos ≡ p → Arrives src Stops p s s
  onward : {s u t : State} → (Stops s.pos → ⊥) → step src s ≡ Went u → Arrives src Stops p u t → Arrives src Stops p s t

-- the same with at least one step, whatever the position of the first state
abbrev pub ArrivesLater : Program → (Pos → Type 0) → Pos → State → State → Type 0
ArrivesLater src Stops p s t = (u : State) × (step src s ≡ Went u) × Arrives src Stops p u t

-- where the search for the next matching state begins: at the run's start, at the last matched state itself, or one step
-- after it
pub data Since : Type 0 where
  Start : Since
  Same : Since
  After : Since

-- after a station the search begins at the matched state itself if the source may wait there, else one step after it
abbrev pub since_of : (waits : Bool) → Since
since_of true = Same
since_of false = After

-- the source's run leads from s to t, its next matching state, which is at position p
abbrev pub MatchesNext : Program → (Pos → Type 0) → Pos → Since → State → State → Type 0
MatchesNext src Stops p Start s t = Arrives src Stops p s t
MatchesNext src Stops p Same s t = ((s.pos ≡ p) × (s ≡ t)) ⊎ ((s.pos ≡ p → ⊥) × ArrivesLater src Stops p s t)
MatchesNext src Stops p After s t = ArrivesLater src Stops p s t

-- the positions q that the source may not pass before it matches at p: p itself, so that the first arrival counts
abbrev pub First : Pos → Pos → Type 0
First p q = q ≡ p

-- the positions q that the source may not pass before it matches at any p: each origin of a station
abbrev pub AnyOrigin : (Pos → Option SyncPoint) → Pos → Pos → Type 0
AnyOrigin sync_points p q = IsOrigin sync_points q

-- a run of f from f0 to t, matched with the source's run from s0: s is the source's last matched state, and Since says
-- where the search for the next one begins
pub data MatchedUpTo (src f : Program) (sync_points : Pos → Option SyncPoint) (Stops : Pos → Pos → Type 0) (s0 f0 : State) : State → State → Since →
    Type 0 where
  begin : MatchedUpTo src f sync_points Stops s0 f0 f0 s0 Start
  other : {t s t' : State} {m : Since} → MatchedUpTo src f sync_points Stops s0 f0 t s m → sync_points t.pos ≡ None → step f t ≡ Went t' →
      MatchedUpTo src f sync_points Stops s0 f0 t' s m
  met : {t s s' t' : State} {m : Since} (i : SyncPoint) → MatchedUpTo src f sync_points Stops s0 f0 t s m → sync_points t.pos ≡ Some i →
      MatchesNext src (Stops i.pos) i.pos m s s' → step f t ≡ Went t' → MatchedUpTo src f sync_points Stops s0 f0 t' s' (since_of i.waits)

-- the source's run stops on a frame fault, and none of its states, not even the last, is at a position in Stops
pub data Fails (src : Program) (Stops : Pos → Type 0) : State → Type 0 where
  fails_here : {s : State} → (Stops s.pos → ⊥) → step src s ≡ Faulted → Fails src Stops s
  fails_on : {s u : State} → (Stops s.pos → ⊥) → step src s ≡ Went u → Fails src Stops u → Fails src Stops s

-- the same, whatever the position of the first state
abbrev pub FailsLater : Program → (Pos → Type 0) → State → Type 0
FailsLater src Stops s = (step src s ≡ Faulted) ⊎ ((u : State) × (step src s ≡ Went u) × Fails src Stops u)

-- the source stops on a frame fault before its next matching state after s, at position p
abbrev pub FailsBefore : Program → (Pos → Type 0) → Pos → Since → State → Type 0
FailsBefore src Stops p Start s = Fails src Stops s
FailsBefore src Stops p Same s = (s.pos ≡ p → ⊥) × FailsLater src Stops s
FailsBefore src Stops p After s = FailsLater src Stops s

-- the value of the part by its newest assignment is x
abbrev pub Tells : State → VarId → ℕ → Type 0
Tells s v x = assigned v s.core.marks ≡ Some x

-- what agrees in matching states, t of f and s of the source: events; f's variables have no values but the source's; and
-- f's next step returns or faults only if the source's does
pub record Agrees (src f : Program) (t s : State) : Type 0 where
  pub events : t.core.events ≡ s.core.events
  pub told : (v : VarId) (x : ℕ) → Tells t v x → Tells s v x
  pub returns : (result : RunResult) → step f t ≡ Returned result → step src s ≡ Returned result
  pub faults : step f t ≡ Faulted → step src s ≡ Faulted

-- f's run from f0 refines the source's from s0: at each station that f reaches, the source has a matching state that
-- agrees, or stops on a frame fault before it
abbrev pub RunsMatch : Program → Program → (Pos → Option SyncPoint) → (Pos → Pos → Type 0) → State → State → Type 0
RunsMatch src f sync_points Stops s0 f0 =
    (t s : State) (m : Since) (i : SyncPoint) → MatchedUpTo src f sync_points Stops s0 f0 t s m → sync_points t.pos ≡ Some i →
    ((s' : State) × MatchesNext src (Stops i.pos) i.pos m s s' × Agrees src f t s') ⊎ FailsBefore src (Stops i.pos) i.pos m s
