-- From matching at instructions to matching at machine words: they differ while a run loops on one jump.
use Rattle.std.specs.Prelude.{◌≡◌, ◌⊎◌, ◌<◌, ◌≤◌, Some, true, false}
use Rattle.sem_mir.specs.mir_func.declared.position.Pos.{Pos}
use Rattle.sem_mir.specs.mir_func.declared.item.Item.{Item}
use Rattle.sem_mir.specs.State.{Core, State}
use Rattle.sem_mir.specs.Step.{Went, step}
use Rattle.sem_mir.specs.mir_func.Graph.{Here, Program, Leads}
use Rattle.sem_mir.specs.mir_func.Positions.{position_of}
use Rattle.sem_mir.specs.Align.{is_code, is_jump, waits_at, SyncPoint, ByItems, ByWords, sync_point_at, Since, MatchesNext, First, MatchedUpTo}
use Rattle.sem_mir.specs.Align.{FailsBefore}
use Rattle.sem_mir.specs.Align.{Agrees, RunsMatch}
use Rattle.sem_mir.specs.Follow.{OnRow}
use Rattle.sem_mir.specs.rv64_instr.LocationEffects.{IsSlotStore}

-- two cores that agree on all but debug values and pairs
pub record SameCode (c d : Core) : Type 0 where
  pub entry : c.entry ≡ d.entry
  pub area : c.area ≡ d.area
  pub objects : c.objects ≡ d.objects
  pub symbols : c.symbols ≡ d.symbols
  pub regs : c.regs ≡ d.regs
  pub slots : c.slots ≡ d.slots
  pub memory : c.memory ≡ d.memory
  pub script : c.script ≡ d.script
  pub events : c.events ≡ d.events

-- what matching at words says of g at t and the source at s: g was at this position for a first time, in a state that
-- matched s at instructions and agreed with it; t has the registers, slots, memory, script and events of that state
pub record Shown (src g : Program) (s0 g0 t s : State) : Type 0 where
  pub first : State
  pub from : State
  pub m : Since
  pub i : SyncPoint
  pub along : MatchedUpTo src g (sync_point_at ByItems g) First s0 g0 first from m
  pub stands : sync_point_at ByItems g first.pos ≡ Some i
  pub aligns : MatchesNext src (First i.pos) i.pos m from s
  pub pos : first.pos ≡ t.pos
  pub code : SameCode t.core first.core
  pub agrees : Agrees src g first s

-- at each word that g reaches, the source has a matching state that is shown so, or stops on a frame fault before it
abbrev pub RunsByWords : Program → Program → State → State → Type 0
RunsByWords src g s0 g0 = (t s : State) (m : Since) (i : SyncPoint) → MatchedUpTo src g (sync_point_at ByWords g) First s0 g0 t s m →
    sync_point_at ByWords g t.pos ≡ Some i →
    ((s' : State) × MatchesNext src (First i.pos) i.pos m s s' × Shown src g s0 g0 t s') ⊎ FailsBefore src (First i.pos) i.pos m s

-- an unconditional branch that was added before a position
abbrev pub IsAddedJump : Item → Type 0
IsAddedJump i = (is_jump i.kind ≡ true) × (waits_at false i.origin ≡ true)

-- what the step from instructions to words requires of g's blocks. Inner are the positions after a prologue
pub record HasPlainTurns (g : Program) (Inner : Pos → Type 0) : Type 0 where
  pub jumps : (p : Pos) (i : Item) → g.fetch p ≡ Here i → is_jump i.kind ≡ true → Inner p
  pub on : (s u : State) → Inner s.pos → step g s ≡ Went u → Inner u.pos
  -- items with origins in one block of the source are in one block
  pub home : (p q : Pos) (i j : Item) → Inner p → Inner q → g.fetch p ≡ Here i → g.fetch q ≡ Here j →
      (position_of i.origin).block ≡ (position_of j.origin).block → p.block ≡ q.block
  -- no item comes after a jump in its block, a block has no gaps between its items, and their origins are in one block,
  -- in its order
  pub last : (p q : Pos) (i j : Item) → g.fetch p ≡ Here i → is_jump i.kind ≡ true → g.fetch q ≡ Here j → p.block ≡ q.block → p.item < q.item → ⊥
  pub filled : (p q : Pos) (i : Item) → g.fetch p ≡ Here i → q.block ≡ p.block → q.item < p.item → (j : Item) × (g.fetch q ≡ Here j)
  pub order : (p q : Pos) (i j : Item) → g.fetch p ≡ Here i → g.fetch q ≡ Here j → p.block ≡ q.block → p.item ≤ q.item →
      ((position_of i.origin).block ≡ (position_of j.origin).block) × ((position_of i.origin).item ≤ (position_of j.origin).item)
  -- in the block of an added jump, each instruction whose origin has the jump's position is a slot store or a jump
  pub source_end : (p q : Pos) (i j : Item) → q.block ≡ p.block → g.fetch p ≡ Here i → IsAddedJump i → g.fetch q ≡ Here j → is_code j.kind ≡ true →
      position_of j.origin ≡ position_of i.origin → OnRow IsSlotStore j.kind ⊎ (is_jump j.kind ≡ true)
  -- and for each such store there is code with another position, earlier in its block or reachable from it
  pub stores : (p q : Pos) (i j : Item) → q.block ≡ p.block → g.fetch p ≡ Here i → IsAddedJump i → g.fetch q ≡ Here j → OnRow IsSlotStore j.kind →
      position_of j.origin ≡ position_of i.origin →
      (r : Pos) × (k : Item) × (g.fetch r ≡ Here k) × (is_code k.kind ≡ true) × (position_of k.origin ≡ position_of i.origin → ⊥) ×
      (((r.block ≡ q.block) × (r.item < q.item)) ⊎ Leads g q r)

-- If g's run refines the source's at instructions, by the first arrival at a position, it does so at words.
abbrev pub WordsFollow : (Inner : Pos → Type 0) → Type 0
WordsFollow Inner = (src g : Program) (s0 g0 : State) → RunsMatch src g (sync_point_at ByItems g) First s0 g0 → HasPlainTurns g Inner → RunsByWords src g s0 g0
