-- The flows of a program: each block's effect on the tokens of tracked entities, and its successors.
use Rattle.std.specs.Prelude.{◌≡◌, ◌↔◌, ◌⊎◌, ℕ, zero, suc, ◌+◌, ◌<◌, List, length, slice_get, slice_index_or, true, false, Option, None, Some, IsSome, Contains}
use Rattle.mir_func.specs.Graph.{Program}
use Rattle.sem_value_ids.specs.sem_mir.ValueId.{Token, Made, Tokens, entry_tokens}
use Rattle.sem_value_ids.specs.Pullback.{token_of}
use Rattle.value_solver.specs.declared.tracked.Tracked.{Tracked}
use Rattle.value_solver.specs.declared.entry.BlockEntry.{BlockEntry}
use Rattle.value_solver.specs.Entry.{thing, PathTo}
use Rattle.value_solver.specs.declared.flow.Source.{Source}
use Rattle.value_solver.specs.declared.flow.Source.TheVariants.{Was, New, Nameless}
use Rattle.value_solver.specs.declared.flow.Flow.{Flow}
use Rattle.value_solver.specs.Numbering.{class_in}
use Rattle.value_solver.specs.Joining.{IsKnown, source_at}

-- the token of an entity, and no token for None
abbrev pub thing_token : Option Tracked → Tokens → Option Token
thing_token None t = None
thing_token (Some x) t = token_of (thing x) t

-- the token of an entity by its number: 0 is no entity, and i + 1 the entity with index i
abbrev pub token_at : List Tracked → ℕ → Tokens → Option Token
token_at xs zero t = None
token_at xs (suc i) t = thing_token (slice_get xs i) t

-- the token at a block's end by its source. The path to the block's start has n steps, with tokens t at its end
abbrev pub told : List Tracked → ℕ → Tokens → Source → Option Token
told xs n t (Was j) = token_at xs (suc j) t
told xs n t (New k r) = Some (Made (n + k) r)
told xs n t Nameless = None

-- the path is at its start: the block is the first one, and the tracked entities have the function's entry tokens
abbrev pub Begins : List Tracked → (block : ℕ) → Tokens → Type 0
Begins xs c u = (c ≡ 0) × ((x : ℕ) → token_at xs x u ≡ token_at xs x entry_tokens)

-- the path extends a shorter one through a predecessor, whose flow determines the tokens
pub record Comes (g : Program) (xs : List Tracked) (flows : List Flow) (c m : ℕ) (u : Tokens) : Type 0 where
  pub block : ℕ
  pub steps : ℕ
  pub tokens : Tokens
  pub flow : Flow
  pub path : PathTo g block steps tokens
  pub here : slice_get flows block ≡ Some flow
  pub way : Contains flow.ways c
  pub fewer : steps < m
  pub told : (x : ℕ) → token_at xs x u ≡ told xs steps tokens (source_at flow.changes x)

-- a path extends through the block to this successor, with the tokens that the flow determines
pub record GoesOn (g : Program) (xs : List Tracked) (n : ℕ) (t : Tokens) (f : Flow) (c : ℕ) : Type 0 where
  pub steps : ℕ
  pub tokens : Tokens
  pub path : PathTo g c steps tokens
  pub told : (x : ℕ) → token_at xs x tokens ≡ told xs n t (source_at f.changes x)

-- the flows describe a program: each path extends along each edge of its block's flow, and each path to a block is empty or comes
-- along such an edge
pub record AreFlows (g : Program) (xs : List Tracked) (flows : List Flow) : Type 0 where
  pub onward : (b c n : ℕ) (t : Tokens) (f : Flow) → PathTo g b n t → slice_get flows b ≡ Some f → Contains f.ways c → GoesOn g xs n t f c
  pub back : (c m : ℕ) (u : Tokens) → PathTo g c m u → Begins xs c u ⊎ Comes g xs flows c m u

-- the function's start entry: two entities have the same class if and only if they start with the same token or both with none,
-- and a bit is set if and only if the entity starts with a token
pub record IsStart (xs : List Tracked) (start : BlockEntry) : Type 0 where
  pub known : IsKnown (length xs) start
  pub one : (x y : ℕ) → (class_in start.classes x ≡ class_in start.classes y) ↔ (token_at xs x entry_tokens ≡ token_at xs y entry_tokens)
  pub bit : (i : ℕ) → (slice_index_or start.given i false ≡ true) ↔ IsSome (token_at xs (suc i) entry_tokens)
