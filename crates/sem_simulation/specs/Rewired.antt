-- Bypassed blocks and rewritten block ends: jumps added at a block's end, conditional branches deleted or inverted, debug
-- items added at a block's start.
use Rattle.std.specs.Prelude.{◌≡◌, ◌⊎◌, ℕ, ◌*◌, ◌<◌, ◌≤◌, List, [], ◌∷◌, true, false}
use Rattle.sem_mir.specs.mir_func.declared.position.Pos.{Pos}
use Rattle.sem_mir.specs.mir_func.declared.item.Item.{Item}
use Rattle.sem_mir.specs.State.{Core}
use Rattle.sem_mir.specs.Step.{Outcome, Falls, Goes, Gives, Traps, Asks, Breaks, do_item}
use Rattle.sem_mir.specs.mir_func.Graph.{Here, EndOfBlock, Program, below, block_start}
use Rattle.sem_mir.specs.mir_func.Positions.{position_of}
use Rattle.sem_mir.specs.Align.{is_code, is_jump, ByItems, ByEnds, sync_point_at, IsOrigin, Since, After, AnyOrigin, RunsMatch}
use Rattle.sem_mir.specs.Follow.{next_rank, InOrder}
use Rattle.sem_simulation.specs.MatchStates.{Sides, MatchStates, Laid, since_item, ShowsSame, Does, DoBoth}

-- the item goes to block n, with a core that satisfies P
abbrev pub Jumps : Program → Item → Core → ℕ → (Core → Type 0) → Type 0
Jumps h x c n P = (e : Core) × (do_item h x.kind c ≡ Goes n e) × P e

-- the matching relation: Has n if g has block n, and Ways e relates the cores while f is on its path to block e
pub record RewiredMatchStates : Type 1 where
  pub match_states : MatchStates
  pub Has : ℕ → Type 0
  pub Ways : ℕ → Core → Core → Type 0

-- place n is the place of block n in the text
module _ (sides : Sides) (place : ℕ → ℕ) (match_states : RewiredMatchStates) where
  open sides use {old.{program as f, rest as rest_f}, new.{program as g, rest as rest_g}}
  open match_states use {match_states.{Stage, entry, MatchItems, MatchCores}, Has, Ways}

  -- no station of g has the position as its origin
  abbrev pub IsAbsent : Pos → Type 0
  IsAbsent q = IsOrigin (sync_point_at ByItems g) q → ⊥

  -- f's run leads from a position to the start of block e, past debug items, jumps and block ends of which g has no station
  pub data Reaches (e : ℕ) : Pos → Type 0 where
    arrived : {p : Pos} → p ≡ block_start e → Reaches e p
    debug : {p : Pos} (x : Item) → f.fetch p ≡ Here x → is_code x.kind ≡ false →
        ((c d : Core) → Ways e c d → Does f x c (λ c'. Ways e c' d)) → Reaches e (below p) → Reaches e p
    jump : {p : Pos} (x : Item) (n : ℕ) → f.fetch p ≡ Here x → is_code x.kind ≡ true → since_item ByEnds x ≡ After → IsAbsent (position_of x.origin) →
        ((c d : Core) → Ways e c d → Jumps f x c n (λ c'. Ways e c' d)) → Reaches e (block_start n) → Reaches e p
    finish : {p : Pos} (k n : ℕ) → f.fetch p ≡ EndOfBlock k n → IsAbsent (record { block = p.block; item = k }) →
        Reaches e (block_start n) → Reaches e p

  -- f goes to block e from the rest of its block b, after the end of g's: both edges of a conditional branch lead there, or
  -- it traps
  pub data Leaves (e b : ℕ) : List Item → Type 0 where
    by_end : (k n : ℕ) → ((p : Pos) → p.block ≡ b → rest_f p ≡ [] → f.fetch p ≡ EndOfBlock k n) → Reaches e (block_start n) → Leaves e b []
    by_jump : {xs : List Item} (x : Item) (n : ℕ) → is_code x.kind ≡ true → since_item ByEnds x ≡ After →
        ((c d : Core) → Ways e c d → Jumps f x c n (λ c'. Ways e c' d)) → Reaches e (block_start n) → Leaves e b (x ∷ xs)
    by_branch : {xs : List Item} (x : Item) (n : ℕ) → is_code x.kind ≡ true → is_jump x.kind ≡ false → since_item ByEnds x ≡ After →
        ((c d : Core) → Ways e c d →
        Jumps f x c n (λ c'. Ways e c' d) ⊎ Does f x c (λ c'. Ways e c' d) ⊎ (do_item f x.kind c ≡ Traps)) →
        Reaches e (block_start n) → Leaves e b xs → Leaves e b (x ∷ xs)

  -- g falls through from block b to block e
  abbrev pub FallsTo : (b e : ℕ) → Type 0
  FallsTo b e = (q : Pos) → q.block ≡ b → rest_g q ≡ [] → (k : ℕ) × (g.fetch q ≡ EndOfBlock k e)

  -- the outcomes of f's and g's code of one origin: both fall through; both go to a block, f at last to that of g; one
  -- falls through and the other goes to a block, and then g's block is over; or both end the run in the same way. If f
  -- traps and the source must leave the position, g may do anything but return
  abbrev pub DoAlike : (b : ℕ) → List Item → List Item → Since → Outcome → Outcome → Type 0
  DoAlike b xs ys m (Falls c) (Falls d) = (k : Stage) × MatchItems k b xs ys × MatchCores k b xs ys c d
  DoAlike b xs ys m (Goes n c) (Goes e d) = (m ≡ After) × Has e × Reaches e (block_start n) × Ways e c d
  DoAlike b xs ys m (Falls c) (Goes e d) = (m ≡ After) × Has e × (ys ≡ []) × Leaves e b xs × Ways e c d
  DoAlike b xs ys m (Goes n c) (Falls d) =
      (m ≡ After) × (ys ≡ []) × ((e : ℕ) × Has e × FallsTo b e × Reaches e (block_start n) × Ways e c d)
  DoAlike b xs ys m (Gives v) (Gives w) = v ≡ w
  DoAlike b xs ys m Traps Traps = Unit {0}
  DoAlike b xs ys m Traps (Gives w) = ⊥
  DoAlike b xs ys m Traps d = m ≡ After
  DoAlike b xs ys m Asks Asks = Unit {0}
  DoAlike b xs ys m Breaks Breaks = Unit {0}
  DoAlike b xs ys m _ _ = ⊥

  -- the cores show the same events, and g's no values but f's. This is required at code alone: before it debug items may
  -- still come
  abbrev pub Shows : Stage → ℕ → List Item → List Item → Type 0
  Shows k b xs ys = (c d : Core) → MatchCores k b xs ys c d → ShowsSame c d

  -- how the rests of a block begin: with code of both; with a debug item of g, or of each; with a new jump of g at the end
  -- of f's block; or g's block is over
  pub data View (b : ℕ) : Stage → List Item → List Item → Type 0 where
    both : {k : Stage} {x y : Item} {xs ys : List Item} → is_code x.kind ≡ true → is_code y.kind ≡ true → x.origin ≡ y.origin →
        since_item ByEnds x ≡ since_item ByItems y → Shows k b (x ∷ xs) (y ∷ ys) →
        ((c d : Core) → MatchCores k b (x ∷ xs) (y ∷ ys) c d → DoAlike b xs ys (since_item ByEnds x) (do_item f x.kind c) (do_item g y.kind d)) →
        View b k (x ∷ xs) (y ∷ ys)
    added : {k k' : Stage} {y : Item} {xs ys : List Item} → is_code y.kind ≡ false → MatchItems k' b xs ys →
        ((c d : Core) → MatchCores k b xs (y ∷ ys) c d → Does g y d (λ e. MatchCores k' b xs ys c e)) → View b k xs (y ∷ ys)
    paired : {k k' : Stage} {x y : Item} {xs ys : List Item} → is_code x.kind ≡ false → is_code y.kind ≡ false → MatchItems k' b xs ys →
        ((c d : Core) → MatchCores k b (x ∷ xs) (y ∷ ys) c d → DoBoth f g x y c d (λ e e'. MatchCores k' b xs ys e e')) → View b k (x ∷ xs) (y ∷ ys)
    closes : {k : Stage} {y : Item} {ys : List Item} (j n e : ℕ) → is_code y.kind ≡ true → position_of y.origin ≡ record { block = b; item = j } →
        since_item ByItems y ≡ After → Shows k b [] (y ∷ ys) → ((p : Pos) → p.block ≡ b → rest_f p ≡ [] → f.fetch p ≡ EndOfBlock j n) →
        Has e → Reaches e (block_start n) → ((c d : Core) → MatchCores k b [] (y ∷ ys) c d → Jumps g y d e (λ d'. Ways e c d')) → View b k [] (y ∷ ys)
    ended : {k : Stage} {xs : List Item} (e : ℕ) → Has e → FallsTo b e → Leaves e b xs →
        ((c d : Core) → MatchCores k b xs [] c d → Ways e c d) → View b k xs []

  pub record Rewired : Type 0 where
    pub laid_f : Laid f rest_f
    pub laid_g : Laid g rest_g
    pub enter_f : (n : ℕ) → f.enter n ≡ n
    pub enter_g : (n : ℕ) → g.enter n ≡ n
    pub view : (k : Stage) (b : ℕ) (xs ys : List Item) → MatchItems k b xs ys → View b k xs ys
    pub starts : (n : ℕ) → Has n → MatchItems (entry n) n (rest_f (block_start n)) (rest_g (block_start n))
    pub order_f : (n : ℕ) → InOrder n 0 (rest_f (block_start n))
    pub home : (q : Pos) (i : Item) → g.fetch q ≡ Here i → (position_of i.origin).block ≡ q.block
    pub within_f : (q e : Pos) (x : Item) (k n : ℕ) → f.fetch q ≡ Here x → f.fetch e ≡ EndOfBlock k n → q.block ≡ e.block → next_rank x.origin ≤ 2 * k
    -- g falls through to blocks further down
    pub onward : (q : Pos) (k n : ℕ) → g.fetch q ≡ EndOfBlock k n → place q.block < place n
    pub origins : (p : Pos) → IsOrigin (sync_point_at ByItems g) p → IsOrigin (sync_point_at ByEnds f) p
    pub arrives : (e : ℕ) (c d : Core) → Has e → Ways e c d → MatchCores (entry e) e (rest_f (block_start e)) (rest_g (block_start e)) c d

-- If f's run refines the source's with block ends as stations, and g is f rewired, g's run refines the source's with
-- instructions as stations.
abbrev pub RewiredFollows : RewiredMatchStates → Type 0
RewiredFollows match_states = (src : Program) (sides : Sides) (place : ℕ → ℕ) (b : ℕ) →
    let f = sides.old in let g = sides.new in let lists = match_states.match_states in
    Rewired sides place match_states → f.start.pos ≡ block_start b → g.start.pos ≡ block_start b → match_states.Has b →
    lists.MatchCores (lists.entry b) b (f.rest (block_start b)) (g.rest (block_start b)) f.start.core g.start.core →
    RunsMatch src f.program (sync_point_at ByEnds f.program) (AnyOrigin (sync_point_at ByEnds f.program)) f.start f.start →
    RunsMatch src g.program (sync_point_at ByItems g.program) (AnyOrigin (sync_point_at ByItems g.program)) f.start g.start
