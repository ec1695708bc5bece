-- Added code: at the function's start, before code and after it. No code is deleted.
use Rattle.std.specs.Prelude.{◌≡◌, ◌⊎◌, ℕ, ◌+◌, List, [], ◌∷◌, Option, true, false}
use Rattle.sem_mir.specs.mir_func.declared.position.Pos.{Pos}
use Rattle.sem_mir.specs.mir_func.declared.item.Item.{Item}
use Rattle.sem_mir.specs.State.{Core, State}
use Rattle.sem_mir.specs.Step.{Outcome, Falls, Traps, Went, Faulted, do_item, step}
use Rattle.sem_mir.specs.mir_func.Graph.{EndOfBlock, Program, Edge, below, block_start}
use Rattle.sem_mir.specs.mir_func.Positions.{position_of}
use Rattle.sem_mir.specs.Align.{is_code, SyncPoint, Count, ByEnds, sync_point_at, IsOrigin, Since, Same, After, AnyOrigin, RunsMatch}
use Rattle.sem_simulation.specs.MatchStates.{Sides, MatchStates, Laid, since_item, ShowsSame, Does, DoBoth, OutcomesAlike}

-- where g is relative to f: in code added at the start; level with f; ahead of f, in code added before f's next code at a
-- position; or after f's code at a position, with a store still to come that was added for it
pub data Standing : Type 0 where
  Opening : Standing
  Level : Standing
  Ahead : Pos → Standing
  Owing : Pos → Standing

-- f's next code may have this position
abbrev pub MayCome : Standing → Pos → Type 0
MayCome Opening q = ⊥
MayCome Level q = Unit {0}
MayCome (Ahead p) q = q ≡ p
MayCome (Owing p) q = ⊥

-- debug items may come next
abbrev pub IsQuiet : Standing → Type 0
IsQuiet Level = Unit {0}
IsQuiet (Ahead p) = Unit {0}
IsQuiet Opening = ⊥
IsQuiet (Owing p) = ⊥

-- no step of the source from a position in Reach leads to `home`
abbrev pub IsNeverBack : Program → (Reach : Pos → Type 0) → Pos → Type 0
IsNeverBack src Reach home = (s u : State) → Reach s.pos → step src s ≡ Went u → u.pos ≡ home → ⊥

-- the positions that the source may not pass before it matches g: those with stations of f; the positions Extra right below
-- those; and its start, to which it never comes back. Reach is closed under the source's steps
pub record StopsMore (src : Program) (fs gs : Pos → Option SyncPoint) (Stops : Pos → Pos → Type 0) (Extra Reach : Pos → Type 0)
    (home : Pos) : Type 0 where
  pub stops : (p q : Pos) → IsOrigin fs p → Stops p q → IsOrigin fs q ⊎ Extra q ⊎ ((q ≡ home) × IsNeverBack src Reach home)
  pub own : (p : Pos) → IsOrigin gs p → Stops p p
  pub below : (p : Pos) → Extra p → (n : ℕ) × (p.item ≡ n + 1) × IsOrigin fs (record { block = p.block; item = n })
  pub on : (s u : State) → Reach s.pos → step src s ≡ Went u → Reach u.pos

-- at position p the source steps to the position below without an event or an assignment, or stops on a frame fault
abbrev pub IsPlain : Program → Pos → Type 0
IsPlain src p = (s : State) → s.pos ≡ p →
    ((u : State) × (step src s ≡ Went u) × (u.pos ≡ below p) × (u.core.events ≡ s.core.events) × (u.core.marks ≡ s.core.marks)) ⊎
    (step src s ≡ Faulted)

-- the matching relation: each stage has a standing; Stops p has the positions that the source may not pass before it matches
-- at p; Extra has positions of added code alone; and Reach has the positions that the source may reach
pub record AddedMatchStates : Type 1 where
  pub match_states : MatchStates
  pub standing : match_states.Stage → Standing
  pub Stops : Pos → Pos → Type 0
  pub Extra : Pos → Type 0
  pub Reach : Pos → Type 0

module _ (count : Count) (src : Program) (sides : Sides) (match_states : AddedMatchStates) where
  open sides use {old.{program as f, rest as rest_f, start as s0}, new.{program as g, rest as rest_g, start as g0}}
  open match_states use {match_states.{Stage, entry, MatchItems, MatchCores}, standing, Stops, Extra, Reach}

  -- the first position of block n in g
  abbrev pub start_in_g : ℕ → Pos
  start_in_g n = block_start (g.enter n)

  -- the standings that g may have after code of both
  abbrev pub MayStand : Standing → Item → Type 0
  MayStand Opening x = ⊥
  MayStand Level x = (s u : State) → s.pos ≡ position_of x.origin → step src s ≡ Went u → Extra u.pos → IsOrigin (sync_point_at count f) u.pos
  MayStand (Ahead p) x = (position_of x.origin ≡ p) × (since_item count x ≡ Same)
  MayStand (Owing p) x =
      (position_of x.origin ≡ p) × (since_item count x ≡ After) × IsPlain src p ×
      ((c e : Core) → do_item f x.kind c ≡ Falls e → (e.events ≡ c.events) × (e.marks ≡ c.marks))

  -- the outcomes of f's and g's code of one origin are the same, with related cores; if they go to a block, g is level with
  -- f, and the source must leave the position
  abbrev pub DoAlike : (b : ℕ) → List Item → List Item → Since → Stage → Outcome → Outcome → Type 0
  DoAlike b xs ys m k x y =
      OutcomesAlike (MatchCores k b xs ys)
      (λ i c d. (m ≡ After) × (standing k ≡ Level) × MatchCores (entry i) i (rest_f (block_start i)) (rest_g (start_in_g i)) c d) x y

  -- the standings that g may have after code added at the start: the same, or level with f
  abbrev pub MayOpen : Standing → Type 0
  MayOpen Opening = Unit {0}
  MayOpen Level = g0.pos.block ≡ g.enter s0.pos.block
  MayOpen (Ahead p) = ⊥
  MayOpen (Owing p) = ⊥

  -- the block at which g starts falls through to f's first block
  abbrev pub LeadsIn : Type 0
  LeadsIn = (q : Pos) (j n : ℕ) → q.block ≡ g0.pos.block → rest_g q ≡ [] → g.fetch q ≡ EndOfBlock j n → n ≡ s0.pos.block

  -- if the source may not pass its start before it matches some station of f, f has a station with that position
  abbrev pub IsFree : Type 0
  IsFree = (p : Pos) → IsOrigin (sync_point_at count f) p → Stops p s0.pos → IsOrigin (sync_point_at count f) s0.pos

  -- how the rests of a block begin: both are empty; with code of both; with code of g before f's, which may trap if f's
  -- does; with code of g at the start, or the end of a block of such code; with code of g after f's; or with a debug item of
  -- f, of g, or of each
  pub data View (b : ℕ) : Stage → List Item → List Item → Type 0 where
    ended : {k : Stage} → standing k ≡ Level → View b k [] []
    both : {k k' : Stage} {x y : Item} {xs ys : List Item} → MayCome (standing k) (position_of x.origin) →
        is_code x.kind ≡ true → is_code y.kind ≡ true → x.origin ≡ y.origin → since_item count x ≡ since_item count y →
        MayStand (standing k') x → MatchItems k' b xs ys →
        ((c d : Core) → MatchCores k b (x ∷ xs) (y ∷ ys) c d → DoAlike b xs ys (since_item count x) k' (do_item f x.kind c) (do_item g y.kind d)) →
        View b k (x ∷ xs) (y ∷ ys)
    before : {k k' : Stage} {x y : Item} {xs ys : List Item} → MayCome (standing k) (position_of x.origin) →
        is_code x.kind ≡ true → is_code y.kind ≡ true → position_of y.origin ≡ position_of x.origin → since_item count y ≡ Same →
        standing k' ≡ Ahead (position_of x.origin) → MatchItems k' b (x ∷ xs) ys →
        ((c d : Core) → MatchCores k b (x ∷ xs) (y ∷ ys) c d →
        Does g y d (λ e. MatchCores k' b (x ∷ xs) ys c e) ⊎ ((do_item g y.kind d ≡ Traps) × (do_item f x.kind c ≡ Traps))) →
        View b k (x ∷ xs) (y ∷ ys)
    opening : {k k' : Stage} {y : Item} {xs ys : List Item} → standing k ≡ Opening → is_code y.kind ≡ true → position_of y.origin ≡ s0.pos →
        since_item count y ≡ Same → MayOpen (standing k') → MatchItems k' b xs ys →
        ((c d : Core) → MatchCores k b xs (y ∷ ys) c d → Does g y d (λ e. MatchCores k' b xs ys c e)) → View b k xs (y ∷ ys)
    entering : {k k' : Stage} {xs : List Item} → standing k ≡ Opening → (count ≡ ByEnds → ⊥) → standing k' ≡ Level →
        MatchItems k' b xs (rest_g (start_in_g b)) → ((c d : Core) → MatchCores k b xs [] c d → MatchCores k' b xs (rest_g (start_in_g b)) c d) →
        IsFree → LeadsIn → View b k xs []
    behind : {k k' : Stage} {p : Pos} {y : Item} {xs ys : List Item} → standing k ≡ Owing p → is_code y.kind ≡ true →
        position_of y.origin ≡ below p → since_item count y ≡ Same → standing k' ≡ Level → MatchItems k' b xs ys →
        ((c d : Core) → MatchCores k b xs (y ∷ ys) c d → Does g y d (λ e. MatchCores k' b xs ys c e)) → View b k xs (y ∷ ys)
    passed : {k k' : Stage} {x : Item} {xs ys : List Item} → IsQuiet (standing k) → standing k' ≡ standing k → is_code x.kind ≡ false →
        MatchItems k' b xs ys → ((c d : Core) → MatchCores k b (x ∷ xs) ys c d → Does f x c (λ e. MatchCores k' b xs ys e d)) → View b k (x ∷ xs) ys
    added : {k k' : Stage} {y : Item} {xs ys : List Item} → IsQuiet (standing k) → standing k' ≡ standing k → is_code y.kind ≡ false →
        MatchItems k' b xs ys → ((c d : Core) → MatchCores k b xs (y ∷ ys) c d → Does g y d (λ e. MatchCores k' b xs ys c e)) → View b k xs (y ∷ ys)
    paired : {k k' : Stage} {x y : Item} {xs ys : List Item} → IsQuiet (standing k) → standing k' ≡ standing k →
        is_code x.kind ≡ false → is_code y.kind ≡ false → MatchItems k' b xs ys →
        ((c d : Core) → MatchCores k b (x ∷ xs) (y ∷ ys) c d → DoBoth f g x y c d (λ e e'. MatchCores k' b xs ys e e')) → View b k (x ∷ xs) (y ∷ ys)

  pub record Adds : Type 0 where
    pub more : StopsMore src (sync_point_at count f) (sync_point_at count g) Stops Extra Reach s0.pos
    pub laid_f : Laid f rest_f
    pub laid_g : Laid g rest_g
    pub enter_f : (n : ℕ) → f.enter n ≡ n
    pub view : (k : Stage) (b : ℕ) (xs ys : List Item) → MatchItems k b xs ys → View b k xs ys
    -- at the start of a block that f enters
    pub entry_level : (n : ℕ) → standing (entry n) ≡ Level
    pub starts : (p : Pos) (n : ℕ) → Edge f p (block_start n) → MatchItems (entry n) n (rest_f (block_start n)) (rest_g (start_in_g n))
    pub onward : (p q : Pos) (k n : ℕ) → q.block ≡ g.enter p.block → rest_f p ≡ [] → rest_g q ≡ [] →
        g.fetch q ≡ EndOfBlock k n → f.fetch p ≡ EndOfBlock k n
    -- if block ends are stations, g has f's blocks
    pub same_blocks : count ≡ ByEnds → (n : ℕ) → g.enter n ≡ n
    pub end_stands : (p : Pos) (k n : ℕ) → count ≡ ByEnds → f.fetch p ≡ EndOfBlock k n → (s u : State) →
        s.pos ≡ record { block = p.block; item = k } → step src s ≡ Went u → Extra u.pos → IsOrigin (sync_point_at count f) u.pos
    -- at the end of a block of f that falls through to block n
    pub ends : (k : Stage) (p : Pos) (j n : ℕ) (c d : Core) → standing k ≡ Level → rest_f p ≡ [] → f.fetch p ≡ EndOfBlock j n →
        MatchItems k p.block [] [] → MatchCores k p.block [] [] c d → MatchCores (entry n) n (rest_f (block_start n)) (rest_g (start_in_g n)) c d
    pub shows : (k : Stage) (b : ℕ) (xs ys : List Item) (c d : Core) → MatchCores k b xs ys c d → ShowsSame c d

  -- the start of the runs: g is in its added code, or level with f at the start of a block
  pub data Begins : Type 0 where
    opens : (k : Stage) → standing k ≡ Opening → MatchItems k s0.pos.block (rest_f s0.pos) (rest_g g0.pos) →
        MatchCores k s0.pos.block (rest_f s0.pos) (rest_g g0.pos) s0.core g0.core → Begins
    level : (k : Stage) → standing k ≡ Level → g0.pos.block ≡ g.enter s0.pos.block → MatchItems k s0.pos.block (rest_f s0.pos) (rest_g g0.pos) →
        MatchCores k s0.pos.block (rest_f s0.pos) (rest_g g0.pos) s0.core g0.core → IsFree → Begins

-- If f's run refines the source's, and g is f with code added, g's run refines the source's, with the positions Stops.
abbrev pub AddedFollows : AddedMatchStates → Type 0
AddedFollows match_states = (count : Count) (src : Program) (sides : Sides) →
    let f = sides.old in let g = sides.new in
    Adds count src sides match_states → match_states.Reach f.start.pos → Begins count src sides match_states →
    RunsMatch src f.program (sync_point_at count f.program) (AnyOrigin (sync_point_at count f.program)) f.start f.start →
    RunsMatch src g.program (sync_point_at count g.program) match_states.Stops f.start g.start
