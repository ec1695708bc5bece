-- Changes in place: each block keeps its code, perhaps rewritten, except for code that is deleted; debug items may be
-- added and deleted.
use Rattle.std.specs.Prelude.{◌≡◌, ◌⊎◌, ℕ, ◌*◌, ◌<◌, ◌≤◌, List, [], ◌∷◌, All, true, false}
use Rattle.sem_mir.specs.mir_func.declared.position.Pos.{Pos}
use Rattle.sem_mir.specs.mir_func.declared.position.Origin.TheVariants.{Kept}
use Rattle.sem_mir.specs.mir_func.declared.item.Item.{Item}
use Rattle.sem_mir.specs.State.{Core, RunResult}
use Rattle.sem_mir.specs.Step.{Outcome, Falls, Goes, Gives, Traps, do_item}
use Rattle.sem_mir.specs.mir_func.Graph.{Here, EndOfBlock, Program, block_start}
use Rattle.sem_mir.specs.mir_func.Positions.{position_of}
use Rattle.sem_mir.specs.Align.{is_code, Count, moves_on, sync_point_at, IsOrigin, Since, After, AnyOrigin, RunsMatch}
use Rattle.sem_mir.specs.Follow.{next_rank, InOrder}
use Rattle.sem_simulation.specs.Refinement.{FaultsAt}
use Rattle.sem_simulation.specs.MatchStates.{Sides, MatchStates, Laid, since_item, ShowsSame, Does, DoBoth, OutcomesAlike}

-- the outcome is a fall-through with a core that satisfies P, or a trap if that is allowed
abbrev pub FallsOrTraps : (may : Type 0) → (Core → Type 0) → Outcome → Type 0
FallsOrTraps may P (Falls c) = P c
FallsOrTraps may P Traps = may
FallsOrTraps may P _ = ⊥

-- the outcome adds no event and no value of a variable if it falls through; if it goes to a block, the source must leave
-- the position; and it isn't a return
abbrev pub ShowsNoMore : Since → Core → Outcome → Type 0
ShowsNoMore m d (Falls e) = ShowsSame d e
ShowsNoMore m d (Goes n e) = m ≡ After
ShowsNoMore m d (Gives v) = ⊥
ShowsNoMore m d _ = Unit {0}

-- f's outcome is a trap and g's isn't a return; the source must leave the position
abbrev pub TrapsAlone : Since → (of_f of_g : Outcome) → Type 0
TrapsAlone m Traps (Gives v) = ⊥
TrapsAlone m Traps y = m ≡ After
TrapsAlone m x y = ⊥

-- the item is kept from p, which is before its block's end, and never returns
pub record IsNoReturn (g : Program) (p : Pos) (y : Item) : Type 0 where
  pub kept : y.origin ≡ Kept p
  pub stays : (d : Core) (v : RunResult) → do_item g y.kind d ≡ Gives v → ⊥
  pub inner : (e : Pos) (k n : ℕ) → e.block ≡ p.block → g.fetch e ≡ EndOfBlock k n → p.item < k

-- g may still run the item if the source stops at p: its position is after p, it adds no event and no value, or it is kept
-- from p and never returns
abbrev pub IsIdleAt : Count → Program → Pos → Item → Type 0
IsIdleAt count g p y = (position_of y.origin).item ≤ p.item →
    ((d : Core) → ShowsNoMore (since_item count y) d (do_item g y.kind d)) ⊎ IsNoReturn g p y

module _ (count : Count) (src : Program) (sides : Sides) (match_states : MatchStates) where
  open sides use {old.{program as f, rest as rest_f, start as s0}, new.{program as g, rest as rest_g}}
  open match_states use {Stage, entry, MatchItems, MatchCores}

  -- the outcomes of f's and g's code of one origin are the same, with related cores; if they go to a block, the source
  -- must leave the position
  abbrev pub DoAlike : (b : ℕ) → List Item → List Item → Since → Stage → Outcome → Outcome → Type 0
  DoAlike b xs ys m k x y =
      OutcomesAlike (MatchCores k b xs ys) (λ i c d. (m ≡ After) × MatchCores (entry i) i (rest_f (block_start i)) (rest_g (block_start i)) c d) x y

  -- code of f alone may trap if the source must leave its position, or if g may still run its rest when the source stops
  -- there
  abbrev pub MayTrap : Item → List Item → Type 0
  MayTrap x ys = (since_item count x ≡ After) ⊎
      (FaultsAt src s0 (position_of x.origin) → All (IsIdleAt count g (position_of x.origin)) ys)

  -- how the rests of a block begin: both are empty; with code of both, which is alike, or which is alike unless f's alone
  -- traps; with code of f alone; or with a debug item of f alone, of g alone, or of each
  pub data View (b : ℕ) : Stage → List Item → List Item → Type 0 where
    ended : {k : Stage} → View b k [] []
    both : {k k' : Stage} {x y : Item} {xs ys : List Item} → is_code x.kind ≡ true → is_code y.kind ≡ true → x.origin ≡ y.origin →
        moves_on count x.kind ≡ moves_on count y.kind → MatchItems k' b xs ys →
        ((c d : Core) → MatchCores k b (x ∷ xs) (y ∷ ys) c d → DoAlike b xs ys (since_item count x) k' (do_item f x.kind c) (do_item g y.kind d)) →
        View b k (x ∷ xs) (y ∷ ys)
    bolder : {k k' : Stage} {x y : Item} {xs ys : List Item} → is_code x.kind ≡ true → is_code y.kind ≡ true → x.origin ≡ y.origin →
        moves_on count x.kind ≡ moves_on count y.kind → MatchItems k' b xs ys →
        ((c d : Core) → MatchCores k b (x ∷ xs) (y ∷ ys) c d → DoAlike b xs ys (since_item count x) k' (do_item f x.kind c) (do_item g y.kind d) ⊎
        TrapsAlone (since_item count x) (do_item f x.kind c) (do_item g y.kind d)) → View b k (x ∷ xs) (y ∷ ys)
    taken : {k k' : Stage} {x : Item} {xs ys : List Item} → is_code x.kind ≡ true → moves_on count x.kind ≡ false → MatchItems k' b xs ys →
        ((c d : Core) → MatchCores k b (x ∷ xs) ys c d → FallsOrTraps (MayTrap x ys) (λ e. MatchCores k' b xs ys e d) (do_item f x.kind c)) →
        View b k (x ∷ xs) ys
    passed : {k k' : Stage} {x : Item} {xs ys : List Item} → is_code x.kind ≡ false → MatchItems k' b xs ys →
        ((c d : Core) → MatchCores k b (x ∷ xs) ys c d → Does f x c (λ e. MatchCores k' b xs ys e d)) → View b k (x ∷ xs) ys
    added : {k k' : Stage} {y : Item} {xs ys : List Item} → is_code y.kind ≡ false → MatchItems k' b xs ys →
        ((c d : Core) → MatchCores k b xs (y ∷ ys) c d → Does g y d (λ e. MatchCores k' b xs ys c e)) → View b k xs (y ∷ ys)
    paired : {k k' : Stage} {x y : Item} {xs ys : List Item} → is_code x.kind ≡ false → is_code y.kind ≡ false → MatchItems k' b xs ys →
        ((c d : Core) → MatchCores k b (x ∷ xs) (y ∷ ys) c d → DoBoth f g x y c d (λ e e'. MatchCores k' b xs ys e e')) → View b k (x ∷ xs) (y ∷ ys)

  -- place n is the place of block n in the text
  pub record InPlace (place : ℕ → ℕ) : Type 0 where
    pub laid_f : Laid f rest_f
    pub laid_g : Laid g rest_g
    pub enter_f : (n : ℕ) → f.enter n ≡ n
    pub enter_g : (n : ℕ) → g.enter n ≡ n
    pub view : (k : Stage) (b : ℕ) (xs ys : List Item) → MatchItems k b xs ys → View b k xs ys
    pub starts : (n : ℕ) → MatchItems (entry n) n (rest_f (block_start n)) (rest_g (block_start n))
    pub order_f : (n : ℕ) → InOrder n 0 (rest_f (block_start n))
    pub order_g : (n : ℕ) → InOrder n 0 (rest_g (block_start n))
    -- the positions of g's items are in their own block, and not after its end; nor are those of f's
    pub home : (q : Pos) (i : Item) → g.fetch q ≡ Here i → (position_of i.origin).block ≡ q.block
    pub within : (q e : Pos) (i : Item) (k n : ℕ) → g.fetch q ≡ Here i → g.fetch e ≡ EndOfBlock k n → q.block ≡ e.block →
        (position_of i.origin).item ≤ k
    pub within_f : (q e : Pos) (x : Item) (k n : ℕ) → f.fetch q ≡ Here x → g.fetch e ≡ EndOfBlock k n → q.block ≡ e.block →
        next_rank x.origin ≤ 2 * k
    pub one_end : (q e : Pos) (k n k' n' : ℕ) → g.fetch q ≡ EndOfBlock k n → g.fetch e ≡ EndOfBlock k' n' → q.block ≡ e.block → k ≡ k'
    pub origins : (p : Pos) → IsOrigin (sync_point_at count g) p → IsOrigin (sync_point_at count f) p
    -- if both blocks end, f's end is g's, and the next block is further down
    pub onward : (p q : Pos) (k n : ℕ) → p.block ≡ q.block → rest_f p ≡ [] → rest_g q ≡ [] → g.fetch q ≡ EndOfBlock k n →
        (f.fetch p ≡ EndOfBlock k n) × (place p.block < place n)
    -- at the end of a block of f that falls through to block n
    pub ends : (k : Stage) (p : Pos) (j n : ℕ) (c d : Core) → rest_f p ≡ [] → f.fetch p ≡ EndOfBlock j n → MatchItems k p.block [] [] →
        MatchCores k p.block [] [] c d → MatchCores (entry n) n (rest_f (block_start n)) (rest_g (block_start n)) c d
    pub shows : (k : Stage) (b : ℕ) (xs ys : List Item) (c d : Core) → MatchCores k b xs ys c d → ShowsSame c d

-- If f's run refines the source's, and g is f changed in place, g's run refines the source's at the same kind of stations.
abbrev pub InPlaceFollows : MatchStates → Type 0
InPlaceFollows match_states = (count : Count) (src : Program) (sides : Sides) (place : ℕ → ℕ) →
    let f = sides.old in let g = sides.new in let b = f.start.pos.block in
    InPlace count src sides match_states place → f.start.pos.item ≡ 0 → g.start.pos ≡ f.start.pos →
    match_states.MatchCores (match_states.entry b) b (f.rest f.start.pos) (g.rest g.start.pos) f.start.core g.start.core →
    RunsMatch src f.program (sync_point_at count f.program) (AnyOrigin (sync_point_at count f.program)) f.start f.start →
    RunsMatch src g.program (sync_point_at count g.program) (AnyOrigin (sync_point_at count g.program)) f.start g.start
