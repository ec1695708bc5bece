-- Common definitions of the simulation laws on lists of items: a program before a change and after it, and how their runs
-- are related.
use Rattle.std.specs.Prelude.{◌≡◌, ℕ, List, [], ◌∷◌, Some}
use Rattle.sem_mir.specs.mir_func.declared.position.Pos.{Pos}
use Rattle.sem_mir.specs.mir_func.declared.variable.VarId.{VarId}
use Rattle.sem_mir.specs.mir_func.declared.item.Item.{Item}
use Rattle.sem_mir.specs.State.{Core, State, assigned}
use Rattle.sem_mir.specs.Step.{Outcome, Falls, Goes, Gives, Traps, Asks, Breaks, do_item}
use Rattle.sem_mir.specs.mir_func.Graph.{Fetch, Here, EndOfBlock, Outside, Program, below}
use Rattle.sem_mir.specs.Align.{Count, sync_point_of, Since, since_of}

-- a program, the items from each position to its block's end, and its start state
pub record Side : Type 0 where
  pub program : Program
  pub rest : Pos → List Item
  pub start : State

-- the program before a change, f, and after it, g. The source has f's start state
pub record Sides : Type 0 where
  pub old : Side
  pub new : Side

-- the matching relation. A stage is what is known of the rests of a block, and entry n is the stage at the start of block
-- n; MatchItems k b xs ys relates the rest of f's block b with g's, and MatchCores k b xs ys the cores of both at these rests
pub record MatchStates : Type 1 where
  pub Stage : Type 0
  pub entry : ℕ → Stage
  pub MatchItems : Stage → ℕ → List Item → List Item → Type 0
  pub MatchCores : Stage → ℕ → List Item → List Item → Core → Core → Type 0

-- no item is at the position: it is a block's end, if anything
abbrev pub IsPastItems : Fetch → Type 0
IsPastItems (Here i) = ⊥
IsPastItems (EndOfBlock k n) = Unit {0}
IsPastItems Outside = Unit {0}

-- rest p is the list of the items from position p to its block's end
pub record Laid (g : Program) (rest : Pos → List Item) : Type 0 where
  pub cons : (p : Pos) (x : Item) (xs : List Item) → rest p ≡ x ∷ xs → (g.fetch p ≡ Here x) × (rest (below p) ≡ xs)
  pub nil : (p : Pos) → rest p ≡ [] → IsPastItems (g.fetch p) × (rest (below p) ≡ [])

-- where the search for the next matching state begins after the item
abbrev pub since_item : Count → Item → Since
since_item count x = since_of (sync_point_of count x).waits

-- d has the events of c, and no values of variables but those of c
pub record ShowsSame (c d : Core) : Type 0 where
  pub events : d.events ≡ c.events
  pub told : (v : VarId) (x : ℕ) → assigned v d.marks ≡ Some x → assigned v c.marks ≡ Some x

-- the item falls through, with a core that satisfies P
abbrev pub Does : Program → Item → Core → (Core → Type 0) → Type 0
Does h x c P = (e : Core) × (do_item h x.kind c ≡ Falls e) × P e

-- an item of each falls through, with cores that P relates
abbrev pub DoBoth : Program → Program → Item → Item → Core → Core → (Core → Core → Type 0) → Type 0
DoBoth f g x y c d P = (e e' : Core) × (do_item f x.kind c ≡ Falls e) × (do_item g y.kind d ≡ Falls e') × P e e'

-- both fall through, with cores that P relates; both go to one block i, with cores that J i relates; or both have the same
-- final outcome
abbrev pub OutcomesAlike : (P : Core → Core → Type 0) (J : ℕ → Core → Core → Type 0) → Outcome → Outcome → Type 0
OutcomesAlike P J (Falls c) (Falls d) = P c d
OutcomesAlike P J (Goes i c) (Goes j d) = (i ≡ j) × J i c d
OutcomesAlike P J (Gives v) (Gives w) = v ≡ w
OutcomesAlike P J Traps Traps = Unit {0}
OutcomesAlike P J Asks Asks = Unit {0}
OutcomesAlike P J Breaks Breaks = Unit {0}
OutcomesAlike P J _ _ = ⊥
