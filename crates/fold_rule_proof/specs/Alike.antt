-- The effect of branches and jumps with new targets, compared with the old ones.
use Rattle.std.specs.Prelude.{◌≡◌, ◌⊎◌, ℕ}
use Rattle.mir_func.specs.declared.exit.Exit.TheVariants.{Perhaps, Always}
use Rattle.mir_func.specs.declared.item.Item.{Item}
use Rattle.mir_func.specs.declared.location.Loc.{Loc}
use Rattle.mir_func.specs.declared.position.Origin.{Origin}
use Rattle.mir_func.specs.Exits.{exit_of}
use Rattle.mir_func.specs.Graph.{Program}
use Rattle.sem_mir.specs.State.{Core}
use Rattle.sem_mir.specs.Step.{Outcome, Falls, Goes, Gives, Traps, Asks, Breaks, do_item}
use Rattle.fold_rule.specs.Turned.{sent, turned, made_jump}

-- a jump elsewhere becomes a jump to this block
abbrev pub aimed_at : ℕ → Outcome → Outcome
aimed_at n (Goes t c) = Goes n c
aimed_at n (Falls c) = Falls c
aimed_at n (Gives v) = Gives v
aimed_at n Traps = Traps
aimed_at n Asks = Asks
aimed_at n Breaks = Breaks

-- a jump elsewhere becomes falling through, and falling through becomes a jump to this block
abbrev pub swapped : ℕ → Outcome → Outcome
swapped n (Goes t c) = Falls c
swapped n (Falls c) = Goes n c
swapped n (Gives v) = Gives v
swapped n Traps = Traps
swapped n Asks = Asks
swapped n Breaks = Breaks

-- the effects of the branches and jumps that folding retargets, inverts or adds
pub record FoldedItemsDoAlike : Type 0 where
  -- a retargeted branch or jump has the same effect, but goes to the new target
  pub sent : (g : Program) (x : Item) (t n : ℕ) (c : Core) → (exit_of x.kind ≡ Perhaps t) ⊎ (exit_of x.kind ≡ Always t) →
      do_item g (sent n x).kind c ≡ aimed_at n (do_item g x.kind c)
  -- an inverted branch goes to the new target exactly if it wasn't taken before
  pub turned : (g : Program) (x : Item) (t n : ℕ) (c : Core) → exit_of x.kind ≡ Perhaps t →
      do_item g (turned n x).kind c ≡ swapped n (do_item g x.kind c)
  -- a new jump goes to its target, and has no other effect
  pub made : (g : Program) (n : ℕ) (o : Origin) (l : Loc) (c : Core) → do_item g (made_jump n o l).kind c ≡ Goes n c
