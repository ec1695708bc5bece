-- The effect of items on two states that agree.
use Rattle.std.specs.Prelude.{◌≡◌, ℕ, Option, Some, None, true}
use Rattle.sem_simulation.specs.rv64_instr.declared.place.Place.{Place}
use Rattle.sem_simulation.specs.rv64_instr.Instruction.{Instruction}
use Rattle.sem_simulation.specs.rv64_instr.Row.{row_of}
use Rattle.sem_simulation.specs.rv64_instr.LocationEffects.{is_pure}
use Rattle.sem_simulation.specs.mir_func.declared.item.ItemKind.{ItemKind}
use Rattle.sem_simulation.specs.mir_func.declared.item.ItemKind.TheVariants.{Code, Mark, Phi}
use Rattle.sem_simulation.specs.mir_func.declared.variable.VarId.{VarId}
use Rattle.sem_simulation.specs.mir_func.declared.variable.MarkValue.{MarkValue}
use Rattle.sem_simulation.specs.mir_func.declared.variable.MarkValue.TheVariants.{Nothing}
use Rattle.sem_simulation.specs.mir_func.Graph.{Program}
use Rattle.sem_simulation.specs.sem_mir.State.{Core}
use Rattle.sem_simulation.specs.sem_mir.Step.{do_item}
use Rattle.sem_simulation.specs.sem_mir.Effects.{EndAlike, FallsInto}
use Rattle.sem_agreement.specs.Agreement.{Alike, Depends, HeldAfter, KillDefs}

-- the laws of items of two programs, from cores that agree
pub record ItemsAreAlike (Held : Place → Type 0) (Free : ℕ → Type 0) : Type 0 where
  -- an item of both: both go on, and agree on what it defines too, or have the same final outcome
  pub both : (f g : Program) (k : ItemKind) (c d : Core) → f.sees_pointer ≡ g.sees_pointer →
      Alike Held Free c d → Depends f g Held k c d → EndAlike (Alike (HeldAfter Held k) Free) (do_item f k c) (do_item g k d)
  -- a mark or a phi that is undef in the second, whatever it reads in the first
  pub silent_mark : (f g : Program) (v : VarId) (m : MarkValue) (c d : Core) → Alike Held Free c d →
      EndAlike (Alike Held Free) (do_item f (Mark v m) c) (do_item g (Mark v Nothing) d)
  pub silent_phi : (f g : Program) (p : Option Place) (n : ℕ) (c d : Core) → Alike Held Free c d →
      EndAlike (Alike Held Free) (do_item f (Phi p n) c) (do_item g (Phi None n) d)
  -- pure code of the first alone, whose number has no value in the second: if it falls through, the cores agree but on
  -- what it defines
  pub alone : (f : Program) (i : Instruction) (n : Option ℕ) (c d : Core) → is_pure (row_of i) ≡ true →
      Alike Held Free c d → ((k : ℕ) → n ≡ Some k → (Free k → ⊥) → (o : ℕ) → d.pairs k o ≡ None) →
      FallsInto (λ e. Alike (KillDefs Held i) Free e d) (do_item f (Code i n) c)
  -- a phi of the second alone, with a free number
  pub free_phi : (g : Program) (p : Option Place) (n : ℕ) (c d : Core) → Free n → Alike Held Free c d →
      FallsInto (λ e. Alike Held Free c e) (do_item g (Phi p n) d)
