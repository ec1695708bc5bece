-- From what items do to the words of the laws on lists of items.
use Rattle.std.proofs.Common.{◌≡◌, ℕ, Option, Some, None, Bool, true, false, cond, refl, sym}
use Rattle.sem_simulation.specs.rv64_instr.declared.place.Place.{Place}
use Rattle.sem_simulation.specs.rv64_instr.Row.{Row, Loads, LoadsSlot, Unfit, row_of}
use Rattle.sem_simulation.specs.rv64_instr.DefsAndUses.{reads}
use Rattle.sem_simulation.specs.rv64_instr.LocationEffects.{is_pure, is_call}
use Rattle.sem_simulation.specs.rv64_instr.Arithmetic.{load_width}
use Rattle.sem_simulation.specs.mir_func.declared.item.Item.{Item}
use Rattle.sem_simulation.specs.mir_func.declared.item.ItemKind.{ItemKind}
use Rattle.sem_simulation.specs.mir_func.declared.item.ItemKind.TheVariants.{Code, Mark, Phi}
use Rattle.sem_simulation.specs.mir_func.Graph.{Program}
use Rattle.sem_simulation.specs.sem_mir.State.{Core}
use Rattle.sem_simulation.specs.sem_mir.Step.{Outcome, Falls, Goes, Gives, Traps, Asks, Breaks, act, does, are_written, with_core, numbered, slot_loaded}
use Rattle.sem_simulation.specs.sem_mir.Step.{do_item, is_fault, address_at}
use Rattle.sem_simulation.specs.sem_mir.Align.{is_code}
use Rattle.sem_simulation.specs.sem_mir.Effects.{EndAlike, FallsInto}
use Rattle.sem_simulation.specs.InPlace.{FallsOrTraps}
use Rattle.sem_simulation.specs.MatchStates.{ShowsSame, Does, DoBoth}
use Rattle.sem_agreement.specs.Agreement.{Alike}

-- a debug item of each
pub does_both : (R : Core → Core → Type 0) (f g : Program) (x y : Item) (c d : Core) → is_code x.kind ≡ false → is_code y.kind ≡ false →
    EndAlike R (do_item f x.kind c) (do_item g y.kind d) → DoBoth f g x y c d R
does_both R f g x y c d none none' h = by_kinds x.kind y.kind none none' h where
  by_kinds : (k l : ItemKind) → is_code k ≡ false → is_code l ≡ false → EndAlike R (do_item f k c) (do_item g l d) →
      (e e' : Core) × (do_item f k c ≡ Falls e) × (do_item g l d ≡ Falls e') × R e e'
  by_kinds (Code i n) l none none' h = cc
  by_kinds (Mark v m) (Code i n) none none' h = cc
  by_kinds (Phi p n) (Code i n') none none' h = cc
  by_kinds (Mark v m) (Mark w m') none none' h = (_, _, refl, refl, h)
  by_kinds (Mark v m) (Phi p n) none none' h = (_, _, refl, refl, h)
  by_kinds (Phi p n) (Mark w m') none none' h = (_, _, refl, refl, h)
  by_kinds (Phi p n) (Phi p' n') none none' h = (_, _, refl, refl, h)

-- a debug item of one alone
pub does_one : (P : Core → Type 0) (g : Program) (y : Item) (d : Core) → is_code y.kind ≡ false → FallsInto P (do_item g y.kind d) → Does g y d P
does_one P g y d none h = by_kind y.kind none h where
  by_kind : (k : ItemKind) → is_code k ≡ false → FallsInto P (do_item g k d) → (e : Core) × (do_item g k d ≡ Falls e) × P e
  by_kind (Code i n) none h = cc
  by_kind (Mark v m) none h = (_, refl, h)
  by_kind (Phi p n) none h = (_, refl, h)

-- code that falls through or traps, and has a form
pub falls_or_traps : (may : Type 0) (P : Core → Type 0) (x : Outcome) → may → (x ≡ Breaks → ⊥) → FallsInto P x → FallsOrTraps may P x
falls_or_traps may P (Falls c) m form h = h
falls_or_traps may P (Goes n c) m form h = absurd h
falls_or_traps may P (Gives v) m form h = absurd h
falls_or_traps may P Traps m form h = m
falls_or_traps may P Asks m form h = absurd h
falls_or_traps may P Breaks m form h = form refl

-- what is alike shows the same, where the second tells none more
pub shows_alike : (Held : Place → Type 0) (Free : ℕ → Type 0) (c d : Core) → Alike Held Free c d → ShowsSame c d
shows_alike Held Free c d h = record { events = sym h.held.world.events; told = h.told.marks }

-- pure code that has a form
abbrev pub OnPure : ItemKind → Type 0
OnPure (Code i n) = (is_pure (row_of i) ≡ true) × (row_of i ≡ Unfit → ⊥)
OnPure (Mark v m) = ⊥
OnPure (Phi p n) = ⊥

-- it never breaks
on_test : (b : Bool) (x y : Outcome) → (x ≡ Breaks → ⊥) → (y ≡ Breaks → ⊥) → cond b x y ≡ Breaks → ⊥
on_test true x y h k e = h e
on_test false x y h k e = k e

does_form : (r : Row) (c : Core) → is_pure r ≡ true → (r ≡ Unfit → ⊥) → does r c ≡ Breaks → ⊥
unfolding does
does_form (Loads rd op b o) c p u e = on_test (is_fault b c (address_at c b o) (load_width op)) Traps (Falls _) (λ k. cc) (λ k. cc) e
does_form (LoadsSlot rd n) c p u e = by_slot (c.slots n) e where
  by_slot : (x : Option ℕ) → slot_loaded rd c x ≡ Breaks → ⊥
  by_slot None e = cc
  by_slot (Some v) e = cc
does_form Unfit c p u e = u refl
does_form _ c p u e = cc

act_form : (r : Row) (c : Core) → is_pure r ≡ true → (r ≡ Unfit → ⊥) → act r c ≡ Breaks → ⊥
unfolding act
act_form r c p u e = on_test (are_written c (reads r)) (does r c) Traps (does_form r c p u) (λ k. cc) e

pub pure_form : (g : Program) (k : ItemKind) (c : Core) → OnPure k → do_item g k c ≡ Breaks → ⊥
pure_form g (Code i n) c h e = by_outcome (act (row_of i) c) (act_form (row_of i) c h.0 h.1) e where
  by_outcome : (x : Outcome) → (x ≡ Breaks → ⊥) → with_core (numbered g.sees_pointer (is_call (row_of i)) n i.operands) x ≡ Breaks → ⊥
  by_outcome (Falls c) f e = cc
  by_outcome (Goes n c) f e = cc
  by_outcome (Gives v) f e = cc
  by_outcome Traps f e = cc
  by_outcome Asks f e = cc
  by_outcome Breaks f e = f refl
pure_form g (Mark v m) c h e = absurd h
pure_form g (Phi p n) c h e = absurd h
