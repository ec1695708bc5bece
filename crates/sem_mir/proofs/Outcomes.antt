-- What an item does, in two runs side by side.
use Rattle.std.proofs.Common.{◌≡◌, ℕ, List, ◌∷◌, Bool, true, false, cond, refl, sym, ap, ◌∙◌, subst}
use Rattle.mir_func.specs.declared.position.Pos.{Pos}
use Rattle.mir_func.specs.declared.item.Item.{Item}
use Rattle.mir_func.specs.rv64_instr.DefsAndUses.{caller_saved}
use Rattle.mir_func.specs.rv64_instr.declared.start.CallTarget.{CallTarget}
use Rattle.sem_mir.specs.State.{State, Core, Reply, Called, put_all, without, written, RunResult}
use Rattle.sem_mir.specs.Step.{Went, Returned, Faulted, Outcome, Falls, Goes, Gives, Traps, Asks, Breaks, moved, with_core, do_item, do_fetch, step}
use Rattle.mir_func.specs.Graph.{Program, Fetch, Here, EndOfBlock, below, block_start}
use Rattle.sem_mir.specs.Effects.{OnCore, EndAlike}

-- the core after a call that is answered
abbrev pub after_reply : CallTarget → (args outgoing : List ℕ) → Core → Reply → (rest : List Reply) → Core
after_reply target args outgoing c r rest = record c {
  regs = put_all caller_saved r.regs c.regs;
  slots = without outgoing c.slots;
  memory = written c.memory r.writes;
  script = rest;
  events = Called target args ∷ c.events;
}

pub on_either : (P : Core → Type 0) (b : Bool) (x y : Outcome) → OnCore P x → OnCore P y → OnCore P (cond b x y)
on_either P true x y a b = a
on_either P false x y a b = b

pub on_weaker : (P R : Core → Type 0) → ((c : Core) → P c → R c) → (x : Outcome) → OnCore P x → OnCore R x
on_weaker P R f (Falls c) h = f c h
on_weaker P R f (Goes n c) h = f c h
on_weaker P R f (Gives v) h = tt
on_weaker P R f Traps h = tt
on_weaker P R f Asks h = tt
on_weaker P R f Breaks h = tt

pub alike_either : (R : Core → Core → Type 0) (b : Bool) (x y x' y' : Outcome) → EndAlike R x x' → EndAlike R y y' → EndAlike R (cond b x y) (cond b x' y')
alike_either R true x y x' y' a b = a
alike_either R false x y x' y' a b = b

pub alike_weaker : (R S : Core → Core → Type 0) → ((c d : Core) → R c d → S c d) → (x y : Outcome) → EndAlike R x y → EndAlike S x y
alike_weaker R S f (Falls c) (Falls d) h = f c d h
alike_weaker R S f (Goes m c) (Goes n d) h = (h.0, f c d h.1)
alike_weaker R S f (Gives v) (Gives w) h = h
alike_weaker R S f Traps Traps h = tt
alike_weaker R S f Asks Asks h = tt
alike_weaker R S f Breaks Breaks h = tt
alike_weaker R S f _ _ h = absurd h

-- both cores changed afterwards
pub alike_with : (R S : Core → Core → Type 0) (j k : Core → Core) → ((c d : Core) → R c d → S (j c) (k d)) → (x y : Outcome) → EndAlike R x y →
    EndAlike S (with_core j x) (with_core k y)
alike_with R S j k f (Falls c) (Falls d) h = f c d h
alike_with R S j k f (Goes m c) (Goes n d) h = (h.0, f c d h.1)
alike_with R S j k f (Gives v) (Gives w) h = h
alike_with R S j k f Traps Traps h = tt
alike_with R S j k f Asks Asks h = tt
alike_with R S j k f Breaks Breaks h = tt
alike_with R S j k f _ _ h = absurd h

pub alike_refl : (R : Core → Core → Type 0) → ((c : Core) → R c c) → (x : Outcome) → EndAlike R x x
alike_refl R f (Falls c) = f c
alike_refl R f (Goes n c) = (refl, f c)
alike_refl R f (Gives v) = refl
alike_refl R f Traps = tt
alike_refl R f Asks = tt
alike_refl R f Breaks = tt

-- one step of each, from the same position
module _ (R : Core → Core → Type 0) (enter : ℕ → ℕ) (p : Pos) where
  pub alike_went : (x y : Outcome) → EndAlike R x y → (t : State) → moved enter p y ≡ Went t →
      (s : State) × (moved enter p x ≡ Went s) × (t.pos ≡ s.pos) × R s.core t.core
  alike_went (Falls c) (Falls d) h t e =
      let made : State = record { pos = below p; core = d } in
      let w : made ≡ t = cc in
      (record { pos = below p; core = c }, refl, ap (λ (z : State). z.pos) (sym w), subst (λ (z : State). R c z.core) w h)
  alike_went (Goes m c) (Goes n d) h t e =
      let made : State = record { pos = block_start (enter n); core = d } in
      let w : made ≡ t = cc in (
        record { pos = block_start (enter m); core = c },
        refl,
        ap (λ (z : State). z.pos) (sym w) ∙ ap (λ (k : ℕ). block_start (enter k)) (sym h.0),
        subst (λ (z : State). R c z.core) w h.1,
      )
  alike_went (Gives v) (Gives w) h t e = cc
  alike_went Traps Traps h t e = cc
  alike_went Asks Asks h t e = cc
  alike_went Breaks Breaks h t e = cc
  alike_went _ _ h t e = absurd h

  pub alike_returns : (x y : Outcome) → EndAlike R x y → (v : RunResult) → moved enter p y ≡ Returned v → moved enter p x ≡ Returned v
  alike_returns (Falls c) (Falls d) h v e = cc
  alike_returns (Goes m c) (Goes n d) h v e = cc
  alike_returns (Gives w) (Gives z) h v e = ap Returned h ∙ e
  alike_returns Traps Traps h v e = cc
  alike_returns Asks Asks h v e = cc
  alike_returns Breaks Breaks h v e = cc
  alike_returns _ _ h v e = absurd h

  pub alike_faults : (x y : Outcome) → EndAlike R x y → moved enter p y ≡ Faulted → moved enter p x ≡ Faulted
  alike_faults (Falls c) (Falls d) h e = cc
  alike_faults (Goes m c) (Goes n d) h e = cc
  alike_faults (Gives w) (Gives z) h e = cc
  alike_faults Traps Traps h e = refl
  alike_faults Asks Asks h e = cc
  alike_faults Breaks Breaks h e = cc
  alike_faults _ _ h e = absurd h

-- a step of an item that is known
pub step_item : (g : Program) (s : State) (i : Item) (x : Outcome) → g.fetch s.pos ≡ Here i → do_item g i.kind s.core ≡ x → step g s ≡ moved g.enter s.pos x
step_item g s i x f e = ap (λ (z : Fetch). moved g.enter s.pos (do_fetch g z s.core)) f ∙ ap (moved g.enter s.pos) e

-- a step past a block's end
pub step_end : (g : Program) (s : State) (k n : ℕ) → g.fetch s.pos ≡ EndOfBlock k n → step g s ≡ Went (record { pos = block_start (g.enter n); core = s.core })
step_end g s k n f = ap (λ (z : Fetch). moved g.enter s.pos (do_fetch g z s.core)) f
