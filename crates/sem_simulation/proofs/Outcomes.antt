-- Steps that return or stop on a frame fault, and outcomes that are alike.
use Rattle.std.proofs.Common.{◌≡◌, ℕ, refl, sym, ap, ◌∙◌}
use Rattle.sem_mir.specs.mir_func.declared.position.Pos.{Pos}
use Rattle.sem_mir.specs.State.{Core, State, RunResult}
use Rattle.sem_mir.specs.Step.{Returned, Faulted, Outcome, Falls, Goes, Gives, Traps, Asks, Breaks, moved, step}
use Rattle.sem_mir.specs.mir_func.Graph.{Program}
use Rattle.sem_mir.specs.Effects.{EndAlike}
use Rattle.sem_mir.specs.Align.{Since, After}
use Rattle.sem_simulation.specs.MatchStates.{OutcomesAlike}
use Rattle.sem_simulation.specs.InPlace.{TrapsAlone}

pub returns_gives : (enter : ℕ → ℕ) (p : Pos) (o : Outcome) (v : RunResult) → moved enter p o ≡ Returned v → o ≡ Gives v
returns_gives enter p (Gives w) v e = cc
returns_gives enter p (Falls c) v e = cc
returns_gives enter p (Goes n c) v e = cc
returns_gives enter p Traps v e = cc
returns_gives enter p Asks v e = cc
returns_gives enter p Breaks v e = cc

pub faults_traps : (enter : ℕ → ℕ) (p : Pos) (o : Outcome) → moved enter p o ≡ Faulted → o ≡ Traps
faults_traps enter p Traps e = refl
faults_traps enter p (Falls c) e = cc
faults_traps enter p (Goes n c) e = cc
faults_traps enter p (Gives v) e = cc
faults_traps enter p Asks e = cc
faults_traps enter p Breaks e = cc

-- x is what f does, and y what g does
module _ (f g : Program) (v t : State) (x y : Outcome) (go_f : step f v ≡ moved f.enter v.pos x) (go : step g t ≡ moved g.enter t.pos y) where
  pub both_return : ((w : RunResult) → y ≡ Gives w → x ≡ Gives w) → (w : RunResult) → step g t ≡ Returned w → step f v ≡ Returned w
  both_return alike w e = go_f ∙ ap (moved f.enter v.pos) (alike w (returns_gives g.enter t.pos y w (sym go ∙ e)))

  pub both_fault : (y ≡ Traps → x ≡ Traps) → step g t ≡ Faulted → step f v ≡ Faulted
  both_fault alike e = go_f ∙ ap (moved f.enter v.pos) (alike (faults_traps g.enter t.pos y (sym go ∙ e)))

module _ (P : Core → Core → Type 0) (J : ℕ → Core → Core → Type 0) where
  -- where one of two that are alike is a return or a trap, so is the other
  pub alike_gives : (x y : Outcome) → OutcomesAlike P J x y → (v : RunResult) → y ≡ Gives v → x ≡ Gives v
  alike_gives (Gives w) (Gives z) h v e = ap Gives h ∙ e
  alike_gives (Falls c) (Falls d) h v e = cc
  alike_gives (Goes i c) (Goes j d) h v e = cc
  alike_gives Traps Traps h v e = cc
  alike_gives Asks Asks h v e = cc
  alike_gives Breaks Breaks h v e = cc
  alike_gives _ _ h v e = absurd h

  pub alike_traps : (x y : Outcome) → OutcomesAlike P J x y → y ≡ Traps → x ≡ Traps
  alike_traps Traps Traps h e = refl
  alike_traps (Gives w) (Gives z) h e = cc
  alike_traps (Falls c) (Falls d) h e = cc
  alike_traps (Goes i c) (Goes j d) h e = cc
  alike_traps Asks Asks h e = cc
  alike_traps Breaks Breaks h e = cc
  alike_traps _ _ h e = absurd h

  -- from outcomes whose cores are related in one way
  pub alike_of : (R : Core → Core → Type 0) (x y : Outcome) → ((c d : Core) → R c d → P c d) → ((i : ℕ) (c d : Core) → x ≡ Goes i c → R c d → J i c d) →
      EndAlike R x y → OutcomesAlike P J x y
  alike_of R (Falls c) (Falls d) falls goes h = falls c d h
  alike_of R (Goes i c) (Goes j d) falls goes h = (h.0, goes i c d refl h.1)
  alike_of R (Gives v) (Gives w) falls goes h = h
  alike_of R Traps Traps falls goes h = tt
  alike_of R Asks Asks falls goes h = tt
  alike_of R Breaks Breaks falls goes h = tt
  alike_of R _ _ falls goes h = absurd h

-- where f's outcome alone is a trap
module _ (m : Since) where
  pub alone_trap : (x y : Outcome) → TrapsAlone m x y → x ≡ Traps
  alone_trap Traps y h = refl
  alone_trap _ y h = absurd h

  pub alone_after : (x y : Outcome) → TrapsAlone m x y → m ≡ After
  alone_after Traps (Gives v) h = absurd h
  alone_after Traps (Falls d) h = h
  alone_after Traps (Goes i d) h = h
  alone_after Traps Traps h = h
  alone_after Traps Asks h = h
  alone_after Traps Breaks h = h
  alone_after _ y h = absurd h

  pub alone_gives : (x y : Outcome) → TrapsAlone m x y → (v : RunResult) → y ≡ Gives v → x ≡ Gives v
  alone_gives Traps (Gives w) h v e = absurd h
  alone_gives Traps (Falls d) h v e = cc
  alone_gives Traps (Goes i d) h v e = cc
  alone_gives Traps Traps h v e = cc
  alone_gives Traps Asks h v e = cc
  alone_gives Traps Breaks h v e = cc
  alone_gives _ y h v e = absurd h
