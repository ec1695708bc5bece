-- Refinement of a program f by a program g: g does the same, step for step, except for what it leaves out. If f's run refines a
-- source's, so does g's.
use Rattle.std.specs.Prelude.{◌≡◌, ◌⊎◌, ℕ, Option, Some, None}
use Rattle.sem_mir.specs.mir_func.declared.position.Pos.{Pos}
use Rattle.sem_mir.specs.mir_func.declared.variable.VarId.{VarId}
use Rattle.sem_mir.specs.State.{State, RunResult}
use Rattle.sem_mir.specs.Step.{Went, Returned, Faulted, step}
use Rattle.sem_mir.specs.mir_func.Graph.{Program}
use Rattle.sem_mir.specs.Align.{SyncPoint, IsOrigin, Arrives, Since, Start, Same, After, since_of, AnyOrigin, Tells, RunsMatch}

-- the position at which the source may still be at the next station
abbrev pub waiting : Since → Pos → Option Pos
waiting Start p = None
waiting Same p = Some p
waiting After p = None

-- why f's station j may be passed before g's next station, which is at position p, if the source may still be at `last`: g has no
-- station with j's position, and the source isn't still at p; or j is at p, and the source may wait there; or the source may still
-- be at j's position, which isn't p
pub data MayPass (gs : Pos → Option SyncPoint) (p : Pos) (last : Option Pos) (j : SyncPoint) : Type 0 where
  gone : (IsOrigin gs j.pos → ⊥) → (last ≡ Some p → ⊥) → MayPass gs p last j
  early : j.pos ≡ p → since_of j.waits ≡ Same → MayPass gs p last j
  late : last ≡ Some j.pos → (j.pos ≡ p → ⊥) → MayPass gs p last j

-- f's run leads from one state to another, past stations that may be passed before p
pub data Walk (f : Program) (fs gs : Pos → Option SyncPoint) (p : Pos) : Option Pos → State → State → Type 0 where
  there : {last : Option Pos} {u : State} → Walk f fs gs p last u u
  on : {last : Option Pos} {u v w : State} → fs u.pos ≡ None → step f u ≡ Went v → Walk f fs gs p last v w → Walk f fs gs p last u w
  past : {last : Option Pos} {u v w : State} (j : SyncPoint) → fs u.pos ≡ Some j → MayPass gs p last j → step f u ≡ Went v →
      Walk f fs gs p (waiting (since_of j.waits) j.pos) v w → Walk f fs gs p last u w

-- f's run leads past stations that may be passed before p, to one at another position than p, at which it stops on a frame fault
pub data IsDoomed (f : Program) (fs gs : Pos → Option SyncPoint) (p : Pos) : Option Pos → State → Type 0 where
  faults : {last : Option Pos} {u : State} (j : SyncPoint) → fs u.pos ≡ Some j → MayPass gs p last j → (j.pos ≡ p → ⊥) → step f u ≡ Faulted →
      IsDoomed f fs gs p last u
  later : {last : Option Pos} {u v : State} → fs u.pos ≡ None → step f u ≡ Went v → IsDoomed f fs gs p last v → IsDoomed f fs gs p last u
  later_past : {last : Option Pos} {u v : State} (j : SyncPoint) → fs u.pos ≡ Some j → MayPass gs p last j → step f u ≡ Went v →
      IsDoomed f fs gs p (waiting (since_of j.waits) j.pos) v → IsDoomed f fs gs p last u

-- g's run leads on past positions that are no stations
pub data Passes (g : Program) (gs : Pos → Option SyncPoint) : State → State → Type 0 where
  still : {t : State} → Passes g gs t t
  pass : {t u v : State} → gs t.pos ≡ None → step g t ≡ Went u → Passes g gs u v → Passes g gs t v

-- g at its station i and f at a station of the same position agree, and are related after it; or f stops there on a frame fault,
-- and the source must leave the position
pub record Meets (f g : Program) (fs : Pos → Option SyncPoint) (R : Option Pos → State → State → Type 0) (t w : State) (i : SyncPoint) : Type 0 where
  pub sync_point : SyncPoint
  pub stands : fs w.pos ≡ Some sync_point
  pub pos : sync_point.pos ≡ i.pos
  pub since : since_of sync_point.waits ≡ since_of i.waits
  pub events : t.core.events ≡ w.core.events
  pub told : (v : VarId) (x : ℕ) → Tells t v x → Tells w v x
  pub returns : (result : RunResult) → step g t ≡ Returned result → step f w ≡ Returned result
  pub faults : step g t ≡ Faulted → step f w ≡ Faulted
  pub goes : (t' : State) → step g t ≡ Went t' → ((w' : State) × (step f w ≡ Went w') × R (waiting (since_of i.waits) i.pos) t' w') ⊎
      ((since_of i.waits ≡ After) × (step f w ≡ Faulted))

-- the source's run from s0 reaches the position, and stops there on a frame fault
abbrev pub FaultsAt : (src : Program) (s0 : State) → Pos → Type 0
FaultsAt src s0 p = (s : State) × Arrives src (λ q. ⊥) p s0 s × (step src s ≡ Faulted)

-- g's run leads on past positions that are no stations, and past stations of position p at which the source may wait
pub data Lingers (g : Program) (gs : Pos → Option SyncPoint) (p : Pos) : State → State → Type 0 where
  stays : {t : State} → Lingers g gs p t t
  goes_by : {t u v : State} → gs t.pos ≡ None → step g t ≡ Went u → Lingers g gs p u v → Lingers g gs p t v
  waits_by : {t u v : State} (i : SyncPoint) → gs t.pos ≡ Some i → i.pos ≡ p → since_of i.waits ≡ Same → step g t ≡ Went u → Lingers g gs p u v →
      Lingers g gs p t v

-- g at t has the events of f at w, and no values of variables but f's, and doesn't return
pub record Idles (g : Program) (w t : State) : Type 0 where
  pub events : t.core.events ≡ w.core.events
  pub told : (v : VarId) (x : ℕ) → Tells t v x → Tells w v x
  pub returns : (result : RunResult) → step g t ≡ Returned result → ⊥

-- f stops on a frame fault at w, at the position of g's station i, which g reached at t; if the source's run stops on a frame
-- fault there, g idles as long as it lingers there
pub record Halts (src f g : Program) (s0 : State) (fs gs : Pos → Option SyncPoint) (t w : State) (i : SyncPoint) : Type 0 where
  pub sync_point : SyncPoint
  pub stands : fs w.pos ≡ Some sync_point
  pub pos : sync_point.pos ≡ i.pos
  pub faults : step f w ≡ Faulted
  pub idles : FaultsAt src s0 i.pos → (t1 : State) (j : SyncPoint) → Lingers g gs i.pos t t1 → gs t1.pos ≡ Some j → j.pos ≡ i.pos → Idles g w t1

-- f stops on a frame fault before the position of g's station i, which g reached at t, or at that position
pub data IsStuck (src f g : Program) (s0 : State) (fs gs : Pos → Option SyncPoint) (last : Option Pos) (t u : State) (i : SyncPoint) : Type 0 where
  doomed : IsDoomed f fs gs i.pos last u → IsStuck src f g s0 fs gs last t u i
  halted : (w : State) → Walk f fs gs i.pos last u w → Halts src f g s0 fs gs t w i → IsStuck src f g s0 fs gs last t u i

-- the same, whichever station g reaches next
pub record IsStuckFrom (src f g : Program) (s0 : State) (fs gs : Pos → Option SyncPoint) (last : Option Pos) (t u : State) : Type 0 where
  pub on_the_way : (t1 : State) (i : SyncPoint) → Passes g gs t t1 → gs t1.pos ≡ Some i → IsStuck src f g s0 fs gs last t1 u i

-- R last t u relates the states t of g and u of f right after the last station that both matched; the source may still be at
-- `last`
pub record Refines (src f g : Program) (s0 : State) (fs gs : Pos → Option SyncPoint) (R : Option Pos → State → State → Type 0) : Type 0 where
  pub origins : (p : Pos) → IsOrigin gs p → IsOrigin fs p
  -- between stations g takes steps alone
  pub between : (last : Option Pos) (t u t' : State) → R last t u → gs t.pos ≡ None → step g t ≡ Went t' → R last t' u ⊎ IsStuckFrom src f g s0 fs gs last t u
  -- at a station of g, f reaches one of the same position
  pub meets : (last : Option Pos) (t u : State) (i : SyncPoint) → R last t u → gs t.pos ≡ Some i →
      ((w : State) × Walk f fs gs i.pos last u w × Meets f g fs R t w i) ⊎ IsStuck src f g s0 fs gs last t u i

-- If f's run refines the source's, and g refines f, g's run refines the source's.
abbrev pub RefinementFollows : (Option Pos → State → State → Type 0) → Type 0
RefinementFollows R = (src f g : Program) (fs gs : Pos → Option SyncPoint) (s0 f0 g0 : State) →
    RunsMatch src f fs (AnyOrigin fs) s0 f0 → Refines src f g s0 fs gs R → R None g0 f0 → RunsMatch src g gs (AnyOrigin gs) s0 g0
