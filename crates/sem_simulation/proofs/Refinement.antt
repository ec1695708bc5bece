-- What refines a program that follows a source, follows it too.
use Rattle.std.proofs.Common.{◌≡◌, Option, Some, None, Bool, true, false, refl, sym, ap, ◌∙◌, subst, inl, inr, ◌⊎◌}
use Rattle.sem_mir.specs.mir_func.declared.position.Pos.{Pos}
use Rattle.sem_mir.specs.State.{State}
use Rattle.sem_mir.specs.Step.{Went, Faulted, step}
use Rattle.sem_mir.specs.mir_func.Graph.{Program}
use Rattle.sem_mir.specs.Align.{SyncPoint, IsOrigin, Arrives, here, onward, ArrivesLater, Since, Start, Same, After, since_of, MatchesNext, AnyOrigin}
use Rattle.sem_mir.specs.Align.{MatchedUpTo}
use Rattle.sem_mir.specs.Align.{begin, other, met, Fails, fails_here, fails_on, FailsLater, FailsBefore, Agrees, RunsMatch}
use Rattle.sem_simulation.specs.Refinement.{waiting, MayPass, gone, early, late, Walk, there, on, past, IsDoomed, faults, later, later_past, Passes, still}
use Rattle.sem_simulation.specs.Refinement.{pass}
use Rattle.sem_simulation.specs.Refinement.{FaultsAt, Lingers, stays, goes_by, waits_by, Halts, IsStuck, doomed, halted, IsStuckFrom, Meets, Refines}
use Rattle.sem_simulation.specs.Refinement.{RefinementFollows}
use Rattle.sem_simulation.proofs.Order.{cases_pos}
use Rattle.sem_mir.proofs.Alignment.{aligns_at, aligns_once, aligns_fewer, aligns_not_fails, fails_before_fewer}

-- after a station the source isn't at its start
pub since_not_start : (b : Bool) → since_of b ≡ Start → ⊥
since_not_start true e = cc
since_not_start false e = cc

module _ (src : Program) (A : Pos → Type 0) (p : Pos) where
  -- past a position that doesn't stop it
  arrives_past : (q : Pos) → (A q → ⊥) → {s t x : State} → Arrives src A q s t → ArrivesLater src A p t x → Arrives src A p s x
  arrives_past q ne (here e) (u, go, rest) = onward (λ a. ne (subst A e a)) go rest
  arrives_past q ne (onward free go more) st = onward free go (arrives_past q ne more st)

  later_past_position : (q : Pos) → (A q → ⊥) → (s t x : State) → ArrivesLater src A q s t → ArrivesLater src A p t x → ArrivesLater src A p s x
  later_past_position q ne s t x (u, go, rest) st = (u, go, arrives_past q ne rest st)

  -- an alignment that isn't where the source stands comes later
  aligns_later : (m : Since) (s x : State) → (m ≡ Start → ⊥) → (s.pos ≡ p → ⊥) → MatchesNext src A p m s x → ArrivesLater src A p s x
  aligns_later Start s x ns ne a = absurd (ns refl)
  aligns_later Same s x ns ne (inl a) = absurd (ne a.0)
  aligns_later Same s x ns ne (inr a) = a.1
  aligns_later After s x ns ne a = a

  -- past an alignment at another position, which doesn't stop it
  aligns_past : (q : Pos) → (A q → ⊥) → (q ≡ p → ⊥) → (m : Since) (s t x : State) → (m ≡ Same → s.pos ≡ p → ⊥) → MatchesNext src A q m s t →
      ArrivesLater src A p t x → MatchesNext src A p m s x
  aligns_past q ne d Start s t x far a st = arrives_past q ne a st
  aligns_past q ne d Same s t x far (inl a) st = inr (λ e. d (sym a.0 ∙ e), subst (λ (y : State). ArrivesLater src A p y x) (sym a.1) st)
  aligns_past q ne d Same s t x far (inr a) st = inr (far refl, later_past_position q ne s t x a.1 st)
  aligns_past q ne d After s t x far a st = later_past_position q ne s t x a st

-- a fault past positions that don't stop it
module _ (src : Program) (A : Pos → Type 0) (q : Pos) (ne : A q → ⊥) where
  fails_past : {s t : State} → Arrives src A q s t → FailsLater src A t → Fails src A s
  fails_past (here e) (inl f) = fails_here (λ a. ne (subst A e a)) f
  fails_past (here e) (inr (u, go, rest)) = fails_on (λ a. ne (subst A e a)) go rest
  fails_past (onward free go more) f = fails_on free go (fails_past more f)

  later_fails_past : (s t : State) → ArrivesLater src A q s t → FailsLater src A t → FailsLater src A s
  later_fails_past s t (u, go, rest) f = inr (u, go, fails_past rest f)

  before_past : (p : Pos) → (q ≡ p → ⊥) → (m : Since) (s t : State) → (m ≡ Same → s.pos ≡ p → ⊥) → MatchesNext src A q m s t → FailsLater src A t →
      FailsBefore src A p m s
  before_past p d Start s t far a f = fails_past a f
  before_past p d Same s t far (inl a) f = (far refl, subst (FailsLater src A) (sym a.1) f)
  before_past p d Same s t far (inr a) f = (far refl, later_fails_past s t a.1 f)
  before_past p d After s t far a f = later_fails_past s t a f

fails_later_of : (src : Program) (A : Pos → Type 0) (p : Pos) (m : Since) (s : State) → (m ≡ Start → ⊥) → FailsBefore src A p m s → FailsLater src A s
fails_later_of src A p Start s ns f = absurd (ns refl)
fails_later_of src A p Same s ns f = f.1
fails_later_of src A p After s ns f = f

-- where the source waits at the position already, it stays
stays_at : (src : Program) (A : Pos → Type 0) (q : Pos) (s t : State) → s.pos ≡ q → MatchesNext src A q Same s t → s ≡ t
stays_at src A q s t e (inl a) = a.1
stays_at src A q s t e (inr a) = absurd (a.0 e)

-- past a station that may be passed, what comes next for f comes next for what was there before
module _ (src : Program) (gs : Pos → Option SyncPoint) (p : Pos) (gp : IsOrigin gs p) where
  abbrev O : Pos → Type 0
  O q = IsOrigin gs q

  passes : (j : SyncPoint) (last : Option Pos) → MayPass gs p last j → (m : Since) (s s' x : State) → last ≡ waiting m s.pos → MatchesNext src O j.pos m s s' →
      MatchesNext src O p (since_of j.waits) s' x → MatchesNext src O p m s x
  passes j last (gone none far) m s s' x known a b =
      let d : j.pos ≡ p → ⊥ = λ e. none (subst O (sym e) gp) in
      let at = aligns_at src O j.pos m s s' a in
      let st = aligns_later src O p (since_of j.waits) s' x (since_not_start j.waits) (λ e. d (sym at ∙ e)) b in
      aligns_past src O p j.pos none d m s s' x (λ e h. far (known ∙ ap (λ (n : Since). waiting n s.pos) e ∙ ap Some h)) a st
  passes j last (early e same) m s s' x known a b =
      let at = aligns_at src O j.pos m s s' a ∙ e in
      let b' = subst (λ (n : Since). MatchesNext src O p n s' x) same b in
      let stay = stays_at src O p s' x at b' in
      subst (λ (y : State). MatchesNext src O p m s y) stay (subst (λ (q : Pos). MatchesNext src O q m s s') e a)
  passes j last (late e d) Start s s' x known a b = let bad : None ≡ Some j.pos = sym known ∙ e in cc
  passes j last (late e d) Same s s' x known a b =
      let k : Some s.pos ≡ Some j.pos = sym known ∙ e in
      let at : s.pos ≡ j.pos = cc in
      let stay = stays_at src O j.pos s s' at a in
      let far : s.pos ≡ p → ⊥ = λ h. d (sym at ∙ h) in
      let st = aligns_later src O p (since_of j.waits) s' x (since_not_start j.waits) (λ h. far (ap (λ (y : State). y.pos) stay ∙ h)) b in
      inr (far, subst (λ (y : State). ArrivesLater src O p y x) (sym stay) st)
  passes j last (late e d) After s s' x known a b = let bad : None ≡ Some j.pos = sym known ∙ e in cc

  -- and so do faults
  passes_fails : (j : SyncPoint) (last : Option Pos) → MayPass gs p last j → (m : Since) (s s' : State) → last ≡ waiting m s.pos →
      MatchesNext src O j.pos m s s' →
      FailsBefore src O p (since_of j.waits) s' → FailsBefore src O p m s
  passes_fails j last (gone none far) m s s' known a f =
      let d : j.pos ≡ p → ⊥ = λ e. none (subst O (sym e) gp) in
      before_past src O j.pos none p d m s s' (λ e h. far (known ∙ ap (λ (n : Since). waiting n s.pos) e ∙ ap Some h)) a
      (fails_later_of src O p (since_of j.waits) s' (since_not_start j.waits) f)
  passes_fails j last (early e same) m s s' known a f =
      let f' = subst (λ (n : Since). FailsBefore src O p n s') same f in
      absurd (f'.0 (aligns_at src O j.pos m s s' a ∙ e))
  passes_fails j last (late e d) Start s s' known a f = let bad : None ≡ Some j.pos = sym known ∙ e in cc
  passes_fails j last (late e d) Same s s' known a f =
      let k : Some s.pos ≡ Some j.pos = sym known ∙ e in
      let at : s.pos ≡ j.pos = cc in
      let stay = stays_at src O j.pos s s' at a in
      (λ h. d (sym at ∙ h), subst (FailsLater src O) (sym stay) (fails_later_of src O p (since_of j.waits) s' (since_not_start j.waits) f))
  passes_fails j last (late e d) After s s' known a f = let bad : None ≡ Some j.pos = sym known ∙ e in cc

  -- a fault before such a station is one before p
  fails_there : (j : SyncPoint) (last : Option Pos) → MayPass gs p last j → (m : Since) (s : State) → last ≡ waiting m s.pos → FailsBefore src O j.pos m s →
      FailsBefore src O p m s
  fails_there j last may Start s known f = f
  fails_there j last may After s known f = f
  fails_there j last (gone none far) Same s known f = (λ h. far (known ∙ ap Some h), f.1)
  fails_there j last (early e same) Same s known f = (λ h. f.0 (h ∙ sym e), f.1)
  fails_there j last (late e d) Same s known f = let k : Some s.pos ≡ Some j.pos = sym known ∙ e in let at : s.pos ≡ j.pos = cc in absurd (f.0 at)

  -- a fault at such a station, which isn't at p
  fault_at : (j : SyncPoint) (s' : State) → s'.pos ≡ j.pos → (j.pos ≡ p → ⊥) → step src s' ≡ Faulted → FailsBefore src O p (since_of j.waits) s'
  fault_at j s' at ne f = by_since j.waits where
    by_since : (w : Bool) → FailsBefore src O p (since_of w) s'
    by_since true = (λ h. ne (sym at ∙ h), inl f)
    by_since false = inl f

-- where the source comes, whatever stops it on its way for f
module _ (src : Program) where
  comes_on : {A : Pos → Type 0} {p : Pos} {s t x : State} → Arrives src A p s t → Arrives src (λ q. ⊥) x.pos t x → Arrives src (λ q. ⊥) x.pos s x
  comes_on (here e) k = k
  comes_on (onward free go rest) k = onward (λ b. b) go (comes_on rest k)

  comes_aligned : (A : Pos → Type 0) (p : Pos) (m : Since) (s t : State) → MatchesNext src A p m s t → Arrives src (λ q. ⊥) t.pos s t
  comes_aligned A p Start s t a = comes_on a (here refl)
  comes_aligned A p Same s t (inl a) = subst (λ (y : State). Arrives src (λ q. ⊥) t.pos y t) (sym a.1) (here refl)
  comes_aligned A p Same s t (inr (ne, (u, go, rest))) = onward (λ b. b) go (comes_on rest (here refl))
  comes_aligned A p After s t (u, go, rest) = onward (λ b. b) go (comes_on rest (here refl))

  comes_along : (f : Program) (fs : Pos → Option SyncPoint) (Stops : Pos → Pos → Type 0) (s0 f0 : State) {t s : State} {m : Since} →
      MatchedUpTo src f fs Stops s0 f0 t s m → Arrives src (λ q. ⊥) s.pos s0 s
  comes_along f fs Stops s0 f0 begin = here refl
  comes_along f fs Stops s0 f0 (other a e go) = comes_along f fs Stops s0 f0 a
  comes_along f fs Stops s0 f0 (met {s = s} {s' = s'} {m = m} i a e al go) =
      comes_on (comes_along f fs Stops s0 f0 a) (comes_aligned (Stops i.pos) i.pos m s s' al)

module _ (src f g : Program) (fs gs : Pos → Option SyncPoint) (R : Option Pos → State → State → Type 0) (s0 f0 g0 : State)
    (follows : RunsMatch src f fs (AnyOrigin fs) s0 f0) (refines : Refines src f g s0 fs gs R) where
  abbrev AlongF : State → State → Since → Type 0
  AlongF u s m = MatchedUpTo src f fs (AnyOrigin fs) s0 f0 u s m

  fewer : (p : Pos) (m : Since) (s t : State) → MatchesNext src (IsOrigin fs) p m s t → MatchesNext src (IsOrigin gs) p m s t
  fewer p m s t a = aligns_fewer src (IsOrigin fs) (IsOrigin gs) refines.origins p m s t a

  fewer_fails : (p : Pos) (m : Since) (s : State) → FailsBefore src (IsOrigin fs) p m s → FailsBefore src (IsOrigin gs) p m s
  fewer_fails p m s a = fails_before_fewer src (IsOrigin fs) (IsOrigin gs) refines.origins p m s a

  -- the source, which waits at s, stops there; as long as g is at its position both agree
  abbrev IsIdle : State → State → Type 0
  IsIdle t s = (t1 : State) (j : SyncPoint) → Lingers g gs s.pos t t1 → gs t1.pos ≡ Some j → j.pos ≡ s.pos → Agrees src g t1 s

  -- the source stops at s, and g, at t, owes no more than that
  abbrev Over : State → State → Since → Type 0
  Over t s m = (step src s ≡ Faulted) × ((m ≡ After) ⊎ ((m ≡ Same) × IsIdle t s))

  -- on the way to position p: the source was at sg when g's last station was met
  module _ (p : Pos) (gp : IsOrigin gs p) (mg : Since) (sg : State) where
    abbrev Fault : Type 0
    Fault = FailsBefore src (IsOrigin gs) p mg sg

    -- f is at w, the source aligned at s, and what comes next for it comes next for g
    record Reached (w : State) : Type 0 where
      m : Since
      s : State
      along : AlongF w s m
      next : (x : State) → MatchesNext src (IsOrigin gs) p m s x → MatchesNext src (IsOrigin gs) p mg sg x
      bad : FailsBefore src (IsOrigin gs) p m s → Fault

    abbrev At : State → State → Since → Option Pos → Type 0
    At u s m last = AlongF u s m × (last ≡ waiting m s.pos) × ((x : State) → MatchesNext src (IsOrigin gs) p m s x → MatchesNext src (IsOrigin gs) p mg sg x) ×
        (FailsBefore src (IsOrigin gs) p m s → Fault)

    -- past a station
    beyond : (u v : State) (m : Since) (s : State) (last : Option Pos) (j : SyncPoint) → At u s m last → fs u.pos ≡ Some j → MayPass gs p last j →
        step f u ≡ Went v → ((s' : State) × At v s' (since_of j.waits) (waiting (since_of j.waits) j.pos)) ⊎ Fault
    beyond u v m s last j (a, known, next, bad) e may st =
        elim (follows u s m j a e) as (λ z. ((s' : State) × At v s' (since_of j.waits) (waiting (since_of j.waits) j.pos)) ⊎ Fault) [
          | inl z ↦
              let al = fewer j.pos m s z.0 z.1 in
              inl (
                z.0,
                (
                  met j a e z.1 st,
                  ap (waiting (since_of j.waits)) (sym (aligns_at src (IsOrigin gs) j.pos m s z.0 al)),
                  λ x b. next x (passes src gs p gp j last may m s z.0 x known al b),
                  λ b. bad (passes_fails src gs p gp j last may m s z.0 known al b),
                ),
              )
          | inr z ↦ inr (bad (fails_there src gs p gp j last may m s known (fewer_fails j.pos m s z)))
        ]

    walks : {last : Option Pos} {u w : State} → Walk f fs gs p last u w → (m : Since) (s : State) → At u s m last → Reached w ⊎ Fault
    walks there m s (a, known, next, bad) = inl (record { m = m; s = s; along = a; next = next; bad = bad })
    walks (on e st rest) m s (a, known, next, bad) = walks rest m s (other a e st, known, next, bad)
    walks (past {last = last} {u = u} {v = v} {w = w} j e may st rest) m s at =
        elim (beyond u v m s last j at e may st) as (λ z. Reached w ⊎ Fault) [
          | inl z ↦ walks rest (since_of j.waits) z.0 z.1
          | inr z ↦ inr z
        ]

    -- where f is doomed, the source fails before p
    fails_doomed : {last : Option Pos} {u : State} → IsDoomed f fs gs p last u → (m : Since) (s : State) → At u s m last → Fault
    fails_doomed (faults {last = last} {u = u} j e may ne st) m s (a, known, next, bad) =
        elim (follows u s m j a e) as (λ z. Fault) [
          | inl z ↦
              let al = fewer j.pos m s z.0 z.1 in
              bad (passes_fails src gs p gp j last may m s z.0 known al
              (fault_at src gs p gp j z.0 (aligns_at src (IsOrigin gs) j.pos m s z.0 al) ne (z.2.faults st)))
          | inr z ↦ bad (fails_there src gs p gp j last may m s known (fewer_fails j.pos m s z))
        ]
    fails_doomed (later e st rest) m s (a, known, next, bad) = fails_doomed rest m s (other a e st, known, next, bad)
    fails_doomed (later_past {last = last} {u = u} {v = v} j e may st rest) m s at =
        elim (beyond u v m s last j at e may st) as (λ z. Fault) [
          | inl z ↦ fails_doomed rest (since_of j.waits) z.0 z.1
          | inr z ↦ z
        ]

    -- after a station g is related with f, or the source is over
    abbrev Goes : State → State → SyncPoint → Type 0
    Goes t' to i = ((w' : State) × AlongF w' to (since_of i.waits) × R (waiting (since_of i.waits) i.pos) t' w') ⊎ Over t' to (since_of i.waits)

    -- g at its station, and the source's state to which f comes there
    record Met (t : State) (i : SyncPoint) : Type 0 where
      to : State
      aligns : MatchesNext src (IsOrigin gs) p mg sg to
      agrees : Agrees src g t to
      goes : (t' : State) → step g t ≡ Went t' → Goes t' to i

    meets_there : (t w : State) (i : SyncPoint) → i.pos ≡ p → Meets f g fs R t w i → Reached w → Met t i ⊎ Fault
    meets_there t w i ip k r =
        elim (follows w r.s r.m k.sync_point r.along k.stands) as (λ z. Met t i ⊎ Fault) [
          | inl y ↦
              let al = subst (λ (q : Pos). MatchesNext src (IsOrigin gs) q r.m r.s y.0) (k.pos ∙ ip) (fewer k.sync_point.pos r.m r.s y.0 y.1) in
              inl (record {
                to = y.0;
                aligns = r.next y.0 al;
                agrees = record {
                  events = k.events ∙ y.2.events;
                  told = λ v x h. y.2.told v x (k.told v x h);
                  returns = λ rs h. y.2.returns rs (k.returns rs h);
                  faults = λ h. y.2.faults (k.faults h);
                };
                goes = λ t' h. elim (k.goes t' h) as (λ _. Goes t' y.0 i) [
                  | inl w' ↦ inl (w'.0, subst (λ (n : Since). AlongF w'.0 y.0 n) k.since (met k.sync_point r.along k.stands y.1 w'.1), w'.2)
                  | inr z ↦ inr (y.2.faults z.1, inl z.0)
                ];
              })
          | inr y ↦ inr (r.bad (subst (λ (q : Pos). FailsBefore src (IsOrigin gs) q r.m r.s) (k.pos ∙ ip) (fewer_fails k.sync_point.pos r.m r.s y)))
        ]

    -- f stops at g's station, and so does the source
    halts_there : (t w : State) (i : SyncPoint) → i.pos ≡ p → gs t.pos ≡ Some i → Halts src f g s0 fs gs t w i → Reached w → Met t i ⊎ Fault
    halts_there t w i ip e k r =
        elim (follows w r.s r.m k.sync_point r.along k.stands) as (λ z. Met t i ⊎ Fault) [
          | inl y ↦ inl (meets_halted y.0 y.1 y.2)
          | inr y ↦ inr (r.bad (subst (λ (q : Pos). FailsBefore src (IsOrigin gs) q r.m r.s) (k.pos ∙ ip) (fewer_fails k.sync_point.pos r.m r.s y)))
        ] where
          meets_halted : (s : State) → MatchesNext src (IsOrigin fs) k.sync_point.pos r.m r.s s → Agrees src f w s → Met t i
          meets_halted s al ag = record {
            to = s;
            aligns = r.next s
                (subst (λ (q : Pos). MatchesNext src (IsOrigin gs) q r.m r.s s) (k.pos ∙ ip) (fewer k.sync_point.pos r.m r.s s al));
            agrees = agree t i stays e refl;
            goes = λ t' go. inr (stopped, by_since t' go i.waits refl);
          } where
            at : s.pos ≡ i.pos
            at = aligns_at src (IsOrigin fs) k.sync_point.pos r.m r.s s al ∙ k.pos

            stopped : step src s ≡ Faulted
            stopped = ag.faults k.faults

            faulted : FaultsAt src s0 i.pos
            faulted = (
              s,
              subst (λ (q : Pos). Arrives src (λ z. ⊥) q s0 s) at
                  (comes_on src (comes_along src f fs (AnyOrigin fs) s0 f0 r.along) (comes_aligned src (IsOrigin fs) k.sync_point.pos r.m r.s s al)),
              stopped,
            )

            agree : (t1 : State) (j : SyncPoint) → Lingers g gs i.pos t t1 → gs t1.pos ≡ Some j → j.pos ≡ i.pos → Agrees src g t1 s
            agree t1 j l e jp = let d = k.idles faulted t1 j l e jp in record {
              events = d.events ∙ ag.events;
              told = λ v x h. ag.told v x (d.told v x h);
              returns = λ rs h. absurd (d.returns rs h);
              faults = λ h. stopped;
            }

            by_since : (t' : State) → step g t ≡ Went t' → (b : Bool) → i.waits ≡ b → (since_of b ≡ After) ⊎ ((since_of b ≡ Same) × IsIdle t' s)
            by_since t' go false w = inl refl
            by_since t' go true w =
                inr (refl, λ t1 j l ej jp. agree t1 j (waits_by i e refl (ap since_of w) go (subst (λ (q : Pos). Lingers g gs q t' t1) at l)) ej (jp ∙ at))

    start_at : (u : State) (last : Option Pos) → AlongF u sg mg → last ≡ waiting mg sg.pos → At u sg mg last
    start_at u last a known = (a, known, λ x c. c, λ b. b)

    stuck : (last : Option Pos) (t u : State) (i : SyncPoint) → i.pos ≡ p → gs t.pos ≡ Some i → At u sg mg last → IsStuck src f g s0 fs gs last t u i →
        Met t i ⊎
        Fault
    stuck last t u i ip e at (doomed d) = inr (fails_doomed (subst (λ (q : Pos). IsDoomed f fs gs q last u) ip d) mg sg at)
    stuck last t u i ip e at (halted w walk k) =
        elim (walks (subst (λ (q : Pos). Walk f fs gs q last u w) ip walk) mg sg at) as (λ z. Met t i ⊎ Fault) [
          | inl z ↦ halts_there t w i ip e k z
          | inr z ↦ inr z
        ]

    meet : (last : Option Pos) (t u : State) (i : SyncPoint) → i.pos ≡ p → R last t u → gs t.pos ≡ Some i → AlongF u sg mg → last ≡ waiting mg sg.pos →
        Met t i ⊎
        Fault
    meet last t u i ip r e a known =
        elim (refines.meets last t u i r e) as (λ z. Met t i ⊎ Fault) [
          | inl d ↦
              elim (walks (subst (λ (q : Pos). Walk f fs gs q last u d.0) ip d.1) mg sg (start_at u last a known)) as (λ z. Met t i ⊎ Fault) [
                | inl z ↦ meets_there t d.0 i ip d.2 z
                | inr z ↦ inr z
              ]
          | inr d ↦ stuck last t u i ip e (start_at u last a known) d
        ]

  -- g at t is related with f, and the source is where f has it
  record Tied (t s : State) (m : Since) : Type 0 where
    last : Option Pos
    u : State
    along : AlongF u s m
    known : last ≡ waiting m s.pos
    related : R last t u ⊎ IsStuckFrom src f g s0 fs gs last t u

  module _ (begins : R None g0 f0) where
    origin_of : (t : State) (i : SyncPoint) → gs t.pos ≡ Some i → IsOrigin gs i.pos
    origin_of t i e = record { place = t.pos; sync_point = i; stands = e; from = refl }

    tied_meets : (t s : State) (m : Since) (i : SyncPoint) (e : gs t.pos ≡ Some i) → Tied t s m → Met i.pos (origin_of t i e) m s t i ⊎
        FailsBefore src (IsOrigin gs) i.pos m s
    tied_meets t s m i e z =
        elim z.related as (λ _. Met i.pos (origin_of t i e) m s t i ⊎ FailsBefore src (IsOrigin gs) i.pos m s) [
          | inl r ↦ meet i.pos (origin_of t i e) m s z.last t z.u i refl r e z.along z.known
          | inr d ↦ stuck i.pos (origin_of t i e) m s z.last t z.u i refl e (start_at i.pos (origin_of t i e) m s z.u z.last z.along z.known)
              (d.on_the_way t i still e)
        ]

    -- where the source is over, g's next station is at its position, and owes what it did, or the fault comes before it
    over_meets : (t s : State) (m : Since) (i : SyncPoint) → gs t.pos ≡ Some i → Over t s m → ((m ≡ Same) × (s.pos ≡ i.pos) × IsIdle t s) ⊎
        FailsBefore src (IsOrigin gs) i.pos m s
    over_meets t s m i e (st, inl af) = inr (subst (λ (n : Since). FailsBefore src (IsOrigin gs) i.pos n s) (sym af) (inl st))
    over_meets t s m i e (st, inr z) =
        elim (cases_pos s.pos i.pos) as (λ _. ((m ≡ Same) × (s.pos ≡ i.pos) × IsIdle t s) ⊎ FailsBefore src (IsOrigin gs) i.pos m s) [
          | inl at ↦ inl (z.0, at, z.1)
          | inr ne ↦ inr (subst (λ (n : Since). FailsBefore src (IsOrigin gs) i.pos n s) (sym z.0) (ne, inl st))
        ]

    -- g goes on past a station of the source's position
    over_past : (t s s' t' : State) (i : SyncPoint) → gs t.pos ≡ Some i → step src s ≡ Faulted → s.pos ≡ i.pos → IsIdle t s → s ≡ s' → step g t ≡ Went t' →
        Over t' s' (since_of i.waits)
    over_past t s s' t' i e st at idle same go = subst (λ (y : State). Over t' y (since_of i.waits)) same (st, by_since i.waits refl) where
      by_since : (b : Bool) → i.waits ≡ b → (since_of b ≡ After) ⊎ ((since_of b ≡ Same) × IsIdle t' s)
      by_since false w = inl refl
      by_since true w = inr (refl, λ t1 j l ej jp. idle t1 j (waits_by i e (sym at) (ap since_of w) go l) ej jp)

    tied : {t s : State} {m : Since} → MatchedUpTo src g gs (AnyOrigin gs) s0 g0 t s m → Tied t s m ⊎ Over t s m
    tied begin = inl (record { last = None; u = f0; along = begin; known = refl; related = inl begins })
    tied (other {t = t} {s = s} {t' = t'} {m = m} a e st) =
        elim (tied a) as (λ z. Tied t' s m ⊎ Over t' s m) [
          | inl z ↦ inl (record {
            last = z.last;
            u = z.u;
            along = z.along;
            known = z.known;
            related = elim z.related as (λ _. R z.last t' z.u ⊎ IsStuckFrom src f g s0 fs gs z.last t' z.u) [
              | inl r ↦ elim (refines.between z.last t z.u t' r e st) as (λ _. R z.last t' z.u ⊎ IsStuckFrom src f g s0 fs gs z.last t' z.u) [
                | inl y ↦ inl y
                | inr d ↦ inr (record { on_the_way = λ t1 i w h. d.on_the_way t1 i (pass e st w) h })
              ]
              | inr d ↦ inr (record { on_the_way = λ t1 i w h. d.on_the_way t1 i (pass e st w) h })
            ];
          })
          | inr z ↦ inr (
            z.0,
            elim z.1
                as (λ _. (m ≡ After) ⊎ ((m ≡ Same) × IsIdle t' s)) [ inl w ↦ inl w | inr w ↦ inr (w.0, λ t1 j l ej jp. w.1 t1 j (goes_by e st l) ej jp) ],
          )
        ]
    tied (met {t = t} {s = s} {s' = s'} {t' = t'} {m = m} i a e al st) =
        let o = origin_of t i e in
        let since = since_of i.waits in
        elim (tied a) as (λ z. Tied t' s' since ⊎ Over t' s' since) [
          | inl z ↦
              elim (tied_meets t s m i e z) as (λ y. Tied t' s' since ⊎ Over t' s' since) [
                | inl y ↦
                    let same = aligns_once src (IsOrigin gs) i.pos o m s y.to s' y.aligns al in
                    elim (y.goes t' st) as (λ _. Tied t' s' since ⊎ Over t' s' since) [
                      | inl w ↦ inl (record {
                        last = waiting since i.pos;
                        u = w.0;
                        along = subst (λ (x : State). AlongF w.0 x since) same w.1;
                        known = ap (waiting since) (sym (aligns_at src (IsOrigin gs) i.pos m s s' al));
                        related = inl w.2;
                      })
                      | inr w ↦ inr (subst (λ (x : State). Over t' x since) same w)
                    ]
                | inr y ↦ absurd (aligns_not_fails src (IsOrigin gs) i.pos o m s s' al y)
              ]
          | inr z ↦
              elim (over_meets t s m i e z) as (λ y. Tied t' s' since ⊎ Over t' s' since) [
                | inl y ↦ inr (over_past t s s' t' i e z.0 y.1 y.2
                    (stays_at src (IsOrigin gs) i.pos s s' y.1 (subst (λ (n : Since). MatchesNext src (IsOrigin gs) i.pos n s s') y.0 al)) st)
                | inr y ↦ absurd (aligns_not_fails src (IsOrigin gs) i.pos o m s s' al y)
              ]
        ]

    pub still_follows : RunsMatch src g gs (AnyOrigin gs) s0 g0
    still_follows t s m i a e =
        elim (tied a) as (λ z. ((s' : State) × MatchesNext src (IsOrigin gs) i.pos m s s' × Agrees src g t s') ⊎ FailsBefore src (IsOrigin gs) i.pos m s) [
          | inl z ↦
              elim (tied_meets t s m i e z)
              as (λ y. ((s' : State) × MatchesNext src (IsOrigin gs) i.pos m s s' × Agrees src g t s') ⊎ FailsBefore src (IsOrigin gs) i.pos m s) [
                | inl y ↦ inl (y.to, y.aligns, y.agrees)
                | inr y ↦ inr y
              ]
          | inr z ↦
              elim (over_meets t s m i e z)
              as (λ y. ((s' : State) × MatchesNext src (IsOrigin gs) i.pos m s s' × Agrees src g t s') ⊎ FailsBefore src (IsOrigin gs) i.pos m s) [
                | inl y ↦ inl (s, subst (λ (n : Since). MatchesNext src (IsOrigin gs) i.pos n s s) (sym y.0) (inl (y.1, refl)), y.2 t i stays e (sym y.1))
                | inr y ↦ inr y
              ]
        ]

-- f is doomed on the way to g's next station, whichever it is
pub record IsDoomedFrom (f g : Program) (fs gs : Pos → Option SyncPoint) (last : Option Pos) (t u : State) : Type 0 where
  pub on_the_way : (t1 : State) (i : SyncPoint) → Passes g gs t t1 → gs t1.pos ≡ Some i → IsDoomed f fs gs i.pos last u

-- it is enough that f is doomed where it stops
module _ (src f g : Program) (s0 : State) (fs gs : Pos → Option SyncPoint) (R : Option Pos → State → State → Type 0)
    (origins : (p : Pos) → IsOrigin gs p → IsOrigin fs p)
    (between : (last : Option Pos) (t u t' : State) → R last t u → gs t.pos ≡ None → step g t ≡ Went t' → R last t' u ⊎ IsDoomedFrom f g fs gs last t u)
    (meets : (last : Option Pos) (t u : State) (i : SyncPoint) → R last t u → gs t.pos ≡ Some i →
    ((w : State) × Walk f fs gs i.pos last u w × Meets f g fs R t w i) ⊎ IsDoomed f fs gs i.pos last u) where
  pub refines_or_doomed : Refines src f g s0 fs gs R
  refines_or_doomed = record {
    origins = origins;
    between = λ last t u t' r e st. elim (between last t u t' r e st) as (λ _. R last t' u ⊎ IsStuckFrom src f g s0 fs gs last t u) [
      | inl y ↦ inl y
      | inr d ↦ inr (record { on_the_way = λ t1 i w h. doomed (d.on_the_way t1 i w h) })
    ];
    meets = λ last t u i r e. elim (meets last t u i r e)
        as (λ _. ((w : State) × Walk f fs gs i.pos last u w × Meets f g fs R t w i) ⊎ IsStuck src f g s0 fs gs last t u i) [
          | inl y ↦ inl y
          | inr d ↦ inr (doomed d)
        ];
  }

pub refinement_follows : (R : Option Pos → State → State → Type 0) → RefinementFollows R
refinement_follows R src f g fs gs s0 f0 g0 follows refines begins = still_follows src f g fs gs R s0 f0 g0 follows refines begins
