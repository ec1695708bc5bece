-- Where more positions stop the source: what comes next for f comes next for g.
use Rattle.std.proofs.Common.{◌≡◌, Option, refl, sym, ◌∙◌, subst, inl, inr, List}
use Rattle.sem_mir.specs.mir_func.declared.position.Pos.{Pos}
use Rattle.sem_mir.specs.State.{State}
use Rattle.sem_mir.specs.Step.{Went, Faulted, step}
use Rattle.sem_mir.specs.mir_func.Graph.{Program, Here, block_start, Edge, Leads}
use Rattle.sem_mir.specs.Align.{SyncPoint, IsOrigin, Arrives, here, onward, ArrivesLater, Since, Start, Same, After, MatchesNext, Fails, fails_here, fails_on}
use Rattle.sem_mir.specs.Align.{FailsLater, FailsBefore}
use Rattle.sem_mir.specs.mir_func.declared.block.Block.{Block}
use Rattle.sem_mir.specs.mir_func.declared.item.Item.{Item}
use Rattle.sem_mir.specs.InitialState.{first_of}
use Rattle.sem_mir.specs.Follow.{OnRow, GoesTo, Shape}
use Rattle.sem_simulation.specs.Added.{IsNeverBack, StopsMore}
use Rattle.sem_mir.proofs.Alignment.{arrives_once, went_once}
use Rattle.sem_mir.proofs.Edges.{step_edge, step_from_before, leads_on}
use Rattle.sem_simulation.proofs.Order.{cases_pos}

-- what steps keep holds where the source arrives
module _ (src : Program) (Reach : Pos → Type 0) (on : (s u : State) → Reach s.pos → step src s ≡ Went u → Reach u.pos) (A : Pos → Type 0) (p : Pos) where
  pub arrives_reaches : {s t : State} → Reach s.pos → Arrives src A p s t → Reach t.pos
  arrives_reaches r (here e) = r
  arrives_reaches r (onward {s = s} {u = u} ne go rest) = arrives_reaches (on s u r go) rest

  pub aligns_reaches : (m : Since) (s t : State) → Reach s.pos → MatchesNext src A p m s t → Reach t.pos
  aligns_reaches Start s t r a = arrives_reaches r a
  aligns_reaches Same s t r (inl a) = subst (λ (z : State). Reach z.pos) a.1 r
  aligns_reaches Same s t r (inr (ne, (u, go, rest))) = arrives_reaches (on s u r go) rest
  aligns_reaches After s t r (u, go, rest) = arrives_reaches (on s u r go) rest

module _ (src : Program) (fs gs : Pos → Option SyncPoint) (Stops : Pos → Pos → Type 0) (X Reach : Pos → Type 0) (home : Pos)
    (more : StopsMore src fs gs Stops X Reach home) (p : Pos) (op : IsOrigin fs p) where
  abbrev O : Pos → Type 0
  O q = IsOrigin fs q

  -- nothing stops the source there that isn't one of f's origins
  abbrev pub IsClear : State → Type 0
  IsClear s = (X s.pos → O s.pos) × (IsNeverBack src Reach home → s.pos ≡ home → ⊥)

  step_clear : (s u : State) → Reach s.pos → (O s.pos → ⊥) → step src s ≡ Went u → IsClear u
  step_clear s u r ne go = (
    λ x. let b = more.below u.pos x in
        absurd (ne (subst O (sym (step_from_before src s u u.pos.block b.0 go (λ i. record { block = u.pos.block; item = b.1 i }))) b.2)),
    λ never e. never s u r go e,
  )

  not_stopped : (s : State) → IsClear s → (O s.pos → ⊥) → Stops p s.pos → ⊥
  not_stopped s clear ne z = elim (more.stops p s.pos op z) as (λ _. ⊥) [ inl y ↦ ne y | inr (inl x) ↦ ne (clear.0 x) | inr (inr k) ↦ clear.1 k.1 k.0 ]

  pub arrives_more : {s t : State} → IsClear s → Reach s.pos → Arrives src O p s t → Arrives src (Stops p) p s t
  arrives_more clear r (here e) = here e
  arrives_more clear r (onward {s = s} {u = u} ne go rest) =
      onward (λ o. elim (more.stops p s.pos op o) as (λ z. ⊥) [ inl y ↦ ne y | inr (inl x) ↦ ne (clear.0 x) | inr (inr k) ↦ clear.1 k.1 k.0 ]) go
      (arrives_more (step_clear s u r ne go) (more.on s u r go) rest)

  pub fails_more : {s : State} → IsClear s → Reach s.pos → Fails src O s → Fails src (Stops p) s
  fails_more clear r (fails_here {s = s} ne go) = fails_here (not_stopped s clear ne) go
  fails_more clear r (fails_on {s = s} {u = u} ne go rest) = fails_on (not_stopped s clear ne) go (fails_more (step_clear s u r ne go) (more.on s u r go) rest)

  -- after a step that comes to no position X but f's origins
  pub later_more : (s x : State) → Reach s.pos → ((u : State) → step src s ≡ Went u → X u.pos → O u.pos) → ArrivesLater src O p s x →
      ArrivesLater src (Stops p) p s x
  later_more s x r clear (u, go, rest) = (u, go, arrives_more (clear u go, λ never e. never s u r go e) (more.on s u r go) rest)

  pub fails_later_more : (s : State) → Reach s.pos → ((u : State) → step src s ≡ Went u → X u.pos → O u.pos) → FailsLater src O s → FailsLater src (Stops p) s
  fails_later_more s r clear (inl f) = inl f
  fails_later_more s r clear (inr (u, go, rest)) = inr (u, go, fails_more (clear u go, λ never e. never s u r go e) (more.on s u r go) rest)

  -- from a state where nothing stops the source
  pub arrives_free : (s x : State) → Reach s.pos → (Stops p s.pos → O s.pos) → Arrives src O p s x → Arrives src (Stops p) p s x
  arrives_free s x r free (here e) = here e
  arrives_free s x r free (onward {u = u} ne go rest) = onward (λ z. ne (free z)) go (arrives_more (step_clear s u r ne go) (more.on s u r go) rest)

  pub fails_free : (s : State) → Reach s.pos → (Stops p s.pos → O s.pos) → Fails src O s → Fails src (Stops p) s
  fails_free s r free (fails_here ne go) = fails_here (λ z. ne (free z)) go
  fails_free s r free (fails_on {u = u} ne go rest) = fails_on (λ z. ne (free z)) go (fails_more (step_clear s u r ne go) (more.on s u r go) rest)

  -- g waits at s, and what f comes to from there comes next
  pub aligns_waiting : (s x : State) → Reach s.pos → Arrives src O p s x → MatchesNext src (Stops p) p Same s x
  aligns_waiting s x r a = elim (cases_pos s.pos p) as (λ z. MatchesNext src (Stops p) p Same s x) [
    | inl at ↦ inl (at, arrives_once src O p op (here at) refl a)
    | inr ne ↦ inr (ne, from_there s x r ne a)
  ] where
    from_there : (s x : State) → Reach s.pos → (s.pos ≡ p → ⊥) → Arrives src O p s x → ArrivesLater src (Stops p) p s x
    from_there s x r ne (here e) = absurd (ne e)
    from_there s x r ne (onward {u = u} nf go rest) = (u, go, arrives_more (step_clear s u r nf go) (more.on s u r go) rest)

  -- or one step further on
  pub aligns_below : (s s1 x : State) → Reach s.pos → step src s ≡ Went s1 → ArrivesLater src O p s x → MatchesNext src (Stops p) p Same s1 x
  aligns_below s s1 x r go (u, go', rest) = aligns_waiting s1 x (more.on s s1 r go)
      (subst (λ (y : State). Arrives src O p y x) (went_once src s u s1 go' go) rest)

  -- and faults before it
  pub fails_waiting : (s : State) → Reach s.pos → Fails src O s → FailsBefore src (Stops p) p Same s
  fails_waiting s r f = (not_there f, by_fault s r f) where
    not_there : {y : State} → Fails src O y → y.pos ≡ p → ⊥
    not_there (fails_here ne go) e = ne (subst O (sym e) op)
    not_there (fails_on ne go rest) e = ne (subst O (sym e) op)

    by_fault : (y : State) → Reach y.pos → Fails src O y → FailsLater src (Stops p) y
    by_fault y r (fails_here ne go) = inl go
    by_fault y r (fails_on {u = u} ne go rest) = inr (u, go, fails_more (step_clear y u r ne go) (more.on y u r go) rest)

  pub fails_below : (s s1 : State) → Reach s.pos → step src s ≡ Went s1 → FailsLater src O s → FailsBefore src (Stops p) p Same s1
  fails_below s s1 r go (inl f) = let bad : Went s1 ≡ Faulted = sym go ∙ f in cc
  fails_below s s1 r go (inr (u, go', rest)) = fails_waiting s1 (more.on s s1 r go) (subst (Fails src O) (went_once src s u s1 go' go) rest)

-- where a path leads, steps lead on
pub leads_kept : (src : Program) (start : Pos) (s u : State) → Leads src start s.pos → step src s ≡ Went u → Leads src start u.pos
leads_kept src start s u reach went = leads_on src reach (step_edge src s u went)

-- where no branch of f goes to the first block, the source never comes back to its start
pub never_back : (src f : List Block) (srcp fp : Program) → Shape src f srcp fp →
    ((p : Pos) (i : Item) → fp.fetch p ≡ Here i → OnRow (GoesTo (first_of src)) i.kind → ⊥) →
    IsNeverBack srcp (Leads srcp (block_start (first_of src))) (block_start (first_of src))
never_back src f srcp fp shape none s u reach went at =
    let b = shape.back s.pos reach (subst (λ (z : Pos). Edge srcp s.pos z) at (step_edge srcp s u went)) in
    none b.0 b.1 b.2 b.3
