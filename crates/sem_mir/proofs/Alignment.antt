-- Where the source arrives is one state, and it arrives there in a number of steps.
use Rattle.std.proofs.Common.{◌≡◌, ℕ, suc, refl, sym, ap, ◌∙◌, subst, inl, inr}
use Rattle.mir_func.specs.declared.position.Pos.{Pos}
use Rattle.sem_mir.specs.State.{State}
use Rattle.sem_mir.specs.Step.{Went, Faulted, step, run}
use Rattle.mir_func.specs.Graph.{Program}
use Rattle.sem_mir.specs.Align.{Arrives, here, onward, ArrivesLater, Since, Start, Same, After, MatchesNext, Fails, fails_here, fails_on, FailsLater}
use Rattle.sem_mir.specs.Align.{FailsBefore}
use Rattle.sem_mir.proofs.Runs.{run_steps}

-- a program's step has one result
pub went_once : (g : Program) (s u v : State) → step g s ≡ Went u → step g s ≡ Went v → u ≡ v
went_once g s u v a b = let w : Went u ≡ Went v = sym a ∙ b in cc

module _ (src : Program) (Stops : Pos → Type 0) (p : Pos) where
  -- it arrives in a number of steps, at the position
  pub arrives_in : {s t : State} → Arrives src Stops p s t → (n : ℕ) × (run src n s ≡ Went t)
  arrives_in (here e) = (0, refl)
  arrives_in (onward {s = s} {u = u} ne go rest) = let k = arrives_in rest in (suc k.0, run_steps src k.0 s u go ∙ k.1)

  pub arrives_at : {s t : State} → Arrives src Stops p s t → t.pos ≡ p
  arrives_at (here e) = e
  arrives_at (onward ne go rest) = arrives_at rest

  -- the aligned state stands at the position
  pub aligns_at : (m : Since) (s t : State) → MatchesNext src Stops p m s t → t.pos ≡ p
  aligns_at Start s t a = arrives_at a
  aligns_at Same s t (inl a) = ap (λ (x : State). x.pos) (sym a.1) ∙ a.0
  aligns_at Same s t (inr (ne, (u, go, rest))) = arrives_at rest
  aligns_at After s t (u, go, rest) = arrives_at rest

  module _ (stops : Stops p) where
    -- two runs that stop at the position arrive at one state
    pub arrives_once : {s t s' t' : State} → Arrives src Stops p s t → s ≡ s' → Arrives src Stops p s' t' → t ≡ t'
    arrives_once (here e) q (here e') = q
    arrives_once (here {s = s} e) q (onward {s = s'} ne go rest) = absurd (ne (subst Stops (sym e ∙ ap (λ (x : State). x.pos) q) stops))
    arrives_once (onward {s = s} ne go rest) q (here {s = s'} e) = absurd (ne (subst Stops (sym (ap (λ (x : State). x.pos) q ∙ e)) stops))
    arrives_once (onward {s = s} {u = u} ne go rest) q (onward {s = s'} {u = u'} ne' go' rest') =
        arrives_once rest (went_once src s u u' go (ap (step src) q ∙ go')) rest'

    arrives_later_once : (s t t' : State) → ArrivesLater src Stops p s t → ArrivesLater src Stops p s t' → t ≡ t'
    arrives_later_once s t t' (u, go, rest) (u', go', rest') = arrives_once rest (went_once src s u u' go go') rest'

    -- so the aligned state is unique
    pub aligns_once : (m : Since) (s t t' : State) → MatchesNext src Stops p m s t → MatchesNext src Stops p m s t' → t ≡ t'
    aligns_once Start s t t' a b = arrives_once a refl b
    aligns_once Same s t t' (inl a) (inl b) = sym a.1 ∙ b.1
    aligns_once Same s t t' (inl a) (inr b) = absurd (b.0 a.0)
    aligns_once Same s t t' (inr a) (inl b) = absurd (a.0 b.0)
    aligns_once Same s t t' (inr a) (inr b) = arrives_later_once s t t' a.1 b.1
    aligns_once After s t t' a b = arrives_later_once s t t' a b

    -- a run that arrives doesn't fail before
    arrives_not_fails : {s t s' : State} → Arrives src Stops p s t → s ≡ s' → Fails src Stops s' → ⊥
    arrives_not_fails (here {s = s} e) q (fails_here {s = s'} ne go) = ne (subst Stops (sym (ap (λ (x : State). x.pos) (sym q) ∙ e)) stops)
    arrives_not_fails (here {s = s} e) q (fails_on {s = s'} ne go rest) = ne (subst Stops (sym (ap (λ (x : State). x.pos) (sym q) ∙ e)) stops)
    arrives_not_fails (onward {s = s} {u = u} ne go rest) q (fails_here {s = s'} ne' go') = let bad : Went u ≡ Faulted = sym go ∙ ap (step src) q ∙ go' in cc
    arrives_not_fails (onward {s = s} {u = u} ne go rest) q (fails_on {s = s'} {u = u'} ne' go' more) =
        arrives_not_fails rest (went_once src s u u' go (ap (step src) q ∙ go')) more

    later_not_fails : (s t : State) → ArrivesLater src Stops p s t → FailsLater src Stops s → ⊥
    later_not_fails s t (u, go, rest) (inl f) = let bad : Went u ≡ Faulted = sym go ∙ f in cc
    later_not_fails s t (u, go, rest) (inr (u', go', more)) = arrives_not_fails rest (went_once src s u u' go go') more

    -- so where there is an aligned state, the source doesn't fail before it
    pub aligns_not_fails : (m : Since) (s t : State) → MatchesNext src Stops p m s t → FailsBefore src Stops p m s → ⊥
    aligns_not_fails Start s t a f = arrives_not_fails a refl f
    aligns_not_fails Same s t (inl a) f = f.0 a.0
    aligns_not_fails Same s t (inr a) f = later_not_fails s t a.1 f.1
    aligns_not_fails After s t a f = later_not_fails s t a f

-- where fewer positions stop it, the source still arrives
module _ (src : Program) (More Fewer : Pos → Type 0) (fewer : (q : Pos) → Fewer q → More q) (p : Pos) where
  pub arrives_fewer : {s t : State} → Arrives src More p s t → Arrives src Fewer p s t
  arrives_fewer (here e) = here e
  arrives_fewer (onward {s = s} ne go rest) = onward (λ b. ne (fewer s.pos b)) go (arrives_fewer rest)

  pub aligns_fewer : (m : Since) (s t : State) → MatchesNext src More p m s t → MatchesNext src Fewer p m s t
  aligns_fewer Start s t a = arrives_fewer a
  aligns_fewer Same s t (inl a) = inl a
  aligns_fewer Same s t (inr (ne, (u, go, rest))) = inr (ne, (u, go, arrives_fewer rest))
  aligns_fewer After s t (u, go, rest) = (u, go, arrives_fewer rest)

  pub fails_fewer : {s : State} → Fails src More s → Fails src Fewer s
  fails_fewer (fails_here {s = s} ne go) = fails_here (λ b. ne (fewer s.pos b)) go
  fails_fewer (fails_on {s = s} ne go rest) = fails_on (λ b. ne (fewer s.pos b)) go (fails_fewer rest)

  pub fails_later_fewer : (s : State) → FailsLater src More s → FailsLater src Fewer s
  fails_later_fewer s (inl f) = inl f
  fails_later_fewer s (inr (u, go, rest)) = inr (u, go, fails_fewer rest)

  pub fails_before_fewer : (m : Since) (s : State) → FailsBefore src More p m s → FailsBefore src Fewer p m s
  fails_before_fewer Start s f = fails_fewer f
  fails_before_fewer Same s f = (f.0, fails_later_fewer s f.1)
  fails_before_fewer After s f = fails_later_fewer s f
