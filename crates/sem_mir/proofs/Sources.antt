-- What goes in step with a source follows it: over items, over ends too, and over words; by any origin, and by the first
-- arrival. So a source follows itself.
use Rattle.std.proofs.Common.{◌≡◌, ℕ, Option, Some, None, Bool, true, false, refl, sym, ap, ◌∙◌, subst, inl}
use Rattle.mir_func.specs.declared.position.Pos.{Pos}
use Rattle.mir_func.specs.declared.item.Item.{Item}
use Rattle.sem_mir.specs.State.{State}
use Rattle.sem_mir.specs.Step.{Went, Outcome, Falls, Goes, Gives, Traps, Asks, Breaks, moved, do_item, do_fetch, step}
use Rattle.mir_func.specs.Graph.{Program, Fetch, Here, EndOfBlock, Outside}
use Rattle.mir_func.specs.Positions.{position_of}
use Rattle.sem_mir.specs.Align.{is_code, SyncPoint, Count, ByItems, ByEnds, ByWords, moves_on, waits_at, sync_point_of, item_sync_point}
use Rattle.sem_mir.specs.Align.{end_sync_point}
use Rattle.sem_mir.specs.Align.{fetch_sync_point, sync_point_at, IsOrigin, Arrives, here, onward, Since, MatchesNext, First, AnyOrigin, MatchedUpTo, begin}
use Rattle.sem_mir.specs.Align.{other, met}
use Rattle.sem_mir.specs.Align.{Agrees, RunsMatch}
use Rattle.sem_mir.specs.Follow.{IsWithin, IsSource}
use Rattle.sem_mir.proofs.Alignment.{aligns_once}
use Rattle.sem_mir.proofs.Edges.{falls_below, goes_to_start}

module _ (f : Program) (own : IsSource f) where
  -- a run doesn't come past a block's end
  pub step_within : (t u : State) → step f t ≡ Went u → IsWithin f u.pos
  step_within t u st = by_fetch (f.fetch t.pos) refl st where
    by_outcome : (i : Item) → f.fetch t.pos ≡ Here i → (x : Outcome) → moved f.enter t.pos x ≡ Went u → IsWithin f u.pos
    by_outcome i e (Falls c) st = subst (IsWithin f) (sym (falls_below f.enter t.pos c u st)) (own.falls t.pos i e)
    by_outcome i e (Goes n c) st = subst (IsWithin f) (sym (goes_to_start f.enter t.pos n c u st)) (own.starts (f.enter n))
    by_outcome i e (Gives v) st = cc
    by_outcome i e Traps st = cc
    by_outcome i e Asks st = cc
    by_outcome i e Breaks st = cc

    by_fetch : (x : Fetch) → f.fetch t.pos ≡ x → moved f.enter t.pos (do_fetch f x t.core) ≡ Went u → IsWithin f u.pos
    by_fetch (Here i) e st = by_outcome i e (do_item f i.kind t.core) st
    by_fetch (EndOfBlock k n) e st = subst (IsWithin f) (sym (goes_to_start f.enter t.pos n t.core u st)) (own.starts (f.enter n))
    by_fetch Outside e st = cc

  module _ (c : Count) where
    abbrev sync_points : Pos → Option SyncPoint
    sync_points p = sync_point_at c f p

    -- each station of a source comes from its own place, which isn't waited at
    record Own (p : Pos) (i : SyncPoint) : Type 0 where
      at : sync_points i.pos ≡ Some i
      here : IsWithin f p → p ≡ i.pos
      moves : i.waits ≡ false

    own_sync_point : (p : Pos) (i : SyncPoint) → sync_points p ≡ Some i → Own p i
    own_sync_point p i e = by_fetch (f.fetch p) refl e where
      by_code : (code : Bool) (j : Item) → is_code j.kind ≡ code → f.fetch p ≡ Here j → item_sync_point c code j ≡ Some i → Own p i
      by_code true j cj k h =
          let o = own.items p j k in
          let w : sync_point_of c j ≡ i = cc in
          let at : p ≡ i.pos = sym (ap position_of o) ∙ ap (λ (z : SyncPoint). z.pos) w in
          record {
            at = subst (λ (q : Pos). sync_points q ≡ Some i) at e;
            here = λ h. at;
            moves = ap (λ (z : SyncPoint). z.waits) (sym w) ∙
                ap (waits_at (moves_on c j.kind)) o;
          }
      by_code false j cj k h = cc

      by_end : (d : Count) (k n : ℕ) → c ≡ d → f.fetch p ≡ EndOfBlock k n → end_sync_point d (record { block = p.block; item = k }) ≡ Some i → Own p i
      by_end ByEnds k n cd fe h =
          let q : Pos = record { block = p.block; item = k } in
          let made : SyncPoint = record { pos = q; waits = false } in
          let w : made ≡ i = cc in
          let at : sync_points q ≡ Some made = ap (fetch_sync_point c p.block) (own.ends p k n fe) ∙ ap (λ (z : Count). end_sync_point z q) cd in
          record {
            at = subst (λ (z : SyncPoint). sync_points z.pos ≡ Some z) w at;
            here =
                λ h. (let e = h k n fe in λ x. record { block = p.block; item = e x }) ∙ ap (λ (z : SyncPoint). z.pos) w;
            moves =
                ap (λ (z : SyncPoint). z.waits) (sym w);
          }
      by_end ByItems k n cd fe h = cc
      by_end ByWords k n cd fe h = cc

      by_fetch : (x : Fetch) → f.fetch p ≡ x → fetch_sync_point c p.block x ≡ Some i → Own p i
      by_fetch (Here j) k h = by_code (is_code j.kind) j refl k h
      by_fetch (EndOfBlock k n) fe h = by_end c k n refl fe h
      by_fetch Outside fe h = cc

    -- so what is no station is no origin
    no_origin : (p : Pos) → sync_points p ≡ None → IsOrigin sync_points p → ⊥
    no_origin p none o =
        let h : None ≡ Some o.sync_point = sym none ∙ ap sync_points (sym o.from) ∙ (own_sync_point o.place o.sync_point o.stands).at in
        cc

    -- B holds of states of f and the source that go in step
    module _ (src : Program) (B : State → State → Type 0) where
      pub record InStep : Type 0 where
        pub pos : (t u : State) → B t u → t.pos ≡ u.pos
        pub goes : (t u t' : State) → B t u → step f t ≡ Went t' → (u' : State) × (step src u ≡ Went u') × B t' u'
        pub agrees : (t u : State) → B t u → Agrees src f t u

      -- Stops stops at origins alone, and at the one that is looked for
      module _ (steps : InStep) (Stops : Pos → Pos → Type 0) (stops : (p : Pos) → IsOrigin sync_points p → Stops p p) (only : (p q : Pos) →
          IsOrigin sync_points p → Stops p q → IsOrigin sync_points q) (s0 f0 : State) (starts : B f0 s0) (within : IsWithin f f0.pos) where
        -- the source is at u, and what it comes to from there comes next for the alignment
        record Beside (t s : State) (m : Since) : Type 0 where
          u : State
          both : B t u
          inside : IsWithin f t.pos
          next : (p : Pos) → IsOrigin sync_points p → (x : State) → Arrives src (Stops p) p u x → MatchesNext src (Stops p) p m s x

        at_own : {t s : State} {m : Since} → (b : Beside t s m) → (i : SyncPoint) → sync_points t.pos ≡ Some i → b.u.pos ≡ i.pos
        at_own {t = t} b i e = sym (steps.pos t b.u b.both) ∙ (own_sync_point t.pos i e).here b.inside

        origin_of : (t : State) (i : SyncPoint) → sync_points t.pos ≡ Some i → IsOrigin sync_points i.pos
        origin_of t i e = record { place = t.pos; sync_point = i; stands = e; from = refl }

        beside : {t s : State} {m : Since} → MatchedUpTo src f sync_points Stops s0 f0 t s m → Beside t s m
        beside begin = record { u = s0; both = starts; inside = within; next = λ p o x a. a }
        beside (other {t = t} {s = s} {t' = t'} {m = m} along none go) =
            let b = beside along in
            let v = steps.goes t b.u t' b.both go in
            let far : (p : Pos) → IsOrigin sync_points p → Stops p b.u.pos → ⊥ =
            λ p o h. no_origin b.u.pos (ap sync_points (sym (steps.pos t b.u b.both)) ∙ none) (only p b.u.pos o h) in
            record { u = v.0; both = v.2; inside = step_within t t' go; next = λ p o x a. b.next p o x (onward (far p o) v.1 a) }
        beside (met {t = t} {s = s} {s' = s'} {t' = t'} {m = m} i along e al go) =
            let b = beside along in
            let o = origin_of t i e in
            let v = steps.goes t b.u t' b.both go in
            let same : s' ≡ b.u = aligns_once src (Stops i.pos) i.pos (stops i.pos o) m s s' b.u al (b.next i.pos o b.u (here (at_own b i e))) in
            let moves = (own_sync_point t.pos i e).moves in
            record { u = v.0; both = v.2; inside = step_within t t' go; next = λ p q x a. rw moves (v.0, ap (step src) same ∙ v.1, a) }

        pub runs_in_step : RunsMatch src f sync_points Stops s0 f0
        runs_in_step t s m i along e =
            let b = beside along in
            inl (b.u, b.next i.pos (origin_of t i e) b.u (here (at_own b i e)), steps.agrees t b.u b.both)

      -- by any origin, and by the first arrival
      pub in_step_any : InStep → (s0 f0 : State) → B f0 s0 → IsWithin f f0.pos → RunsMatch src f sync_points (AnyOrigin sync_points) s0 f0
      in_step_any steps s0 f0 b w = runs_in_step steps (AnyOrigin sync_points) (λ p o. o) (λ p q o h. h) s0 f0 b w

      pub in_step_first : InStep → (s0 f0 : State) → B f0 s0 → IsWithin f f0.pos → RunsMatch src f sync_points First s0 f0
      in_step_first steps s0 f0 b w = runs_in_step steps First (λ p o. refl) (λ p q o h. subst (IsOrigin sync_points) (sym h) o) s0 f0 b w

itself : (src : Program) (own : IsSource src) (c : Count) → InStep src own c src (λ t u. t ≡ u)
itself src own c = record {
  pos = λ t u e. ap (λ (z : State). z.pos) e;
  goes = λ t u t' e go. (t', ap (step src) (sym e) ∙ go, refl);
  agrees = λ t u e. subst (λ (z : State). Agrees src src t z) e (record { events = refl; told = λ v x h. h; returns = λ r h. h; faults = λ h. h });
}

pub source_runs_along : (src : Program) → IsSource src → (c : Count) (s0 : State) → IsWithin src s0.pos →
    RunsMatch src src (sync_point_at c src) (AnyOrigin (sync_point_at c src)) s0 s0
source_runs_along src own c s0 w = in_step_any src own c src (λ t u. t ≡ u) (itself src own c) s0 s0 refl w

pub source_runs_along_first : (src : Program) → IsSource src → (c : Count) (s0 : State) → IsWithin src s0.pos →
    RunsMatch src src (sync_point_at c src) First s0 s0
source_runs_along_first src own c s0 w = in_step_first src own c src (λ t u. t ≡ u) (itself src own c) s0 s0 refl w
