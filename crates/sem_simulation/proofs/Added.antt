-- What code is added to follows what it followed.
use Rattle.std.proofs.Common.{◌≡◌, ℕ, List, [], ◌∷◌, Option, Some, None, true, false, refl, sym, ap, ◌∙◌, subst, inl, inr, ◌⊎◌}
use Rattle.sem_mir.specs.mir_func.declared.position.Pos.{Pos}
use Rattle.sem_mir.specs.mir_func.declared.variable.VarId.{VarId}
use Rattle.sem_mir.specs.mir_func.declared.item.Item.{Item}
use Rattle.sem_mir.specs.State.{State, Core, assigned}
use Rattle.sem_mir.specs.Step.{Went, Returned, Faulted, Lost, Outcome, Falls, Goes, Gives, Traps, Asks, Breaks, moved, do_item, do_fetch, step}
use Rattle.sem_mir.specs.mir_func.Graph.{Fetch, Here, EndOfBlock, Outside, below, block_start}
use Rattle.sem_mir.specs.mir_func.Positions.{position_of}
use Rattle.sem_mir.specs.Align.{is_code, SyncPoint, Count, sync_point_of, end_sync_point, IsOrigin, here, Since, Start, Same, After, since_of}
use Rattle.sem_mir.specs.Align.{MatchesNext}
use Rattle.sem_mir.specs.Align.{MatchedUpTo, begin, other, met, Agrees, RunsMatch}
use Rattle.sem_simulation.specs.MatchStates.{IsPastItems, since_item, ShowsSame, Does}
use Rattle.sem_simulation.specs.Added.{Standing, Opening, Level, Ahead, Owing, MayCome, DoAlike, MayOpen, LeadsIn, IsFree, AddedMatchStates, ended, both}
use Rattle.sem_simulation.specs.Added.{before}
use Rattle.sem_simulation.specs.Added.{opening, entering, behind, passed, added, paired, Begins, opens, level, AddedFollows}
use Rattle.sem_mir.proofs.Alignment.{went_once, aligns_at, aligns_once, aligns_not_fails}
use Rattle.sem_mir.proofs.Outcomes.{step_item, step_end}
use Rattle.sem_simulation.proofs.Refinement.{since_not_start}
use Rattle.sem_simulation.proofs.Stations.{code_sync_point, debug_sync_point, end_is_sync_point, code_is_some, code_is, debug_is_none, IsSyncPointOf, of_item}
use Rattle.sem_simulation.proofs.Stations.{of_end}
use Rattle.sem_simulation.proofs.Stations.{sync_point_is_of, no_end_sync_points, not_past_items}
use Rattle.sem_simulation.proofs.Outcomes.{both_return, both_fault, alike_gives, alike_traps}
use Rattle.sem_simulation.proofs.Stops.{aligns_reaches}
use Rattle.sem_simulation.proofs.Joined.{Addition, AtHome, FaultAt, IsReady, Joins, JoinsAt, Now, Owed, at_home, dynamic_at, home_at, in_block, join_after}
use Rattle.sem_simulation.proofs.Joined.{join_ahead, join_behind, join_code, join_free, join_opened, may_begun, moves_to, past_g, ready, shown, stands_begun}
use Rattle.sem_simulation.proofs.Joined.{static_at, fs, gs, OriginOfF, Seen, Stands}

module _ (addition : Addition) where
  open addition use {count, src, sides, match_states, facts, follows}
  open sides use {old.{program as f, rest as rest_f, start as s0}, new.{program as g, rest as rest_g, start as g0}}
  open match_states use {match_states.{Stage, entry, MatchItems, MatchCores}, standing, Stops, Extra, Reach}

  end_f : (v : State) (k n : ℕ) → f.fetch v.pos ≡ EndOfBlock k n → step f v ≡ Went (record { pos = block_start n; core = v.core })
  end_f v k n e = step_end f v k n e ∙ ap (λ (z : ℕ). Went (record { pos = block_start z; core = v.core })) (facts.enter_f n)

  -- past the end of a block of f
  goes_end : (t s : State) (m : Since) (r : Now addition t s m) → standing r.k ≡ Level → rest_f r.v.pos ≡ [] → rest_g t.pos ≡ [] → (x : Fetch) →
      g.fetch t.pos ≡ x → gs addition t.pos ≡ None → IsPastItems x → (t' : State) → step g t ≡ Went t' → Now addition t' s m
  goes_end t s m r lv ef eg (Here i) e none h t' go = absurd h
  goes_end t s m r lv ef eg Outside e none h t' go = let bad : Lost ≡ Went t' = sym (ap (λ (z : Fetch). moved g.enter t.pos (do_fetch g z t.core)) e) ∙ go in cc
  goes_end t s m r lv ef eg (EndOfBlock j n) e none h t' go =
      let fe = facts.onward r.v.pos t.pos j n (home_at addition t s m r Level lv tt) ef eg e in
      let none_f : fs addition r.v.pos ≡ None = end_is_sync_point count f r.v.pos j n fe ∙
      no_end_sync_points count _ _ (sym (end_is_sync_point count g t.pos j n e) ∙ none) in
      let t1 : State = record { pos = block_start (g.enter n); core = t.core } in
      let made : Now addition t1 s m = in_block addition t1 s m r.v n r.v.core r.sf r.mf (end_f r.v j n fe) refl
      (other r.along none_f (end_f r.v j n fe)) r.reach r.reach_f
      (facts.ends r.k r.v.pos j n r.v.core t.core lv ef fe (static_at addition t s m r [] [] ef eg) (dynamic_at addition t s m r [] [] ef eg))
      (subst (λ (z : Standing). Joins addition z r.mf r.sf m s) lv r.joins) in
      subst (λ (z : State). Now addition z s m) (went_once g t t1 t' (step_end g t j n e) go) made

  -- past the end of the block at the start, to f's first block
  enters : (t s : State) (m : Since) (r : Now addition t s m) (k' : Stage) (xs : List Item) → standing r.k ≡ Opening → standing k' ≡ Level →
      rest_f r.v.pos ≡ xs → rest_g t.pos ≡ [] → MatchItems k' r.v.pos.block xs (rest_g (block_start (g.enter r.v.pos.block))) →
      ((c d : Core) → MatchCores r.k r.v.pos.block xs [] c d → MatchCores k' r.v.pos.block xs (rest_g (block_start (g.enter r.v.pos.block))) c d) →
      IsFree count src sides match_states → LeadsIn count src sides match_states → (x : Fetch) → g.fetch t.pos ≡ x → IsPastItems x → (t' : State) →
      step g t ≡ Went t' →
      Now addition t' s m
  enters t s m r k' xs op lv ef eg st q free into (Here i) e h t' go = absurd h
  enters t s m r k' xs op lv ef eg st q free into Outside e h t' go = let bad : Lost ≡ Went t' =
      sym (ap (λ (z : Fetch). moved g.enter t.pos (do_fetch g z t.core)) e) ∙ go in cc
  enters t s m r k' xs op lv ef eg st q free into (EndOfBlock j n) e h t' go =
      let b = r.v.pos.block in
      let home : t.pos.block ≡ g0.pos.block = subst (λ (z : Standing). AtHome addition z t.pos.block b) op r.home in
      let ow = subst (λ (z : Standing). Owed addition z r.v r.mf r.sf m s) op r.owed in
      let nb : n ≡ b = into t.pos j n home eg e ∙ ap (λ (z : State). z.pos.block) (sym ow.0) in
      let t1 : State = record { pos = block_start (g.enter b); core = t.core } in
      let at : step g t ≡ Went t1 = step_end g t j n e ∙ ap (λ (z : ℕ). Went (record { pos = block_start (g.enter z); core = t.core })) nb in
      let r0 : Reach s0.pos = subst (λ (z : State). Reach z.pos) ow.2 r.reach_f in
      let join0 : Joins addition Level Start s0 m s0 = elim ow.4 as (λ z. Joins addition Level Start s0 m s0) [
        | inl k ↦ subst (λ (z : Since). Joins addition Level Start s0 z s0) (sym k) (join_free addition free r0)
        | inr k ↦ subst (λ (z : Since). Joins addition Level Start s0 z s0) (sym k) (join_opened addition r0)
      ] in
      let join1 : Joins addition Level Start s0 m s = λ p may o. subst (λ (z : State). JoinsAt addition p Start s0 m z) (sym ow.3) (join0 p may o) in
      let join2 : Joins addition Level Start r.sf m s = λ p may o. subst (λ (z : State). JoinsAt addition p Start z m s) (sym ow.2) (join1 p may o) in
      let join : Joins addition Level r.mf r.sf m s = λ p may o. subst (λ (z : Since). JoinsAt addition p z r.sf m s) (sym ow.1) (join2 p may o) in
      let made : Now addition t1 s m = record {
        v = r.v;
        sf = r.sf;
        mf = r.mf;
        k = k';
        along = r.along;
        home = subst (λ (z : Standing). AtHome addition z t1.pos.block b) (sym lv) refl;
        reach = r.reach;
        reach_f = r.reach_f;
        static = subst (λ (z : List Item). MatchItems k' b z (rest_g (block_start (g.enter b)))) (sym ef) st;
        dynamic = subst (λ (z : List Item). MatchCores k' b z (rest_g (block_start (g.enter b))) r.v.core t.core) (sym ef)
            (q r.v.core t.core (dynamic_at addition t s m r xs [] ef eg));
        joins = subst (λ (z : Standing). Joins addition z r.mf r.sf m s) (sym lv) join;
        owed = subst (λ (z : Standing). Owed addition z r.v r.mf r.sf m s) (sym lv) tt;
      } in
      subst (λ (z : State). Now addition z s m) (went_once g t t1 t' at go) made

  -- between stations
  between_at : (t s : State) (m : Since) (r : Now addition t s m) (xs ys : List Item) → rest_f r.v.pos ≡ xs → rest_g t.pos ≡ ys →
      (w : Seen addition r.v.pos.block r.k xs ys) → IsReady addition w → gs addition t.pos ≡ None → (t' : State) → step g t ≡ Went t' → Now addition t' s m
  between_at t s m r xs ys ef eg (ended lv) rd none t' go = goes_end t s m r lv ef eg (g.fetch t.pos) refl none (facts.laid_g.nil t.pos eg).0 t' go
  between_at t s m r xs ys ef eg (both {y = y} {ys = ts} n cx cy o j st s1 h) rd none t' go =
      absurd (code_is_some count g t.pos y none (facts.laid_g.cons t.pos y ts eg).0 cy)
  between_at t s m r xs ys ef eg (before {y = y} {ys = ts} n cx cy o j ak s1 h) rd none t' go =
      absurd (code_is_some count g t.pos y none (facts.laid_g.cons t.pos y ts eg).0 cy)
  between_at t s m r xs ys ef eg (opening {y = y} {ys = ts} ak cy o j op s1 h) rd none t' go =
      absurd (code_is_some count g t.pos y none (facts.laid_g.cons t.pos y ts eg).0 cy)
  between_at t s m r xs ys ef eg (behind {y = y} {ys = ts} ak cy o j af s1 h) rd none t' go =
      absurd (code_is_some count g t.pos y none (facts.laid_g.cons t.pos y ts eg).0 cy)
  between_at t s m r xs ys ef eg (entering {k' = k'} op ne lv st q free into) rd none t' go =
      enters t s m r k' xs op lv ef eg st q free into (g.fetch t.pos) refl (facts.laid_g.nil t.pos eg).0 t' go
  between_at t s m r xs ys ef eg (passed q same c s1 h) rd none t' go = absurd rd
  between_at t s m r xs ys ef eg (added {k' = k'} {y = y} {ys = ts} q same cy s1 h) rd none t' go =
      let b = r.v.pos.block in
      let ge = facts.laid_g.cons t.pos y ts eg in
      let d = h r.v.core t.core (dynamic_at addition t s m r xs ys ef eg) in
      let t1 : State = record { pos = below t.pos; core = d.0 } in
      let made = moves_to addition t s m r k' q same t1 r.v r.along r.home (rw ge.1 (subst (λ (z : List Item). MatchItems k' b z ts) (sym ef) s1))
      (rw ge.1 (subst (λ (z : List Item). MatchCores k' b z ts r.v.core d.0) (sym ef) d.2)) in
      subst (λ (z : State). Now addition z s m) (went_once g t t1 t' (step_item g t y (Falls d.0) ge.0 d.1) go) made
  between_at t s m r xs ys ef eg (paired {k' = k'} {x = x} {y = y} {xs = rest} {ys = ts} q same cx cy s1 h) rd none t' go =
      let fe = facts.laid_f.cons r.v.pos x rest ef in
      let ge = facts.laid_g.cons t.pos y ts eg in
      let d = h r.v.core t.core (dynamic_at addition t s m r xs ys ef eg) in
      let t1 : State = record { pos = below t.pos; core = d.1 } in
      let v1 : State = record { pos = below r.v.pos; core = d.0 } in
      let made = moves_to addition t s m r k' q same t1 v1
      (other r.along (debug_sync_point count f r.v.pos x fe.0 cx) (step_item f r.v x (Falls d.0) fe.0 d.2)) r.home (rw (fe.1, ge.1) s1)
      (rw (fe.1, ge.1) d.4) in
      subst (λ (z : State). Now addition z s m) (went_once g t t1 t' (step_item g t y (Falls d.1) ge.0 d.3) go) made

  -- g at a station, aligned at a state of the source, and what holds after it
  record Met (t s : State) (m : Since) (i : SyncPoint) : Type 0 where
    to : State
    aligns : MatchesNext src (Stops i.pos) i.pos m s to
    agrees : Agrees src g t to
    goes : (t' : State) → step g t ≡ Went t' → Now addition t' to (since_of i.waits)

  -- where g goes on, only what it shows is owed
  agrees_going : (t t1 s : State) → step g t ≡ Went t1 → ShowsSame s.core t.core → Agrees src g t s
  agrees_going t t1 s go sh = record {
    events = sh.events;
    told = sh.told;
    returns = λ rs a. (let bad : Went t1 ≡ Returned rs = sym go ∙ a in cc);
    faults = λ a. (let bad : Went t1 ≡ Faulted = sym go ∙ a in cc);
  }

  shows_as : (v t s : State) → ShowsSame v.core t.core → Agrees src f v s → ShowsSame s.core t.core
  shows_as v t s sh a = record { events = sh.events ∙ a.events; told = λ x n h. a.told x n (sh.told x n h) }

  owed_after : (st : Standing) (x y : Item) (v : State) (e : Core) (s : State) → Stands addition st x → since_item count x ≡ since_item count y →
      s.pos ≡ position_of x.origin → do_item f x.kind v.core ≡ Falls e → Agrees src f v s → (w : State) → w.core ≡ e →
      Owed addition st w (since_item count x) s (since_item count y) s
  owed_after Opening x y v e s st j at fa ag w we = absurd st
  owed_after Level x y v e s st j at fa ag w we = tt
  owed_after (Ahead p) x y v e s st j at fa ag w we = tt
  owed_after (Owing p) x y v e s st j at fa ag w we =
      let k = st.3 v.core e fa in (
        at ∙ st.0,
        refl,
        st.1,
        sym j ∙ st.1,
        st.2,
        record {
          events = ap (λ (z : Core). z.events) we ∙ k.0 ∙ ag.events;
          told = λ n l a. ag.told n l (subst (λ (z : List (VarId × Option ℕ)). assigned n z ≡ Some l) (ap (λ (z : Core). z.marks) we ∙ k.1) a);
        },
      )

  -- after code of both
  goes_on : (t s : State) (m : Since) (r : Now addition t s m) (k' : Stage) (x y : Item) (xs ys : List Item) → rest_f r.v.pos ≡ x ∷ xs → rest_g t.pos ≡ y ∷ ys →
      t.pos.block ≡ g.enter r.v.pos.block → is_code x.kind ≡ true → since_item count x ≡ since_item count y → Stands addition (standing k') x →
      MatchItems k' r.v.pos.block xs ys →
      (s' : State) → MatchesNext src (OriginOfF addition) (position_of x.origin) r.mf r.sf s' → Agrees src f r.v s' → (a c : Outcome) →
      do_item f x.kind r.v.core ≡ a →
      DoAlike count src sides match_states r.v.pos.block xs ys (since_item count x) k' a c → (t' : State) → moved g.enter t.pos c ≡ Went t' →
      Now addition t' s' (since_item count y)
  goes_on t s m r k' x y xs ys ef eg home cx j st s1 s' al ag (Falls e) (Falls e') fa q t' go =
      let fe = facts.laid_f.cons r.v.pos x xs ef in
      let ge = facts.laid_g.cons t.pos y ys eg in
      let v1 : State = record { pos = below r.v.pos; core = e } in
      let t1 : State = record { pos = below t.pos; core = e' } in
      let is : t1 ≡ t' = cc in
      let at = aligns_at src (OriginOfF addition) (position_of x.origin) r.mf r.sf s' al in
      let rs = aligns_reaches src Reach facts.more.on (OriginOfF addition) (position_of x.origin) r.mf r.sf s' r.reach_f al in
      let made : Now addition t1 s' (since_item count y) = record {
        v = v1;
        sf = s';
        mf = since_item count x;
        k = k';
        along = met (sync_point_of count x) r.along (code_sync_point count f r.v.pos x fe.0 cx) al (step_item f r.v x (Falls e) fe.0 fa);
        home = at_home addition (standing k') t.pos.block r.v.pos.block (stands_begun addition (standing k') x st) home;
        reach = rs;
        reach_f = rs;
        static = rw (fe.1, ge.1) s1;
        dynamic = rw (fe.1, ge.1) q;
        joins = subst (λ (z : Since). Joins addition (standing k') (since_item count x) s' z s') j
            (join_code addition (standing k') x (since_item count x) s' rs (since_not_start (sync_point_of count x).waits) refl at st);
        owed = owed_after (standing k') x y r.v e s' st j at fa ag v1 refl;
      } in
      subst (λ (z : State). Now addition z s' (since_item count y)) is made
  goes_on t s m r k' x y xs ys ef eg home cx j st s1 s' al ag (Goes n e) (Goes i e') fa q t' go =
      let fe = facts.laid_f.cons r.v.pos x xs ef in
      let t1 : State = record { pos = block_start (g.enter n); core = e' } in
      let went : Went t1 ≡ Went t' = ap (λ (z : ℕ). Went (record { pos = block_start (g.enter z); core = e' })) q.0 ∙ go in
      let is : t1 ≡ t' = cc in
      let at = aligns_at src (OriginOfF addition) (position_of x.origin) r.mf r.sf s' al in
      let rs = aligns_reaches src Reach facts.more.on (OriginOfF addition) (position_of x.origin) r.mf r.sf s' r.reach_f al in
      let go_f : step f r.v ≡ Went (record { pos = block_start n; core = e }) = step_item f r.v x (Goes n e) fe.0 fa ∙
      ap (λ (z : ℕ). Went (record { pos = block_start z; core = e })) (facts.enter_f n) in
      let join = subst (λ (z : Standing). Joins addition z (since_item count x) s' (since_item count x) s') q.1.1
      (join_code addition (standing k') x (since_item count x) s' rs (since_not_start (sync_point_of count x).waits) refl at st) in
      let made : Now addition t1 s' (since_item count y) =
      in_block addition t1 s' (since_item count y) r.v n e s' (since_item count x) go_f refl
      (met (sync_point_of count x) r.along (code_sync_point count f r.v.pos x fe.0 cx) al go_f) rs rs q.1.2
      (subst (λ (z : Since). Joins addition Level (since_item count x) s' z s') j join) in
      subst (λ (z : State). Now addition z s' (since_item count y)) is made
  goes_on t s m r k' x y xs ys ef eg home cx j st s1 s' al ag (Gives v) (Gives w) fa q t' go = cc
  goes_on t s m r k' x y xs ys ef eg home cx j st s1 s' al ag Traps Traps fa q t' go = cc
  goes_on t s m r k' x y xs ys ef eg home cx j st s1 s' al ag Asks Asks fa q t' go = cc
  goes_on t s m r k' x y xs ys ef eg home cx j st s1 s' al ag Breaks Breaks fa q t' go = cc
  goes_on t s m r k' x y xs ys ef eg home cx j st s1 s' al ag _ _ fa q t' go = absurd q

  -- f at a station, where what f has may come: there the source is aligned with f and with g
  record MeetsF (t s : State) (m : Since) (r : Now addition t s m) (p : Pos) : Type 0 where
    to : State
    aligns_f : MatchesNext src (OriginOfF addition) p r.mf r.sf to
    agrees_f : Agrees src f r.v to
    aligns : MatchesNext src (Stops p) p m s to
    shows : ShowsSame to.core t.core
    reach : Reach to.pos

  meets_f : (t s : State) (m : Since) (r : Now addition t s m) (i : SyncPoint) → fs addition r.v.pos ≡ Some i → MayCome (standing r.k) i.pos →
      MeetsF t s m r i.pos ⊎ FaultAt addition i.pos m s
  meets_f t s m r i e may =
      let o : OriginOfF addition i.pos = record { place = r.v.pos; sync_point = i; stands = e; from = refl } in
      elim (follows r.v r.sf r.mf i r.along e) as (λ _. MeetsF t s m r i.pos ⊎ FaultAt addition i.pos m s) [
        | inl z ↦
            inl (record {
              to = z.0;
              aligns_f = z.1;
              agrees_f = z.2;
              aligns = (r.joins i.pos may o).next z.0 z.1;
              shows = shows_as r.v t z.0 (shown addition t s m r) z.2;
              reach = aligns_reaches src Reach facts.more.on (OriginOfF addition) i.pos r.mf r.sf z.0 r.reach_f z.1;
            })
        | inr z ↦ inr ((r.joins i.pos may o).fails z)
      ]

  -- code of both
  meets_both : (t s : State) (m : Since) (r : Now addition t s m) (k' : Stage) (x y : Item) (xs ys : List Item) → rest_f r.v.pos ≡ x ∷ xs →
      rest_g t.pos ≡ y ∷ ys → MayCome (standing r.k) (position_of x.origin) → is_code x.kind ≡ true → x.origin ≡ y.origin →
      since_item count x ≡ since_item count y → Stands addition (standing k') x → MatchItems k' r.v.pos.block xs ys →
      DoAlike count src sides match_states r.v.pos.block xs ys (since_item count x) k' (do_item f x.kind r.v.core) (do_item g y.kind t.core) →
      Met t s m (sync_point_of count y) ⊎ FaultAt addition (position_of y.origin) m s
  meets_both t s m r k' x y xs ys ef eg may cx o j st s1 al =
      let b = r.v.pos.block in
      let fe = facts.laid_f.cons r.v.pos x xs ef in
      let ge = facts.laid_g.cons t.pos y ys eg in
      let sx = code_sync_point count f r.v.pos x fe.0 cx in
      let a = do_item f x.kind r.v.core in
      let c = do_item g y.kind t.core in
      let go_f = step_item f r.v x a fe.0 refl in
      let go = step_item g t y c ge.0 refl in
      let home = home_at addition t s m r (standing r.k) refl (may_begun addition (standing r.k) (position_of x.origin) may) in
      elim (meets_f t s m r (sync_point_of count x) sx may) as (λ z. Met t s m (sync_point_of count y) ⊎ FaultAt addition (position_of y.origin) m s) [
        | inl z ↦
            inl (record {
              to = z.to;
              aligns = subst (λ (q : Pos). MatchesNext src (Stops q) q m s z.to) (ap position_of o) z.aligns;
              agrees = record {
                events = z.shows.events;
                told = z.shows.told;
                returns = λ rs h. z.agrees_f.returns rs (both_return f g r.v t a c go_f go (alike_gives _ _ a c al) rs h);
                faults = λ h. z.agrees_f.faults (both_fault f g r.v t a c go_f go (alike_traps _ _ a c al) h);
              };
              goes = λ t' h. goes_on t s m r k' x y xs ys ef eg home cx j st s1 z.to z.aligns_f z.agrees_f a c refl al t' (sym go ∙ h);
            })
        | inr z ↦ inr (subst (λ (q : Pos). FaultAt addition q m s) (ap position_of o) z)
      ]

  -- code of g before f's
  meets_before : (t s : State) (m : Since) (r : Now addition t s m) (k' : Stage) (x y : Item) (xs ys : List Item) → rest_f r.v.pos ≡ x ∷ xs →
      rest_g t.pos ≡ y ∷ ys → MayCome (standing r.k) (position_of x.origin) → is_code x.kind ≡ true → position_of y.origin ≡ position_of x.origin →
      since_item count y ≡ Same → standing k' ≡ Ahead (position_of x.origin) → MatchItems k' r.v.pos.block (x ∷ xs) ys →
      Does g y t.core (λ e. MatchCores k' r.v.pos.block (x ∷ xs) ys r.v.core e) ⊎ ((do_item g y.kind t.core ≡ Traps) × (do_item f x.kind r.v.core ≡ Traps)) →
      Met t s m (sync_point_of count y) ⊎ FaultAt addition (position_of y.origin) m s
  meets_before t s m r k' x y xs ys ef eg may cx o j ak s1 does =
      let b = r.v.pos.block in
      let p = position_of x.origin in
      let fe = facts.laid_f.cons r.v.pos x xs ef in
      let ge = facts.laid_g.cons t.pos y ys eg in
      let sx = code_sync_point count f r.v.pos x fe.0 cx in
      let home = home_at addition t s m r (standing r.k) refl (may_begun addition (standing r.k) p may) in
      elim (meets_f t s m r (sync_point_of count x) sx may) as (λ z. Met t s m (sync_point_of count y) ⊎ FaultAt addition (position_of y.origin) m s) [
        | inr z ↦ inr (subst (λ (q : Pos). FaultAt addition q m s) (sym o) z)
        | inl z ↦
            let al = subst (λ (q : Pos). MatchesNext src (Stops q) q m s z.to) (sym o) z.aligns in
            inl (elim does as (λ _. Met t s m (sync_point_of count y)) [
              | inr tr ↦
                  let go = step_item g t y Traps ge.0 tr.0 in
                  record {
                    to = z.to;
                    aligns = al;
                    agrees = record {
                      events = z.shows.events;
                      told = z.shows.told;
                      returns = λ rs h. (let bad : Faulted ≡ Returned rs = sym go ∙ h in cc);
                      faults = λ h. z.agrees_f.faults (step_item f r.v x Traps fe.0 tr.1);
                    };
                    goes = λ t' h. (let bad : Faulted ≡ Went t' = sym go ∙ h in cc);
                  }
              | inl d ↦
                  let t1 : State = record { pos = below t.pos; core = d.0 } in
                  let go = step_item g t y (Falls d.0) ge.0 d.1 in
                  let made : Now addition t1 z.to Same =
                  past_g addition t s m r k' y (x ∷ xs) ys ef eg d.0 s1 d.2 z.to Same
                  (subst (λ (q : Standing). AtHome addition q t1.pos.block b) (sym ak) home) z.reach
                  (subst (λ (q : Standing). Joins addition q r.mf r.sf Same z.to) (sym ak) (join_ahead addition p r.mf r.sf z.to z.aligns_f))
                  (subst (λ (q : Standing). Owed addition q r.v r.mf r.sf Same z.to) (sym ak) tt) in
                  record {
                    to = z.to;
                    aligns = al;
                    agrees = agrees_going t t1 z.to go z.shows;
                    goes = λ t' h. subst (λ (q : State). Now addition q z.to (since_item count y)) (went_once g t t1 t' go h)
                        (subst (λ (q : Since). Now addition t1 z.to q) (sym j) made);
                  }
            ])
      ]

  -- code of g at the start
  meets_opening : (t s : State) (m : Since) (r : Now addition t s m) (k' : Stage) (y : Item) (xs ys : List Item) → standing r.k ≡ Opening →
      rest_f r.v.pos ≡ xs → rest_g t.pos ≡ y ∷ ys → position_of y.origin ≡ s0.pos → since_item count y ≡ Same →
      MayOpen count src sides match_states (standing k') →
      MatchItems k' r.v.pos.block xs ys → Does g y t.core (λ e. MatchCores k' r.v.pos.block xs ys r.v.core e) → Met t s m (sync_point_of count y)
  meets_opening t s m r k' y xs ys op ef eg o j may s1 d =
      let b = r.v.pos.block in
      let ge = facts.laid_g.cons t.pos y ys eg in
      let go = step_item g t y (Falls d.0) ge.0 d.1 in
      let ow = subst (λ (z : Standing). Owed addition z r.v r.mf r.sf m s) op r.owed in
      let home : t.pos.block ≡ g0.pos.block = subst (λ (z : Standing). AtHome addition z t.pos.block b) op r.home in
      let t1 : State = record { pos = below t.pos; core = d.0 } in
      let p = position_of y.origin in
      let at : s0.pos ≡ p = sym o in
      let r0 : Reach s0.pos = subst (λ (z : State). Reach z.pos) ow.2 r.reach_f in
      let al : MatchesNext src (Stops p) p m s0 s0 = elim ow.4 as (λ z. MatchesNext src (Stops p) p m s0 s0) [
        | inl k ↦ subst (λ (z : Since). MatchesNext src (Stops p) p z s0 s0) (sym k) (here at)
        | inr k ↦ subst (λ (z : Since). MatchesNext src (Stops p) p z s0 s0) (sym k) (inl (at, refl))
      ] in
      let made : Now addition t1 s0 Same =
      past_g addition t s m r k' y xs ys ef eg d.0 s1 d.2 s0 Same
      (home_open (standing k') t.pos.block b may home (ap (λ (z : State). z.pos.block) ow.0)) r0
      (subst (λ (z : Since). Joins addition (standing k') z r.sf Same s0) (sym ow.1)
      (subst (λ (z : State). Joins addition (standing k') Start z Same s0) (sym ow.2) (join_open (standing k') may r0)))
      (owed_open (standing k') may r.v r.mf r.sf ow.0 ow.1 ow.2) in
      record {
        to = s0;
        aligns = subst (λ (z : State). MatchesNext src (Stops p) p m z s0) (sym ow.3) al;
        agrees = agrees_going t t1 s0 go (subst (λ (z : State). ShowsSame z.core t.core) ow.0 (shown addition t s m r));
        goes = λ t' h. subst (λ (z : State). Now addition z s0 (since_item count y)) (went_once g t t1 t' go h)
            (subst (λ (z : Since). Now addition t1 s0 z) (sym j) made);
      } where
        home_open : (st : Standing) (a b : ℕ) → MayOpen count src sides match_states st → a ≡ g0.pos.block → b ≡ s0.pos.block → AtHome addition st a b
        home_open Opening a b may h k = h
        home_open Level a b may h k = h ∙ may ∙ ap g.enter (sym k)
        home_open (Ahead p) a b may h k = absurd may
        home_open (Owing p) a b may h k = absurd may

        join_open : (st : Standing) → MayOpen count src sides match_states st → Reach s0.pos → Joins addition st Start s0 Same s0
        join_open Opening may r0 = λ p n o. absurd n
        join_open Level may r0 = join_opened addition r0
        join_open (Ahead p) may r0 = absurd may
        join_open (Owing p) may r0 = absurd may

        owed_open : (st : Standing) → MayOpen count src sides match_states st → (v : State) (mf : Since) (sf : State) → v ≡ s0 → mf ≡ Start → sf ≡ s0 →
            Owed addition st v mf sf Same s0
        owed_open Opening may v mf sf a b c = (a, b, c, refl, inr refl)
        owed_open Level may v mf sf a b c = tt
        owed_open (Ahead p) may v mf sf a b c = absurd may
        owed_open (Owing p) may v mf sf a b c = absurd may

  -- code of g that was owed
  meets_behind : (t s : State) (m : Since) (r : Now addition t s m) (k' : Stage) (p : Pos) (y : Item) (xs ys : List Item) → standing r.k ≡ Owing p →
      rest_f r.v.pos ≡ xs → rest_g t.pos ≡ y ∷ ys → position_of y.origin ≡ below p → since_item count y ≡ Same → standing k' ≡ Level →
      MatchItems k' r.v.pos.block xs ys → Does g y t.core (λ e. MatchCores k' r.v.pos.block xs ys r.v.core e) → Met t s m (sync_point_of count y) ⊎
      FaultAt addition (position_of y.origin) m s
  meets_behind t s m r k' p y xs ys ak ef eg o j af s1 d =
      let b = r.v.pos.block in
      let ge = facts.laid_g.cons t.pos y ys eg in
      let go = step_item g t y (Falls d.0) ge.0 d.1 in
      let t1 : State = record { pos = below t.pos; core = d.0 } in
      let ow = subst (λ (z : Standing). Owed addition z r.v r.mf r.sf m s) ak r.owed in
      let home = home_at addition t s m r (Owing p) ak tt in
      let sh = shown addition t s m r in
      elim (ow.4 s ow.0) as (λ z. Met t s m (sync_point_of count y) ⊎ FaultAt addition (position_of y.origin) m s) [
        | inr z ↦ inr (subst (λ (n : Since). FaultAt addition (position_of y.origin) n s) (sym ow.3) (inl z))
        | inl u ↦
            let go_s : step src r.sf ≡ Went u.0 = ap (step src) ow.1 ∙ u.1 in
            let made : Now addition t1 u.0 Same =
            past_g addition t s m r k' y xs ys ef eg d.0 s1 d.2 u.0 Same
            (subst (λ (w : Standing). AtHome addition w t1.pos.block b) (sym af) home) (facts.more.on s u.0 r.reach u.1)
            (subst (λ (w : Standing). Joins addition w r.mf r.sf Same u.0) (sym af)
            (subst (λ (k : Since). Joins addition Level k r.sf Same u.0) (sym ow.2) (join_behind addition r.sf u.0 r.reach_f go_s)))
            (subst (λ (w : Standing). Owed addition w r.v r.mf r.sf Same u.0) (sym af) tt) in
            inl (record {
              to = u.0;
              aligns = subst (λ (k : Since). MatchesNext src (Stops (position_of y.origin)) (position_of y.origin) k s u.0) (sym ow.3)
                  (u.0, u.1, here (u.2 ∙ sym o));
              agrees = agrees_going t t1 u.0 go (record {
                events = sh.events ∙ ow.5.events ∙ sym u.3;
                told = λ v n a. subst (λ (l : List (VarId × Option ℕ)). assigned v l ≡ Some n) (sym u.4) (ow.5.told v n (sh.told v n a));
              });
              goes = λ t' h. subst (λ (z : State). Now addition z u.0 (since_item count y)) (went_once g t t1 t' go h)
                  (subst (λ (z : Since). Now addition t1 u.0 z) (sym j) made);
            })
      ]

  -- a block's end that is a station
  meets_end : (t s : State) (m : Since) (r : Now addition t s m) → standing r.k ≡ Level → rest_f r.v.pos ≡ [] → rest_g t.pos ≡ [] → (i : SyncPoint) →
      IsSyncPointOf count g t.pos i → Met t s m i ⊎ FaultAt addition i.pos m s
  meets_end t s m r lv ef eg i (of_item x fx cx ix) = absurd (not_past_items (g.fetch t.pos) x (facts.laid_g.nil t.pos eg).0 fx)
  meets_end t s m r lv ef eg i (of_end k n fe ce ie) =
      let b = r.v.pos.block in
      let home = home_at addition t s m r Level lv tt in
      let ff = facts.onward r.v.pos t.pos k n home ef eg fe in
      let p : Pos = record { block = b; item = k } in
      let end : SyncPoint = record { pos = p; waits = false } in
      let is : end ≡ i = sym (ie ∙ ap (λ (z : ℕ). record { pos = record { block = z; item = k }; waits = false }) (home ∙ facts.same_blocks ce b)) in
      let se : fs addition r.v.pos ≡ Some end = end_is_sync_point count f r.v.pos k n ff ∙ ap (λ (z : Count). end_sync_point z p) ce in
      let t1 : State = record { pos = block_start (g.enter n); core = t.core } in
      let go = step_end g t k n fe in
      elim (meets_f t s m r end se (subst (λ (q : Standing). MayCome q p) (sym lv) tt)) as (λ z. Met t s m i ⊎ FaultAt addition i.pos m s) [
        | inr z ↦ inr (subst (λ (q : SyncPoint). FaultAt addition q.pos m s) is z)
        | inl z ↦
            let at = aligns_at src (OriginOfF addition) p r.mf r.sf z.to z.aligns_f in
            let made : Now addition t1 z.to After = in_block addition t1 z.to After r.v n r.v.core z.to After (end_f r.v k n ff) refl
            (met end r.along se z.aligns_f (end_f r.v k n ff)) z.reach z.reach
            (facts.ends r.k r.v.pos k n r.v.core t.core lv ef ff (static_at addition t s m r [] [] ef eg) (dynamic_at addition t s m r [] [] ef eg))
            (join_after addition z.to z.reach (λ u go2 h. facts.end_stands r.v.pos k n ce ff z.to u at go2 h) After (λ e. cc)) in
            inl (subst (Met t s m) is (record {
              to = z.to;
              aligns = z.aligns;
              agrees = agrees_going t t1 z.to go z.shows;
              goes = λ t' h. subst (λ (q : State). Now addition q z.to After) (went_once g t t1 t' go h) made;
            }))
      ]

  meets_at_view : (t s : State) (m : Since) (r : Now addition t s m) (xs ys : List Item) → rest_f r.v.pos ≡ xs → rest_g t.pos ≡ ys →
      (w : Seen addition r.v.pos.block r.k xs ys) → IsReady addition w → (i : SyncPoint) → gs addition t.pos ≡ Some i → Met t s m i ⊎ FaultAt addition i.pos m s
  meets_at_view t s m r xs ys ef eg (ended lv) rd i e = meets_end t s m r lv ef eg i (sync_point_is_of count g t.pos i e)
  meets_at_view t s m r xs ys ef eg (passed q same c s1 h) rd i e = absurd rd
  meets_at_view t s m r xs ys ef eg (added {y = y} {ys = ts} q same cy s1 h) rd i e =
      absurd (debug_is_none count g t.pos y i e (facts.laid_g.cons t.pos y ts eg).0 cy)
  meets_at_view t s m r xs ys ef eg (paired {x = x} {y = y} {xs = rest} {ys = ts} q same cx cy s1 h) rd i e =
      absurd (debug_is_none count g t.pos y i e (facts.laid_g.cons t.pos y ts eg).0 cy)
  meets_at_view t s m r xs ys ef eg (entering op ne lv st q free into) rd i e = absurd (by_sync_point (sync_point_is_of count g t.pos i e)) where
    by_sync_point : IsSyncPointOf count g t.pos i → ⊥
    by_sync_point (of_item x fx cx ix) = not_past_items (g.fetch t.pos) x (facts.laid_g.nil t.pos eg).0 fx
    by_sync_point (of_end k n fe ce ie) = ne ce
  meets_at_view t s m r xs ys ef eg (opening {k' = k'} {y = y} {ys = ts} op cy o j may s1 h) rd i e =
      subst (λ (z : SyncPoint). Met t s m z ⊎ FaultAt addition z.pos m s) (code_is count g t.pos y i e (facts.laid_g.cons t.pos y ts eg).0 cy)
      (inl (meets_opening t s m r k' y xs ts op ef eg o j may s1 (h r.v.core t.core (dynamic_at addition t s m r xs ys ef eg))))
  meets_at_view t s m r xs ys ef eg (before {k' = k'} {x = x} {y = y} {xs = rest} {ys = ts} may cx cy o j ak s1 h) rd i e =
      subst (λ (z : SyncPoint). Met t s m z ⊎ FaultAt addition z.pos m s) (code_is count g t.pos y i e (facts.laid_g.cons t.pos y ts eg).0 cy)
      (meets_before t s m r k' x y rest ts ef eg may cx o j ak s1 (h r.v.core t.core (dynamic_at addition t s m r xs ys ef eg)))
  meets_at_view t s m r xs ys ef eg (behind {k' = k'} {p = p} {y = y} {ys = ts} ak cy o j af s1 h) rd i e =
      subst (λ (z : SyncPoint). Met t s m z ⊎ FaultAt addition z.pos m s) (code_is count g t.pos y i e (facts.laid_g.cons t.pos y ts eg).0 cy)
      (meets_behind t s m r k' p y xs ts ak ef eg o j af s1 (h r.v.core t.core (dynamic_at addition t s m r xs ys ef eg)))
  meets_at_view t s m r xs ys ef eg (both {k' = k'} {x = x} {y = y} {xs = rest} {ys = ts} may cx cy o j st s1 h) rd i e =
      subst (λ (z : SyncPoint). Met t s m z ⊎ FaultAt addition z.pos m s) (code_is count g t.pos y i e (facts.laid_g.cons t.pos y ts eg).0 cy)
      (meets_both t s m r k' x y rest ts ef eg may cx o j st s1 (h r.v.core t.core (dynamic_at addition t s m r xs ys ef eg)))

  meets : (t s : State) (m : Since) → Now addition t s m → (i : SyncPoint) → gs addition t.pos ≡ Some i → Met t s m i ⊎ FaultAt addition i.pos m s
  meets t s m r i e = let c = ready addition t s m r in meets_at_view t s m c.at c.xs c.ys c.is_f c.is_g c.view c.ready i e

  now : {t s : State} {m : Since} → Now addition g0 s0 Start → MatchedUpTo src g (gs addition) Stops s0 g0 t s m → Now addition t s m
  now start begin = start
  now start (other {t = t} {s = s} {t' = t'} {m = m} a none go) =
      let c = ready addition t s m (now start a) in between_at t s m c.at c.xs c.ys c.is_f c.is_g c.view c.ready none t' go
  now start (met {t = t} {s = s} {s' = s'} {t' = t'} {m = m} i a e al go) =
      let o : IsOrigin (gs addition) i.pos = record { place = t.pos; sync_point = i; stands = e; from = refl } in
      let own = facts.more.own i.pos o in
      elim (meets t s m (now start a) i e) as (λ y. Now addition t' s' (since_of i.waits)) [
        | inl y ↦ subst (λ (z : State). Now addition t' z (since_of i.waits)) (aligns_once src (Stops i.pos) i.pos own m s y.to s' y.aligns al) (y.goes t' go)
        | inr y ↦ absurd (aligns_not_fails src (Stops i.pos) i.pos own m s s' al y)
      ]

  runs_along : Now addition g0 s0 Start → RunsMatch src g (gs addition) Stops s0 g0
  runs_along start t s m i a e =
      elim (meets t s m (now start a) i e) as (λ y. ((s' : State) × MatchesNext src
      (Stops i.pos) i.pos m s s' × Agrees src g t s') ⊎ FaultAt addition i.pos m s) [
        | inl y ↦ inl (y.to, y.aligns, y.agrees)
        | inr y ↦ inr y
      ]

  start_at : (k : Stage) → AtHome addition (standing k) g0.pos.block s0.pos.block → Reach s0.pos →
      MatchItems k s0.pos.block (rest_f s0.pos) (rest_g g0.pos) → MatchCores k s0.pos.block (rest_f s0.pos) (rest_g g0.pos) s0.core g0.core →
      Joins addition (standing k) Start s0 Start s0 → Owed addition (standing k) s0 Start s0 Start s0 → Now addition g0 s0 Start
  start_at k home reach st q joins owed = record {
    v = s0;
    sf = s0;
    mf = Start;
    k = k;
    along = begin;
    home = home;
    reach = reach;
    reach_f = reach;
    static = st;
    dynamic = q;
    joins = joins;
    owed = owed;
  }

  start_now : Reach s0.pos → Begins count src sides match_states → Now addition g0 s0 Start
  start_now reach (opens k op st q) =
      start_at k (subst (λ (z : Standing). AtHome addition z g0.pos.block s0.pos.block) (sym op) refl) reach st q
      (subst (λ (z : Standing). Joins addition z Start s0 Start s0) (sym op) (λ p n o. absurd n))
      (subst (λ (z : Standing). Owed addition z s0 Start s0 Start s0) (sym op) (refl, refl, refl, refl, inl refl))
  start_now reach (level k lv home st q free) =
      start_at k (subst (λ (z : Standing). AtHome addition z g0.pos.block s0.pos.block) (sym lv) home) reach st q
      (subst (λ (z : Standing). Joins addition z Start s0 Start s0) (sym lv) (join_free addition free reach))
      (subst (λ (z : Standing). Owed addition z s0 Start s0 Start s0) (sym lv) tt)

pub added_follows : (match_states : AddedMatchStates) → AddedFollows match_states
added_follows match_states count src sides facts reach b follows =
    let addition : Addition = record { count = count; src = src; sides = sides; match_states = match_states; facts = facts; follows = follows } in
    runs_along addition (start_now addition reach b)
