-- What is changed in place follows what it followed.
use Rattle.std.proofs.Common.{◌≡◌, ℕ, ◌+◌, ◌*◌, ◌≤◌, List, [], ◌∷◌, Option, Some, None, Bool, true, false, refl, sym, ap, ◌∙◌, subst, inl, inr, ◌⊎◌, arith}
use Rattle.sem_mir.specs.mir_func.declared.position.Pos.{Pos}
use Rattle.sem_mir.specs.mir_func.declared.position.Origin.{Origin}
use Rattle.sem_mir.specs.mir_func.declared.item.Item.{Item}
use Rattle.sem_mir.specs.State.{State, Core, RunResult}
use Rattle.sem_mir.specs.Step.{Went, Returned, Faulted, Lost, Outcome, Falls, Goes, Gives, Traps, Asks, Breaks, moved, do_item, do_fetch, step}
use Rattle.sem_mir.specs.mir_func.Graph.{Fetch, Here, EndOfBlock, Outside, below, block_start}
use Rattle.sem_mir.specs.mir_func.Positions.{position_of}
use Rattle.sem_mir.specs.Align.{is_code, SyncPoint, Count, moves_on, waits_at, sync_point_of, end_sync_point, Since, After, since_of, AnyOrigin}
use Rattle.sem_mir.specs.Align.{RunsMatch}
use Rattle.sem_mir.specs.Follow.{rank, next_rank, InOrder}
use Rattle.sem_simulation.specs.MatchStates.{MatchStates, IsPastItems, since_item}
use Rattle.sem_simulation.specs.Refinement.{waiting, Walk, there, on, later, still, IsStuck, IsStuckFrom, Meets, Refines}
use Rattle.sem_simulation.specs.InPlace.{DoAlike, TrapsAlone, ended, both, bolder, taken, passed, added, paired, InPlaceFollows}
use Rattle.sem_mir.proofs.Alignment.{went_once}
use Rattle.sem_mir.proofs.Outcomes.{step_item, step_end}
use Rattle.sem_simulation.proofs.Refinement.{still_follows}
use Rattle.sem_simulation.proofs.Order.{done_next, rank_high, rank_low, rank_next, same_pos, done_more, waits_after, done_self, waits_until, done_code}
use Rattle.sem_simulation.proofs.Order.{IsNoLater}
use Rattle.sem_simulation.proofs.Order.{no_later, from_less, until_more, until_next, from_next}
use Rattle.sem_simulation.proofs.Outcomes.{both_return, both_fault, alike_gives, alike_traps, alone_trap, alone_after, alone_gives}
use Rattle.sem_simulation.proofs.Between.{Change, fs, gs, Seen, IsNext}
use Rattle.sem_simulation.proofs.Beside.{Beside, at_start, dynamic_at, static_at, IsReady, ready}
use Rattle.sem_simulation.proofs.Stations.{not_code, code_sync_point, debug_sync_point, end_is_sync_point, code_is_some, code_is, debug_is_none, IsSyncPointOf}
use Rattle.sem_simulation.proofs.Stations.{of_item}
use Rattle.sem_simulation.proofs.Stations.{of_end, sync_point_is_of, no_end_sync_points, not_by_ends, not_past_items, falls_stays}

module _ (change : Change) where
  open change use {count, src, sides, match_states, place, facts}
  open sides use {old.{program as f, rest as rest_f, start as s0}, new.{program as g, rest as rest_g, start as g0}}
  open match_states use {Stage, entry, MatchItems, MatchCores}

  -- a debug item of g alone
  goes_g : (last0 : Option Pos) (t u : State) (r : Beside change last0 t u) (k' : Stage) (y : Item) (ys : List Item) → rest_g t.pos ≡ y ∷ ys →
      is_code y.kind ≡ false → MatchItems k' r.v.pos.block (rest_f r.v.pos) ys → (e : Core) → MatchCores k' r.v.pos.block (rest_f r.v.pos) ys r.v.core e →
      Beside change last0 (record { pos = below t.pos; core = e }) u
  goes_g last0 t u r k' y ys eg c s e q =
      let b = r.v.pos.block in
      let tail = (facts.laid_g.cons t.pos y ys eg).1 in
      record {
        v = r.v;
        last = r.last;
        n = r.n;
        m = next_rank y.origin;
        block = r.block;
        stage = k';
        static = rw tail s;
        dynamic = rw tail q;
        order_f = r.order_f;
        order_g = rw tail (subst (InOrder b r.m) eg r.order_g).2;
        known = r.known;
        done = done_next g facts.home t.pos b r.n r.n r.last r.last y (sym r.block) (facts.laid_g.cons t.pos y ys eg).0 (λ q k h. h)
            (λ h. not_code y c h) r.done;
        high = r.high;
        walks = λ p next w j. r.walks p (next.0, subst (IsNoLater b p) (sym eg) ((λ h. not_code y c h), subst (IsNoLater b p) tail next.1), next.2) w j;
        dooms = λ p next d. r.dooms p (next.0, subst (IsNoLater b p) (sym eg) ((λ h. not_code y c h), subst (IsNoLater b p) tail next.1), next.2) d;
      }

  -- a debug item of each
  goes_both : (last0 : Option Pos) (t u : State) (r : Beside change last0 t u) (k' : Stage) (x y : Item) (xs ys : List Item) → rest_f r.v.pos ≡ x ∷ xs →
      rest_g t.pos ≡ y ∷ ys → is_code x.kind ≡ false → is_code y.kind ≡ false → MatchItems k' r.v.pos.block xs ys → (e e' : Core) →
      do_item f x.kind r.v.core ≡ Falls e → MatchCores k' r.v.pos.block xs ys e e' → Beside change last0 (record { pos = below t.pos; core = e' }) u
  goes_both last0 t u r k' x y xs ys ef eg cx cy s e e' o q =
      let b = r.v.pos.block in
      let fe = facts.laid_f.cons r.v.pos x xs ef in
      let ge = facts.laid_g.cons t.pos y ys eg in
      let ord = subst (InOrder b r.n) ef r.order_f in
      let le = rank_next x.origin r.n ord.1 in
      let st = step_item f r.v x (Falls e) fe.0 o in
      let none = debug_sync_point count f r.v.pos x fe.0 cx in
      record {
        v = record { pos = below r.v.pos; core = e };
        last = r.last;
        n = next_rank x.origin;
        m = next_rank y.origin;
        block = r.block;
        stage = k';
        static = rw (fe.1, ge.1) s;
        dynamic = rw (fe.1, ge.1) q;
        order_f = rw fe.1 ord.2;
        order_g = rw ge.1 (subst (InOrder b r.m) eg r.order_g).2;
        known = λ p k. until_more place b r.n (next_rank x.origin) p le (r.known p k);
        done = done_next g facts.home t.pos b r.n (next_rank x.origin) r.last r.last y (sym r.block) ge.0
            (λ p k h. done_more r.n (next_rank x.origin) r.last p le h) (λ h. not_code y cy h) r.done;
        high = λ p k l eb fi. facts.within_f r.v.pos p x k l fe.0 fi (sym eb);
        walks = λ p next w j. r.walks p (
          from_less place b r.n (next_rank x.origin) p le next.0,
          subst (IsNoLater b p) (sym eg) ((λ h. not_code y cy h), subst (IsNoLater b p) ge.1 next.1),
          next.2,
        ) w (on none st j);
        dooms = λ p next d. r.dooms p (
          from_less place b r.n (next_rank x.origin) p le next.0,
          subst (IsNoLater b p) (sym eg) ((λ h. not_code y cy h), subst (IsNoLater b p) ge.1 next.1),
          next.2,
        ) (later none st d);
      }

  -- past a block's end that is no station
  goes_end : (last0 : Option Pos) (t u : State) (r : Beside change last0 t u) → rest_f r.v.pos ≡ [] → rest_g t.pos ≡ [] → (x : Fetch) → g.fetch t.pos ≡ x →
      gs change t.pos ≡ None → IsPastItems x → (t' : State) → step g t ≡ Went t' → Beside change last0 t' u
  goes_end last0 t u r ef eg (Here i) fe none h t' st = absurd h
  goes_end last0 t u r ef eg Outside fe none h t' st = let bad : Lost ≡ Went t' = sym (ap (λ (z : Fetch). moved g.enter t.pos (do_fetch g z t.core)) fe) ∙ st in
      cc
  goes_end last0 t u r ef eg (EndOfBlock k n) fe none h t' st =
      let b = r.v.pos.block in
      let onward = facts.onward r.v.pos t.pos k n (sym r.block) ef eg fe in
      let go : step g t ≡ Went (record { pos = block_start n; core = t.core }) = step_end g t k n fe ∙
      ap (λ (z : ℕ). Went (record { pos = block_start z; core = t.core })) (facts.enter_g n) in
      let go_f : step f r.v ≡ Went (record { pos = block_start n; core = r.v.core }) = step_end f r.v k n onward.0 ∙
      ap (λ (z : ℕ). Went (record { pos = block_start z; core = r.v.core })) (facts.enter_f n) in
      let no_end = sym (end_is_sync_point count g t.pos k n fe) ∙ none in
      let none_f : fs change r.v.pos ≡ None = end_is_sync_point count f r.v.pos k n onward.0 ∙ no_end_sync_points count _ _ no_end in
      let made = at_start change last0 r.last u n r.v.core t.core
      (facts.ends r.stage r.v.pos k n r.v.core t.core ef onward.0 (static_at change last0 t u r [] [] ef eg) (dynamic_at change last0 t u r [] [] ef eg))
      (λ q h. until_next place b n r.n q onward.1 (r.known q h))
      (λ p next w j. r.walks p
      (from_next place b n r.n p onward.1 next.0, subst (IsNoLater b p) (sym eg) tt, λ q k' n' ce qb fq. not_by_ends count _ no_end ce) w
      (on none_f go_f j))
      (λ p next d. r.dooms p (from_next place b n r.n p onward.1 next.0, subst (IsNoLater b p) (sym eg) tt, λ q k' n' ce qb fq. not_by_ends count _ no_end ce)
      (later none_f go_f d)) in
      subst (λ (z : State). Beside change last0 z u) (went_once g t _ t' go st) made

  between_at : (last0 : Option Pos) (t u : State) (r : Beside change last0 t u) (xs ys : List Item) → rest_f r.v.pos ≡ xs → rest_g t.pos ≡ ys →
      (w : Seen change r.v.pos.block r.stage xs ys) → IsReady change w → gs change t.pos ≡ None → (t' : State) → step g t ≡ Went t' → Beside change last0 t' u
  between_at last0 t u r xs ys ef eg ended rd none t' st = goes_end last0 t u r ef eg (g.fetch t.pos) refl none (facts.laid_g.nil t.pos eg).0 t' st
  between_at last0 t u r xs ys ef eg (both {y = y} {ys = ts} cx cy o j s h) rd none t' st =
      absurd (code_is_some count g t.pos y none (facts.laid_g.cons t.pos y ts eg).0 cy)
  between_at last0 t u r xs ys ef eg (bolder {y = y} {ys = ts} cx cy o j s h) rd none t' st =
      absurd (code_is_some count g t.pos y none (facts.laid_g.cons t.pos y ts eg).0 cy)
  between_at last0 t u r xs ys ef eg (taken c j s h) rd none t' st = absurd rd
  between_at last0 t u r xs ys ef eg (passed c s h) rd none t' st = absurd rd
  between_at last0 t u r xs ys ef eg (added {k' = k'} {y = y} {ys = ts} cy s h) rd none t' st =
      let b = r.v.pos.block in
      let d = h r.v.core t.core (dynamic_at change last0 t u r xs ys ef eg) in
      let go = step_item g t y (Falls d.0) (facts.laid_g.cons t.pos y ts eg).0 d.1 in
      let made = goes_g last0 t u r k' y ts eg cy (subst (λ (z : List Item). MatchItems k' b z ts) (sym ef) s) d.0
      (subst (λ (z : List Item). MatchCores k' b z ts r.v.core d.0) (sym ef) d.2) in
      subst (λ (z : State). Beside change last0 z u) (went_once g t (record { pos = below t.pos; core = d.0 }) t' go st) made
  between_at last0 t u r xs ys ef eg (paired {k' = k'} {x = x} {y = y} {xs = rest} {ys = ts} cx cy s h) rd none t' st =
      let d = h r.v.core t.core (dynamic_at change last0 t u r xs ys ef eg) in
      let go = step_item g t y (Falls d.1) (facts.laid_g.cons t.pos y ts eg).0 d.3 in
      subst (λ (z : State). Beside change last0 z u) (went_once g t (record { pos = below t.pos; core = d.1 }) t' go st)
      (goes_both last0 t u r k' x y rest ts ef eg cx cy s d.0 d.1 d.2 d.4)

  between : (last0 : Option Pos) (t u t' : State) → Beside change last0 t u → gs change t.pos ≡ None → step g t ≡ Went t' → Beside change last0 t' u ⊎
      IsStuckFrom src f g s0 (fs change) (gs change) last0 t u
  between last0 t u t' r none st =
      elim (ready change last0 t u r) as (λ z. Beside change last0 t' u ⊎ IsStuckFrom src f g s0 (fs change) (gs change) last0 t u) [
        | inl c ↦ inl (between_at last0 t u c.at c.xs c.ys c.is_f c.is_g c.view c.ready none t' st)
        | inr d ↦ inr d
      ]

  -- beside each other again after code of both; nothing lies between
  goes_on : (last0 : Option Pos) (t u : State) (r : Beside change last0 t u) (k' : Stage) (x y : Item) (xs ys : List Item) → rest_f r.v.pos ≡ x ∷ xs →
      rest_g t.pos ≡ y ∷ ys → x.origin ≡ y.origin → since_item count x ≡ since_item count y → MatchItems k' r.v.pos.block xs ys →
      (a c : Outcome) → ((d : Core) → c ≡ Falls d → moves_on count y.kind ≡ false) →
      DoAlike count src sides match_states r.v.pos.block xs ys (since_item count x) k' a c → (t' : State) → moved g.enter t.pos c ≡ Went t' →
      (w' : State) × (moved f.enter r.v.pos a ≡ Went w') × Beside change (waiting (since_item count y) (position_of y.origin)) t' w'
  goes_on last0 t u r k' x y xs ys ef eg o sy s (Falls e) (Falls e') stays al t' st =
      let b = r.v.pos.block in
      let fe = facts.laid_f.cons r.v.pos x xs ef in
      let ge = facts.laid_g.cons t.pos y ys eg in
      let ord = subst (InOrder b r.n) ef r.order_f in
      let last = waits_after y.origin in
      let since : since_item count y ≡ since_of (waits_at false y.origin) = ap (λ (z : Bool). since_of (waits_at z y.origin)) (stays e' refl) in
      let home : (position_of y.origin).block ≡ b = ap (λ (z : Origin). (position_of z).block) (sym o) ∙ ord.0 in
      let low : r.n ≤ rank y.origin = subst (λ (z : Origin). r.n ≤ rank z) o ord.1 in
      let v1 : State = record { pos = below r.v.pos; core = e } in
      let t1 : State = record { pos = below t.pos; core = e' } in
      let is : t1 ≡ t' = cc in
      let made : Beside change last t1 v1 = record {
        v = v1;
        last = last;
        n = next_rank y.origin;
        m = next_rank y.origin;
        block = r.block;
        stage = k';
        static = rw (fe.1, ge.1) s;
        dynamic = rw (fe.1, ge.1) al;
        order_f = rw fe.1 (subst (λ (z : Origin). InOrder b (next_rank z) xs) o ord.2);
        order_g = rw ge.1 (subst (InOrder b r.m) eg r.order_g).2;
        known = waits_until place b y.origin home;
        done = done_next g facts.home t.pos b r.n (next_rank y.origin) r.last last y (sym r.block) ge.0
            (done_code place b r.n r.last y.origin home low r.known) (λ h. done_self y.origin) r.done;
        high = λ p k l eb fi. subst (λ (z : Origin). next_rank z ≤ 2 * k) o (facts.within_f r.v.pos p x k l fe.0 fi (sym eb));
        walks = λ p next w j. j;
        dooms = λ p next d. d;
      } in (
        v1,
        refl,
        subst (λ (z : State). Beside change (waiting (since_item count y) (position_of y.origin)) z v1) is
            (subst (λ (z : Since). Beside change (waiting z (position_of y.origin)) t1 v1) (sym since) made),
      )
  goes_on last0 t u r k' x y xs ys ef eg o sy s (Goes n e) (Goes k e') stays al t' st =
      let t1 : State = record { pos = block_start n; core = e' } in
      let w1 : State = record { pos = block_start n; core = e } in
      let went : Went t1 ≡ Went t' = ap (λ (z : ℕ). Went (record { pos = block_start z; core = e' })) (al.0 ∙ sym (facts.enter_g k)) ∙ st in
      let is : t1 ≡ t' = cc in
      let after : since_item count y ≡ After = sym sy ∙ al.1.0 in
      let made : Beside change None t1 w1 = at_start change None None w1 n e e' al.1.1 (λ p h. cc) (λ p next w j. j) (λ p next d. d) in (
        w1,
        ap (λ (z : ℕ). Went (record { pos = block_start z; core = e })) (facts.enter_f n),
        subst (λ (z : State). Beside change (waiting (since_item count y) (position_of y.origin)) z w1) is
            (subst (λ (z : Since). Beside change (waiting z (position_of y.origin)) t1 w1) (sym after) made),
      )
  goes_on last0 t u r k' x y xs ys ef eg o sy s (Gives v) (Gives w) stays al t' st = cc
  goes_on last0 t u r k' x y xs ys ef eg o sy s Traps Traps stays al t' st = cc
  goes_on last0 t u r k' x y xs ys ef eg o sy s Asks Asks stays al t' st = cc
  goes_on last0 t u r k' x y xs ys ef eg o sy s Breaks Breaks stays al t' st = cc
  goes_on last0 t u r k' x y xs ys ef eg o sy s _ _ stays al t' st = absurd al

  abbrev Meeting : Option Pos → State → State → SyncPoint → Type 0
  Meeting last0 t u i = (w : State) × Walk f (fs change) (gs change) i.pos last0 u w × Meets f g (fs change) (Beside change) t w i

  -- both at a block's end that is a station
  meets_end : (last0 : Option Pos) (t u : State) (r : Beside change last0 t u) → rest_f r.v.pos ≡ [] → rest_g t.pos ≡ [] → (i : SyncPoint) →
      IsSyncPointOf count g t.pos i → Meeting last0 t u i
  meets_end last0 t u r ef eg i (of_item x fx cx ix) = absurd (not_past_items (g.fetch t.pos) x (facts.laid_g.nil t.pos eg).0 fx)
  meets_end last0 t u r ef eg i (of_end k n fe ce ie) =
      let b = r.v.pos.block in
      let onward = facts.onward r.v.pos t.pos k n (sym r.block) ef eg fe in
      let p : Pos = record { block = b; item = k } in
      let end : SyncPoint = record { pos = p; waits = false } in
      let is : i ≡ end = ie ∙ ap (λ (z : ℕ). record { pos = record { block = z; item = k }; waits = false }) r.block in
      let t1 : State = record { pos = block_start n; core = t.core } in
      let v1 : State = record { pos = block_start n; core = r.v.core } in
      let go : step g t ≡ Went t1 = step_end g t k n fe ∙ ap (λ (z : ℕ). Went (record { pos = block_start z; core = t.core })) (facts.enter_g n) in
      let go_f : step f r.v ≡ Went v1 = step_end f r.v k n onward.0 ∙
      ap (λ (z : ℕ). Went (record { pos = block_start z; core = r.v.core })) (facts.enter_f n) in
      let shows = facts.shows r.stage b (rest_f r.v.pos) (rest_g t.pos) r.v.core t.core r.dynamic in
      let next : Beside change None t1 v1 = at_start change None None v1 n r.v.core t.core
      (facts.ends r.stage r.v.pos k n r.v.core t.core ef onward.0 (static_at change last0 t u r [] [] ef eg) (dynamic_at change last0 t u r [] [] ef eg))
      (λ q h. cc) (λ q ok w j. j) (λ p next d. d) in
      let made : Meets f g (fs change) (Beside change) t r.v end = record {
        sync_point = end;
        stands = end_is_sync_point count f r.v.pos k n onward.0 ∙ ap (λ (z : Count). end_sync_point z p) ce;
        pos = refl;
        since = refl;
        events = shows.events;
        told = shows.told;
        returns = λ rs h. let bad : Went t1 ≡ Returned rs = sym go ∙ h in cc;
        faults = λ h. let bad : Went t1 ≡ Faulted = sym go ∙ h in cc;
        goes = λ t' h. inl (v1, go_f, subst (λ (z : State). Beside change None z v1) (went_once g t t1 t' go h) next);
      } in
      let ok : IsNext change b r.n (rest_g t.pos) p = (
        inl (refl, let h = r.high t.pos k n r.block fe in omega (arith, h)),
        subst (IsNoLater b p) (sym eg) tt,
        λ q k' n' ce' qb fq. (refl, let h = facts.one_end t.pos q k n k' n' fe fq (r.block ∙ sym qb) in omega (arith, h)),
      ) in
      subst (λ (z : SyncPoint). Meeting last0 t u z) (sym is) (r.v, r.walks p ok r.v there, made)

  -- both at code of one origin
  meets_code : (last0 : Option Pos) (t u : State) (r : Beside change last0 t u) (x y : Item) (xs ys : List Item) → rest_f r.v.pos ≡ x ∷ xs →
      rest_g t.pos ≡ y ∷ ys → is_code x.kind ≡ true → x.origin ≡ y.origin → since_item count x ≡ since_item count y →
      ((v : RunResult) → do_item g y.kind t.core ≡ Gives v → do_item f x.kind r.v.core ≡ Gives v) →
      (do_item g y.kind t.core ≡ Traps → do_item f x.kind r.v.core ≡ Traps) →
      ((t' : State) → step g t ≡ Went t' →
      ((w' : State) × (step f r.v ≡ Went w') × Beside change (waiting (since_item count y) (position_of y.origin)) t' w') ⊎
      ((since_item count y ≡ After) × (step f r.v ≡ Faulted))) → Meeting last0 t u (sync_point_of count y)
  meets_code last0 t u r x y xs ys ef eg cx o since gives traps goes =
      let b = r.v.pos.block in
      let fe = facts.laid_f.cons r.v.pos x xs ef in
      let ge = facts.laid_g.cons t.pos y ys eg in
      let a = do_item f x.kind r.v.core in
      let c = do_item g y.kind t.core in
      let go_f = step_item f r.v x a fe.0 refl in
      let go = step_item g t y c ge.0 refl in
      let shows = facts.shows r.stage b (rest_f r.v.pos) (rest_g t.pos) r.v.core t.core r.dynamic in
      let ord = subst (InOrder b r.n) ef r.order_f in
      let ord_g = subst (InOrder b r.m) eg r.order_g in
      let p = position_of y.origin in
      let low = rank_low y.origin in
      let here : r.n ≤ 2 * p.item + 1 = subst (λ (z : Origin). r.n ≤ 2 * (position_of z).item + 1) o
      (let k = rank_high x.origin in let l = ord.1 in omega (arith, k, l)) in
      let ahead_ok : IsNoLater b p (rest_g t.pos) = subst (IsNoLater b p) (sym eg)
      ((λ z. (ord_g.0, low)), no_later b (next_rank y.origin) p ys ord_g.0 (rank_next y.origin (2 * p.item) low) ord_g.2) in
      let made : Meets f g (fs change) (Beside change) t r.v (sync_point_of count y) = record {
        sync_point = sync_point_of count x;
        stands = code_sync_point count f r.v.pos x fe.0 cx;
        pos = ap position_of o;
        since = since;
        events = shows.events;
        told = shows.told;
        returns = both_return f g r.v t a c go_f go gives;
        faults = both_fault f g r.v t a c go_f go traps;
        goes = goes;
      } in
      (r.v, r.walks p (inl (ord_g.0, here), ahead_ok, λ q k n ce qb fq. (ord_g.0, facts.within t.pos q y k n ge.0 fq (r.block ∙ sym qb))) r.v there, made)

  same_since : (x y : Item) → x.origin ≡ y.origin → moves_on count x.kind ≡ moves_on count y.kind → since_item count x ≡ since_item count y
  same_since x y o j = ap (λ (z : Bool). since_of (waits_at z x.origin)) j ∙ ap (λ (z : Origin). since_of (waits_at (moves_on count y.kind) z)) o

  -- code that is alike
  meets_alike : (last0 : Option Pos) (t u : State) (r : Beside change last0 t u) (k' : Stage) (x y : Item) (xs ys : List Item) → rest_f r.v.pos ≡ x ∷ xs →
      rest_g t.pos ≡ y ∷ ys → is_code x.kind ≡ true → x.origin ≡ y.origin → moves_on count x.kind ≡ moves_on count y.kind →
      MatchItems k' r.v.pos.block xs ys →
      DoAlike count src sides match_states r.v.pos.block xs ys (since_item count x) k' (do_item f x.kind r.v.core) (do_item g y.kind t.core) →
      Meeting last0 t u (sync_point_of count y)
  meets_alike last0 t u r k' x y xs ys ef eg cx o j s al =
      let a = do_item f x.kind r.v.core in
      let c = do_item g y.kind t.core in
      let since : since_item count x ≡ since_item count y = same_since x y o j in
      let go_f = step_item f r.v x a (facts.laid_f.cons r.v.pos x xs ef).0 refl in
      let go = step_item g t y c (facts.laid_g.cons t.pos y ys eg).0 refl in
      meets_code last0 t u r x y xs ys ef eg cx o since (alike_gives _ _ a c al) (alike_traps _ _ a c al)
      (λ t' h. let z = goes_on last0 t u r k' x y xs ys ef eg o since s a c (λ d e. falls_stays count g y.kind t.core d e) al t' (sym go ∙ h) in
      inl (z.0, go_f ∙ z.1, z.2))

  -- code of which f's alone traps
  meets_trap : (last0 : Option Pos) (t u : State) (r : Beside change last0 t u) (x y : Item) (xs ys : List Item) → rest_f r.v.pos ≡ x ∷ xs →
      rest_g t.pos ≡ y ∷ ys → is_code x.kind ≡ true → x.origin ≡ y.origin → moves_on count x.kind ≡ moves_on count y.kind →
      TrapsAlone (since_item count x) (do_item f x.kind r.v.core) (do_item g y.kind t.core) → Meeting last0 t u (sync_point_of count y)
  meets_trap last0 t u r x y xs ys ef eg cx o j alone =
      let a = do_item f x.kind r.v.core in
      let c = do_item g y.kind t.core in
      let since : since_item count x ≡ since_item count y = same_since x y o j in
      let traps : a ≡ Traps = alone_trap (since_item count x) a c alone in
      let faulted : step f r.v ≡ Faulted =
      step_item f r.v x a (facts.laid_f.cons r.v.pos x xs ef).0 refl ∙ ap (moved f.enter r.v.pos) traps in
      meets_code last0 t u r x y xs ys ef eg cx o since (alone_gives (since_item count x) a c alone) (λ h. traps)
      (λ t' h. inr (sym since ∙ alone_after (since_item count x) a c alone, faulted))

  meets_at_view : (last0 : Option Pos) (t u : State) (r : Beside change last0 t u) (xs ys : List Item) → rest_f r.v.pos ≡ xs → rest_g t.pos ≡ ys →
      (w : Seen change r.v.pos.block r.stage xs ys) → IsReady change w → (i : SyncPoint) → gs change t.pos ≡ Some i → Meeting last0 t u i
  meets_at_view last0 t u r xs ys ef eg ended rd i e = meets_end last0 t u r ef eg i (sync_point_is_of count g t.pos i e)
  meets_at_view last0 t u r xs ys ef eg (taken c j s h) rd i e = absurd rd
  meets_at_view last0 t u r xs ys ef eg (passed c s h) rd i e = absurd rd
  meets_at_view last0 t u r xs ys ef eg (added {y = y} {ys = ts} cy s h) rd i e =
      absurd (debug_is_none count g t.pos y i e (facts.laid_g.cons t.pos y ts eg).0 cy)
  meets_at_view last0 t u r xs ys ef eg (paired {x = x} {y = y} {xs = rest} {ys = ts} cx cy s h) rd i e =
      absurd (debug_is_none count g t.pos y i e (facts.laid_g.cons t.pos y ts eg).0 cy)
  meets_at_view last0 t u r xs ys ef eg (both {k' = k'} {x = x} {y = y} {xs = rest} {ys = ts} cx cy o j s h) rd i e =
      subst (λ (z : SyncPoint). Meeting last0 t u z) (code_is count g t.pos y i e (facts.laid_g.cons t.pos y ts eg).0 cy)
      (meets_alike last0 t u r k' x y rest ts ef eg cx o j s (h r.v.core t.core (dynamic_at change last0 t u r xs ys ef eg)))
  meets_at_view last0 t u r xs ys ef eg (bolder {k' = k'} {x = x} {y = y} {xs = rest} {ys = ts} cx cy o j s h) rd i e =
      subst (λ (z : SyncPoint). Meeting last0 t u z) (code_is count g t.pos y i e (facts.laid_g.cons t.pos y ts eg).0 cy)
      (elim (h r.v.core t.core (dynamic_at change last0 t u r xs ys ef eg)) as (λ _. Meeting last0 t u (sync_point_of count y)) [
        | inl al ↦ meets_alike last0 t u r k' x y rest ts ef eg cx o j s al
        | inr alone ↦ meets_trap last0 t u r x y rest ts ef eg cx o j alone
      ])

  meets : (last0 : Option Pos) (t u : State) (i : SyncPoint) → Beside change last0 t u → gs change t.pos ≡ Some i → Meeting last0 t u i ⊎
      IsStuck src f g s0 (fs change) (gs change) last0 t u i
  meets last0 t u i r e =
      elim (ready change last0 t u r) as (λ z. Meeting last0 t u i ⊎ IsStuck src f g s0 (fs change) (gs change) last0 t u i) [
        | inl c ↦ inl (meets_at_view last0 t u c.at c.xs c.ys c.is_f c.is_g c.view c.ready i e)
        | inr d ↦ inr (d.on_the_way t i still e)
      ]

  refines : Refines src f g s0 (fs change) (gs change) (Beside change)
  refines = record { origins = facts.origins; between = between; meets = meets }

  pub changed_in_place : s0.pos.item ≡ 0 → g0.pos ≡ s0.pos → MatchCores (entry s0.pos.block) s0.pos.block (rest_f s0.pos) (rest_g g0.pos) s0.core g0.core →
      RunsMatch src f (fs change) (AnyOrigin (fs change)) s0 s0 → RunsMatch src g (gs change) (AnyOrigin (gs change)) s0 g0
  changed_in_place z same q follows =
      let b = s0.pos.block in
      let at : s0.pos ≡ block_start b = same_pos s0.pos (block_start b) refl z in
      let at_g : g0.pos ≡ block_start b = same ∙ at in
      let q1 = subst (λ (p : Pos). MatchCores (entry b) b (rest_f p) (rest_g g0.pos) s0.core g0.core) at q in
      let q0 = subst (λ (p : Pos). MatchCores (entry b) b (rest_f (block_start b)) (rest_g p) s0.core g0.core) at_g q1 in
      let s1 : State = record { pos = block_start b; core = s0.core } in
      let g1 : State = record { pos = block_start b; core = g0.core } in
      let made : Beside change None g1 s1 = at_start change None None s1 b s0.core g0.core q0 (λ p h. cc) (λ p next w j. j) (λ p next d. d) in
      let is : s1 ≡ s0 = λ i. record { pos = sym at i; core = s0.core } in
      let is_g : g1 ≡ g0 = λ i. record { pos = sym at_g i; core = g0.core } in
      still_follows src f g (fs change) (gs change) (Beside change) s0 s0 g0 follows refines
      (subst (λ (y : State). Beside change None y s0) is_g (subst (λ (y : State). Beside change None g1 y) is made))

pub in_place_follows : (match_states : MatchStates) → InPlaceFollows match_states
in_place_follows match_states count src sides place facts z same q follows =
    changed_in_place (record { count = count; src = src; sides = sides; match_states = match_states; place = place; facts = facts }) z same q follows
