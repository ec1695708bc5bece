-- A change in place: f beside g, and f goes past what g lacks.
use Rattle.std.proofs.Common.{◌≡◌, ℕ, zero, suc, ◌+◌, ◌-◌, ◌*◌, ◌<◌, ◌≤◌, List, [], ◌∷◌, length, All, Option, Some, Bool, true, false, refl, sym, ap, ◌∙◌}
use Rattle.std.proofs.Common.{subst, inl, inr, ◌⊎◌, arith}
use Rattle.std.proofs.lemmas.Bool.{cases_lt}
use Rattle.sem_mir.specs.mir_func.declared.position.Pos.{Pos}
use Rattle.sem_mir.specs.mir_func.declared.position.Origin.{Origin}
use Rattle.sem_mir.specs.mir_func.declared.position.Origin.TheVariants.{Kept, Before}
use Rattle.sem_mir.specs.mir_func.declared.item.Item.{Item}
use Rattle.sem_mir.specs.State.{State, Core}
use Rattle.sem_mir.specs.Step.{Faulted, Outcome, Falls, Goes, Gives, Traps, Asks, Breaks, do_item, step}
use Rattle.sem_mir.specs.mir_func.Graph.{Here, EndOfBlock, below, block_start}
use Rattle.sem_mir.specs.mir_func.Positions.{position_of}
use Rattle.sem_mir.specs.Align.{is_code, SyncPoint, moves_on, waits_at, sync_point_of, IsOrigin, Since, Same, After, since_of}
use Rattle.sem_mir.specs.Follow.{rank, next_rank, InOrder}
use Rattle.sem_simulation.specs.MatchStates.{ShowsSame, since_item}
use Rattle.sem_simulation.specs.Refinement.{waiting, Walk, there, on, past, IsDoomed, faults, later, later_past, Passes, FaultsAt, Lingers, IsStuck, doomed}
use Rattle.sem_simulation.specs.Refinement.{halted}
use Rattle.sem_simulation.specs.Refinement.{IsStuckFrom}
use Rattle.sem_simulation.specs.InPlace.{FallsOrTraps, IsIdleAt, MayTrap, ended, both, bolder, taken, passed, added, paired}
use Rattle.sem_mir.proofs.Outcomes.{step_item}
use Rattle.sem_simulation.proofs.Order.{cases_pos, rank_high, rank_next, same_pos, IsDone, done_more, waits_after, waits_until, done_code, IsNoLater, IsFrom}
use Rattle.sem_simulation.proofs.Order.{IsUntil, from_less, until_more, may_pass}
use Rattle.sem_simulation.proofs.Between.{Change, fs, gs, Seen, IsNext, first_from, next_sync_point}
use Rattle.sem_simulation.proofs.Idle.{lingers_past, shows_idle}
use Rattle.sem_simulation.proofs.Stations.{code_sync_point, debug_sync_point, IsSyncPointOf, of_item, of_end, sync_point_is_of, not_past_items}

module _ (change : Change) where
  open change use {count, src, sides, match_states, place, facts}
  open sides use {old.{program as f, rest as rest_f, start as s0}, new.{program as g, rest as rest_g, start as g0}}
  open match_states use {Stage, entry, MatchItems, MatchCores}

  -- f stands at v beside g at t; it was at u right after the station that both met last
  pub record Beside (last0 : Option Pos) (t u : State) : Type 0 where
    pub v : State
    -- where the source waits when f is at v
    pub last : Option Pos
    -- f's items before rank n and g's before rank m are behind
    pub n : ℕ
    pub m : ℕ
    pub block : t.pos.block ≡ v.pos.block
    pub stage : Stage
    pub static : MatchItems stage v.pos.block (rest_f v.pos) (rest_g t.pos)
    pub dynamic : MatchCores stage v.pos.block (rest_f v.pos) (rest_g t.pos) v.core t.core
    pub order_f : InOrder v.pos.block n (rest_f v.pos)
    pub order_g : InOrder v.pos.block m (rest_g t.pos)
    pub known : (q : Pos) → last ≡ Some q → IsUntil place v.pos.block n q
    pub done : (k : ℕ) (i : Item) → k < t.pos.item → g.fetch (record { block = v.pos.block; item = k }) ≡ Here i → is_code i.kind ≡ true →
        IsDone n last (position_of i.origin)
    pub high : (e : Pos) (k l : ℕ) → e.block ≡ v.pos.block → g.fetch e ≡ EndOfBlock k l → n ≤ 2 * k
    pub walks : (p : Pos) → IsNext change v.pos.block n (rest_g t.pos) p → (w : State) → Walk f (fs change) (gs change) p last v w →
        Walk f (fs change) (gs change) p last0 u w
    pub dooms : (p : Pos) → IsNext change v.pos.block n (rest_g t.pos) p → IsDoomed f (fs change) (gs change) p last v →
        IsDoomed f (fs change) (gs change) p last0 u

  -- both at the start of a block
  pub at_start : (last0 last : Option Pos) (u : State) (b : ℕ) (c d : Core) → MatchCores (entry b) b (rest_f (block_start b)) (rest_g (block_start b)) c d →
      ((q : Pos) → last ≡ Some q → IsUntil place b 0 q) →
      ((p : Pos) → IsNext change b 0 (rest_g (block_start b)) p → (w : State) →
      Walk f (fs change) (gs change) p last (record { pos = block_start b; core = c }) w → Walk f (fs change) (gs change) p last0 u w) →
      ((p : Pos) → IsNext change b 0 (rest_g (block_start b)) p → IsDoomed f (fs change) (gs change) p last (record { pos = block_start b; core = c }) →
      IsDoomed f (fs change) (gs change) p last0 u) → Beside last0 (record { pos = block_start b; core = d }) u
  at_start last0 last u b c d q known walks dooms = record {
    v = record { pos = block_start b; core = c };
    last = last;
    n = 0;
    m = 0;
    block = refl;
    stage = entry b;
    static = facts.starts b;
    dynamic = q;
    order_f = facts.order_f b;
    order_g = facts.order_g b;
    known = known;
    done = λ k i lt fi c. absurd (omega (arith, lt));
    high = λ e k l eb fe. omega arith;
    walks = walks;
    dooms = dooms;
  }

  pub static_at : (last0 : Option Pos) (t u : State) (r : Beside last0 t u) (xs ys : List Item) → rest_f r.v.pos ≡ xs → rest_g t.pos ≡ ys →
      MatchItems r.stage r.v.pos.block xs ys
  static_at last0 t u r xs ys ef eg = rw (sym ef, sym eg) r.static

  pub dynamic_at : (last0 : Option Pos) (t u : State) (r : Beside last0 t u) (xs ys : List Item) → rest_f r.v.pos ≡ xs → rest_g t.pos ≡ ys →
      MatchCores r.stage r.v.pos.block xs ys r.v.core t.core
  dynamic_at last0 t u r xs ys ef eg = rw (sym ef, sym eg) r.dynamic

  -- p is no later than code that stands further on in g's block
  ahead : (k : ℕ) (q p : Pos) (b : ℕ) (i : Item) (ys : List Item) → rest_g q ≡ ys → IsNoLater b p ys →
      g.fetch (record { block = q.block; item = q.item + k }) ≡ Here i → is_code i.kind ≡ true → (p.block ≡ b) × (2 * p.item ≤ rank i.origin)
  ahead zero q p b i [] e h fi c =
      let z : q.item + 0 ≡ q.item = omega arith in
      absurd (not_past_items (g.fetch q) i (facts.laid_g.nil q e).0 (subst (λ (n : ℕ). g.fetch (record { block = q.block; item = n }) ≡ Here i) z fi))
  ahead zero q p b i (y ∷ ys) e h fi c =
      let z : q.item + 0 ≡ q.item = omega arith in
      let w : Here y ≡ Here i = sym (facts.laid_g.cons q y ys e).0 ∙ subst (λ (n : ℕ). g.fetch (record { block = q.block; item = n }) ≡ Here i) z fi in
      let k : y ≡ i = cc in
      subst (λ (j : Item). (p.block ≡ b) × (2 * p.item ≤ rank j.origin)) k (h.0 (subst (λ (j : Item). is_code j.kind ≡ true) (sym k) c))
  ahead (suc k) q p b i [] e h fi c =
      let z : q.item + suc k ≡ (q.item + 1) + k = omega arith in
      ahead k (below q) p b i [] (facts.laid_g.nil q e).1 tt (subst (λ (n : ℕ). g.fetch (record { block = q.block; item = n }) ≡ Here i) z fi) c
  ahead (suc k) q p b i (y ∷ ys) e h fi c =
      let z : q.item + suc k ≡ (q.item + 1) + k = omega arith in
      ahead k (below q) p b i ys (facts.laid_g.cons q y ys e).1 h.1 (subst (λ (n : ℕ). g.fetch (record { block = q.block; item = n }) ≡ Here i) z fi) c

  -- on the way to p, g has nothing from where f's item stands, unless the source waits there
  meets_at : (o : Origin) (p : Pos) (b : ℕ) → (position_of o).block ≡ b → p.block ≡ b → next_rank o ≤ 2 * p.item + 1 →
      2 * p.item ≤ 2 * (position_of o).item + 1 → p ≡ position_of o
  meets_at (Kept q) p b e k lo hi = absurd (omega (arith, lo, hi))
  meets_at (Before q) p b e k lo hi = same_pos p q (k ∙ sym e) (omega (arith, lo, hi))

  lacks : (last0 : Option Pos) (t u : State) (r : Beside last0 t u) (x : Item) (p : Pos) → (position_of x.origin).block ≡ r.v.pos.block → r.n ≤ rank x.origin →
      IsNext change r.v.pos.block (next_rank x.origin) (rest_g t.pos) p →
      (p ≡ position_of x.origin → ⊥) → (r.last ≡ Some (position_of x.origin) → ⊥) → IsOrigin (gs change) (position_of x.origin) → ⊥
  lacks last0 t u r x p home low next ne far o = by_sync_point (sync_point_is_of count g o.place o.sync_point o.stands) where
    b : ℕ
    b = r.v.pos.block

    -- where g has it no earlier than p, p is there
    there_is : (k : ℕ) → k ≡ (position_of x.origin).item → p.block ≡ b → 2 * p.item ≤ 2 * k + 1 → ⊥
    there_is k i pb hi =
        elim next.0 as (λ z. ⊥) [
          | inl y ↦ ne (meets_at x.origin p b home pb y.1 (omega (arith, hi, i)))
          | inr y ↦ (let z : place p.block ≡ place b = ap place pb in omega (arith, y, z))
        ]

    by_item : (j : Item) → g.fetch o.place ≡ Here j → is_code j.kind ≡ true → position_of j.origin ≡ position_of x.origin → ⊥
    by_item j fj cj from =
        let i : (position_of j.origin).item ≡ (position_of x.origin).item = ap (λ (z : Pos). z.item) from in
        let at : o.place.block ≡ b = sym (facts.home o.place j fj) ∙ ap (λ (z : Pos). z.block) from ∙ home in
        let fk : (n : ℕ) → o.place.item ≡ n → g.fetch (record { block = b; item = n }) ≡ Here j =
        λ n e. subst (λ (z : Pos). g.fetch z ≡ Here j) (same_pos o.place (record { block = b; item = n }) at e) fj in
        elim (cases_lt o.place.item t.pos.item) as (λ z. ⊥) [
          | inl lt ↦
              elim (r.done o.place.item j lt (fk o.place.item refl) cj) as (λ z. ⊥) [
                | inl d ↦ (let h = rank_high x.origin in omega (arith, d, low, h, i))
                | inr d ↦ far (d ∙ ap Some from)
              ]
          | inr ge ↦
              let k = o.place.item - t.pos.item in
              let e : o.place.item ≡ t.pos.item + k = omega (arith, ge) in
              let a = ahead k t.pos p b j (rest_g t.pos) refl next.1
              (subst (λ (z : ℕ). g.fetch (record { block = z; item = t.pos.item + k }) ≡ Here j) (sym r.block) (fk (t.pos.item + k) e)) cj in
              there_is (position_of j.origin).item i a.0 (let h = rank_high j.origin in let z = a.1 in omega (arith, h, z))
        ]

    by_sync_point : IsSyncPointOf count g o.place o.sync_point → ⊥
    by_sync_point (of_item j fj cj sj) = by_item j fj cj (ap (λ (z : SyncPoint). z.pos) sj ∙ o.from)
    by_sync_point (of_end k n fe ce se) =
        let from : record { block = o.place.block; item = k } ≡ position_of x.origin = ap (λ (z : SyncPoint). z.pos) (sym se) ∙ o.from in
        let a = next.2 o.place k n ce (ap (λ (z : Pos). z.block) from ∙ home) fe in
        there_is k (ap (λ (z : Pos). z.item) from) a.0 (let z = a.1 in omega (arith, z))

  -- f alone goes past an item
  goes_f : (last0 : Option Pos) (t u : State) (r : Beside last0 t u) (k' : Stage) (x : Item) (xs : List Item) (e : Core) (l : Option Pos) →
      rest_f r.v.pos ≡ x ∷ xs → MatchItems k' r.v.pos.block xs (rest_g t.pos) → MatchCores k' r.v.pos.block xs (rest_g t.pos) e t.core →
      ((q : Pos) → l ≡ Some q → IsUntil place r.v.pos.block (next_rank x.origin) q) →
      ((q : Pos) → q.block ≡ r.v.pos.block → IsDone r.n r.last q → IsDone (next_rank x.origin) l q) →
      ((p : Pos) → IsNext change r.v.pos.block (next_rank x.origin) (rest_g t.pos) p → (w : State) →
      Walk f (fs change) (gs change) p l (record { pos = below r.v.pos; core = e }) w → Walk f (fs change) (gs change) p r.last r.v w) →
      ((p : Pos) → IsNext change r.v.pos.block (next_rank x.origin) (rest_g t.pos) p →
      IsDoomed f (fs change) (gs change) p l (record { pos = below r.v.pos; core = e }) → IsDoomed f (fs change) (gs change) p r.last r.v) →
      Beside last0 t u
  goes_f last0 t u r k' x xs e l at st dy known done walks dooms =
      let b = r.v.pos.block in
      let o = subst (InOrder b r.n) at r.order_f in
      let laid = facts.laid_f.cons r.v.pos x xs at in
      let le = rank_next x.origin r.n o.1 in
      record {
        v = record { pos = below r.v.pos; core = e };
        last = l;
        n = next_rank x.origin;
        m = r.m;
        block = r.block;
        stage = k';
        static = rw laid.1 st;
        dynamic = rw laid.1 dy;
        order_f = rw laid.1 o.2;
        order_g = r.order_g;
        known = known;
        done = λ k i lt fi c. done (position_of i.origin) (facts.home _ i fi) (r.done k i lt fi c);
        high = λ q k l eb fe. facts.within_f r.v.pos q x k l laid.0 fe (sym eb);
        walks = λ p next w j. r.walks p (from_less place b r.n (next_rank x.origin) p le next.0, next.1, next.2) w (walks p next w j);
        dooms = λ p next d. r.dooms p (from_less place b r.n (next_rank x.origin) p le next.0, next.1, next.2) (dooms p next d);
      }

  passes_debug : (last0 : Option Pos) (t u : State) (r : Beside last0 t u) (k' : Stage) (x : Item) (xs ys : List Item) → rest_f r.v.pos ≡ x ∷ xs →
      rest_g t.pos ≡ ys → is_code x.kind ≡ false → MatchItems k' r.v.pos.block xs ys → (e : Core) → do_item f x.kind r.v.core ≡ Falls e →
      MatchCores k' r.v.pos.block xs ys e t.core → Beside last0 t u
  passes_debug last0 t u r k' x xs ys ef eg c s e o q =
      let b = r.v.pos.block in
      let fx = (facts.laid_f.cons r.v.pos x xs ef).0 in
      let le = rank_next x.origin r.n (subst (InOrder b r.n) ef r.order_f).1 in
      let st = step_item f r.v x (Falls e) fx o in
      let none = debug_sync_point count f r.v.pos x fx c in
      goes_f last0 t u r k' x xs e r.last ef (subst (MatchItems k' b xs) (sym eg) s) (subst (λ (z : List Item). MatchCores k' b xs z e t.core) (sym eg) q)
      (λ p k. until_more place b r.n (next_rank x.origin) p le (r.known p k))
      (λ p k h. done_more r.n (next_rank x.origin) r.last p le h) (λ p next w j. on none st j) (λ p next d. later none st d)

  passes_code : (last0 : Option Pos) (t u : State) (r : Beside last0 t u) (k' : Stage) (x : Item) (xs ys : List Item) → rest_f r.v.pos ≡ x ∷ xs →
      rest_g t.pos ≡ ys → is_code x.kind ≡ true → moves_on count x.kind ≡ false → MatchItems k' r.v.pos.block xs ys → (e : Core) →
      do_item f x.kind r.v.core ≡ Falls e → MatchCores k' r.v.pos.block xs ys e t.core → Beside last0 t u
  passes_code last0 t u r k' x xs ys ef eg c stays s e o q =
      let b = r.v.pos.block in
      let fx = (facts.laid_f.cons r.v.pos x xs ef).0 in
      let ord = subst (InOrder b r.n) ef r.order_f in
      let st = step_item f r.v x (Falls e) fx o in
      let since : since_item count x ≡ since_of (waits_at false x.origin) = ap (λ (z : Bool). since_of (waits_at z x.origin)) stays in
      goes_f last0 t u r k' x xs e (waits_after x.origin) ef (subst (MatchItems k' b xs) (sym eg) s) (subst (λ (z : List Item). MatchCores k' b xs z e t.core)
      (sym eg) q)
      (waits_until place b x.origin ord.0)
      (done_code place b r.n r.last x.origin ord.0 ord.1 r.known)
      (λ p next w j. past (sync_point_of count x) (code_sync_point count f r.v.pos x fx c)
      (may_pass place (gs change) count b r.n r.last x p ord.0 ord.1 r.known next.0 stays (lacks last0 t u r x p ord.0 ord.1 next)) st
      (subst (λ (z : Since). Walk f (fs change) (gs change) p (waiting z (position_of x.origin)) (record { pos = below r.v.pos; core = e }) w) (sym since) j))
      (λ p next d. later_past (sync_point_of count x) (code_sync_point count f r.v.pos x fx c)
      (may_pass place (gs change) count b r.n r.last x p ord.0 ord.1 r.known next.0 stays (lacks last0 t u r x p ord.0 ord.1 next)) st
      (subst (λ (z : Since). IsDoomed f (fs change) (gs change) p (waiting z (position_of x.origin)) (record { pos = below r.v.pos; core = e })) (sym since) d))

  -- where f's code that is taken out traps, f is stuck on the way to g's next station
  stuck_here : (last0 : Option Pos) (t u : State) (r : Beside last0 t u) (k' : Stage) (x : Item) (xs ys : List Item) → rest_f r.v.pos ≡ x ∷ xs →
      rest_g t.pos ≡ ys → is_code x.kind ≡ true → moves_on count x.kind ≡ false → MatchItems k' r.v.pos.block xs ys →
      MatchCores r.stage r.v.pos.block (x ∷ xs) ys r.v.core t.core → MayTrap count src sides match_states x ys → step f r.v ≡ Faulted → {X : Type 0} → X ⊎
      IsStuckFrom src f g s0 (fs change) (gs change) last0 t u
  stuck_here last0 t u r k' x xs ys ef eg c stay s dy may st = inr (record { on_the_way = stuck }) where
    b : ℕ
    b = r.v.pos.block

    p : Pos
    p = position_of x.origin

    ord : InOrder r.v.pos.block r.n (x ∷ xs)
    ord = subst (InOrder r.v.pos.block r.n) ef r.order_f

    ord_g : InOrder r.v.pos.block r.m ys
    ord_g = subst (InOrder r.v.pos.block r.m) eg r.order_g

    fx : f.fetch r.v.pos ≡ Here x
    fx = (facts.laid_f.cons r.v.pos x xs ef).0

    not_there : (o : Origin) → o ≡ x.origin → since_item count x ≡ After → (p : Pos) → IsFrom place r.v.pos.block (next_rank x.origin) p → position_of o ≡ p → ⊥
    not_there (Before q) e af p from at = let bad : Same ≡ After = ap (λ (z : Origin). since_of (waits_at false z)) e ∙
        ap (λ (z : Bool). since_of (waits_at z x.origin)) (sym stay) ∙ af in cc
    not_there (Kept q) e af p from at =
        elim from as (λ _. ⊥) [
          | inl y ↦ (let k : 2 * q.item + 2 ≤ 2 * p.item + 1 = subst (λ (z : Origin). next_rank z ≤ 2 * p.item + 1) (sym e) y.1 in
              let i : q.item ≡ p.item = ap (λ (z : Pos). z.item) at in omega (arith, k, i))
          | inr y ↦ (let k : place p.block ≡ place r.v.pos.block =
              ap place (ap (λ (z : Pos). z.block) (sym at) ∙ ap (λ (z : Origin). (position_of z).block) e ∙ ord.0) in omega (arith, k, y))
        ]

    stuck : (t1 : State) (i : SyncPoint) → Passes g (gs change) t t1 → gs change t1.pos ≡ Some i → IsStuck src f g s0 (fs change) (gs change) last0 t1 u i
    stuck t1 i w si = elim (cases_pos p i.pos)
        as (λ _. IsStuck src f g s0 (fs change) (gs change) last0 t1 u i) [
          | inl at ↦
              elim may as (λ _. IsStuck src f g s0 (fs change) (gs change) last0 t1 u i) [
                | inl af ↦ absurd (not_there x.origin refl af i.pos next.0 at)
                | inr idle ↦
                    at_p at idle
              ]
          | inr ne ↦ elsewhere ne
        ] where
          next : IsNext change r.v.pos.block (next_rank x.origin) (rest_g t.pos) i.pos
          next =
              let first = first_from change (length xs + length ys) r.v.pos.block (next_rank x.origin) k' xs ys (facts.view k' r.v.pos.block xs ys s) ord.2
              (omega arith) in
              let next0 = next_sync_point change i w si r.v.pos.block (next_rank x.origin) r.m ys r.block eg first ord_g
              (λ e k l eb fe. facts.within_f r.v.pos e x k l fx fe (sym eb)) in
              subst (λ (z : List Item). IsNext change r.v.pos.block (next_rank x.origin) z i.pos) (sym eg) next0

          earlier : IsNext change r.v.pos.block r.n (rest_g t.pos) i.pos
          earlier = (from_less place r.v.pos.block r.n (next_rank x.origin) i.pos (rank_next x.origin r.n ord.1) next.0, next.1, next.2)

          elsewhere : (p ≡ i.pos → ⊥) → IsStuck src f g s0 (fs change) (gs change) last0 t1 u i
          elsewhere ne =
              doomed (r.dooms i.pos earlier
              (faults (sync_point_of count x) (code_sync_point count f r.v.pos x fx c)
              (may_pass place (gs change) count r.v.pos.block r.n r.last x i.pos ord.0 ord.1 r.known next.0 stay
              (lacks last0 t u r x i.pos ord.0 ord.1 next)) ne st))

          shows : ShowsSame r.v.core t.core
          shows = facts.shows r.stage r.v.pos.block (x ∷ xs) ys r.v.core t.core dy

          at_p : p ≡ i.pos → (FaultsAt src s0 p → All (IsIdleAt count g p) ys) → IsStuck src f g s0 (fs change) (gs change) last0 t1 u i
          at_p at idle =
              halted r.v (r.walks i.pos earlier r.v there)
              (record {
                sync_point = sync_point_of count x;
                stands = code_sync_point count f r.v.pos x fx c;
                pos = at;
                faults = st;
                idles = λ fa t2 j l ej jp.
                    let d = shows_idle change p r.v.pos.block ord.0
                    (lingers_past g (gs change) p w (subst (λ (q : Pos). Lingers g (gs change) q t1 t2) (sym at) l)) r.block ys eg r.m ord_g
                    (idle (subst (FaultsAt src s0) (sym at) fa)) j ej (jp ∙ sym at) in
                    record { events = d.0.events ∙ shows.events; told = λ v z h. shows.told v z (d.0.told v z h); returns = d.1 };
              })

  -- f has nothing left to pass before g's next item
  abbrev pub IsReady : {b : ℕ} {k : Stage} {xs ys : List Item} → Seen change b k xs ys → Type 0
  IsReady (taken c j s h) = ⊥
  IsReady (passed c s h) = ⊥
  IsReady _ = Unit {0}

  pub record Ready (last0 : Option Pos) (t u : State) : Type 0 where
    pub at : Beside last0 t u
    pub xs : List Item
    pub ys : List Item
    pub is_f : rest_f at.v.pos ≡ xs
    pub is_g : rest_g t.pos ≡ ys
    pub view : Seen change at.v.pos.block at.stage xs ys
    pub ready : IsReady view

  abbrev Catches : Option Pos → State → State → Type 0
  Catches last0 t u = Ready last0 t u ⊎ IsStuckFrom src f g s0 (fs change) (gs change) last0 t u

  stands : (last0 : Option Pos) (t u : State) (r : Beside last0 t u) (xs ys : List Item) → rest_f r.v.pos ≡ xs → rest_g t.pos ≡ ys →
      (w : Seen change r.v.pos.block r.stage xs ys) → IsReady w → Catches last0 t u
  stands last0 t u r xs ys ef eg w rd = inl (record { at = r; xs = xs; ys = ys; is_f = ef; is_g = eg; view = w; ready = rd })

  -- f goes past all that it may pass; n bounds how much that is
  catches : (n : ℕ) (last0 : Option Pos) (t u : State) (r : Beside last0 t u) (xs ys : List Item) → rest_f r.v.pos ≡ xs → rest_g t.pos ≡ ys →
      Seen change r.v.pos.block r.stage xs ys → length xs ≤ n → Catches last0 t u
  unfolding goes_f passes_code passes_debug
  catches n last0 t u r xs ys ef eg ended le = stands last0 t u r xs ys ef eg ended tt
  catches n last0 t u r xs ys ef eg (both a b c d e h) le = stands last0 t u r xs ys ef eg (both a b c d e h) tt
  catches n last0 t u r xs ys ef eg (bolder a b c d e h) le = stands last0 t u r xs ys ef eg (bolder a b c d e h) tt
  catches n last0 t u r xs ys ef eg (added a b c) le = stands last0 t u r xs ys ef eg (added a b c) tt
  catches n last0 t u r xs ys ef eg (paired a b c d) le = stands last0 t u r xs ys ef eg (paired a b c d) tt
  catches zero last0 t u r xs ys ef eg (taken c j s h) le = absurd (omega (arith, le))
  catches zero last0 t u r xs ys ef eg (passed c s h) le = absurd (omega (arith, le))
  catches (suc n) last0 t u r xs ys ef eg (passed {k' = k'} {x = x} {xs = rest} c s h) le =
      let d = h r.v.core t.core (dynamic_at last0 t u r xs ys ef eg) in
      catches n last0 t u (passes_debug last0 t u r k' x rest ys ef eg c s d.0 d.1 d.2) rest ys (facts.laid_f.cons r.v.pos x rest ef).1 eg
      (facts.view k' r.v.pos.block rest ys s) (omega (arith, le))
  catches (suc n) last0 t u r xs ys ef eg (taken {k' = k'} {x = x} {xs = rest} c j s h) le =
      by_outcome (λ r2 e. catches n last0 t u r2 rest ys e.0 eg
      (subst (λ (b : ℕ). Seen change b r2.stage rest ys) (sym e.1)
      (subst (λ (z : Stage). Seen change r.v.pos.block z rest ys) (sym e.2) (facts.view k' r.v.pos.block rest ys s))) (omega (arith, le)))
      (do_item f x.kind r.v.core) refl (h r.v.core t.core (dynamic_at last0 t u r xs ys ef eg)) where
        by_outcome : ((r2 : Beside last0 t u) → (rest_f r2.v.pos ≡ rest) × (r2.v.pos.block ≡ r.v.pos.block) × (r2.stage ≡ k') → Catches last0 t u) →
            (o : Outcome) → do_item f x.kind r.v.core ≡ o → FallsOrTraps (MayTrap count src sides match_states x ys)
            (λ e. MatchCores k' r.v.pos.block rest ys e t.core) o → Catches last0 t u
        by_outcome more (Falls e) is q = more (passes_code last0 t u r k' x rest ys ef eg c j s e is q) ((facts.laid_f.cons r.v.pos x rest ef).1, refl, refl)
        by_outcome more Traps is q =
            let fx = (facts.laid_f.cons r.v.pos x rest ef).0 in
            stuck_here last0 t u r k' x rest ys ef eg c j s (dynamic_at last0 t u r xs ys ef eg) q (step_item f r.v x Traps fx is)
        by_outcome more (Goes n d) is q = absurd q
        by_outcome more (Gives n) is q = absurd q
        by_outcome more Asks is q = absurd q
        by_outcome more Breaks is q = absurd q

  pub ready : (last0 : Option Pos) (t u : State) → Beside last0 t u → Catches last0 t u
  ready last0 t u r = catches (length (rest_f r.v.pos)) last0 t u r (rest_f r.v.pos) (rest_g t.pos) refl refl
      (facts.view r.stage r.v.pos.block (rest_f r.v.pos) (rest_g t.pos) r.static) (omega arith)
