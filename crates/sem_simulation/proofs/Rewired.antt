-- What is rewired follows what its function followed with blocks' ends as stations.
use Rattle.std.proofs.Common.{◌≡◌, ℕ, zero, suc, ◌+◌, ◌-◌, ◌*◌, ◌<◌, ◌≤◌, List, [], ◌∷◌, Option, Some, None, Bool, true, false, refl, sym, ap, ◌∙◌, subst, inl}
use Rattle.std.proofs.Common.{inr, ◌⊎◌, le_trans, arith}
use Rattle.std.proofs.lemmas.Bool.{cases_lt, cases_Bool}
use Rattle.sem_mir.specs.mir_func.declared.position.Pos.{Pos}
use Rattle.sem_mir.specs.mir_func.declared.position.Origin.{Origin}
use Rattle.sem_mir.specs.mir_func.declared.item.Item.{Item}
use Rattle.sem_mir.specs.State.{State, Core, RunResult}
use Rattle.sem_mir.specs.Step.{Went, Returned, Faulted, Lost, Outcome, Falls, Goes, Gives, Traps, Asks, Breaks, moved, do_item, do_fetch, step}
use Rattle.sem_mir.specs.mir_func.Graph.{Program, Fetch, Here, EndOfBlock, Outside, below, block_start, FetchEdge}
use Rattle.sem_mir.specs.mir_func.Positions.{position_of}
use Rattle.sem_mir.specs.Align.{is_code, SyncPoint, ByItems, ByEnds, moves_on, waits_at, sync_point_of, Since, After, since_of, AnyOrigin}
use Rattle.sem_mir.specs.Align.{RunsMatch}
use Rattle.sem_mir.specs.Follow.{rank, next_rank, InOrder}
use Rattle.sem_simulation.specs.MatchStates.{since_item, ShowsSame}
use Rattle.sem_simulation.specs.Refinement.{waiting, Walk, there, on, IsDoomed, later, Passes, still, pass, Meets}
use Rattle.sem_simulation.specs.Rewired.{RewiredMatchStates, DoAlike, View, both, added, paired, closes, ended, RewiredFollows}
use Rattle.sem_mir.proofs.Alignment.{went_once}
use Rattle.sem_mir.proofs.Edges.{step_edge}
use Rattle.sem_mir.proofs.Outcomes.{step_item}
use Rattle.sem_simulation.proofs.Refinement.{IsDoomedFrom, refines_or_doomed, still_follows}
use Rattle.sem_simulation.proofs.Order.{done_next, rank_next, same_pos, IsDone, done_more, waits_after, done_self, waits_until, done_code, IsUntil, until_more}
use Rattle.sem_simulation.proofs.Order.{until_here}
use Rattle.sem_simulation.proofs.Stations.{not_code, debug_below, code_sync_point, debug_sync_point, end_is_sync_point, code_is_some, code_is, debug_is_none}
use Rattle.sem_simulation.proofs.Stations.{IsSyncPointOf}
use Rattle.sem_simulation.proofs.Stations.{of_item, of_end, sync_point_is_of, not_past_items, falls_stays}
use Rattle.sem_simulation.proofs.Outcomes.{both_return, both_fault}
use Rattle.sem_simulation.proofs.Bypassed.{Rewiring, fs, gs, To, AllDone, ends_f, ends_g, leaves, not_waiting, reaches}

module _ (rewiring : Rewiring) where
  open rewiring use {sides, place, match_states, facts}
  open sides use {old.{program as f, rest as rest_f, start as s0}, new.{program as g, rest as rest_g, start as g0}}
  open match_states use {match_states.{Stage, entry, MatchItems, MatchCores}, Has, Ways}

  abbrev Seen : ℕ → Stage → List Item → List Item → Type 0
  Seen b k xs ys = View sides place match_states b k xs ys

  -- f stands at v beside g at t in one block; it was at u right after the station that both met last
  record Within (last0 : Option Pos) (t u : State) : Type 0 where
    v : State
    last : Option Pos
    n : ℕ
    block : t.pos.block ≡ v.pos.block
    k : Stage
    static : MatchItems k v.pos.block (rest_f v.pos) (rest_g t.pos)
    dynamic : MatchCores k v.pos.block (rest_f v.pos) (rest_g t.pos) v.core t.core
    order_f : InOrder v.pos.block n (rest_f v.pos)
    known : (q : Pos) → last ≡ Some q → IsUntil place v.pos.block n q
    done : (j : ℕ) (i : Item) → j < t.pos.item → g.fetch (record { block = v.pos.block; item = j }) ≡ Here i → is_code i.kind ≡ true →
        IsDone n last (position_of i.origin)
    high : (q : Pos) (j l : ℕ) → q.block ≡ v.pos.block → f.fetch q ≡ EndOfBlock j l → n ≤ 2 * j
    walks : (p : Pos) → place v.pos.block ≤ place p.block → (w : State) → Walk f (fs rewiring) (gs rewiring) p last v w →
        Walk f (fs rewiring) (gs rewiring) p last0 u w
    dooms : (p : Pos) → place v.pos.block ≤ place p.block → IsDoomed f (fs rewiring) (gs rewiring) p last v → IsDoomed f (fs rewiring) (gs rewiring) p last0 u

  -- f stands at the start of the block into which g is about to fall
  record AtDoor (last0 : Option Pos) (t u : State) : Type 0 where
    e : ℕ
    c : Core
    k : ℕ
    has : Has e
    over : rest_g t.pos ≡ []
    falls : g.fetch t.pos ≡ EndOfBlock k e
    carried : Ways e c t.core
    walks : (p : Pos) (w : State) → Walk f (fs rewiring) (gs rewiring) p None (record { pos = block_start e; core = c }) w →
        Walk f (fs rewiring) (gs rewiring) p last0 u w
    dooms : (p : Pos) → IsDoomed f (fs rewiring) (gs rewiring) p None (record { pos = block_start e; core = c }) →
        IsDoomed f (fs rewiring) (gs rewiring) p last0 u

  abbrev Beside : Option Pos → State → State → Type 0
  Beside last0 t u = Within last0 t u ⊎ AtDoor last0 t u ⊎ IsDoomedFrom f g (fs rewiring) (gs rewiring) last0 t u

  dynamic_at : (last0 : Option Pos) (t u : State) (r : Within last0 t u) (xs ys : List Item) → rest_f r.v.pos ≡ xs → rest_g t.pos ≡ ys →
      MatchCores r.k r.v.pos.block xs ys r.v.core t.core
  dynamic_at last0 t u r xs ys ef eg = rw (sym ef, sym eg) r.dynamic

  -- both at the start of a block that g has
  at_start : (last0 : Option Pos) (u : State) (e : ℕ) (c d : Core) → Has e → MatchCores (entry e) e (rest_f (block_start e)) (rest_g (block_start e)) c d →
      ((p : Pos) → place e ≤ place p.block → (w : State) → Walk f (fs rewiring) (gs rewiring) p None (record { pos = block_start e; core = c }) w →
      Walk f (fs rewiring) (gs rewiring) p last0 u w) →
      ((p : Pos) → place e ≤ place p.block → IsDoomed f (fs rewiring) (gs rewiring) p None (record { pos = block_start e; core = c }) →
      IsDoomed f (fs rewiring) (gs rewiring) p last0 u) → Within last0 (record { pos = block_start e; core = d }) u
  at_start last0 u e c d has q walks dooms = record {
    v = record { pos = block_start e; core = c };
    last = None;
    n = 0;
    block = refl;
    k = entry e;
    static = facts.starts e has;
    dynamic = q;
    order_f = facts.order_f e;
    known = λ p bad. absurd (not_waiting rewiring p bad);
    done = λ j i lt fi ci. absurd (omega (arith, lt));
    high = λ p j l pb fp. omega arith;
    walks = walks;
    dooms = dooms;
  }

  -- nothing stands past a block's end
  nothing_past : (j : ℕ) (q : Pos) (i : Item) → rest_g q ≡ [] → g.fetch (record { block = q.block; item = q.item + j }) ≡ Here i → ⊥
  nothing_past zero q i e fi = let z : q.item + 0 ≡ q.item = omega arith in
      not_past_items (g.fetch q) i (facts.laid_g.nil q e).0 (subst (λ (n : ℕ). g.fetch (record { block = q.block; item = n }) ≡ Here i) z fi)
  nothing_past (suc j) q i e fi = let z : q.item + suc j ≡ (q.item + 1) + j = omega arith in
      nothing_past j (below q) i (facts.laid_g.nil q e).1 (subst (λ (n : ℕ). g.fetch (record { block = q.block; item = n }) ≡ Here i) z fi)

  -- where g's block is over, all its code is done
  all_done : (b n : ℕ) (last : Option Pos) (t : Pos) → t.block ≡ b → rest_g t ≡ [] →
      ((j : ℕ) (i : Item) → j < t.item → g.fetch (record { block = b; item = j }) ≡ Here i → is_code i.kind ≡ true → IsDone n last (position_of i.origin)) →
      AllDone rewiring b n last
  all_done b n last t tb eg done q o qb = by_sync_point (sync_point_is_of ByItems g o.place o.sync_point o.stands) where
    by_sync_point : IsSyncPointOf ByItems g o.place o.sync_point → IsDone n last q
    by_sync_point (of_end k m fe ce ie) = cc
    by_sync_point (of_item i fi ci si) =
        let from : position_of i.origin ≡ q = ap (λ (z : SyncPoint). z.pos) si ∙ o.from in
        let home : o.place.block ≡ b = sym (facts.home o.place i fi) ∙ ap (λ (z : Pos). z.block) from ∙ qb in
        elim (cases_lt o.place.item t.item) as (λ z. IsDone n last q) [
          | inl lt ↦ subst (IsDone n last) from
              (done o.place.item i lt (subst (λ (z : Pos). g.fetch z ≡ Here i) (same_pos o.place (record { block = b; item = o.place.item }) home refl) fi) ci)
          | inr ge ↦
              let j = o.place.item - t.item in
              let e : o.place.item ≡ t.item + j = omega (arith, ge) in
              absurd (nothing_past j t i eg
              (subst (λ (z : Pos). g.fetch z ≡ Here i) (same_pos o.place (record { block = t.block; item = t.item + j }) (home ∙ sym tb) e) fi))
        ]

  not_until : (b n : ℕ) (last : Option Pos) (p : Pos) (e : ℕ) → ((q : Pos) → last ≡ Some q → IsUntil place b n q) → place b < place e →
      place e ≤ place p.block → last ≡ Some p → ⊥
  not_until b n last p e known lt le bad =
      elim (known p bad) as (λ z. ⊥) [
        | inl x ↦ (let z : place p.block ≡ place b = ap place x.0 in omega (arith, z, lt, le))
        | inr x ↦ omega (arith, x, lt, le)
      ]

  -- g goes down between stations
  goes_down : (t t' : State) → gs rewiring t.pos ≡ None → step g t ≡ Went t' → place t.pos.block ≤ place t'.pos.block
  goes_down t t' none go = by_fetch (g.fetch t.pos) refl where
    by_fetch : (x : Fetch) → g.fetch t.pos ≡ x → place t.pos.block ≤ place t'.pos.block
    by_fetch (Here y) e =
        elim (cases_Bool (is_code y.kind)) as (λ _. place t.pos.block ≤ place t'.pos.block) [
          | inl c ↦ absurd (code_is_some ByItems g t.pos y none e c)
          | inr c ↦
              let at = debug_below g y.kind c t.pos t'.pos (subst (λ (z : Fetch). FetchEdge g.enter z t.pos t'.pos) e (step_edge g t t' go)) in
              let k : place t'.pos.block ≡ place t.pos.block = ap (λ (z : Pos). place z.block) at in omega (arith, k)
        ]
    by_fetch (EndOfBlock k n) e =
        let lt = facts.onward t.pos k n e in
        let z : place t'.pos.block ≡ place n = ap (λ (q : State). place q.pos.block)
        (went_once g t t' (record { pos = block_start n; core = t.core }) go (ends_g rewiring t k n e)) in
        omega (arith, lt, z)
    by_fetch Outside e = let bad : Lost ≡ Went t' = sym (ap (λ (z : Fetch). moved g.enter t.pos (do_fetch g z t.core)) e) ∙ go in cc

  later_sync_point : {t t1 : State} (i : SyncPoint) → Passes g (gs rewiring) t t1 → gs rewiring t1.pos ≡ Some i → place t.pos.block ≤ place i.pos.block
  later_sync_point i (still {t = t}) e = by_sync_point (sync_point_is_of ByItems g t.pos i e) where
    by_sync_point : IsSyncPointOf ByItems g t.pos i → place t.pos.block ≤ place i.pos.block
    by_sync_point (of_item y fy cy iy) =
        let k : place i.pos.block ≡ place t.pos.block = ap (λ (z : SyncPoint). place z.pos.block) (sym iy) ∙ ap place (facts.home t.pos y fy) in omega
        (arith, k)
    by_sync_point (of_end k n fe ce ie) = cc
  later_sync_point i (pass {t = t} {u = u} none go rest) e = le_trans (goes_down t u none go) (later_sync_point i rest e)

  past_end : (t t' t1 : State) (i : SyncPoint) → gs rewiring t.pos ≡ None → step g t ≡ Went t' → Passes g (gs rewiring) t t1 → gs rewiring t1.pos ≡ Some i →
      place t'.pos.block ≤ place i.pos.block
  past_end t t' t1 i none go still e = let bad : None ≡ Some i = sym none ∙ e in cc
  past_end t t' t1 i none go (pass {u = u} ne st rest) e =
      subst (λ (z : State). place z.pos.block ≤ place i.pos.block) (went_once g t u t' st go) (later_sync_point i rest e)

  -- between stations
  between_at : (last0 : Option Pos) (t u : State) (r : Within last0 t u) (xs ys : List Item) → rest_f r.v.pos ≡ xs → rest_g t.pos ≡ ys →
      Seen r.v.pos.block r.k xs ys → gs rewiring t.pos ≡ None → (t' : State) → step g t ≡ Went t' → Within last0 t' u ⊎
      IsDoomedFrom f g (fs rewiring) (gs rewiring) last0 t u
  between_at last0 t u r xs ys ef eg (both {y = y} {ys = ts} cx cy o j sh h) none t' go =
      absurd (code_is_some ByItems g t.pos y none (facts.laid_g.cons t.pos y ts eg).0 cy)
  between_at last0 t u r xs ys ef eg (closes {y = y} {ys = ts} k n e cy o j sh at has to h) none t' go =
      absurd (code_is_some ByItems g t.pos y none (facts.laid_g.cons t.pos y ts eg).0 cy)
  between_at last0 t u r xs ys ef eg (added {k' = k'} {y = y} {ys = ts} cy s h) none t' go =
      let b = r.v.pos.block in
      let ge = facts.laid_g.cons t.pos y ts eg in
      let d = h r.v.core t.core (dynamic_at last0 t u r xs ys ef eg) in
      let t1 : State = record { pos = below t.pos; core = d.0 } in
      let made : Within last0 t1 u = record {
        v = r.v;
        last = r.last;
        n = r.n;
        block = r.block;
        k = k';
        static = rw ge.1 (subst (λ (z : List Item). MatchItems k' b z ts) (sym ef) s);
        dynamic = rw ge.1 (subst (λ (z : List Item). MatchCores k' b z ts r.v.core d.0) (sym ef) d.2);
        order_f = r.order_f;
        known = r.known;
        done = done_next g facts.home t.pos b r.n r.n r.last r.last y (sym r.block) ge.0 (λ q qb z. z) (λ c. not_code y cy c) r.done;
        high = r.high;
        walks = r.walks;
        dooms = r.dooms;
      } in
      inl (subst (λ (z : State). Within last0 z u) (went_once g t t1 t' (step_item g t y (Falls d.0) ge.0 d.1) go) made)
  between_at last0 t u r xs ys ef eg (paired {k' = k'} {x = x} {y = y} {xs = rest} {ys = ts} cx cy s h) none t' go =
      let b = r.v.pos.block in
      let fe = facts.laid_f.cons r.v.pos x rest ef in
      let ge = facts.laid_g.cons t.pos y ts eg in
      let ord = subst (InOrder b r.n) ef r.order_f in
      let le = rank_next x.origin r.n ord.1 in
      let d = h r.v.core t.core (dynamic_at last0 t u r xs ys ef eg) in
      let none_f = debug_sync_point ByEnds f r.v.pos x fe.0 cx in
      let go_f = step_item f r.v x (Falls d.0) fe.0 d.2 in
      let t1 : State = record { pos = below t.pos; core = d.1 } in
      let made : Within last0 t1 u = record {
        v = record { pos = below r.v.pos; core = d.0 };
        last = r.last;
        n = next_rank x.origin;
        block = r.block;
        k = k';
        static = rw (fe.1, ge.1) s;
        dynamic = rw (fe.1, ge.1) d.4;
        order_f = rw fe.1 ord.2;
        known = λ p k. until_more place b r.n (next_rank x.origin) p le (r.known p k);
        done = done_next g facts.home t.pos b r.n (next_rank x.origin) r.last r.last y (sym r.block) ge.0
            (λ q qb z. done_more r.n (next_rank x.origin) r.last q le z) (λ c. not_code y cy c) r.done;
        high = λ q k l qb fq. facts.within_f r.v.pos q x k l fe.0 fq (sym qb);
        walks = λ p le2 w j. r.walks p le2 w (on none_f go_f j);
        dooms = λ p le2 w. r.dooms p le2 (later none_f go_f w);
      } in
      inl (subst (λ (z : State). Within last0 z u) (went_once g t t1 t' (step_item g t y (Falls d.1) ge.0 d.3) go) made)
  between_at last0 t u r xs ys ef eg (ended e has falls rest h) none t' go =
      let b = r.v.pos.block in
      let fl = falls t.pos r.block eg in
      let lt : place b < place e = subst (λ (z : ℕ). place z < place e) r.block (facts.onward t.pos fl.0 e fl.1) in
      let t1 : State = record { pos = block_start e; core = t.core } in
      elim (leaves rewiring e b rest r.v.pos r.v.core t.core r.n r.last refl ef (subst (InOrder b r.n) ef r.order_f) r.high
      (λ q k qb. until_here place b r.n q qb (r.known q k)) (all_done b r.n r.last t.pos r.block eg r.done)
      (h r.v.core t.core (dynamic_at last0 t u r xs [] ef eg))) as (λ _. Within last0 t' u ⊎ IsDoomedFrom f g (fs rewiring) (gs rewiring) last0 t u) [
        | inl l ↦
            let made = at_start last0 u e l.c t.core has (facts.arrives e l.c t.core has l.carried)
            (λ p le w j. r.walks p (omega (arith, lt, le)) w (l.walks p w (not_until b r.n r.last p e r.known lt le) j))
            (λ p le w. r.dooms p (omega (arith, lt, le)) (l.dooms p (not_until b r.n r.last p e r.known lt le) w)) in
            inl (subst (λ (z : State). Within last0 z u) (went_once g t t1 t' (ends_g rewiring t fl.0 e fl.1) go) made)
        | inr w ↦ inr (record {
          on_the_way = λ t2 i w2 e2.
              let le : place e ≤ place i.pos.block =
              (let z = past_end t t' t2 i none go w2 e2 in let y : place t'.pos.block ≡ place e =
              ap (λ (q : State). place q.pos.block) (went_once g t t' t1 go (ends_g rewiring t fl.0 e fl.1)) in omega (arith, z, y)) in
              r.dooms i.pos (omega (arith, lt, le))
              (w i.pos (record { place = t2.pos; sync_point = i; stands = e2; from = refl }) (not_until b r.n r.last i.pos e r.known lt le));
        })
      ]

  between : (last0 : Option Pos) (t u t' : State) → Beside last0 t u → gs rewiring t.pos ≡ None → step g t ≡ Went t' → Beside last0 t' u ⊎
      IsDoomedFrom f g (fs rewiring) (gs rewiring) last0 t u
  between last0 t u t' (inl r) none st =
      elim (between_at last0 t u r (rest_f r.v.pos) (rest_g t.pos) refl refl (facts.view r.k r.v.pos.block (rest_f r.v.pos) (rest_g t.pos) r.static) none t' st)
      as (λ _. Beside last0 t' u ⊎ IsDoomedFrom f g (fs rewiring) (gs rewiring) last0 t u) [ inl w ↦ inl (inl w) | inr w ↦ inr w ]
  between last0 t u t' (inr (inr w)) none st = inr w
  between last0 t u t' (inr (inl r)) none st =
      let t1 : State = record { pos = block_start r.e; core = t.core } in
      let made = at_start last0 u r.e r.c t.core r.has (facts.arrives r.e r.c t.core r.has r.carried) (λ p le w j. r.walks p w j) (λ p le w. r.dooms p w) in
      inl (inl (subst (λ (z : State). Within last0 z u) (went_once g t t1 t' (ends_g rewiring t r.k r.e r.falls) st) made))

  -- where g's outcome is a return or a trap, so is f's
  gives_too : (b : ℕ) (xs ys : List Item) (m : Since) (x : Outcome) (v : RunResult) → DoAlike sides place match_states b xs ys m x (Gives v) → x ≡ Gives v
  gives_too b xs ys m (Gives w) v h = ap Gives h
  gives_too b xs ys m _ v h = absurd h

  traps_too : (b : ℕ) (xs ys : List Item) (m : Since) (x : Outcome) → DoAlike sides place match_states b xs ys m x Traps → x ≡ Traps
  traps_too b xs ys m Traps h = refl
  traps_too b xs ys m _ h = absurd h

  abbrev Onward : State → Item → Outcome → State → Type 0
  Onward v y a t' = ((w' : State) × (moved f.enter v.pos a ≡ Went w') × Beside (waiting (since_item ByItems y) (position_of y.origin)) t' w') ⊎
      ((since_item ByItems y ≡ After) × (moved f.enter v.pos a ≡ Faulted))

  -- after code of both
  goes_on : (last0 : Option Pos) (t u : State) (r : Within last0 t u) (x y : Item) (xs ys : List Item) → rest_f r.v.pos ≡ x ∷ xs → rest_g t.pos ≡ y ∷ ys →
      x.origin ≡ y.origin → since_item ByEnds x ≡ since_item ByItems y → (a c : Outcome) →
      ((d : Core) → c ≡ Falls d → moves_on ByItems y.kind ≡ false) → ((d : Core) → a ≡ Falls d → moves_on ByEnds x.kind ≡ false) →
      DoAlike sides place match_states r.v.pos.block xs ys (since_item ByEnds x) a c → (t' : State) → moved g.enter t.pos c ≡ Went t' → Onward r.v y a t'
  goes_on last0 t u r x y xs ys ef eg o sy (Falls e) (Falls e') stays stays_f al t' st =
      let b = r.v.pos.block in
      let fe = facts.laid_f.cons r.v.pos x xs ef in
      let ge = facts.laid_g.cons t.pos y ys eg in
      let ord = subst (InOrder b r.n) ef r.order_f in
      let last = waits_after y.origin in
      let since : since_item ByItems y ≡ since_of (waits_at false y.origin) = ap (λ (z : Bool). since_of (waits_at z y.origin)) (stays e' refl) in
      let home : (position_of y.origin).block ≡ b = ap (λ (z : Origin). (position_of z).block) (sym o) ∙ ord.0 in
      let low : r.n ≤ rank y.origin = subst (λ (z : Origin). r.n ≤ rank z) o ord.1 in
      let v1 : State = record { pos = below r.v.pos; core = e } in
      let t1 : State = record { pos = below t.pos; core = e' } in
      let is : t1 ≡ t' = cc in
      let made : Within last t1 v1 = record {
        v = v1;
        last = last;
        n = next_rank y.origin;
        block = r.block;
        k = al.0;
        static = rw (fe.1, ge.1) al.1;
        dynamic = rw (fe.1, ge.1) al.2;
        order_f = rw fe.1 (subst (λ (z : Origin). InOrder b (next_rank z) xs) o ord.2);
        known = waits_until place b y.origin home;
        done = done_next g facts.home t.pos b r.n (next_rank y.origin) r.last last y (sym r.block) ge.0
            (done_code place b r.n r.last y.origin home low r.known) (λ c. done_self y.origin) r.done;
        high = λ q k m qb fq. subst (λ (z : Origin). next_rank z ≤ 2 * k) o (facts.within_f r.v.pos q x k m fe.0 fq (sym qb));
        walks = λ p ok w j. j;
        dooms = λ p le w. w;
      } in
      inl (
        v1,
        refl,
        inl (subst (λ (z : State). Within (waiting (since_item ByItems y) (position_of y.origin)) z v1) is
            (subst (λ (z : Since). Within (waiting z (position_of y.origin)) t1 v1) (sym since) made)),
      )
  goes_on last0 t u r x y xs ys ef eg o sy (Goes n e) (Goes k e') stays stays_f al t' st =
      let t1 : State = record { pos = block_start k; core = e' } in
      let w1 : State = record { pos = block_start n; core = e } in
      let went : Went t1 ≡ Went t' = ap (λ (z : ℕ). Went (record { pos = block_start z; core = e' })) (sym (facts.enter_g k)) ∙ st in
      let is : t1 ≡ t' = cc in
      let after : since_item ByItems y ≡ After = sym sy ∙ al.0 in
      let l = reaches rewiring k al.2 e e' al.3 in
      let made = at_start None w1 k l.c e' al.1 (facts.arrives k l.c e' al.1 l.carried) (λ p le w j. l.walks p w tt j) (λ p le w. l.dooms p tt w) in
      inl (
        w1,
        ap (λ (z : ℕ). Went (record { pos = block_start z; core = e })) (facts.enter_f n),
        inl (subst (λ (z : State). Within (waiting (since_item ByItems y) (position_of y.origin)) z w1) is
            (subst (λ (z : Since). Within (waiting z (position_of y.origin)) t1 w1) (sym after) made)),
      )
  goes_on last0 t u r x y xs ys ef eg o sy (Falls e) (Goes k e') stays stays_f al t' st =
      let b = r.v.pos.block in
      let fe = facts.laid_f.cons r.v.pos x xs ef in
      let ge = facts.laid_g.cons t.pos y ys eg in
      let ord = subst (InOrder b r.n) ef r.order_f in
      let home : (position_of y.origin).block ≡ b = ap (λ (z : Origin). (position_of z).block) (sym o) ∙ ord.0 in
      let low : r.n ≤ rank y.origin = subst (λ (z : Origin). r.n ≤ rank z) o ord.1 in
      let t1 : State = record { pos = block_start k; core = e' } in
      let w1 : State = record { pos = below r.v.pos; core = e } in
      let went : Went t1 ≡ Went t' = ap (λ (z : ℕ). Went (record { pos = block_start z; core = e' })) (sym (facts.enter_g k)) ∙ st in
      let is : t1 ≡ t' = cc in
      let after : since_item ByItems y ≡ After = sym sy ∙ al.0 in
      let past_y : since_of (waits_at false y.origin) ≡ After = ap (λ (z : Origin). since_of (waits_at false z)) (sym o) ∙
      ap (λ (z : Bool). since_of (waits_at z x.origin)) (sym (stays_f e refl)) ∙ al.0 in
      let done0 = done_next g facts.home t.pos b r.n (next_rank y.origin) r.last (waits_after y.origin) y (sym r.block) ge.0
      (done_code place b r.n r.last y.origin home low r.known) (λ c. done_self y.origin) r.done in
      let done : AllDone rewiring b (next_rank y.origin) None =
      subst (λ (z : Since). AllDone rewiring b (next_rank y.origin) (waiting z (position_of y.origin))) past_y
      (all_done b (next_rank y.origin) (waits_after y.origin) (below t.pos) r.block (ge.1 ∙ al.2) done0) in
      elim (leaves rewiring k b al.3 (below r.v.pos) e e' (next_rank y.origin) None refl fe.1 (subst (λ (z : Origin). InOrder b (next_rank z) xs) o ord.2)
      (λ q j m qb fq. subst (λ (z : Origin). next_rank z ≤ 2 * j) o (facts.within_f r.v.pos q x j m fe.0 fq (sym qb)))
      (λ q bad qb. absurd (not_waiting rewiring q bad)) done al.4)
      as (λ _. Onward r.v y (Falls e) t') [
        | inl l ↦
            let made = at_start None w1 k l.c e' al.1 (facts.arrives k l.c e' al.1 l.carried) (λ p le w j. l.walks p w (not_waiting rewiring p) j)
            (λ p le w. l.dooms p (not_waiting rewiring p) w) in
            inl (
              w1,
              refl,
              inl (subst (λ (z : State). Within (waiting (since_item ByItems y) (position_of y.origin)) z w1) is
                  (subst (λ (z : Since). Within (waiting z (position_of y.origin)) t1 w1) (sym after) made)),
            )
        | inr w ↦ inl (
          w1,
          refl,
          inr (inr (subst (λ (z : Since). IsDoomedFrom f g (fs rewiring) (gs rewiring) (waiting z (position_of y.origin)) t' w1) (sym after)
              (record {
                on_the_way = λ t2 i w2 e2. w i.pos (record { place = t2.pos; sync_point = i; stands = e2; from = refl })
                    (not_waiting rewiring i.pos);
              }))),
        )
      ]
  goes_on last0 t u r x y xs ys ef eg o sy (Goes n e) (Falls e') stays stays_f al t' st =
      let ge = facts.laid_g.cons t.pos y ys eg in
      let t1 : State = record { pos = below t.pos; core = e' } in
      let w1 : State = record { pos = block_start n; core = e } in
      let is : t1 ≡ t' = cc in
      let after : since_item ByItems y ≡ After = sym sy ∙ al.0 in
      let to = al.2 in
      let over : rest_g (below t.pos) ≡ [] = ge.1 ∙ al.1 in
      let fl = to.2 (below t.pos) r.block over in
      let l = reaches rewiring to.0 to.3 e e' to.4 in
      let made : AtDoor None t1 w1 = record {
        e = to.0;
        c = l.c;
        k = fl.0;
        has = to.1;
        over = over;
        falls = fl.1;
        carried = l.carried;
        walks = λ p w j. l.walks p w tt j;
        dooms = λ p w. l.dooms p tt w;
      } in
      inl (
        w1,
        ap (λ (z : ℕ). Went (record { pos = block_start z; core = e })) (facts.enter_f n),
        inr (inl (subst (λ (z : State). AtDoor (waiting (since_item ByItems y) (position_of y.origin)) z w1) is
            (subst (λ (z : Since). AtDoor (waiting z (position_of y.origin)) t1 w1) (sym after) made))),
      )
  goes_on last0 t u r x y xs ys ef eg o sy (Gives v) (Gives w) stays stays_f al t' st = cc
  goes_on last0 t u r x y xs ys ef eg o sy Traps Traps stays stays_f al t' st = cc
  goes_on last0 t u r x y xs ys ef eg o sy Traps (Gives v) stays stays_f al t' st = absurd al
  goes_on last0 t u r x y xs ys ef eg o sy Traps (Falls d) stays stays_f al t' st = inr (sym sy ∙ al, refl)
  goes_on last0 t u r x y xs ys ef eg o sy Traps (Goes k d) stays stays_f al t' st = inr (sym sy ∙ al, refl)
  goes_on last0 t u r x y xs ys ef eg o sy Traps Asks stays stays_f al t' st = cc
  goes_on last0 t u r x y xs ys ef eg o sy Traps Breaks stays stays_f al t' st = cc
  goes_on last0 t u r x y xs ys ef eg o sy Asks Asks stays stays_f al t' st = cc
  goes_on last0 t u r x y xs ys ef eg o sy Breaks Breaks stays stays_f al t' st = cc
  goes_on last0 t u r x y xs ys ef eg o sy _ _ stays stays_f al t' st = absurd al

  abbrev Meeting : Option Pos → State → State → SyncPoint → Type 0
  Meeting last0 t u i = (w : State) × Walk f (fs rewiring) (gs rewiring) i.pos last0 u w × Meets f g (fs rewiring) Beside t w i

  abbrev GoesOn : State → State → Item → Type 0
  GoesOn t' v y = ((w' : State) × (step f v ≡ Went w') × Beside (waiting (since_item ByItems y) (position_of y.origin)) t' w') ⊎
      ((since_item ByItems y ≡ After) × (step f v ≡ Faulted))

  meets_both : (last0 : Option Pos) (t u : State) (r : Within last0 t u) (x y : Item) (xs ys : List Item) → rest_f r.v.pos ≡ x ∷ xs → rest_g t.pos ≡ y ∷ ys →
      is_code x.kind ≡ true → x.origin ≡ y.origin → since_item ByEnds x ≡ since_item ByItems y → ShowsSame r.v.core t.core →
      DoAlike sides place match_states r.v.pos.block xs ys (since_item ByEnds x) (do_item f x.kind r.v.core) (do_item g y.kind t.core) →
      Meeting last0 t u (sync_point_of ByItems y)
  meets_both last0 t u r x y xs ys ef eg cx o sy sh al =
      let b = r.v.pos.block in
      let fe = facts.laid_f.cons r.v.pos x xs ef in
      let ge = facts.laid_g.cons t.pos y ys eg in
      let a = do_item f x.kind r.v.core in
      let c = do_item g y.kind t.core in
      let m = since_item ByEnds x in
      let go_f = step_item f r.v x a fe.0 refl in
      let go = step_item g t y c ge.0 refl in
      let sx = code_sync_point ByEnds f r.v.pos x fe.0 cx in
      let home : (position_of y.origin).block ≡ b = ap (λ (z : Origin). (position_of z).block) (sym o) ∙ (subst (InOrder b r.n) ef r.order_f).0 in
      let near : place b ≤ place (position_of y.origin).block = (let k : place (position_of y.origin).block ≡ place b = ap place home in omega (arith, k)) in
      let made : Meets f g (fs rewiring) Beside t r.v (sync_point_of ByItems y) = record {
        sync_point = sync_point_of ByEnds x;
        stands = sx;
        pos = ap position_of o;
        since = sy;
        events = sh.events;
        told = sh.told;
        returns = both_return f g r.v t a c go_f go (λ v e. gives_too b xs ys m a v (subst (DoAlike sides place match_states b xs ys m a) e al));
        faults = both_fault f g r.v t a c go_f go (λ e. traps_too b xs ys m a (subst (DoAlike sides place match_states b xs ys m a) e al));
        goes = λ t' h. elim (goes_on last0 t u r x y xs ys ef eg o sy a c (λ d e. falls_stays ByItems g y.kind t.core d e)
            (λ d e. falls_stays ByEnds f x.kind r.v.core d e) al t' (sym go ∙ h)) as (λ _. GoesOn t' r.v y) [
              | inl z ↦ inl (z.0, go_f ∙ z.1, z.2)
              | inr z ↦ inr (z.0, go_f ∙ z.1)
            ];
      } in
      (r.v, r.walks (position_of y.origin) near r.v there, made)

  -- at a new jump of g
  meets_jump : (last0 : Option Pos) (t u : State) (r : Within last0 t u) (y : Item) (ys : List Item) (k n e : ℕ) → rest_g t.pos ≡ y ∷ ys →
      position_of y.origin ≡ record { block = r.v.pos.block; item = k } → since_item ByItems y ≡ After → f.fetch r.v.pos ≡ EndOfBlock k n → Has e →
      To rewiring e (block_start n) → ShowsSame r.v.core t.core →
      (d : Core) → do_item g y.kind t.core ≡ Goes e d → Ways e r.v.core d → Meeting last0 t u (sync_point_of ByItems y)
  meets_jump last0 t u r y ys k n e eg o af fx has to sh d goes gg =
      let b = r.v.pos.block in
      let ge = facts.laid_g.cons t.pos y ys eg in
      let w1 : State = record { pos = block_start n; core = r.v.core } in
      let t1 : State = record { pos = block_start e; core = d } in
      let go_f = ends_f rewiring r.v.pos r.v.core k n fx in
      let go : step g t ≡ Went t1 = step_item g t y (Goes e d) ge.0 goes ∙ ap (λ (z : ℕ). Went (record { pos = block_start z; core = d })) (facts.enter_g e) in
      let l = reaches rewiring e to r.v.core d gg in
      let next : Beside None t1 w1 =
      inl (at_start None w1 e l.c d has (facts.arrives e l.c d has l.carried) (λ p le w q. l.walks p w tt q) (λ p le w. l.dooms p tt w)) in
      let near : place b ≤ place (position_of y.origin).block =
      (let q : place (position_of y.origin).block ≡ place b = ap (λ (z : Pos). place z.block) o in omega (arith, q)) in
      let made : Meets f g (fs rewiring) Beside t r.v (sync_point_of ByItems y) = record {
        sync_point = record { pos = record { block = b; item = k }; waits = false };
        stands = end_is_sync_point ByEnds f r.v.pos k n fx;
        pos = sym o;
        since = sym af;
        events = sh.events;
        told = sh.told;
        returns = λ rs q. let bad : Went t1 ≡ Returned rs = sym go ∙ q in cc;
        faults = λ q. let bad : Went t1 ≡ Faulted = sym go ∙ q in cc;
        goes = λ t' q. inl (
          w1,
          go_f,
          subst (λ (z : State). Beside (waiting (since_item ByItems y) (position_of y.origin)) z w1) (went_once g t t1 t' go q)
              (subst (λ (z : Since). Beside (waiting z (position_of y.origin)) t1 w1) (sym af) next),
        );
      } in
      (r.v, r.walks (position_of y.origin) near r.v there, made)

  no_end_sync_point : {P : Type 0} (t : State) (i : SyncPoint) → rest_g t.pos ≡ [] → IsSyncPointOf ByItems g t.pos i → P
  no_end_sync_point t i eg (of_item x fx cx ix) = absurd (not_past_items (g.fetch t.pos) x (facts.laid_g.nil t.pos eg).0 fx)
  no_end_sync_point t i eg (of_end k n fe ce ie) = cc

  meets_at_view : (last0 : Option Pos) (t u : State) (r : Within last0 t u) (xs ys : List Item) → rest_f r.v.pos ≡ xs → rest_g t.pos ≡ ys →
      Seen r.v.pos.block r.k xs ys → (i : SyncPoint) → gs rewiring t.pos ≡ Some i → Meeting last0 t u i ⊎ IsDoomed f (fs rewiring) (gs rewiring) i.pos last0 u
  meets_at_view last0 t u r xs ys ef eg (added {y = y} {ys = ts} cy s h) i e =
      absurd (debug_is_none ByItems g t.pos y i e (facts.laid_g.cons t.pos y ts eg).0 cy)
  meets_at_view last0 t u r xs ys ef eg (paired {x = x} {y = y} {xs = rest} {ys = ts} cx cy s h) i e =
      absurd (debug_is_none ByItems g t.pos y i e (facts.laid_g.cons t.pos y ts eg).0 cy)
  meets_at_view last0 t u r xs ys ef eg (ended n has falls rest h) i e = no_end_sync_point t i eg (sync_point_is_of ByItems g t.pos i e)
  meets_at_view last0 t u r xs ys ef eg (both {x = x} {y = y} {xs = rest} {ys = ts} cx cy o sy sh h) i e =
      let q = dynamic_at last0 t u r xs ys ef eg in
      subst (λ (z : SyncPoint). Meeting last0 t u z ⊎ IsDoomed f (fs rewiring) (gs rewiring) z.pos last0 u)
      (code_is ByItems g t.pos y i e (facts.laid_g.cons t.pos y ts eg).0 cy)
      (inl (meets_both last0 t u r x y rest ts ef eg cx o sy (sh r.v.core t.core q) (h r.v.core t.core q)))
  meets_at_view last0 t u r xs ys ef eg (closes {y = y} {ys = ts} k n to cy o af sh at has way h) i e =
      let q = dynamic_at last0 t u r xs ys ef eg in
      let d = h r.v.core t.core q in
      subst (λ (z : SyncPoint). Meeting last0 t u z ⊎ IsDoomed f (fs rewiring) (gs rewiring) z.pos last0 u)
      (code_is ByItems g t.pos y i e (facts.laid_g.cons t.pos y ts eg).0 cy)
      (inl (meets_jump last0 t u r y ts k n to eg o af (at r.v.pos refl ef) has way (sh r.v.core t.core q) d.0 d.1 d.2))

  meets : (last0 : Option Pos) (t u : State) (i : SyncPoint) → Beside last0 t u → gs rewiring t.pos ≡ Some i → Meeting last0 t u i ⊎
      IsDoomed f (fs rewiring) (gs rewiring) i.pos last0 u
  meets last0 t u i (inl r) e = meets_at_view last0 t u r (rest_f r.v.pos) (rest_g t.pos) refl refl
      (facts.view r.k r.v.pos.block (rest_f r.v.pos) (rest_g t.pos) r.static) i e
  meets last0 t u i (inr (inr w)) e = inr (w.on_the_way t i still e)
  meets last0 t u i (inr (inl r)) e = no_end_sync_point t i r.over (sync_point_is_of ByItems g t.pos i e)

  pub rewired_runs_along : (src : Program) (b : ℕ) → s0.pos ≡ block_start b → g0.pos ≡ block_start b → Has b →
      MatchCores (entry b) b (rest_f (block_start b)) (rest_g (block_start b)) s0.core g0.core →
      RunsMatch src f (fs rewiring) (AnyOrigin (fs rewiring)) s0 s0 → RunsMatch src g (gs rewiring) (AnyOrigin (gs rewiring)) s0 g0
  rewired_runs_along src b at at_g has q follows =
      let s1 : State = record { pos = block_start b; core = s0.core } in
      let g1 : State = record { pos = block_start b; core = g0.core } in
      let is : s1 ≡ s0 = λ i. record { pos = sym at i; core = s0.core } in
      let is_g : g1 ≡ g0 = λ i. record { pos = sym at_g i; core = g0.core } in
      let made : Within None g1 s1 = at_start None s1 b s0.core g0.core has q (λ p le w j. j) (λ p le w. w) in
      still_follows src f g (fs rewiring) (gs rewiring) Beside s0 s0 g0 follows
      (refines_or_doomed src f g s0 (fs rewiring) (gs rewiring) Beside facts.origins between meets)
      (inl (subst (λ (z : State). Within None z s0) is_g (subst (λ (z : State). Within None g1 z) is made)))

pub rewired_follows : (match_states : RewiredMatchStates) → RewiredFollows match_states
rewired_follows match_states src sides place b facts at at_g has q follows =
    rewired_runs_along (record { sides = sides; place = place; match_states = match_states; facts = facts }) src b at at_g has q follows
