-- A rewiring: how f goes on, past what is bypassed, to the block into which g goes.
use Rattle.std.proofs.Common.{◌≡◌, ℕ, ◌+◌, ◌*◌, ◌≤◌, List, Option, Some, None, Bool, false, refl, sym, ap, ◌∙◌, subst, inl, inr, ◌⊎◌, arith}
use Rattle.sem_mir.specs.mir_func.declared.position.Pos.{Pos}
use Rattle.sem_mir.specs.mir_func.declared.item.Item.{Item}
use Rattle.sem_mir.specs.State.{State, Core}
use Rattle.sem_mir.specs.Step.{Went, Falls, Goes, Traps, do_item, step}
use Rattle.sem_mir.specs.mir_func.Graph.{Here, EndOfBlock, below, block_start}
use Rattle.sem_mir.specs.mir_func.Positions.{position_of}
use Rattle.sem_mir.specs.Align.{SyncPoint, ByItems, ByEnds, waits_at, sync_point_of, sync_point_at, IsOrigin, Since, After, since_of}
use Rattle.sem_mir.specs.Follow.{next_rank, InOrder}
use Rattle.sem_simulation.specs.Refinement.{waiting, Walk, on, past, MayPass, gone, late, IsDoomed, faults, later, later_past}
use Rattle.sem_simulation.specs.MatchStates.{Sides}
use Rattle.sem_simulation.specs.Rewired.{RewiredMatchStates, Reaches, arrived, debug, jump, finish, Leaves, by_end, by_jump, by_branch, Rewired}
use Rattle.sem_mir.proofs.Outcomes.{step_item, step_end}
use Rattle.sem_simulation.proofs.Order.{rank_high, cases_waiting, IsDone, done_past}
use Rattle.sem_simulation.proofs.Stations.{code_sync_point, debug_sync_point, end_is_sync_point}

-- a rewiring
pub record Rewiring : Type 1 where
  pub sides : Sides
  pub place : ℕ → ℕ
  pub match_states : RewiredMatchStates
  pub facts : Rewired sides place match_states

module _ (rewiring : Rewiring) where
  open rewiring use {sides, place, match_states, facts}
  open sides use {old.{program as f, rest as rest_f, start as s0}, new.{program as g, rest as rest_g, start as g0}}
  open match_states use {match_states.{Stage, entry, MatchItems, MatchCores}, Has, Ways}

  abbrev pub fs : Pos → Option SyncPoint
  fs p = sync_point_at ByEnds f p

  abbrev pub gs : Pos → Option SyncPoint
  gs p = sync_point_at ByItems g p

  abbrev pub To : ℕ → Pos → Type 0
  To e p = Reaches sides place match_states e p

  abbrev pub From : ℕ → ℕ → List Item → Type 0
  From e b xs = Leaves sides place match_states e b xs

  -- steps of both programs
  goes_to_f : (p : Pos) (c : Core) (x : Item) (n : ℕ) (e : Core) → f.fetch p ≡ Here x → do_item f x.kind c ≡ Goes n e →
      step f (record { pos = p; core = c }) ≡ Went (record {
        pos = block_start n;
        core = e;
      })
  goes_to_f p c x n e fx o = step_item f (record { pos = p; core = c }) x (Goes n e) fx o ∙
      ap (λ (z : ℕ). Went (record { pos = block_start z; core = e })) (facts.enter_f n)

  pub ends_f : (p : Pos) (c : Core) (k n : ℕ) → f.fetch p ≡ EndOfBlock k n →
      step f (record { pos = p; core = c }) ≡ Went (record { pos = block_start n; core = c })
  ends_f p c k n fx = step_end f (record { pos = p; core = c }) k n fx ∙ ap (λ (z : ℕ). Went (record { pos = block_start z; core = c })) (facts.enter_f n)

  pub ends_g : (t : State) (k n : ℕ) → g.fetch t.pos ≡ EndOfBlock k n → step g t ≡ Went (record { pos = block_start n; core = t.core })
  ends_g t k n fx = step_end g t k n fx ∙ ap (λ (z : ℕ). Went (record { pos = block_start z; core = t.core })) (facts.enter_g n)

  pub not_waiting : (p : Pos) → None ≡ Some p → ⊥
  not_waiting p e = cc

  -- f has come from v to the start of block e; positions that are Far it may have passed on its way
  pub record Come (e : ℕ) (last : Option Pos) (v : State) (d : Core) (Far : Pos → Type 0) : Type 0 where
    pub c : Core
    pub carried : Ways e c d
    pub walks : (p : Pos) (z : State) → Far p → Walk f fs gs p None (record { pos = block_start e; core = c }) z → Walk f fs gs p last v z
    pub dooms : (p : Pos) → Far p → IsDoomed f fs gs p None (record { pos = block_start e; core = c }) → IsDoomed f fs gs p last v

  abbrev Any : Pos → Type 0
  Any p = Unit {0}

  -- past a station at which it doesn't stay
  past_sync_point : (e : ℕ) (last : Option Pos) (v w : State) (d : Core) (Far : Pos → Type 0) (Near : Pos → Type 0) (j : SyncPoint) → fs v.pos ≡ Some j →
      since_of j.waits ≡ After → step f v ≡ Went w → ((p : Pos) → Far p → MayPass gs p last j) → ((p : Pos) → Far p → Near p) → Come e None w d Near →
      Come e last v d Far
  past_sync_point e last v w d Far Near j s af go may near r = record {
    c = r.c;
    carried = r.carried;
    walks = λ p z far k. past j s (may p far) go (subst (λ (m : Since). Walk f fs gs p (waiting m j.pos) w z) (sym af) (r.walks p z (near p far) k));
    dooms = λ p far k. later_past j s (may p far) go (subst (λ (m : Since). IsDoomed f fs gs p (waiting m j.pos) w) (sym af) (r.dooms p (near p far) k));
  }

  pub reaches : (e : ℕ) {p : Pos} → To e p → (c d : Core) → Ways e c d → Come e None (record { pos = p; core = c }) d Any
  reaches e (arrived {p = p} at) c d k = record {
    c = c;
    carried = k;
    walks = λ q z fa w. subst (λ (y : Pos). Walk f fs gs q None (record { pos = y; core = c }) z) (sym at) w;
    dooms = λ q fa w. subst (λ (y : Pos). IsDoomed f fs gs q None (record { pos = y; core = c })) (sym at) w;
  }
  reaches e (debug {p = p} x fx cx h rest) c d k =
      let a = h c d k in
      let r = reaches e rest a.0 d a.2 in
      let none = debug_sync_point ByEnds f p x fx cx in
      let go = step_item f (record { pos = p; core = c }) x (Falls a.0) fx a.1 in
      record { c = r.c; carried = r.carried; walks = λ q z fa w. on none go (r.walks q z fa w); dooms = λ q fa w. later none go (r.dooms q fa w) }
  reaches e (jump {p = p} x n fx cx af absent h rest) c d k =
      let a = h c d k in
      past_sync_point e None (record { pos = p; core = c }) (record { pos = block_start n; core = a.0 }) d Any Any (sync_point_of ByEnds x)
      (code_sync_point ByEnds f p x fx cx) af (goes_to_f p c x n a.0 fx a.1) (λ q fa. gone absent (not_waiting q)) (λ q fa. fa) (reaches e rest a.0 d a.2)
  reaches e (finish {p = p} k0 n fx absent rest) c d k =
      past_sync_point e None (record { pos = p; core = c }) (record { pos = block_start n; core = c }) d Any Any
      (record { pos = record { block = p.block; item = k0 }; waits = false }) (end_is_sync_point ByEnds f p k0 n fx) refl (ends_f p c k0 n fx)
      (λ q fa. gone absent (not_waiting q)) (λ q fa. fa) (reaches e rest c d k)

  -- all code of g from block b is before a rank
  abbrev pub AllDone : (b n : ℕ) → Option Pos → Type 0
  AllDone b n last = (q : Pos) → IsOrigin gs q → q.block ≡ b → IsDone n last q

  may_leave : (b n : ℕ) (last : Option Pos) (p : Pos) (j : SyncPoint) → j.pos.block ≡ b → n ≤ 2 * j.pos.item + 1 → AllDone b n last → (last ≡ Some p → ⊥) →
      MayPass gs p last j
  may_leave b n last p j jb le done far =
      elim (cases_waiting last j.pos) as (λ z. MayPass gs p last j) [
        | inl e ↦ late e (λ k. far (e ∙ ap Some k))
        | inr ne ↦ gone (λ o. elim (done j.pos o jb) as (λ z. ⊥) [ inl h ↦ omega (arith, h, le) | inr h ↦ ne h ]) far
      ]

  -- f is doomed on the way to whatever station of g, where the source doesn't wait
  abbrev Fate : Option Pos → State → Type 0
  Fate last v = (q : Pos) → IsOrigin gs q → (last ≡ Some q → ⊥) → IsDoomed f fs gs q last v

  apart : (b n : ℕ) (last : Option Pos) (p : Pos) (j : SyncPoint) → j.pos.block ≡ b → n ≤ 2 * j.pos.item + 1 → AllDone b n last → IsOrigin gs p →
      (last ≡ Some p → ⊥) → j.pos ≡ p → ⊥
  apart b n last p j jb le done o far e =
      elim (done p o (ap (λ (z : Pos). z.block) (sym e) ∙ jb)) as (λ z. ⊥) [
        | inl h ↦ (let i : j.pos.item ≡ p.item = ap (λ (z : Pos). z.item) e in omega (arith, h, le, i))
        | inr h ↦ far h
      ]

  -- f leaves its block, where g's is over
  pub leaves : (e b : ℕ) {xs : List Item} → From e b xs → (p : Pos) (c d : Core) (n : ℕ) (last : Option Pos) → p.block ≡ b → rest_f p ≡ xs → InOrder b n xs →
      ((q : Pos) (k l : ℕ) → q.block ≡ b → f.fetch q ≡ EndOfBlock k l → n ≤ 2 * k) → ((q : Pos) → last ≡ Some q → q.block ≡ b → 2 * q.item ≤ n) →
      AllDone b n last →
      Ways e c d →
      Come e last (record { pos = p; core = c }) d (λ q. last ≡ Some q → ⊥) ⊎ Fate last (record { pos = p; core = c })
  leaves e b (by_end k m at to) p c d n last pb ef ord high known done gg =
      let fx = at p pb ef in
      let hi = high p k m pb fx in
      let j : SyncPoint = record { pos = record { block = p.block; item = k }; waits = false } in
      inl (past_sync_point e last (record { pos = p; core = c }) (record { pos = block_start m; core = c }) d (λ q. last ≡ Some q → ⊥) Any j
      (end_is_sync_point ByEnds f p k m fx) refl (ends_f p c k m fx) (λ q far. may_leave b n last q j pb (omega (arith, hi)) done far) (λ q far. tt)
      (reaches e to c d gg))
  leaves e b (by_jump {xs = xs} x m cx af h to) p c d n last pb ef ord high known done gg =
      let fx = (facts.laid_f.cons p x xs ef).0 in
      let a = h c d gg in
      let le : n ≤ 2 * (position_of x.origin).item + 1 = (let kh = rank_high x.origin in let o = ord.1 in omega (arith, kh, o)) in
      inl (past_sync_point e last (record { pos = p; core = c }) (record { pos = block_start m; core = a.0 }) d (λ q. last ≡ Some q → ⊥) Any
      (sync_point_of ByEnds x)
      (code_sync_point ByEnds f p x fx cx) af (goes_to_f p c x m a.0 fx a.1) (λ q far. may_leave b n last q (sync_point_of ByEnds x) ord.0 le done far)
      (λ q far. tt) (reaches e to a.0 d a.2))
  leaves e b (by_branch {xs = xs} x m cx stays af h to more) p c d n last pb ef ord high known done gg =
      let v : State = record { pos = p; core = c } in
      let fe = facts.laid_f.cons p x xs ef in
      let sx = code_sync_point ByEnds f p x fe.0 cx in
      let le : n ≤ 2 * (position_of x.origin).item + 1 = (let kh = rank_high x.origin in let o = ord.1 in omega (arith, kh, o)) in
      elim (h c d gg) as (λ z. Come e last (record { pos = p; core = c }) d (λ q. last ≡ Some q → ⊥) ⊎ Fate last (record { pos = p; core = c })) [
        | inl a ↦ inl (past_sync_point e last v (record { pos = block_start m; core = a.0 }) d (λ q. last ≡ Some q → ⊥) Any (sync_point_of ByEnds x) sx af
            (goes_to_f p c x m a.0 fe.0 a.1) (λ q far. may_leave b n last q (sync_point_of ByEnds x) ord.0 le done far) (λ q far. tt) (reaches e to a.0 d a.2))
        | inr (inr tr) ↦ inr (λ q oq far. faults (sync_point_of ByEnds x) sx (may_leave b n last q (sync_point_of ByEnds x) ord.0 le done far)
            (apart b n last q (sync_point_of ByEnds x) ord.0 le done oq far) (step_item f v x Traps fe.0 tr))
        | inr (inl a) ↦
            let go = step_item f v x (Falls a.0) fe.0 a.1 in
            let after : since_of (waits_at false x.origin) ≡ After = ap (λ (y : Bool). since_of (waits_at y x.origin)) (sym stays) ∙ af in
            let done' : AllDone b (next_rank x.origin) None =
            λ q o qb. subst (λ (y : Since). IsDone (next_rank x.origin) (waiting y (position_of x.origin)) q) after
            (done_past x.origin n last q (ord.0 ∙ sym qb) ord.1 (λ k. known q k qb) (done q o qb)) in
            elim (leaves e b more (below p) a.0 d (next_rank x.origin) None pb fe.1 ord.2 (λ q k l qb fq. facts.within_f p q x k l fe.0 fq (pb ∙ sym qb))
            (λ q bad qb. absurd (not_waiting q bad)) done' a.2)
            as (λ z. Come e last (record { pos = p; core = c }) d (λ q. last ≡ Some q → ⊥) ⊎ Fate last (record { pos = p; core = c })) [
              | inl r ↦ inl (past_sync_point e last v (record { pos = below p; core = a.0 }) d (λ q. last ≡ Some q → ⊥) (λ q. None ≡ Some q → ⊥)
                  (sync_point_of ByEnds x) sx af go (λ q far. may_leave b n last q (sync_point_of ByEnds x) ord.0 le done far) (λ q far. not_waiting q) r)
              | inr w ↦ inr (λ q oq far. later_past (sync_point_of ByEnds x) sx (may_leave b n last q (sync_point_of ByEnds x) ord.0 le done far) go
                  (subst (λ (m : Since). IsDoomed f fs gs q (waiting m (position_of x.origin)) (record { pos = below p; core = a.0 })) (sym af)
                  (w q oq (not_waiting q))))
            ]
      ]
