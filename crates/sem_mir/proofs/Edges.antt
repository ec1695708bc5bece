-- A step follows an edge of the control graph.
use Rattle.std.proofs.Common.{◌≡◌, ℕ, ◌+◌, List, [], ◌∷◌, Option, Some, None, Bool, true, false, cond, refl, sym, ap, ◌∙◌, subst, inl, inr, arith}
use Rattle.mir_func.specs.declared.position.Pos.{Pos}
use Rattle.mir_func.specs.declared.item.ItemKind.{ItemKind}
use Rattle.mir_func.specs.declared.item.ItemKind.TheVariants.{Code, Mark, Phi}
use Rattle.mir_func.specs.rv64_instr.Row.{Row, Loads, Stores, LoadsSlot, Branches, Calls, Returns, Unfit, row_of}
use Rattle.mir_func.specs.rv64_instr.Arithmetic.{taken, load_width, store_width, extended}
use Rattle.mir_func.specs.rv64_instr.DefsAndUses.{reads}
use Rattle.sem_mir.specs.State.{State, Core, Reply, spelled, low_bytes, updated}
use Rattle.sem_mir.specs.Step.{Went, Outcome, Falls, Goes, Gives, Traps, Asks, Breaks, moved, read, address_at, is_fault, part_of, set_register, saved}
use Rattle.sem_mir.specs.Step.{exec_external_call, slot_loaded, does, act, are_written, numbered, with_core, mark_value, place_value, do_item, do_fetch, step}
use Rattle.sem_mir.specs.Step.{called_at, passed, call_faults}
use Rattle.mir_func.specs.rv64_instr.LocationEffects.{is_call}
use Rattle.mir_func.specs.rv64_instr.declared.start.CallTarget.{CallTarget}
use Rattle.sem_mir.proofs.Outcomes.{after_reply}
use Rattle.mir_func.specs.Graph.{Program, Fetch, Here, EndOfBlock, Outside, below, block_start, Edge, FetchEdge, KindEdge, RowEdge, Leads, stay, go}

-- where an outcome leads, an edge of the row leads too
abbrev pub Allows : (ℕ → ℕ) → Row → Pos → Outcome → Type 0
Allows enter r p (Falls c) = RowEdge enter r p (below p)
Allows enter r p (Goes n c) = RowEdge enter r p (block_start (enter n))
Allows enter r p _ = Unit {0}

module _ (enter : ℕ → ℕ) (p : Pos) where
  either : (r : Row) (b : Bool) (x y : Outcome) → Allows enter r p x → Allows enter r p y → Allows enter r p (cond b x y)
  either r true x y a b = a
  either r false x y a b = b

  does_allows : (r : Row) (c : Core) → Allows enter r p (does r c)
  unfolding does
  does_allows (Loads rd op b o) c =
      let a = address_at c b o in
      let v = extended op (spelled c.memory a (load_width op)) in
      either (Loads rd op b o) (is_fault b c a (load_width op)) Traps (Falls (set_register rd v c)) tt refl
  does_allows (Stores op rs b o) c =
      let a = address_at c b o in
      let bytes = low_bytes (store_width op) (read c rs) in
      either (Stores op rs b o) (is_fault b c a (store_width op)) Traps (Falls (saved a bytes c)) tt refl
  does_allows (LoadsSlot rd n) c = by_slot (c.slots n) where
    by_slot : (x : Option ℕ) → Allows enter (LoadsSlot rd n) p (slot_loaded rd c x)
    by_slot None = tt
    by_slot (Some v) = refl
  does_allows (Branches op a b t) c = either (Branches op a b t) (taken op (read c a) (read c b)) (Goes t c) (Falls c) (inl refl) (inr refl)
  does_allows (Calls call) c = by_script (called_at c call.callee) (passed c call) call.outgoing c.script where
    by_script : (t : CallTarget) (vs os : List ℕ) (rs : List Reply) → Allows enter (Calls call) p (exec_external_call t vs os c rs)
    by_script t vs os [] = tt
    by_script t vs os (r ∷ rs) = either (Calls call) (call_faults c os r) Traps (Falls (after_reply t vs os c r rs)) tt refl
  does_allows (Returns v) c = tt
  does_allows Unfit c = tt
  does_allows _ c = refl

  act_allows : (r : Row) (c : Core) → Allows enter r p (act r c)
  unfolding act
  act_allows r c = either r (are_written c (reads r)) (does r c) Traps (does_allows r c) tt

  moved_allows : (r : Row) (k : Core → Core) (o : Outcome) (u : State) → Allows enter r p o → moved enter p (with_core k o) ≡ Went u → RowEdge enter r p u.pos
  moved_allows r k (Falls c) u a e = let made : State = record { pos = below p; core = k c } in let w : made ≡ u = cc in
      subst (λ (z : State). RowEdge enter r p z.pos) w a
  moved_allows r k (Goes n c) u a e = let made : State = record { pos = block_start (enter n); core = k c } in let w : made ≡ u = cc in
      subst (λ (z : State). RowEdge enter r p z.pos) w a
  moved_allows r k (Gives v) u a e = cc
  moved_allows r k Traps u a e = cc
  moved_allows r k Asks u a e = cc
  moved_allows r k Breaks u a e = cc

  -- what goes to a position, goes there
  pub falls_below : (c : Core) (u : State) → moved enter p (Falls c) ≡ Went u → u.pos ≡ below p
  falls_below c u e = let made : State = record { pos = below p; core = c } in let w : made ≡ u = cc in ap (λ (z : State). z.pos) (sym w)

  pub goes_to_start : (n : ℕ) (c : Core) (u : State) → moved enter p (Goes n c) ≡ Went u → u.pos ≡ block_start (enter n)
  goes_to_start n c u e = let made : State = record { pos = block_start (enter n); core = c } in let w : made ≡ u = cc in ap (λ (z : State). z.pos) (sym w)

fetch_edge : (g : Program) (x : Fetch) (p : Pos) (c : Core) (u : State) → moved g.enter p (do_fetch g x c) ≡ Went u → FetchEdge g.enter x p u.pos
fetch_edge g (Here i) p c u e = by_kind i.kind e where
  by_kind : (k : ItemKind) → moved g.enter p (do_item g k c) ≡ Went u → KindEdge g.enter k p u.pos
  by_kind (Code j n) e = moved_allows g.enter p (row_of j) (numbered g.sees_pointer (is_call (row_of j)) n j.operands) (act (row_of j) c) u
      (act_allows g.enter p (row_of j) c) e
  by_kind (Mark v m) e = falls_below g.enter p (record c { marks = (v, part_of v (mark_value g m c)) ∷ c.marks }) u e
  by_kind (Phi q n) e = falls_below g.enter p (record c { pairs = updated n (updated 0 (place_value q c) (c.pairs n)) c.pairs }) u e
fetch_edge g (EndOfBlock k n) p c u e = goes_to_start g.enter p n c u e
fetch_edge g Outside p c u e = cc

pub step_edge : (g : Program) (s u : State) → step g s ≡ Went u → Edge g s.pos u.pos
step_edge g s u e = fetch_edge g (g.fetch s.pos) s.pos s.core u e

-- a path goes on by an edge, and by another path
pub leads_on : (g : Program) {p q r : Pos} → Leads g p q → Edge g q r → Leads g p r
leads_on g stay e = go e stay
leads_on g (go a more) e = go a (leads_on g more e)

pub leads_trans : (g : Program) {p q r : Pos} → Leads g p q → Leads g q r → Leads g p r
leads_trans g stay b = b
leads_trans g (go a more) b = go a (leads_trans g more b)

moved_from : (enter : ℕ → ℕ) (p : Pos) (o : Outcome) (u : State) (b n : ℕ) → moved enter p o ≡ Went u → u.pos ≡ record { block = b; item = n + 1 } →
    p ≡ record { block = b; item = n }
moved_from enter p (Falls c) u b n e at =
    let k : below p ≡ record { block = b; item = n + 1 } = sym (falls_below enter p c u e) ∙ at in
    let block : p.block ≡ b = ap (λ (q : Pos). q.block) k in
    let next : p.item + 1 ≡ n + 1 = ap (λ (q : Pos). q.item) k in
    let item : p.item ≡ n = omega (arith, next) in
    λ i. record { block = block i; item = item i }
moved_from enter p (Goes t c) u b n e at =
    let k : block_start (enter t) ≡ record { block = b; item = n + 1 } = sym (goes_to_start enter p t c u e) ∙ at in
    let item : 0 ≡ n + 1 = ap (λ (q : Pos). q.item) k in
    absurd (omega (arith, item))
moved_from enter p (Gives v) u b n e at = cc
moved_from enter p Traps u b n e at = cc
moved_from enter p Asks u b n e at = cc
moved_from enter p Breaks u b n e at = cc

-- a position past its block's first is reached from the one before it alone
pub step_from_before : (g : Program) (s u : State) (b n : ℕ) → step g s ≡ Went u → u.pos ≡ record { block = b; item = n + 1 } →
    s.pos ≡ record { block = b; item = n }
step_from_before g s u b n went at = moved_from g.enter s.pos (do_fetch g (g.fetch s.pos) s.core) u b n went at
