-- What a pass gives for code that it takes out though it may trap: a function's shape lets g idle where the source stops.
use Rattle.std.proofs.Common.{◌≡◌, ℕ, ◌*◌, ◌<◌, ◌≤◌, List, [], ◌∷◌, All, Option, Some, None, Bool, true, false, cond, refl, sym, ap, ◌∙◌, subst, inl, inr}
use Rattle.std.proofs.Common.{◌⊎◌, arith}
use Rattle.std.proofs.lemmas.List.Elements.{All-cons, All-head, All-tail, All-nil}
use Rattle.sem_mir.specs.rv64_instr.Row.{Row, Fixes, Loads, Stores, LoadsSlot, StoresSlot, Branches, Jumps, Calls, Returns, row_of, Back}
use Rattle.sem_mir.specs.rv64_instr.DefsAndUses.{reads}
use Rattle.sem_mir.specs.mir_func.declared.object.Object as stack_object
use Rattle.sem_mir.specs.mir_func.declared.position.Pos.{Pos}
use Rattle.sem_mir.specs.mir_func.declared.position.Origin.{Origin}
use Rattle.sem_mir.specs.mir_func.declared.position.Origin.TheVariants.{Kept, Before}
use Rattle.sem_mir.specs.mir_func.declared.variable.VarId.{VarId}
use Rattle.sem_mir.specs.mir_func.declared.variable.MarkValue.TheVariants.{Nothing, Constant, At, Pair}
use Rattle.sem_mir.specs.mir_func.declared.item.Item.{Item}
use Rattle.sem_mir.specs.mir_func.declared.item.ItemKind.{ItemKind}
use Rattle.sem_mir.specs.mir_func.declared.item.ItemKind.TheVariants.{Code, Mark, Phi}
use Rattle.sem_mir.specs.State.{Reply, Core, State, assigned, RunResult}
use Rattle.sem_mir.specs.mir_func.Variables.{is_same, overlaps}
use Rattle.sem_mir.specs.Step.{Outcome, Falls, Goes, Gives, Traps, Asks, Breaks}
use Rattle.sem_mir.specs.Step.{exec_external_call, passed, call_faults, slot_loaded, does, are_written, act, with_core, numbered}
use Rattle.sem_mir.specs.Step.{do_item, called_at}
use Rattle.sem_mir.specs.rv64_instr.LocationEffects.{is_call}
use Rattle.sem_mir.specs.mir_func.Graph.{Program, Fetch, Here, EndOfBlock, Outside}
use Rattle.sem_mir.specs.mir_func.Positions.{position_of}
use Rattle.sem_mir.specs.Align.{Count, Since}
use Rattle.sem_mir.specs.InitialState.{IsInitialState}
use Rattle.sem_mir.specs.Follow.{MayAdd, ItemHasClass, HasClass, KindFits, MarkFits, rank, next_rank, InOrder, OnRow}
use Rattle.sem_mir.specs.rv64_instr.View.{class_of, Return}
use Rattle.sem_mir.specs.rv64_instr.declared.start.CallTarget.{CallTarget}
use Rattle.sem_simulation.specs.MatchStates.{since_item}
use Rattle.sem_simulation.specs.Refinement.{FaultsAt}
use Rattle.sem_simulation.specs.InPlace.{ShowsNoMore, IsNoReturn, IsIdleAt}
use Rattle.sem_simulation.proofs.Order.{rank_next, same_pos}
use Rattle.sem_simulation.proofs.Written.{HasPhysicalResults, returns_never_fault}

-- it falls through, if it goes on, with the events and marks that were
abbrev IsSilent : Core → Outcome → Type 0
IsSilent d (Falls e) = (e.events ≡ d.events) × (e.marks ≡ d.marks)
IsSilent d (Goes n e) = ⊥
IsSilent d (Gives v) = ⊥
IsSilent d _ = Unit {0}

silent_either : (d : Core) (b : Bool) (x y : Outcome) → IsSilent d x → IsSilent d y → IsSilent d (cond b x y)
silent_either d true x y a b = a
silent_either d false x y a b = b

-- code that may be added before a position that isn't its block's end
added_silent : (r : Row) (k source_end : ℕ) → MayAdd r k source_end → k < source_end → (d : Core) → IsSilent d (does r d)
unfolding does
added_silent (Fixes rd n) k source_end may lt d = (refl, refl)
added_silent (StoresSlot rs n) k source_end may lt d = (refl, refl)
added_silent (LoadsSlot rd n) k source_end may lt d = by_slot (d.slots n) where
  by_slot : (x : Option ℕ) → IsSilent d (slot_loaded rd d x)
  by_slot None = tt
  by_slot (Some v) = (refl, refl)
added_silent (Jumps t) k source_end may lt d = absurd (omega (arith, may, lt))
added_silent _ k source_end may lt d = absurd may

act_silent : (r : Row) (k source_end : ℕ) → MayAdd r k source_end → k < source_end → (d : Core) → IsSilent d (act r d)
unfolding act
act_silent r k source_end may lt d = silent_either d (are_written d (reads r)) (does r d) Traps (added_silent r k source_end may lt d) tt

code_shows : (sp call : Bool) (os : _) (m : Since) (d : Core) (o : Outcome) (n : Option ℕ) → IsSilent d o →
    ShowsNoMore m d (with_core (numbered sp call n os) o)
code_shows sp call os m d (Falls e) None h = record { events = h.0; told = λ v x k. ap (assigned v) (sym h.1) ∙ k }
code_shows sp call os m d (Falls e) (Some n) h = record { events = h.0; told = λ v x k. ap (assigned v) (sym h.1) ∙ k }
code_shows sp call os m d (Goes t e) n h = absurd h
code_shows sp call os m d (Gives v) n h = absurd h
code_shows sp call os m d Traps n h = tt
code_shows sp call os m d Asks n h = tt
code_shows sp call os m d Breaks n h = tt

-- a return that reads nothing
abbrev pub bare_return : Row
bare_return = Returns (record { way = Back; values = [] })

-- only a return returns
abbrev MayGive : Type 0 → Outcome → Type 0
MayGive P (Gives v) = P
MayGive P _ = Unit {0}

give_either : (P : Type 0) (b : Bool) (x y : Outcome) → MayGive P x → MayGive P y → MayGive P (cond b x y)
give_either P true x y a b = a
give_either P false x y a b = b

does_give : (r : Row) (d : Core) → MayGive (class_of r ≡ Return) (does r d)
unfolding does
does_give (Loads rd op b o) d = search (give_either)
does_give (Stores op rs b o) d = search (give_either)
does_give (LoadsSlot rd n) d = by_slot (d.slots n) where
  by_slot : (x : Option ℕ) → MayGive (class_of (LoadsSlot rd n) ≡ Return) (slot_loaded rd d x)
  by_slot None = tt
  by_slot (Some v) = tt
does_give (Branches op a b t) d = search (give_either)
does_give (Calls call) d = by_script (called_at d call.callee) (passed d call) call.outgoing d.script where
  by_script : (t : CallTarget) (vs os : List ℕ) (rs : List Reply) → MayGive (class_of (Calls call) ≡ Return) (exec_external_call t vs os d rs)
  by_script t vs os [] = tt
  by_script t vs os (q ∷ rs) = give_either (class_of (Calls call) ≡ Return) (call_faults d os q) _ _ tt tt
does_give (Returns v) d = refl
does_give _ d = tt

act_gives : (r : Row) (d : Core) → MayGive (class_of r ≡ Return) (act r d)
unfolding act
act_gives r d = give_either (class_of r ≡ Return) (are_written d (reads r)) (does r d) Traps (does_give r d) tt

gives_of : (P : Type 0) (j : Core → Core) (o : Outcome) (v : RunResult) → MayGive P o → with_core j o ≡ Gives v → P
gives_of P j (Gives w) v h e = h
gives_of P j (Falls c) v h e = cc
gives_of P j (Goes n c) v h e = cc
gives_of P j Traps v h e = cc
gives_of P j Asks v h e = cc
gives_of P j Breaks v h e = cc

-- a mark that assigns nothing tells no more
tells_nothing : (v w : VarId) (x : ℕ) (ms : List (VarId × Option ℕ)) (same over : Bool) →
    cond same None (cond over None (assigned w ms)) ≡ Some x → assigned w ms ≡ Some x
tells_nothing v w x ms true over e = cc
tells_nothing v w x ms false true e = cc
tells_nothing v w x ms false false e = e

module _ (count : Count) (src g : Program) (s0 : State) (p : Pos) (source_end : ℕ) (inner : p.item < source_end) where
  -- what is added before p shows no more
  added_shows : (q : Pos) (k : ItemKind) → q.item ≡ p.item → KindFits src k source_end (Before q) → MarkFits k (Before q) → (m : Since) (d : Core) →
      ShowsNoMore m d (do_item g k d)
  added_shows q (Code c n) at fits mark m d = code_shows g.sees_pointer (is_call (row_of c)) c.operands m d (act (row_of c) d) n
      (act_silent (row_of c) q.item source_end fits (omega (arith, at, inner)) d)
  added_shows q (Mark v Nothing) at fits mark m d = record { events = refl; told = λ w x k. tells_nothing v w x d.marks (is_same w v) (overlaps w v) k }
  added_shows q (Mark v (Constant c)) at fits mark m d = absurd mark
  added_shows q (Mark v (At r)) at fits mark m d = absurd mark
  added_shows q (Mark v (Pair o)) at fits mark m d = absurd mark
  added_shows q (Phi l n) at fits mark m d = record { events = refl; told = λ w x k. k }

  module _ (ends : (e : Pos) (k n : ℕ) → e.block ≡ p.block → g.fetch e ≡ EndOfBlock k n → p.item < k)
      (no_return : (i : Item) → src.fetch p ≡ Here i → ItemHasClass bare_return i.kind → ⊥) where
    -- what is kept of p doesn't return, where the source has no return
    kept_stays : (k : ItemKind) → KindFits src k source_end (Kept p) → (d : Core) (v : RunResult) → do_item g k d ≡ Gives v → ⊥
    kept_stays (Code c n) fits d v e = by_fetch (src.fetch p) refl fits where
      is_return : class_of (row_of c) ≡ Return
      is_return = gives_of (class_of (row_of c) ≡ Return) (numbered g.sees_pointer (is_call (row_of c)) n c.operands) (act (row_of c) d) v
          (act_gives (row_of c) d) e

      by_kind : (j : ItemKind) → ItemHasClass (row_of c) j → ItemHasClass bare_return j
      by_kind (Code i l) h = h ∙ is_return
      by_kind (Mark x m) h = h
      by_kind (Phi l r) h = h

      by_fetch : (x : Fetch) → src.fetch p ≡ x → HasClass (row_of c) x → ⊥
      by_fetch (Here i) f h = no_return i f (by_kind i.kind h)
      by_fetch (EndOfBlock i r) f h = h
      by_fetch Outside f h = h
    kept_stays (Mark x m) fits d v e = cc
    kept_stays (Phi l r) fits d v e = cc

    idle_item : (y : Item) → (position_of y.origin).block ≡ p.block → 2 * p.item ≤ rank y.origin → KindFits src y.kind source_end y.origin →
        MarkFits y.kind y.origin → IsIdleAt count g p y
    idle_item y home low fits mark le = by_origin y.origin refl where
      by_origin : (o : Origin) → y.origin ≡ o → ((d : Core) → ShowsNoMore (since_item count y) d (do_item g y.kind d)) ⊎ IsNoReturn g p y
      by_origin (Kept q) e =
          let at : q ≡ p = same_pos q p (ap (λ (o : Origin). (position_of o).block) (sym e) ∙ home)
          (let a = subst (λ (o : Origin). 2 * p.item ≤ rank o) e low in let b = subst (λ (o : Origin). (position_of o).item ≤ p.item) e le in
          omega (arith, a, b)) in
          let kept : y.origin ≡ Kept p = e ∙ ap Kept at in
          inr (record { kept = kept; stays = kept_stays y.kind (subst (KindFits src y.kind source_end) kept fits); inner = ends })
      by_origin (Before q) e =
          let at : q.item ≡ p.item =
          (let a = subst (λ (o : Origin). 2 * p.item ≤ rank o) e low in let b = subst (λ (o : Origin). (position_of o).item ≤ p.item) e le in
          omega (arith, a, b)) in
          inl (added_shows q y.kind at (subst (KindFits src y.kind source_end) e fits) (subst (MarkFits y.kind) e mark) (since_item count y))

    idle_items : (ys : List Item) (n : ℕ) → InOrder p.block n ys → 2 * p.item ≤ n → All (λ y. KindFits src y.kind source_end y.origin) ys →
        All (λ y. MarkFits y.kind y.origin) ys → All (IsIdleAt count g p) ys
    idle_items [] n ord le fits marks = All-nil (IsIdleAt count g p)
    idle_items (y ∷ ys) n ord le fits marks =
        let k = ord.1 in
        let low : 2 * p.item ≤ rank y.origin = omega (arith, le, k) in
        let F : Item → Type 0 = λ z. KindFits src z.kind source_end z.origin in
        let M : Item → Type 0 = λ z. MarkFits z.kind z.origin in
        All-cons (IsIdleAt count g p) y ys (idle_item y ord.0 low (All-head F y ys fits) (All-head M y ys marks))
        (idle_items ys (next_rank y.origin) ord.2 (rank_next y.origin (2 * p.item) low) (All-tail F y ys fits) (All-tail M y ys marks))

-- from a start, where the source's returns have physical results, g may idle where the source stops: what it has ahead fits
-- the source, stands in order from p on, and p isn't its block's end
pub idles_ahead : (count : Count) (src g : Program) (stack : List stack_object.Object) (first : ℕ) (s0 : State) → IsInitialState stack first s0 →
    ((q : Pos) (i : Item) → src.fetch q ≡ Here i → ItemHasClass bare_return i.kind → OnRow HasPhysicalResults i.kind) →
    (p : Pos) (source_end : ℕ) → p.item < source_end → ((e : Pos) (k n : ℕ) → e.block ≡ p.block → g.fetch e ≡ EndOfBlock k n → k ≡ source_end) →
    (ys : List Item) (n : ℕ) → InOrder p.block n ys → 2 * p.item ≤ n → All (λ y. KindFits src y.kind source_end y.origin) ys →
    All (λ y. MarkFits y.kind y.origin) ys → FaultsAt src s0 p → All (IsIdleAt count g p) ys
idles_ahead count src g stack first s0 start physical p source_end inner ends ys n ord le fits marks fa =
    idle_items count src g s0 p source_end inner (λ e k m eb fe. let h = ends e k m eb fe in omega (arith, inner, h))
    (λ i fi c. returns_never_fault src stack first s0 start p i fi (physical p i fi c) fa) ys n ord le fits marks
