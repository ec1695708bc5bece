-- A call in one run, and a call with another register as its callee in another: where the callee is one and what is passed is alike, they do alike.
use Rattle.std.proofs.Common.{◌≡◌, ◌⊎◌, ℕ, List, [], ◌∷◌, ◌++◌, map, Contains, Option, None, Bool, cond, ◌&&◌, ◌||◌, not, is_some}
use Rattle.std.proofs.Common.{nat_eq, refl, sym, ap, ◌∙◌, subst, inl, inr}
use Rattle.std.specs.List.{list_any}
use Rattle.std.proofs.lemmas.List.Folds.{list_all-append}
use Rattle.rv64_instr.specs.declared.place.Place.{Place}
use Rattle.rv64_instr.specs.declared.place.Place.TheVariants.{Register, Slot, Const}
use Rattle.rv64_instr.specs.declared.start.CallTarget.{CallTarget}
use Rattle.rv64_instr.specs.DefsAndUses.{caller_saved, callee_reads, reads}
use Rattle.rv64_instr.specs.Row.{Callee, CallSite, Calls}
use Rattle.mir_func.specs.declared.variable.VarId.{VarId}
use Rattle.sem_mir.specs.Effects.{held_in, EndAlike, SameWorld}
use Rattle.sem_mir.specs.State.{Core, Reply, content, without, writes_frame}
use Rattle.sem_mir.specs.Step.{Falls, Traps, or_zero, read, slot_value, passed, are_passed, are_written, called_at, call_faults, exec_external_call, does, act}
use Rattle.sem_mir.proofs.Effects.{RowDefines, Agreeing, agree_all, other_places}
use Rattle.sem_mir.proofs.Outcomes.{after_reply, alike_either}
use Rattle.sem_mir.proofs.Places.{without_among, contains_head, contains_tail}

-- the call with another callee
abbrev pub called_by : CallSite → Callee → CallSite
called_by call callee = record { callee = callee; args = call.args; outgoing = call.outgoing }

module _ (c : Core) (regs slots : ℕ → Option ℕ) (pairs : ℕ → ℕ → Option ℕ) (marks : List (VarId × Option ℕ)) where
  abbrev d : Core
  d = other_places regs slots pairs marks c

  registers_alike : (qs : List ℕ) → ((q : ℕ) → Contains qs q → content c.regs q ≡ content regs q) → map (read c) qs ≡ map (read d) qs
  registers_alike [] h = refl
  registers_alike (q ∷ qs) h =
      let e : read c q ≡ read d q = ap or_zero (h q (contains_head q qs)) in
      let es = registers_alike qs (λ p k. h p (contains_tail q p qs k)) in
      λ i. e i ∷ es i

  written_alike : (qs : List ℕ) → ((q : ℕ) → Contains qs q → content c.regs q ≡ content regs q) → are_written c qs ≡ are_written d qs
  written_alike [] h = refl
  written_alike (q ∷ qs) h =
      let e : is_some (content c.regs q) ≡ is_some (content regs q) = ap is_some (h q (contains_head q qs)) in
      let es = written_alike qs (λ p k. h p (contains_tail q p qs k)) in
      λ i. e i && es i

  slots_alike : (ns : List ℕ) → ((n : ℕ) → Contains ns n → c.slots n ≡ slots n) → map (slot_value c) ns ≡ map (slot_value d) ns
  slots_alike [] h = refl
  slots_alike (n ∷ ns) h =
      let e : slot_value c n ≡ slot_value d n = ap or_zero (h n (contains_head n ns)) in
      let es = slots_alike ns (λ m k. h m (contains_tail n m ns k)) in
      λ i. e i ∷ es i

  passed_alike : (ns : List ℕ) → ((n : ℕ) → Contains ns n → c.slots n ≡ slots n) → are_passed c ns ≡ are_passed d ns
  passed_alike [] h = refl
  passed_alike (n ∷ ns) h =
      let e : is_some (c.slots n) ≡ is_some (slots n) = ap is_some (h n (contains_head n ns)) in
      let es = passed_alike ns (λ m k. h m (contains_tail n m ns k)) in
      λ i. e i && es i

  module _ (call : CallSite) (outgoing : (n : ℕ) → Contains call.outgoing n → c.slots n ≡ slots n) where
    by_place : (x : Place) (t : CallTarget) (vs : List ℕ) (r : Reply) (rs : List Reply) → RowDefines (Calls call) x ⊎ (held_in x c ≡ held_in x d) →
        held_in x (after_reply t vs call.outgoing c r rs) ≡ held_in x (after_reply t vs call.outgoing d r rs)
    by_place (Register q) t vs r rs h = agree_all caller_saved r.regs q c.regs regs
        (λ out. elim h as (λ _. content c.regs q ≡ content regs q) [ inl k ↦ absurd (out k) | inr k ↦ k ])
    by_place (Slot n) t vs r rs h = elim h as (λ _. without call.outgoing c.slots n ≡ without call.outgoing slots n) [
      | inl k ↦ without_among call.outgoing n c.slots k ∙ sym (without_among call.outgoing n slots k)
      | inr k ↦ ap (λ (v : Option ℕ). cond (list_any (nat_eq n) call.outgoing) None v) k
    ]
    by_place (Const z) t vs r rs h = refl

    by_script : (t : CallTarget) (vs : List ℕ) (rs : List Reply) →
        EndAlike (Agreeing (Calls call) c d) (exec_external_call t vs call.outgoing c rs) (exec_external_call t vs call.outgoing d rs)
    by_script t vs [] = tt
    by_script t vs (r ∷ rs) =
        subst (λ (z : Bool). EndAlike (Agreeing (Calls call) c d) (exec_external_call t vs call.outgoing c (r ∷ rs))
        (cond (not z || writes_frame c.entry c.area r.writes) Traps (Falls (after_reply t vs call.outgoing d r rs))))
        (passed_alike call.outgoing outgoing)
        (alike_either (Agreeing (Calls call) c d) (call_faults c call.outgoing r) Traps _ Traps _ tt
        (record { entry = refl; area = refl; objects = refl; symbols = refl; memory = refl; script = refl; events = refl }, λ x h. by_place x t vs r rs h))

    module _ (callee : Callee) (target : called_at c call.callee ≡ called_at d callee)
        (args : (q : ℕ) → Contains call.args q → content c.regs q ≡ content regs q) where
      does_called : EndAlike (Agreeing (Calls call) c d) (does (Calls call) c) (does (Calls (called_by call callee)) d)
      unfolding does
      does_called =
          let es = registers_alike call.args args in
          let os = slots_alike call.outgoing outgoing in
          let same : passed c call ≡ passed d call = λ i. es i ++ os i in
          let Goal : CallTarget → List ℕ → Type 0 = λ t vs. EndAlike (Agreeing (Calls call) c d) (does (Calls call) c)
          (exec_external_call t vs call.outgoing d c.script) in
          subst (λ (vs : List ℕ). Goal (called_at d callee) vs) same (subst (λ (t : CallTarget). Goal t (passed c call)) target
          (by_script (called_at c call.callee) (passed c call) c.script))

      act_called : are_written c (callee_reads call.callee) ≡ are_written d (callee_reads callee) →
          EndAlike (Agreeing (Calls call) c d) (act (Calls call) c) (act (Calls (called_by call callee)) d)
      unfolding act
      act_called written =
          let others = written_alike call.args args in
          let p : ℕ → Bool = λ r. is_some (content c.regs r) in
          let q : ℕ → Bool = λ r. is_some (content regs r) in
          let e : are_written c (callee_reads call.callee ++ call.args) ≡ are_written d (callee_reads callee ++ call.args) =
          list_all-append p (callee_reads call.callee) call.args ∙ (λ i. written i && others i) ∙ sym (list_all-append q (callee_reads callee) call.args) in
          subst (λ (z : Bool). EndAlike (Agreeing (Calls call) c d) (act (Calls call) c) (cond z (does (Calls (called_by call callee)) d) Traps)) e
          (alike_either (Agreeing (Calls call) c d) (are_written c (reads (Calls call))) (does (Calls call) c) Traps
          (does (Calls (called_by call callee)) d) Traps does_called tt)

-- calls do alike in cores that agree on what they pass, where the callee is one in both
pub call_alike : (call : CallSite) (callee : Callee) (c d : Core) → SameWorld c d → called_at c call.callee ≡ called_at d callee →
    are_written c (callee_reads call.callee) ≡ are_written d (callee_reads callee) →
    ((q : ℕ) → Contains call.args q → content c.regs q ≡ content d.regs q) → ((n : ℕ) → Contains call.outgoing n → c.slots n ≡ d.slots n) →
    EndAlike (Agreeing (Calls call) c d) (act (Calls call) c) (act (Calls (called_by call callee)) d)
call_alike call callee c d w target written args outgoing =
    let made : Core = other_places d.regs d.slots d.pairs d.marks c in
    let e : made ≡ d = λ i. record {
      entry = w.entry i;
      area = w.area i;
      objects = w.objects i;
      symbols = w.symbols i;
      regs = d.regs;
      slots = d.slots;
      memory = w.memory i;
      script = w.script i;
      events = w.events i;
      pairs = d.pairs;
      marks = d.marks;
    } in
    subst (λ (z : Core). EndAlike (Agreeing (Calls call) c z) (act (Calls call) c) (act (Calls (called_by call callee)) z)) e
    (act_called c d.regs d.slots d.pairs d.marks call outgoing callee (subst (λ (z : Core). called_at c call.callee ≡ called_at z callee) (sym e) target)
    args written)
