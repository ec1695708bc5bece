-- What the frame holds where a run stands is what the frame's state at the position says.
use Rattle.std.proofs.Common.{◌≡◌, ℕ, zero, suc, ◌-◌, pos, List, [], ◌∷◌, ◌++◌, map, drop, Contains, Option, Some, Bool, true, false, cond, not, nat_eq}
use Rattle.std.proofs.Common.{◌&&◌, ◌||◌, refl, sym, ap, ◌∙◌, subst, inl, inr, append_assoc, eq-eqb, ne_eqb, arith}
use Rattle.std.proofs.lemmas.Bool.{eqb-true, and_parts}
use Rattle.std.proofs.lemmas.List.Concat.{flat_map-cons}
use Rattle.rv64_instr.specs.Arithmetic.{word}
use Rattle.rv64_instr.specs.Row.{add_row}
use Rattle.mir_func.specs.declared.debug_substitution.OperandPair.{OperandPair}
use Rattle.mir_func.specs.declared.framed.SavedRegister.{SavedRegister}
use Rattle.mir_func.specs.declared.item.Item.{Item}
use Rattle.mir_func.specs.declared.position.Origin.{Origin}
use Rattle.mir_func.specs.declared.position.Origin.TheVariants.{Before}
use Rattle.mir_func.specs.declared.position.Pos.{Pos}
use Rattle.mir_func.specs.Exits.{row_leads_back, leads_back}
use Rattle.mir_func.specs.Function.{Function, FramedFunction}
use Rattle.mir_func.specs.Graph.{Program, Fetch, Here, EndOfBlock, Outside, framed_program, is_return, rest_in}
use Rattle.mir_func.specs.SoundFrame.{SAVED, adds_to_pointer, saves, restores, epilogue_code}
use Rattle.mir_func.specs.Positions.{position_of}
use Rattle.sem_mir.specs.State.{Core, content}
use Rattle.sem_simulation.specs.MatchStates.{Laid, IsPastItems}
use Rattle.sem_simulation.proofs.Laid.{laid_out_framed}
use Rattle.frame_rule.specs.Rule.{saved_places, saved_of, size_of, added, added_all, epilogue, renamed, framed_item, framed_items}
use Rattle.frame_rule.specs.Rule.{framed_of}
use Rattle.frame_proof.specs.Stands.{FrameState, is_as_found, frame_state, IsSaved, FrameStands}
use Rattle.frame_rule.proofs.Saved.{none_saved, or_cases}
use Rattle.frame_rule.proofs.Parts.{kind_leads}
use Rattle.frame_proof.proofs.Standing.{Part, lowering, saving, body, loading, loaded}

adds_goes_on : (n : ℕ) → row_leads_back (add_row 2 2 n) ≡ false
adds_goes_on zero = refl
adds_goes_on (suc n) = refl

pub or_true : (a b : Bool) → b ≡ true → (a || b) ≡ true
or_true true b e = refl
or_true false b e = e

past_no_return : (x : Fetch) → IsPastItems x → is_return x ≡ true → ⊥
past_no_return (Here i) past h = past
past_no_return (EndOfBlock k n) past h = cc
past_no_return Outside past h = cc

no_member : {A : Type 0} (x : A) → Contains [] x → ⊥
no_member x (k, lt, e) = absurd (omega (arith, lt))

module _ (fn : Function) (resolve : OperandPair → Option OperandPair) (e : Core) (p : Pos) (d : Core) where
  abbrev F : FramedFunction
  F = framed_of fn

  abbrev g : Program
  g = framed_program F.blocks resolve

  abbrev rg : Pos → List Item
  rg q = rest_in (drop q.block F.blocks) q.item

  abbrev entry : ℕ
  entry = e.entry

  abbrev lower : ℕ
  lower = e.entry - F.size

  by_state : (st : FrameState) → frame_state F p ≡ st → content d.regs 2 ≡ Some (e.entry - st.lowered) →
      (st.saved ≡ false → (r : ℕ) → Contains SAVED r → content d.regs r ≡ content e.regs r) →
      (st.saved ≡ true → (s : SavedRegister) → Contains F.saved s → d.slots s.offset ≡ content e.regs s.register) →
      (st.saved ≡ true → (r : ℕ) → Contains SAVED r → (IsSaved F r → ⊥) → content d.regs r ≡ content e.regs r) → FrameStands F e p d
  by_state st same pointer kept places others = record {
    pointer = pointer ∙ ap (λ (z : FrameState). Some (e.entry - z.lowered)) (sym same);
    kept = λ h. kept (sym (ap (λ (z : FrameState). z.saved) same) ∙ h);
    in_places = λ h. places (sym (ap (λ (z : FrameState). z.saved) same) ∙ h);
    others = λ h. others (sym (ap (λ (z : FrameState). z.saved) same) ∙ h);
  }

  not_true : {P : Type 0} → false ≡ true → P
  not_true h = cc

  not_false : {P : Type 0} → true ≡ false → P
  not_false h = cc

  as_found : is_as_found F p ≡ true → content d.regs 2 ≡ Some e.entry → ((r : ℕ) → Contains SAVED r → content d.regs r ≡ content e.regs r) →
      FrameStands F e p d
  as_found h pointer kept =
      let none : e.entry ≡ e.entry - 0 = omega arith in
      by_state (record { lowered = 0; saved = false })
      (ap (λ (b : Bool). cond b (record { lowered = 0; saved = false }) (record { lowered = F.size; saved = not (nat_eq p.block 0) })) h)
      (pointer ∙ ap Some none) (λ z. kept) (λ z. not_true z) (λ z. not_true z)

  made_state : is_as_found F p ≡ false → (b : Bool) → nat_eq p.block 0 ≡ b → frame_state F p ≡ record { lowered = F.size; saved = not b }
  made_state h b w =
      ap (λ (z : Bool). cond z (record { lowered = 0; saved = false }) (record { lowered = F.size; saved = not (nat_eq p.block 0) })) h
      ∙ ap (λ (z : Bool). record { lowered = F.size; saved = not z }) w

  in_prologue : is_as_found F p ≡ false → p.block ≡ 0 → content d.regs 2 ≡ Some lower →
      ((r : ℕ) → Contains SAVED r → content d.regs r ≡ content e.regs r) → FrameStands F e p d
  in_prologue h zero_block pointer kept =
      by_state (record { lowered = F.size; saved = false }) (made_state h true (eq-eqb p.block 0 zero_block)) pointer (λ z. kept) (λ z. not_true z)
      (λ z. not_true z)

  in_body : is_as_found F p ≡ false → (p.block ≡ 0 → ⊥) → content d.regs 2 ≡ Some lower →
      ((s : SavedRegister) → Contains F.saved s → d.slots s.offset ≡ content e.regs s.register) →
      ((r : ℕ) → Contains SAVED r → (IsSaved F r → ⊥) → content d.regs r ≡ content e.regs r) → FrameStands F e p d
  in_body h inside pointer places others =
      by_state (record { lowered = F.size; saved = true }) (made_state h false (ne_eqb p.block 0 inside)) pointer (λ z. not_false z) (λ z. places) (λ z. others)

  -- why all may be as found
  data IsFound : Type 0 where
    frameless : F.size ≡ 0 → IsFound
    first : p.block ≡ 0 → p.item ≡ 0 → IsFound
    leaving : is_return (g.fetch p) ≡ true → IsFound

  found_by : is_as_found F p ≡ true → IsFound
  found_by h = elim (or_cases (nat_eq F.size 0) _ h) [
    | inl a ↦ frameless (eqb-true F.size 0 a)
    | inr b ↦ elim (or_cases (nat_eq p.block 0 && nat_eq p.item 0) _ b) [
      | inl c ↦ (let w = and_parts (nat_eq p.block 0) (nat_eq p.item 0) c in first (eqb-true p.block 0 w.0) (eqb-true p.item 0 w.1))
      | inr c ↦ leaving c
    ]
  ]

  laid : Laid g rg
  laid = laid_out_framed F.blocks resolve

  -- what stands there, by the items that are left
  return_here : (y : Item) (ys : List Item) → rg p ≡ y ∷ ys → is_return (g.fetch p) ≡ leads_back y.kind
  return_here y ys w = ap is_return (laid.cons p y ys w).0

  no_return : rg p ≡ [] → is_return (g.fetch p) ≡ true → ⊥
  no_return w h = past_no_return (g.fetch p) (laid.nil p w).0 h

  saves_go_on : (o : Origin) (from : ℕ) (rs : List ℕ) → rg p ≡ map (added o) (map saves (saved_places from rs)) → is_return (g.fetch p) ≡ true → ⊥
  saves_go_on o from [] w h = no_return w h
  saves_go_on o from (r ∷ rs) w h = let bad : false ≡ true = sym (return_here _ _ w) ∙ h in cc

  restores_go_on : (o : Origin) (todo : List SavedRegister) (more : List Item) →
      rg p ≡ map (added o) (map restores todo ++ adds_to_pointer (pos F.size) ∷ []) ++ more → is_return (g.fetch p) ≡ true → ⊥
  restores_go_on o [] more w h =
      let bad : false ≡ true = sym (adds_goes_on (word (pos F.size))) ∙ sym (return_here _ _ w) ∙ h in cc
  restores_go_on o (s ∷ todo) more w h = let bad : false ≡ true = sym (return_here _ _ w) ∙ h in cc

  -- in the body a return is the first item that is left only where there is no frame
  body_return : (xs : List Item) → rg p ≡ framed_items fn xs → is_return (g.fetch p) ≡ true → F.size ≡ 0
  body_return [] w h = absurd (no_return w h)
  body_return (x ∷ rest) w h = by_exit (leads_back x.kind) refl (w ∙ flat_map-cons (framed_item fn) x rest) where
    by_size : (n : ℕ) → size_of fn ≡ n →
        rg p ≡ (added_all n (Before (position_of x.origin)) (epilogue_code (size_of fn) (saved_of fn)) ++ renamed fn.slots x ∷ []) ++ framed_items fn rest →
        size_of fn ≡ 0
    by_size zero z k = z
    by_size (suc n) z k =
        absurd (restores_go_on (Before (position_of x.origin)) (saved_of fn) (renamed fn.slots x ∷ framed_items fn rest)
        (k ∙ append_assoc (map (added (Before (position_of x.origin))) (epilogue_code (size_of fn) (saved_of fn))) (renamed fn.slots x ∷ []) (framed_items fn
        rest)) h)

    by_exit : (z : Bool) → leads_back x.kind ≡ z →
        rg p ≡ (cond z (epilogue fn x.origin) [] ++ renamed fn.slots x ∷ []) ++ framed_items fn rest → size_of fn ≡ 0
    by_exit false z k =
        let bad : false ≡ true = sym z ∙ sym (kind_leads fn.slots x.kind) ∙ sym (return_here _ _ k) ∙ h in cc
    by_exit true z k = by_size (size_of fn) refl k

  pub stands_by : Part fn resolve e p d → FrameStands F e p d
  stands_by (lowering o at made w h) =
      let block : nat_eq p.block 0 ≡ true = eq-eqb p.block 0 (ap (λ (q : Pos). q.block) at) in
      let item : nat_eq p.item 0 ≡ true = eq-eqb p.item 0 (ap (λ (q : Pos). q.item) at) in
      as_found (or_true (nat_eq F.size 0) _ (λ i. (block i && item i) || is_return (g.fetch p))) h.pointer h.same
  stands_by (saving o from rs zero_block start w split within h) = by_found (is_as_found F p) refl where
    unframed : F.size ≡ 0 → content d.regs 2 ≡ Some e.entry
    unframed z = let same : e.entry - F.size ≡ e.entry = omega (arith, z) in h.pointer ∙ ap Some same

    by_found : (b : Bool) → is_as_found F p ≡ b → FrameStands F e p d
    by_found false z = in_prologue z zero_block h.pointer h.same
    by_found true z = elim (found_by z) [
      | frameless a ↦ as_found z (unframed a) h.same
      | first a c ↦ as_found z (unframed (start c)) h.same
      | leaving a ↦ absurd (saves_go_on o from rs w a)
    ]
  stands_by (body xs inside w fits h) = by_found (is_as_found F p) refl where
    unframed : is_as_found F p ≡ true → F.size ≡ 0 → FrameStands F e p d
    unframed z a =
        let same : e.entry - F.size ≡ e.entry = omega (arith, a) in
        as_found z (h.pointer ∙ ap Some same)
        (λ r k. h.same r (k, λ s. no_member s.0 (subst (λ (ss : List SavedRegister). Contains ss s.0) (none_saved fn a) s.1)))

    by_found : (b : Bool) → is_as_found F p ≡ b → FrameStands F e p d
    by_found false z = in_body z inside h.pointer h.places (λ r k ne. h.same r (k, ne))
    by_found true z = elim (found_by z) [
      | frameless a ↦ unframed z a
      | first a c ↦ absurd (inside a)
      | leaving a ↦ unframed z (body_return xs w a)
    ]
  stands_by (loading x rest todo inside made final w within h) = by_found (is_as_found F p) refl where
    by_found : (b : Bool) → is_as_found F p ≡ b → FrameStands F e p d
    by_found false z = in_body z inside h.pointer h.places (λ r k ne. h.same r (k, λ s. ne (s.0, within s.0 s.1, s.2)))
    by_found true z = elim (found_by z) [
      | frameless a ↦ absurd (made a)
      | first a c ↦ absurd (inside a)
      | leaving a ↦ absurd (restores_go_on (Before (position_of x.origin)) todo (renamed fn.slots x ∷ framed_items fn rest) w a)
    ]
  stands_by (loaded x rest inside final w h) =
      let end : is_return (g.fetch p) ≡ true = return_here _ _ w ∙ kind_leads fn.slots x.kind ∙ final in
      as_found (or_true (nat_eq F.size 0) _ (or_true (nat_eq p.block 0 && nat_eq p.item 0) _ end)) h.pointer h.same
