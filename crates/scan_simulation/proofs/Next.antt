-- After code the two cores are as they are to be at the next position.
use Rattle.std.proofs.Common.{◌≡◌, ◌⊎◌, inl, inr, ℕ, List, [], ◌∷◌, Contains, Option, Some, None, Bool, true, false, cond, nat_eq, slice_get}
use Rattle.std.proofs.Common.{refl, sym, ap, ◌∙◌, subst, arith}
use Rattle.std.specs.Prelude.{IsTrue}
use Rattle.rv64_instr.specs.declared.start.CallTarget.{CallTarget}
use Rattle.rv64_instr.specs.DefsAndUses.{caller_saved, sets}
use Rattle.rv64_instr.specs.Form.{has_form}
use Rattle.rv64_instr.specs.Instruction.{Instruction}
use Rattle.rv64_instr.specs.LocationEffects.{has_implicit_uses, is_call}
use Rattle.rv64_instr.specs.Row.{Row, Loads, Stores, LoadsSlot, Branches, Calls, Returns, Unfit, row_of}
use Rattle.rv64_instr.specs.Arithmetic.{taken, load_width, store_width}
use Rattle.mir_func.specs.declared.item.Item.{Item}
use Rattle.mir_func.specs.declared.item.ItemKind.TheVariants.{Code}
use Rattle.mir_func.specs.declared.position.Origin.TheVariants.{Before}
use Rattle.mir_func.specs.declared.position.Pos.{Pos}
use Rattle.mir_func.specs.declared.variable.VarId.{VarId}
use Rattle.mir_func.specs.Graph.{Program, Here, Edge}
use Rattle.sem_mir.specs.Effects.{EndAlike}
use Rattle.sem_mir.specs.State.{Core, Reply, content, assigned, updated}
use Rattle.sem_mir.specs.Step.{Outcome, Falls, Goes, Gives, Traps, Asks, Breaks, act, does, read, address_at, is_fault, slot_loaded, are_written, with_core}
use Rattle.sem_mir.specs.Step.{seen, defined, given as given_pair, numbered, called_at, passed, call_faults, exec_external_call}
use Rattle.rv64_instr.specs.DefsAndUses.{reads}
use Rattle.sem_mir.proofs.Outcomes.{alike_with, after_reply}
use Rattle.sem_mir.proofs.Told.{Below}
use Rattle.scan_rule.specs.pass_trait.Causes.{begins, goes_on}
use Rattle.scan_rule.specs.spill_code.Rewrite.{renamed_code}
use Rattle.scan_rule.specs.spill_simulation.MaySpill.{uses_in, defs_in}
use Rattle.scan_rule.proofs.spill_simulation.Explicit.{Explicit, explicit, defined_in}
use Rattle.scan_rule.proofs.spill_simulation.Items.{call_is, call_implicit}
use Rattle.scan_rule.proofs.spill_simulation.Near.{cases_in}
use Rattle.scan_rule.proofs.spill_simulation.Rows.{renamed_row, row_renamed}
use Rattle.scan_rule.proofs.scan_allocation.Named.{saved_small}
use Rattle.scan_rule.specs.scan_allocation.Coloring.{now, IsColoring}
use Rattle.scan_rule.specs.Silence.{Overwritten}
use Rattle.scan_simulation.proofs.Clobbered.{clobbered}
use Rattle.scan_simulation.proofs.CodeRuns.{Acted, GoesOn, set_defines, defines_set, set_from, does as code_acts}
use Rattle.scan_simulation.proofs.Near.{Near}
use Rattle.scan_simulation.proofs.Numbered.{renamed_at, call_at, seen_below, pointer_below, given_below, call_below, call_clobbers, call_sets}
use Rattle.scan_simulation.proofs.Renaming.{now_plain, now_given, physical, keeps_zero}

none_in : (q : ℕ) → Contains [] q → ⊥
none_in q (k, lt, e) = omega (arith, lt)

-- ---- code that is no return gives no result

abbrev pub GivesNothing : Outcome → Type 0
GivesNothing (Gives v) = ⊥
GivesNothing _ = Unit {0}

nothing_either : (b : Bool) (x y : Outcome) → GivesNothing x → GivesNothing y → GivesNothing (cond b x y)
nothing_either true x y a b = a
nothing_either false x y a b = b

script_nothing : (t : CallTarget) (vs ns : List ℕ) (c : Core) (rs : List Reply) → GivesNothing (exec_external_call t vs ns c rs)
script_nothing t vs ns c [] = tt
script_nothing t vs ns c (r ∷ rs) = nothing_either (call_faults c ns r) Traps (Falls (after_reply t vs ns c r rs)) tt tt

does_nothing : (r : Row) (c : Core) → GoesOn r → GivesNothing (does r c)
unfolding does
does_nothing (Loads rd op b o) c e = nothing_either (is_fault b c (address_at c b o) (load_width op)) Traps _ tt tt
does_nothing (Stores op rs b o) c e = nothing_either (is_fault b c (address_at c b o) (store_width op)) Traps _ tt tt
does_nothing (LoadsSlot rd n) c e = by_slot (c.slots n) where
  by_slot : (x : Option ℕ) → GivesNothing (slot_loaded rd c x)
  by_slot None = tt
  by_slot (Some v) = tt
does_nothing (Branches op a b t) c e = nothing_either (taken op (read c a) (read c b)) (Goes t c) (Falls c) tt tt
does_nothing (Calls call) c e = script_nothing (called_at c call.callee) (passed c call) call.outgoing c c.script
does_nothing (Returns v) c e = absurd e
does_nothing Unfit c e = tt
does_nothing _ c e = tt

pub act_nothing : (r : Row) (c : Core) → GoesOn r → GivesNothing (act r c)
unfolding act
act_nothing r c e = nothing_either (are_written c (reads r)) (does r c) Traps (does_nothing r c e) tt

pub with_nothing : (k : Core → Core) (x : Outcome) → GivesNothing x → GivesNothing (with_core k x)
with_nothing k (Falls c) h = tt
with_nothing k (Goes n c) h = tt
with_nothing k (Gives v) h = h
with_nothing k Traps h = tt
with_nothing k Asks h = tt
with_nothing k Breaks h = tt

goes_on_renamed : (u d : ℕ → ℕ) (r : Row) → GoesOn r → GoesOn (renamed_row u d r)
goes_on_renamed u d (Returns v) h = h
goes_on_renamed u d _ h = tt

updated_below : (n : ℕ) (a b : ℕ → Option ℕ) (p q : ℕ → ℕ → Option ℕ) → ((o : ℕ) → Below (a o) (b o)) → ((m o : ℕ) → Below (p m o) (q m o)) →
    (m o : ℕ) → Below (updated n a p m o) (updated n b q m o)
updated_below n a b p q x y m o = by_test (nat_eq m n) where
  by_test : (z : Bool) → Below (cond z a (p m) o) (cond z b (q m) o)
  by_test true = x o
  by_test false = y m o

module _ (f : Program) (given : ℕ → Option ℕ) (col : IsColoring f given) (start : Pos) where
  abbrev N : Pos → Core → Core → Type 0
  N = Near f given col start

  -- other pairs
  pub near_pairs : (q : Pos) (c d : Core) (p r : ℕ → ℕ → Option ℕ) → N q c d → ((k o : ℕ) → Below (p k o) (r k o)) →
      N q (record c { pairs = p }) (record d { pairs = r })
  near_pairs q c d p r near under = record {
    world = record {
      entry = near.world.entry;
      area = near.world.area;
      objects = near.world.objects;
      symbols = near.world.symbols;
      memory = near.world.memory;
      script = near.world.script;
      events = near.world.events;
    };
    slots = near.slots;
    plain = near.plain;
    renamed = near.renamed;
    written = near.written;
    pairs = under;
    marks = near.marks;
  }

  -- other marks
  pub near_marks : (q : Pos) (c d : Core) (p r : List (VarId × Option ℕ)) → N q c d → ((v : VarId) → Below (assigned v p) (assigned v r)) →
      N q (record c { marks = p }) (record d { marks = r })
  near_marks q c d p r near under = record {
    world = record {
      entry = near.world.entry;
      area = near.world.area;
      objects = near.world.objects;
      symbols = near.world.symbols;
      memory = near.world.memory;
      script = near.world.script;
      events = near.world.events;
    };
    slots = near.slots;
    plain = near.plain;
    renamed = near.renamed;
    written = near.written;
    pairs = near.pairs;
    marks = under;
  }

  module _ (p : Pos) (item : Item) (i : Instruction) (n : Option ℕ) (at : f.fetch p ≡ Here item) (kind : item.kind ≡ Code i n)
      (form : IsTrue (has_form i.op i.operands)) where
    abbrev row : Row
    row = row_of i

    abbrev u : ℕ → ℕ
    u = now given

    abbrev i' : Instruction
    i' = renamed_code u u i

    abbrev A : (c d c' d' : Core) → Type 0
    A = Acted f given col start p item i n at kind form

    -- the place of a register isn't set, where it isn't overwritten next
    place_unset : (q : Pos) (r : ℕ) → Edge f p q → (Contains (sets row) r → ⊥) → (Overwritten f given r q → ⊥) →
        Contains (sets (renamed_row u u row)) (u r) → ⊥
    place_unset q r edge out clear k =
        let w = set_from f given col start p item i n at kind form (u r) k in
        clear (begins (
          p,
          (
            w.0,
            sym w.2,
            set_defines f given col start p item i n at kind form w.0 w.1,
            λ d. out (defines_set f given col start p item i n at kind form r d),
          ),
          edge,
        ))

    not_over : (q : Pos) (r : ℕ) → Edge f p q → (Contains (sets row) r → ⊥) → (Overwritten f given r q → ⊥) → Overwritten f given r p → ⊥
    not_over q r edge out clear over = clear (goes_on over (λ d. out (defines_set f given col start p item i n at kind form r d)) edge)

    old_pairs : (c d c' d' : Core) → N p c d → A c d c' d' → (k o : ℕ) → Below (c'.pairs k o) (d'.pairs k o)
    old_pairs c d c' d' near h k o v e =
        ap (λ (z : ℕ → ℕ → Option ℕ). z k o) h.told.0 ∙ near.pairs k o v (ap (λ (z : ℕ → ℕ → Option ℕ). z k o) (sym h.told'.0) ∙ e)

    near_next : (c d c' d' : Core) → N p c d → A c d c' d' → (q : Pos) → Edge f p q → N q c' d'
    near_next c d c' d' near h q edge = record {
      world = h.world;
      slots = h.slots;
      plain = λ r none clear. elim (cases_in (sets row) r) as (λ _. content c'.regs r ≡ content d'.regs r) [
        | inl k ↦ h.set r k ∙ ap (content d'.regs) (now_plain given r none)
        | inr out ↦ h.stays r out ∙ near.plain r none (not_over q r edge out clear) ∙
            sym (h.stays' r (λ k. place_unset q r edge out clear
            (subst (λ (z : ℕ). Contains (sets (renamed_row u u row)) z) (sym (now_plain given r none)) k)))
      ];
      renamed = λ r s x some clear e. elim (cases_in (sets row) r) as (λ _. content d'.regs s ≡ Some x) [
        | inl k ↦ ap (content d'.regs) (sym (now_given given r s some)) ∙ sym (h.set r k) ∙ e
        | inr out ↦ h.stays' s (λ k. place_unset q r edge out clear
            (subst (λ (z : ℕ). Contains (sets (renamed_row u u row)) z) (sym (now_given given r s some)) k)) ∙
            near.renamed r s x some (not_over q r edge out clear) (sym (h.stays r out) ∙ e)
      ];
      written = λ r s some sets_before e. elim (cases_in (sets row) r) as (λ _. ⊥) [
        | inl k ↦ h.is_written r s some k e
        | inr out ↦ near.written r s some
            (λ unset. sets_before (goes_on unset (λ d. out (defines_set f given col start p item i n at kind form r d)) edge))
            (sym (h.stays r out) ∙ e)
      ];
      pairs = old_pairs c d c' d' near h;
      marks = λ v x e. ap (assigned v) h.told.1 ∙ near.marks v x (ap (assigned v) (sym h.told'.1) ∙ e);
    }

    -- ---- pairs

    explained : Explicit row (uses_in i.operands) (defs_in i.operands)
    explained = explicit i form

    given_in : (c d c' d' : Core) → N p c d → A c d c' d' → (call : Bool) → is_call row ≡ call → (k o : ℕ) →
        Below (given_pair false (defined call (slice_get i.operands o)) (c'.pairs k o) c')
        (given_pair false (defined call (slice_get i'.operands o)) (d'.pairs k o) d')
    given_in c d c' d' near h false e k o =
        subst (λ (x : Option ℕ). Below (given_pair false (defined false (slice_get i.operands o)) (c'.pairs k o) c') (given_pair false x (d'.pairs k o) d'))
        (sym (renamed_at u i.operands o))
        (given_below u (defined false (slice_get i.operands o)) c' d' (c'.pairs k o) (d'.pairs k o)
        (old_pairs c d c' d' near h k o) (λ r z. by_implicit (has_implicit_uses row) refl r (defined_in i.operands o r z))) where
          pointer : (r : ℕ) → r ≡ 2 → u r ≡ 2
          pointer r z = ap u z ∙ now_plain given 2 (physical f given col 2 (omega arith))

          by_implicit : (b : Bool) → has_implicit_uses row ≡ b → (r : ℕ) → Contains (defs_in i.operands) r →
              Below (seen false r c') (seen false (u r) d')
          by_implicit true z r j = absurd (none_in r (subst (λ (xs : List ℕ). Contains xs r) (explained.implicit_none z) j))
          by_implicit false z r j =
              seen_below u r (u r) c' d' (pointer r) (h.set r (subst (λ (xs : List ℕ). Contains xs r) (sym (explained.sets_defs z)) j))
    given_in c d c' d' near h true e k o =
        let none = explained.implicit_none (call_implicit row e) in
        subst (λ (x : Option ℕ). Below (given_pair false (defined true (slice_get i.operands o)) (c'.pairs k o) c') (given_pair false x (d'.pairs k o) d'))
        (sym (call_at u i.operands o none))
        (call_below (defined true (slice_get i.operands o)) c' d' (c'.pairs k o) (d'.pairs k o) (old_pairs c d c' d' near h k o)
        (λ r z. by_place r (clobbered r (call_clobbers i.op i.operands form e o r z)))) where
          by_place : (r : ℕ) → (r ≡ 0) ⊎ ((r ≡ 2) ⊎ Contains caller_saved r) → Below (seen false r c') (seen false r d')
          by_place r (inl z) = seen_below u r r c' d' (λ w. w) (ap (content c'.regs) z ∙ sym (ap (content d'.regs) z))
          by_place r (inr (inl z)) = pointer_below u r c' d' z
          by_place r (inr (inr j)) =
              let there : Contains (sets row) r = subst (λ (xs : List ℕ). Contains xs r) (sym (call_sets row e)) j in
              let none = physical f given col r (saved_small r j) in
              seen_below u r r c' d' (λ w. w) (h.set r there ∙ ap (content d'.regs) (now_plain given r none))

    numbered_next : (c d c' d' : Core) → N p c d → A c d c' d' → (q : Pos) → Edge f p q → (m : Option ℕ) →
        N q (numbered false (is_call row) m i.operands c') (numbered false (is_call row) m i'.operands d')
    numbered_next c d c' d' near h q edge None = near_next c d c' d' near h q edge
    numbered_next c d c' d' near h q edge (Some m) =
        near_pairs q c' d' _ _ (near_next c d c' d' near h q edge)
        (updated_below m (λ o. given_pair false (defined (is_call row) (slice_get i.operands o)) (c'.pairs m o) c')
        (λ o. given_pair false (defined (is_call row) (slice_get i'.operands o)) (d'.pairs m o) d') c'.pairs d'.pairs
        (λ o. given_in c d c' d' near h (is_call row) refl m o) (old_pairs c d c' d' near h))

    -- ---- the item

    abbrev pub Next : Core → Core → Type 0
    Next c' d' = (q : Pos) → Edge f p q → N q c' d'

    abbrev pub old : Core → Outcome
    old c = with_core (numbered false (is_call row) n i.operands) (act row c)

    abbrev pub new : Core → Outcome
    new d = with_core (numbered false (is_call (row_of i')) n i'.operands) (act (row_of i') d)

    same_row : row_of i' ≡ renamed_row u u row
    same_row = row_renamed u u (keeps_zero f given col) i

    -- code does alike, or the old code alone stops, and is code of the source
    pub code_does : (c d : Core) → N p c d → EndAlike Next (old c) (new d) ⊎
        ((old c ≡ Traps) × GivesNothing (new d) × ((o : Pos) → item.origin ≡ Before o → ⊥))
    code_does c d near = elim (code_acts f given col start p item i n at kind form c d near) [
      | inl alike ↦ inl
          (subst (λ (r : Row). EndAlike Next (old c) (with_core (numbered false (is_call r) n i'.operands) (act r d))) (sym same_row)
          (subst (λ (b : Bool). EndAlike Next (old c) (with_core (numbered false b n i'.operands) (act (renamed_row u u row) d)))
          (sym (call_is u u row))
          (alike_with (A c d) Next (numbered false (is_call row) n i.operands) (numbered false (is_call row) n i'.operands)
          (λ c' d' h q edge. numbered_next c d c' d' near h q edge n) (act row c) (act (renamed_row u u row) d) alike)))
      | inr (stops, on, kept) ↦ inr (
        ap (with_core (numbered false (is_call row) n i.operands)) stops,
        with_nothing (numbered false (is_call (row_of i')) n i'.operands) (act (row_of i') d)
            (act_nothing (row_of i') d (subst GoesOn (sym same_row) (goes_on_renamed u u row on))),
        kept,
      )
    ]
