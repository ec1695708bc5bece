-- What one item does in each run: code with its scratch registers loaded, marks and phis, and the loads and stores that are added.
use Rattle.std.proofs.Common.{◌≡◌, ◌⊎◌, ℕ, zero, suc, List, [], ◌∷◌, Contains, Option, Some, None, IsSome, Bool, true, false, cond, nat_eq, ◌&&◌, is_some}
use Rattle.std.proofs.Common.{refl, sym, ap, ◌∙◌, subst, inl, inr, eq-eqb, ne_eqb, slice_get, arith}
use Rattle.std.proofs.lemmas.Bool.{cases_eq}
use Rattle.rv64_instr.specs.declared.place.Place.{Place}
use Rattle.rv64_instr.specs.declared.place.Place.TheVariants.{Register, Slot, Const}
use Rattle.rv64_instr.specs.DefsAndUses.{reads, sets}
use Rattle.rv64_instr.specs.Arithmetic.{computed, load_width, extended}
use Rattle.rv64_instr.specs.Instruction.{Instruction}
use Rattle.rv64_instr.specs.LocationEffects.{is_call, has_implicit_uses, names_slot}
use Rattle.rv64_instr.specs.Row.{Row, Fixes, Moves, Sets, Addresses, Loads, Stores, LoadsSlot, StoresSlot, Branches, Jumps, Calls, Returns, Unfit, row_of}
use Rattle.mir_func.specs.declared.debug_substitution.OperandPair.{OperandPair}
use Rattle.mir_func.specs.declared.position.Origin.{Origin}
use Rattle.mir_func.specs.declared.variable.VarId.{VarId}
use Rattle.mir_func.specs.declared.variable.MarkValue.{MarkValue}
use Rattle.mir_func.specs.declared.variable.MarkValue.TheVariants.{Nothing, Constant, At, Pair}
use Rattle.mir_func.specs.declared.item.ItemKind.{ItemKind}
use Rattle.mir_func.specs.declared.item.ItemKind.TheVariants.{Code, Mark, Phi}
use Rattle.mir_func.specs.Graph.{Program}
use Rattle.mir_func.specs.Sound.{SlotsIn, PlaceIn}
use Rattle.mir_func.specs.Variables.{is_same, overlaps}
use Rattle.sem_mir.specs.Align.{is_code}
use Rattle.sem_mir.specs.Effects.{OnCore, EndAlike, SameWorld}
use Rattle.sem_mir.specs.State.{Core, content, updated, put, assigned, spelled}
use Rattle.sem_mir.specs.Step.{Outcome, Falls, Goes, Gives, Traps, Asks, Breaks, act, does, with_core, seen, defined, given, numbered, part_of, place_value}
use Rattle.sem_mir.specs.Step.{or_zero, mark_value, pair_value, do_item, set_register, are_written, read, input_value, address_at, is_fault, slot_loaded}
use Rattle.sem_mir.proofs.Outcomes.{alike_with, on_either}
use Rattle.sem_mir.proofs.Places.{put_other, updated_same, updated_other}
use Rattle.sem_mir.proofs.Told.{Below}
use Rattle.spill_code.specs.declared.spilling.Spilling.{Spilling}
use Rattle.spill_code.specs.Rewrite.{slot_of, use_now, def_now, stand_in, renamed_code, first_used, other_used, load, store}
use Rattle.spill_code.specs.Rewrite.{place_in, spilled_place}
use Rattle.spill_simulation.specs.MaySpill.{uses_in, defs_in, IsUntouched, FitsCode, Fits, AreHomes}
use Rattle.spill_simulation.proofs.Explicit.{Explicit, explicit, defined_in, first_of, other_of, used_is, other_is, found_of}
use Rattle.spill_simulation.proofs.Near.{none_in, Near, Acted, Loaded, acted, keeps_zero}
use Rattle.spill_simulation.proofs.Near.{renamed_at, call_at, call_defines, seen_under, given_under, call_under, two_stays}
use Rattle.spill_simulation.proofs.Rows.{renamed_row, row_renamed}

-- ---- what a row sets is written

written_put : (rd v : ℕ) (c : Core) (q : ℕ) → Contains (rd ∷ []) q → IsSome (content (set_register rd v c).regs q)
written_put rd v c q (zero, lt, e) = subst (λ (x : ℕ). IsSome (content (put rd v c.regs) x)) e (by_register rd) where
  by_register : (r : ℕ) → IsSome (content (put r v c.regs) r)
  by_register zero = refl
  by_register (suc r) = subst IsSome (sym (updated_same (suc r) (Some v) c.regs)) refl
written_put rd v c q (suc k, lt, e) = absurd (omega (arith, lt))

abbrev pub AreSet : Row → Core → Type 0
AreSet r e = (q : ℕ) → Contains (sets r) q → IsSome (content e.regs q)

does_written : (r : Row) (c : Core) → has_implicit_uses r ≡ false → OnCore (AreSet r) (does r c)
unfolding does
does_written (Fixes rd n) c i = written_put rd n c
does_written (Moves rd rs) c i = written_put rd (read c rs) c
does_written (Sets rd op a b) c i = written_put rd (computed op (read c a) (input_value c b)) c
does_written (Addresses rd n o) c i = written_put rd _ c
does_written (Loads rd op b o) c i =
    let a = address_at c b o in
    on_either (AreSet (Loads rd op b o)) (is_fault b c a (load_width op)) Traps
    (Falls (set_register rd (extended op (spelled c.memory a (load_width op))) c)) tt
    (written_put rd (extended op (spelled c.memory a (load_width op))) c)
does_written (LoadsSlot rd n) c i = by_slot (c.slots n) where
  by_slot : (x : Option ℕ) → OnCore (AreSet (LoadsSlot rd n)) (slot_loaded rd c x)
  by_slot None = tt
  by_slot (Some v) = written_put rd v c
does_written (Stores op rs b o) c i = on_either (AreSet (Stores op rs b o)) _ Traps (Falls _) tt (λ q k. absurd (none_in q k))
does_written (StoresSlot rs n) c i = λ q k. absurd (none_in q k)
does_written (Branches op a b t) c i = on_either (AreSet (Branches op a b t)) _ (Goes t c) (Falls c) (λ q k. absurd (none_in q k)) (λ q k. absurd (none_in q k))
does_written (Jumps t) c i = λ q k. absurd (none_in q k)
does_written (Calls call) c i = cc
does_written (Returns v) c i = cc
does_written Unfit c i = tt

pub act_written : (r : Row) (c : Core) → has_implicit_uses r ≡ false → OnCore (AreSet r) (act r c)
unfolding act
act_written r c i = on_either (AreSet r) (are_written c (reads r)) (does r c) Traps (does_written r c i) tt

-- ---- code that reads an unwritten register stops

unwritten : (c : Core) (rs : List ℕ) (q : ℕ) → Contains rs q → content c.regs q ≡ None → are_written c rs ≡ false
unwritten c [] q k e = absurd (none_in q k)
unwritten c (r ∷ rs) q (zero, lt, z) e = ap (λ (x : Option ℕ). is_some x && are_written c rs) (ap (content c.regs) z ∙ e)
unwritten c (r ∷ rs) q (suc k, lt, z) e =
    let rest = unwritten c rs q (k, omega (arith, lt), z) e in
    ap (λ (b : Bool). is_some (content c.regs r) && b) rest ∙ and_false (is_some (content c.regs r)) where
      and_false : (b : Bool) → (b && false) ≡ false
      and_false true = refl
      and_false false = refl

pub act_traps : (r : Row) (c : Core) (q : ℕ) → Contains (reads r) q → content c.regs q ≡ None → act r c ≡ Traps
unfolding act
act_traps r c q k e = ap (λ (b : Bool). cond b (does r c) Traps) (unwritten c (reads r) q k e)

pub call_is : (u d : ℕ → ℕ) (r : Row) → is_call (renamed_row u d r) ≡ is_call r
call_is u d (Calls call) = refl
call_is u d _ = refl

pub call_implicit : (r : Row) → is_call r ≡ true → has_implicit_uses r ≡ true
call_implicit (Calls call) e = refl
call_implicit _ e = cc

-- ---- code

module _ (s : Spilling) (slots : List ℕ) (homes : AreHomes s slots) (resolve : OperandPair → Option OperandPair) where
  module _ (i : Instruction) (o : Origin) (fits : FitsCode s i o) (held : SlotsIn slots (Code i None)) (u : Option ℕ) where
    abbrev row : Row
    row = row_of i

    abbrev pub now : Instruction
    now = renamed_code (use_now s u) (def_now s) i

    -- after code
    pub record After (c d c' d' : Core) : Type 0 where
      pub world : SameWorld c' d'
      pub regs : (r : ℕ) → IsUntouched s r → content c'.regs r ≡ content d'.regs r
      pub slots_alike : (n : ℕ) → Contains slots n → c'.slots n ≡ d'.slots n
      pub homes_stay : (r n : ℕ) → slot_of s.homes r ≡ Some n → d'.slots n ≡ d.slots n
      pub regs_stay : (r : ℕ) → (Contains (sets row) r → ⊥) → content c'.regs r ≡ content c.regs r
      pub set : has_implicit_uses row ≡ false → (r : ℕ) → Contains (sets row) r → content c'.regs r ≡ content d'.regs (def_now s r)
      pub written : has_implicit_uses row ≡ false → (r : ℕ) → Contains (sets row) r → IsSome (content c'.regs r)
      pub pairs : (k p : ℕ) → Below (c'.pairs k p) (d'.pairs k p)
      pub marks : (v : VarId) → Below (assigned v c'.marks) (assigned v d'.marks)

    explained : Explicit row (uses_in i.operands) (defs_in i.operands)
    explained = explicit i fits.form

    module _ (Alive Owed : ℕ → Type 0) (c d : Core) (near : Near s slots Alive Owed c d) where
      abbrev Done : Core → Core → Type 0
      Done c' d' = Acted s slots homes i o fits held u c d c' d' × (has_implicit_uses row ≡ false → AreSet row c')

      old_pairs : (c' d' : Core) → Done c' d' → (k p : ℕ) → Below (c'.pairs k p) (d'.pairs k p)
      old_pairs c' d' h k p v e =
          ap (λ (z : ℕ → ℕ → Option ℕ). z k p) h.0.told.0 ∙ near.pairs k p v (ap (λ (z : ℕ → ℕ → Option ℕ). z k p) (sym h.0.told'.0) ∙ e)

      after_with : (c' d' : Core) (p q : ℕ → ℕ → Option ℕ) → Done c' d' → ((k o : ℕ) → Below (p k o) (q k o)) →
          After c d (record c' { pairs = p }) (record d' { pairs = q })
      after_with c' d' p q h under = record {
        world = record {
          entry = h.0.world.entry;
          area = h.0.world.area;
          objects = h.0.world.objects;
          symbols = h.0.world.symbols;
          memory = h.0.world.memory;
          script = h.0.world.script;
          events = h.0.world.events;
        };
        regs = h.0.regs;
        slots_alike = h.0.slots_alike;
        homes_stay = h.0.homes_stay;
        regs_stay = h.0.regs_stay;
        set = h.0.set;
        written = h.1;
        pairs = under;
        marks = λ v x e. ap (assigned v) h.0.told.1 ∙ near.marks v x (ap (assigned v) (sym h.0.told'.1) ∙ e);
      }

      -- what a defining operand gives in each
      given_in : (c' d' : Core) → Done c' d' → (call : Bool) → is_call row ≡ call → (k p : ℕ) →
          Below (given false (defined call (slice_get i.operands p)) (c'.pairs k p) c')
          (given false (defined call (slice_get now.operands p)) (d'.pairs k p) d')
      given_in c' d' h false e k p =
          subst (λ (x : Option ℕ). Below (given false (defined false (slice_get i.operands p)) (c'.pairs k p) c') (given false x (d'.pairs k p) d'))
          (sym (renamed_at s slots homes i o fits held u i.operands p))
          (given_under s slots homes i o fits held u (defined false (slice_get i.operands p)) c' d' (c'.pairs k p) (d'.pairs k p)
          (old_pairs c' d' h k p) (λ r z. by_implicit (has_implicit_uses row) refl r (defined_in i.operands p r z))) where
            by_implicit : (b : Bool) → has_implicit_uses row ≡ b → (r : ℕ) → Contains (defs_in i.operands) r →
                Below (seen false r c') (seen false (def_now s r) d')
            by_implicit true z r j = absurd (none_in r (subst (λ (xs : List ℕ). Contains xs r) (explained.implicit_none z) j))
            by_implicit false z r j =
                seen_under s slots homes i o fits held u r (def_now s r) c' d' (two_stays s slots homes i o fits held u r)
                (h.0.set z r (subst (λ (xs : List ℕ). Contains xs r) (sym (explained.sets_defs z)) j))
      given_in c' d' h true e k p =
          let none = explained.implicit_none (call_implicit row e) in
          subst (λ (x : Option ℕ). Below (given false (defined true (slice_get i.operands p)) (c'.pairs k p) c') (given false x (d'.pairs k p) d'))
          (sym (call_at s slots homes i o fits held u i.operands p none))
          (call_under s slots homes i o fits held u (defined true (slice_get i.operands p)) c' d' (c'.pairs k p) (d'.pairs k p)
          (old_pairs c' d' h k p) (λ r z. seen_under s slots homes i o fits held u r r c' d' (λ w. w)
          (h.0.regs r (fits.implicits (call_implicit row e) r (call_defines s slots homes i o fits held u i.operands p r none z)))))

      updated_under : (n : ℕ) (a b : ℕ → Option ℕ) (p q : ℕ → ℕ → Option ℕ) → ((o : ℕ) → Below (a o) (b o)) → ((m o : ℕ) → Below (p m o) (q m o)) →
          (m o : ℕ) → Below (updated n a p m o) (updated n b q m o)
      updated_under n a b p q x y m o = by_test (nat_eq m n) where
        by_test : (z : Bool) → Below (cond z a (p m) o) (cond z b (q m) o)
        by_test true = x o
        by_test false = y m o

      numbered_after : (n : Option ℕ) (c' d' : Core) → Done c' d' →
          After c d (numbered false (is_call row) n i.operands c') (numbered false (is_call row) n now.operands d')
      numbered_after None c' d' h = after_with c' d' c'.pairs d'.pairs h (old_pairs c' d' h)
      numbered_after (Some n) c' d' h =
          after_with c' d' _ _ h (updated_under n (λ p. given false (defined (is_call row) (slice_get i.operands p)) (c'.pairs n p) c')
          (λ p. given false (defined (is_call row) (slice_get now.operands p)) (d'.pairs n p) d') c'.pairs d'.pairs
          (λ p. given_in c' d' h (is_call row) refl n p) (old_pairs c' d' h))

      -- code beside code with its scratch registers loaded
      pub code_after : (f g : Program) → f.sees_pointer ≡ false → g.sees_pointer ≡ false → (n : Option ℕ) → Loaded s slots homes i o fits held u c d →
          EndAlike (After c d) (do_item f (Code i n) c) (do_item g (Code now n) d)
      code_after f g sf sg n loaded =
          subst (λ (b : Bool). EndAlike (After c d) (with_core (numbered b (is_call row) n i.operands) (act row c)) (do_item g (Code now n) d)) (sym sf)
          (subst (λ (b : Bool). EndAlike (After c d) (with_core (numbered false (is_call row) n i.operands) (act row c))
          (with_core (numbered b (is_call (row_of now)) n now.operands) (act (row_of now) d))) (sym sg)
          (subst (λ (r : Row). EndAlike (After c d) (with_core (numbered false (is_call row) n i.operands) (act row c))
          (with_core (numbered false (is_call r) n now.operands) (act r d)))
          (sym (row_renamed (use_now s u) (def_now s) (keeps_zero s slots homes u) i))
          (subst (λ (b : Bool). EndAlike (After c d) (with_core (numbered false (is_call row) n i.operands) (act row c))
          (with_core (numbered false b n now.operands) (act row' d))) (sym (call_is (use_now s u) (def_now s) row))
          (alike_with Done (After c d) (numbered false (is_call row) n i.operands) (numbered false (is_call row) n now.operands)
          (numbered_after n) (act row c) (act row' d)
          (with_written (act row c) (act row' d) (acted s slots homes i o fits held u Alive Owed c d near loaded) (λ z. act_written row c z)))))) where
            row' : Row
            row' = renamed_row (use_now s u) (def_now s) row

            with_written : (x y : Outcome) → EndAlike (Acted s slots homes i o fits held u c d) x y → (has_implicit_uses row ≡ false → OnCore (AreSet row) x) →
                EndAlike Done x y
            with_written (Falls e) (Falls e') h w = (h, w)
            with_written (Goes m e) (Goes k e') h w = (h.0, (h.1, w))
            with_written (Gives v) (Gives w') h w = h
            with_written Traps Traps h w = tt
            with_written Asks Asks h w = tt
            with_written Breaks Breaks h w = tt
            with_written _ _ h w = absurd h

  -- ---- from one relation to another

  -- another position, and other registers that are owed
  pub near_on : (Alive Owed Alive' Owed' : ℕ → Type 0) (c d : Core) → Near s slots Alive Owed c d →
      ((r n : ℕ) → slot_of s.homes r ≡ Some n → (Owed' r → ⊥) → (Owed r → ⊥) × (Alive' r → Alive r)) → Near s slots Alive' Owed' c d
  near_on Alive Owed Alive' Owed' c d near on = record {
    world = near.world;
    regs = near.regs;
    slots_alike = near.slots_alike;
    under = λ r n e out. near.under r n e (on r n e out).0;
    alive = λ r n e out live. near.alive r n e (on r n e out).0 ((on r n e out).1 live);
    pairs = near.pairs;
    marks = near.marks;
  }

  -- behind code: what it sets is owed
  pub after_near : (i : Instruction) (o : Origin) (fits : FitsCode s i o) (held : SlotsIn slots (Code i None)) (u : Option ℕ) (Alive Alive' : ℕ → Type 0)
      (c d c' d' : Core) → Near s slots Alive (λ _. ⊥) c d → After i o fits held u c d c' d' →
      ((r n : ℕ) → slot_of s.homes r ≡ Some n → (Contains (sets (row_of i)) r → ⊥) → Alive' r → Alive r) →
      Near s slots Alive' (λ r. Contains (sets (row_of i)) r) c' d'
  after_near i o fits held u Alive Alive' c d c' d' near after on = record {
    world = after.world;
    regs = after.regs;
    slots_alike = after.slots_alike;
    under = λ r n e out v k. after.regs_stay r out ∙ near.under r n e (λ z. z) v (sym (after.homes_stay r n e) ∙ k);
    alive = λ r n e out live. after.homes_stay r n e ∙ near.alive r n e (λ z. z) (on r n e out live) ∙ sym (after.regs_stay r out);
    pairs = after.pairs;
    marks = after.marks;
  }

  -- a scratch register is loaded
  pub near_load : (Alive Owed : ℕ → Type 0) (r v : ℕ) (c d : Core) → ((q : ℕ) → IsUntouched s q → q ≡ r → ⊥) → Near s slots Alive Owed c d →
      Near s slots Alive Owed c (set_register r v d)
  near_load Alive Owed r v c d scratch near = record {
    world = record {
      entry = near.world.entry;
      area = near.world.area;
      objects = near.world.objects;
      symbols = near.world.symbols;
      memory = near.world.memory;
      script = near.world.script;
      events = near.world.events;
    };
    regs = λ q h. near.regs q h ∙ sym (put_other r q v d.regs (scratch q h));
    slots_alike = near.slots_alike;
    under = near.under;
    alive = near.alive;
    pairs = near.pairs;
    marks = near.marks;
  }

  -- a register's content is stored in its slot
  pub near_store : (Alive Owed Owed' : ℕ → Type 0) (r n v : ℕ) (c d : Core) → slot_of s.homes r ≡ Some n → content c.regs r ≡ Some v →
      ((q : ℕ) → (Owed' q → ⊥) → (q ≡ r → ⊥) → Owed q → ⊥) → Near s slots Alive Owed c d →
      Near s slots Alive Owed' c (record d { slots = updated n (Some v) d.slots })
  near_store Alive Owed Owed' r n v c d home is owes near = record {
    world = record {
      entry = near.world.entry;
      area = near.world.area;
      objects = near.world.objects;
      symbols = near.world.symbols;
      memory = near.world.memory;
      script = near.world.script;
      events = near.world.events;
    };
    regs = near.regs;
    slots_alike = λ m k. near.slots_alike m k ∙ sym (updated_other n m (Some v) d.slots (λ e. homes.fresh r n home (subst (λ (x : ℕ). Contains slots x) e k)));
    under = λ q m e out w k. elim (cases_eq q r) as (λ _. content c.regs q ≡ Some w) [
      | inl same ↦ ap (content c.regs) same ∙ is ∙ sym (here q m e same) ∙ k
      | inr ne ↦ near.under q m e (owes q out ne) w (sym (there q m e ne) ∙ k)
    ];
    alive = λ q m e out live. elim (cases_eq q r) as (λ _. updated n (Some v) d.slots m ≡ content c.regs q) [
      | inl same ↦ here q m e same ∙ sym is ∙ sym (ap (content c.regs) same)
      | inr ne ↦ there q m e ne ∙ near.alive q m e (owes q out ne) live
    ];
    pairs = near.pairs;
    marks = near.marks;
  } where
    here : (q m : ℕ) → slot_of s.homes q ≡ Some m → q ≡ r → updated n (Some v) d.slots m ≡ Some v
    here q m e same =
        let w : Some m ≡ Some n = sym e ∙ ap (slot_of s.homes) same ∙ home in
        let mn : m ≡ n = cc in
        ap (updated n (Some v) d.slots) mn ∙ updated_same n (Some v) d.slots

    there : (q m : ℕ) → slot_of s.homes q ≡ Some m → (q ≡ r → ⊥) → updated n (Some v) d.slots m ≡ d.slots m
    there q m e ne = updated_other n m (Some v) d.slots (λ mn. ne (homes.own q r n (e ∙ ap Some mn) home))

  -- ---- what loads and stores do

  pub load_does : (g : Program) (r n v : ℕ) (d : Core) → d.slots n ≡ Some v → do_item g (Code (load r n) None) d ≡ Falls (set_register r v d)
  load_does g r n v d e = unfold act in unfold does in ap (λ (x : Option ℕ). with_core (λ z. z) (slot_loaded r d x)) e

  pub load_traps : (g : Program) (r n : ℕ) (d : Core) → d.slots n ≡ None → do_item g (Code (load r n) None) d ≡ Traps
  load_traps g r n d e = unfold act in unfold does in ap (λ (x : Option ℕ). with_core (λ z. z) (slot_loaded r d x)) e

  pub store_does : (g : Program) (r n v : ℕ) (d : Core) → content d.regs r ≡ Some v →
      do_item g (Code (store r n) None) d ≡ Falls (record d { slots = updated n (Some v) d.slots })
  store_does g r n v d e = unfold act in unfold does in
      ap (λ (x : Option ℕ). with_core (λ z. z) (cond (is_some x && true) (Falls (record d { slots = updated n (Some (or_zero x)) d.slots })) Traps)) e

  -- ---- scratch registers that are loaded

  abbrev pub LoadedFirst : Instruction → Core → Core → Type 0
  LoadedFirst i c d = (r n : ℕ) → first_used s.homes i.operands ≡ Some n → slot_of s.homes r ≡ Some n → content c.regs r ≡ content d.regs s.first

  abbrev pub LoadedSecond : Instruction → Core → Core → Type 0
  LoadedSecond i c d = (r m n : ℕ) → first_used s.homes i.operands ≡ Some m → other_used s.homes m i.operands ≡ Some n → slot_of s.homes r ≡ Some n →
      content c.regs r ≡ content d.regs s.second

  pub loaded_of : (i : Instruction) (o : Origin) (fits : FitsCode s i o) (held : SlotsIn slots (Code i None)) (Alive Owed : ℕ → Type 0) (c d : Core) →
      Near s slots Alive Owed c d → LoadedFirst i c d → LoadedSecond i c d → Loaded s slots homes i o fits held (first_used s.homes i.operands) c d
  loaded_of i o fits held Alive Owed c d near first second q k =
      elim (cases_eq q 0) as (λ _. content c.regs q ≡ content d.regs (use_now s (first_used s.homes i.operands) q)) [
        | inl none ↦
            ap (content c.regs) none ∙ ap (content d.regs) (sym (ap (use_now s (first_used s.homes i.operands)) none
            ∙ (keeps_zero s slots homes (first_used s.homes i.operands)).zero_stays))
        | inr some ↦ by_slot some (slot_of s.homes q) refl
      ] where
        used : (q ≡ 0 → ⊥) → Contains (uses_in i.operands) q
        used some = (explicit i fits.form).explicit_used q k some

        by_found : (n : ℕ) → slot_of s.homes q ≡ Some n → (first_of s.homes (uses_in i.operands) ≡ Some n) ⊎
            ((m : ℕ) × (first_of s.homes (uses_in i.operands) ≡ Some m) × (m ≡ n → ⊥) × (other_of s.homes m (uses_in i.operands) ≡ Some n)) →
            content c.regs q ≡ content d.regs (stand_in s (first_used s.homes i.operands) q (Some n))
        by_found n e (inl at) =
            let is : first_used s.homes i.operands ≡ Some n = used_is s.homes i.operands ∙ at in
            first q n is e ∙ ap (content d.regs) (sym (ap (λ (x : Option ℕ). cond (names_slot x n) s.first s.second) is ∙
            ap (λ (b : Bool). cond b s.first s.second) (eq-eqb n n refl)))
        by_found n e (inr (m, at, ne, other)) =
            let is : first_used s.homes i.operands ≡ Some m = used_is s.homes i.operands ∙ at in
            second q m n is (other_is s.homes m i.operands ∙ other) e ∙ ap (content d.regs)
            (sym (ap (λ (x : Option ℕ). cond (names_slot x n) s.first s.second) is ∙
            ap (λ (b : Bool). cond b s.first s.second) (ne_eqb m n ne)))

        by_slot : (q ≡ 0 → ⊥) → (x : Option ℕ) → slot_of s.homes q ≡ x → content c.regs q ≡ content d.regs (use_now s (first_used s.homes i.operands) q)
        by_slot some None e = near.regs q (e, fits.uses q (used some)) ∙ ap (content d.regs) (sym (ap (stand_in s (first_used s.homes i.operands) q) e))
        by_slot some (Some n) e =
            by_found n e (found_of s.homes (uses_in i.operands) (explicit i fits.form).few q n (used some) e) ∙
            ap (content d.regs) (sym (ap (stand_in s (first_used s.homes i.operands) q) e))

  -- ---- debug items

  -- pairs and marks that are new
  near_told : (Alive Owed : ℕ → Type 0) (c d : Core) (p q : ℕ → ℕ → Option ℕ) (l m : List (VarId × Option ℕ)) → Near s slots Alive Owed c d →
      ((k o : ℕ) → Below (p k o) (q k o)) → ((v : VarId) → Below (assigned v l) (assigned v m)) →
      Near s slots Alive Owed (record c { pairs = p; marks = l }) (record d { pairs = q; marks = m })
  near_told Alive Owed c d p q l m near pairs marks = record {
    world = record {
      entry = near.world.entry;
      area = near.world.area;
      objects = near.world.objects;
      symbols = near.world.symbols;
      memory = near.world.memory;
      script = near.world.script;
      events = near.world.events;
    };
    regs = near.regs;
    slots_alike = near.slots_alike;
    under = near.under;
    alive = near.alive;
    pairs = pairs;
    marks = marks;
  }

  mark_under : (v : VarId) (a b : Option ℕ) (p q : List (VarId × Option ℕ)) → Below a b → ((w : VarId) → Below (assigned w p) (assigned w q)) → (w : VarId) →
      Below (assigned w ((v, a) ∷ p)) (assigned w ((v, b) ∷ q))
  mark_under v a b p q x y w = by_test (is_same w v) (overlaps w v) where
    by_test : (same over : Bool) → Below (cond same a (cond over None (assigned w p))) (cond same b (cond over None (assigned w q)))
    by_test true over n e = x n e
    by_test false true n e = cc
    by_test false false n e = y w n e

  pair_under : (k : ℕ) (a b : Option ℕ) (p q : ℕ → ℕ → Option ℕ) → Below a b → ((m o : ℕ) → Below (p m o) (q m o)) → (m o : ℕ) →
      Below (updated k (updated 0 a (p k)) p m o) (updated k (updated 0 b (q k)) q m o)
  pair_under k a b p q x y m o = by_test (nat_eq m k) where
    by_operand : (z : Bool) → Below (cond z a (p k o)) (cond z b (q k o))
    by_operand true = x
    by_operand false = y k o

    by_test : (z : Bool) → Below (cond z (updated 0 a (p k)) (p m) o) (cond z (updated 0 b (q k)) (q m) o)
    by_test true = by_operand (nat_eq o 0)
    by_test false = y m o

  part_under : (w : VarId) (a b : Option ℕ) → Below a b → Below (part_of w a) (part_of w b)
  part_under w a None k v e = cc
  part_under w a (Some x) k v e = ap (part_of w) (k x refl) ∙ e

  seen_alike : (r : ℕ) (c d : Core) → content c.regs r ≡ content d.regs r → Below (seen false r c) (seen false r d)
  seen_alike r c d e v k = ap (λ (x : Option ℕ). cond (nat_eq r 2) None x) e ∙ k

  -- a debug item, of slots for spilled registers
  abbrev pub debug_now : ItemKind → ItemKind
  debug_now (Code i k) = Code i k
  debug_now (Mark v m) = Mark v m
  debug_now (Phi p k) = Phi (spilled_place s.homes p) k

  place_under : (Alive : ℕ → Type 0) (p : Option Place) (k : ℕ) (o : Origin) (c d : Core) → Near s slots Alive (λ _. ⊥) c d → Fits s (Phi p k) o →
      PlaceIn slots p → Below (place_value p c) (place_value (spilled_place s.homes p) d)
  place_under Alive None k o c d near fits held v e = cc
  place_under Alive (Some (Register r)) k o c d near fits held w z = by_slot (slot_of s.homes r) refl w z where
    full : (n v : ℕ) → slot_of s.homes r ≡ Some n → content c.regs r ≡ Some v → seen false r c ≡ Some v
    full n v e is = elim (cases_eq r 2) as (λ _. seen false r c ≡ Some v) [
      | inl two ↦ (let bad : None ≡ Some n = sym homes.no_pointer ∙ ap (slot_of s.homes) (sym two) ∙ e in cc)
      | inr ne ↦ ap (λ (t : Bool). cond t None (content c.regs r)) (ne_eqb r 2 ne) ∙ is
    ]

    by_slot : (x : Option ℕ) → slot_of s.homes r ≡ x → Below (seen false r c) (place_value (Some (place_in r x)) d)
    by_slot None e v k = seen_alike r c d (near.regs r (e, fits)) v k
    by_slot (Some n) e v k = full n v e (near.under r n e (λ z. z) v k)
  place_under Alive (Some (Slot n)) k o c d near fits held v e = near.slots_alike n held ∙ e
  place_under Alive (Some (Const z)) k o c d near fits held v e = e

  module _ (f g : Program) (sf : f.sees_pointer ≡ false) (sg : g.sees_pointer ≡ false) (same : (q : OperandPair) → g.resolve q ≡ f.resolve q) where
    value_under : (Alive : ℕ → Type 0) (v : VarId) (m : MarkValue) (o : Origin) (c d : Core) → Near s slots Alive (λ _. ⊥) c d → Fits s (Mark v m) o →
        Below (mark_value f m c) (mark_value g m d)
    value_under Alive v Nothing o c d near fits w e = cc
    value_under Alive v (Constant n) o c d near fits w e = e
    value_under Alive v (At r) o c d near fits w e = seen_at w e where
      seen_at : Below (seen f.sees_pointer r c) (seen g.sees_pointer r d)
      seen_at =
          subst (λ (b : Bool). Below (seen b r c) (seen g.sees_pointer r d)) (sym sf)
          (subst (λ (b : Bool). Below (seen false r c) (seen b r d)) (sym sg) (seen_alike r c d (near.regs r fits)))
    value_under Alive v (Pair q) o c d near fits w e =
        subst (λ (x : Option OperandPair). Below (pair_value (f.resolve q) c) (pair_value x d)) (sym (same q)) (by_pair (f.resolve q)) w e where
          by_pair : (x : Option OperandPair) → Below (pair_value x c) (pair_value x d)
          by_pair None w e = cc
          by_pair (Some p) w e = near.pairs p.number p.operand w e

    pub debug_near : (Alive : ℕ → Type 0) (k : ItemKind) (o : Origin) (c d : Core) → is_code k ≡ false → Near s slots Alive (λ _. ⊥) c d → Fits s k o →
        SlotsIn slots k →
        (e e' : Core) × (do_item f k c ≡ Falls e) × (do_item g (debug_now k) d ≡ Falls e') × Near s slots Alive (λ _. ⊥) e e'
    debug_near Alive (Code i n) o c d z near fits held = cc
    debug_near Alive (Mark v m) o c d z near fits held = (
      _,
      _,
      refl,
      refl,
      near_told Alive (λ _. ⊥) c d c.pairs d.pairs _ _ near near.pairs
          (mark_under v (part_of v (mark_value f m c)) (part_of v (mark_value g m d)) c.marks d.marks
          (part_under v (mark_value f m c) (mark_value g m d) (value_under Alive v m o c d near fits)) near.marks),
    )
    debug_near Alive (Phi p k) o c d z near fits held = (
      _,
      _,
      refl,
      refl,
      near_told Alive (λ _. ⊥) c d _ _ c.marks d.marks near
          (pair_under k (place_value p c) (place_value (spilled_place s.homes p) d) c.pairs d.pairs (place_under Alive p k o c d near fits held) near.pairs)
          near.marks,
    )
