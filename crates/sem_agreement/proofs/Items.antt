-- What items do to two runs that are alike.
use Rattle.std.proofs.Common.{◌≡◌, ℕ, Option, Some, None, Bool, true, false, cond, nat_eq, slice_get, refl, ap, ◌∙◌, subst}
use Rattle.sem_simulation.specs.rv64_instr.declared.place.Place.{Place}
use Rattle.sem_simulation.specs.rv64_instr.declared.place.Place.TheVariants.{Register, Slot, Const}
use Rattle.sem_simulation.specs.rv64_instr.Instruction.{Instruction}
use Rattle.sem_simulation.specs.rv64_instr.Row.{row_of}
use Rattle.sem_simulation.specs.rv64_instr.LocationEffects.{is_pure, is_call, uses_of}
use Rattle.sem_simulation.specs.mir_func.declared.variable.VarId.{VarId}
use Rattle.sem_simulation.specs.mir_func.declared.variable.MarkValue.{MarkValue}
use Rattle.sem_simulation.specs.mir_func.declared.variable.MarkValue.TheVariants.{Nothing, Constant, At, Pair}
use Rattle.sem_simulation.specs.mir_func.declared.item.ItemKind.{ItemKind}
use Rattle.sem_simulation.specs.mir_func.declared.item.ItemKind.TheVariants.{Code, Mark, Phi}
use Rattle.sem_simulation.specs.mir_func.Graph.{Program}
use Rattle.sem_simulation.specs.sem_mir.State.{Core, updated}
use Rattle.sem_simulation.specs.sem_mir.Step.{act, numbered, seen, defined, place_value, mark_value, part_of, do_item}
use Rattle.sem_simulation.specs.sem_mir.Effects.{held_in, EndAlike, FallsInto}
use Rattle.sem_mir.proofs.Told.{Below}
use Rattle.sem_agreement.specs.Agreement.{AgreeOn, DebugLessDef, Alike, GenDefs, KillDefs, HeldAfter, NumbersHeld, ValueHeld, PlaceHeld, Depends}
use Rattle.sem_agreement.specs.Laws.{ItemsAreAlike}
use Rattle.sem_agreement.proofs.Outcomes.{TellsAs, code_alike, falls_with}
use Rattle.sem_agreement.proofs.Held.{held_by, held_number, act_held, act_first, act_second}
use Rattle.sem_agreement.proofs.Told.{tells_of, pairs_both, pairs_second, marks_both, marks_second, part_less, seen_held, numbers_both, numbers_first}
use Rattle.sem_agreement.proofs.Told.{numbers_second}

module _ (Held : Place → Type 0) (Free : ℕ → Type 0) where
  -- ---- code

  -- the registers that a number sees
  numbers_seen : (i : Instruction) (n : Option ℕ) → NumbersHeld Held i n → (c d : Core) → AgreeOn (GenDefs Held i) c d → (k o r : ℕ) → n ≡ Some k →
      defined (is_call (row_of i)) (slice_get i.operands o) ≡ Some r → held_in (Register r) c ≡ held_in (Register r) d
  numbers_seen i None has c d h k o r e at = cc
  numbers_seen i (Some m) has c d h k o r e at = h.places (Register r) (has o r at)

  -- code of both
  pub code_both : (f g : Program) (i : Instruction) (n : Option ℕ) (c d : Core) → f.sees_pointer ≡ g.sees_pointer → Alike Held Free c d →
      ((x : Place) → uses_of i x ≡ true → Held x) → NumbersHeld Held i n →
      EndAlike (Alike (GenDefs Held i) Free) (do_item f (Code i n) c) (do_item g (Code i n) d)
  code_both f g i n c d sees h uses numbers =
      code_alike f g i i n n c d (AgreeOn (GenDefs Held i)) (Alike (GenDefs Held i) Free) (act_held Held i c d h.held uses)
      (λ c' d' r same same'. record {
        held = held_number (GenDefs Held i) f.sees_pointer g.sees_pointer (is_call (row_of i)) (is_call (row_of i)) n n i.operands i.operands c' d' r;
        told = subst (λ (sp : Bool). DebugLessDef Free (numbered f.sees_pointer (is_call (row_of i)) n i.operands c')
            (numbered sp (is_call (row_of i)) n i.operands d')) sees
            (numbers_both Free f.sees_pointer (is_call (row_of i)) n i.operands c' d' (tells_of Free c d c' d' same same' h.told)
            (numbers_seen i n numbers c' d' r));
      })

  -- pure code of the first alone, and of the second alone
  pub code_first : (f : Program) (i : Instruction) (n : Option ℕ) (c d : Core) → is_pure (row_of i) ≡ true → Alike Held Free c d →
      ((k : ℕ) → n ≡ Some k → (Free k → ⊥) → (o : ℕ) → d.pairs k o ≡ None) → FallsInto (λ e. Alike (KillDefs Held i) Free e d) (do_item f (Code i n) c)
  code_first f i n c d pure h none =
      falls_with (λ e. AgreeOn (KillDefs Held i) e d × TellsAs c e) (λ e. Alike (KillDefs Held i) Free e d)
      (numbered f.sees_pointer (is_call (row_of i)) n i.operands)
      (λ e r. record {
        held = held_number (KillDefs Held i) f.sees_pointer false (is_call (row_of i)) false n None i.operands i.operands e d r.0;
        told = numbers_first Free f.sees_pointer (is_call (row_of i)) n i.operands e d (tells_of Free c d e d r.1 (refl, refl) h.told) none;
      }) (act (row_of i) c) (act_first Held i c d pure h.held)

  pub code_second : (g : Program) (i : Instruction) (n : Option ℕ) (c d : Core) → is_pure (row_of i) ≡ true → Alike Held Free c d →
      ((k : ℕ) → n ≡ Some k → Free k) → FallsInto (λ e. Alike (KillDefs Held i) Free c e) (do_item g (Code i n) d)
  code_second g i n c d pure h free =
      falls_with (λ e. AgreeOn (KillDefs Held i) c e × TellsAs d e) (λ e. Alike (KillDefs Held i) Free c e)
      (numbered g.sees_pointer (is_call (row_of i)) n i.operands)
      (λ e r. record {
        held = held_number (KillDefs Held i) false g.sees_pointer false (is_call (row_of i)) None n i.operands i.operands c e r.0;
        told = numbers_second Free g.sees_pointer (is_call (row_of i)) n i.operands c e (tells_of Free c d c e (refl, refl) r.1 h.told) free;
      }) (act (row_of i) d) (act_second Held i c d pure h.held)

  -- ---- marks

  -- a mark of both, of values of which the second's is no more
  pub mark_both : (f g : Program) (v : VarId) (m m' : MarkValue) (c d : Core) → Alike Held Free c d → Below (mark_value f m c) (mark_value g m' d) →
      EndAlike (Alike Held Free) (do_item f (Mark v m) c) (do_item g (Mark v m') d)
  mark_both f g v m m' c d h below = record {
    held = held_by Held c d c.pairs d.pairs _ _ h.held;
    told = record {
      pairs = h.told.pairs;
      marks = marks_both Free c d h.told v (part_of v (mark_value f m c)) (part_of v (mark_value g m' d))
          (part_less v (mark_value f m c) (mark_value g m' d) below);
    };
  }

  -- a mark of the second alone that assigns nothing
  pub mark_second : (g : Program) (v : VarId) (c d : Core) → Alike Held Free c d → FallsInto (λ e. Alike Held Free c e) (do_item g (Mark v Nothing) d)
  mark_second g v c d h = record {
    held = held_by Held c d c.pairs d.pairs c.marks _ h.held;
    told = record { pairs = h.told.pairs; marks = marks_second Free c d h.told v };
  }

  pub value_less : (f g : Program) (m : MarkValue) (c d : Core) → f.sees_pointer ≡ g.sees_pointer → AgreeOn Held c d → ValueHeld f g Held m c d →
      Below (mark_value f m c) (mark_value g m d)
  value_less f g Nothing c d sees h has v e = e
  value_less f g (Constant z) c d sees h has v e = e
  value_less f g (At r) c d sees h has v e =
      seen_held f.sees_pointer r c d (h.places (Register r) has) ∙ ap (λ (sp : Bool). seen sp r d) sees ∙ e
  value_less f g (Pair q) c d sees h has v e = has v e

  -- ---- phis

  -- a phi of both, of places of which the second's gives no more
  pub phi_both : (f g : Program) (p p' : Option Place) (n : ℕ) (c d : Core) → Alike Held Free c d →
      ((Free n → ⊥) → Below (place_value p c) (place_value p' d)) →
      EndAlike (Alike Held Free) (do_item f (Phi p n) c) (do_item g (Phi p' n) d)
  phi_both f g p p' n c d h below = record {
    held = held_by Held c d _ _ c.marks d.marks h.held;
    told = record {
      pairs = pairs_both Free c d h.told n (updated 0 (place_value p c) (c.pairs n)) (updated 0 (place_value p' d) (d.pairs n))
          (λ o far. one_of (place_value p c) (place_value p' d) o (below far) (h.told.pairs n o far));
      marks = h.told.marks;
    };
  } where
    one_of : (a b : Option ℕ) (o : ℕ) → Below a b → Below (c.pairs n o) (d.pairs n o) → Below (updated 0 a (c.pairs n) o) (updated 0 b (d.pairs n) o)
    one_of a b o x y = by_test (nat_eq o 0) where
      by_test : (z : Bool) → Below (cond z a (c.pairs n o)) (cond z b (d.pairs n o))
      by_test true v e = x v e
      by_test false v e = y v e

  -- a phi of the second alone, of a free number
  pub phi_second : (g : Program) (p : Option Place) (n : ℕ) (c d : Core) → Free n → Alike Held Free c d →
      FallsInto (λ e. Alike Held Free c e) (do_item g (Phi p n) d)
  phi_second g p n c d free h = record {
    held = held_by Held c d c.pairs _ c.marks d.marks h.held;
    told = record { pairs = pairs_second Free c d h.told n _ (λ o far. absurd (far free)); marks = h.told.marks };
  }

  pub place_same : (p : Option Place) (c d : Core) → AgreeOn Held c d → PlaceHeld Held p → place_value p c ≡ place_value p d
  place_same None c d h has = refl
  place_same (Some (Register r)) c d h has = seen_held false r c d (h.places (Register r) has)
  place_same (Some (Slot n)) c d h has = h.places (Slot n) has
  place_same (Some (Const z)) c d h has = refl

  -- ---- all kinds

  -- an item of both
  pub item_both : (f g : Program) (k : ItemKind) (c d : Core) → f.sees_pointer ≡ g.sees_pointer → Alike Held Free c d → Depends f g Held k c d →
      EndAlike (Alike (HeldAfter Held k) Free) (do_item f k c) (do_item g k d)
  item_both f g (Code i n) c d sees h has = code_both f g i n c d sees h has.0 has.1
  item_both f g (Mark v m) c d sees h has = mark_both f g v m m c d h (value_less f g m c d sees h.held has)
  item_both f g (Phi p n) c d sees h has = phi_both f g p p n c d h (λ far v e. place_same p c d h.held has ∙ e)

  pub items_are_alike : ItemsAreAlike Held Free
  items_are_alike = record {
    both = item_both;
    silent_mark = λ f g v m c d h. mark_both f g v m Nothing c d h (λ x e. cc);
    silent_phi = λ f g p n c d h. phi_both f g p None n c d h (λ far v e. cc);
    alone = code_first;
    free_phi = phi_second;
  }
