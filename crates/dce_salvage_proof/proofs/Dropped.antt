-- Code loses its number, and nothing gives it any more: how the two runs are related.
use Rattle.std.proofs.Common.{◌≡◌, ◌⊎◌, inl, inr, ℕ, zero, suc, Option, Some, None, false, sym, ap, ◌∙◌}
use Rattle.std.proofs.lemmas.Bool.{cases_eq}
use Rattle.rv64_instr.specs.Instruction.{Instruction}
use Rattle.rv64_instr.specs.Row.{row_of}
use Rattle.rv64_instr.specs.LocationEffects.{is_call}
use Rattle.mir_func.specs.declared.debug_substitution.OperandPair.{OperandPair}
use Rattle.mir_func.specs.declared.item.Item.{Item}
use Rattle.mir_func.specs.declared.item.ItemKind.{ItemKind}
use Rattle.mir_func.specs.declared.item.ItemKind.TheVariants.{Code, Mark, Phi}
use Rattle.mir_func.specs.declared.variable.MarkValue.TheVariants.{Nothing, Constant, At, Pair}
use Rattle.mir_func.specs.Graph.{Program}
use Rattle.sem_mir.specs.State.{Core, updated}
use Rattle.sem_mir.specs.Step.{numbered, given, defined, pair_value, do_item}
use Rattle.sem_mir.specs.Effects.{EndAlike, FallsInto}
use Rattle.sem_mir.specs.Align.{is_code}
use Rattle.sem_mir.proofs.Outcomes.{alike_weaker}
use Rattle.sem_mir.proofs.Places.{updated_same, updated_other}
use Rattle.sem_simulation.specs.MatchStates.{OutcomesAlike}
use Rattle.sem_simulation.proofs.Outcomes.{alike_of}
use Rattle.sem_agreement.specs.Agreement.{AgreeOn, DebugLessDef, Alike, GenDefs, HeldAfter, NumbersHeld, Depends}
use Rattle.sem_agreement.proofs.Outcomes.{TellsAs, alike_both, code_alike, leaves_pair}
use Rattle.sem_agreement.proofs.Held.{held_fewer, held_itself, held_number, held_by, act_held}
use Rattle.sem_agreement.proofs.Told.{tells_itself, tells_of}
use Rattle.sem_agreement.proofs.Items.{item_both}
use Rattle.sem_agreement.proofs.Views.{shows_alike}
use Rattle.std.specs.Prelude.{slice_get}
use Rattle.pass_salvage.proofs.EditRuns.{Keeps}
use Rattle.pass_salvage.proofs.NumberOff.{Everywhere}
use Rattle.dce_salvage_proof.specs.Dropped.{IsUnlike, DropPair, elsewhere, drops, DropPut, puts, drop_edits}

-- where code loses number k. Pairs resolve alike in both
module _ (f g : Program) (blind_f : f.sees_pointer ≡ false) (blind_g : g.sees_pointer ≡ false) (resolves : (q : OperandPair) → g.resolve q ≡ f.resolve q)
    (k : ℕ) where
  abbrev NoneFree : ℕ → Type 0
  NoneFree m = ⊥

  -- the second knows nothing of the number
  pub record DropCores (c d : Core) : Type 0 where
    pub alike : Alike Everywhere NoneFree c d
    pub none : (p : ℕ) → d.pairs k p ≡ None

  all_numbers : (i : Instruction) (m : Option ℕ) → NumbersHeld Everywhere i m
  all_numbers i None = tt
  all_numbers i (Some m) = λ p r e. inr tt

  pair_same : (q : OperandPair) (c d : Core) → DebugLessDef NoneFree c d → (v : ℕ) → pair_value (g.resolve q) d ≡ Some v →
      pair_value (f.resolve q) c ≡ Some v
  pair_same q c d t v e = by_pair (f.resolve q) (ap (λ (x : Option OperandPair). pair_value x d) (sym (resolves q)) ∙ e) where
    by_pair : (x : Option OperandPair) → pair_value x d ≡ Some v → pair_value x c ≡ Some v
    by_pair None e = cc
    by_pair (Some r) e = t.pairs r.number r.operand (λ z. z) v e

  depends : (kind : ItemKind) (c d : Core) → DropCores c d → Depends f g Everywhere kind c d
  depends (Code i m) c d h = (λ x u. tt, all_numbers i m)
  depends (Mark v Nothing) c d h = tt
  depends (Mark v (Constant z)) c d h = tt
  depends (Mark v (At r)) c d h = tt
  depends (Mark v (Pair q)) c d h = pair_same q c d h.alike.told
  depends (Phi None m) c d h = tt
  depends (Phi (Some x) m) c d h = tt

  all_after : (kind : ItemKind) (c d : Core) → Alike (HeldAfter Everywhere kind) NoneFree c d → Alike Everywhere NoneFree c d
  all_after (Code i m) c d h = record { held = held_fewer (GenDefs Everywhere i) Everywhere (λ x u. inr tt) c d h.held; told = h.told }
  all_after (Mark v m) c d h = h
  all_after (Phi p m) c d h = h

  both_elsewhere : (kind : ItemKind) (c d : Core) → IsUnlike k kind → DropCores c d → EndAlike DropCores (do_item f kind c) (do_item g kind d)
  both_elsewhere kind c d other h =
      alike_weaker _ DropCores by_core (do_item f kind c) (do_item g kind d)
      (alike_both (Alike (HeldAfter Everywhere kind) NoneFree) (λ e. e.pairs k ≡ c.pairs k) (λ e. e.pairs k ≡ d.pairs k)
      (do_item f kind c) (do_item g kind d) (item_both Everywhere NoneFree f g kind c d (blind_f ∙ sym blind_g) h.alike (depends kind c d h))
      (leaves_pair f kind k c other) (leaves_pair g kind k d other)) where
        by_core : (c' d' : Core) → Alike (HeldAfter Everywhere kind) NoneFree c' d' × (c'.pairs k ≡ c.pairs k) × (d'.pairs k ≡ d.pairs k) → DropCores c' d'
        by_core c' d' r = record { alike = all_after kind c' d' r.0; none = λ p. ap (λ (z : ℕ → Option ℕ). z p) r.2 ∙ h.none p }

  unknown : (x : Option ℕ) (v : ℕ) (P : Type 0) → x ≡ None → x ≡ Some v → P
  unknown x v P n e = let bad : ◌≡◌ {A = Option ℕ} None (Some v) = sym n ∙ e in absurd cc

  -- the phi
  put_phi : (c d : Core) → DropCores c d → FallsInto (λ e. DropCores c e) (do_item g (Phi None k) d)
  put_phi c d h =
      let value : ℕ → Option ℕ = updated 0 None (d.pairs k) in
      let none : (p : ℕ) → updated k value d.pairs k p ≡ None = λ p. ap (λ (z : ℕ → Option ℕ). z p) (updated_same k value d.pairs) ∙ at_operand p in
      record {
        alike = record {
          held = held_by Everywhere c d c.pairs (updated k value d.pairs) c.marks d.marks h.alike.held;
          told = record {
            pairs = λ m p no v e. by_number value none m p v e (cases_eq m k);
            marks = h.alike.told.marks;
          };
        };
        none = none;
      } where
        at_operand : (p : ℕ) → updated 0 None (d.pairs k) p ≡ None
        at_operand zero = updated_same 0 None (d.pairs k)
        at_operand (suc p) = updated_other 0 (suc p) None (d.pairs k) (λ e. cc) ∙ h.none (suc p)

        by_number : (value : ℕ → Option ℕ) → ((p : ℕ) → updated k value d.pairs k p ≡ None) → (m p v : ℕ) → updated k value d.pairs m p ≡ Some v →
            (m ≡ k) ⊎ (m ≡ k → ⊥) → c.pairs m p ≡ Some v
        by_number value none m p v e (inl is) = unknown _ v _ (none p) (ap (λ (z : ℕ). updated k value d.pairs z p) (sym is) ∙ e)
        by_number value none m p v e (inr ne) =
            h.alike.told.pairs m p (λ z. z) v (ap (λ (z : ℕ → Option ℕ). z p) (sym (updated_other k m value d.pairs ne)) ∙ e)

  -- the code
  drop_number : (i : Instruction) (c d : Core) → DropCores c d → EndAlike DropCores (do_item f (Code i (Some k)) c) (do_item g (Code i None) d)
  drop_number i c d h =
      code_alike f g i i (Some k) None c d (AgreeOn (GenDefs Everywhere i)) DropCores (act_held Everywhere i c d h.alike.held (λ x u. tt)) by_core where
        by_core : (c' d' : Core) → AgreeOn (GenDefs Everywhere i) c' d' → TellsAs c c' → TellsAs d d' →
            DropCores (numbered f.sees_pointer (is_call (row_of i)) (Some k) i.operands c') (numbered g.sees_pointer (is_call (row_of i)) None i.operands d')
        by_core c' d' r same same' =
            let value : ℕ → Option ℕ = λ p. given f.sees_pointer (defined (is_call (row_of i)) (slice_get i.operands p)) (c'.pairs k p) c' in
            let after : DebugLessDef NoneFree c' d' = tells_of NoneFree c d c' d' same same' h.alike.told in
            let none : (p : ℕ) → d'.pairs k p ≡ None = λ p. ap (λ (z : ℕ → ℕ → Option ℕ). z k p) same'.0 ∙ h.none p in
            record {
              alike = record {
                held = held_number Everywhere f.sees_pointer g.sees_pointer (is_call (row_of i)) (is_call (row_of i)) (Some k) None i.operands i.operands c' d'
                    (held_fewer (GenDefs Everywhere i) Everywhere (λ x u. inr tt) c' d' r);
                told = record {
                  pairs = λ m p no v e. by_number value after none m p v e (cases_eq m k);
                  marks = after.marks;
                };
              };
              none = none;
            } where
              by_number : (value : ℕ → Option ℕ) → DebugLessDef NoneFree c' d' → ((p : ℕ) → d'.pairs k p ≡ None) → (m p v : ℕ) → d'.pairs m p ≡ Some v →
                  (m ≡ k) ⊎ (m ≡ k → ⊥) → updated k value c'.pairs m p ≡ Some v
              by_number value after none m p v e (inl is) = unknown _ v _ (none p) (ap (λ (z : ℕ). d'.pairs z p) (sym is) ∙ e)
              by_number value after none m p v e (inr ne) =
                  ap (λ (z : ℕ → Option ℕ). z p) (updated_other k m value c'.pairs ne) ∙ after.pairs m p (λ z. z) v e

  drop_code : (x y : Item) → DropPair k x y → (c d : Core) → DropCores c d → OutcomesAlike DropCores (λ t. DropCores) (do_item f x.kind c) (do_item g y.kind d)
  drop_code x y (elsewhere other) c d h =
      alike_of DropCores (λ t. DropCores) DropCores (do_item f x.kind c) (do_item g x.kind d) (λ e e' r. r) (λ t e e' go r. r)
      (both_elsewhere x.kind c d other h)
  drop_code x y (drops {i} {p} {l}) c d h =
      alike_of DropCores (λ t. DropCores) DropCores (do_item f (Code i (Some k)) c) (do_item g (Code i None) d) (λ e e' r. r) (λ t e e' go r. r)
      (drop_number i c d h)

  drop_debug : (x y : Item) → DropPair k x y → is_code x.kind ≡ false → (c d : Core) → DropCores c d → EndAlike DropCores (do_item f x.kind c)
      (do_item g y.kind d)
  drop_debug x y (elsewhere other) none c d h = both_elsewhere x.kind c d other h
  drop_debug x y drops none c d h = cc

  drop_puts : (y : Item) → DropPut k y → (c d : Core) → DropCores c d → FallsInto (λ e. DropCores c e) (do_item g y.kind d)
  drop_puts y puts c d h = put_phi c d h

  pub drop_keeps : Keeps (drop_edits k) (λ a. DropCores) f g
  drop_keeps = record {
    code = λ a b x y how code code' c d h. drop_code x y how c d h;
    debug = λ a b x y how none none' c d h. drop_debug x y how none c d h;
    out_code = λ a b x h. absurd h;
    out_stays = λ a b x h. absurd h;
    outs = λ a b x h. absurd h;
    puts = λ a b y how c d h. drop_puts y how c d h;
    ends = λ a t c d done h. h;
    shows = λ a c d h. shows_alike Everywhere NoneFree c d h.alike;
  }

  pub drop_itself : (c : Core) → ((m p : ℕ) → c.pairs m p ≡ None) → DropCores c c
  drop_itself c none = record {
    alike = record { held = held_itself Everywhere c; told = tells_itself NoneFree c };
    none = λ p. none k p;
  }
