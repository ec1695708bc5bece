-- A copy loses its number to a phi that is put before it: how the two runs are related.
use Rattle.std.proofs.Common.{◌≡◌, ◌⊎◌, inl, inr, ℕ, zero, suc, Option, Some, None, Bool, true, false, cond, slice_get, refl, sym, ap, ◌∙◌, ne_eqb}
use Rattle.std.proofs.lemmas.Bool.{cases_eq}
use Rattle.rv64_instr.specs.declared.operand.Operand.{Operand}
use Rattle.rv64_instr.specs.declared.operand.Operand.TheVariants.{Def}
use Rattle.rv64_instr.specs.declared.place.Place.TheVariants.{Register}
use Rattle.rv64_instr.specs.Instruction.{Instruction}
use Rattle.rv64_instr.specs.Row.{Moves, row_of}
use Rattle.rv64_instr.specs.LocationEffects.{is_call, set_by, moved_by}
use Rattle.mir_func.specs.declared.debug_substitution.OperandPair.{OperandPair}
use Rattle.mir_func.specs.declared.position.Origin.{Origin}
use Rattle.mir_func.specs.declared.location.Loc.{Loc}
use Rattle.mir_func.specs.declared.item.Item.{Item}
use Rattle.mir_func.specs.declared.item.ItemKind.{ItemKind}
use Rattle.mir_func.specs.declared.item.ItemKind.TheVariants.{Code, Mark, Phi}
use Rattle.mir_func.specs.declared.variable.MarkValue.TheVariants.{Nothing, Constant, At, Pair}
use Rattle.mir_func.specs.Sound.{number_of}
use Rattle.mir_func.specs.Graph.{Program}
use Rattle.sem_agreement.specs.sem_mir.State.{Core, content, updated}
use Rattle.sem_agreement.specs.sem_mir.Step.{Outcome, Falls, Goes, Gives, Traps, Asks, Breaks, act, numbered, given, defined, seen, pair_value, do_item}
use Rattle.sem_agreement.specs.sem_mir.Effects.{held_in, OnCore, EndAlike, FallsInto}
use Rattle.sem_agreement.specs.sem_mir.Align.{is_code}
use Rattle.sem_mir.proofs.Outcomes.{alike_weaker}
use Rattle.sem_mir.proofs.Parts.{effects_hold}
use Rattle.sem_mir.proofs.Places.{updated_same, updated_other}
use Rattle.sem_agreement.specs.sem_simulation.MatchStates.{OutcomesAlike, ShowsSame}
use Rattle.sem_simulation.proofs.Outcomes.{alike_of}
use Rattle.pass_trait.specs.Rule.{item}
use Rattle.sem_agreement.specs.Agreement.{AgreeOn, DebugLessDef, Alike, GenDefs, HeldAfter, NumbersHeld, Depends}
use Rattle.sem_agreement.proofs.Outcomes.{TellsAs, alike_both, code_alike, leaves_pair}
use Rattle.sem_agreement.proofs.Held.{held_fewer, held_itself, held_number, held_by, act_held}
use Rattle.sem_agreement.proofs.Told.{tells_itself, tells_of}
use Rattle.sem_agreement.proofs.Items.{item_both}
use Rattle.sem_agreement.proofs.Views.{shows_alike}
use Rattle.pass_salvage.proofs.Edits.{Edits}
use Rattle.pass_salvage.proofs.EditRuns.{Keeps}
use Rattle.pass_salvage.proofs.NumberOff.{Everywhere}

-- right behind the phi, or not
pub data Spot : Type 0 where
  Elsewhere : Spot
  Behind : Spot

-- where a copy of s with number k loses it to a phi. Pairs resolve alike in both
module _ (f g : Program) (blind_f : f.sees_pointer ≡ false) (blind_g : g.sees_pointer ≡ false) (resolves : (q : OperandPair) → g.resolve q ≡ f.resolve q)
    (k s : ℕ) (real : s ≡ 2 → ⊥) where
  abbrev pub IsUnlike : ItemKind → Type 0
  IsUnlike kind = (m : ℕ) → number_of kind ≡ Some m → k ≡ m → ⊥

  pub data PhiPair : Spot → Spot → Item → Item → Type 0 where
    elsewhere : {x : Item} → IsUnlike x.kind → PhiPair Elsewhere Elsewhere x x
    closes : {i : Instruction} {p : Origin} {l : Loc} {rd : ℕ} → row_of i ≡ Moves (suc rd) s → slice_get i.operands 0 ≡ Some (Def (suc rd)) →
        (suc rd ≡ 2 → ⊥) → PhiPair Behind Elsewhere (item (Code i (Some k)) p l) (item (Code i None) p l)

  pub data PhiPut : Spot → Spot → Item → Type 0 where
    puts : {p : Origin} {l : Loc} → PhiPut Elsewhere Behind (item (Phi (Some (Register s)) k) p l)

  abbrev pub phi_over : Spot → Type 0
  phi_over Elsewhere = Unit {0}
  phi_over Behind = ⊥

  abbrev pub phi_edits : Edits
  phi_edits = record {
    Stage = Spot;
    entry = λ n. Elsewhere;
    IsOver = phi_over;
    Pair = PhiPair;
    Out = λ a b x. ⊥;
    Put = PhiPut;
  }

  abbrev pub FreeAt : Spot → ℕ → Type 0
  FreeAt Elsewhere m = ⊥
  FreeAt Behind m = m ≡ k

  abbrev pub PhiTold : Spot → Core → Core → Type 0
  PhiTold Elsewhere c d = Unit {0}
  PhiTold Behind c d = (w : ℕ) → d.pairs k 0 ≡ Some w → content c.regs s ≡ Some w

  pub record PhiCores (a : Spot) (c d : Core) : Type 0 where
    pub alike : Alike Everywhere (FreeAt a) c d
    pub rest : (p : ℕ) → d.pairs k (suc p) ≡ None
    pub told : PhiTold a c d

  all_numbers : (i : Instruction) (m : Option ℕ) → NumbersHeld Everywhere i m
  all_numbers i None = tt
  all_numbers i (Some m) = λ p r e. inr tt

  pair_same : (q : OperandPair) (c d : Core) → DebugLessDef (FreeAt Elsewhere) c d → (v : ℕ) → pair_value (g.resolve q) d ≡ Some v →
      pair_value (f.resolve q) c ≡ Some v
  pair_same q c d t v e = by_pair (f.resolve q) (ap (λ (x : Option OperandPair). pair_value x d) (sym (resolves q)) ∙ e) where
    by_pair : (x : Option OperandPair) → pair_value x d ≡ Some v → pair_value x c ≡ Some v
    by_pair None e = cc
    by_pair (Some r) e = t.pairs r.number r.operand (λ z. z) v e

  depends : (kind : ItemKind) (c d : Core) → PhiCores Elsewhere c d → Depends f g Everywhere kind c d
  depends (Code i m) c d h = (λ x u. tt, all_numbers i m)
  depends (Mark v Nothing) c d h = tt
  depends (Mark v (Constant z)) c d h = tt
  depends (Mark v (At r)) c d h = tt
  depends (Mark v (Pair q)) c d h = pair_same q c d h.alike.told
  depends (Phi None m) c d h = tt
  depends (Phi (Some x) m) c d h = tt

  all_after : (kind : ItemKind) (c d : Core) → Alike (HeldAfter Everywhere kind) (FreeAt Elsewhere) c d → Alike Everywhere (FreeAt Elsewhere) c d
  all_after (Code i m) c d h = record { held = held_fewer (GenDefs Everywhere i) Everywhere (λ x u. inr tt) c d h.held; told = h.told }
  all_after (Mark v m) c d h = h
  all_after (Phi p m) c d h = h

  both_elsewhere : (kind : ItemKind) (c d : Core) → IsUnlike kind → PhiCores Elsewhere c d → EndAlike (PhiCores Elsewhere) (do_item f kind c) (do_item g kind d)
  both_elsewhere kind c d other h =
      alike_weaker _ (PhiCores Elsewhere) by_core (do_item f kind c) (do_item g kind d)
      (alike_both (Alike (HeldAfter Everywhere kind) (FreeAt Elsewhere)) (λ e. e.pairs k ≡ c.pairs k) (λ e. e.pairs k ≡ d.pairs k)
      (do_item f kind c) (do_item g kind d) (item_both Everywhere (FreeAt Elsewhere) f g kind c d (blind_f ∙ sym blind_g) h.alike (depends kind c d h))
      (leaves_pair f kind k c other) (leaves_pair g kind k d other)) where
        by_core : (c' d' : Core) → Alike (HeldAfter Everywhere kind) (FreeAt Elsewhere) c' d' × (c'.pairs k ≡ c.pairs k) × (d'.pairs k ≡ d.pairs k) →
            PhiCores Elsewhere c' d'
        by_core c' d' r = record { alike = all_after kind c' d' r.0; rest = λ p. ap (λ (z : ℕ → Option ℕ). z (suc p)) r.2 ∙ h.rest p; told = tt }

  -- the phi
  put_phi : (c d : Core) → PhiCores Elsewhere c d → FallsInto (λ e. PhiCores Behind c e) (do_item g (Phi (Some (Register s)) k) d)
  put_phi c d h =
      let value : ℕ → Option ℕ = updated 0 (seen false s d) (d.pairs k) in
      record {
        alike = record {
          held = held_by Everywhere c d c.pairs (updated k value d.pairs) c.marks d.marks h.alike.held;
          told = record {
            pairs = λ m p far v e. h.alike.told.pairs m p (λ z. z) v (ap (λ (z : ℕ → Option ℕ). z p) (sym (updated_other k m value d.pairs far)) ∙ e);
            marks = h.alike.told.marks;
          };
        };
        rest = λ p. ap (λ (z : ℕ → Option ℕ). z (suc p)) (updated_same k value d.pairs) ∙
            updated_other 0 (suc p) (seen false s d) (d.pairs k) (λ e. cc) ∙ h.rest p;
        told = λ w e. h.alike.held.places (Register s) tt ∙ sym (ap (λ (z : Bool). cond z None (content d.regs s)) (ne_eqb s 2 real)) ∙
            ap (λ (z : ℕ → Option ℕ). z 0) (sym (updated_same k value d.pairs)) ∙ e;
      }

  -- the copy
  close : (i : Instruction) (rd : ℕ) (c d : Core) → row_of i ≡ Moves (suc rd) s → slice_get i.operands 0 ≡ Some (Def (suc rd)) → (suc rd ≡ 2 → ⊥) →
      PhiCores Behind c d → EndAlike (PhiCores Elsewhere) (do_item f (Code i (Some k)) c) (do_item g (Code i None) d)
  close i rd c d row first far h =
      code_alike f g i i (Some k) None c d
      (λ c' d'. AgreeOn (GenDefs Everywhere i) c' d' × (held_in (Register (suc rd)) c' ≡ held_in (Register s) c) × Unit {0}) (PhiCores Elsewhere)
      (alike_both (AgreeOn (GenDefs Everywhere i)) (λ e. held_in (Register (suc rd)) e ≡ held_in (Register s) c) (λ e. Unit {0}) (act (row_of i) c)
      (act (row_of i) d)
      (act_held Everywhere i c d h.alike.held (λ x u. tt)) (effects_hold.moves i (Register s) (Register (suc rd)) c (ap moved_by row) (ap set_by row))
      (always (act (row_of i) d))) by_core where
        always : (x : Outcome) → OnCore (λ e. Unit {0}) x
        always (Falls e) = tt
        always (Goes t e) = tt
        always (Gives v) = tt
        always Traps = tt
        always Asks = tt
        always Breaks = tt

        defines_it : (b : Bool) → defined b (Some (Def (suc rd))) ≡ Some (suc rd)
        defines_it true = refl
        defines_it false = refl

        by_core : (c' d' : Core) → AgreeOn (GenDefs Everywhere i) c' d' × (held_in (Register (suc rd)) c' ≡ held_in (Register s) c) × Unit {0} → TellsAs c
            c' →
            TellsAs d d' → PhiCores Elsewhere (numbered f.sees_pointer (is_call (row_of i)) (Some k) i.operands c')
            (numbered g.sees_pointer (is_call (row_of i)) None i.operands d')
        by_core c' d' r same same' =
            let value : ℕ → Option ℕ = λ p. given f.sees_pointer (defined (is_call (row_of i)) (slice_get i.operands p)) (c'.pairs k p) c' in
            let here : value 0 ≡ content c'.regs (suc rd) =
            ap (λ (x : Option Operand). given f.sees_pointer (defined (is_call (row_of i)) x) (c'.pairs k 0) c') first ∙
            ap (λ (x : Option ℕ). given f.sees_pointer x (c'.pairs k 0) c') (defines_it (is_call (row_of i))) ∙
            ap (λ (b : Bool). seen b (suc rd) c') blind_f ∙ ap (λ (z : Bool). cond z None (content c'.regs (suc rd))) (ne_eqb (suc rd) 2 far) in
            let after : DebugLessDef (FreeAt Behind) c' d' = tells_of (FreeAt Behind) c d c' d' same same' h.alike.told in
            let rest : (p : ℕ) → d'.pairs k (suc p) ≡ None = λ p. ap (λ (z : ℕ → ℕ → Option ℕ). z k (suc p)) same'.0 ∙ h.rest p in
            record {
              alike = record {
                held = held_number Everywhere f.sees_pointer g.sees_pointer (is_call (row_of i)) (is_call (row_of i)) (Some k) None i.operands i.operands c' d'
                    (held_fewer (GenDefs Everywhere i) Everywhere (λ x u. inr tt) c' d' r.0);
                told = record {
                  pairs = λ m p no v e. by_number value here after rest m p v e (cases_eq m k);
                  marks = after.marks;
                };
              };
              rest = rest;
              told = tt;
            } where
              by_operand : (value : ℕ → Option ℕ) → value 0 ≡ content c'.regs (suc rd) → ((p : ℕ) → d'.pairs k (suc p) ≡ None) → (p v : ℕ) →
                  d'.pairs k p ≡ Some v → value p ≡ Some v
              by_operand value here rest zero v e = here ∙ r.1 ∙ h.told v (ap (λ (z : ℕ → ℕ → Option ℕ). z k 0) (sym same'.0) ∙ e)
              by_operand value here rest (suc p) v e = (let bad : ◌≡◌ {A = Option ℕ} None (Some v) = sym (rest p) ∙ e in cc)

              by_number : (value : ℕ → Option ℕ) → value 0 ≡ content c'.regs (suc rd) → DebugLessDef (FreeAt Behind) c' d' →
                  ((p : ℕ) → d'.pairs k (suc p) ≡ None) →
                  (m p v : ℕ) → d'.pairs m p ≡ Some v → (m ≡ k) ⊎ (m ≡ k → ⊥) → updated k value c'.pairs m p ≡ Some v
              by_number value here after rest m p v e (inl is) =
                  ap (λ (z : ℕ). updated k value c'.pairs z p) is ∙ ap (λ (z : ℕ → Option ℕ). z p) (updated_same k value c'.pairs) ∙
                  by_operand value here rest p v (ap (λ (z : ℕ). d'.pairs z p) (sym is) ∙ e)
              by_number value here after rest m p v e (inr ne) =
                  ap (λ (z : ℕ → Option ℕ). z p) (updated_other k m value c'.pairs ne) ∙ after.pairs m p ne v e

  phi_code : (a b : Spot) (x y : Item) → PhiPair a b x y → (c d : Core) → PhiCores a c d →
      OutcomesAlike (PhiCores b) (λ t. PhiCores Elsewhere) (do_item f x.kind c) (do_item g y.kind d)
  phi_code a b x y (elsewhere other) c d h =
      alike_of (PhiCores Elsewhere) (λ t. PhiCores Elsewhere) (PhiCores Elsewhere) (do_item f x.kind c) (do_item g x.kind d) (λ e e' r. r) (λ t e e' go r. r)
      (both_elsewhere x.kind c d other h)
  phi_code a b x y (closes {i} {p} {l} {rd} row first far) c d h =
      alike_of (PhiCores Elsewhere) (λ t. PhiCores Elsewhere) (PhiCores Elsewhere) (do_item f (Code i (Some k)) c) (do_item g (Code i None) d) (λ e e' r. r)
      (λ t e e' go r. r) (close i rd c d row first far h)

  phi_debug : (a b : Spot) (x y : Item) → PhiPair a b x y → is_code x.kind ≡ false → (c d : Core) → PhiCores a c d →
      EndAlike (PhiCores b) (do_item f x.kind c) (do_item g y.kind d)
  phi_debug a b x y (elsewhere other) none c d h = both_elsewhere x.kind c d other h
  phi_debug a b x y (closes row first far) none c d h = cc

  phi_puts : (a b : Spot) (y : Item) → PhiPut a b y → (c d : Core) → PhiCores a c d → FallsInto (λ e. PhiCores b c e) (do_item g y.kind d)
  phi_puts a b y puts c d h = put_phi c d h

  phi_ends : (a : Spot) (c d : Core) → phi_over a → PhiCores a c d → PhiCores Elsewhere c d
  phi_ends Elsewhere c d done h = h
  phi_ends Behind c d done h = absurd done

  phi_shows : (a : Spot) (c d : Core) → PhiCores a c d → ShowsSame c d
  phi_shows a c d h = shows_alike Everywhere (FreeAt a) c d h.alike

  pub phi_keeps : Keeps phi_edits PhiCores f g
  phi_keeps = record {
    code = λ a b x y how code code' c d h. phi_code a b x y how c d h;
    debug = λ a b x y how none none' c d h. phi_debug a b x y how none c d h;
    out_code = λ a b x h. absurd h;
    out_stays = λ a b x h. absurd h;
    outs = λ a b x h. absurd h;
    puts = phi_puts;
    ends = λ a t c d done h. phi_ends a c d done h;
    shows = phi_shows;
  }

  pub phi_itself : (c : Core) → ((m p : ℕ) → c.pairs m p ≡ None) → PhiCores Elsewhere c c
  phi_itself c none = record {
    alike = record { held = held_itself Everywhere c; told = tells_itself (FreeAt Elsewhere) c };
    rest = λ p. none k (suc p);
    told = tt;
  }
