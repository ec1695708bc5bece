-- A copy loses its number to code that gave the copied value: how the two runs are related.
use Rattle.std.proofs.Common.{◌≡◌, ◌⊎◌, inl, inr, ℕ, suc, Option, Some, None, Bool, true, false, cond, slice_get, refl}
use Rattle.std.proofs.Common.{sym, ap, ◌∙◌, subst, ne_eqb}
use Rattle.rv64_instr.specs.declared.operand.Operand.{Operand}
use Rattle.rv64_instr.specs.declared.operand.Operand.TheVariants.{Def}
use Rattle.rv64_instr.specs.declared.place.Place.{Place}
use Rattle.rv64_instr.specs.declared.place.Place.TheVariants.{Register}
use Rattle.rv64_instr.specs.Instruction.{Instruction}
use Rattle.rv64_instr.specs.Row.{Moves, row_of}
use Rattle.rv64_instr.specs.LocationEffects.{is_call, set_by, moved_by}
use Rattle.mir_func.specs.declared.debug_substitution.OperandPair.{OperandPair}
use Rattle.mir_func.specs.declared.position.Origin.{Origin}
use Rattle.mir_func.specs.declared.location.Loc.{Loc}
use Rattle.mir_func.specs.declared.item.Item.{Item}
use Rattle.mir_func.specs.declared.item.ItemKind.{ItemKind}
use Rattle.mir_func.specs.declared.item.ItemKind.TheVariants.{Code, Mark, Phi}
use Rattle.mir_func.specs.declared.variable.MarkValue.TheVariants.{Nothing, Constant, At, Pair}
use Rattle.mir_func.specs.Sound.{number_of}
use Rattle.mir_func.specs.Graph.{Program}
use Rattle.sem_agreement.specs.sem_mir.State.{Core, content}
use Rattle.sem_agreement.specs.sem_mir.Step.{Outcome, Falls, Goes, Gives, Traps, Asks, Breaks, act, numbered, given, defined, seen, pair_value, do_item}
use Rattle.sem_agreement.specs.sem_mir.Effects.{held_in, OnCore, EndAlike}
use Rattle.sem_agreement.specs.sem_mir.Live.{KindDefines}
use Rattle.sem_agreement.specs.sem_mir.Align.{is_code}
use Rattle.sem_mir.proofs.Outcomes.{alike_weaker}
use Rattle.sem_mir.proofs.Parts.{effects_hold}
use Rattle.sem_mir.proofs.Places.{updated_same, updated_other}
use Rattle.sem_agreement.specs.sem_simulation.MatchStates.{OutcomesAlike}
use Rattle.sem_simulation.proofs.Outcomes.{alike_of}
use Rattle.pass_trait.specs.Rule.{item, first_operand}
use Rattle.sem_agreement.specs.Agreement.{AgreeOn, DebugLessDef, Alike, GenDefs, HeldAfter, NumbersHeld, Depends}
use Rattle.sem_agreement.proofs.Outcomes.{TellsAs, alike_both, code_alike, leaves_place, leaves_pair, held_numbered}
use Rattle.sem_agreement.proofs.Held.{held_fewer, held_itself, held_number, act_held}
use Rattle.sem_agreement.proofs.Told.{tells_itself, tells_of, numbers_both, numbers_first, numbers_second}
use Rattle.sem_agreement.proofs.Items.{item_both}
use Rattle.sem_agreement.proofs.Views.{shows_alike}
use Rattle.pass_salvage.proofs.Edits.{Edits}
use Rattle.pass_salvage.proofs.EditRuns.{Keeps}

-- between the code that gives the value and the copy, or not
pub data Side : Type 0 where
  Outside : Side
  Inside : Side

-- all places
abbrev pub Everywhere : Place → Type 0
Everywhere x = Unit {0}

pub on_both : (P S : Core → Type 0) (x : Outcome) → OnCore P x → OnCore S x → OnCore (λ c. P c × S c) x
on_both P S (Falls c) h s = (h, s)
on_both P S (Goes n c) h s = (h, s)
on_both P S (Gives v) h s = tt
on_both P S Traps h s = tt
on_both P S Asks h s = tt
on_both P S Breaks h s = tt

-- where a copy of s with number k loses it to operand o of number n, in programs f and g. Free is what f gives no value
module _ (f g : Program) (blind_f : f.sees_pointer ≡ false) (blind_g : g.sees_pointer ≡ false) (k n o s : ℕ) (Free : ℕ → Type 0) where
  -- the pair of the copy resolves to that of the other number, and each other as before
  abbrev pub ResolvesOff : Type 0
  ResolvesOff = (q : OperandPair) → ((f.resolve q ≡ Some (first_operand k)) × (g.resolve q ≡ Some (record { number = n; operand = o }))) ⊎
      ((f.resolve q ≡ Some (first_operand k) → ⊥) × (g.resolve q ≡ f.resolve q))

  -- a mark asks for no number that is free; between the two it doesn't ask for the copy's
  abbrev pub AsksOutside : ItemKind → Type 0
  AsksOutside (Mark v (Pair q)) = (r : OperandPair) → f.resolve q ≡ Some r → Free r.number → ⊥
  AsksOutside _ = Unit {0}

  abbrev pub AsksInside : ItemKind → Type 0
  AsksInside (Mark v (Pair q)) = f.resolve q ≡ Some (first_operand k) → ⊥
  AsksInside _ = Unit {0}

  -- neither number is on it
  abbrev pub IsOther : ItemKind → Type 0
  IsOther kind = (m : ℕ) → number_of kind ≡ Some m → (k ≡ m → ⊥) × (n ≡ m → ⊥)

  pub data Off : Side → Side → Item → Item → Type 0 where
    outside : {x : Item} → IsOther x.kind → AsksOutside x.kind → Off Outside Outside x x
    -- it gives the value, with a number of its own or the free one
    opens : {i : Instruction} {own : Option ℕ} {p : Origin} {l : Loc} → ((own ≡ Some n) × (Free n → ⊥)) ⊎ ((own ≡ None) × Free n) →
        defined (is_call (row_of i)) (slice_get i.operands o) ≡ Some s →
        ((c e : Core) (t : ℕ) → do_item f (Code i own) c ≡ Goes t e → ⊥) → Off Outside Inside (item (Code i own) p l) (item (Code i (Some n)) p l)
    inside : {x : Item} → IsOther x.kind → AsksOutside x.kind → AsksInside x.kind → (KindDefines x.kind (Register s) → ⊥) →
        ((c e : Core) (t : ℕ) → do_item f x.kind c ≡ Goes t e → ⊥) → Off Inside Inside x x
    closes : {i : Instruction} {p : Origin} {l : Loc} {rd : ℕ} → row_of i ≡ Moves (suc rd) s → slice_get i.operands 0 ≡ Some (Def (suc rd)) →
        (suc rd ≡ 2 → ⊥) → Off Inside Outside (item (Code i (Some k)) p l) (item (Code i None) p l)

  abbrev pub off_over : Side → Type 0
  off_over Outside = Unit {0}
  off_over Inside = ⊥

  abbrev pub off_edits : Edits
  off_edits = record {
    Stage = Side;
    entry = λ n. Outside;
    IsOver = off_over;
    Pair = Off;
    Out = λ k k' x. ⊥;
    Put = λ k k' y. ⊥;
  }

  -- what the other number's operand tells is what the copy's pair has, or will have
  abbrev pub Window : Side → Core → Core → Type 0
  Window Outside c d = (w : ℕ) → d.pairs n o ≡ Some w → c.pairs k 0 ≡ Some w
  Window Inside c d = (w : ℕ) → d.pairs n o ≡ Some w → content c.regs s ≡ Some w

  pub record OffCores (k' : Side) (c d : Core) : Type 0 where
    pub alike : Alike Everywhere Free c d
    pub none : (p : ℕ) → d.pairs k p ≡ None
    pub window : Window k' c d

  module _ (apart : k ≡ n → ⊥) (real : s ≡ 2 → ⊥) (resolves : ResolvesOff) where
    -- everything is held alike after what is the same in both
    all_after : (kind : ItemKind) (c d : Core) → Alike (HeldAfter Everywhere kind) Free c d → Alike Everywhere Free c d
    all_after (Code i m) c d h = record { held = held_fewer (GenDefs Everywhere i) Everywhere (λ x u. inr tt) c d h.held; told = h.told }
    all_after (Mark v m) c d h = h
    all_after (Phi p m) c d h = h

    pair_outside : (q : OperandPair) (c d : Core) → OffCores Outside c d → ((r : OperandPair) → f.resolve q ≡ Some r → Free r.number → ⊥) → (v : ℕ) →
        pair_value (g.resolve q) d ≡ Some v → pair_value (f.resolve q) c ≡ Some v
    pair_outside q c d h asks v e = by_case (resolves q) where
      by_pair : (x : Option OperandPair) → f.resolve q ≡ x → pair_value x d ≡ Some v → pair_value x c ≡ Some v
      by_pair None at e = cc
      by_pair (Some r) at e = h.alike.told.pairs r.number r.operand (asks r at) v e

      by_case : ((f.resolve q ≡ Some (first_operand k)) × (g.resolve q ≡ Some (record { number = n; operand = o }))) ⊎
          ((f.resolve q ≡ Some (first_operand k) → ⊥) × (g.resolve q ≡ f.resolve q)) → pair_value (f.resolve q) c ≡ Some v
      by_case (inl w) = ap (λ (x : Option OperandPair). pair_value x c) w.0 ∙ h.window v (ap (λ (x : Option OperandPair). pair_value x d) (sym w.1) ∙ e)
      by_case (inr w) = by_pair (f.resolve q) refl (ap (λ (x : Option OperandPair). pair_value x d) (sym w.1) ∙ e)

    pair_inside : (q : OperandPair) (c d : Core) → OffCores Inside c d → ((r : OperandPair) → f.resolve q ≡ Some r → Free r.number → ⊥) →
        (f.resolve q ≡ Some (first_operand k) → ⊥) → (v : ℕ) → pair_value (g.resolve q) d ≡ Some v → pair_value (f.resolve q) c ≡ Some v
    pair_inside q c d h asks far v e = by_case (resolves q) where
      by_pair : (x : Option OperandPair) → f.resolve q ≡ x → pair_value x d ≡ Some v → pair_value x c ≡ Some v
      by_pair None at e = cc
      by_pair (Some r) at e = h.alike.told.pairs r.number r.operand (asks r at) v e

      by_case : ((f.resolve q ≡ Some (first_operand k)) × (g.resolve q ≡ Some (record { number = n; operand = o }))) ⊎
          ((f.resolve q ≡ Some (first_operand k) → ⊥) × (g.resolve q ≡ f.resolve q)) → pair_value (f.resolve q) c ≡ Some v
      by_case (inl w) = absurd (far w.0)
      by_case (inr w) = by_pair (f.resolve q) refl (ap (λ (x : Option OperandPair). pair_value x d) (sym w.1) ∙ e)

    all_numbers : (i : Instruction) (m : Option ℕ) → NumbersHeld Everywhere i m
    all_numbers i None = tt
    all_numbers i (Some m) = λ p r e. inr tt

    depends_outside : (kind : ItemKind) (c d : Core) → OffCores Outside c d → AsksOutside kind → Depends f g Everywhere kind c d
    depends_outside (Code i m) c d h asks = (λ x u. tt, all_numbers i m)
    depends_outside (Mark v Nothing) c d h asks = tt
    depends_outside (Mark v (Constant z)) c d h asks = tt
    depends_outside (Mark v (At r)) c d h asks = tt
    depends_outside (Mark v (Pair q)) c d h asks = pair_outside q c d h asks
    depends_outside (Phi None m) c d h asks = tt
    depends_outside (Phi (Some x) m) c d h asks = tt

    depends_inside : (kind : ItemKind) (c d : Core) → OffCores Inside c d → AsksOutside kind → AsksInside kind → Depends f g Everywhere kind c d
    depends_inside (Code i m) c d h asks far = (λ x u. tt, all_numbers i m)
    depends_inside (Mark v Nothing) c d h asks far = tt
    depends_inside (Mark v (Constant z)) c d h asks far = tt
    depends_inside (Mark v (At r)) c d h asks far = tt
    depends_inside (Mark v (Pair q)) c d h asks far = pair_inside q c d h asks far
    depends_inside (Phi None m) c d h asks far = tt
    depends_inside (Phi (Some x) m) c d h asks far = tt

    -- an item of both
    both_outside : (kind : ItemKind) (c d : Core) → IsOther kind → AsksOutside kind → OffCores Outside c d →
        EndAlike (OffCores Outside) (do_item f kind c) (do_item g kind d)
    both_outside kind c d other asks h =
        alike_weaker _ (OffCores Outside) by_core (do_item f kind c) (do_item g kind d)
        (alike_both (Alike (HeldAfter Everywhere kind) Free) (λ e. e.pairs k ≡ c.pairs k) (λ e. (e.pairs k ≡ d.pairs k) × (e.pairs n ≡ d.pairs n))
        (do_item f kind c) (do_item g kind d)
        (item_both Everywhere Free f g kind c d (blind_f ∙ sym blind_g) h.alike (depends_outside kind c d h asks))
        (leaves_pair f kind k c (λ m e. (other m e).0))
        (on_both (λ e. e.pairs k ≡ d.pairs k) (λ e. e.pairs n ≡ d.pairs n) (do_item g kind d) (leaves_pair g kind k d (λ m e. (other m e).0))
        (leaves_pair g kind n d (λ m e. (other m e).1)))) where
          by_core : (c' d' : Core) → Alike (HeldAfter Everywhere kind) Free c' d' × (c'.pairs k ≡ c.pairs k) ×
              ((d'.pairs k ≡ d.pairs k) × (d'.pairs n ≡ d.pairs n)) →
              OffCores Outside c' d'
          by_core c' d' r = record {
            alike = all_after kind c' d' r.0;
            none = λ p. ap (λ (z : ℕ → Option ℕ). z p) r.2.0 ∙ h.none p;
            window = λ w e. ap (λ (z : ℕ → Option ℕ). z 0) r.1 ∙ h.window w (ap (λ (z : ℕ → Option ℕ). z o) (sym r.2.1) ∙ e);
          }

    both_inside : (kind : ItemKind) (c d : Core) → IsOther kind → AsksOutside kind → AsksInside kind → (KindDefines kind (Register s) → ⊥) →
        OffCores Inside c d → EndAlike (OffCores Inside) (do_item f kind c) (do_item g kind d)
    both_inside kind c d other asks far keeps h =
        alike_weaker _ (OffCores Inside) by_core (do_item f kind c) (do_item g kind d)
        (alike_both (Alike (HeldAfter Everywhere kind) Free) (λ e. held_in (Register s) e ≡ held_in (Register s) c)
        (λ e. (e.pairs k ≡ d.pairs k) × (e.pairs n ≡ d.pairs n)) (do_item f kind c) (do_item g kind d)
        (item_both Everywhere Free f g kind c d (blind_f ∙ sym blind_g) h.alike (depends_inside kind c d h asks far))
        (leaves_place f kind (Register s) c keeps)
        (on_both (λ e. e.pairs k ≡ d.pairs k) (λ e. e.pairs n ≡ d.pairs n) (do_item g kind d) (leaves_pair g kind k d (λ m e. (other m e).0))
        (leaves_pair g kind n d (λ m e. (other m e).1)))) where
          by_core : (c' d' : Core) → Alike (HeldAfter Everywhere kind) Free c' d' × (held_in (Register s) c' ≡ held_in (Register s) c) ×
              ((d'.pairs k ≡ d.pairs k) × (d'.pairs n ≡ d.pairs n)) → OffCores Inside c' d'
          by_core c' d' r = record {
            alike = all_after kind c' d' r.0;
            none = λ p. ap (λ (z : ℕ → Option ℕ). z p) r.2.0 ∙ h.none p;
            window = λ w e. r.1 ∙ h.window w (ap (λ (z : ℕ → Option ℕ). z o) (sym r.2.1) ∙ e);
          }

    every : (i : Instruction) (c d : Core) → AgreeOn (GenDefs Everywhere i) c d → AgreeOn Everywhere c d
    every i c d h = held_fewer (GenDefs Everywhere i) Everywhere (λ x u. inr tt) c d h

    -- the code that gives the value: what the other number's operand tells is what s holds
    seen_as : (c d : Core) → AgreeOn Everywhere c d → (w : ℕ) → seen g.sees_pointer s d ≡ Some w → content c.regs s ≡ Some w
    seen_as c d h w e =
        let plain : seen false s d ≡ content d.regs s = ap (λ (z : Bool). cond z None (content d.regs s)) (ne_eqb s 2 real) in
        h.places (Register s) tt ∙ sym plain ∙ ap (λ (b : Bool). seen b s d) (sym blind_g) ∙ e

    opens_both : (i : Instruction) (own : Option ℕ) (c d : Core) → ((own ≡ Some n) × (Free n → ⊥)) ⊎ ((own ≡ None) × Free n) →
        defined (is_call (row_of i)) (slice_get i.operands o) ≡ Some s → OffCores Outside c d →
        EndAlike (OffCores Inside) (do_item f (Code i own) c) (do_item g (Code i (Some n)) d)
    opens_both i own c d how is h =
        code_alike f g i i own (Some n) c d (AgreeOn (GenDefs Everywhere i)) (OffCores Inside) (act_held Everywhere i c d h.alike.held (λ x u. tt))
        by_core where
          call : Bool
          call = is_call (row_of i)

          given_is : (d' : Core) → given g.sees_pointer (defined (is_call (row_of i)) (slice_get i.operands o)) (d'.pairs n o) d' ≡ seen g.sees_pointer s d'
          given_is d' = ap (λ (x : Option ℕ). given g.sees_pointer x (d'.pairs n o) d') is

          told_both : (c' d' : Core) → AgreeOn (GenDefs Everywhere i) c' d' → DebugLessDef Free c' d' →
              ((own ≡ Some n) × (Free n → ⊥)) ⊎ ((own ≡ None) × Free n) →
              DebugLessDef Free (numbered f.sees_pointer (is_call (row_of i)) own i.operands c')
              (numbered g.sees_pointer (is_call (row_of i)) (Some n) i.operands d')
          told_both c' d' r t (inl w) =
              subst (λ (m : Option ℕ). DebugLessDef Free (numbered f.sees_pointer (is_call (row_of i)) m i.operands c')
              (numbered g.sees_pointer (is_call (row_of i)) (Some n) i.operands d')) (sym w.0)
              (subst (λ (b : Bool). DebugLessDef Free (numbered f.sees_pointer (is_call (row_of i)) (Some n) i.operands c')
              (numbered b (is_call (row_of i)) (Some n) i.operands d')) (blind_f ∙ sym blind_g)
              (numbers_both Free f.sees_pointer (is_call (row_of i)) (Some n) i.operands c' d' t (λ m p r' e at. r.places (Register r') (inr tt))))
          told_both c' d' r t (inr w) =
              subst (λ (m : Option ℕ). DebugLessDef Free (numbered f.sees_pointer (is_call (row_of i)) m i.operands c')
              (numbered g.sees_pointer (is_call (row_of i)) (Some n) i.operands d')) (sym w.0)
              (numbers_second Free g.sees_pointer (is_call (row_of i)) (Some n) i.operands c' d' t
              (λ m e. (let same : n ≡ m = cc in subst Free same w.1)))

          by_core : (c' d' : Core) → AgreeOn (GenDefs Everywhere i) c' d' → TellsAs c c' → TellsAs d d' →
              OffCores Inside (numbered f.sees_pointer (is_call (row_of i)) own i.operands c')
              (numbered g.sees_pointer (is_call (row_of i)) (Some n) i.operands d')
          by_core c' d' r same same' =
              let c'' : Core = numbered f.sees_pointer (is_call (row_of i)) own i.operands c' in
              let d'' : Core = numbered g.sees_pointer (is_call (row_of i)) (Some n) i.operands d' in
              let held : AgreeOn Everywhere c'' d'' =
              held_number Everywhere f.sees_pointer g.sees_pointer (is_call (row_of i)) (is_call (row_of i)) own (Some n) i.operands i.operands c' d'
              (every i c' d' r) in
              let value : ℕ → Option ℕ = λ p. given g.sees_pointer (defined (is_call (row_of i)) (slice_get i.operands p)) (d'.pairs n p) d' in
              record {
                alike = record { held = held; told = told_both c' d' r (tells_of Free c d c' d' same same' h.alike.told) how };
                none = λ p. ap (λ (z : ℕ → Option ℕ). z p) (updated_other n k value d'.pairs apart) ∙ ap (λ (z : ℕ → ℕ → Option ℕ). z k p) same'.0 ∙ h.none p;
                window = λ w e. held_numbered (Register s) f.sees_pointer (is_call (row_of i)) own i.operands c' ∙
                    seen_as c' d' (every i c' d' r) w (sym (given_is d') ∙ ap (λ (z : ℕ → Option ℕ). z o) (sym (updated_same n value d'.pairs)) ∙ e);
              }

    -- the copy: its pair gets what s holds
    closes_both : (i : Instruction) (rd : ℕ) (c d : Core) → row_of i ≡ Moves (suc rd) s → slice_get i.operands 0 ≡ Some (Def (suc rd)) → (suc rd ≡ 2 → ⊥) →
        OffCores Inside c d → EndAlike (OffCores Outside) (do_item f (Code i (Some k)) c) (do_item g (Code i None) d)
    closes_both i rd c d row first far h =
        code_alike f g i i (Some k) None c d
        (λ c' d'. AgreeOn (GenDefs Everywhere i) c' d' × (held_in (Register (suc rd)) c' ≡ held_in (Register s) c) × Unit {0}) (OffCores Outside)
        (alike_both (AgreeOn (GenDefs Everywhere i)) (λ e. held_in (Register (suc rd)) e ≡ held_in (Register s) c) (λ e. Unit {0}) (act (row_of i) c)
        (act (row_of i) d)
        (act_held Everywhere i c d h.alike.held (λ x u. tt)) (effects_hold.moves i (Register s) (Register (suc rd)) c (ap moved_by row) (ap set_by row))
        (always (act (row_of i) d))) by_core where
          always : (x : Outcome) → OnCore (λ e. Unit {0}) x
          always (Falls e) = tt
          always (Goes t e) = tt
          always (Gives v) = tt
          always Traps = tt
          always Asks = tt
          always Breaks = tt

          by_core : (c' d' : Core) → AgreeOn (GenDefs Everywhere i) c' d' × (held_in (Register (suc rd)) c' ≡ held_in (Register s) c) × Unit {0} → TellsAs
              c c' →
              TellsAs d d' → OffCores Outside (numbered f.sees_pointer (is_call (row_of i)) (Some k) i.operands c')
              (numbered g.sees_pointer (is_call (row_of i)) None i.operands d')
          by_core c' d' r same same' =
              let value : ℕ → Option ℕ = λ p. given f.sees_pointer (defined (is_call (row_of i)) (slice_get i.operands p)) (c'.pairs k p) c' in
              let here : value 0 ≡ content c'.regs (suc rd) =
              ap (λ (x : Option Operand). given f.sees_pointer (defined (is_call (row_of i)) x) (c'.pairs k 0) c') first ∙
              ap (λ (x : Option ℕ). given f.sees_pointer x (c'.pairs k 0) c') (defines_it (is_call (row_of i))) ∙
              ap (λ (b : Bool). seen b (suc rd) c') blind_f ∙ ap (λ (z : Bool). cond z None (content c'.regs (suc rd))) (ne_eqb (suc rd) 2 far) in
              let before : (p : ℕ) → d'.pairs n p ≡ d.pairs n p = λ p. ap (λ (z : ℕ → ℕ → Option ℕ). z n p) same'.0 in
              record {
                alike = record {
                  held = held_number Everywhere f.sees_pointer g.sees_pointer (is_call (row_of i)) (is_call (row_of i)) (Some k) None i.operands i.operands c'
                      d' (every i c' d' r.0);
                  told = numbers_first Free f.sees_pointer (is_call (row_of i)) (Some k) i.operands c' d' (tells_of Free c d c' d' same same' h.alike.told)
                      (λ m e not p. (let is : k ≡ m = cc in ap (λ (z : ℕ → ℕ → Option ℕ). z m p) same'.0 ∙ ap (λ (z : ℕ). d.pairs z p) (sym is) ∙ h.none p));
                };
                none = λ p. ap (λ (z : ℕ → ℕ → Option ℕ). z k p) same'.0 ∙ h.none p;
                window = λ w e. ap (λ (z : ℕ → Option ℕ). z 0) (updated_same k value c'.pairs) ∙ here ∙ r.1 ∙ h.window w (sym (before o) ∙ e);
              } where
                defines_it : (b : Bool) → defined b (Some (Def (suc rd))) ≡ Some (suc rd)
                defines_it true = refl
                defines_it false = refl

    -- ---- all of them

    off_code : (k' k'' : Side) (x y : Item) → Off k' k'' x y → (c d : Core) → OffCores k' c d →
        OutcomesAlike (OffCores k'') (λ t. OffCores Outside) (do_item f x.kind c) (do_item g y.kind d)
    off_code k' k'' x y (outside other asks) c d h =
        alike_of (OffCores Outside) (λ t. OffCores Outside) (OffCores Outside) (do_item f x.kind c) (do_item g x.kind d) (λ e e' r. r) (λ t e e' go r. r)
        (both_outside x.kind c d other asks h)
    off_code k' k'' x y (inside other asks far keeps stays) c d h =
        alike_of (OffCores Inside) (λ t. OffCores Outside) (OffCores Inside) (do_item f x.kind c) (do_item g x.kind d) (λ e e' r. r)
        (λ t e e' go r. absurd (stays c e t go)) (both_inside x.kind c d other asks far keeps h)
    off_code k' k'' x y (opens {i} {own} how is stays) c d h =
        alike_of (OffCores Inside) (λ t. OffCores Outside) (OffCores Inside) (do_item f (Code i own) c) (do_item g (Code i (Some n)) d) (λ e e' r. r)
        (λ t e e' go r. absurd (stays c e t go)) (opens_both i own c d how is h)
    off_code k' k'' x y (closes {i} {p} {l} {rd} row first far) c d h =
        alike_of (OffCores Outside) (λ t. OffCores Outside) (OffCores Outside) (do_item f (Code i (Some k)) c) (do_item g (Code i None) d) (λ e e' r. r)
        (λ t e e' go r. r) (closes_both i rd c d row first far h)

    off_debug : (k' k'' : Side) (x y : Item) → Off k' k'' x y → is_code x.kind ≡ false → (c d : Core) → OffCores k' c d →
        EndAlike (OffCores k'') (do_item f x.kind c) (do_item g y.kind d)
    off_debug k' k'' x y (outside other asks) none c d h = both_outside x.kind c d other asks h
    off_debug k' k'' x y (inside other asks far keeps stays) none c d h = both_inside x.kind c d other asks far keeps h
    off_debug k' k'' x y (opens how is stays) none c d h = cc
    off_debug k' k'' x y (closes row first far) none c d h = cc

    over_off : (k' : Side) (c d : Core) → off_over k' → OffCores k' c d → OffCores Outside c d
    over_off Outside c d done h = h
    over_off Inside c d done h = absurd done

    pub off_keeps : Keeps off_edits OffCores f g
    off_keeps = record {
      code = λ k' k'' x y how code code' c d h. off_code k' k'' x y how c d h;
      debug = λ k' k'' x y how none none' c d h. off_debug k' k'' x y how none c d h;
      out_code = λ k' k'' x h. absurd h;
      out_stays = λ k' k'' x h. absurd h;
      outs = λ k' k'' x h. absurd h;
      puts = λ k' k'' y h. absurd h;
      ends = λ k' t c d done h. over_off k' c d done h;
      shows = λ k' c d h. shows_alike Everywhere Free c d h.alike;
    }

    -- where nothing is told yet, cores are so related to themselves
    pub off_itself : (c : Core) → ((m p : ℕ) → c.pairs m p ≡ None) → OffCores Outside c c
    off_itself c none = record {
      alike = record { held = held_itself Everywhere c; told = tells_itself Free c };
      none = λ p. none k p;
      window = λ w e. (let bad : None ≡ Some w = sym (none n o) ∙ e in cc);
    }
