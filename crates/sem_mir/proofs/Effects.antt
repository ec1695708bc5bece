-- What code leaves alone, and what it depends on.
use Rattle.std.proofs.Common.{◌≡◌, ℕ, zero, suc, ◌+◌, ◌%◌, ◌^◌, List, [], ◌∷◌, map, Contains, Option, Some, None, Bool, true, false, cond, ◌&&◌, is_some}
use Rattle.std.proofs.Common.{refl, sym, ap, ◌∙◌, subst, inl, inr, ◌⊎◌, arith, ◌++◌, nat_eq}
use Rattle.std.specs.Prelude.{not, ◌||◌}
use Rattle.std.specs.List.{list_any}
use Rattle.std.proofs.lemmas.Bool.{cases_eq}
use Rattle.std.proofs.lemmas.Map.Made.{Contains-tail}
use Rattle.mir_func.specs.rv64_instr.declared.op.LoadOp.{LoadOp}
use Rattle.mir_func.specs.rv64_instr.declared.op.StoreOp.{StoreOp}
use Rattle.mir_func.specs.rv64_instr.declared.place.Place.{Place}
use Rattle.mir_func.specs.rv64_instr.declared.place.Place.TheVariants.{Register, Slot, Const}
use Rattle.mir_func.specs.rv64_instr.declared.symbol.Half.TheVariants.{Lower}
use Rattle.mir_func.specs.rv64_instr.Linked.{linked_value}
use Rattle.mir_func.specs.rv64_instr.Arithmetic.{computed, taken, load_width, store_width, extended}
use Rattle.mir_func.specs.rv64_instr.Row.{Row, Fixes, Moves, Sets, Addresses, Loads, Stores, LoadsSlot, StoresSlot, Branches, Jumps, Calls, Returns, Unfit}
use Rattle.mir_func.specs.rv64_instr.Row.{Callee, Named, Held, Way, Back, Tail, Never}
use Rattle.mir_func.specs.rv64_instr.Row.{Content, Number, PartOf}
use Rattle.mir_func.specs.rv64_instr.Row.{Base, PointedBy, ObjectAt, BesidePart}
use Rattle.mir_func.specs.rv64_instr.DefsAndUses.{caller_saved, base_reads, reads, sets, callee_reads, way_reads}
use Rattle.mir_func.specs.rv64_instr.declared.start.CallTarget.{CallTarget}
use Rattle.mir_func.specs.rv64_instr.declared.start.CallTarget.TheVariants.{Function, Address}
use Rattle.mir_func.specs.declared.variable.VarId.{VarId}
use Rattle.sem_mir.specs.State.{Reply, Core, content, updated, without, put, put_all, spelled, low_bytes, writes_frame}
use Rattle.sem_mir.specs.Step.{Outcome, Falls, Goes, Traps, or_zero, read, input_value, base_value, address_at, is_fault, set_register, exec_external_call}
use Rattle.sem_mir.specs.Step.{slot_loaded, loaded, saved, put_in_memory, does, are_written, act, with_core, Gives, called_at, way_at}
use Rattle.sem_mir.specs.Step.{slot_value, passed, are_passed, call_faults}
use Rattle.sem_mir.specs.Effects.{held_in, OnCore, EndAlike, SameWorld}
use Rattle.sem_mir.proofs.Places.{put_other, put_all_other, updated_same, updated_other, contains_head, contains_tail, contains_front, contains_back}
use Rattle.sem_mir.proofs.Places.{without_among, without_other}
use Rattle.sem_mir.proofs.Outcomes.{after_reply, on_either, alike_either}

-- code neither reads nor sets pairs and marks
abbrev pub told_by : (ℕ → ℕ → Option ℕ) → List (VarId × Option ℕ) → Core → Core
told_by pairs marks c = record c { pairs = pairs; marks = marks }

module _ (pairs : ℕ → ℕ → Option ℕ) (marks : List (VarId × Option ℕ)) where
  apart_either : (b : Bool) (x y x' y' : Outcome) → x' ≡ with_core (told_by pairs marks) x → y' ≡ with_core (told_by pairs marks) y →
      cond b x' y' ≡ with_core (told_by pairs marks) (cond b x y)
  apart_either true x y x' y' a b = a
  apart_either false x y x' y' a b = b

  does_apart : (r : Row) (c : Core) → does r (told_by pairs marks c) ≡ with_core (told_by pairs marks) (does r c)
  unfolding does
  does_apart (Sets rd op a (Content b)) c = refl
  does_apart (Sets rd op a (Number n)) c = refl
  does_apart (Sets rd op a (PartOf half y)) c = refl
  does_apart (Loads rd op (PointedBy b) o) c = apart_either (is_fault (PointedBy b) c (address_at c (PointedBy b) o) (load_width op)) _ _ _ _ refl refl
  does_apart (Loads rd op (ObjectAt n) o) c = refl
  does_apart (Loads rd op (BesidePart b y) o) c =
      apart_either (is_fault (BesidePart b y) c (address_at c (BesidePart b y) o) (load_width op)) _ _ _ _ refl refl
  does_apart (Stores op rs (PointedBy b) o) c = apart_either (is_fault (PointedBy b) c (address_at c (PointedBy b) o) (store_width op)) _ _ _ _ refl refl
  does_apart (Stores op rs (ObjectAt n) o) c = refl
  does_apart (Stores op rs (BesidePart b y) o) c =
      apart_either (is_fault (BesidePart b y) c (address_at c (BesidePart b y) o) (store_width op)) _ _ _ _ refl refl
  does_apart (LoadsSlot rd n) c = by_slot (c.slots n) where
    by_slot : (x : Option ℕ) → slot_loaded rd (told_by pairs marks c) x ≡ with_core (told_by pairs marks) (slot_loaded rd c x)
    by_slot None = refl
    by_slot (Some v) = refl
  does_apart (Branches op a b t) c = apart_either (taken op (read c a) (read c b)) _ _ _ _ refl refl
  does_apart (Calls call) c = by_callee call.callee (passed c call) call.outgoing c.script where
    by_script : (t : CallTarget) (vs os : List ℕ) (rs : List Reply) →
        exec_external_call t vs os (told_by pairs marks c) rs ≡ with_core (told_by pairs marks) (exec_external_call t vs os c rs)
    by_script t vs os [] = refl
    by_script t vs os (r ∷ rs) = apart_either (call_faults c os r) _ _ _ _ refl refl

    by_callee : (callee : Callee) (vs os : List ℕ) (rs : List Reply) →
        exec_external_call (called_at (told_by pairs marks c) callee) vs os (told_by pairs marks c) rs ≡
        with_core (told_by pairs marks) (exec_external_call (called_at c callee) vs os c rs)
    by_callee (Named name) vs os rs = by_script (Function name) vs os rs
    by_callee (Held r) vs os rs = by_script (Address (read c r)) vs os rs
  does_apart (Returns ending) c = by_way ending.way where
    by_callee : (callee : Callee) → called_at (told_by pairs marks c) callee ≡ called_at c callee
    by_callee (Named name) = refl
    by_callee (Held r) = refl

    given : Way CallTarget → Outcome
    given way = Gives (record { way = way; values = map (read c) ending.values })

    by_way : (way : Way Callee) → given (way_at (told_by pairs marks c) way) ≡ given (way_at c way)
    by_way Back = refl
    by_way (Tail callee) = ap (λ (t : CallTarget). given (Tail t)) (by_callee callee)
    by_way (Never callee) = ap (λ (t : CallTarget). given (Never t)) (by_callee callee)
  does_apart _ c = refl

  pub act_apart : (r : Row) (c : Core) → act r (told_by pairs marks c) ≡ with_core (told_by pairs marks) (act r c)
  unfolding act
  act_apart r c = apart_either (are_written c (reads r)) (does r c) Traps _ _ (does_apart r c) refl

-- what a row does depends on these places, and on no others that code has
abbrev pub RowUses : Row → Place → Type 0
RowUses row (Register r) = Contains (reads row) r
RowUses (LoadsSlot rd n) (Slot k) = n ≡ k
RowUses (Calls call) (Slot k) = Contains call.outgoing k
RowUses _ _ = ⊥

-- it may change these places, and no others
abbrev pub RowDefines : Row → Place → Type 0
RowDefines row (Register r) = Contains (sets row) r
RowDefines (StoresSlot rs n) (Slot k) = n ≡ k
RowDefines (Calls call) (Slot k) = Contains call.outgoing k
RowDefines _ _ = ⊥

-- what a row doesn't define, stays
abbrev pub Keeps : Place → Core → Core → Type 0
Keeps x c d = held_in x d ≡ held_in x c

keeps_put : (x : Place) (rd v : ℕ) (c : Core) → ((r : ℕ) → x ≡ Register r → r ≡ rd → ⊥) → Keeps x c (set_register rd v c)
keeps_put (Register r) rd v c ne = put_other rd r v c.regs (ne r refl)
keeps_put (Slot n) rd v c ne = refl
keeps_put (Const z) rd v c ne = refl

one_is : (r q : ℕ) → q ≡ r → Contains (r ∷ []) q
one_is r q e = rw e (contains_head r [])

module _ (x : Place) (c : Core) where
  does_keeps : (r : Row) → (RowDefines r x → ⊥) → OnCore (Keeps x c) (does r c)
  unfolding does
  does_keeps (Fixes rd n) ne = keeps_put x rd n c (λ r e k. ne (subst (RowDefines (Fixes rd n)) (sym e) (one_is rd r k)))
  does_keeps (Moves rd rs) ne = keeps_put x rd (read c rs) c (λ r e k. ne (subst (RowDefines (Moves rd rs)) (sym e) (one_is rd r k)))
  does_keeps (Sets rd op a b) ne = keeps_put x rd (computed op (read c a) (input_value c b)) c
      (λ r e k. ne (subst (RowDefines (Sets rd op a b)) (sym e) (one_is rd r k)))
  does_keeps (Addresses rd n o) ne =
      keeps_put x rd (address_at c (ObjectAt n) o) c (λ r e k. ne (subst (RowDefines (Addresses rd n o)) (sym e) (one_is rd r k)))
  does_keeps (Loads rd op b o) ne =
      let a = address_at c b o in
      let v = extended op (spelled c.memory a (load_width op)) in
      on_either (Keeps x c) (is_fault b c a (load_width op)) Traps (Falls (set_register rd v c)) tt
      (keeps_put x rd v c (λ r e k. ne (subst (RowDefines (Loads rd op b o)) (sym e) (one_is rd r k))))
  does_keeps (Stores op rs b o) ne =
      let a = address_at c b o in
      let bytes = low_bytes (store_width op) (read c rs) in
      on_either (Keeps x c) (is_fault b c a (store_width op)) Traps (Falls (saved a bytes c)) tt (by_place x) where
        by_place : (y : Place) → Keeps y c (saved (address_at c b o) (low_bytes (store_width op) (read c rs)) c)
        by_place (Register r) = refl
        by_place (Slot n) = refl
        by_place (Const z) = refl
  does_keeps (LoadsSlot rd n) ne = by_slot (c.slots n) where
    by_slot : (v : Option ℕ) → OnCore (Keeps x c) (slot_loaded rd c v)
    by_slot None = tt
    by_slot (Some v) = keeps_put x rd v c (λ r e k. ne (subst (RowDefines (LoadsSlot rd n)) (sym e) (one_is rd r k)))
  does_keeps (StoresSlot rs n) ne = by_place x ne where
    by_place : (y : Place) → (RowDefines (StoresSlot rs n) y → ⊥) → Keeps y c (record c { slots = updated n (Some (read c rs)) c.slots })
    by_place (Register r) ne = refl
    by_place (Slot k) ne = updated_other n k (Some (read c rs)) c.slots (λ e. ne (sym e))
    by_place (Const z) ne = refl
  does_keeps (Branches op a b t) ne = on_either (Keeps x c) (taken op (read c a) (read c b)) (Goes t c) (Falls c) refl refl
  does_keeps (Jumps t) ne = refl
  does_keeps (Calls call) ne = by_script (called_at c call.callee) (passed c call) c.script where
    by_place : (y : Place) (t : CallTarget) (vs : List ℕ) (r : Reply) (rs : List Reply) → (RowDefines (Calls call) y → ⊥) →
        Keeps y c (after_reply t vs call.outgoing c r rs)
    by_place (Register q) t vs r rs ne = put_all_other caller_saved r.regs q c.regs ne
    by_place (Slot n) t vs r rs ne = without_other call.outgoing n c.slots ne
    by_place (Const z) t vs r rs ne = refl

    by_script : (t : CallTarget) (vs : List ℕ) (rs : List Reply) → OnCore (Keeps x c) (exec_external_call t vs call.outgoing c rs)
    by_script t vs [] = tt
    by_script t vs (r ∷ rs) = on_either (Keeps x c) (call_faults c call.outgoing r) Traps (Falls (after_reply t vs call.outgoing c r rs)) tt
        (by_place x t vs r rs ne)
  does_keeps (Returns v) ne = tt
  does_keeps Unfit ne = tt

  pub act_keeps : (r : Row) → (RowDefines r x → ⊥) → OnCore (Keeps x c) (act r c)
  unfolding act
  act_keeps r ne = on_either (Keeps x c) (are_written c (reads r)) (does r c) Traps (does_keeps r ne) tt

-- the registers and slots that may hold something else
abbrev pub other_places : (ℕ → Option ℕ) → (ℕ → Option ℕ) → (ℕ → ℕ → Option ℕ) → List (VarId × Option ℕ) → Core → Core
other_places regs slots pairs marks c = record c { regs = regs; slots = slots; pairs = pairs; marks = marks }

-- a place that both held alike, or that the row defines, is held alike after it
abbrev pub Agreeing : Row → Core → Core → Core → Core → Type 0
Agreeing r c d c' d' = SameWorld c' d' × ((x : Place) → RowDefines r x ⊎ (held_in x c ≡ held_in x d) → held_in x c' ≡ held_in x d')

agree_put : (rd v q : ℕ) (regs regs' : ℕ → Option ℕ) → ((q ≡ rd → ⊥) → content regs q ≡ content regs' q) →
    content (put rd v regs) q ≡ content (put rd v regs') q
agree_put rd v q regs regs' h =
    elim (cases_eq q rd) as (λ z. content (put rd v regs) q ≡ content (put rd v regs') q) [
      | inl e ↦ rw e (same rd)
      | inr ne ↦ put_other rd q v regs ne ∙ h ne ∙ sym (put_other rd q v regs' ne)
    ] where
      same : (k : ℕ) → content (put k v regs) k ≡ content (put k v regs') k
      same zero = refl
      same (suc k) = updated_same (suc k) (Some v) regs ∙ sym (updated_same (suc k) (Some v) regs')

pub agree_all : (rs vs : List ℕ) (q : ℕ) (regs regs' : ℕ → Option ℕ) → ((Contains rs q → ⊥) → content regs q ≡ content regs' q) →
    content (put_all rs vs regs) q ≡ content (put_all rs vs regs') q
agree_all [] vs q regs regs' h = h (λ k. none k) where
  none : Contains [] q → ⊥
  none k = omega (arith, k.1)
agree_all (r ∷ rs) [] q regs regs' h = agree_all rs [] q (put r 0 regs) (put r 0 regs')
    (λ out. agree_put r 0 q regs regs' (λ ne. h (λ k. out (Contains-tail r rs q (λ e. ne (sym e)) k))))
agree_all (r ∷ rs) (v ∷ vs) q regs regs' h = agree_all rs vs q (put r v regs) (put r v regs')
    (λ out. agree_put r v q regs regs' (λ ne. h (λ k. out (Contains-tail r rs q (λ e. ne (sym e)) k))))

-- what a row does depends only on what it reads
module _ (c : Core) (regs slots : ℕ → Option ℕ) (pairs : ℕ → ℕ → Option ℕ) (marks : List (VarId × Option ℕ)) where
  abbrev d : Core
  d = other_places regs slots pairs marks c

  abbrev UsesAlike : Row → Type 0
  UsesAlike r = (x : Place) → RowUses r x → held_in x c ≡ held_in x d

  read_alike : (r : Row) → UsesAlike r → (q : ℕ) → Contains (reads r) q → read c q ≡ read d q
  read_alike r u q k = ap or_zero (u (Register q) k)

  same_world : SameWorld c d
  same_world = record { entry = refl; area = refl; objects = refl; symbols = refl; memory = refl; script = refl; events = refl }

  set_alike : (r : Row) (rd v w : ℕ) → ((q : ℕ) → q ≡ rd → RowDefines r (Register q)) → ((q : ℕ) → RowDefines r (Register q) → q ≡ rd) →
      ((n : ℕ) → RowDefines r (Slot n) → ⊥) → v ≡ w → Agreeing r c d (set_register rd v c) (set_register rd w d)
  set_alike r rd v w on only slotless e = (
    record {
      entry = refl;
      area = refl;
      objects = refl;
      symbols = refl;
      memory = refl;
      script = refl;
      events = refl;
    },
    by_place,
  ) where
    by_place : (x : Place) → RowDefines r x ⊎ (held_in x c ≡ held_in x d) → held_in x (set_register rd v c) ≡ held_in x (set_register rd w d)
    by_place (Register q) h = subst (λ (z : ℕ). content (put rd v c.regs) q ≡ content (put rd z regs) q) e
        (agree_put rd v q c.regs regs (λ ne. elim h as (λ _. content c.regs q ≡ content regs q) [ inl k ↦ absurd (ne (only q k)) | inr k ↦ k ]))
    by_place (Slot n) h = elim h as (λ _. c.slots n ≡ slots n) [ inl k ↦ absurd (slotless n k) | inr k ↦ k ]
    by_place (Const z) h = refl

  is_one : (rd q : ℕ) → Contains (rd ∷ []) q → q ≡ rd
  is_one rd q (zero, lt, e) = sym e
  is_one rd q (suc k, lt, e) = absurd (omega (arith, lt))

  stay_alike : (r : Row) → ((x : Place) → RowDefines r x → ⊥) → Agreeing r c d c d
  stay_alike r none = (same_world, λ x h. elim h as (λ _. held_in x c ≡ held_in x d) [ inl k ↦ absurd (none x k) | inr k ↦ k ])

  none_in : (q : ℕ) → Contains [] q → ⊥
  none_in q k = omega (arith, k.1)

  -- a base leads to the same address in both, and an access there is a frame fault in both or in neither
  base_alike : (r : Row) → UsesAlike r → (b : Base) → ((q : ℕ) → Contains (base_reads b) q → Contains (reads r) q) → base_value c b ≡ base_value d b
  base_alike r u (PointedBy q) in' = read_alike r u q (in' q (contains_head q []))
  base_alike r u (ObjectAt n) in' = refl
  base_alike r u (BesidePart q y) in' =
      ap (λ (z : ℕ). (z + linked_value c.symbols Lower y) % 2 ^ 64) (read_alike r u q (in' q (contains_head q [])))

  fault_alike : (b : Base) (a n : ℕ) → is_fault b c a n ≡ is_fault b d a n
  fault_alike (PointedBy q) a n = refl
  fault_alike (ObjectAt m) a n = refl
  fault_alike (BesidePart q y) a n = refl

  loaded_alike : (rd : ℕ) (op : LoadOp) (b : Base) (o a : ℕ) → EndAlike (Agreeing (Loads rd op b o) c d) (loaded rd op b a c) (loaded rd op b a d)
  loaded_alike rd op b o a =
      let r = Loads rd op b o in
      let v = extended op (spelled c.memory a (load_width op)) in
      subst (λ (z : Bool). EndAlike (Agreeing r c d) (loaded rd op b a c) (cond z Traps (Falls (set_register rd v d)))) (fault_alike b a (load_width op))
      (alike_either (Agreeing r c d) (is_fault b c a (load_width op)) Traps (Falls (set_register rd v c)) Traps (Falls (set_register rd v d)) tt
      (set_alike r rd v v (λ q e. one_is rd q e) (λ q k. is_one rd q k) (λ n k. k) refl))

  stored_alike : (op : StoreOp) (rs : ℕ) (b : Base) (o a v : ℕ) →
      EndAlike (Agreeing (Stores op rs b o) c d) (put_in_memory op b a v c) (put_in_memory op b a v d)
  stored_alike op rs b o a v =
      let r = Stores op rs b o in
      let bytes = low_bytes (store_width op) v in
      subst (λ (z : Bool). EndAlike (Agreeing r c d) (put_in_memory op b a v c) (cond z Traps (Falls (saved a bytes d)))) (fault_alike b a (store_width op))
      (alike_either (Agreeing r c d) (is_fault b c a (store_width op)) Traps (Falls (saved a bytes c)) Traps (Falls (saved a bytes d)) tt
      (record { entry = refl; area = refl; objects = refl; symbols = refl; memory = refl; script = refl; events = refl }, by_place bytes)) where
        by_place : (bytes : List ℕ) (x : Place) → RowDefines (Stores op rs b o) x ⊎ (held_in x c ≡ held_in x d) →
            held_in x (saved a bytes c) ≡ held_in x (saved a bytes d)
        by_place bytes (Register q) h = elim h as (λ _. content c.regs q ≡ content regs q) [ inl k ↦ absurd (none_in q k) | inr k ↦ k ]
        by_place bytes (Slot n) h = elim h as (λ _. c.slots n ≡ slots n) [ inl k ↦ absurd k | inr k ↦ k ]
        by_place bytes (Const z) h = refl

  map_alike : (r : Row) → UsesAlike r → (qs : List ℕ) → ((q : ℕ) → Contains qs q → Contains (reads r) q) → map (read c) qs ≡ map (read d) qs
  map_alike r u [] in' = refl
  map_alike r u (q ∷ qs) in' =
      let e = read_alike r u q (in' q (contains_head q qs)) in
      let es = map_alike r u qs (λ p k. in' p (contains_tail q p qs k)) in
      λ i. e i ∷ es i

  written_alike : (r : Row) → UsesAlike r → (qs : List ℕ) → ((q : ℕ) → Contains qs q → Contains (reads r) q) → are_written c qs ≡ are_written d qs
  written_alike r u [] in' = refl
  written_alike r u (q ∷ qs) in' =
      let e : is_some (content c.regs q) ≡ is_some (content regs q) = ap is_some (u (Register q) (in' q (contains_head q qs))) in
      let es = written_alike r u qs (λ p k. in' p (contains_tail q p qs k)) in
      λ i. e i && es i

  passed_alike : (r : Row) → UsesAlike r → (ns : List ℕ) → ((n : ℕ) → Contains ns n → RowUses r (Slot n)) →
      map (slot_value c) ns ≡ map (slot_value d) ns
  passed_alike r u [] in' = refl
  passed_alike r u (n ∷ ns) in' =
      let e = ap or_zero (u (Slot n) (in' n (contains_head n ns))) in
      let es = passed_alike r u ns (λ p k. in' p (contains_tail n p ns k)) in
      λ i. e i ∷ es i

  are_passed_alike : (r : Row) → UsesAlike r → (ns : List ℕ) → ((n : ℕ) → Contains ns n → RowUses r (Slot n)) → are_passed c ns ≡ are_passed d ns
  are_passed_alike r u [] in' = refl
  are_passed_alike r u (n ∷ ns) in' =
      let e : is_some (c.slots n) ≡ is_some (slots n) = ap is_some (u (Slot n) (in' n (contains_head n ns))) in
      let es = are_passed_alike r u ns (λ p k. in' p (contains_tail n p ns k)) in
      λ i. e i && es i

  callee_alike : (r : Row) → UsesAlike r → (callee : Callee) → ((q : ℕ) → Contains (callee_reads callee) q → Contains (reads r) q) →
      called_at c callee ≡ called_at d callee
  callee_alike r u (Named name) in' = refl
  callee_alike r u (Held q) in' = ap Address (read_alike r u q (in' q (contains_head q [])))

  way_alike : (r : Row) → UsesAlike r → (way : Way Callee) → ((q : ℕ) → Contains (way_reads way) q → Contains (reads r) q) → way_at c way ≡ way_at d way
  way_alike r u Back in' = refl
  way_alike r u (Tail callee) in' = ap (λ (t : CallTarget). Tail t) (callee_alike r u callee in')
  way_alike r u (Never callee) in' = ap (λ (t : CallTarget). Never t) (callee_alike r u callee in')

  does_alike : (r : Row) → UsesAlike r → EndAlike (Agreeing r c d) (does r c) (does r d)
  unfolding does
  does_alike (Fixes rd n) u = set_alike (Fixes rd n) rd n n (λ q e. one_is rd q e) (λ q k. is_one rd q k) (λ m k. k) refl
  does_alike (Moves rd rs) u = set_alike (Moves rd rs) rd (read c rs) (read d rs) (λ q e. one_is rd q e) (λ q k. is_one rd q k) (λ m k. k)
      (read_alike (Moves rd rs) u rs (contains_head rs []))
  does_alike (Sets rd op a (Content b)) u =
      let r = Sets rd op a (Content b) in
      let ea = read_alike r u a (contains_head a (b ∷ [])) in
      let eb = read_alike r u b (contains_tail a b (b ∷ []) (contains_head b [])) in
      set_alike r rd (computed op (read c a) (read c b)) (computed op (read d a) (read d b)) (λ q e. one_is rd q e) (λ q k. is_one rd q k) (λ m k. k)
      (λ i. computed op (ea i) (eb i))
  does_alike (Sets rd op a (Number n)) u =
      let r = Sets rd op a (Number n) in
      let ea = read_alike r u a (contains_head a []) in
      set_alike r rd (computed op (read c a) n) (computed op (read d a) n) (λ q e. one_is rd q e) (λ q k. is_one rd q k) (λ m k. k) (λ i. computed op (ea i) n)
  does_alike (Sets rd op a (PartOf half y)) u =
      let r = Sets rd op a (PartOf half y) in
      let v = linked_value c.symbols half y in
      let ea = read_alike r u a (contains_head a []) in
      set_alike r rd (computed op (read c a) v) (computed op (read d a) v) (λ q e. one_is rd q e) (λ q k. is_one rd q k) (λ m k. k) (λ i. computed op (ea i) v)
  does_alike (Addresses rd n o) u =
      let a = address_at c (ObjectAt n) o in
      set_alike (Addresses rd n o) rd a a (λ q e. one_is rd q e) (λ q k. is_one rd q k) (λ m k. k) refl
  does_alike (Loads rd op b o) u =
      let r = Loads rd op b o in
      let e = base_alike r u b (λ q k. k) in
      subst (λ (z : ℕ). EndAlike (Agreeing r c d) (does r c) (loaded rd op b ((z + o) % 2 ^ 64) d)) e (loaded_alike rd op b o (address_at c b o))
  does_alike (Stores op rs b o) u =
      let r = Stores op rs b o in
      let e = read_alike r u rs (contains_head rs (base_reads b)) in
      let eb = base_alike r u b (λ q k. contains_tail rs q (base_reads b) k) in
      let Goal : ℕ → ℕ → Type 0 = λ v z. EndAlike (Agreeing r c d) (does r c) (put_in_memory op b ((z + o) % 2 ^ 64) v d) in
      subst (λ (z : ℕ). Goal (read d rs) z) eb (subst (λ (v : ℕ). Goal v (base_value c b)) e (stored_alike op rs b o (address_at c b o) (read c rs)))
  does_alike (LoadsSlot rd n) u = subst (λ (z : Option ℕ). EndAlike (Agreeing (LoadsSlot rd n) c d) (slot_loaded rd c (c.slots n)) (slot_loaded rd d z))
      (u (Slot n) refl) (by_slot (c.slots n)) where
        by_slot : (x : Option ℕ) → EndAlike (Agreeing (LoadsSlot rd n) c d) (slot_loaded rd c x) (slot_loaded rd d x)
        by_slot None = tt
        by_slot (Some v) = set_alike (LoadsSlot rd n) rd v v (λ q e. one_is rd q e) (λ q k. is_one rd q k) (λ m k. k) refl
  does_alike (StoresSlot rs n) u = (
    record {
      entry = refl;
      area = refl;
      objects = refl;
      symbols = refl;
      memory = refl;
      script = refl;
      events = refl;
    },
    by_place,
  ) where
    e : read c rs ≡ read d rs
    e = read_alike (StoresSlot rs n) u rs (contains_head rs [])

    by_place : (x : Place) → RowDefines (StoresSlot rs n) x ⊎ (held_in x c ≡ held_in x d) →
        held_in x (record c { slots = updated n (Some (read c rs)) c.slots }) ≡ held_in x (record d { slots = updated n (Some (read d rs)) slots })
    by_place (Register q) h = elim h as (λ _. content c.regs q ≡ content regs q) [ inl k ↦ absurd (none_in q k) | inr k ↦ k ]
    by_place (Slot m) h =
        elim (cases_eq m n) as (λ _. updated n (Some (read c rs)) c.slots m ≡ updated n (Some (read d rs)) slots m) [
          | inl k ↦ rw k (updated_same n (Some (read c rs)) c.slots ∙ ap Some e ∙ sym (updated_same n (Some (read d rs)) slots))
          | inr ne ↦ updated_other n m (Some (read c rs)) c.slots ne ∙ elim h as (λ _. c.slots m ≡ slots m) [ inl k ↦ absurd (ne (sym k)) | inr k ↦ k ] ∙
              sym (updated_other n m (Some (read d rs)) slots ne)
        ]
    by_place (Const z) h = refl
  does_alike (Branches op a b t) u =
      let r = Branches op a b t in
      let ea = read_alike r u a (contains_head a (b ∷ [])) in
      let eb = read_alike r u b (contains_tail a b (b ∷ []) (contains_head b [])) in
      let e : taken op (read c a) (read c b) ≡ taken op (read d a) (read d b) = λ i. taken op (ea i) (eb i) in
      let st = stay_alike r (no_places r refl) in
      subst (λ (z : Bool). EndAlike (Agreeing r c d) (cond (taken op (read c a) (read c b)) (Goes t c) (Falls c)) (cond z (Goes t d) (Falls d))) e
      (alike_either (Agreeing r c d) (taken op (read c a) (read c b)) (Goes t c) (Falls c) (Goes t d) (Falls d) (refl, st) st) where
        no_places : (r : Row) → r ≡ Branches op a b t → (x : Place) → RowDefines r x → ⊥
        no_places r is x k = none x (subst (λ (z : Row). RowDefines z x) is k) where
          none : (x : Place) → RowDefines (Branches op a b t) x → ⊥
          none (Register q) k = none_in q k
          none (Slot n) k = k
          none (Const z) k = k
  does_alike (Jumps t) u = (refl, stay_alike (Jumps t) none) where
    none : (x : Place) → RowDefines (Jumps t) x → ⊥
    none (Register q) k = none_in q k
    none (Slot n) k = k
    none (Const z) k = k
  does_alike (Calls call) u =
      let e = callee_alike (Calls call) u call.callee (λ q k. contains_front (callee_reads call.callee) call.args q k) in
      let es = map_alike (Calls call) u call.args (λ q k. contains_back (callee_reads call.callee) call.args q k) in
      let os = passed_alike (Calls call) u call.outgoing (λ n k. k) in
      let same : passed c call ≡ passed d call = λ i. es i ++ os i in
      let Goal : CallTarget → List ℕ → Type 0 = λ t vs. EndAlike (Agreeing (Calls call) c d) (does (Calls call) c)
      (exec_external_call t vs call.outgoing d c.script) in
      subst (λ (vs : List ℕ). Goal (called_at d call.callee) vs) same (subst (λ (t : CallTarget). Goal t (passed c call)) e
      (by_script (called_at c call.callee) (passed c call) c.script)) where
        by_place : (x : Place) (t : CallTarget) (vs : List ℕ) (r : Reply) (rs : List Reply) → RowDefines (Calls call) x ⊎ (held_in x c ≡ held_in x d) →
            held_in x (after_reply t vs call.outgoing c r rs) ≡ held_in x (after_reply t vs call.outgoing d r rs)
        by_place (Register q) t vs r rs h = agree_all caller_saved r.regs q c.regs regs
            (λ out. elim h as (λ _. content c.regs q ≡ content regs q) [ inl k ↦ absurd (out k) | inr k ↦ k ])
        by_place (Slot n) t vs r rs h = elim h as (λ _. without call.outgoing c.slots n ≡ without call.outgoing slots n) [
          | inl k ↦ without_among call.outgoing n c.slots k ∙ sym (without_among call.outgoing n slots k)
          | inr k ↦ ap (λ (v : Option ℕ). cond (list_any (nat_eq n) call.outgoing) None v) k
        ]
        by_place (Const z) t vs r rs h = refl

        by_script : (t : CallTarget) (vs : List ℕ) (rs : List Reply) →
            EndAlike (Agreeing (Calls call) c d) (exec_external_call t vs call.outgoing c rs) (exec_external_call t vs call.outgoing d rs)
        by_script t vs [] = tt
        by_script t vs (r ∷ rs) =
            subst (λ (z : Bool). EndAlike (Agreeing (Calls call) c d) (exec_external_call t vs call.outgoing c (r ∷ rs))
            (cond (not z || writes_frame c.entry c.area r.writes) Traps (Falls (after_reply t vs call.outgoing d r rs))))
            (are_passed_alike (Calls call) u call.outgoing (λ n k. k))
            (alike_either (Agreeing (Calls call) c d) (call_faults c call.outgoing r) Traps _ Traps _ tt
            (record { entry = refl; area = refl; objects = refl; symbols = refl; memory = refl; script = refl; events = refl }, λ x h. by_place x t vs r rs h))
  does_alike (Returns ending) u =
      let e = way_alike (Returns ending) u ending.way (λ q k. contains_front (way_reads ending.way) ending.values q k) in
      let es = map_alike (Returns ending) u ending.values (λ q k. contains_back (way_reads ending.way) ending.values q k) in
      λ i. record { way = e i; values = es i }
  does_alike Unfit u = tt

  act_other : (r : Row) → UsesAlike r → EndAlike (Agreeing r c d) (act r c) (act r d)
  unfolding act
  act_other r u = subst (λ (z : Bool). EndAlike (Agreeing r c d) (cond (are_written c (reads r)) (does r c) Traps) (cond z (does r d) Traps))
      (written_alike r u (reads r) (λ q k. k)) (alike_either (Agreeing r c d) (are_written c (reads r)) (does r c) Traps (does r d) Traps (does_alike r u) tt)

-- code does alike in cores that agree on what it reads
pub act_alike : (r : Row) (c d : Core) → SameWorld c d → ((x : Place) → RowUses r x → held_in x c ≡ held_in x d) → EndAlike (Agreeing r c d) (act r c) (act r d)
act_alike r c d w u =
    let made : Core = other_places d.regs d.slots d.pairs d.marks c in
    let e : made ≡ d = λ i. record {
      entry = w.entry i;
      area = w.area i;
      objects = w.objects i;
      symbols = w.symbols i;
      regs = d.regs;
      slots = d.slots;
      memory = w.memory i;
      script = w.script i;
      events = w.events i;
      pairs = d.pairs;
      marks = d.marks;
    } in
    subst (λ (z : Core). EndAlike (Agreeing r c z) (act r c) (act r z)) e (act_other c d.regs d.slots d.pairs d.marks r (λ x k. at x (u x k))) where
      at : (x : Place) → held_in x c ≡ held_in x d → held_in x c ≡ held_in x (other_places d.regs d.slots d.pairs d.marks c)
      at (Register r) e = e
      at (Slot n) e = e
      at (Const z) e = e
