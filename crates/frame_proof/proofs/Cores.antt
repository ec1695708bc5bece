-- A core of a function beside one of the function with its frame: alike but for registers, and slots lie at their offsets.
use Rattle.std.proofs.Common.{◌≡◌, ◌⊎◌, ℕ, zero, suc, ◌+◌, ◌%◌, ◌^◌, ◌<◌, List, [], ◌∷◌, map, length, All, Contains, Option, Some, None, IsSome, Bool, true}
use Rattle.std.proofs.Common.{false, ◌++◌, ◌*◌, ◌≤◌, ◌||◌, not}
use Rattle.std.specs.List.{list_any}
use Rattle.std.proofs.Common.{cond, nat_eq, ◌&&◌, is_some, refl, sym, ap, ◌∙◌, subst, inl, inr, eq-eqb, arith}
use Rattle.std.proofs.lemmas.Bool.{cases_eq, eqb-true, ne_eqb}
use Rattle.std.proofs.lemmas.List.Elements.{All-head, All-tail}
use Rattle.rv64_instr.specs.Row.{Input, Content, Number, PartOf}
use Rattle.rv64_instr.specs.Row.{PointedBy, ObjectAt, BesidePart}
use Rattle.rv64_instr.specs.declared.symbol.Half.TheVariants.{Lower}
use Rattle.rv64_instr.specs.Linked.{linked_value}
use Rattle.rv64_instr.specs.Arithmetic.{computed, taken, load_width, store_width, extended}
use Rattle.rv64_instr.specs.Row.{Row, Fixes, Moves, Sets, Addresses, Loads, Stores, LoadsSlot, StoresSlot, Branches, Jumps, Calls, Returns, Unfit}
use Rattle.rv64_instr.specs.Row.{Callee, Named, Held, Way, Back, Tail, Never, Ending}
use Rattle.rv64_instr.specs.DefsAndUses.{caller_saved, reads, input_reads, callee_reads, way_reads}
use Rattle.rv64_instr.specs.declared.start.CallTarget.{CallTarget}
use Rattle.rv64_instr.specs.declared.start.CallTarget.TheVariants.{Address}
use Rattle.mir_func.specs.declared.framed.SavedRegister.{SavedRegister}
use Rattle.mir_func.specs.Sound.{SlotIn}
use Rattle.mir_func.proofs.Passed.{slots_passed}
use Rattle.sem_mir.specs.State.{Core, Reply, updated, content, put, put_all, spelled, low_bytes, writes_frame}
use Rattle.sem_mir.specs.Step.{Falls, Goes, Traps, or_zero, read, input_value, address_at, is_fault, set_register, exec_external_call, slot_loaded}
use Rattle.sem_mir.specs.Step.{saved as written_to, does, act, are_written, called_at, way_at, result_at, slot_value, passed, are_passed, call_faults}
use Rattle.sem_mir.specs.Effects.{EndAlike}
use Rattle.sem_mir.proofs.Outcomes.{after_reply, alike_either}
use Rattle.sem_mir.proofs.Places.{updated_same, updated_other, put_other, all_front, all_back}
use Rattle.frame_rule.specs.Rule.{slots_before, slot_offset}
use Rattle.frame_rule.proofs.Rows.{renamed_call, renamed_row}

-- a core with other registers and slots
abbrev pub with_places : (ℕ → Option ℕ) → (ℕ → Option ℕ) → Core → Core
with_places regs slots c = record c { regs = regs; slots = slots }

-- the registers that are alike, and the saved registers that aren't in their slots yet
pub record Beside (slots : List ℕ) (saved : List SavedRegister) (Alike : ℕ → Type 0) (todo : List SavedRegister) (c d : Core) : Type 0 where
  pub same : with_places d.regs d.slots c ≡ d
  pub regs : (r : ℕ) → Alike r → content d.regs r ≡ content c.regs r
  pub kept : (n : ℕ) → Contains slots n → d.slots (slot_offset slots n) ≡ c.slots n
  pub held : (s : SavedRegister) → Contains saved s → IsSome (d.slots s.offset) ⊎ Contains todo s
  pub written : (r : ℕ) → r < 32 → IsSome (content d.regs r)

-- ---- places

pub put_alike : (rd v q : ℕ) (regs regs' : ℕ → Option ℕ) → content regs q ≡ content regs' q → content (put rd v regs) q ≡ content (put rd v regs') q
put_alike rd v q regs regs' h =
    elim (cases_eq q rd) as (λ z. content (put rd v regs) q ≡ content (put rd v regs') q) [
      | inl e ↦ rw e (same rd)
      | inr ne ↦ put_other rd q v regs ne ∙ h ∙ sym (put_other rd q v regs' ne)
    ] where
      same : (k : ℕ) → content (put k v regs) k ≡ content (put k v regs') k
      same zero = refl
      same (suc k) = updated_same (suc k) (Some v) regs ∙ sym (updated_same (suc k) (Some v) regs')

pub put_written : (rd v q : ℕ) (regs : ℕ → Option ℕ) → IsSome (content regs q) → IsSome (content (put rd v regs) q)
put_written rd v q regs h =
    elim (cases_eq q rd) as (λ z. IsSome (content (put rd v regs) q)) [
      | inl e ↦ rw e (same rd)
      | inr ne ↦ subst IsSome (sym (put_other rd q v regs ne)) h
    ] where
      same : (k : ℕ) → IsSome (content (put k v regs) k)
      same zero = refl
      same (suc k) = subst IsSome (sym (updated_same (suc k) (Some v) regs)) refl

pub puts_alike : (rs vs : List ℕ) (q : ℕ) (regs regs' : ℕ → Option ℕ) → content regs q ≡ content regs' q →
    content (put_all rs vs regs) q ≡ content (put_all rs vs regs') q
puts_alike [] vs q regs regs' h = h
puts_alike (r ∷ rs) [] q regs regs' h = puts_alike rs [] q (put r 0 regs) (put r 0 regs') (put_alike r 0 q regs regs' h)
puts_alike (r ∷ rs) (v ∷ vs) q regs regs' h = puts_alike rs vs q (put r v regs) (put r v regs') (put_alike r v q regs regs' h)

pub puts_written : (rs vs : List ℕ) (q : ℕ) (regs : ℕ → Option ℕ) → IsSome (content regs q) → IsSome (content (put_all rs vs regs) q)
puts_written [] vs q regs h = h
puts_written (r ∷ rs) [] q regs h = puts_written rs [] q (put r 0 regs) (put_written r 0 q regs h)
puts_written (r ∷ rs) (v ∷ vs) q regs h = puts_written rs vs q (put r v regs) (put_written r v q regs h)

pub updated_written : (k v q : ℕ) (f : ℕ → Option ℕ) → IsSome (f q) → IsSome (updated k (Some v) f q)
updated_written k v q f h = by_test (nat_eq q k) where
  by_test : (b : Bool) → IsSome (cond b (Some v) (f q))
  by_test true = refl
  by_test false = h

no_member : {A : Type 0} (x : A) → Contains [] x → ⊥
no_member x (k, lt, e) = absurd (omega (arith, lt))

in_first : (s : ℕ) (slots : List ℕ) (n : ℕ) → Contains (s ∷ slots) n → (s ≡ n → ⊥) → Contains slots n
in_first s slots n (zero, lt, e) ne = absurd (ne e)
in_first s slots n (suc k, lt, e) ne = (k, omega (arith, lt), e)

-- a declared slot lies below the saved registers
pub slots_below : (slots : List ℕ) (n : ℕ) → Contains slots n → slots_before slots n < length slots
slots_below [] n h = absurd (no_member n h)
slots_below (s ∷ slots) n h = by_test (nat_eq s n) refl (slots_below slots n) where
  by_test : (b : Bool) → nat_eq s n ≡ b → (Contains slots n → slots_before slots n < length slots) →
      cond b 0 (suc (slots_before slots n)) < length (s ∷ slots)
  by_test true e more = omega arith
  by_test false e more = let k = more (in_first s slots n h (λ w. (let bad : false ≡ true = sym e ∙ eq-eqb s n w in cc))) in omega (arith, k)

-- two declared slots of one offset are one
pub slots_differ : (slots : List ℕ) (n m : ℕ) → Contains slots n → Contains slots m → slots_before slots n ≡ slots_before slots m → n ≡ m
slots_differ [] n m h k e = absurd (no_member n h)
slots_differ (s ∷ slots) n m h k e = by_tests (nat_eq s n) (nat_eq s m) refl refl e (slots_differ slots n m) where
  no_test : (q : ℕ) → nat_eq s q ≡ false → Contains (s ∷ slots) q → Contains slots q
  no_test q z c = in_first s slots q c (λ w. (let bad : false ≡ true = sym z ∙ eq-eqb s q w in cc))

  by_tests : (a b : Bool) → nat_eq s n ≡ a → nat_eq s m ≡ b → cond a 0 (suc (slots_before slots n)) ≡ cond b 0 (suc (slots_before slots m)) →
      (Contains slots n → Contains slots m → slots_before slots n ≡ slots_before slots m → n ≡ m) → n ≡ m
  by_tests true true x y e more = sym (eqb-true s n x) ∙ eqb-true s m y
  by_tests true false x y e more = absurd (omega (arith, e))
  by_tests false true x y e more = absurd (omega (arith, e))
  by_tests false false x y e more = more (no_test n x h) (no_test m y k) (omega (arith, e))

-- the offset of a declared slot is among those of others exactly if the slot is among these, and what lies above declared slots never is
same_offset : (slots : List ℕ) (n m : ℕ) → Contains slots n → Contains slots m → nat_eq (slot_offset slots n) (slot_offset slots m) ≡ nat_eq n m
same_offset slots n m h k = elim (cases_eq n m) as (λ _. nat_eq (slot_offset slots n) (slot_offset slots m) ≡ nat_eq n m) [
  | inl e ↦ eq-eqb (slot_offset slots n) (slot_offset slots m) (ap (slot_offset slots) e) ∙ sym (eq-eqb n m e)
  | inr ne ↦ ne_eqb (slot_offset slots n) (slot_offset slots m) (λ w. ne (slots_differ slots n m h k (omega (arith, w)))) ∙ sym (ne_eqb n m ne)
]

among_offsets : (slots ns : List ℕ) (n : ℕ) → All (Contains slots) ns → Contains slots n →
    list_any (nat_eq (slot_offset slots n)) (map (slot_offset slots) ns) ≡ list_any (nat_eq n) ns
among_offsets slots [] n k h = refl
among_offsets slots (m ∷ ns) n k h =
    let a = same_offset slots n m h (All-head (Contains slots) m ns k) in
    let b = among_offsets slots ns n (All-tail (Contains slots) m ns k) h in
    λ i. a i || b i

above_offsets : (slots ns : List ℕ) (o : ℕ) → All (Contains slots) ns → 8 * length slots ≤ o → list_any (nat_eq o) (map (slot_offset slots) ns) ≡ false
above_offsets slots [] o k le = refl
above_offsets slots (m ∷ ns) o k le =
    let low = slots_below slots m (All-head (Contains slots) m ns k) in
    let a = ne_eqb o (slot_offset slots m) (λ e. omega (arith, low, le, e)) in
    let b = above_offsets slots ns o (All-tail (Contains slots) m ns k) le in
    λ i. a i || b i

-- ---- rows

-- saved registers lie above the slots
abbrev pub AreAbove : (slots : List ℕ) (saved : List SavedRegister) → Type 0
AreAbove slots saved = (s : SavedRegister) → Contains saved s → 8 * length slots ≤ s.offset

module _ (slots : List ℕ) (saved : List SavedRegister) (Alike : ℕ → Type 0) (todo : List SavedRegister) where
  abbrev pub Near : Core → Core → Type 0
  Near c d = Beside slots saved Alike todo c d

  pub read_near : (c d : Core) → Near c d → (r : ℕ) → Alike r → read c r ≡ read d r
  read_near c d h r k = ap or_zero (sym (h.regs r k))

  pub written_near : (c d : Core) → Near c d → (rs : List ℕ) → All Alike rs → are_written c rs ≡ are_written d rs
  written_near c d h [] k = refl
  written_near c d h (r ∷ rs) k =
      let a : is_some (content c.regs r) ≡ is_some (content d.regs r) = ap is_some (sym (h.regs r (All-head Alike r rs k))) in
      let b = written_near c d h rs (All-tail Alike r rs k) in
      λ i. a i && b i

  pub reads_near : (c d : Core) → Near c d → (rs : List ℕ) → All Alike rs → map (read c) rs ≡ map (read d) rs
  reads_near c d h [] k = refl
  reads_near c d h (r ∷ rs) k =
      let a = read_near c d h r (All-head Alike r rs k) in
      let b = reads_near c d h rs (All-tail Alike r rs k) in
      λ i. a i ∷ b i

  -- the slots that a call passes
  slots_near : (c d : Core) → Near c d → (ns : List ℕ) → All (Contains slots) ns → map (slot_value c) ns ≡ map (slot_value d) (map (slot_offset slots) ns)
  slots_near c d h [] k = refl
  slots_near c d h (n ∷ ns) k =
      let a : slot_value c n ≡ slot_value d (slot_offset slots n) = ap or_zero (sym (h.kept n (All-head (Contains slots) n ns k))) in
      let b = slots_near c d h ns (All-tail (Contains slots) n ns k) in
      λ i. a i ∷ b i

  are_passed_near : (c d : Core) → Near c d → (ns : List ℕ) → All (Contains slots) ns → are_passed c ns ≡ are_passed d (map (slot_offset slots) ns)
  are_passed_near c d h [] k = refl
  are_passed_near c d h (n ∷ ns) k =
      let a : is_some (c.slots n) ≡ is_some (d.slots (slot_offset slots n)) = ap is_some (sym (h.kept n (All-head (Contains slots) n ns k))) in
      let b = are_passed_near c d h ns (All-tail (Contains slots) n ns k) in
      λ i. a i && b i

  callee_near : (c d : Core) → Near c d → (callee : Callee) → All Alike (callee_reads callee) → called_at c callee ≡ called_at d callee
  callee_near c d h (Named name) k = refl
  callee_near c d h (Held r) k = ap Address (read_near c d h r (All-head Alike r [] k))

  way_near : (c d : Core) → Near c d → (way : Way Callee) → All Alike (way_reads way) → way_at c way ≡ way_at d way
  way_near c d h Back k = refl
  way_near c d h (Tail callee) k = ap (λ (t : CallTarget). Tail t) (callee_near c d h callee k)
  way_near c d h (Never callee) k = ap (λ (t : CallTarget). Never t) (callee_near c d h callee k)

  pub result_near : (c d : Core) → Near c d → (ending : Ending Callee) → All Alike (way_reads ending.way ++ ending.values) →
      result_at c ending ≡ result_at d ending
  result_near c d h ending k =
      let a = way_near c d h ending.way (all_front Alike (way_reads ending.way) ending.values k) in
      let b = reads_near c d h ending.values (all_back Alike (way_reads ending.way) ending.values k) in
      λ i. record { way = a i; values = b i }

  module _ (c : Core) (regs' slots' : ℕ → Option ℕ) (h : Near c (with_places regs' slots' c)) where
    abbrev d : Core
    d = with_places regs' slots' c

    set_near : (rd v w : ℕ) → v ≡ w → Near (set_register rd v c) (set_register rd w d)
    set_near rd v w e = subst (λ (z : ℕ). Near (set_register rd v c) (set_register rd z d)) e (record {
      same = refl;
      regs = λ r k. put_alike rd v r regs' c.regs (h.regs r k);
      kept = h.kept;
      held = h.held;
      written = λ r lt. put_written rd v r regs' (h.written r lt);
    })

    input_near : (b : Input) → All Alike (input_reads b) → input_value c b ≡ input_value d b
    input_near (Content r) k = read_near c d h r (All-head Alike r [] k)
    input_near (Number n) k = refl
    input_near (PartOf half y) k = refl

    load_near : (rd a a' : ℕ) (v : ℕ → ℕ) (bad : ℕ → Bool) → a ≡ a' →
        EndAlike Near (cond (bad a) Traps (Falls (set_register rd (v a) c))) (cond (bad a') Traps (Falls (set_register rd (v a') d)))
    load_near rd a a' v bad e =
        subst (λ (z : ℕ). EndAlike Near (cond (bad a) Traps (Falls (set_register rd (v a) c))) (cond (bad z) Traps (Falls (set_register rd (v z) d)))) e
        (alike_either Near (bad a) Traps _ Traps _ tt (set_near rd (v a) (v a) refl))

    store_near : (a a' : ℕ) (bytes bytes' : List ℕ) (bad : ℕ → Bool) → a ≡ a' → bytes ≡ bytes' →
        EndAlike Near (cond (bad a) Traps (Falls (written_to a bytes c))) (cond (bad a') Traps (Falls (written_to a' bytes' d)))
    store_near a a' bytes bytes' bad e f =
        let at : (z : ℕ) (w : List ℕ) → Type 0 = λ z w. EndAlike Near (cond (bad a) Traps (Falls (written_to a bytes c))) (cond (bad z) Traps (Falls
        (written_to z w d))) in
        subst (λ (z : ℕ). at z bytes') e (subst (λ (w : List ℕ). at a w) f
        (alike_either Near (bad a) Traps _ Traps _ tt
        (record { same = refl; regs = h.regs; kept = h.kept; held = h.held; written = h.written })))

    slot_near : (rd : ℕ) (x y : Option ℕ) → y ≡ x → EndAlike Near (slot_loaded rd c x) (slot_loaded rd d y)
    slot_near rd None None e = tt
    slot_near rd (Some v) (Some w) e = let z : v ≡ w = cc in set_near rd v w z
    slot_near rd None (Some w) e = cc
    slot_near rd (Some v) None e = cc

    answer_near : AreAbove slots saved → (t t' : CallTarget) (args args' outgoing : List ℕ) (rs : List Reply) → t ≡ t' → args ≡ args' →
        All (Contains slots) outgoing → EndAlike Near (exec_external_call t args outgoing c rs)
        (exec_external_call t' args' (map (slot_offset slots) outgoing) d rs)
    answer_near above t t' args args' outgoing [] et e k = tt
    answer_near above t t' args args' outgoing (r ∷ rs) et e k =
        let others : List ℕ = map (slot_offset slots) outgoing in
        let here = exec_external_call t args outgoing c (r ∷ rs) in
        subst (λ (z : CallTarget). EndAlike Near here (exec_external_call z args' others d (r ∷ rs))) et
        (subst (λ (z : List ℕ). EndAlike Near here (exec_external_call t z others d (r ∷ rs))) e
        (subst (λ (z : Bool). EndAlike Near here
        (cond (not z || writes_frame c.entry c.area r.writes) Traps (Falls (after_reply t args others d r rs)))) (are_passed_near c d h outgoing k)
        (alike_either Near (call_faults c outgoing r) Traps (Falls (after_reply t args outgoing c r rs)) Traps (Falls (after_reply t args others d r rs)) tt
        (record {
          same = refl;
          regs = λ q j. puts_alike caller_saved r.regs q regs' c.regs (h.regs q j);
          kept = λ n j. (let a = among_offsets slots outgoing n k j in let b : slots' (slot_offset slots n) ≡ c.slots n = h.kept n j in
              λ i. cond (a i) None (b i));
          held = λ s j. elim (h.held s j) [
            | inl w ↦ inl (subst IsSome (sym (ap (λ (z : Bool). cond z None (slots' s.offset)) (above_offsets slots outgoing s.offset k (above s j)))) w)
            | inr w ↦ inr w
          ];
          written = λ q lt. puts_written caller_saved r.regs q regs' (h.written q lt);
        }))))

    keep_near : (rs n : ℕ) → Contains slots n → read c rs ≡ read d rs →
        Near (record c { slots = updated n (Some (read c rs)) c.slots }) (record d { slots = updated (slot_offset slots n) (Some (read d rs)) slots' })
    keep_near rs n k e = record {
      same = refl;
      regs = h.regs;
      kept = λ m j. elim (cases_eq m n) as (λ _. updated (slot_offset slots n) (Some (read d rs)) slots' (slot_offset slots m) ≡ updated n (Some (read c rs))
          c.slots m) [
            | inl w ↦ rw w (updated_same (slot_offset slots n) (Some (read d rs)) slots' ∙ ap Some (sym e) ∙ sym (updated_same n (Some (read c rs)) c.slots))
            | inr ne ↦ updated_other (slot_offset slots n) (slot_offset slots m) (Some (read d rs)) slots'
                (λ w. ne (slots_differ slots m n j k (omega (arith, w)))) ∙ h.kept m j ∙ sym (updated_other n m (Some (read c rs)) c.slots ne)
          ];
      held = λ s j. elim (h.held s j) [
        | inl w ↦ inl (updated_written (slot_offset slots n) (read d rs) s.offset slots' w)
        | inr w ↦ inr w
      ];
      written = h.written;
    }

    does_near : AreAbove slots saved → (r : Row) → All Alike (reads r) → SlotIn slots r → All (Contains slots) (slots_passed r) →
        EndAlike Near (does r c) (does (renamed_row slots r) d)
    unfolding does
    does_near above (Fixes rd n) k j p = set_near rd n n refl
    does_near above (Moves rd rs) k j p = set_near rd (read c rs) (read d rs) (read_near c d h rs (All-head Alike rs [] k))
    does_near above (Sets rd op a b) k j p =
        let x = read_near c d h a (All-head Alike a (input_reads b) k) in
        let y = input_near b (All-tail Alike a (input_reads b) k) in
        set_near rd _ _ (λ i. computed op (x i) (y i))
    does_near above (Addresses rd n o) k j p = set_near rd _ _ refl
    does_near above (Loads rd op (PointedBy r) o) k j p =
        let x = read_near c d h r (All-head Alike r [] k) in
        load_near rd ((read c r + o) % 2 ^ 64) ((read d r + o) % 2 ^ 64) (λ a. extended op (spelled c.memory a (load_width op)))
        (λ a. is_fault (PointedBy r) c a (load_width op)) (λ i. (x i + o) % 2 ^ 64)
    does_near above (Loads rd op (ObjectAt m) o) k j p =
        load_near rd (address_at c (ObjectAt m) o) (address_at d (ObjectAt m) o) (λ a. extended op (spelled c.memory a (load_width op)))
        (λ a. is_fault (ObjectAt m) c a (load_width op)) refl
    does_near above (Loads rd op (BesidePart r y) o) k j p =
        let x = read_near c d h r (All-head Alike r [] k) in
        let l = linked_value c.symbols Lower y in
        load_near rd (((read c r + l) % 2 ^ 64 + o) % 2 ^ 64) (((read d r + l) % 2 ^ 64 + o) % 2 ^ 64) (λ a. extended op (spelled c.memory a (load_width op)))
        (λ a. is_fault (BesidePart r y) c a (load_width op)) (λ i. ((x i + l) % 2 ^ 64 + o) % 2 ^ 64)
    does_near above (Stores op rs (PointedBy r) o) k j p =
        let v = read_near c d h rs (All-head Alike rs (r ∷ []) k) in
        let x = read_near c d h r (All-head Alike r [] (All-tail Alike rs (r ∷ []) k)) in
        store_near ((read c r + o) % 2 ^ 64) ((read d r + o) % 2 ^ 64) _ _ (λ a. is_fault (PointedBy r) c a (store_width op)) (λ i. (x i + o) % 2 ^ 64)
        (λ i. low_bytes (store_width op) (v i))
    does_near above (Stores op rs (ObjectAt m) o) k j p =
        let v = read_near c d h rs (All-head Alike rs [] k) in
        store_near (address_at c (ObjectAt m) o) (address_at d (ObjectAt m) o) _ _ (λ a. is_fault (ObjectAt m) c a (store_width op)) refl
        (λ i. low_bytes (store_width op) (v i))
    does_near above (Stores op rs (BesidePart r y) o) k j p =
        let v = read_near c d h rs (All-head Alike rs (r ∷ []) k) in
        let x = read_near c d h r (All-head Alike r [] (All-tail Alike rs (r ∷ []) k)) in
        let l = linked_value c.symbols Lower y in
        store_near (((read c r + l) % 2 ^ 64 + o) % 2 ^ 64) (((read d r + l) % 2 ^ 64 + o) % 2 ^ 64) _ _ (λ a. is_fault (BesidePart r y) c a (store_width op))
        (λ i. ((x i + l) % 2 ^ 64 + o) % 2 ^ 64) (λ i. low_bytes (store_width op) (v i))
    does_near above (LoadsSlot rd n) k j p = slot_near rd (c.slots n) (slots' (slot_offset slots n)) (h.kept n j)
    does_near above (StoresSlot rs n) k j p = keep_near rs n j (read_near c d h rs (All-head Alike rs [] k))
    does_near above (Branches op a b t) k j p =
        let x = read_near c d h a (All-head Alike a (b ∷ []) k) in
        let y = read_near c d h b (All-head Alike b [] (All-tail Alike a (b ∷ []) k)) in
        subst (λ (z : Bool). EndAlike Near (cond (taken op (read c a) (read c b)) (Goes t c) (Falls c)) (cond z (Goes t d) (Falls d)))
        (λ i. taken op (x i) (y i)) (alike_either Near (taken op (read c a) (read c b)) (Goes t c) (Falls c) (Goes t d) (Falls d) (refl, h) h)
    does_near above (Jumps t) k j p = (refl, h)
    does_near above (Calls call) k j p =
        let regs = reads_near c d h call.args (all_back Alike (callee_reads call.callee) call.args k) in
        let words = slots_near c d h call.outgoing p in
        answer_near above (called_at c call.callee) (called_at d call.callee) (passed c call) (passed d (renamed_call slots call)) call.outgoing c.script
        (callee_near c d h call.callee (all_front Alike (callee_reads call.callee) call.args k)) (λ i. regs i ++ words i) p
    does_near above (Returns ending) k j p = result_near c d h ending k
    does_near above Unfit k j p = tt

  -- from cores that are near, code does the same
  pub act_near : AreAbove slots saved → (c d : Core) → Near c d → (r : Row) → All Alike (reads r) → SlotIn slots r →
      All (Contains slots) (slots_passed r) → EndAlike Near (act r c) (act (renamed_row slots r) d)
  unfolding act
  act_near above c d h r k j p =
      let e : reads (renamed_row slots r) ≡ reads r = reads_same r in
      let near : Near c (with_places d.regs d.slots c) = subst (Near c) (sym h.same) h in
      let w : are_written c (reads r) ≡ are_written d (reads (renamed_row slots r)) = written_near c d h (reads r) k ∙ ap (are_written d) (sym e) in
      let core : EndAlike Near (does r c) (does (renamed_row slots r) d) =
      subst (λ (z : Core). EndAlike Near (does r c) (does (renamed_row slots r) z)) h.same (does_near c d.regs d.slots near above r k j p) in
      subst (λ (z : Bool). EndAlike Near (cond (are_written c (reads r)) (does r c) Traps) (cond z (does (renamed_row slots r) d) Traps)) w
      (alike_either Near (are_written c (reads r)) (does r c) Traps (does (renamed_row slots r) d) Traps core tt) where
        reads_same : (x : Row) → reads (renamed_row slots x) ≡ reads x
        reads_same (LoadsSlot rd n) = refl
        reads_same _ = refl
