-- A call beside the machine's, and what a number of code changes.
use Rattle.std.proofs.Common.{◌≡◌, ℕ, ◌+◌, ◌-◌, ◌%◌, ◌^◌, ◌<◌, ◌≤◌, List, [], ◌∷◌, ◌++◌, map, All, Contains, Option, Some, None, Bool, true, false, cond}
use Rattle.std.proofs.Common.{nat_eq, nat_le, is_some, not, ◌||◌, eq-eqb, le-ltb, inl, inr, refl, sym}
use Rattle.std.specs.List.{list_any}
use Rattle.std.proofs.Common.{ap}
use Rattle.std.proofs.Common.{◌∙◌, ◌&&◌, nat_lt, arith}
use Rattle.std.proofs.Common.{subst}
use Rattle.std.proofs.lemmas.Bool.{cases_lt, lt-leb, and_parts}
use Rattle.std.proofs.lemmas.List.Elements.{All-head, All-tail, All-weaker, All-contains}
use Rattle.rv64_instr.specs.declared.operand.Operand.{Operand}
use Rattle.rv64_instr.specs.Row.{Calls, CallSite, Callee, Named, Held, Way, Back, Tail, Never, Ending}
use Rattle.rv64_instr.specs.DefsAndUses.{caller_saved}
use Rattle.rv64_instr.specs.declared.start.CallTarget.{CallTarget}
use Rattle.rv64_instr.specs.declared.start.CallTarget.TheVariants.{Address}
use Rattle.mir_func.specs.Function.{FramedFunction}
use Rattle.mir_func.specs.SoundFrame.{IsFramed, IsSlotOffset, AreDoublewords, slot_offsets}
use Rattle.sem_mir.specs.State.{Core, Reply, Called, updated, spelled, written, in_frame, writes_frame, IsReply, IsInRange}
use Rattle.sem_mir.specs.Step.{Outcome, Falls, Goes, Gives, Traps, Asks, Breaks, does, read, or_zero, numbered}
use Rattle.sem_mir.specs.Step as source
use Rattle.sem_mir.proofs.Outcomes.{after_reply}
use Rattle.sem_machine.specs.Machine.{Machine, register, set_all_in, address_of}
use Rattle.sem_machine.specs.MachineStep.{Stepped, Continues, Awaits, past, step_call, in_words, is_callees, left_below, memory_after, passed, called_at}
use Rattle.sem_machine.specs.MachineStep.{way_at, result_at, callee_size, word_content, words_from}
use Rattle.machine_steps_proof.specs.Beside.{frame_low, Beside}
use Rattle.machine_steps_proof.proofs.Memory.{spelled_alike}
use Rattle.machine_steps_proof.proofs.Rows.{set_all_alike, set_all_written, slot_room, slot_byte}

-- what a call site's step is to what the call does
abbrev pub FollowsCall : FramedFunction → Machine → (size : ℕ) → Outcome → Stepped → Type 0
FollowsCall f m size (Falls d) st = (n : Machine) × (st ≡ Continues n) × (n.counter ≡ m.counter + size) × Beside f d n
FollowsCall f m size Asks st = st ≡ Awaits
FollowsCall f m size Traps st = Unit {0}
FollowsCall f m size (Goes b d) st = ⊥
FollowsCall f m size (Gives v) st = ⊥
FollowsCall f m size Breaks st = ⊥

neither : (a b : Bool) → (a || b) ≡ false → (a ≡ false) × (b ≡ false)
neither false b e = (refl, e)
neither true b e = cc

written_alike : (ws : List (ℕ × ℕ)) (x y : ℕ → ℕ) (b : ℕ) → x b ≡ y b → written x ws b ≡ written y ws b
written_alike [] x y b e = e
written_alike (w ∷ ws) x y b e = written_alike ws (updated w.0 w.1 x) (updated w.0 w.1 y) b (ap (λ (z : ℕ). cond (nat_eq b w.0) w.1 z) e)

written_bytes : (ws : List (ℕ × ℕ)) (x : ℕ → ℕ) (b : ℕ) → All (λ (w : ℕ × ℕ). (w.0 < 2 ^ 64) × (w.1 < 256)) ws → x b < 256 → written x ws b < 256
written_bytes [] x b h lt = lt
written_bytes (w ∷ ws) x b h lt = written_bytes ws (updated w.0 w.1 x) b (All-tail (λ (w : ℕ × ℕ). (w.0 < 2 ^ 64) × (w.1 < 256)) w ws h)
    (by_test (nat_eq b w.0) (All-head (λ (w : ℕ × ℕ). (w.0 < 2 ^ 64) × (w.1 < 256)) w ws h).1) where
      by_test : (z : Bool) → w.1 < 256 → cond z w.1 (x b) < 256
      by_test true small = small
      by_test false small = lt

written_outside : (ws : List (ℕ × ℕ)) (x : ℕ → ℕ) (entry area b : ℕ) → writes_frame entry area ws ≡ false → in_frame entry area b ≡ true → written x ws b ≡ x b
written_outside [] x entry area b out is = refl
written_outside (w ∷ ws) x entry area b out is =
    let k = neither (in_frame entry area w.0) (writes_frame entry area ws) out in
    let ne : b ≡ w.0 → ⊥ = λ e. not_equal (ap (in_frame entry area) e) k.0 in
    written_outside ws (updated w.0 w.1 x) entry area b k.1 is ∙ Rattle.sem_mir.proofs.Places.updated_other w.0 b w.1 x ne where
      not_equal : in_frame entry area b ≡ in_frame entry area w.0 → in_frame entry area w.0 ≡ false → ⊥
      not_equal e o = let bad : true ≡ false = sym is ∙ e ∙ o in cc

-- what a callee leaves in the caller's frame is in what it owns of it
left_elsewhere : (ws : List (ℕ × ℕ)) (x : ℕ → ℕ) (entry area pointer : ℕ) (outgoing : List ℕ) (b : ℕ) → is_callees entry area pointer outgoing b ≡ false →
    left_below entry area pointer outgoing x ws b ≡ x b
left_elsewhere [] x entry area pointer outgoing b out = refl
left_elsewhere (w ∷ ws) x entry area pointer outgoing b out =
    left_elsewhere ws (cond (is_callees entry area pointer outgoing w.0) (updated w.0 w.1 x) x) entry area pointer outgoing b out
    ∙ by_test (is_callees entry area pointer outgoing w.0) refl where
      by_test : (z : Bool) → is_callees entry area pointer outgoing w.0 ≡ z → cond z (updated w.0 w.1 x) x b ≡ x b
      by_test false e = refl
      by_test true e = Rattle.sem_mir.proofs.Places.updated_other w.0 b w.1 x
          (λ same. let bad : true ≡ false = sym e ∙ sym (ap (is_callees entry area pointer outgoing) same) ∙ out in cc)

left_bytes : (ws : List (ℕ × ℕ)) (x : ℕ → ℕ) (entry area pointer : ℕ) (outgoing : List ℕ) (b : ℕ) → All (λ (w : ℕ × ℕ). (w.0 < 2 ^ 64) × (w.1 < 256)) ws →
    ((a : ℕ) → x a < 256) → left_below entry area pointer outgoing x ws b < 256
left_bytes [] x entry area pointer outgoing b h lt = lt b
left_bytes (w ∷ ws) x entry area pointer outgoing b h lt =
    left_bytes ws (cond (is_callees entry area pointer outgoing w.0) (updated w.0 w.1 x) x) entry area pointer outgoing b
    (All-tail (λ (w : ℕ × ℕ). (w.0 < 2 ^ 64) × (w.1 < 256)) w ws h)
    (λ a. by_test (is_callees entry area pointer outgoing w.0) a (All-head (λ (w : ℕ × ℕ). (w.0 < 2 ^ 64) × (w.1 < 256)) w ws h).1) where
      chosen : (z : Bool) (a : ℕ) → w.1 < 256 → cond z w.1 (x a) < 256
      chosen true a small = small
      chosen false a small = lt a

      by_test : (z : Bool) (a : ℕ) → w.1 < 256 → cond z (updated w.0 w.1 x) x a < 256
      by_test true a small = chosen (nat_eq a w.0) a small
      by_test false a small = lt a

no_frame : (a b : Bool) → a ≡ false → (a && b) ≡ false
no_frame false b e = refl
no_frame true b e = cc

not_owned : (a x y : Bool) → x ≡ false → y ≡ false → (a && (x || y)) ≡ false
not_owned false x y e g = refl
not_owned true x y e g = λ i. e i || g i

-- the bytes of a slot that isn't passed are in no word that is
pub apart_words : (outgoing : List ℕ) (o j : ℕ) → All (λ n. n % 8 ≡ 0) outgoing → list_any (nat_eq o) outgoing ≡ false → o % 8 ≡ 0 → j < 8 →
    in_words outgoing (o + j) ≡ false
apart_words [] o j h out at lt = refl
apart_words (n ∷ ns) o j h out at lt =
    let k = neither (nat_eq o n) (list_any (nat_eq o) ns) out in
    let aligned = All-head (λ (n : ℕ). n % 8 ≡ 0) n ns h in
    let ne : o ≡ n → ⊥ = λ e. (let bad : false ≡ true = sym k.0 ∙ eq-eqb o n e in cc) in
    let one = by_order aligned ne in
    let rest = apart_words ns o j (All-tail (λ (n : ℕ). n % 8 ≡ 0) n ns h) k.1 at lt in
    λ i. one i || rest i where
      above : (a b : Bool) → b ≡ false → (a && b) ≡ false
      above true b e = e
      above false b e = refl

      by_order : n % 8 ≡ 0 → (o ≡ n → ⊥) → (nat_le n (o + j) && nat_lt (o + j) (n + 8)) ≡ false
      by_order aligned ne = elim (cases_lt (o + j) n) as (λ _. (nat_le n (o + j) && nat_lt (o + j) (n + 8)) ≡ false) [
        | inl before ↦ no_frame (nat_le n (o + j)) (nat_lt (o + j) (n + 8)) (lt-leb n (o + j) before)
        | inr from ↦ above (nat_le n (o + j)) (nat_lt (o + j) (n + 8)) (le-ltb (o + j) (n + 8) (omega (arith, aligned, at, ne, lt, from)))
      ]

-- a call that goes on passes slots that are written
went_on : (a b : Bool) → (not a || b) ≡ false → (a ≡ true) × (b ≡ false)
went_on true b e = (refl, e)
went_on false b e = cc

module _ (f : FramedFunction) (framed : IsFramed f) (c : Core) (m : Machine) (h : Beside f c m) where
  pub contents : (rs : List ℕ) → map (register m) rs ≡ map (read c) rs
  contents [] = refl
  contents (r ∷ rs) = ap (λ (x : ℕ). x ∷ map (register m) rs) (h.regs r) ∙ ap (λ (xs : List ℕ). read c r ∷ xs) (contents rs)

  same_frame : (b : ℕ) → in_frame m.entry m.area b ≡ in_frame c.entry c.area b
  same_frame b = ap (λ (e : ℕ). in_frame e m.area b) h.same_entry ∙ ap (λ (a : ℕ). in_frame c.entry a b) h.same_area

  -- the machine after a call with this reply
  abbrev answered : (size : ℕ) → CallTarget → (args outgoing : List ℕ) → Reply → (rest : List Reply) → Machine
  answered size target args outgoing r rest =
      past size (record m {
        regs = set_all_in caller_saved r.regs m.regs;
        memory = memory_after outgoing r m;
        script = rest;
        events = Called target args ∷ m.events;
      })

  -- a slot's bytes are at the stack pointer or above
  slot_above : (o j : ℕ) → IsSlotOffset f o → j < 8 → read c 2 ≡ frame_low f c → register m 2 ≤ ((frame_low f c + o) + j) % 2 ^ 64
  slot_above o j is lt pointer =
      let k = slot_room f framed c m h o is in let t = h.top in let p = h.regs 2 ∙ pointer in omega (arith, k, t, p, lt)

  -- and no byte of a slot that isn't passed is the callee's
  slot_spared : (outgoing : List ℕ) (o j : ℕ) → All (IsSlotOffset f) outgoing → list_any (nat_eq o) outgoing ≡ false → IsSlotOffset f o → j < 8 →
      read c 2 ≡ frame_low f c → is_callees m.entry m.area (register m 2) outgoing (((frame_low f c + o) + j) % 2 ^ 64) ≡ false
  slot_spared outgoing o j all out is lt pointer =
      let b : ℕ = ((frame_low f c + o) + j) % 2 ^ 64 in
      let k = slot_room f framed c m h o is in
      let t = h.top in
      let p = h.regs 2 ∙ pointer in
      let far : ((frame_low f c + o) + j) % 2 ^ 64 - register m 2 ≡ o + j = omega (arith, k, t, p, lt) in
      let aligned = All-weaker (IsSlotOffset f) (λ (n : ℕ). n % 8 ≡ 0) (λ n w. w.0) outgoing all in
      not_owned (in_frame m.entry m.area b) (nat_lt b (register m 2)) (in_words outgoing (b - register m 2))
      (le-ltb b (register m 2) (slot_above o j is lt pointer)) (ap (in_words outgoing) far ∙ apart_words outgoing o j aligned out is.0 lt)

  beside_answered : (size : ℕ) (target : CallTarget) (args args' outgoing : List ℕ) (r : Reply) (rest : List Reply) → IsReply r → read c 2 ≡ frame_low f c →
      All (IsSlotOffset f) outgoing → args' ≡ args → writes_frame c.entry c.area r.writes ≡ false →
      Beside f (after_reply target args outgoing c r rest) (answered size target args' outgoing r rest)
  beside_answered size target args args' outgoing r rest is pointer all same out = record {
    room = h.room;
    top = h.top;
    area = h.area;
    objects = h.objects;
    written = set_all_written caller_saved r.regs c.regs h.written;
    same_entry = h.same_entry;
    same_area = h.same_area;
    same_symbols = h.same_symbols;
    regs = set_all_alike caller_saved r.regs m.regs c.regs h.regs;
    memory = λ b o. left_elsewhere r.below (written m.memory r.writes) m.entry m.area (register m 2) outgoing b
        (no_frame (in_frame m.entry m.area b) (nat_lt b (register m 2) || in_words outgoing (b - register m 2)) (same_frame b ∙ o))
        ∙ written_alike r.writes m.memory c.memory b (h.memory b o);
    bytes = λ b. left_bytes r.below (written m.memory r.writes) m.entry m.area (register m 2) outgoing b is.below
        (λ a. written_bytes r.writes m.memory a is.writes (h.bytes a));
    slots = λ o x ix s. by_passed o x ix (list_any (nat_eq o) outgoing) refl s;
    script = refl;
    events = λ i. Called target (same i) ∷ h.events i;
  } where
    by_passed : (o x : ℕ) → IsSlotOffset f o → (z : Bool) → list_any (nat_eq o) outgoing ≡ z → cond z None (c.slots o) ≡ Some x →
        x ≡ spelled (memory_after outgoing r m) (frame_low f c + o) 8
    by_passed o x ix true e s = cc
    by_passed o x ix false e s = h.slots o x ix s ∙ spelled_alike m.memory (memory_after outgoing r m) 8 (frame_low f c + o)
        (λ j lt. sym (left_elsewhere r.below (written m.memory r.writes) m.entry m.area (register m 2) outgoing (((frame_low f c + o) + j) % 2 ^ 64)
        (slot_spared outgoing o j all e ix lt pointer)
        ∙ written_outside r.writes m.memory c.entry c.area (((frame_low f c + o) + j) % 2 ^ 64) out (slot_byte f framed c m h o j ix lt)))

  call_by : (size : ℕ) (target : CallTarget) (args args' outgoing : List ℕ) (rs : List Reply) → All IsReply rs → read c 2 ≡ frame_low f c →
      All (IsSlotOffset f) outgoing → (source.are_passed c outgoing ≡ true → args' ≡ args) →
      FollowsCall f m size (source.exec_external_call target args outgoing c rs) (step_call size target args' outgoing m rs)
  call_by size target args args' outgoing [] is pointer all same = refl
  call_by size target args args' outgoing (r ∷ rs) is pointer all same = by_fault (source.call_faults c outgoing r) refl where
    by_fault : (b : Bool) → source.call_faults c outgoing r ≡ b →
        FollowsCall f m size (cond b Traps (Falls (after_reply target args outgoing c r rs))) (Continues (answered size target args' outgoing r rs))
    by_fault true e = tt
    by_fault false e =
        let k = went_on (source.are_passed c outgoing) (writes_frame c.entry c.area r.writes) e in (
          answered size target args' outgoing r rs,
          refl,
          refl,
          beside_answered size target args args' outgoing r rs (All-head IsReply r rs is) pointer all (same k.0) k.1,
        )

  -- a slot that is passed has its content in memory
  word_same : (n : ℕ) → IsSlotOffset f n → read c 2 ≡ frame_low f c → is_some (c.slots n) ≡ true → word_content m n ≡ source.slot_value c n
  word_same n is pointer there = by_slot (c.slots n) refl there where
    by_slot : (x : Option ℕ) → c.slots n ≡ x → is_some x ≡ true → word_content m n ≡ or_zero x
    by_slot None e w = cc
    by_slot (Some v) e w =
        let k = slot_room f framed c m h n is in
        let t = h.top in
        let p = h.regs 2 ∙ pointer in
        let at : address_of m 2 n ≡ frame_low f c + n = omega (arith, k, t, p) in
        ap (λ (a : ℕ). spelled m.memory a 8) at ∙ sym (h.slots n v is e)

  words_same : (o : ℕ) (ns : List ℕ) → AreDoublewords o ns → All (IsSlotOffset f) ns → read c 2 ≡ frame_low f c → source.are_passed c ns ≡ true →
      words_from m o ns ≡ map (source.slot_value c) ns
  words_same o [] laid all pointer there = refl
  words_same o (n ∷ ns) laid all pointer there =
      let k = and_parts (is_some (c.slots n)) (source.are_passed c ns) there in
      let a = ap (word_content m) (sym laid.0) ∙ word_same n (All-head (IsSlotOffset f) n ns all) pointer k.0 in
      let b = words_same (o + 8) ns laid.1 (All-tail (IsSlotOffset f) n ns all) pointer k.1 in
      λ i. a i ∷ b i

  callee_same : (callee : Callee) → called_at m callee ≡ source.called_at c callee
  callee_same (Named name) = refl
  callee_same (Held r) = ap Address (h.regs r)

  way_same : (way : Way Callee) → way_at m way ≡ source.way_at c way
  way_same Back = refl
  way_same (Tail callee) = ap (λ (t : CallTarget). Tail t) (callee_same callee)
  way_same (Never callee) = ap (λ (t : CallTarget). Never t) (callee_same callee)

  -- an ending has the same result
  pub result_same : (ending : Ending Callee) → result_at m ending ≡ source.result_at c ending
  result_same ending =
      let a = way_same ending.way in
      let b = contents ending.values in
      λ i. record { way = a i; values = b i }

  -- a call site does what its call does
  pub calls : (call : CallSite) → IsInRange c → read c 2 ≡ frame_low f c → All (Contains (slot_offsets f)) call.outgoing → AreDoublewords 0 call.outgoing →
      FollowsCall f m (callee_size call.callee) (does (Calls call) c)
      (step_call (callee_size call.callee) (called_at m call.callee) (passed m call) call.outgoing m m.script)
  unfolding does
  calls call range pointer declared laid =
      let t = source.called_at c call.callee in
      let all = All-weaker (Contains (slot_offsets f)) (IsSlotOffset f) (λ n k. All-contains (IsSlotOffset f) (slot_offsets f) n framed.offsets k) call.outgoing
      declared in
      let Goal : CallTarget → List Reply → Type 0 = λ u rs. FollowsCall f m (callee_size call.callee)
      (source.exec_external_call t (source.passed c call) call.outgoing c c.script)
      (step_call (callee_size call.callee) u (passed m call) call.outgoing m rs) in
      subst (λ (u : CallTarget). Goal u m.script) (sym (callee_same call.callee))
      (subst (λ (rs : List Reply). Goal t rs) (sym h.script)
      (call_by (callee_size call.callee) t (source.passed c call) (passed m call) call.outgoing c.script range.script pointer all
      (λ there. (let a = contents call.args in let b = words_same 0 call.outgoing laid all pointer there in λ i. a i ++ b i))))

  pub beside_numbered : (sp call : Bool) (k : Option ℕ) (operands : List Operand) → Beside f (numbered sp call k operands c) m
  beside_numbered sp call None operands = h
  beside_numbered sp call (Some k) operands = record {
    room = h.room;
    top = h.top;
    area = h.area;
    objects = h.objects;
    written = h.written;
    same_entry = h.same_entry;
    same_area = h.same_area;
    same_symbols = h.same_symbols;
    regs = h.regs;
    memory = h.memory;
    bytes = h.bytes;
    slots = h.slots;
    script = h.script;
    events = h.events;
  }
