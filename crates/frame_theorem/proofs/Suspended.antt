-- What a callee leaves as it is, and what places hold meanwhile.
use Rattle.std.proofs.Common.{◌≡◌, ◌⊎◌, ℕ, zero, suc, ◌+◌, ◌-◌, ◌%◌, ◌^◌, List, [], ◌∷◌, Contains, Option, Some, Bool, true, false, cond}
use Rattle.std.proofs.Common.{◌&&◌, ◌||◌, nat_lt, refl, sym, ap, ◌∙◌, subst, inl, inr, arith, le-ltb}
use Rattle.rv64_instr.specs.declared.place.Place.{Place}
use Rattle.rv64_instr.specs.declared.place.Place.TheVariants.{Register, Slot, Const}
use Rattle.rv64_instr.specs.DefsAndUses.{caller_saved}
use Rattle.rv64_instr.specs.Row.{CallSite}
use Rattle.mir_func.specs.declared.debug_substitution.OperandPair.{OperandPair}
use Rattle.mir_func.specs.declared.position.Pos.{Pos}
use Rattle.mir_func.specs.declared.variable.VarId.{VarId}
use Rattle.mir_func.specs.Function.{Function, FramedFunction}
use Rattle.mir_func.specs.Graph.{block_start, program_of, framed_program}
use Rattle.mir_func.specs.SoundFrame.{IsSlotOffset, IsFramed}
use Rattle.mir_func.specs.Variables.{part_value}
use Rattle.sem_mir.specs.Align.{Since, Tells}
use Rattle.sem_mir.specs.PreferredLocation.{SitsIn}
use Rattle.sem_mir.specs.State.{Core, State, Called, Reply, spelled, updated, written, in_frame, writes_frame}
use Rattle.sem_mir.specs.Step.{or_zero}
use Rattle.sem_mir.specs.ValueId.{Token, Tokens, Path, place_token}
use Rattle.sem_mir.proofs.Places.{updated_other}
use Rattle.sem_machine.specs.Headline.{AlignsWith, FailsBeforeLine, Headline}
use Rattle.sem_machine.specs.Image.{CodeLine, word_at}
use Rattle.sem_machine.specs.Machine.{Machine, register, register_in, set_in, set_all_in, address_of, place_content}
use Rattle.sem_machine.specs.MachineStep.{Stepped, Continues, BadWord, machine_step, does_at, does_line, does_call, goes_to, step_call, called_at, callee_size}
use Rattle.sem_machine.specs.MachineStep.{left_below, memory_after, passed, in_words, is_callees}
use Rattle.frame_rule.specs.Rule.{framed_of}
use Rattle.machine_steps_proof.specs.Beside.{frame_low}
use Rattle.machine_steps_proof.specs.Pointer.{lowered_by}
use Rattle.machine_steps_proof.proofs.Memory.{spelled_alike}
use Rattle.machine_steps_proof.proofs.Rows.{slot_room, slot_byte}
use Rattle.machine_steps_proof.proofs.Slots.{slot_offset, slot_up}
use Rattle.machine_proof.proofs.LaidOut.{images_meet_the_headline}
use Rattle.frame_theorem.specs.Laws.{StandsBeside}
use Rattle.frame_theorem.specs.Suspended.{KeepsCaller, CallsKeepCaller, IsKeptPlace, HoldsKept, SuspendedFramesHold}
use Rattle.frame_theorem.proofs.Lines.{framed, frames_stand}
use Rattle.frame_theorem.proofs.StandsAlong.{lowered_alike}

-- ---- a call that is answered

-- registers that aren't set
set_in_other : (r q v : ℕ) (regs : ℕ → ℕ) → (q ≡ r → ⊥) → register_in (set_in r v regs) q ≡ register_in regs q
set_in_other zero q v regs ne = refl
set_in_other (suc r) zero v regs ne = refl
set_in_other (suc r) (suc q) v regs ne = updated_other (suc r) (suc q) v regs ne

set_all_other : (rs vs : List ℕ) (q : ℕ) (regs : ℕ → ℕ) → (Contains rs q → ⊥) → register_in (set_all_in rs vs regs) q ≡ register_in regs q
set_all_other [] vs q regs none = refl
set_all_other (r ∷ rs) [] q regs none =
    set_all_other rs [] q (set_in r 0 regs) (λ c. none (suc c.0, omega (arith, c.1), c.2))
    ∙ set_in_other r q 0 regs (λ same. none (zero, omega arith, sym same))
set_all_other (r ∷ rs) (v ∷ vs) q regs none =
    set_all_other rs vs q (set_in r v regs) (λ c. none (suc c.0, omega (arith, c.1), c.2))
    ∙ set_in_other r q v regs (λ same. none (zero, omega arith, sym same))

-- bytes of the frame that aren't written
neither : (a b : Bool) → (a || b) ≡ false → (a ≡ false) × (b ≡ false)
neither false b e = (refl, e)
neither true b e = cc

written_other : (ws : List (ℕ × ℕ)) (memory : ℕ → ℕ) (entry area a : ℕ) → writes_frame entry area ws ≡ false → in_frame entry area a ≡ true →
    written memory ws a ≡ memory a
written_other [] memory entry area a out is = refl
written_other (w ∷ ws) memory entry area a out is =
    let parts = neither (in_frame entry area w.0) (writes_frame entry area ws) out in
    written_other ws (updated w.0 w.1 memory) entry area a parts.1 is
    ∙ updated_other w.0 a w.1 memory (λ same. (let bad : true ≡ false = sym is ∙ ap (in_frame entry area) same ∙ parts.0 in cc))

-- bytes that aren't the callee's
left_other : (ws : List (ℕ × ℕ)) (memory : ℕ → ℕ) (entry area pointer : ℕ) (outgoing : List ℕ) (a : ℕ) → is_callees entry area pointer outgoing a ≡ false →
    left_below entry area pointer outgoing memory ws a ≡ memory a
left_other [] memory entry area pointer outgoing a spared = refl
left_other (w ∷ ws) memory entry area pointer outgoing a spared =
    left_other ws (cond (is_callees entry area pointer outgoing w.0) (updated w.0 w.1 memory) memory) entry area pointer outgoing a spared
    ∙ by_test (is_callees entry area pointer outgoing w.0) refl where
      by_test : (x : Bool) → is_callees entry area pointer outgoing w.0 ≡ x → cond x (updated w.0 w.1 memory) memory a ≡ memory a
      by_test false e = refl
      by_test true e = updated_other w.0 a w.1 memory
          (λ same. (let bad : true ≡ false = sym e ∙ sym (ap (is_callees entry area pointer outgoing) same) ∙ spared in cc))

not_callees : (x y z : Bool) → y ≡ false → z ≡ false → (x && (y || z)) ≡ false
not_callees true y z e g = λ i. e i || g i
not_callees false y z e g = refl

one_machine : (a b : Machine) → Continues a ≡ Continues b → a ≡ b
one_machine a b e = cc

-- the machine after a call with this reply
abbrev answered : Machine → CallSite → Reply → (rest : List Reply) → Machine
answered m call reply rest =
    record m {
      counter = m.counter + callee_size call.callee;
      regs = set_all_in caller_saved reply.regs m.regs;
      memory = memory_after call.outgoing reply m;
      script = rest;
      events = Called (called_at m call.callee) (passed m call) ∷ m.events;
    }

pub calls_keep_caller : CallsKeepCaller
calls_keep_caller image m n l call reply rest line calls script out goes =
    subst (KeepsCaller call.outgoing m) (one_machine (answered m call reply rest) n (sym stepped ∙ goes)) kept where
      there : machine_step image m ≡ does_call call (word_at image.text m.counter) m
      there = ap (λ (x : Option CodeLine). does_at image x m) line ∙ ap (λ (x : Option CallSite). does_line image l x m) calls

      -- a word that doesn't go to the callee stops the machine
      is_call : (b : Bool) (x : Stepped) → cond b x BadWord ≡ Continues n → cond b x BadWord ≡ x
      is_call true x e = refl
      is_call false x e = cc

      stepped : machine_step image m ≡ Continues (answered m call reply rest)
      stepped =
          there ∙ is_call (goes_to 1 call.callee m.counter (word_at image.text m.counter)) _ (sym there ∙ goes)
          ∙ ap (step_call (callee_size call.callee) (called_at m call.callee) (passed m call) call.outgoing m) script

      kept : KeepsCaller call.outgoing m (answered m call reply rest)
      kept = record {
        registers = λ r free. set_all_other caller_saved reply.regs r m.regs free;
        frame = λ a is above apart.
            left_other reply.below (written m.memory reply.writes) m.entry m.area (register m 2) call.outgoing a
            (not_callees (in_frame m.entry m.area a) (nat_lt a (register m 2)) (in_words call.outgoing (a - register m 2)) (le-ltb a (register m 2) above)
            apart)
            ∙ written_other reply.writes m.memory m.entry m.area a out is;
      }

-- ---- places

module _ (f : FramedFunction) (framed : IsFramed f) (resolve : OperandPair → Option OperandPair) (e : Core) (p : Pos) (m : Machine)
    (is : StandsBeside f e p m) (outgoing : List ℕ) (k : Machine) (keeps : KeepsCaller outgoing m k) where
  not_two : Contains caller_saved 2 → ⊥
  not_two (i, inside, same) = grind (arith, i, inside, same)

  -- where the frame is up the stack pointer is its lowest address
  at_low : lowered_by f p ≡ f.size → register m 2 ≡ frame_low f is.core
  at_low up =
      is.beside.regs 2 ∙ ap or_zero is.stands.pointer ∙ ap (λ (n : ℕ). e.entry - n) (lowered_alike f p ∙ up)
      ∙ ap (λ (n : ℕ). n - f.size) (sym is.entry)

  slot_kept : (o : ℕ) → IsSlotOffset f o → lowered_by f p ≡ f.size → IsKeptPlace outgoing (Slot o) → place_content (Slot o) k ≡ place_content (Slot o) m
  slot_kept o offset up apart =
      let c = is.core in
      let low = at_low up in
      let room = slot_room f framed c m is.beside o offset in
      let top = is.beside.top in
      let at : address_of m 2 o ≡ frame_low f c + o = ap (λ (n : ℕ). (n + o) % 2 ^ 64) low ∙ omega (arith, room, top) in
      let same : address_of k 2 o ≡ frame_low f c + o = ap (λ (n : ℕ). (n + o) % 2 ^ 64) (keeps.registers 2 not_two) ∙ at in
      ap (λ (a : ℕ). spelled k.memory a 8) same
      ∙ spelled_alike k.memory m.memory 8 (frame_low f c + o)
      (λ j small. keeps.frame (((frame_low f c + o) + j) % 2 ^ 64)
      (ap (λ (n : ℕ). in_frame n m.area (((frame_low f c + o) + j) % 2 ^ 64)) is.beside.same_entry
      ∙ ap (λ (n : ℕ). in_frame c.entry n (((frame_low f c + o) + j) % 2 ^ 64)) is.beside.same_area ∙ slot_byte f framed c m is.beside o j offset small)
      (omega (arith, low, room, top, small))
      (ap (in_words outgoing) (let far : ((frame_low f c + o) + j) % 2 ^ 64 - register m 2 ≡ o + j = omega (arith, low, room, top, small) in far) ∙ apart j
      small))
      ∙ ap (λ (a : ℕ). spelled m.memory a 8) (sym at)

  -- a place with a token holds in k what it holds in m
  pub place_kept : {n : ℕ} {t : Tokens} → Path (framed_program f.blocks resolve) (block_start 0) n p t → (place : Place) (q : Token) →
      place_token (Some place) t ≡ Some q → IsKeptPlace outgoing place → place_content place k ≡ place_content place m
  place_kept path (Register r) q at kept = keeps.registers r kept
  place_kept path (Slot o) q at kept = slot_kept o (slot_offset f framed resolve path o q at) (slot_up f framed resolve path o q at) kept
  place_kept path (Const c) q at kept = refl

  pub sitting_kept : (v : VarId) (place : Place) → SitsIn (framed_program f.blocks resolve) (block_start 0) v place p → IsKeptPlace outgoing place →
      place_content place k ≡ place_content place m
  sitting_kept v place sits kept =
      let reached = sits.reached in
      let token = sits.same reached.0 reached.1 reached.2 in
      place_kept reached.2 place token.0 token.2 kept

-- what is owed at a line
abbrev IsHeld : (lists : VarId → (address : ℕ) → Place → Type 0) → Function → (OperandPair → Option OperandPair) → (outgoing : List ℕ) (m k : Machine) →
    State → Since → CodeLine → Type 0
IsHeld lists source resolve outgoing m k s since l =
    ((s' : State) × AlignsWith (program_of true source.blocks resolve) l since s s' × HoldsKept lists outgoing m k s')
    ⊎ FailsBeforeLine (program_of true source.blocks resolve) l since s

pub suspended_frames_hold : (lists : VarId → (address : ℕ) → Place → Type 0) → SuspendedFramesHold lists
suspended_frames_hold lists source f resolve fresolve image h physical small is wanted s0 starts m s since l along line outgoing k keeps =
    elim (frames_stand source f resolve fresolve image h physical small is s0 starts m s since l along line)
    as (λ _. IsHeld lists source resolve outgoing m k s since l) [
      | inl at ↦ elim (headline.agrees s0 starts m s since l along line) as (λ _. IsHeld lists source resolve outgoing m k s since l) [
        | inl agrees ↦ inl (
          agrees.0,
          agrees.1,
          λ v place given kept.
              subst (λ (x : ℕ). Tells agrees.0 v (part_value v x))
              (sym (sitting_kept (framed_of f) (framed source f resolve fresolve image h physical small is) fresolve s0.core at.point m at.stands outgoing k
              keeps
              v place (wanted v m.counter place given at.point at.entry) kept)) (agrees.2.places v place given),
        )
        | inr fails ↦ inr fails
      ]
      | inr fails ↦ inr fails
    ] where
      headline : Headline source resolve image lists
      headline = images_meet_the_headline lists source f resolve fresolve image h physical small is wanted
