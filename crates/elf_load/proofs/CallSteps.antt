-- The two words of a call site call its target.
use Rattle.std.specs.Prelude.{◌-ℤ◌, ◌==◌, ◌&&◌, Option, if◌then◌else◌}
use Rattle.std.proofs.Common.{◌≡◌, ℕ, zero, suc, ◌+◌, ◌-◌, ◌*◌, ◌/◌, ◌%◌, ◌^◌, ◌≤◌, ◌<◌, pos, negsuc, Bool, true, false, List, cond, IsTrue, Some}
use Rattle.std.proofs.Common.{arith, ap, ◌∙◌, refl, inl, inr, le-leb}
use Rattle.std.proofs.lemmas.Bool.{cases_lt, ne_eqb}
use Rattle.std.proofs.lemmas.Int.{ints}
use Rattle.rv64_instr.specs.Arithmetic.{word, extend32}
use Rattle.rv64_instr.specs.Form.{is_within}
use Rattle.rv64_instr.proofs.SignExtension.{extend_low, extend_high}
use Rattle.rv64_word.specs.declared.format.EncodingField.TheVariants.{Opcode, Rd, Imm}
use Rattle.rv64_word.specs.declared.format.Format.TheVariants.{Upper, Immediate}
use Rattle.rv64_word.specs.declared.machine_op.MachineOp.{MachineOp}
use Rattle.rv64_word.specs.Format.{slices_of, shown}
use Rattle.rv64_word.specs.MachineOp.{value_of, word_of, is_encodable}
use Rattle.rv64_word.specs.Decoded.{decoded}
use Rattle.rv64_word.proofs.Decoding.{is_decoded}
use Rattle.rv64_word.proofs.Reading.{codes, spelled_below}
use Rattle.sem_machine.specs.Image.{word_at}
use Rattle.sem_machine.specs.Machine.{Machine, register_in, set_in, address_of}
use Rattle.sem_machine.specs.MachineStep.{Continues, past, at, set_register, does_operation}
use Rattle.elf_load.specs.Auipc.{AUIPC, added_upper, runs_word}
use Rattle.elf_load.specs.Load.{IsInReach, Calls}
use Rattle.elf_load.specs.steps.CallWords.{distance, upper_bits, upper_word, jump}

-- ---- the number of JALR

above_zero : (m full n : ℕ) → m ≡ full + n → pos m -ℤ pos full ≡ pos n
above_zero m full n e = omega (arith, ints)

below_zero : (m full n : ℕ) → m + suc n ≡ full → pos m -ℤ pos full ≡ negsuc n
below_zero m full n e = omega (arith, ints)

lower_word : (m : ℕ) → m < 4096 → word (pos m -ℤ pos 2048) ≡ (2 ^ 64 - 2048 + m) % 2 ^ 64
lower_word m lt =
    elim (cases_lt m 2048) as (λ z. word (pos m -ℤ pos 2048) ≡ (2 ^ 64 - 2048 + m) % 2 ^ 64) [
      | inl h ↦ (ap word (below_zero m 2048 (2047 - m) (omega (arith, h))) ∙ omega (arith, h))
      | inr h ↦ (ap word (above_zero m 2048 (m - 2048) (omega (arith, h))) ∙ omega (arith, h, lt))
    ]

both : (a b : Bool) → a ≡ true → b ≡ true → (a && b) ≡ true
both true b e f = f
both false b e f = absurd cc

lower_fits : (m : ℕ) → m < 4096 → is_within (negsuc 2047) (pos 2047) (pos m -ℤ pos 2048) ≡ true
lower_fits m lt =
    elim (cases_lt m 2048) as (λ z. is_within (negsuc 2047) (pos 2047) (pos m -ℤ pos 2048) ≡ true) [
      | inl h ↦
          (ap (is_within (negsuc 2047) (pos 2047)) (below_zero m 2048 (2047 - m) (omega (arith, h)))
          ∙ both _ _ (le-leb (2047 - m) 2047 (omega arith)) refl)
      | inr h ↦
          (ap (is_within (negsuc 2047) (pos 2047)) (above_zero m 2048 (m - 2048) (omega (arith, h)))
          ∙ le-leb (m - 2048) 2047 (omega (arith, lt)))
    ]

pub jump_fits : (d : ℕ) → IsTrue (is_encodable (jump d))
jump_fits d = lower_fits (d % 4096) (omega arith)

-- ---- the number of AUIPC

upper_added : (q : ℕ) → q < 2 ^ 20 → extend32 ((q + 2 ^ 19) % 2 ^ 20 * 4096) ≡ (2 ^ 64 - 2 ^ 31 + q * 4096) % 2 ^ 64
upper_added q lt =
    elim (cases_lt q (2 ^ 19)) as (λ z. extend32 ((q + 2 ^ 19) % 2 ^ 20 * 4096) ≡ (2 ^ 64 - 2 ^ 31 + q * 4096) % 2 ^ 64) [
      | inl h ↦
          (ap extend32 (low h) ∙ extend_high (q * 4096 + 2 ^ 31) (omega arith) (omega (arith, h)) ∙ omega (arith, h))
      | inr h ↦
          (ap extend32 (high h) ∙ extend_low (q * 4096 - 2 ^ 31) (omega (arith, lt)) ∙ omega (arith, h, lt))
    ]
  where
    low : q < 2 ^ 19 → (q + 2 ^ 19) % 2 ^ 20 * 4096 ≡ q * 4096 + 2 ^ 31
    low h = omega (arith, h)

    high : 2 ^ 19 ≤ q → (q + 2 ^ 19) % 2 ^ 20 * 4096 ≡ q * 4096 - 2 ^ 31
    high h = omega (arith, h, lt)

-- ---- both together

summed : (place target q m u l : ℕ) → u ≡ (2 ^ 64 - 2 ^ 31 + q * 4096) % 2 ^ 64 → l ≡ (2 ^ 64 - 2048 + m) % 2 ^ 64
    → place + (q * 4096 + m) ≡ target + 2 ^ 31 + 2 ^ 11 → q < 2 ^ 20 → m < 4096 → target < 2 ^ 64
    → ((place + u) % 2 ^ 64 + l) % 2 ^ 64 ≡ target
summed place target q m u l is_u is_l whole small_q small_m low = omega (arith, is_u, is_l, whole, small_q, small_m, low)

led_to : (place target : ℕ) → IsInReach place target → target < 2 ^ 64
    → ((place + extend32 (upper_bits (distance place target) * 4096)) % 2 ^ 64 + word (pos (distance place target % 4096) -ℤ pos 2048)) % 2 ^ 64
    ≡ target
led_to place target reach low =
    let d : ℕ = distance place target in
    let small : d < 2 ^ 32 = omega (arith, reach.below) in
    let q : ℕ = d / 4096 in
    let m : ℕ = d % 4096 in
    let parts : place + (q * 4096 + m) ≡ target + 2 ^ 31 + 2 ^ 11 = omega (arith, reach.above) in
    let few : q < 2 ^ 20 = omega (arith, small) in
    let rest : m < 4096 = omega arith in
    summed place target q m (extend32 (upper_bits d * 4096)) (word (pos m -ℤ pos 2048)) (upper_added q few) (lower_word m rest) parts few rest low

-- ---- the steps

opcode_is : (w : ℕ) → shown (slices_of Upper) Opcode w ≡ w % 128
opcode_is w = omega arith

upper_opcode : (i : ℕ) → shown (slices_of Upper) Opcode (i * 4096 + 0x97) ≡ 0x17
upper_opcode i = omega arith

upper_rd : (i : ℕ) → shown (slices_of Upper) Rd (i * 4096 + 0x97) ≡ 1
upper_rd i = omega arith

upper_imm : (i : ℕ) → i < 2 ^ 20 → shown (slices_of Upper) Imm (i * 4096 + 0x97) ≡ i
upper_imm i lt = omega (arith, lt)

upper_step : (d : ℕ) (s : Machine)
    → runs_word (Some (upper_word d)) s ≡ Continues (past 4 (set_register 1 ((s.counter + extend32 (upper_bits d * 4096)) % 2 ^ 64) s))
upper_step d s =
    let i : ℕ = upper_bits d in
    let w : ℕ = upper_word d in
    let imm : ℕ = shown (slices_of Upper) Imm w in
    ap (λ (n : ℕ). if n == AUIPC then Continues (added_upper w s) else does_operation (decoded w) s) (upper_opcode i)
    ∙ ap (λ (r : ℕ). Continues (past 4 (set_register r ((s.counter + extend32 (imm * 4096)) % 2 ^ 64) s))) (upper_rd i)
    ∙ ap (λ (n : ℕ). Continues (past 4 (set_register 1 ((s.counter + extend32 (n * 4096)) % 2 ^ 64) s))) (upper_imm i (omega arith))

jump_opcode : (d : ℕ) → shown (slices_of Upper) Opcode (word_of (jump d)) ≡ 0x67
unfolding word_of
jump_opcode d = opcode_is (word_of (jump d)) ∙ (codes Immediate (value_of (jump d))).0

pub jump_below : (d : ℕ) → word_of (jump d) < 2 ^ 32
unfolding word_of
jump_below d = spelled_below Immediate (value_of (jump d))

jump_step : (d : ℕ) (s : Machine)
    → runs_word (Some (word_of (jump d))) s
    ≡ Continues (at (address_of s 1 (word (pos (d % 4096) -ℤ pos 2048)) / 2 * 2) (set_register 1 ((s.counter + 4) % 2 ^ 64) s))
jump_step d s =
    let w : ℕ = word_of (jump d) in
    ap (λ (n : ℕ). if n == AUIPC then Continues (added_upper w s) else does_operation (decoded w) s) (jump_opcode d)
    ∙ ap (λ (o : Option MachineOp). does_operation o s) (is_decoded (jump d) w (jump_fits d) refl)

other_register : (x v : ℕ) (regs : ℕ → ℕ) (r : ℕ) → (r ≡ 1 → ⊥) → register_in (set_in 1 x (set_in 1 v regs)) r ≡ register_in regs r
other_register x v regs zero ne = refl
other_register x v regs (suc zero) ne = absurd (ne refl)
other_register x v regs (suc (suc r)) ne = ap (λ (t : Bool). cond t x (cond t v (regs (suc (suc r))))) (ne_eqb (suc (suc r)) 1 ne)

-- the machine at the first word of a call site
pub calls_target : (bytes : List ℕ) (base offset target : ℕ) → IsInReach (base + offset) target → target < 2 ^ 64 → base + offset + 8 < 2 ^ 64
    → word_at bytes offset ≡ Some (upper_word (distance (base + offset) target))
    → word_at bytes (offset + 4) ≡ Some (word_of (jump (distance (base + offset) target)))
    → Calls bytes base (base + offset) target
calls_target bytes base offset target reach low fits first second s here =
    let place : ℕ = base + offset in
    let d : ℕ = distance place target in
    let lower : ℕ = word (pos (d % 4096) -ℤ pos 2048) in
    let value : ℕ = (s.counter + extend32 (upper_bits d * 4096)) % 2 ^ 64 in
    let between : Machine = past 4 (set_register 1 value s) in
    let link : ℕ = (s.counter + 4 + 4) % 2 ^ 64 in
    let first_at : s.counter - base ≡ offset = omega (arith, here) in
    let second_at : s.counter + 4 - base ≡ offset + 4 = omega (arith, here) in
    record {
      between = between;
      after = at (address_of between 1 lower / 2 * 2) (set_register 1 link between);
      upper = ap (λ (k : ℕ). runs_word (word_at bytes k) s) first_at ∙ ap (λ (w : Option ℕ). runs_word w s) first ∙ upper_step d s;
      jump = ap (λ (k : ℕ). runs_word (word_at bytes k) between) second_at ∙ ap (λ (w : Option ℕ). runs_word w between) second
          ∙ jump_step d between;
      counter = ap (λ (n : ℕ). n / 2 * 2)
          (ap (λ (k : ℕ). ((k + extend32 (upper_bits d * 4096)) % 2 ^ 64 + lower) % 2 ^ 64) here ∙ led_to place target reach low);
      link = linked s.counter place here fits;
      registers = other_register link value s.regs;
      memory = refl;
      entry = refl;
      area = refl;
      script = refl;
      events = refl;
    }
  where
    linked : (counter place : ℕ) → counter ≡ place → place + 8 < 2 ^ 64 → (counter + 4 + 4) % 2 ^ 64 ≡ place + 8
    linked counter place e lt = omega (arith, e, lt)
