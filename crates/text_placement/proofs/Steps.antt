-- The two words of a relocated call, step by step.
use Rattle.std.specs.Prelude.{◌==◌, ◌&&◌, Option, if◌then◌else◌, IsTrue}
use Rattle.std.proofs.Common.{◌≡◌, ℕ, zero, suc, ◌+◌, ◌-◌, ◌*◌, ◌/◌, ◌%◌, ◌^◌, ◌<◌, ℤ, pos, negsuc, Bool, true, false, cond, List, Some}
use Rattle.std.proofs.Common.{arith, ap, ◌∙◌, refl, inl, inr, le-leb}
use Rattle.std.proofs.lemmas.Bool.{cases_lt, ltb-true, ne_eqb}
use Rattle.rv64_instr.specs.Arithmetic.{word, extend32}
use Rattle.rv64_instr.specs.Form.{is_within}
use Rattle.rv64_instr.specs.declared.symbol.Half.TheVariants as half
use Rattle.rv64_instr.specs.Linked.{half_immediate}
use Rattle.rv64_instr.proofs.Halves.{lower_by, below_zero}
use Rattle.rv64_instr.proofs.SignExtension.{extend_low, extend_high}
use Rattle.rv64_word.specs.declared.format.EncodingField.TheVariants.{Opcode, Rd, Imm}
use Rattle.rv64_word.specs.declared.format.Format.TheVariants.{Upper}
use Rattle.rv64_word.specs.declared.machine_op.MachineOp.{MachineOp}
use Rattle.rv64_word.specs.declared.word_op.WordOp.TheVariants.{Jalr}
use Rattle.rv64_word.specs.Format.{slices_of, shown}
use Rattle.rv64_word.specs.MachineOp.{word_of}
use Rattle.rv64_word.specs.Decoded.{decoded}
use Rattle.rv64_word.proofs.Decoding.{is_decoded}
use Rattle.elf_relocation.specs.declared.kind.RelocationKind.TheVariants.{Call}
use Rattle.elf_relocation.specs.Fields.{has_halves, is_in_range, value_of, with_lower, with_upper}
use Rattle.sem_machine.specs.Image.{word_at}
use Rattle.sem_machine.specs.Machine.{Machine, register_in, set_in, address_of}
use Rattle.sem_machine.specs.MachineStep.{Continues, past, at, set_register, does_operation}
use Rattle.elf_load.specs.Auipc.{AUIPC, added_upper, runs_word}
use Rattle.text_placement.specs.Goes.{Goes, CALL_JUMP, CALL_UPPER, TAIL_JUMP, TAIL_UPPER}

-- ---- the halves of a value

abbrev upper_half : (v : ℕ) → ℕ
upper_half v = (v + 2 ^ 11) / 2 ^ 12 % 2 ^ 20

-- the number that AUIPC adds
upper_added : (q : ℕ) → q < 2 ^ 20 → extend32 (q * 4096) ≡ (2 ^ 64 - 2 ^ 31 + (q + 2 ^ 19) % 2 ^ 20 * 4096) % 2 ^ 64
upper_added q lt =
    elim (cases_lt q (2 ^ 19)) as (λ z. extend32 (q * 4096) ≡ (2 ^ 64 - 2 ^ 31 + (q + 2 ^ 19) % 2 ^ 20 * 4096) % 2 ^ 64) [
      | inl h ↦ (extend_low (q * 4096) (omega (arith, h)) ∙ omega (arith, h))
      | inr h ↦ (extend_high (q * 4096) (omega (arith, h)) (omega (arith, lt)) ∙ omega (arith, h, lt))
    ]

-- and the number that JALR adds
lower_added : (v : ℕ) → word (half_immediate half.Lower v) ≡ (2 ^ 64 - 2048 + (v + 2048) % 4096) % 2 ^ 64
unfolding half_immediate
lower_added v =
    lower_by (λ (z : ℤ). word z ≡ (2 ^ 64 - 2048 + (v + 2048) % 4096) % 2 ^ 64) (v % 4096) (λ lt. omega (arith, lt))
    (λ le. ap word (below_zero (v % 4096) (4095 - v % 4096) (omega arith)) ∙ omega (arith, le))

-- a value d above the least that both reach
parts_of : (v d : ℕ) → d ≡ (v + 2 ^ 31 + 2 ^ 11) % 2 ^ 64 → d < 2 ^ 32 → v < 2 ^ 64
    → (upper_half v + 2 ^ 19) % 2 ^ 20 ≡ d / 4096
parts_of v d is lt below = omega (arith, is, lt, below)

rest_of : (v d : ℕ) → d ≡ (v + 2 ^ 31 + 2 ^ 11) % 2 ^ 64 → (v + 2048) % 4096 ≡ d % 4096
rest_of v d is = omega (arith, is)

summed : (place target v d q m u l : ℕ) → v ≡ (target + 0 + 2 ^ 64 - place) % 2 ^ 64 → d ≡ (v + 2 ^ 31 + 2 ^ 11) % 2 ^ 64 → q ≡ d / 4096 → m ≡ d % 4096
    → u ≡ (2 ^ 64 - 2 ^ 31 + q * 4096) % 2 ^ 64 → l ≡ (2 ^ 64 - 2048 + m) % 2 ^ 64 → target < 2 ^ 64 → place < 2 ^ 64
    → ((place + u) % 2 ^ 64 + l) % 2 ^ 64 ≡ target
summed place target v d q m u l is_v is_d is_q is_m is_u is_l low near =
    let parts : q * 4096 + m ≡ d = omega (arith, is_q, is_m) in
    let both : (u + l) % 2 ^ 64 ≡ (d + 2 ^ 64 - 2 ^ 31 - 2048) % 2 ^ 64 = omega (arith, is_u, is_l, parts) in
    let value : (u + l) % 2 ^ 64 ≡ v = omega (arith, both, is_d, is_v) in
    let moved : ((place + u) % 2 ^ 64 + l) % 2 ^ 64 ≡ (place + (u + l) % 2 ^ 64) % 2 ^ 64 = omega arith in
    moved ∙ ap (λ (n : ℕ). (place + n) % 2 ^ 64) value ∙ omega (arith, is_v, low, near)

-- both together lead from a place to the target
led_to : (place target : ℕ) → has_halves (value_of Call target 0 place) ≡ true → target < 2 ^ 64 → place < 2 ^ 64
    → ((place + extend32 (upper_half (value_of Call target 0 place) * 4096)) % 2 ^ 64
    + word (half_immediate half.Lower (value_of Call target 0 place))) % 2 ^ 64
    ≡ target
led_to place target reach low near =
    let v : ℕ = value_of Call target 0 place in
    let d : ℕ = (v + 2 ^ 31 + 2 ^ 11) % 2 ^ 64 in
    let small : d < 2 ^ 32 = ltb-true d (2 ^ 32) reach in
    let below : v < 2 ^ 64 = omega arith in
    let few : upper_half v < 2 ^ 20 = omega arith in
    summed place target v d (d / 4096) (d % 4096) (extend32 (upper_half v * 4096)) (word (half_immediate half.Lower v)) refl refl refl refl
    (upper_added (upper_half v) few ∙ ap (λ (n : ℕ). (2 ^ 64 - 2 ^ 31 + n * 4096) % 2 ^ 64) (parts_of v d refl small below))
    (lower_added v ∙ ap (λ (n : ℕ). (2 ^ 64 - 2048 + n) % 2 ^ 64) (rest_of v d refl)) low near

-- ---- the words

opcode_is : (w : ℕ) → shown (slices_of Upper) Opcode w ≡ w % 128
opcode_is w = omega arith

-- the jump of a site
abbrev jump : (scratch link v : ℕ) → MachineOp
jump scratch link v = record { op = Jalr; rd = link; rs1 = scratch; rs2 = 0; imm = half_immediate half.Lower v }

both : (a b : Bool) → a ≡ true → b ≡ true → (a && b) ≡ true
both true b e f = f
both false b e f = absurd cc

lower_within : (v : ℕ) → IsTrue (is_within (negsuc 2047) (pos 2047) (half_immediate half.Lower v))
unfolding half_immediate
lower_within v =
    lower_by (λ (z : ℤ). IsTrue (is_within (negsuc 2047) (pos 2047) z)) (v % 4096) (λ lt. le-leb (v % 4096) 2047 (omega (arith, lt)))
    (λ le. ap (is_within (negsuc 2047) (pos 2047)) (below_zero (v % 4096) (4095 - v % 4096) (omega arith))
    ∙ both _ _ (le-leb (4095 - v % 4096) 2047 (omega (arith, le))) refl)

lower_bits : (v : ℕ) → word (half_immediate half.Lower v) % 2 ^ 12 ≡ v % 2 ^ 12
lower_bits v = ap (λ (n : ℕ). n % 2 ^ 12) (lower_added v) ∙ omega arith

call_word : (v : ℕ) → word_of (jump 1 1 v) ≡ with_lower v CALL_JUMP
unfolding word_of
call_word v = omega (arith, lower_bits v)

tail_word : (v : ℕ) → word_of (jump 6 0 v) ≡ with_lower v TAIL_JUMP
unfolding word_of
tail_word v = omega (arith, lower_bits v)

-- ---- the steps

-- what is known of the two words of a site
record AreSite (first second scratch link v : ℕ) : Type 0 where
  opcode : shown (slices_of Upper) Opcode first ≡ AUIPC
  rd : shown (slices_of Upper) Rd first ≡ scratch
  imm : shown (slices_of Upper) Imm first ≡ upper_half v
  other : shown (slices_of Upper) Opcode second ≡ 0x67
  jumps : decoded second ≡ Some (jump scratch link v)

upper_step : (first second scratch link v : ℕ) → AreSite first second scratch link v → (s : Machine)
    → runs_word (Some first) s ≡ Continues (past 4 (set_register scratch ((s.counter + extend32 (upper_half v * 4096)) % 2 ^ 64) s))
upper_step first second scratch link v are s =
    let i : ℕ = shown (slices_of Upper) Imm first in
    ap (λ (n : ℕ). if n == AUIPC then Continues (added_upper first s) else does_operation (decoded first) s) are.opcode
    ∙ ap (λ (r : ℕ). Continues (past 4 (set_register r ((s.counter + extend32 (i * 4096)) % 2 ^ 64) s))) are.rd
    ∙ ap (λ (n : ℕ). Continues (past 4 (set_register scratch ((s.counter + extend32 (n * 4096)) % 2 ^ 64) s))) are.imm

jump_step : (first second scratch link v : ℕ) → AreSite first second scratch link v → (s : Machine)
    → runs_word (Some second) s
    ≡ Continues (at (address_of s scratch (word (half_immediate half.Lower v)) / 2 * 2) (set_register link ((s.counter + 4) % 2 ^ 64) s))
jump_step first second scratch link v are s =
    ap (λ (n : ℕ). if n == AUIPC then Continues (added_upper second s) else does_operation (decoded second) s) are.other
    ∙ ap (λ (o : Option MachineOp). does_operation o s) are.jumps

-- a register that is none of two that were set
other_set : (a x : ℕ) (regs : ℕ → ℕ) (r : ℕ) → (r ≡ a → ⊥) → register_in (set_in a x regs) r ≡ register_in regs r
other_set zero x regs r ne = refl
other_set (suc a) x regs zero ne = refl
other_set (suc a) x regs (suc r) ne = ap (λ (t : Bool). cond t x (regs (suc r))) (ne_eqb (suc r) (suc a) ne)

both_set : (a b x y : ℕ) (regs : ℕ → ℕ) (r : ℕ) → (r ≡ a → ⊥) → (r ≡ b → ⊥) → register_in (set_in b y (set_in a x regs)) r ≡ register_in regs r
both_set a b x y regs r not_a not_b = other_set b y (set_in a x regs) r not_b ∙ other_set a x regs r not_a

-- the machine at the first word of a site
goes_by : (bytes : List ℕ) (base offset target scratch link first second : ℕ)
    → AreSite first second scratch link (value_of Call target 0 (base + offset))
    → ((x : ℕ) (regs : ℕ → ℕ) → register_in (set_in scratch x regs) scratch ≡ x)
    → ((x : ℕ) (regs : ℕ → ℕ) → (link ≡ 0 → ⊥) → register_in (set_in link x regs) link ≡ x)
    → has_halves (value_of Call target 0 (base + offset)) ≡ true → target < 2 ^ 64 → base + offset + 8 < 2 ^ 64
    → word_at bytes offset ≡ Some first → word_at bytes (offset + 4) ≡ Some second → Goes bytes base (base + offset) target scratch link
goes_by bytes base offset target scratch link first second are set links reach low fits one two s here =
    let place : ℕ = base + offset in
    let v : ℕ = value_of Call target 0 place in
    let lower : ℕ = word (half_immediate half.Lower v) in
    let value : ℕ = (s.counter + extend32 (upper_half v * 4096)) % 2 ^ 64 in
    let between : Machine = past 4 (set_register scratch value s) in
    let behind : ℕ = (s.counter + 4 + 4) % 2 ^ 64 in
    let first_at : s.counter - base ≡ offset = omega (arith, here) in
    let second_at : s.counter + 4 - base ≡ offset + 4 = omega (arith, here) in
    record {
      between = between;
      after = at (address_of between scratch lower / 2 * 2) (set_register link behind between);
      upper = ap (λ (k : ℕ). runs_word (word_at bytes k) s) first_at ∙ ap (λ (w : Option ℕ). runs_word w s) one
          ∙ upper_step first second scratch link v are s;
      jump = ap (λ (k : ℕ). runs_word (word_at bytes k) between) second_at ∙ ap (λ (w : Option ℕ). runs_word w between) two
          ∙ jump_step first second scratch link v are between;
      counter = ap (λ (n : ℕ). (n + lower) % 2 ^ 64 / 2 * 2) (set value s.regs)
          ∙ ap (λ (k : ℕ). ((k + extend32 (upper_half v * 4096)) % 2 ^ 64 + lower) % 2 ^ 64 / 2 * 2) here
          ∙ ap (λ (n : ℕ). n / 2 * 2) (led_to place target reach low (omega (arith, fits)));
      linked = λ ne. links behind (set_in scratch value s.regs) ne ∙ linked_is s.counter place here fits;
      registers = λ r not_scratch not_link. both_set scratch link value behind s.regs r not_scratch not_link;
      memory = refl;
      entry = refl;
      area = refl;
      symbols = refl;
      script = refl;
      events = refl;
    }
  where
    linked_is : (counter place : ℕ) → counter ≡ place → place + 8 < 2 ^ 64 → (counter + 4 + 4) % 2 ^ 64 ≡ place + 8
    linked_is counter place e lt = omega (arith, e, lt)

-- ---- a call, and one in tail position

call_site : (v : ℕ) → AreSite (with_upper v CALL_UPPER) (with_lower v CALL_JUMP) 1 1 v
call_site v = record {
  opcode = omega arith;
  rd = omega arith;
  imm = omega arith;
  other = opcode_is (with_lower v CALL_JUMP) ∙ omega arith;
  jumps = is_decoded (jump 1 1 v) (with_lower v CALL_JUMP) (lower_within v) (call_word v);
}

tail_site : (v : ℕ) → AreSite (with_upper v TAIL_UPPER) (with_lower v TAIL_JUMP) 6 0 v
tail_site v = record {
  opcode = omega arith;
  rd = omega arith;
  imm = omega arith;
  other = opcode_is (with_lower v TAIL_JUMP) ∙ omega arith;
  jumps = is_decoded (jump 6 0 v) (with_lower v TAIL_JUMP) (lower_within v) (tail_word v);
}

pub call_goes : (bytes : List ℕ) (base offset target : ℕ) → IsTrue (is_in_range Call (value_of Call target 0 (base + offset))) → target < 2 ^ 64
    → base + offset + 8 < 2 ^ 64 → word_at bytes offset ≡ Some (with_upper (value_of Call target 0 (base + offset)) CALL_UPPER)
    → word_at bytes (offset + 4) ≡ Some (with_lower (value_of Call target 0 (base + offset)) CALL_JUMP) → Goes bytes base (base + offset) target 1 1
call_goes bytes base offset target reach low fits one two =
    goes_by bytes base offset target 1 1 _ _ (call_site (value_of Call target 0 (base + offset))) (λ x regs. refl) (λ x regs ne. refl) reach low fits one two

pub tail_goes : (bytes : List ℕ) (base offset target : ℕ) → IsTrue (is_in_range Call (value_of Call target 0 (base + offset))) → target < 2 ^ 64
    → base + offset + 8 < 2 ^ 64 → word_at bytes offset ≡ Some (with_upper (value_of Call target 0 (base + offset)) TAIL_UPPER)
    → word_at bytes (offset + 4) ≡ Some (with_lower (value_of Call target 0 (base + offset)) TAIL_JUMP) → Goes bytes base (base + offset) target 6 0
tail_goes bytes base offset target reach low fits one two =
    goes_by bytes base offset target 6 0 _ _ (tail_site (value_of Call target 0 (base + offset))) (λ x regs. refl) (λ x regs ne. absurd (ne refl)) reach low
    fits one two
