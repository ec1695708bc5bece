-- What was spelled is read back.
use Rattle.std.proofs.Common.{◌≡◌, ℕ, ◌+◌, ◌-◌, ◌*◌, ◌/◌, ◌^◌, ◌%◌, ◌<◌, ◌≤◌, suc, ℤ, ◌-ℤ◌, pos, negsuc, true, false, cond, List, [], ◌∷◌, ◌++◌, IsTrue, ltb}
use Rattle.std.proofs.Common.{leb, refl, sym, ap, ◌∙◌, arith, zero-add}
use Rattle.std.specs.Prelude.{fold}
use Rattle.std.proofs.lemmas.Nat.{pow-add, shr_high, mod_low}
use Rattle.std.proofs.lemmas.Int.{ints}
use Rattle.std.proofs.lemmas.List.Sums.{sum_by-cons, fold-append}
use Rattle.std.proofs.lemmas.Bool.{lt-ltb, le-ltb, leb-true, eqb-true}
use Rattle.std.proofs.lemmas.Bool.Decides.{nat_tests}
use Rattle.rv64_instr.specs.Arithmetic.{word}
use Rattle.rv64_instr.specs.Form.{is_within}
use Rattle.rv64_word.specs.declared.format.EncodingField.{EncodingField}
use Rattle.rv64_word.specs.declared.format.EncodingField.TheVariants.{Opcode, Rd, Funct3, Rs1, Rs2, Funct7, Imm}
use Rattle.rv64_word.specs.declared.format.Slice.{Slice}
use Rattle.rv64_word.specs.declared.format.Format.{Format}
use Rattle.rv64_word.specs.declared.format.Format.TheVariants.{Register, Immediate, Shift, WordShift, Store, Branch, Upper, Jump}
use Rattle.rv64_word.specs.declared.machine_op.MachineOp.{MachineOp}
use Rattle.rv64_word.specs.Format.{bits, slices_of, bits_of, spelled, width_of, same_field, shown, sign_extended, number_of}
use Rattle.rv64_word.specs.MachineOp.{value_of, fits, is_even}
use Rattle.rv64_word.proofs.Fitting.{right, Fits, fitting}
use Rattle.rv64_word.proofs.Slices.{joined, fold_below, bits_below, width_is}

moved_up : (a b p q f : ℕ) → (a * p + b) * q + f ≡ a * (p * q) + ((0 * p + b) * q + f)
moved_up a b p q f = omega arith

-- slices behind a number move it up by their bits
pub fold_shift : (v : EncodingField → ℕ) (slices : List Slice) (a : ℕ) → fold (joined v) a slices ≡ a * 2 ^ width_of slices + fold (joined v) 0 slices
fold_shift v [] a = omega arith
fold_shift v (s ∷ rest) a =
    let b = bits_of s (v s.field) in
    let left = fold_shift v rest (joined v a s) in
    let right = fold_shift v rest (joined v 0 s) in
    let wide : width_of (s ∷ rest) ≡ s.width + width_of rest = sum_by-cons (λ (x : Slice). x.width) s rest in
    left ∙ moved_up a b (2 ^ s.width) (2 ^ width_of rest) (fold (joined v) 0 rest) ∙ rw (wide, pow-add, ← right) refl

-- a slice of what was spelled
pub at_slice : (v : EncodingField → ℕ) (before : ℕ) (s : Slice) (rest : List Slice) →
    fold (joined v) before (s ∷ rest) / 2 ^ width_of rest % 2 ^ s.width ≡ bits_of s (v s.field)
at_slice v before s rest =
    let low : fold (joined v) 0 rest < 2 ^ width_of rest = rw zero-add at (fold_below v rest 0 0 (omega arith)) in
    rw (fold_shift v rest (joined v before s), shr_high (joined v before s) (width_of rest) (fold (joined v) 0 rest) low)
    (mod_low before s.width (bits_of s (v s.field)) (bits_below s (v s.field)))

-- the bits of a field that slices spell
abbrev pub collected : List Slice → EncodingField → (EncodingField → ℕ) → ℕ
collected [] field v = 0
collected (s ∷ rest) field v = cond (same_field s.field field) (bits_of s (v s.field) * 2 ^ s.low) 0 + collected rest field v

pub shown-fold : (v : EncodingField → ℕ) (slices : List Slice) (before : ℕ) (field : EncodingField) →
    shown slices field (fold (joined v) before slices) ≡ collected slices field v
shown-fold v [] before field = refl
shown-fold v (s ∷ rest) before field = rw (at_slice v before s rest, shown-fold v rest (joined v before s) field) refl

pub below_zero : (m full n : ℕ) → m + suc n ≡ full → pos m -ℤ pos full ≡ negsuc n
below_zero m full n e = omega (arith, ints)

pub back12 : (i : ℤ) → IsTrue (is_within (negsuc 2047) (pos 2047) i) → sign_extended 12 (word i % 4096) ≡ i
back12 (pos n) h =
    let small : n ≤ 2047 = grind (arith, nat_tests) in
    let e : word (pos n) % 4096 ≡ n = omega arith in
    let t : ltb n 2048 ≡ true = lt-ltb _ _ (omega arith) in
    rw (e, t) refl
back12 (negsuc n) h =
    let small : n ≤ 2047 = grind (arith, nat_tests) in
    let e : word (negsuc n) % 4096 ≡ 4096 - suc n = omega arith in
    let sum : (4096 - suc n) + suc n ≡ 4096 = omega arith in
    let t : ltb (4096 - suc n) 2048 ≡ false = le-ltb _ _ (omega arith) in
    rw (e, t) (below_zero _ _ n sum)

pub back13 : (i : ℤ) → IsTrue (is_within (negsuc 4095) (pos 4094) i) → sign_extended 13 (word i % 8192) ≡ i
back13 (pos n) h =
    let small : n ≤ 4094 = grind (arith, nat_tests) in
    let e : word (pos n) % 8192 ≡ n = omega arith in
    let t : ltb n 4096 ≡ true = lt-ltb _ _ (omega arith) in
    rw (e, t) refl
back13 (negsuc n) h =
    let small : n ≤ 4095 = grind (arith, nat_tests) in
    let e : word (negsuc n) % 8192 ≡ 8192 - suc n = omega arith in
    let sum : (8192 - suc n) + suc n ≡ 8192 = omega arith in
    let t : ltb (8192 - suc n) 4096 ≡ false = le-ltb _ _ (omega arith) in
    rw (e, t) (below_zero _ _ n sum)

pub back21 : (i : ℤ) → IsTrue (is_within (negsuc 1048575) (pos 1048574) i) → sign_extended 21 (word i % 2097152) ≡ i
back21 (pos n) h =
    let small : n ≤ 1048574 = grind (arith, nat_tests) in
    let e : word (pos n) % 2097152 ≡ n = omega arith in
    let t : ltb n 1048576 ≡ true = lt-ltb _ _ (omega arith) in
    rw (e, t) refl
back21 (negsuc n) h =
    let small : n ≤ 1048575 = grind (arith, nat_tests) in
    let e : word (negsuc n) % 2097152 ≡ 2097152 - suc n = omega arith in
    let sum : (2097152 - suc n) + suc n ≡ 2097152 = omega arith in
    let t : ltb (2097152 - suc n) 1048576 ≡ false = le-ltb _ _ (omega arith) in
    rw (e, t) (below_zero _ _ n sum)

pub record Back (format : Format) (m : MachineOp) : Type 0 where
  pub rd : collected (slices_of format) Rd (value_of m) ≡ m.rd
  pub rs1 : collected (slices_of format) Rs1 (value_of m) ≡ m.rs1
  pub rs2 : collected (slices_of format) Rs2 (value_of m) ≡ m.rs2
  pub imm : number_of format (collected (slices_of format) Imm (value_of m)) ≡ m.imm

-- a number that is not negative stands for itself
unsigned : (high : ℕ) (i : ℤ) → high < 2 ^ 64 → IsTrue (is_within (pos 0) (pos high) i) → (word i ≤ high) × (pos (word i) ≡ i)
unsigned high (pos n) wide h =
    let small : n ≤ high = leb-true n high (right (leb 0 n) (leb n high) h) in
    let e : word (pos n) ≡ n = omega arith in
    (omega arith, ap pos e)
unsigned high (negsuc n) wide h = let f : ⊥ = cc in absurd f

even : (i : ℤ) → IsTrue (is_even i) → word i % 2 ≡ 0
even i h = eqb-true (word i % 2) 0 h

fitting_back : (format : Format) (m : MachineOp) → Fits format m → Back format m
fitting_back Register m (rd, rs1, rs2, range) =
    let k : (word m.imm ≤ 0) × (pos (word m.imm) ≡ m.imm) = unsigned 0 m.imm (omega arith) range in
    let e : 0 ≡ word m.imm = omega (arith, k.0) in
    record { rd = omega (arith, rd); rs1 = omega (arith, rs1); rs2 = omega (arith, rs2); imm = ap pos e ∙ k.1 }
fitting_back Immediate m (rd, rs1, rs2, range) =
    let e : collected (slices_of Immediate) Imm (value_of m) ≡ word m.imm % 4096 = omega arith in
    record { rd = omega (arith, rd); rs1 = omega (arith, rs1); rs2 = sym rs2; imm = ap (sign_extended 12) e ∙ back12 m.imm range }
fitting_back Shift m (rd, rs1, rs2, range) =
    let k : (word m.imm ≤ 63) × (pos (word m.imm) ≡ m.imm) = unsigned 63 m.imm (omega arith) range in
    let e : collected (slices_of Shift) Imm (value_of m) ≡ word m.imm = omega (arith, k.0) in
    record { rd = omega (arith, rd); rs1 = omega (arith, rs1); rs2 = sym rs2; imm = ap pos e ∙ k.1 }
fitting_back WordShift m (rd, rs1, rs2, range) =
    let k : (word m.imm ≤ 31) × (pos (word m.imm) ≡ m.imm) = unsigned 31 m.imm (omega arith) range in
    let e : collected (slices_of WordShift) Imm (value_of m) ≡ word m.imm = omega (arith, k.0) in
    record { rd = omega (arith, rd); rs1 = omega (arith, rs1); rs2 = sym rs2; imm = ap pos e ∙ k.1 }
fitting_back Store m (rd, rs1, rs2, range) =
    let e : collected (slices_of Store) Imm (value_of m) ≡ word m.imm % 4096 = omega arith in
    record { rd = sym rd; rs1 = omega (arith, rs1); rs2 = omega (arith, rs2); imm = ap (sign_extended 12) e ∙ back12 m.imm range }
fitting_back Branch m (rd, rs1, rs2, range, last) =
    let zero_bit : word m.imm % 2 ≡ 0 = even m.imm last in
    let e : collected (slices_of Branch) Imm (value_of m) ≡ word m.imm % 8192 = omega (arith, zero_bit) in
    record { rd = sym rd; rs1 = omega (arith, rs1); rs2 = omega (arith, rs2); imm = ap (sign_extended 13) e ∙ back13 m.imm range }
fitting_back Upper m (rd, rs1, rs2, range) =
    let k : (word m.imm ≤ 1048575) × (pos (word m.imm) ≡ m.imm) = unsigned 1048575 m.imm (omega arith) range in
    let e : collected (slices_of Upper) Imm (value_of m) ≡ word m.imm = omega (arith, k.0) in
    record { rd = omega (arith, rd); rs1 = sym rs1; rs2 = sym rs2; imm = ap pos e ∙ k.1 }
fitting_back Jump m (rd, rs1, rs2, range, last) =
    let zero_bit : word m.imm % 2 ≡ 0 = even m.imm last in
    let e : collected (slices_of Jump) Imm (value_of m) ≡ word m.imm % 2097152 = omega (arith, zero_bit) in
    record { rd = omega (arith, rd); rs1 = sym rs1; rs2 = sym rs2; imm = ap (sign_extended 21) e ∙ back21 m.imm range }

pub fields_back : (format : Format) (m : MachineOp) → IsTrue (fits format m) → Back format m
fields_back format m h = fitting_back format m (fitting format m h)

-- what a word that was spelled has of opcode, funct3 and funct7
abbrev pub CodesOf : Format → (EncodingField → ℕ) → ℕ → Type 0
CodesOf Register v w = (w / 4096 % 8 ≡ v Funct3 % 8) × (w / 33554432 ≡ v Funct7 % 128)
CodesOf WordShift v w = (w / 4096 % 8 ≡ v Funct3 % 8) × (w / 33554432 ≡ v Funct7 % 128)
CodesOf Shift v w = (w / 4096 % 8 ≡ v Funct3 % 8) × (w / 33554432 / 2 ≡ v Funct7 / 2 % 64)
CodesOf Immediate v w = w / 4096 % 8 ≡ v Funct3 % 8
CodesOf Store v w = w / 4096 % 8 ≡ v Funct3 % 8
CodesOf Branch v w = w / 4096 % 8 ≡ v Funct3 % 8
CodesOf _ v w = Unit {0}

pub spelled_below : (format : Format) (v : EncodingField → ℕ) → spelled (slices_of format) v < 2 ^ 32
spelled_below format v = rw (width_is format) at (rw zero-add at (fold_below v (slices_of format) 0 0 (omega arith)))

at_place : (v : EncodingField → ℕ) (front : List Slice) (s : Slice) (rest : List Slice) →
    spelled (front ++ s ∷ rest) v / 2 ^ width_of rest % 2 ^ s.width ≡ bits_of s (v s.field)
at_place v front s rest = rw (fold-append (joined v) 0 front (s ∷ rest)) (at_slice v (fold (joined v) 0 front) s rest)

-- the parts of a word, for each format
pub codes : (format : Format) (v : EncodingField → ℕ) → (spelled (slices_of format) v % 128 ≡ v Opcode % 128) × CodesOf format v (spelled (slices_of format) v)
codes Register v =
    let bottom = at_place v (bits Funct7 6 0 ∷ bits Rs2 4 0 ∷ bits Rs1 4 0 ∷ bits Funct3 2 0 ∷ bits Rd 4 0 ∷ []) (bits Opcode 6 0) ([]) in
    let middle = at_place v (bits Funct7 6 0 ∷ bits Rs2 4 0 ∷ bits Rs1 4 0 ∷ []) (bits Funct3 2 0) (bits Rd 4 0 ∷ bits Opcode 6 0 ∷ []) in
    let top = at_place v ([]) (bits Funct7 6 0) (bits Rs2 4 0 ∷ bits Rs1 4 0 ∷ bits Funct3 2 0 ∷ bits Rd 4 0 ∷ bits Opcode 6 0 ∷ []) in
    let within = spelled_below Register v in
    (omega (arith, bottom), (omega (arith, middle), omega (arith, top, within)))
codes Immediate v =
    let bottom = at_place v (bits Imm 11 0 ∷ bits Rs1 4 0 ∷ bits Funct3 2 0 ∷ bits Rd 4 0 ∷ []) (bits Opcode 6 0) ([]) in
    let middle = at_place v (bits Imm 11 0 ∷ bits Rs1 4 0 ∷ []) (bits Funct3 2 0) (bits Rd 4 0 ∷ bits Opcode 6 0 ∷ []) in
    (omega (arith, bottom), omega (arith, middle))
codes Shift v =
    let bottom = at_place v (bits Funct7 6 1 ∷ bits Imm 5 0 ∷ bits Rs1 4 0 ∷ bits Funct3 2 0 ∷ bits Rd 4 0 ∷ []) (bits Opcode 6 0) ([]) in
    let middle = at_place v (bits Funct7 6 1 ∷ bits Imm 5 0 ∷ bits Rs1 4 0 ∷ []) (bits Funct3 2 0) (bits Rd 4 0 ∷ bits Opcode 6 0 ∷ []) in
    let top = at_place v ([]) (bits Funct7 6 1) (bits Imm 5 0 ∷ bits Rs1 4 0 ∷ bits Funct3 2 0 ∷ bits Rd 4 0 ∷ bits Opcode 6 0 ∷ []) in
    let within = spelled_below Shift v in
    (omega (arith, bottom), (omega (arith, middle), omega (arith, top, within)))
codes WordShift v =
    let bottom = at_place v (bits Funct7 6 0 ∷ bits Imm 4 0 ∷ bits Rs1 4 0 ∷ bits Funct3 2 0 ∷ bits Rd 4 0 ∷ []) (bits Opcode 6 0) ([]) in
    let middle = at_place v (bits Funct7 6 0 ∷ bits Imm 4 0 ∷ bits Rs1 4 0 ∷ []) (bits Funct3 2 0) (bits Rd 4 0 ∷ bits Opcode 6 0 ∷ []) in
    let top = at_place v ([]) (bits Funct7 6 0) (bits Imm 4 0 ∷ bits Rs1 4 0 ∷ bits Funct3 2 0 ∷ bits Rd 4 0 ∷ bits Opcode 6 0 ∷ []) in
    let within = spelled_below WordShift v in
    (omega (arith, bottom), (omega (arith, middle), omega (arith, top, within)))
codes Store v =
    let bottom = at_place v (bits Imm 11 5 ∷ bits Rs2 4 0 ∷ bits Rs1 4 0 ∷ bits Funct3 2 0 ∷ bits Imm 4 0 ∷ []) (bits Opcode 6 0) ([]) in
    let middle = at_place v (bits Imm 11 5 ∷ bits Rs2 4 0 ∷ bits Rs1 4 0 ∷ []) (bits Funct3 2 0) (bits Imm 4 0 ∷ bits Opcode 6 0 ∷ []) in
    (omega (arith, bottom), omega (arith, middle))
codes Branch v =
    let bottom = at_place v (bits Imm 12 12 ∷ bits Imm 10 5 ∷ bits Rs2 4 0 ∷ bits Rs1 4 0 ∷ bits Funct3 2 0 ∷ bits Imm 4 1 ∷ bits Imm 11 11 ∷ [])
    (bits Opcode 6 0) ([]) in
    let middle = at_place v (bits Imm 12 12 ∷ bits Imm 10 5 ∷ bits Rs2 4 0 ∷ bits Rs1 4 0 ∷ []) (bits Funct3 2 0)
    (bits Imm 4 1 ∷ bits Imm 11 11 ∷ bits Opcode 6 0 ∷ []) in
    (omega (arith, bottom), omega (arith, middle))
codes Upper v =
    let bottom = at_place v (bits Imm 19 0 ∷ bits Rd 4 0 ∷ []) (bits Opcode 6 0) ([]) in
    (omega (arith, bottom), tt)
codes Jump v =
    let bottom = at_place v (bits Imm 20 20 ∷ bits Imm 10 1 ∷ bits Imm 11 11 ∷ bits Imm 19 12 ∷ bits Rd 4 0 ∷ []) (bits Opcode 6 0) ([]) in
    (omega (arith, bottom), tt)
