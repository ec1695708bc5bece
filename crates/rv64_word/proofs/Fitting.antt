-- What the fields of a format are that fit it.
use Rattle.std.proofs.Common.{◌≡◌, ◌<◌, pos, negsuc, Bool, true, false, ◌&&◌, IsTrue, eq-eqb, refl}
use Rattle.std.specs.Prelude.{nat_eq}
use Rattle.std.proofs.lemmas.Bool.{lt-ltb, ltb-true, eqb-true}
use Rattle.rv64_instr.specs.Form.{is_within}
use Rattle.rv64_word.specs.declared.format.Format.{Format}
use Rattle.rv64_word.specs.declared.format.Format.TheVariants.{Register, Immediate, Shift, WordShift, Store, Branch, Upper, Jump}
use Rattle.rv64_word.specs.declared.machine_op.MachineOp.{MachineOp}
use Rattle.rv64_word.specs.MachineOp.{fits, is_register, is_even}

-- the test `fits`, as facts
abbrev pub Fits : Format → MachineOp → Type 0
Fits Register m = (m.rd < 32) × (m.rs1 < 32) × (m.rs2 < 32) × IsTrue (is_within (pos 0) (pos 0) m.imm)
Fits Immediate m = (m.rd < 32) × (m.rs1 < 32) × (m.rs2 ≡ 0) × IsTrue (is_within (negsuc 2047) (pos 2047) m.imm)
Fits Shift m = (m.rd < 32) × (m.rs1 < 32) × (m.rs2 ≡ 0) × IsTrue (is_within (pos 0) (pos 63) m.imm)
Fits WordShift m = (m.rd < 32) × (m.rs1 < 32) × (m.rs2 ≡ 0) × IsTrue (is_within (pos 0) (pos 31) m.imm)
Fits Store m = (m.rd ≡ 0) × (m.rs1 < 32) × (m.rs2 < 32) × IsTrue (is_within (negsuc 2047) (pos 2047) m.imm)
Fits Branch m = (m.rd ≡ 0) × (m.rs1 < 32) × (m.rs2 < 32) × IsTrue (is_within (negsuc 4095) (pos 4094) m.imm) × IsTrue (is_even m.imm)
Fits Upper m = (m.rd < 32) × (m.rs1 ≡ 0) × (m.rs2 ≡ 0) × IsTrue (is_within (pos 0) (pos 1048575) m.imm)
Fits Jump m = (m.rd < 32) × (m.rs1 ≡ 0) × (m.rs2 ≡ 0) × IsTrue (is_within (negsuc 1048575) (pos 1048574) m.imm) × IsTrue (is_even m.imm)

left : (a b : Bool) → IsTrue (a && b) → IsTrue a
left true b h = refl
left false b h = h

pub right : (a b : Bool) → IsTrue (a && b) → IsTrue b
right true b h = h
right false b h = cc

four : (a b c d : Bool) → IsTrue (a && b && c && d) → IsTrue a × IsTrue b × IsTrue c × IsTrue d
four a b c d h =
    let three = left (a && b && c) d h in
    let two = left (a && b) c three in
    (left a b two, right a b two, right (a && b) c three, right (a && b && c) d h)

pub both : (a b : Bool) → IsTrue a → IsTrue b → IsTrue (a && b)
both true b h k = k
both false b h k = h

all_four : (a b c d : Bool) → IsTrue a → IsTrue b → IsTrue c → IsTrue d → IsTrue (a && b && c && d)
all_four a b c d h k l m = both (a && b && c) d (both (a && b) c (both a b h k) l) m

pub fitting : (format : Format) (m : MachineOp) → IsTrue (fits format m) → Fits format m
fitting Register m h =
    let p = four (is_register m.rd) (is_register m.rs1) (is_register m.rs2) (is_within (pos 0) (pos 0) m.imm) h in
    (ltb-true m.rd 32 p.0, ltb-true m.rs1 32 p.1, ltb-true m.rs2 32 p.2, p.3)
fitting Immediate m h =
    let p = four (is_register m.rd) (is_register m.rs1) (nat_eq m.rs2 0) (is_within (negsuc 2047) (pos 2047) m.imm) h in
    (ltb-true m.rd 32 p.0, ltb-true m.rs1 32 p.1, eqb-true m.rs2 0 p.2, p.3)
fitting Shift m h =
    let p = four (is_register m.rd) (is_register m.rs1) (nat_eq m.rs2 0) (is_within (pos 0) (pos 63) m.imm) h in
    (ltb-true m.rd 32 p.0, ltb-true m.rs1 32 p.1, eqb-true m.rs2 0 p.2, p.3)
fitting WordShift m h =
    let p = four (is_register m.rd) (is_register m.rs1) (nat_eq m.rs2 0) (is_within (pos 0) (pos 31) m.imm) h in
    (ltb-true m.rd 32 p.0, ltb-true m.rs1 32 p.1, eqb-true m.rs2 0 p.2, p.3)
fitting Store m h =
    let p = four (nat_eq m.rd 0) (is_register m.rs1) (is_register m.rs2) (is_within (negsuc 2047) (pos 2047) m.imm) h in
    (eqb-true m.rd 0 p.0, ltb-true m.rs1 32 p.1, ltb-true m.rs2 32 p.2, p.3)
fitting Branch m h =
    let p = four (nat_eq m.rd 0) (is_register m.rs1) (is_register m.rs2) (is_within (negsuc 4095) (pos 4094) m.imm) (left _ (is_even m.imm) h) in
    (eqb-true m.rd 0 p.0, ltb-true m.rs1 32 p.1, ltb-true m.rs2 32 p.2, p.3, right _ (is_even m.imm) h)
fitting Upper m h =
    let p = four (is_register m.rd) (nat_eq m.rs1 0) (nat_eq m.rs2 0) (is_within (pos 0) (pos 1048575) m.imm) h in
    (ltb-true m.rd 32 p.0, eqb-true m.rs1 0 p.1, eqb-true m.rs2 0 p.2, p.3)
fitting Jump m h =
    let p = four (is_register m.rd) (nat_eq m.rs1 0) (nat_eq m.rs2 0) (is_within (negsuc 1048575) (pos 1048574) m.imm) (left _ (is_even m.imm) h) in
    (ltb-true m.rd 32 p.0, eqb-true m.rs1 0 p.1, eqb-true m.rs2 0 p.2, p.3, right _ (is_even m.imm) h)

pub is_fit : (format : Format) (m : MachineOp) → Fits format m → IsTrue (fits format m)
is_fit Register m (a, b, c, d) = all_four _ _ _ _ (lt-ltb m.rd 32 a) (lt-ltb m.rs1 32 b) (lt-ltb m.rs2 32 c) d
is_fit Immediate m (a, b, c, d) = all_four _ _ _ _ (lt-ltb m.rd 32 a) (lt-ltb m.rs1 32 b) (eq-eqb m.rs2 0 c) d
is_fit Shift m (a, b, c, d) = all_four _ _ _ _ (lt-ltb m.rd 32 a) (lt-ltb m.rs1 32 b) (eq-eqb m.rs2 0 c) d
is_fit WordShift m (a, b, c, d) = all_four _ _ _ _ (lt-ltb m.rd 32 a) (lt-ltb m.rs1 32 b) (eq-eqb m.rs2 0 c) d
is_fit Store m (a, b, c, d) = all_four _ _ _ _ (eq-eqb m.rd 0 a) (lt-ltb m.rs1 32 b) (lt-ltb m.rs2 32 c) d
is_fit Branch m (a, b, c, d, e) = both _ _ (all_four _ _ _ _ (eq-eqb m.rd 0 a) (lt-ltb m.rs1 32 b) (lt-ltb m.rs2 32 c) d) e
is_fit Upper m (a, b, c, d) = all_four _ _ _ _ (lt-ltb m.rd 32 a) (eq-eqb m.rs1 0 b) (eq-eqb m.rs2 0 c) d
is_fit Jump m (a, b, c, d, e) = both _ _ (all_four _ _ _ _ (lt-ltb m.rd 32 a) (eq-eqb m.rs1 0 b) (eq-eqb m.rs2 0 c) d) e
