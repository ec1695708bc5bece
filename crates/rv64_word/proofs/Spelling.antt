-- A word is spelled by the fields that it shows.
use Rattle.std.proofs.Common.{◌≡◌, ℕ, suc, ◌+◌, ◌-◌, ◌/◌, ◌^◌, ◌%◌, ◌<◌, ◌≤◌, pos, negsuc, Bool, true, false, ◌&&◌, ◌⊎◌, inl, inr, List, [], ◌∷◌, IsTrue, ltb}
use Rattle.std.proofs.Common.{leb, eq-eqb, refl, ◌∙◌, arith}
use Rattle.std.proofs.lemmas.Nat.{mod-pow-add}
use Rattle.std.proofs.lemmas.List.Sums.{sum_by-cons}
use Rattle.std.proofs.lemmas.Bool.{le-leb, ltb-true, ltb-false}
use Rattle.rv64_instr.specs.Arithmetic.{word}
use Rattle.rv64_instr.specs.Form.{is_within}
use Rattle.rv64_word.specs.declared.format.EncodingField.{EncodingField}
use Rattle.rv64_word.specs.declared.format.EncodingField.TheVariants.{Rd, Rs1, Rs2, Imm}
use Rattle.rv64_word.specs.declared.format.Slice.{Slice}
use Rattle.rv64_word.specs.declared.format.Format.{Format}
use Rattle.rv64_word.specs.declared.format.Format.TheVariants.{Register, Immediate, Shift, WordShift, Store, Branch, Upper, Jump}
use Rattle.rv64_word.specs.declared.machine_op.MachineOp.{MachineOp}
use Rattle.rv64_word.specs.declared.word_op.WordOp.{WordOp}
use Rattle.rv64_word.specs.Format.{slices_of, bits_of, spelled, width_of, shown, sign_extended, number_of}
use Rattle.rv64_word.specs.Operation.{encoding_of}
use Rattle.rv64_word.specs.MachineOp.{value_of, fits}
use Rattle.rv64_word.proofs.Slices.{joined, width_is}
use Rattle.rv64_word.proofs.Reading.{fold_shift, below_zero}
use Rattle.rv64_word.proofs.Fitting.{both, Fits, is_fit}
use Rattle.rv64_word.proofs.Operations.{Matches}

and_true : (b : Bool) → IsTrue b → IsTrue (b && true)
and_true true h = refl
and_true false h = h

-- each slice of the values is the word's
abbrev pub Agree : List Slice → (EncodingField → ℕ) → ℕ → Type 0
Agree [] v w = Unit {0}
Agree (s ∷ rest) v w = (bits_of s (v s.field) ≡ w / 2 ^ width_of rest % 2 ^ s.width) × Agree rest v w

spelled_back : (slices : List Slice) (v : EncodingField → ℕ) (w : ℕ) → Agree slices v w → spelled slices v ≡ w % 2 ^ width_of slices
spelled_back [] v w h = omega arith
spelled_back (s ∷ rest) v w (here, later) =
    let wide : width_of (s ∷ rest) ≡ s.width + width_of rest = sum_by-cons (λ (x : Slice). x.width) s rest in
    let first : joined v 0 s ≡ w / 2 ^ width_of rest % 2 ^ s.width = omega (arith, here) in
    fold_shift v rest (joined v 0 s) ∙ rw (first, spelled_back rest v w later, wide, mod-pow-add w s.width (width_of rest)) refl

-- a number with a sign is itself, or its distance below zero
extended_at : (bits n : ℕ) (b : Bool) → ltb n (2 ^ (bits - 1)) ≡ b → n < 2 ^ bits →
    ((n < 2 ^ (bits - 1)) × (sign_extended bits n ≡ pos n))
    ⊎ ((j : ℕ) × (n + suc j ≡ 2 ^ bits) × (2 ^ (bits - 1) ≤ n) × (sign_extended bits n ≡ negsuc j))
extended_at bits n true e low = inl (ltb-true n (2 ^ (bits - 1)) e, rw e refl)
extended_at bits n false e low =
    let sum : n + suc (2 ^ bits - suc n) ≡ 2 ^ bits = omega arith in
    inr (2 ^ bits - suc n, sum, ltb-false n (2 ^ (bits - 1)) e, rw e (below_zero n (2 ^ bits) (2 ^ bits - suc n) sum))

extended : (bits n : ℕ) → n < 2 ^ bits →
    ((n < 2 ^ (bits - 1)) × (sign_extended bits n ≡ pos n))
    ⊎ ((j : ℕ) × (n + suc j ≡ 2 ^ bits) × (2 ^ (bits - 1) ≤ n) × (sign_extended bits n ≡ negsuc j))
extended bits n low = extended_at bits n (ltb n (2 ^ (bits - 1))) refl low

extended12 : (n : ℕ) → n < 4096 → (word (sign_extended 12 n) % 4096 ≡ n) × IsTrue (is_within (negsuc 2047) (pos 2047) (sign_extended 12 n))
extended12 n low = elim (extended 12 n low) as (λ _. (word (sign_extended 12 n) % 4096 ≡ n) ×
    IsTrue (is_within (negsuc 2047) (pos 2047) (sign_extended 12 n))) [
      | inl k ↦ rw k.1 (omega arith, le-leb n 2047 (omega (arith, k.0)))
      | inr k ↦ rw k.3 (omega (arith, k.1), and_true _ (le-leb k.0 2047 (omega (arith, k.1, k.2))))
    ]

extended13 : (n : ℕ) → n < 8192 → n % 2 ≡ 0 → (word (sign_extended 13 n) % 8192 ≡ n) × IsTrue (is_within (negsuc 4095) (pos 4094) (sign_extended 13 n))
extended13 n low even = elim (extended 13 n low) as (λ _. (word (sign_extended 13 n) % 8192 ≡ n) ×
    IsTrue (is_within (negsuc 4095) (pos 4094) (sign_extended 13 n))) [
      | inl k ↦ rw k.1 (omega arith, le-leb n 4094 (omega (arith, k.0, even)))
      | inr k ↦ rw k.3 (omega (arith, k.1), and_true _ (le-leb k.0 4095 (omega (arith, k.1, k.2))))
    ]

extended21 : (n : ℕ) → n < 2097152 → n % 2 ≡ 0 → (word (sign_extended 21 n) % 2097152 ≡ n) ×
    IsTrue (is_within (negsuc 1048575) (pos 1048574) (sign_extended 21 n))
extended21 n low even = elim (extended 21 n low) as (λ _. (word (sign_extended 21 n) % 2097152 ≡ n) ×
    IsTrue (is_within (negsuc 1048575) (pos 1048574) (sign_extended 21 n))) [
      | inl k ↦ rw k.1 (omega arith, le-leb n 1048574 (omega (arith, k.0, even)))
      | inr k ↦ rw k.3 (omega (arith, k.1), and_true _ (le-leb k.0 1048575 (omega (arith, k.1, k.2))))
    ]

-- the operation with its fields as slices of a format show them
abbrev pub read_in : Format → WordOp → ℕ → MachineOp
read_in format op w =
    let slices = slices_of format in
    record { op = op; rd = shown slices Rd w; rs1 = shown slices Rs1 w; rs2 = shown slices Rs2 w; imm = number_of format (shown slices Imm w) }

-- the codes that a word has where it is of a format
abbrev CodesIn : Format → WordOp → ℕ → Type 0
CodesIn format op w = (w % 128 ≡ (encoding_of op).opcode) × Matches format (encoding_of op) (w / 4096 % 8) (w / 33554432)

-- the fields that a word shows fit, and agree with it
Read : Format → WordOp → ℕ → Type 0
Read format op w = Fits format (read_in format op w) × Agree (slices_of format) (value_of (read_in format op w)) w

-- a word below 2^32 is its parts
read : (format : Format) (op : WordOp) (w : ℕ) → w < 2 ^ 32 → CodesIn format op w → Read format op w
unfolding Read
read Register op w low (o, (a, b)) =
    ((omega arith, omega arith, omega arith, refl), (omega (arith, b), (omega arith, (omega arith, (omega (arith, a), (omega arith, (omega (arith, o), tt)))))))
read Immediate op w low (o, a) =
    let n : ℕ = shown (slices_of Immediate) Imm w in
    let k : (word (sign_extended 12 n) % 4096 ≡ n) × IsTrue (is_within (negsuc 2047) (pos 2047) (sign_extended 12 n)) = extended12 n (omega arith) in
    ((omega arith, omega arith, refl, k.1), (omega (arith, k.0), (omega arith, (omega (arith, a), (omega arith, (omega (arith, o), tt))))))
read Shift op w low (o, (a, b)) =
    let n : ℕ = shown (slices_of Shift) Imm w in (
      (omega arith, omega arith, refl, both (leb 0 n) (leb n 63) (le-leb 0 n (omega arith)) (le-leb n 63 (omega arith))),
      (omega (arith, b), (omega arith, (omega arith, (omega (arith, a), (omega arith, (omega (arith, o), tt)))))),
    )
read WordShift op w low (o, (a, b)) =
    let n : ℕ = shown (slices_of WordShift) Imm w in (
      (omega arith, omega arith, refl, both (leb 0 n) (leb n 31) (le-leb 0 n (omega arith)) (le-leb n 31 (omega arith))),
      (omega (arith, b), (omega arith, (omega arith, (omega (arith, a), (omega arith, (omega (arith, o), tt)))))),
    )
read Store op w low (o, a) =
    let n : ℕ = shown (slices_of Store) Imm w in
    let k : (word (sign_extended 12 n) % 4096 ≡ n) × IsTrue (is_within (negsuc 2047) (pos 2047) (sign_extended 12 n)) = extended12 n (omega arith) in (
      (refl, omega arith, omega arith, k.1),
      (
        omega (arith, k.0),
        (omega arith, (omega arith, (omega (arith, a), (omega (arith, k.0), (omega (arith, o), tt))))),
      ),
    )
read Branch op w low (o, a) =
    let n : ℕ = shown (slices_of Branch) Imm w in
    let k : (word (sign_extended 13 n) % 8192 ≡ n) × IsTrue (is_within (negsuc 4095) (pos 4094) (sign_extended 13 n)) =
    extended13 n (omega arith) (omega arith) in (
      (refl, omega arith, omega arith, k.1, eq-eqb _ 0 (omega (arith, k.0))),
      (
        omega (arith, k.0),
        (
          omega (arith, k.0),
          (
            omega arith,
            (omega arith, (omega (arith, a), (omega (arith, k.0), (omega (arith, k.0), (omega (arith, o), tt))))),
          ),
        ),
      ),
    )
read Upper op w low (o, a) =
    let n : ℕ = shown (slices_of Upper) Imm w in (
      (omega arith, refl, refl, both (leb 0 n) (leb n 1048575) (le-leb 0 n (omega arith)) (le-leb n 1048575 (omega arith))),
      (omega arith, (omega arith, (omega (arith, o), tt))),
    )
read Jump op w low (o, a) =
    let n : ℕ = shown (slices_of Jump) Imm w in
    let k : (word (sign_extended 21 n) % 2097152 ≡ n) × IsTrue (is_within (negsuc 1048575) (pos 1048574) (sign_extended 21 n)) =
    extended21 n (omega arith) (omega arith) in (
      (omega arith, refl, refl, k.1, eq-eqb _ 0 (omega (arith, k.0))),
      (omega (arith, k.0), (omega (arith, k.0), (omega (arith, k.0), (omega (arith, k.0), (omega arith, (omega (arith, o), tt)))))),
    )

-- what a word is read as fits its format, and has the word
pub read_fits : (format : Format) (op : WordOp) (w : ℕ) → w < 2 ^ 32 → CodesIn format op w →
    IsTrue (fits format (read_in format op w)) × (spelled (slices_of format) (value_of (read_in format op w)) ≡ w)
unfolding Read
read_fits format op w low h =
    let k = read format op w low h in
    let whole : w % 2 ^ 32 ≡ w = omega arith in
    (is_fit format (read_in format op w) k.0, rw (width_is format) at (spelled_back (slices_of format) (value_of (read_in format op w)) w k.1) ∙ whole)
