-- What slices spell, read from the high end.
use Rattle.std.proofs.Common.{◌≡◌, ℕ, ◌+◌, ◌*◌, ◌/◌, ◌^◌, ◌%◌, ◌<◌, ◌≤◌, List, [], ◌∷◌, cond, length, take, drop, drop-cons, add-one, get_or, bit_or, refl, ap}
use Rattle.std.proofs.Common.{◌∙◌, arith, add-zero}
use Rattle.std.specs.Prelude.{fold}
use Rattle.std.proofs.lemmas.Nat.{pow_pos, pow-add, mod_below, mul-add-lt, shl_whole, or_shifted}
use Rattle.std.proofs.lemmas.List.Sums.{fold_more, sum_by-cons, sum_by_more, sum_by-take-le, sum_by-drop_more, sum_by-take-drop}
use Rattle.rv64_word.specs.declared.format.EncodingField.{EncodingField}
use Rattle.rv64_word.specs.declared.format.Slice.{Slice}
use Rattle.rv64_word.specs.declared.format.Format.{Format}
use Rattle.rv64_word.specs.declared.format.Format.TheVariants.{Register, Immediate, Shift, WordShift, Store, Branch, Upper, Jump}
use Rattle.rv64_word.specs.declared.format.EncodingField.TheVariants.{Opcode, Rd, Funct3, Rs1, Rs2, Funct7, Imm}
use Rattle.rv64_word.specs.Format.{bits, slices_of, bits_of, spelled, width_of, same_field, shown}

pub bits_below : (s : Slice) (value : ℕ) → bits_of s value < 2 ^ s.width
bits_below s value = mod_below _ _ (pow_pos s.width)

-- one more slice behind a number
abbrev pub joined : (EncodingField → ℕ) → ℕ → Slice → ℕ
joined value word s = word * 2 ^ s.width + bits_of s (value s.field)

joined_below : (value : EncodingField → ℕ) (word j : ℕ) (s : Slice) → word < 2 ^ j → joined value word s < 2 ^ (j + s.width)
joined_below value word j s h =
    rw (pow-add 2 j s.width) (omega (arith, mul-add-lt word (2 ^ s.width) (bits_of s (value s.field)) (2 ^ j) h (bits_below s (value s.field))))

pub fold_below : (value : EncodingField → ℕ) (slices : List Slice) (word j : ℕ) → word < 2 ^ j → fold (joined value) word slices < 2 ^ (j + width_of slices)
fold_below value [] word j h = rw (add-zero j) h
fold_below value (s ∷ rest) word j h =
    let e : j + width_of (s ∷ rest) ≡ (j + s.width) + width_of rest = omega (arith, sum_by-cons (λ (s : Slice). s.width) s rest) in
    rw e (fold_below value rest (joined value word s) (j + s.width) (joined_below value word j s h))

-- the encoder's step: a shift, and the next slice's bits below
pub spelled_more : (value : EncodingField → ℕ) (slices : List Slice) (i : ℕ) (d : Slice) (word : ℕ) → width_of slices ≤ 32 → i < length slices →
    word ≡ spelled (take i slices) value →
    bit_or ((word * 2 ^ (get_or slices i d).width) % 2 ^ 32) (bits_of (get_or slices i d) (value (get_or slices i d).field))
    ≡ spelled (take (i + 1) slices) value
spelled_more value slices i d word short within is =
    let s = get_or slices i d in
    let low : word < 2 ^ (0 + width_of (take i slices)) = rw is (fold_below value (take i slices) 0 0 (omega arith)) in
    let room : (0 + width_of (take i slices)) + s.width ≤ 32 =
    omega (arith, sum_by_more (λ (s : Slice). s.width) slices i d within, sum_by-take-le (λ (s : Slice). s.width) slices (i + 1)) in
    let whole = shl_whole word (0 + width_of (take i slices)) s.width 32 low room in
    let apart = or_shifted word s.width (bits_of s (value s.field)) (bits_below s (value s.field)) in
    let more = fold_more (joined value) 0 slices i d within in
    rw (whole, apart, more, ← is) refl

pub width_is : (f : Format) → width_of (slices_of f) ≡ 32
width_is Register = refl
width_is Immediate = refl
width_is Shift = refl
width_is WordShift = refl
width_is Store = refl
width_is Branch = refl
width_is Upper = refl
width_is Jump = refl

-- the decoder's step: the bits below the slice are those of the slices behind it
pub shown_more : (slices : List Slice) (i : ℕ) (d : Slice) (field : EncodingField) (word : ℕ) → i < length slices →
    shown (drop i slices) field word
    ≡ cond (same_field (get_or slices i d).field field)
    (word / 2 ^ width_of (drop (i + 1) slices) % 2 ^ (get_or slices i d).width * 2 ^ (get_or slices i d).low) 0
    + shown (drop (i + 1) slices) field word
shown_more slices i d field word within = ap (λ (xs : List Slice). shown xs field word) (drop-cons slices i d within) ∙ rw add-one refl

pub width_more : (slices : List Slice) (i : ℕ) (d : Slice) → i < length slices →
    width_of (drop i slices) ≡ (get_or slices i d).width + width_of (drop (i + 1) slices)
width_more slices i d within = sum_by-drop_more (λ (s : Slice). s.width) slices i d within

tail_width : (s : Slice) (rest : List Slice) (i : ℕ) → width_of (drop (i + 1) (s ∷ rest)) ≤ width_of rest
tail_width s rest i = rw add-one (omega (arith, sum_by-take-drop (λ (x : Slice). x.width) rest i))

-- below a slice of a word there are fewer than 32 bits
pub rest_below : (f : Format) (i : ℕ) → width_of (drop (i + 1) (slices_of f)) < 32
rest_below Register i = omega (arith, tail_width (bits Funct7 6 0) (bits Rs2 4 0 ∷ bits Rs1 4 0 ∷ bits Funct3 2 0 ∷ bits Rd 4 0 ∷ bits Opcode 6 0 ∷ []) i)
rest_below Immediate i = omega (arith, tail_width (bits Imm 11 0) (bits Rs1 4 0 ∷ bits Funct3 2 0 ∷ bits Rd 4 0 ∷ bits Opcode 6 0 ∷ []) i)
rest_below Shift i = omega (arith, tail_width (bits Funct7 6 1) (bits Imm 5 0 ∷ bits Rs1 4 0 ∷ bits Funct3 2 0 ∷ bits Rd 4 0 ∷ bits Opcode 6 0 ∷ []) i)
rest_below WordShift i = omega (arith, tail_width (bits Funct7 6 0) (bits Imm 4 0 ∷ bits Rs1 4 0 ∷ bits Funct3 2 0 ∷ bits Rd 4 0 ∷ bits Opcode 6 0 ∷ []) i)
rest_below Store i = omega (arith, tail_width (bits Imm 11 5) (bits Rs2 4 0 ∷ bits Rs1 4 0 ∷ bits Funct3 2 0 ∷ bits Imm 4 0 ∷ bits Opcode 6 0 ∷ []) i)
rest_below Branch i = omega (
  arith,
  tail_width (bits Imm 12 12)
      (bits Imm 10 5 ∷ bits Rs2 4 0 ∷ bits Rs1 4 0 ∷ bits Funct3 2 0 ∷ bits Imm 4 1 ∷ bits Imm 11 11 ∷ bits Opcode 6 0 ∷ []) i,
)
rest_below Upper i = omega (arith, tail_width (bits Imm 19 0) (bits Rd 4 0 ∷ bits Opcode 6 0 ∷ []) i)
rest_below Jump i = omega (arith, tail_width (bits Imm 20 20) (bits Imm 10 1 ∷ bits Imm 11 11 ∷ bits Imm 19 12 ∷ bits Rd 4 0 ∷ bits Opcode 6 0 ∷ []) i)
