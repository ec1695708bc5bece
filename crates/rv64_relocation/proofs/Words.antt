-- A relocated word has the immediate of the half of its address.
use Rattle.std.proofs.Common.{◌≡◌, ℕ, ◌+◌, ◌-◌, ◌*◌, ◌/◌, ◌%◌, ◌^◌, ◌<◌, ℤ, pos, List, Some, refl, sym, ap, ◌∙◌, arith}
use Rattle.std.specs.Int.{w32, from_le_bytes}
use Rattle.std.proofs.lemmas.Nat.{from_le_bytes-to_le_bytes_4}
use Rattle.rv64_instr.specs.declared.symbol.Half.{Half}
use Rattle.rv64_instr.specs.declared.symbol.Half.TheVariants as half
use Rattle.rv64_instr.specs.declared.symbol.LinkedAddress.{LinkedAddress}
use Rattle.rv64_instr.specs.declared.symbol.Symbol.{Symbol}
use Rattle.rv64_instr.specs.Arithmetic.{word}
use Rattle.rv64_instr.specs.Linked.{half_immediate, linked_address}
use Rattle.rv64_instr.specs.LocationEffects.{part_named}
use Rattle.rv64_instr.specs.Row.{Row}
use Rattle.rv64_instr.specs.View.{Class, class_of}
use Rattle.rv64_instr.specs.View as class
use Rattle.rv64_instr.proofs.Halves.{lower_by, below_zero}
use Rattle.rv64_word.specs.declared.format.EncodingField.TheVariants.{Opcode, Rd, Funct3, Rs1, Rs2}
use Rattle.rv64_word.specs.declared.format.Format.TheVariants as format
use Rattle.rv64_word.specs.Format.{slices_of, shown}
use Rattle.rv64_word.specs.Linked.{with_immediate, part_format, linked_by, linked_word}
use Rattle.elf_object.specs.Sections.{number_at}
use Rattle.elf_relocation.specs.declared.kind.RelocationKind.{RelocationKind}
use Rattle.elf_relocation.specs.declared.kind.RelocationKind.TheVariants.{Lower}
use Rattle.elf_relocation.specs.Fields.{field_size, filled, value_of, with_upper, with_lower, with_store_lower}
use Rattle.rv64_relocation.specs.Code.{half_kind, kind_by, relocation_kind}

-- ---- by the formats

-- the low bits of a lower half's immediate are those of the address
lower_bits : (v : ℕ) → word (half_immediate half.Lower v) % 2 ^ 12 ≡ v % 2 ^ 12
unfolding half_immediate
lower_bits v =
    lower_by (λ (z : ℤ). word z % 2 ^ 12 ≡ v % 2 ^ 12) (v % 4096) (λ lt. omega arith)
    (λ le. ap (λ (z : ℤ). word z % 2 ^ 12) (below_zero (v % 4096) (4095 - v % 4096) (omega arith)) ∙ omega (arith, le))

in_upper : (n v w : ℕ) → n % 2 ^ 20 ≡ (v + 2 ^ 11) / 2 ^ 12 % 2 ^ 20 →
    ((0 * 2 ^ 20 + n / 1 % 2 ^ 20) * 2 ^ 5 + shown (slices_of format.Upper) Rd w / 1 % 2 ^ 5) * 2 ^ 7 + shown (slices_of format.Upper) Opcode w / 1 % 2 ^ 7
    ≡ with_upper v w
in_upper n v w e = omega (arith, e)

upper_is : (v w : ℕ) → with_immediate format.Upper (half_immediate half.Upper v) w ≡ with_upper v w
unfolding with_immediate half_immediate
upper_is v w = in_upper (word (pos ((v + 2048) / 4096 % 2 ^ 20))) v w (omega arith)

in_lower : (n v w : ℕ) → n % 2 ^ 12 ≡ v % 2 ^ 12 →
    ((((0 * 2 ^ 12 + n / 1 % 2 ^ 12) * 2 ^ 5 + shown (slices_of format.Immediate) Rs1 w / 1 % 2 ^ 5) * 2 ^ 3
    + shown (slices_of format.Immediate) Funct3 w / 1 % 2 ^ 3) * 2 ^ 5 + shown (slices_of format.Immediate) Rd w / 1 % 2 ^ 5) * 2 ^ 7
    + shown (slices_of format.Immediate) Opcode w / 1 % 2 ^ 7
    ≡ with_lower v w
in_lower n v w e = omega (arith, e)

lower_is : (v w : ℕ) → with_immediate format.Immediate (half_immediate half.Lower v) w ≡ with_lower v w
unfolding with_immediate
lower_is v w = in_lower (word (half_immediate half.Lower v)) v w (lower_bits v)

in_store : (n v w : ℕ) → n % 2 ^ 12 ≡ v % 2 ^ 12 →
    (((((0 * 2 ^ 7 + n / 2 ^ 5 % 2 ^ 7) * 2 ^ 5 + shown (slices_of format.Store) Rs2 w / 1 % 2 ^ 5) * 2 ^ 5
    + shown (slices_of format.Store) Rs1 w / 1 % 2 ^ 5) * 2 ^ 3 + shown (slices_of format.Store) Funct3 w / 1 % 2 ^ 3) * 2 ^ 5 + n / 1 % 2 ^ 5) * 2 ^ 7
    + shown (slices_of format.Store) Opcode w / 1 % 2 ^ 7
    ≡ with_store_lower v w
in_store n v w e = omega (arith, e)

store_is : (v w : ℕ) → with_immediate format.Store (half_immediate half.Lower v) w ≡ with_store_lower v w
unfolding with_immediate
store_is v w = in_store (word (half_immediate half.Lower v)) v w (lower_bits v)

-- ---- as bytes

upper_below : (v w : ℕ) → with_upper v w < 2 ^ 32
upper_below v w = omega arith

lower_below : (v w : ℕ) → with_lower v w < 2 ^ 32
lower_below v w = omega arith

store_below : (v w : ℕ) → with_store_lower v w < 2 ^ 32
store_below v w = omega arith

in_immediate : (v : ℕ) (before : List ℕ) → from_le_bytes w32 (filled Lower v before)
    ≡ with_immediate format.Immediate (half_immediate half.Lower v) (number_at w32 0 before)
in_immediate v before =
    from_le_bytes-to_le_bytes_4 (with_lower v (number_at w32 0 before)) (lower_below v (number_at w32 0 before))
    ∙ sym (lower_is v (number_at w32 0 before))

-- the word of bytes that are filled
pub word_filled : (h : Half) (c : Class) (v : ℕ) (before : List ℕ)
    → from_le_bytes w32 (filled (half_kind h c) v before) ≡ with_immediate (part_format h c) (half_immediate h v) (number_at w32 0 before)
word_filled half.Upper c v before =
    from_le_bytes-to_le_bytes_4 (with_upper v (number_at w32 0 before)) (upper_below v (number_at w32 0 before))
    ∙ sym (upper_is v (number_at w32 0 before))
word_filled half.Lower class.Store v before =
    from_le_bytes-to_le_bytes_4 (with_store_lower v (number_at w32 0 before)) (store_below v (number_at w32 0 before))
    ∙ sym (store_is v (number_at w32 0 before))
word_filled half.Lower class.Branch v before = in_immediate v before
word_filled half.Lower class.Call v before = in_immediate v before
word_filled half.Lower class.Return v before = in_immediate v before
word_filled half.Lower class.Plain v before = in_immediate v before
word_filled half.Lower class.Odd v before = in_immediate v before

-- ---- by the row

-- what is added to a symbol's address is the value of each of these kinds
half_value : (h : Half) (c : Class) (s a p : ℕ) → value_of (half_kind h c) s a p ≡ (s + a) % 2 ^ 64
half_value half.Upper c s a p = refl
half_value half.Lower class.Store s a p = refl
half_value half.Lower class.Branch s a p = refl
half_value half.Lower class.Call s a p = refl
half_value half.Lower class.Return s a p = refl
half_value half.Lower class.Plain s a p = refl
half_value half.Lower class.Odd s a p = refl

pub linked_is : (symbols : Symbol → ℕ) (y : LinkedAddress) → linked_address symbols y ≡ (symbols y.symbol + word y.addend) % 2 ^ 64
unfolding linked_address
linked_is symbols y = refl

kind_is : (k l : RelocationKind) → Some k ≡ Some l → l ≡ k
kind_is k l e = cc

kind_named : (row : Row) (h : Half) (y : LinkedAddress) (k : RelocationKind) → part_named row ≡ Some (h, y) → relocation_kind row ≡ Some k
    → k ≡ half_kind h (class_of row)
kind_named row h y k named is = kind_is (half_kind h (class_of row)) k (sym (ap (kind_by (class_of row)) named) ∙ is)

pub relocated_linked : (symbols : Symbol → ℕ) (row : Row) (h : Half) (y : LinkedAddress) (k : RelocationKind) (v : ℕ) (before : List ℕ)
    → part_named row ≡ Some (h, y) → relocation_kind row ≡ Some k → v ≡ linked_address symbols y
    → from_le_bytes w32 (filled k v before) ≡ linked_word symbols row (number_at w32 0 before)
relocated_linked symbols row h y k v before named is value =
    let c : Class = class_of row in
    ap (λ (l : RelocationKind). from_le_bytes w32 (filled l v before)) (kind_named row h y k named is)
    ∙ ap (λ (n : ℕ). from_le_bytes w32 (filled (half_kind h c) n before)) value
    ∙ word_filled h c (linked_address symbols y) before
    ∙ sym (ap (λ q. linked_by symbols c q (number_at w32 0 before)) named)

pub relocated_value : (symbols : Symbol → ℕ) (row : Row) (h : Half) (y : LinkedAddress) (k : RelocationKind) (place : ℕ)
    → part_named row ≡ Some (h, y) → relocation_kind row ≡ Some k
    → value_of k (symbols y.symbol) (word y.addend) place ≡ linked_address symbols y
relocated_value symbols row h y k place named is =
    ap (λ (l : RelocationKind). value_of l (symbols y.symbol) (word y.addend) place) (kind_named row h y k named is)
    ∙ half_value h (class_of row) (symbols y.symbol) (word y.addend) place ∙ sym (linked_is symbols y)

-- a half's field is a word
pub half_size : (h : Half) (c : Class) → field_size (half_kind h c) ≡ 4
half_size half.Upper c = refl
half_size half.Lower class.Store = refl
half_size half.Lower class.Branch = refl
half_size half.Lower class.Call = refl
half_size half.Lower class.Return = refl
half_size half.Lower class.Plain = refl
half_size half.Lower class.Odd = refl

pub half_field : (row : Row) (h : Half) (y : LinkedAddress) (k : RelocationKind) → part_named row ≡ Some (h, y) → relocation_kind row ≡ Some k
    → field_size k ≡ 4
half_field row h y k named is = ap field_size (kind_named row h y k named is) ∙ half_size h (class_of row)

-- and its value the symbol's address with the addend
pub half_summed : (row : Row) (h : Half) (y : LinkedAddress) (k : RelocationKind) (s a p : ℕ) → part_named row ≡ Some (h, y) → relocation_kind row ≡ Some k
    → value_of k s a p ≡ (s + a) % 2 ^ 64
half_summed row h y k s a p named is =
    ap (λ (l : RelocationKind). value_of l s a p) (kind_named row h y k named is) ∙ half_value h (class_of row) s a p
