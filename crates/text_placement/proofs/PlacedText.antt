-- The words of a text after its relocations.
use Rattle.std.specs.Prelude.{All, IsTrue, None, nat_eq}
use Rattle.std.specs.Int.{w32, to_le_bytes, from_le_bytes}
use Rattle.std.proofs.Common.{◌≡◌, ℕ, ◌+◌, ◌-◌, ◌%◌, ◌^◌, ◌≤◌, ◌<◌, Bool, true, false, cond, List, ◌++◌, length, take, drop, get_or, Some}
use Rattle.std.proofs.Common.{arith, ap, sym, ◌∙◌, refl, subst}
use Rattle.std.proofs.lemmas.Bool.{eq-eqb}
use Rattle.std.proofs.lemmas.List.{take-take, take_at, drop_at, drop-drop, drop-take}
use Rattle.std.proofs.lemmas.Nat.{from_le_bytes-to_le_bytes_4}
use Rattle.rv64_instr.specs.declared.symbol.Half.{Half}
use Rattle.rv64_instr.specs.declared.symbol.LinkedAddress.{LinkedAddress}
use Rattle.rv64_instr.specs.declared.symbol.Symbol.{Symbol}
use Rattle.rv64_instr.specs.Linked.{linked_address}
use Rattle.rv64_instr.specs.LocationEffects.{part_named}
use Rattle.rv64_instr.specs.Row.{Row}
use Rattle.rv64_word.specs.Linked.{linked_word}
use Rattle.sem_machine.specs.Image.{word_at, word_of_bytes}
use Rattle.elf_object.specs.declared.relocations.Relocation.{Relocation}
use Rattle.elf_object.specs.Sections.{number_at}
use Rattle.elf_object.specs.Standard.{R_RISCV_CALL_PLT}
use Rattle.elf_relocation.specs.declared.kind.RelocationKind.{RelocationKind}
use Rattle.elf_relocation.specs.declared.kind.RelocationKind.TheVariants.{Call}
use Rattle.elf_relocation.specs.Kinds.{kind_of, number_of}
use Rattle.elf_relocation.specs.Fields.{field_size, value_of, filled, is_in_range, with_upper, with_lower}
use Rattle.elf_relocation.specs.Applied.{size_by, size_of, filled_by, in_range_by, target_of, one_applied, applied, field_of, IsApplicable}
use Rattle.elf_relocation.specs.Applied.{IsApart, AreApart, IsInRange}
use Rattle.elf_relocation.proofs.FieldLemmas.{kind_back, length-filled, filled_here}
use Rattle.elf_relocation.proofs.AppliedLemmas.{beside_kept, fields_filled}
use Rattle.rv64_relocation.specs.Code.{relocation_kind}
use Rattle.rv64_relocation.proofs.Words.{relocated_linked, half_field, half_summed}
use Rattle.text_placement.specs.Goes.{Goes, word_field, CALL_JUMP, CALL_UPPER, TAIL_JUMP, TAIL_UPPER}
use Rattle.text_placement.proofs.Steps.{call_goes, tail_goes}

-- ---- words and bytes

pub four : (bs : List ℕ) → length bs ≡ 4 → word_of_bytes bs ≡ Some (from_le_bytes w32 bs)
four bs e = ap (λ (b : Bool). cond b (Some (from_le_bytes w32 bs)) None) (eq-eqb (length bs) 4 e)

same_word : (v w : ℕ) → Some v ≡ Some w → v ≡ w
same_word v w e = cc

no_word : (w : ℕ) → None ≡ Some w → ⊥
no_word w e = let f : ⊥ = cc in f

number_is : (bs : List ℕ) (w : ℕ) → word_of_bytes bs ≡ Some w → from_le_bytes w32 bs ≡ w
number_is bs w e = by (nat_eq (length bs) 4) e
  where
    by : (b : Bool) → cond b (Some (from_le_bytes w32 bs)) None ≡ Some w → from_le_bytes w32 bs ≡ w
    by true e = same_word (from_le_bytes w32 bs) w e
    by false e = absurd (no_word w e)

-- the first word of a field, and the second
first_number : (n at : ℕ) (text : List ℕ) (w : ℕ) → 4 ≤ n → word_at text at ≡ Some w → number_at w32 0 (take n (drop at text)) ≡ w
first_number n at text w le e = ap (from_le_bytes w32) (take-take 4 n (drop at text) le) ∙ number_is (take 4 (drop at text)) w e

second_number : (at : ℕ) (text : List ℕ) (w : ℕ) → word_at text (at + 4) ≡ Some w → number_at w32 4 (take 8 (drop at text)) ≡ w
second_number at text w e =
    ap (λ (ys : List ℕ). from_le_bytes w32 (take 4 ys)) (drop-take 4 4 (drop at text))
    ∙ ap (from_le_bytes w32) (take-take 4 4 (drop 4 (drop at text)) (omega arith))
    ∙ ap (λ (ys : List ℕ). from_le_bytes w32 (take 4 ys)) (drop-drop 4 at text)
    ∙ number_is (take 4 (drop (at + 4) text)) w e

-- the words of two, one behind the other, in bytes
first_word : (at x : ℕ) (rest bytes : List ℕ) → x < 2 ^ 32 → take 8 (drop at bytes) ≡ to_le_bytes w32 x ++ rest → word_at bytes at ≡ Some x
first_word at x rest bytes lt e =
    let here : take 4 (drop at bytes) ≡ to_le_bytes w32 x =
    sym (take-take 4 8 (drop at bytes) (omega arith)) ∙ ap (take 4) e ∙ take_at (to_le_bytes w32 x) rest 4 refl in
    ap word_of_bytes here ∙ four (to_le_bytes w32 x) refl ∙ ap (λ (n : ℕ). Some n) (from_le_bytes-to_le_bytes_4 x lt)

second_word : (at x y : ℕ) (bytes : List ℕ) → y < 2 ^ 32 → take 8 (drop at bytes) ≡ to_le_bytes w32 x ++ to_le_bytes w32 y
    → word_at bytes (at + 4) ≡ Some y
second_word at x y bytes lt e =
    let here : take 4 (drop (at + 4) bytes) ≡ to_le_bytes w32 y =
    sym (ap (take 4) (drop-drop 4 at bytes)) ∙ sym (drop-take 4 4 (drop at bytes)) ∙ ap (drop 4) e ∙ drop_at (to_le_bytes w32 x) (to_le_bytes w32 y) 4 refl in
    ap word_of_bytes here ∙ four (to_le_bytes w32 y) refl ∙ ap (λ (n : ℕ). Some n) (from_le_bytes-to_le_bytes_4 y lt)

upper_below : (v w : ℕ) → with_upper v w < 2 ^ 32
upper_below v w = omega arith

lower_below : (v w : ℕ) → with_lower v w < 2 ^ 32
lower_below v w = omega arith

-- ---- the field of a relocation of a kind

-- the bytes of the field after the relocation alone
field_filled : (base : ℕ) (addresses : List ℕ) (r : Relocation) (k : RelocationKind) (text : List ℕ) → r.relocation_type ≡ number_of k
    → r.offset + field_size k ≤ length text
    → take (field_size k) (drop r.offset (one_applied base addresses r text))
    ≡ filled k (value_of k (target_of addresses r) r.addend (base + r.offset)) (take (field_size k) (drop r.offset text))
field_filled base addresses r k text type within =
    ap (λ o. take (field_size k) (drop r.offset (filled_by o (target_of addresses r) r.addend (base + r.offset) r.offset text)))
    (ap kind_of type ∙ kind_back k)
    ∙ filled_here k (value_of k (target_of addresses r) r.addend (base + r.offset)) r.offset text within

size_is : (r : Relocation) (k : RelocationKind) → r.relocation_type ≡ number_of k → size_of r ≡ field_size k
size_is r k type = ap (λ (n : ℕ). size_by (kind_of n)) type ∙ ap size_by (kind_back k)

-- the same after all relocations of a text
field_after : (base : ℕ) (addresses : List ℕ) (r : Relocation) (k : RelocationKind) (text whole : List ℕ) (symbols : ℕ)
    → r.relocation_type ≡ number_of k → IsApplicable (length text) symbols r
    → field_of r whole ≡ field_of r (one_applied base addresses r text)
    → take (field_size k) (drop r.offset whole)
    ≡ filled k (value_of k (target_of addresses r) r.addend (base + r.offset)) (take (field_size k) (drop r.offset text))
field_after base addresses r k text whole symbols type can alike =
    let size : size_of r ≡ field_size k = size_is r k type in
    ap (λ (n : ℕ). take n (drop r.offset whole)) (sym size) ∙ alike
    ∙ ap (λ (n : ℕ). take n (drop r.offset (one_applied base addresses r text))) size
    ∙ field_filled base addresses r k text type (omega (arith, can.within, size))

-- ---- words with a half

pub word_after : (base : ℕ) (addresses : List ℕ) (r : Relocation) (text whole : List ℕ) (count : ℕ) → IsApplicable (length text) count r
    → field_of r whole ≡ field_of r (one_applied base addresses r text)
    → (symbols : Symbol → ℕ) (row : Row) (half : Half) (y : LinkedAddress) (k : RelocationKind) (w : ℕ)
    → part_named row ≡ Some (half, y) → relocation_kind row ≡ Some k → r.relocation_type ≡ number_of k
    → (target_of addresses r + r.addend) % 2 ^ 64 ≡ linked_address symbols y → word_at text r.offset ≡ Some w
    → word_at whole r.offset ≡ Some (linked_word symbols row w)
word_after base addresses r text whole count can alike symbols row half y k w named is type value word =
    let v : ℕ = value_of k (target_of addresses r) r.addend (base + r.offset) in
    let before : List ℕ = take (field_size k) (drop r.offset text) in
    let size : field_size k ≡ 4 = half_field row half y k named is in
    let number : number_at w32 0 before ≡ w = first_number (field_size k) r.offset text w (omega (arith, size)) word in
    let is_v : v ≡ linked_address symbols y =
    half_summed row half y k (target_of addresses r) r.addend (base + r.offset) named is ∙ value in
    let here : take 4 (drop r.offset whole) ≡ filled k v before =
    ap (λ (n : ℕ). take n (drop r.offset whole)) (sym size) ∙ field_after base addresses r k text whole count type can alike in
    ap word_of_bytes here ∙ four (filled k v before) (length-filled k v before ∙ size)
    ∙ ap (λ (n : ℕ). Some n) (relocated_linked symbols row half y k v before named is is_v ∙ ap (linked_word symbols row) number)

pub words_linked : (base : ℕ) (addresses : List ℕ) (rs : List Relocation) (text : List ℕ)
    → All (IsApplicable (length text) (length addresses)) rs → AreApart rs
    → All (λ r. (symbols : Symbol → ℕ) (row : Row) (half : Half) (y : LinkedAddress) (k : RelocationKind) (w : ℕ)
    → part_named row ≡ Some (half, y) → relocation_kind row ≡ Some k → r.relocation_type ≡ number_of k
    → (target_of addresses r + r.addend) % 2 ^ 64 ≡ linked_address symbols y → word_at text r.offset ≡ Some w
    → word_at (applied base addresses rs text) r.offset ≡ Some (linked_word symbols row w)) rs
words_linked base addresses rs text can apart = λ i d inside.
    word_after base addresses (get_or rs i d) text (applied base addresses rs text) (length addresses) (can i d inside)
    (fields_filled base addresses rs text can apart i d inside)

pub words_stay : (base : ℕ) (addresses : List ℕ) (rs : List Relocation) (text : List ℕ) (at : ℕ)
    → All (IsApplicable (length text) (length addresses)) rs → All (IsApart (word_field at)) rs
    → word_at (applied base addresses rs text) at ≡ word_at text at
words_stay base addresses rs text at can apart = ap word_of_bytes (beside_kept base addresses rs text (word_field at) can apart)

-- ---- sites

-- the two words of a site after all relocations
pub record HasWords (whole : List ℕ) (r : Relocation) (v first second : ℕ) : Type 0 where
  pub upper : word_at whole r.offset ≡ Some (with_upper v first)
  pub lower : word_at whole (r.offset + 4) ≡ Some (with_lower v second)

pub site_after : (base : ℕ) (addresses : List ℕ) (r : Relocation) (text whole : List ℕ) (count first second : ℕ) → IsApplicable (length text) count r
    → field_of r whole ≡ field_of r (one_applied base addresses r text) → r.relocation_type ≡ R_RISCV_CALL_PLT → r.addend ≡ 0
    → word_at text r.offset ≡ Some first → word_at text (r.offset + 4) ≡ Some second
    → HasWords whole r (value_of Call (target_of addresses r) 0 (base + r.offset)) first second
site_after base addresses r text whole count first second can alike type none one two =
    let v : ℕ = value_of Call (target_of addresses r) 0 (base + r.offset) in
    let a : ℕ = with_upper v first in
    let b : ℕ = with_lower v second in
    let before : List ℕ = take 8 (drop r.offset text) in
    let here : take 8 (drop r.offset whole) ≡ to_le_bytes w32 a ++ to_le_bytes w32 b =
    field_after base addresses r Call text whole count type can alike
    ∙ ap (λ (n : ℕ). filled Call (value_of Call (target_of addresses r) n (base + r.offset)) before) none
    ∙ ap (λ (n : ℕ). to_le_bytes w32 (with_upper v n) ++ to_le_bytes w32 (with_lower v (number_at w32 4 before)))
    (first_number 8 r.offset text first (omega arith) one)
    ∙ ap (λ (n : ℕ). to_le_bytes w32 a ++ to_le_bytes w32 (with_lower v n)) (second_number r.offset text second two) in
    record {
      upper = first_word r.offset a (to_le_bytes w32 b) whole (upper_below v first) here;
      lower = second_word r.offset a b whole (lower_below v second) here;
    }

pub ranged : (base : ℕ) (addresses : List ℕ) (r : Relocation) → r.relocation_type ≡ R_RISCV_CALL_PLT → r.addend ≡ 0 → IsInRange base addresses r
    → IsTrue (is_in_range Call (value_of Call (target_of addresses r) 0 (base + r.offset)))
ranged base addresses r type none reach =
    subst (λ (n : ℕ). IsTrue (is_in_range Call (value_of Call (target_of addresses r) n (base + r.offset)))) none
    (subst (λ (n : ℕ). IsTrue (in_range_by (kind_of n) (target_of addresses r) r.addend (base + r.offset))) type reach)

pub behind : (base : ℕ) (r : Relocation) (text : List ℕ) (count : ℕ) → r.relocation_type ≡ R_RISCV_CALL_PLT → IsApplicable (length text) count r
    → base + length text < 2 ^ 64 → base + r.offset + 8 < 2 ^ 64
behind base r text count type can fits =
    let size : size_of r ≡ 8 = size_is r Call type in omega (arith, can.within, size, fits)

pub calls_go : (base : ℕ) (addresses : List ℕ) (rs : List Relocation) (text : List ℕ)
    → All (IsApplicable (length text) (length addresses)) rs → AreApart rs → base + length text < 2 ^ 64
    → All (λ r. r.relocation_type ≡ R_RISCV_CALL_PLT → r.addend ≡ 0 → IsInRange base addresses r → target_of addresses r < 2 ^ 64
    → word_at text r.offset ≡ Some CALL_UPPER → word_at text (r.offset + 4) ≡ Some CALL_JUMP
    → Goes (applied base addresses rs text) base (base + r.offset) (target_of addresses r) 1 1) rs
calls_go base addresses rs text can apart fits = λ i d inside type none reach low one two.
    let r : Relocation = get_or rs i d in
    let whole : List ℕ = applied base addresses rs text in
    let words = site_after base addresses r text whole (length addresses) CALL_UPPER CALL_JUMP (can i d inside)
    (fields_filled base addresses rs text can apart i d inside) type none one two in
    call_goes whole base r.offset (target_of addresses r) (ranged base addresses r type none reach) low
    (behind base r text (length addresses) type (can i d inside) fits) words.upper words.lower

pub tails_go : (base : ℕ) (addresses : List ℕ) (rs : List Relocation) (text : List ℕ)
    → All (IsApplicable (length text) (length addresses)) rs → AreApart rs → base + length text < 2 ^ 64
    → All (λ r. r.relocation_type ≡ R_RISCV_CALL_PLT → r.addend ≡ 0 → IsInRange base addresses r → target_of addresses r < 2 ^ 64
    → word_at text r.offset ≡ Some TAIL_UPPER → word_at text (r.offset + 4) ≡ Some TAIL_JUMP
    → Goes (applied base addresses rs text) base (base + r.offset) (target_of addresses r) 6 0) rs
tails_go base addresses rs text can apart fits = λ i d inside type none reach low one two.
    let r : Relocation = get_or rs i d in
    let whole : List ℕ = applied base addresses rs text in
    let words = site_after base addresses r text whole (length addresses) TAIL_UPPER TAIL_JUMP (can i d inside)
    (fields_filled base addresses rs text can apart i d inside) type none one two in
    tail_goes whole base r.offset (target_of addresses r) (ranged base addresses r type none reach) low
    (behind base r text (length addresses) type (can i d inside) fits) words.upper words.lower
