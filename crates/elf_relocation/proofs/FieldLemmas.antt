-- The fields of relocations.
use Rattle.std.specs.Prelude.{Option, Some, None}
use Rattle.std.specs.Int.{w32, to_le_bytes, from_le_bytes}
use Rattle.std.proofs.Common.{◌≡◌, ℕ, ◌+◌, ◌≤◌, ◌<◌, ◌⊎◌, List, ◌++◌, length, take, drop, get_or, arith, ap, sym, ◌∙◌, refl, inl, inr}
use Rattle.std.proofs.lemmas.List.{take-take, drop-drop, drop-take}
use Rattle.elf_object.specs.Sections.{number_at}
use Rattle.elf_relocation.specs.declared.kind.RelocationKind.{RelocationKind}
use Rattle.elf_relocation.specs.declared.kind.RelocationKind.TheVariants.{Address32, Address64, Call, Upper, Lower, StoreLower}
use Rattle.elf_relocation.specs.Kinds.{kind_of, number_of}
use Rattle.elf_relocation.specs.Fields.{field_size, value_of, filled, with_upper, with_lower}
use Rattle.elf_relocation.specs.Applied.{patched, field_at, filled_at, size_by, filled_by}
use Rattle.elf_relocation.proofs.Patches.{length-patched, part_here, bytes_kept, byte_kept, two_parts}

-- each kind is the one of its number
pub kind_back : (k : RelocationKind) → kind_of (number_of k) ≡ Some k
kind_back Address32 = refl
kind_back Address64 = refl
kind_back Call = refl
kind_back Upper = refl
kind_back Lower = refl
kind_back StoreLower = refl

pub length-filled : (k : RelocationKind) (v : ℕ) (before : List ℕ) → length (filled k v before) ≡ field_size k
length-filled Address32 v before = refl
length-filled Address64 v before = refl
length-filled Call v before = refl
length-filled Upper v before = refl
length-filled Lower v before = refl
length-filled StoreLower v before = refl

-- ---- one field

pub length-by : (o : Option RelocationKind) (s a p at : ℕ) (bytes : List ℕ) → at + size_by o ≤ length bytes
    → length (filled_by o s a p at bytes) ≡ length bytes
length-by None s a p at bytes within = refl
length-by (Some k) s a p at bytes within =
    let v : ℕ = value_of k s a p in
    length-patched at (filled k v (field_at k at bytes)) bytes (omega (arith, within, length-filled k v (field_at k at bytes)))

pub bytes_kept-by : (o : Option RelocationKind) (s a p at n b : ℕ) (bytes : List ℕ) → at + size_by o ≤ length bytes
    → (b + n ≤ at) ⊎ (at + size_by o ≤ b) → take n (drop b (filled_by o s a p at bytes)) ≡ take n (drop b bytes)
bytes_kept-by None s a p at n b bytes within beside = refl
bytes_kept-by (Some k) s a p at n b bytes within (inl le) =
    let v : ℕ = value_of k s a p in
    let part : List ℕ = filled k v (field_at k at bytes) in
    bytes_kept n at b part bytes (omega (arith, within, length-filled k v (field_at k at bytes))) (inl le)
bytes_kept-by (Some k) s a p at n b bytes within (inr ge) =
    let v : ℕ = value_of k s a p in
    let part : List ℕ = filled k v (field_at k at bytes) in
    bytes_kept n at b part bytes (omega (arith, within, length-filled k v (field_at k at bytes)))
    (inr (omega (arith, ge, length-filled k v (field_at k at bytes))))

pub byte_kept-by : (o : Option RelocationKind) (s a p at k : ℕ) (bytes : List ℕ) → at + size_by o ≤ length bytes
    → (k < at) ⊎ (at + size_by o ≤ k) → get_or (filled_by o s a p at bytes) k 0 ≡ get_or bytes k 0
byte_kept-by None s a p at k bytes within beside = refl
byte_kept-by (Some kind) s a p at k bytes within (inl lt) =
    let v : ℕ = value_of kind s a p in
    let part : List ℕ = filled kind v (field_at kind at bytes) in
    byte_kept at k part bytes (omega (arith, within, length-filled kind v (field_at kind at bytes))) (inl lt)
byte_kept-by (Some kind) s a p at k bytes within (inr ge) =
    let v : ℕ = value_of kind s a p in
    let part : List ℕ = filled kind v (field_at kind at bytes) in
    byte_kept at k part bytes (omega (arith, within, length-filled kind v (field_at kind at bytes)))
    (inr (omega (arith, ge, length-filled kind v (field_at kind at bytes))))

-- what it has is told by what it had
pub filled_here : (k : RelocationKind) (v at : ℕ) (bytes : List ℕ) → at + field_size k ≤ length bytes
    → take (field_size k) (drop at (filled_at k v at bytes)) ≡ filled k v (field_at k at bytes)
filled_here k v at bytes within =
    let part : List ℕ = filled k v (field_at k at bytes) in
    let long : length part ≡ field_size k = length-filled k v (field_at k at bytes) in
    ap (λ (n : ℕ). take n (drop at (patched at part bytes))) (sym long) ∙ part_here at part bytes (omega (arith, within, long))

pub field_alike : (o : Option RelocationKind) (s a p at : ℕ) (bytes other : List ℕ) → at + size_by o ≤ length bytes
    → at + size_by o ≤ length other → take (size_by o) (drop at bytes) ≡ take (size_by o) (drop at other)
    → take (size_by o) (drop at (filled_by o s a p at bytes)) ≡ take (size_by o) (drop at (filled_by o s a p at other))
field_alike None s a p at bytes other within without e = refl
field_alike (Some k) s a p at bytes other within without e =
    let v : ℕ = value_of k s a p in
    filled_here k v at bytes within ∙ ap (filled k v) e ∙ sym (filled_here k v at other without)

-- ---- words

-- the first word of a field, and the second of a call's
pub first_number : (n at : ℕ) (bytes : List ℕ) → 4 ≤ n → number_at w32 0 (take n (drop at bytes)) ≡ number_at w32 at bytes
first_number n at bytes le = ap (from_le_bytes w32) (take-take 4 n (drop at bytes) le)

second_number : (at : ℕ) (bytes : List ℕ) → number_at w32 4 (take 8 (drop at bytes)) ≡ number_at w32 (at + 4) bytes
second_number at bytes =
    ap (λ (ys : List ℕ). from_le_bytes w32 (take 4 ys)) (drop-take 4 4 (drop at bytes))
    ∙ ap (from_le_bytes w32) (take-take 4 4 (drop 4 (drop at bytes)) (omega arith))
    ∙ ap (λ (ys : List ℕ). from_le_bytes w32 (take 4 ys)) (drop-drop 4 at bytes)

-- the two words of a call, one after the other
pub call_filled : (value at upper lower : ℕ) (bytes once twice : List ℕ) → at + 8 ≤ length bytes → upper ≡ number_at w32 at bytes
    → lower ≡ number_at w32 (at + 4) bytes → once ≡ patched at (to_le_bytes w32 (with_upper value upper)) bytes
    → twice ≡ patched (at + 4) (to_le_bytes w32 (with_lower value lower)) once → twice ≡ filled_at Call value at bytes
call_filled value at upper lower bytes once twice within is_upper is_lower first second =
    second ∙ ap (patched (at + 4) (to_le_bytes w32 (with_lower value lower))) first
    ∙ two_parts at (to_le_bytes w32 (with_upper value upper)) (to_le_bytes w32 (with_lower value lower)) bytes within
    ∙ ap (λ (w : ℕ). patched at (to_le_bytes w32 (with_upper value w) ++ to_le_bytes w32 (with_lower value lower)) bytes)
    (is_upper ∙ sym (first_number 8 at bytes (omega arith)))
    ∙ ap (λ (w : ℕ). patched at (to_le_bytes w32 (with_upper value (number_at w32 0 (take 8 (drop at bytes)))) ++ to_le_bytes w32 (with_lower value w)) bytes)
    (is_lower ∙ sym (second_number at bytes))
