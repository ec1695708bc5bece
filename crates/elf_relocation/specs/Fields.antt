-- What a relocation writes (RISC-V ELF psABI, "Relocations": the table of types with their fields and calculations, and "Absolute Addresses",
-- "Procedure Calls"). S is the symbol's address, A the addend and P the address of the relocated bytes.
use Rattle.std.specs.Prelude.{ℕ, ◌+◌, ◌-◌, ◌*◌, ◌/◌, ◌%◌, ◌^◌, Bool, true, nat_lt, List, ◌++◌}
use Rattle.std.specs.Int.{w32, w64, to_le_bytes}
use Rattle.elf_object.specs.Sections.{number_at}
use Rattle.elf_relocation.specs.declared.kind.RelocationKind.{RelocationKind}
use Rattle.elf_relocation.specs.declared.kind.RelocationKind.TheVariants.{Address32, Address64, Call, Upper, Lower, StoreLower}

-- the bytes of the field
abbrev pub field_size : RelocationKind → ℕ
field_size Address32 = 4
field_size Address64 = 8
field_size Call = 8
field_size Upper = 4
field_size Lower = 4
field_size StoreLower = 4

-- the value, modulo 2^64: S + A, or S + A - P. Addends are signed numbers in two's complement, and addresses are below 2^64
abbrev pub value_of : RelocationKind → (symbol addend place : ℕ) → ℕ
value_of Address32 s a p = (s + a) % 2 ^ 64
value_of Address64 s a p = (s + a) % 2 ^ 64
value_of Call s a p = (s + a + 2 ^ 64 - p) % 2 ^ 64
value_of Upper s a p = (s + a) % 2 ^ 64
value_of Lower s a p = (s + a) % 2 ^ 64
value_of StoreLower s a p = (s + a) % 2 ^ 64

-- the value is the sum of 20 bits times 4,096 and of 12 bits, both with signs: from -2^31 - 2^11 up to 2^31 - 2^11 - 1
abbrev pub has_halves : (value : ℕ) → Bool
has_halves v = nat_lt ((v + 2 ^ 31 + 2 ^ 11) % 2 ^ 64) (2 ^ 32)

-- the field can have the value. Of a lower half nothing is asked: its upper half has the same value
abbrev pub is_in_range : RelocationKind → (value : ℕ) → Bool
is_in_range Address32 v = nat_lt v (2 ^ 32)
is_in_range Address64 v = true
is_in_range Call v = has_halves v
is_in_range Upper v = has_halves v
is_in_range Lower v = true
is_in_range StoreLower v = true

-- a word of the U format with another immediate: the upper half of a value, 20 bits, with 1 added where the lower half is negative
abbrev pub with_upper : (value word : ℕ) → ℕ
with_upper v w = (v + 2 ^ 11) / 2 ^ 12 % 2 ^ 20 * 2 ^ 12 + w % 2 ^ 12

-- a word of the I format with another immediate: the lower half of a value, 12 bits
abbrev pub with_lower : (value word : ℕ) → ℕ
with_lower v w = v % 2 ^ 12 * 2 ^ 20 + w % 2 ^ 20

-- a word of the S format with this immediate: bits 11 to 5 of it from bit 25 of the word on, and bits 4 to 0 from bit 7 on
abbrev pub with_store_lower : (value word : ℕ) → ℕ
with_store_lower v w = v / 2 ^ 5 % 2 ^ 7 * 2 ^ 25 + w / 2 ^ 12 % 2 ^ 13 * 2 ^ 12 + v % 2 ^ 5 * 2 ^ 7 + w % 2 ^ 7

-- what the field has with a value in its range, by what it had before. A call is a word of the U format and one of the I format
abbrev pub filled : RelocationKind → (value : ℕ) → (before : List ℕ) → List ℕ
filled Address32 v before = to_le_bytes w32 v
filled Address64 v before = to_le_bytes w64 v
filled Call v before = to_le_bytes w32 (with_upper v (number_at w32 0 before)) ++ to_le_bytes w32 (with_lower v (number_at w32 4 before))
filled Upper v before = to_le_bytes w32 (with_upper v (number_at w32 0 before))
filled Lower v before = to_le_bytes w32 (with_lower v (number_at w32 0 before))
filled StoreLower v before = to_le_bytes w32 (with_store_lower v (number_at w32 0 before))
