-- A section read from the left, field by field (DWARF 5 sections 6.4.1 and 6.4.2), and the byte of its first wrong field. The result
-- of a field is its value and the bytes after it, or for a wrong field the number of bytes left from the field on.
use Rattle.std.specs.Prelude.{◌≡◌, ◌≢◌, ℕ, zero, suc, ◌+◌, ◌-◌, ◌*◌, ◌%◌, ◌^◌, ◌<◌, Bool, true, false, Option, Some, None, Result, Ok, Err, List, [], ◌∷◌}
use Rattle.std.specs.Prelude.{length, take, drop, replicate, ◌==◌, nat_lt, nat_le, All, ◌&&◌, if◌then◌else◌}
use Rattle.std.specs.Int.{Width, w32, w64}
use Rattle.dwarf_base.specs.Standard.{LENGTH_LIMIT}
use Rattle.dwarf_line.specs.Fields.{◌>>=◌, constants_at, number_at, uleb_at}
use Rattle.dwarf_line.specs.FirstFault.{register_at}
use Rattle.dwarf_frame.specs.declared.table.Row.{Row}
use Rattle.dwarf_frame.specs.declared.table.FrameDescription.{FrameDescription}
use Rattle.dwarf_frame.specs.Standard.{CIE_ID, DW_CFA_advance_loc, DW_CFA_advance_loc4, DW_CFA_offset, DW_CFA_restore, DW_CFA_nop, DW_CFA_def_cfa_offset}
use Rattle.dwarf_frame.specs.Table.{is_saved, none_saved, initial, is_fixed, IsDescription, AreUndefined}
use Rattle.dwarf_frame.specs.Spelling.{restores, common_fields, description, spelling}

-- the bytes after a little-endian number that has one value
unfoldable pub value_at : Width → ℕ → List ℕ → Result (List ℕ) ℕ
value_at w n bytes = number_at w bytes >>= (λ x. if x.0 == n then Ok x.1 else Err (length bytes))

-- the bytes after the common information entry: the frame description entries
unfoldable pub behind_common : (undefined : List ℕ) → List ℕ → Result (List ℕ) ℕ
behind_common undefined bytes = do
  id ← value_at w32 (4 + length (common_fields undefined)) bytes
  fields ← value_at w32 CIE_ID id
  constants_at (common_fields undefined) fields

-- the address after an advance by a number of instructions. It must be before the function's end
unfoldable pub advanced_at : (from end words left : ℕ) → List ℕ → Result (ℕ × List ℕ) ℕ
advanced_at from end words left rest = if nat_lt (from + 4 * words) end then Ok (from + 4 * words, rest) else Err left

-- the address after an advance. One by fewer than 64 instructions has the short opcode, and none is by 0
unfoldable pub address_at : (from end : ℕ) → List ℕ → Result (ℕ × List ℕ) ℕ
address_at from end [] = Err 0
address_at from end (b ∷ bytes) =
    if b == DW_CFA_advance_loc4 then
    number_at w32 bytes >>= (λ words. if nat_lt words.0 64 then Err (length bytes) else advanced_at from end words.0 (length bytes) words.1)
    else if nat_lt DW_CFA_advance_loc b && nat_lt b DW_CFA_offset then advanced_at from end (b - DW_CFA_advance_loc) (suc (length bytes)) bytes
    else Err (suc (length bytes))

-- the distance of a register below the CFA, and None without its opcode
unfoldable pub distance_at : (register : ℕ) → List ℕ → Result (Option ℕ × List ℕ) ℕ
distance_at register [] = Ok (None, [])
distance_at register (b ∷ bytes) =
    if b == DW_CFA_offset + register then uleb_at (2 ^ 29) bytes >>= (λ distance. Ok (Some (8 * distance.0), distance.1))
    else Ok (None, b ∷ bytes)

-- the same of a register that may be saved, and None of another one
unfoldable pub save_at : (register : ℕ) → List ℕ → Result (Option ℕ × List ℕ) ℕ
save_at register bytes = if is_fixed register then Ok (None, bytes) else distance_at register bytes

-- the distances of this number of registers, from this one on
unfoldable pub saves_at : (count register : ℕ) → List ℕ → Result (List (Option ℕ) × List ℕ) ℕ
saves_at zero register bytes = Ok ([], bytes)
saves_at (suc count) register bytes = do
  first ← save_at register bytes
  others ← saves_at count (suc register) first.1
  Ok (first.0 ∷ others.0, others.1)

-- whether the next opcode is DW_CFA_restore
abbrev pub begins_restore : List ℕ → Bool
begins_restore [] = false
begins_restore (b ∷ bytes) = nat_le DW_CFA_restore b

-- the distances after opcodes that may change them: if no register is saved, some may be from now on, and if some are, all of them
-- may be saved no longer
unfoldable pub registers_at : (saved : List (Option ℕ)) → List ℕ → Result (List (Option ℕ) × List ℕ) ℕ
registers_at saved bytes =
    if is_saved saved then
    (if begins_restore bytes then constants_at (restores 0 saved) bytes >>= (λ rest. Ok (none_saved, rest)) else Ok (saved, bytes))
    else saves_at 32 0 bytes

-- a row after whose advance this many bytes were left: at least one opcode follows the advance
abbrev pub closed : ℕ → Row → List ℕ → Result (Row × List ℕ) ℕ
closed left r rest = if length rest == left then Err (length rest) else Ok (r, rest)

-- the opcodes of one row, in a function that ends at an address.
unfoldable pub next_row_at : (end : ℕ) (before : Row) → List ℕ → Result (Row × List ℕ) ℕ
next_row_at end before bytes = do
  address ← address_at before.address end bytes
  offset ← register_at DW_CFA_def_cfa_offset (uleb_at (2 ^ 32)) before.rules.cfa_offset address.1
  saved ← registers_at before.rules.saved offset.1
  closed (length address.1) (record { address = address.0; rules = record { cfa_offset = offset.0; saved = saved.0 } }) saved.1

-- whether a row is next, and not the padding
abbrev pub begins_row : List ℕ → Bool
begins_row [] = false
begins_row (zero ∷ bytes) = false
begins_row (suc b ∷ bytes) = true

-- the padding of an entry: fewer than eight bytes, each of them DW_CFA_nop
unfoldable pub padding_at : List ℕ → Result (List ℕ) ℕ
padding_at bytes = if nat_lt (length bytes) 8 then constants_at (replicate (length bytes) DW_CFA_nop) bytes else Err (length bytes)

-- the bytes of a frame description entry after its length, and those after the entry. The entry's size is a multiple of eight
unfoldable pub entry_at : List ℕ → Result (List ℕ × List ℕ) ℕ
entry_at bytes =
    number_at w32 bytes >>= (λ size.
    if (nat_le 20 size.0 && (size.0 + 4) % 8 == 0) && (nat_le size.0 (length size.1) && nat_lt size.0 LENGTH_LIMIT)
    then Ok (take size.0 size.1, drop size.0 size.1) else Err (length bytes))

-- the first address and the length of a function's code, and the bytes after them: the call frame instructions
unfoldable pub range_at : List ℕ → Result (ℕ × ℕ × List ℕ) ℕ
range_at bytes = do
  pointer ← value_at w32 0 bytes
  start ← number_at w64 pointer
  size ← number_at w64 start.1
  if nat_le (start.0 + size.0) (2 ^ 64) then Ok (start.0, size.0, size.1) else Err (length start.1)

-- the bytes are the rows after a row, in a function that ends at an address, and the padding
pub data Rows : (end : ℕ) (before : Row) (bytes : List ℕ) (rows : List Row) → Type 0 where
  NoRow : {end : ℕ} {before : Row} {bytes : List ℕ} → begins_row bytes ≡ false → padding_at bytes ≡ Ok [] → Rows end before bytes []
  NextRow : {end : ℕ} {before r : Row} {bytes after : List ℕ} {rows : List Row}
      → begins_row bytes ≡ true → next_row_at end before bytes ≡ Ok (r, after) → Rows end r after rows → Rows end before bytes (r ∷ rows)

-- the first wrong field of a function's rows and padding
pub data RowsFault : (end : ℕ) (before : Row) (bytes : List ℕ) (left : ℕ) → Type 0 where
  InPadding : {end : ℕ} {before : Row} {bytes : List ℕ} {left : ℕ} → begins_row bytes ≡ false → padding_at bytes ≡ Err left → RowsFault end before bytes left
  InRow : {end : ℕ} {before : Row} {bytes : List ℕ} {left : ℕ} → begins_row bytes ≡ true → next_row_at end before bytes ≡ Err left → RowsFault end before bytes left
  InLaterRow : {end : ℕ} {before r : Row} {bytes after : List ℕ} {left : ℕ}
      → begins_row bytes ≡ true → next_row_at end before bytes ≡ Ok (r, after) → RowsFault end r after left → RowsFault end before bytes left

-- the bytes after an entry's length are the frame description entry of a function
pub record FunctionAt (bytes : List ℕ) (f : FrameDescription) : Type 0 where
  pub opcodes : List ℕ
  pub range : range_at bytes ≡ Ok (f.start, f.size, opcodes)
  pub rows : Rows (f.start + f.size) (initial f.start) opcodes f.rows

-- the first wrong field after an entry's length
pub data FunctionFault (bytes : List ℕ) (left : ℕ) : Type 0 where
  InRange : range_at bytes ≡ Err left → FunctionFault bytes left
  InRows : (start size : ℕ) (opcodes : List ℕ) → range_at bytes ≡ Ok (start, size, opcodes) → RowsFault (start + size) (initial start) opcodes left
      → FunctionFault bytes left

-- the bytes are the frame description entries of these functions
pub data Functions : (bytes : List ℕ) (functions : List FrameDescription) → Type 0 where
  NoFunction : Functions [] []
  NextFunction : {bytes body rest : List ℕ} {f : FrameDescription} {functions : List FrameDescription}
      → entry_at bytes ≡ Ok (body, rest) → FunctionAt body f → Functions rest functions → Functions bytes (f ∷ functions)

-- the first wrong field of frame description entries
pub data FunctionsFault : (bytes : List ℕ) (left : ℕ) → Type 0 where
  InLength : {bytes : List ℕ} {left : ℕ} → bytes ≢ [] → entry_at bytes ≡ Err left → FunctionsFault bytes left
  InFunction : {bytes body rest : List ℕ} {left : ℕ}
      → entry_at bytes ≡ Ok (body, rest) → FunctionFault body left → FunctionsFault bytes (left + length rest)
  InLaterFunction : {bytes body rest : List ℕ} {f : FrameDescription} {left : ℕ}
      → entry_at bytes ≡ Ok (body, rest) → FunctionAt body f → FunctionsFault rest left → FunctionsFault bytes left

-- the first wrong field of a section, by the number of bytes left from it on
pub data SectionFault (undefined bytes : List ℕ) (left : ℕ) : Type 0 where
  InCommon : behind_common undefined bytes ≡ Err left → SectionFault undefined bytes left
  InFunctions : (rest : List ℕ) → behind_common undefined bytes ≡ Ok rest → FunctionsFault rest left → SectionFault undefined bytes left

-- the offset of the first wrong field of a section
pub record FirstFault (undefined bytes : List ℕ) (at : ℕ) : Type 0 where
  pub left : ℕ
  pub fault : SectionFault undefined bytes left
  pub place : at ≡ length bytes - left

-- the size of a function's entry is below the limit of the 32-bit format (section 7.4)
abbrev pub HasSize : FrameDescription → Type 0
HasSize f = length (description f) < 4 + LENGTH_LIMIT

-- the bytes are the section of these functions, with these registers undefined in the common information entry
pub record IsSection (undefined bytes : List ℕ) (functions : List FrameDescription) : Type 0 where
  pub lost : AreUndefined undefined
  pub spelled : bytes ≡ spelling undefined functions
  pub sizes : All HasSize functions
  pub are : All IsDescription functions
