-- The entries of `constants`, the function's constant pool, in block style. (YAML 1.2, "Block Sequences", "Block Mappings" and "Single-Quoted Style"; LLVM,
-- "Machine IR (MIR) Format Reference Manual", has the list; its fields are those of `MachineConstantPoolValue`.)
use Rattle.std.specs.Prelude.{◌≡◌, ℕ, suc, ◌-◌, ◌^◌, Bool, false, not, ◌&&◌, ◌||◌, ◌==◌, nat_eq, nat_le, nat_lt, if◌then◌else◌, is_some, codes}
use Rattle.std.specs.Prelude.{List, [], ◌∷◌, ◌++◌, take, drop, length, slice_get, Option, Some, None, option_map}
use Rattle.std.specs.List.{list_all, list_any, prefix_len, position, starts_with}
use Rattle.std.specs.Ordering.{nat_cmp}
use Rattle.std.specs.BTreeSet.{BTreeSet, contains}
use Rattle.std.specs.Str.{bytes_eq}
use Rattle.std.specs.Char.{is_ascii_alphabetic, is_ascii_digit}
use Rattle.read_lexer.specs.declared.line.Line.{Line}
use Rattle.read_lexer.specs.Bytes.{is_blank}
use Rattle.read_metadata.specs.Number.{value_behind, spelled}
use Rattle.mir_pool.specs.declared.constant.IntegerType.{IntegerType}
use Rattle.mir_pool.specs.declared.constant.IntegerType.TheVariants.{Bits8, Bits16, Bits32, Bits64, Bits128}
use Rattle.mir_pool.specs.declared.constant.PoolConstant.{PoolConstant}
use Rattle.mir_pool.specs.Pool.{bits_of, constant_ids}
use Rattle.read_refusal.specs.declared.first.Refusal.{Refusal}
use Rattle.read_refusal.specs.First.{earlier}
use Rattle.read_declarations.specs.declared.constant_value.TypedValue.{TypedValue}
use Rattle.read_declarations.specs.declared.constants.PoolRead.{PoolRead}
use Rattle.read_declarations.specs.FlowMapping.{bad_line}

-- ---- lines

-- a line of blanks alone
abbrev pub is_blank_line : List ℕ → Bool
is_blank_line text = list_all is_blank text

-- before the first key of an entry stand two blanks and `- `, before another one four blanks
abbrev pub opens : List ℕ → Bool
opens text = starts_with nat_eq text (codes "  - ")

abbrev pub continues : List ℕ → Bool
continues text = starts_with nat_eq text (codes "    ")

-- how many letters the key behind four bytes has, if a colon follows them
abbrev pub letters_with_colon : (n : ℕ) → List ℕ → Option ℕ
letters_with_colon n text = if nat_lt 0 n && starts_with nat_eq (drop n text) (58 ∷ []) then Some n else None

abbrev pub key_len : List ℕ → Option ℕ
key_len text = letters_with_colon (prefix_len is_ascii_alphabetic (drop 4 text)) (drop 4 text)

abbrev pub has_key : List ℕ → Bool
has_key text = is_some (key_len text)

-- a key of so many letters
abbrev pub key_by : List ℕ → Option ℕ → List ℕ
key_by text None = []
key_by text (Some n) = take n (drop 4 text)

-- the key of a line: empty if it has none
abbrev pub key_of : List ℕ → List ℕ
key_of text = key_by text (key_len text)

abbrev pub is_space : ℕ → Bool
is_space b = b == 32

-- text behind its first spaces
abbrev pub behind_spaces : List ℕ → List ℕ
behind_spaces text = drop (prefix_len is_space text) text

-- a single quote
abbrev pub is_quote : ℕ → Bool
is_quote b = b == 39

abbrev pub is_no_quote : ℕ → Bool
is_no_quote b = not (b == 39)

-- text behind its first quotes
abbrev pub behind_quotes : List ℕ → List ℕ
behind_quotes text = drop (prefix_len is_quote text) text

-- text before its first quote
abbrev pub before_quote : List ℕ → List ℕ
before_quote text = take (prefix_len is_no_quote text) text

-- nothing but quotes is behind the first quote
abbrev pub is_closed : List ℕ → Bool
is_closed text = list_all is_quote (drop (prefix_len is_no_quote text) text)

-- text without the quotes around it, if quotes are there alone
abbrev pub unquoted : List ℕ → List ℕ
unquoted text = if is_closed (behind_quotes text) then before_quote (behind_quotes text) else text

-- the value behind a key of so many letters
abbrev pub value_by : List ℕ → Option ℕ → List ℕ
value_by text None = []
value_by text (Some n) = unquoted (behind_spaces (drop 1 (drop n (drop 4 text))))

-- the value of a line: empty if it has no key
abbrev pub value_of : List ℕ → List ℕ
value_of text = value_by text (key_len text)

-- ---- values

-- a number up to `most`
abbrev pub within : (most n : ℕ) → Option ℕ
within most n = if nat_le n most then Some n else None

-- the number that digits spell, if it is at most `most`
abbrev pub number_up_to : (most : ℕ) → List ℕ → Option ℕ
number_up_to most digits = if nat_lt 0 (length digits) && list_all is_ascii_digit digits then within most (value_behind 10 0 digits) else None

-- the negative of a number in two's complement, as an integer of a type without a sign
abbrev pub negated : IntegerType → ℕ → ℕ
negated t n = if n == 0 then 0 else 2 ^ bits_of t - n

-- the integer of a type that a text spells, signed or unsigned, as one without a sign
abbrev pub integer_in : IntegerType → List ℕ → Option ℕ
integer_in t [] = None
integer_in t (a ∷ bs) =
    if a == 45 then option_map (negated t) (number_up_to (2 ^ (bits_of t - 1)) bs) else number_up_to (2 ^ bits_of t - 1) (a ∷ bs)

-- a value of a type, if there is one
abbrev pub of_type : IntegerType → Option ℕ → Option TypedValue
of_type t None = None
of_type t (Some n) = Some (record { integer = t; value = n })

-- the value behind the name of its type, or what it is otherwise
abbrev pub typed_or : (name : List ℕ) → IntegerType → List ℕ → Option TypedValue → Option TypedValue
typed_or name t text other = if starts_with nat_eq text name then of_type t (integer_in t (drop (length name) text)) else other

-- the value of a constant: an integer of 8, 16, 32, 64 or 128 bits behind its type
abbrev pub typed_value : List ℕ → Option TypedValue
typed_value text =
    typed_or (codes "i8 ") Bits8 text (typed_or (codes "i16 ") Bits16 text (typed_or (codes "i32 ") Bits32 text (typed_or (codes "i64 ") Bits64 text
    (typed_or (codes "i128 ") Bits128 text None))))

-- 1, 2, 4, 8 or 16
abbrev pub is_alignment : List ℕ → Bool
is_alignment text = bytes_eq text (codes "1") || (bytes_eq text (codes "2") || (bytes_eq text (codes "4") ||
    (bytes_eq text (codes "8") || bytes_eq text (codes "16"))))

-- the alignment of a constant in bytes
abbrev pub alignment_of : List ℕ → Option ℕ
alignment_of text = if is_alignment text then spelled 10 text else None

-- the number of a constant, from 0 to 2^30 - 1
abbrev pub id_of : List ℕ → Option ℕ
id_of text = if nat_lt 0 (length text) && list_all is_ascii_digit text then spelled 10 text else None

-- ---- an entry: its lines, up to the next entry

abbrev pub has_this_key : (key : List ℕ) → Line → Bool
has_this_key key l = bytes_eq (key_of l.text) key

-- the value of a line, if there is one
abbrev pub value_at_line : Option Line → List ℕ
value_at_line None = []
value_at_line (Some l) = value_of l.text

-- the line with an index
abbrev pub line_at_index : List Line → Option ℕ → Option Line
line_at_index lines None = None
line_at_index lines (Some i) = slice_get lines i

-- the value that the lines have for a key: empty if they have none
abbrev pub value_in : (key : List ℕ) → List Line → List ℕ
value_in key lines = value_at_line (line_at_index lines (position (has_this_key key) lines))

-- a line behind the one with an index has a key
abbrev pub again : (key : List ℕ) → List Line → Option ℕ → Bool
again key lines None = false
again key lines (Some i) = list_any (has_this_key key) (drop 1 (drop i lines))

-- two lines have a key
abbrev pub is_repeated : (key : List ℕ) → List Line → Bool
is_repeated key lines = again key lines (position (has_this_key key) lines)

-- a line of blanks, or one whose key stands once
abbrev pub is_once : List Line → Line → Bool
is_once lines l = is_blank_line l.text || not (is_repeated (key_of l.text) lines)

-- a line behind the first: a further key and its value, or blanks
abbrev pub goes_on : Line → Bool
goes_on l = is_blank_line l.text || (continues l.text && has_key l.text)

-- a line that an entry may have: of blanks, or with a key
abbrev pub has_form : Line → Bool
has_form l = is_blank_line l.text || has_key l.text

-- there is a line, and it has a key
abbrev pub some_key : Option Line → Bool
some_key None = false
some_key (Some l) = has_key l.text

-- lines that an entry may have: the first has a key, others go on, and each key stands once
abbrev pub is_formed : List Line → Bool
is_formed lines = some_key (slice_get lines 0) && (list_all goes_on (drop 1 lines) && list_all (is_once lines) lines)

-- the constant of a number, a value and an alignment
abbrev pub constant_with : Option ℕ → Option TypedValue → Option ℕ → Option PoolConstant
constant_with None v a = None
constant_with (Some n) None a = None
constant_with (Some n) (Some v) None = None
constant_with (Some n) (Some v) (Some a) = Some (record { id = n; integer = v.integer; value = v.value; alignment = a })

-- the constant of an entry, if the lines are one
abbrev pub entry_constant : List Line → Option PoolConstant
entry_constant lines =
    if is_formed lines
    then constant_with (id_of (value_in (codes "id") lines)) (typed_value (value_in (codes "value") lines)) (alignment_of (value_in (codes "alignment") lines))
    else None

-- a constant, if its number isn't among these
abbrev pub if_new : List ℕ → Option PoolConstant → Option PoolConstant
if_new ids None = None
if_new ids (Some c) = if list_any (nat_eq c.id) ids then None else Some c

-- the constant behind others with these numbers, if the lines are an entry and its number is new
abbrev pub constant_of : List ℕ → List Line → Option PoolConstant
constant_of ids lines = if_new ids (entry_constant lines)

-- a set contains these numbers and no others
abbrev pub AreNumbers : BTreeSet ℕ → List ℕ → Type 0
AreNumbers known ids = (n : ℕ) → contains nat_cmp known n ≡ list_any (nat_eq n) ids

-- ---- the entries

-- how many lines stand before the next entry
abbrev pub lines_before : List Line → ℕ
lines_before lines = prefix_len (λ l. not (opens l.text)) lines

-- the lines of the first entry, where one begins
abbrev pub first_entry : List Line → List Line
first_entry lines = take (suc (lines_before (drop 1 lines))) lines

-- the constants and the first refusal behind an entry, which may be none
abbrev pub with_constant : PoolRead → (line : ℕ) → Option PoolConstant → PoolRead
with_constant read line None = record read { refused = earlier read.refused (Some (bad_line line)) }
with_constant read line (Some c) = record read { constants = read.constants ++ c ∷ [] }

-- the same behind a line, which may begin an entry; `left` are it and those behind it
abbrev pub behind_line : PoolRead → Line → (left : List Line) → PoolRead
behind_line read l left = if opens l.text then with_constant read l.number (constant_of (constant_ids read.constants) (first_entry left)) else read

-- the same behind further lines
unfoldable pub pool_behind : PoolRead → List Line → PoolRead
pool_behind read [] = read
pool_behind read (l ∷ ls) = pool_behind (behind_line read l (l ∷ ls)) ls

-- a line before the first entry that isn't of blanks alone
abbrev pub is_stray : Line → Bool
is_stray l = not (is_blank_line l.text)

-- the refusal of a line, if there is one
abbrev pub bad_if_there : Option Line → Option Refusal
bad_if_there None = None
bad_if_there (Some l) = Some (bad_line l.number)

-- the first refusal of lines before the first entry
abbrev pub stray : List Line → Option Refusal
stray lines = bad_if_there (line_at_index (take (lines_before lines) lines) (position is_stray (take (lines_before lines) lines)))

-- `[]` behind a key of nine letters: no entry
abbrev pub is_no_pool : List ℕ → Bool
is_no_pool text = starts_with nat_eq (behind_spaces (drop 10 text)) (codes "[]") && is_blank_line (drop 2 (behind_spaces (drop 10 text)))

-- the constants in the lines of `constants`, and the first refusal
abbrev pub constants_in : List Line → PoolRead
constants_in [] = record { constants = []; refused = None }
constants_in (key ∷ lines) =
    if is_no_pool key.text then record { constants = []; refused = None } else pool_behind (record { constants = []; refused = stray lines }) lines

-- the constants of a function's pool: the language that isn't linked has none
abbrev pub pool_of : (linked : Bool) → List Line → PoolRead
pool_of linked lines = if linked then constants_in lines else record { constants = []; refused = None }
