-- What bytes are in which no field is wrong, by the parts of the file.
use Rattle.std.specs.Prelude.{nat_eq, nat_lt, nat_le, ◌==◌, ◌&&◌, replicate, codes, Option, Some, None, if◌then◌else◌}
use Rattle.std.specs.List.{starts_with}
use Rattle.std.specs.Int.{Width, w16, w32, w64, byte_len, to_le_bytes, from_le_bytes}
use Rattle.std.proofs.Common.{◌≡◌, ℕ, ◌+◌, ◌*◌, ◌%◌, ◌^◌, ◌≤◌, ◌<◌, Bool, true, false, List, [], ◌∷◌, ◌++◌, length, take, drop, get_or}
use Rattle.std.proofs.Common.{arith, ap, sym, subst, ◌∙◌, refl, append_assoc, inl, inr}
use Rattle.std.proofs.lemmas.Bool.{ltb-true, leb-true, eqb-true, cases_lt}
use Rattle.std.proofs.lemmas.Bool.Decides.{Decides-eqb}
use Rattle.std.proofs.lemmas.Slice.Eq.{starts_is}
use Rattle.std.proofs.lemmas.List.{length-take, length-drop, length-replicate, take-append-drop, drop-drop, get_or-take, get_or-drop, get_or_past}
use Rattle.std.proofs.lemmas.Nat.{le_bytes_2, le_bytes_4, le_bytes_8}
use Rattle.elf_object.specs.Standard.{SHN_LORESERVE}
use Rattle.elf_object.specs.Spelling.{padding, aligned, text, file_header}
use Rattle.elf_object.specs.Grammar.{is_alignment}
use Rattle.elf_object.specs.Sections.{number_at}
use Rattle.elf_object.specs.FirstFault.{first, judged, constants, zeros, table_in, count_in, flags_in, right_header, file_fault, null_fault, ends_file, is_count}
use Rattle.elf_object.specs.FirstFault.{front_fault, sizes_fault, index_fault, type_fault, link_fault, start_fault, own_fault, is_name_at, is_names_size}
use Rattle.elf_object.specs.steps.Told.{total}
use Rattle.elf_object.proofs.FaultLoops.{total-ones, both_right}
use Rattle.elf_object.specs.FirstFault.{name_in, name_end, offset_in, size_in, bytes_end, section_fault, names_fault}

-- ---- faults in order

pub first_right : (fault : Option ℕ) (faults : List (Option ℕ)) → first (fault ∷ faults) ≡ None → (fault ≡ None) × (first faults ≡ None)
first_right None faults e = (refl, e)
first_right (Some at) faults e = absurd cc

pub judged_right : (at : ℕ) (right : Bool) → judged at right ≡ None → right ≡ true
judged_right at true e = refl
judged_right at false e = absurd cc

if_none : (b : Bool) (fault : Option ℕ) (at : ℕ) → (if b then fault else Some at) ≡ None → (b ≡ true) × (fault ≡ None)
if_none true fault at e = (refl, e)
if_none false fault at e = absurd cc

-- fields that are right stand there
pub constants_right : (at : ℕ) (sizes right bytes : List ℕ) → total sizes ≡ length right → constants at sizes right bytes ≡ None
    → bytes ≡ right ++ drop (length right) bytes
constants_right at [] [] bytes long e = refl
constants_right at [] (n ∷ right) bytes long e = absurd (omega arith)
constants_right at (n ∷ sizes) right bytes long e =
    let field : List ℕ = take n right in
    let later : List ℕ = drop n right in
    let found = if_none (starts_with nat_eq bytes field) (constants (at + n) sizes later (drop n bytes)) at e in
    let front : bytes ≡ field ++ drop (length field) bytes = (starts_is Decides-eqb bytes field (starts_with nat_eq bytes field) refl).0 found.0 in
    let whole : n + total sizes ≡ length right = long in
    let size : length field ≡ n = omega (arith, length-take n right, whole) in
    let rest : drop n bytes ≡ later ++ drop (length later) (drop n bytes) =
    constants_right (at + n) sizes later (drop n bytes) (omega (arith, length-drop n right, whole)) found.1 in
    let behind : n + length later ≡ length right = omega (arith, length-drop n right, whole) in
    front ∙ ap (λ k. field ++ drop k bytes) size ∙ ap (λ ys. field ++ ys) rest
    ∙ sym (append_assoc field later (drop (length later) (drop n bytes)))
    ∙ ap (λ ys. ys ++ drop (length later) (drop n bytes)) (take-append-drop n right)
    ∙ ap (λ ys. right ++ ys) (drop-drop (length later) n bytes ∙ ap (λ k. drop k bytes) behind)

pub zeros_right : (at : ℕ) (bytes : List ℕ) → zeros at bytes ≡ None → drop at bytes ≡ replicate (padding at) 0 ++ drop (aligned at) bytes
unfolding zeros
zeros_right at bytes e =
    let n : ℕ = padding at in
    let long : length {A = ℕ} (replicate n 0) ≡ n = length-replicate {A = ℕ} n 0 in
    constants_right at (replicate n 1) (replicate n 0) (drop at bytes) (total-ones n ∙ sym long) e
    ∙ ap (λ k. replicate n 0 ++ drop k (drop at bytes)) long ∙ ap (λ ys. replicate n 0 ++ ys) (drop-drop n at bytes)

-- ---- numbers of bytes

abbrev pub IsBytes : List ℕ → Type 0
IsBytes bytes = (i : ℕ) → get_or bytes i 0 < 256

IsBytes-take : (n : ℕ) (bytes : List ℕ) → IsBytes bytes → IsBytes (take n bytes)
IsBytes-take n bytes are i =
    elim (cases_lt i n) [
      | inl lt ↦ rw (get_or-take n bytes i 0 lt) (are i)
      | inr le ↦ rw (get_or_past (take n bytes) i 0 (omega (arith, length-take n bytes))) (omega arith)
    ]

pub IsBytes-drop : (n : ℕ) (bytes : List ℕ) → IsBytes bytes → IsBytes (drop n bytes)
IsBytes-drop n bytes are i = subst (λ b. b < 256) (sym (get_or-drop n bytes i 0)) (are (n + i))

-- what holds of the numbers of a width
record IsWide (w : Width) (limit : ℕ) : Type 0 where
  back : (bytes : List ℕ) → length bytes ≡ byte_len w → IsBytes bytes → to_le_bytes w (from_le_bytes w bytes) ≡ bytes
  below : (bytes : List ℕ) → IsBytes bytes → from_le_bytes w bytes < limit

wide16 : IsWide w16 (2 ^ 16)
wide16 = record { back = λ bytes len are. le_bytes_2 bytes _ len are refl; below = λ bytes are. omega (arith, are 0, are 1) }

wide32 : IsWide w32 (2 ^ 32)
wide32 = record {
  back = λ bytes len are. le_bytes_4 bytes _ len are refl;
  below = λ bytes are. omega (arith, are 0, are 1, are 2, are 3);
}

wide64 : IsWide w64 (2 ^ 64)
wide64 = record {
  back = λ bytes len are. le_bytes_8 bytes _ len are refl;
  below = λ bytes are. omega (arith, are 0, are 1, are 2, are 3, are 4, are 5, are 6, are 7);
}

number_stands : (w : Width) (limit : ℕ) → IsWide w limit → (at : ℕ) (bytes : List ℕ) → IsBytes bytes → at + byte_len w ≤ length bytes
    → drop at bytes ≡ to_le_bytes w (number_at w at bytes) ++ drop (at + byte_len w) bytes
number_stands w limit wide at bytes are within =
    let rest : List ℕ = drop at bytes in
    let long : length (take (byte_len w) rest) ≡ byte_len w = omega (arith, length-take (byte_len w) rest, length-drop at bytes, within) in
    sym (take-append-drop (byte_len w) rest)
    ∙ ap (λ ys. ys ++ drop (byte_len w) rest) (sym (wide.back (take (byte_len w) rest) long (IsBytes-take (byte_len w) rest (IsBytes-drop at bytes are))))
    ∙ ap (λ ys. to_le_bytes w (number_at w at bytes) ++ ys) (drop-drop (byte_len w) at bytes)

pub half_stands : (at : ℕ) (bytes : List ℕ) → IsBytes bytes → at + 2 ≤ length bytes
    → drop at bytes ≡ to_le_bytes w16 (number_at w16 at bytes) ++ drop (at + 2) bytes
half_stands = number_stands w16 (2 ^ 16) wide16

pub word_stands : (at : ℕ) (bytes : List ℕ) → IsBytes bytes → at + 4 ≤ length bytes
    → drop at bytes ≡ to_le_bytes w32 (number_at w32 at bytes) ++ drop (at + 4) bytes
word_stands = number_stands w32 (2 ^ 32) wide32

pub xword_stands : (at : ℕ) (bytes : List ℕ) → IsBytes bytes → at + 8 ≤ length bytes
    → drop at bytes ≡ to_le_bytes w64 (number_at w64 at bytes) ++ drop (at + 8) bytes
xword_stands = number_stands w64 (2 ^ 64) wide64

pub half_fits : (at : ℕ) (bytes : List ℕ) → IsBytes bytes → number_at w16 at bytes < 2 ^ 16
half_fits at bytes are = wide16.below (take 2 (drop at bytes)) (IsBytes-take 2 (drop at bytes) (IsBytes-drop at bytes are))

pub word_fits : (at : ℕ) (bytes : List ℕ) → IsBytes bytes → number_at w32 at bytes < 2 ^ 32
word_fits at bytes are = wide32.below (take 4 (drop at bytes)) (IsBytes-take 4 (drop at bytes) (IsBytes-drop at bytes are))

pub xword_fits : (at : ℕ) (bytes : List ℕ) → IsBytes bytes → number_at w64 at bytes < 2 ^ 64
xword_fits at bytes are = wide64.below (take 8 (drop at bytes)) (IsBytes-take 8 (drop at bytes) (IsBytes-drop at bytes are))

-- ---- the ELF header

pub record FileRight (bytes : List ℕ) : Type 0 where
  pub front : bytes ≡ take 40 (right_header bytes) ++ drop 40 bytes
  pub table : table_in bytes + 64 * count_in bytes ≡ length bytes
  pub behind : 64 ≤ table_in bytes
  pub whole : table_in bytes % 8 ≡ 0
  pub sizes : drop 52 bytes ≡ take 8 (drop 52 (right_header bytes)) ++ drop 60 bytes
  pub few : 2 ≤ count_in bytes
  pub below : count_in bytes < SHN_LORESERVE
  pub index : drop 62 bytes ≡ drop 62 (right_header bytes) ++ drop 64 bytes

abbrev pub front_sizes : List ℕ
front_sizes = 4 ∷ 1 ∷ 1 ∷ 1 ∷ 1 ∷ 1 ∷ 1 ∷ 1 ∷ 1 ∷ 1 ∷ 1 ∷ 1 ∷ 1 ∷ 2 ∷ 2 ∷ 4 ∷ 8 ∷ 8 ∷ []

pub file_right : (bytes : List ℕ) → file_fault bytes ≡ None → FileRight bytes
unfolding file_fault front_fault sizes_fault index_fault ends_file file_header
file_right bytes e =
    let head : List ℕ = right_header bytes in
    let one : Option ℕ = front_fault bytes in
    let two : Option ℕ = judged 40 (ends_file bytes) in
    let three : Option ℕ = sizes_fault bytes in
    let four : Option ℕ = judged 60 (is_count (count_in bytes)) in
    let five : Option ℕ = index_fault bytes in
    let a = first_right one (two ∷ three ∷ four ∷ five ∷ []) e in
    let b = first_right two (three ∷ four ∷ five ∷ []) a.1 in
    let c = first_right three (four ∷ five ∷ []) b.1 in
    let d = first_right four (five ∷ []) c.1 in
    let f = first_right five [] d.1 in
    let size : Bool = table_in bytes + 64 * count_in bytes == length bytes in
    let low : Bool = nat_le 64 (table_in bytes) in
    let whole : Bool = table_in bytes % 8 == 0 in
    let ends = both_right size (low && whole) (judged_right 40 (ends_file bytes) b.0) in
    let placed = both_right low whole ends.1 in
    let counted = both_right (nat_le 2 (count_in bytes)) (nat_lt (count_in bytes) SHN_LORESERVE) (judged_right 60 (is_count (count_in bytes)) d.0) in
    record {
      front = constants_right 0 front_sizes (take 40 head) bytes refl a.0;
      table = eqb-true (table_in bytes + 64 * count_in bytes) (length bytes) ends.0;
      behind = leb-true 64 (table_in bytes) placed.0;
      whole = eqb-true (table_in bytes % 8) 0 placed.1;
      sizes = constants_right 52 (2 ∷ 2 ∷ 2 ∷ 2 ∷ []) (take 8 (drop 52 head)) (drop 52 bytes) refl c.0
          ∙ ap (λ ys. take 8 (drop 52 head) ++ ys) (drop-drop 8 52 bytes);
      few = leb-true 2 (count_in bytes) counted.0;
      below = ltb-true (count_in bytes) SHN_LORESERVE counted.1;
      index = constants_right 62 (2 ∷ []) (drop 62 head) (drop 62 bytes) refl f.0 ∙ ap (λ ys. drop 62 head ++ ys) (drop-drop 2 62 bytes);
    }

-- the header stands there
pub header_stands : (bytes : List ℕ) → IsBytes bytes → FileRight bytes → bytes ≡ right_header bytes ++ drop 64 bytes
unfolding file_header
header_stands bytes are right =
    let long : 192 ≤ length bytes = omega (arith, right.table, right.behind, right.few) in
    right.front
    ∙ ap (λ ys. take 40 (right_header bytes) ++ ys)
    (xword_stands 40 bytes are (omega (arith, long))
    ∙ ap (λ ys. to_le_bytes w64 (table_in bytes) ++ ys)
    (word_stands 48 bytes are (omega (arith, long))
    ∙ ap (λ ys. to_le_bytes w32 (flags_in bytes) ++ ys)
    (right.sizes
    ∙ ap (λ ys. take 8 (drop 52 (right_header bytes)) ++ ys)
    (half_stands 60 bytes are (omega (arith, long))
    ∙ ap (λ ys. to_le_bytes w16 (count_in bytes) ++ ys) right.index))))

-- ---- the null section's header

pub null_right : (bytes : List ℕ) → null_fault bytes ≡ None → drop (table_in bytes) bytes ≡ replicate 64 0 ++ drop (table_in bytes + 64) bytes
unfolding null_fault
null_right bytes e =
    constants_right (table_in bytes) (4 ∷ 4 ∷ 8 ∷ 8 ∷ 8 ∷ 8 ∷ 4 ∷ 4 ∷ 8 ∷ 8 ∷ []) (replicate 64 0) (drop (table_in bytes) bytes) refl e
    ∙ ap (λ ys. replicate 64 0 ++ ys) (drop-drop 64 (table_in bytes) bytes)

-- ---- a section

pub record SectionRight (names : List ℕ) (table header name_at at : ℕ) (bytes : List ℕ) : Type 0 where
  pub name : name_in header bytes ≡ name_at
  pub closed : name_end names header bytes ≤ length names
  pub address : number_at w64 (header + 16) bytes ≡ 0
  pub offset : offset_in header bytes ≡ aligned at
  pub within : bytes_end header bytes ≤ table
  pub alignment : is_alignment (number_at w64 (header + 48) bytes) ≡ true
  pub before : drop at bytes ≡ replicate (padding at) 0 ++ drop (aligned at) bytes

pub section_right : (names : List ℕ) (table header name_at at : ℕ) (bytes : List ℕ) → section_fault names table header name_at at bytes ≡ None
    → SectionRight names table header name_at at bytes
unfolding section_fault is_name_at
section_right names table header name_at at bytes e =
    let named : Bool = name_in header bytes == name_at in
    let closed : Bool = nat_le (name_end names header bytes) (length names) in
    let address : Bool = number_at w64 (header + 16) bytes == 0 in
    let offset : Bool = offset_in header bytes == aligned at in
    let within : Bool = nat_le (bytes_end header bytes) table in
    let alignment : Bool = is_alignment (number_at w64 (header + 48) bytes) in
    let one : Option ℕ = judged header (named && closed) in
    let two : Option ℕ = judged (header + 16) address in
    let three : Option ℕ = judged (header + 24) offset in
    let four : Option ℕ = judged (header + 32) within in
    let five : Option ℕ = judged (header + 48) alignment in
    let six : Option ℕ = zeros at bytes in
    let a = first_right one (two ∷ three ∷ four ∷ five ∷ six ∷ []) e in
    let b = first_right two (three ∷ four ∷ five ∷ six ∷ []) a.1 in
    let c = first_right three (four ∷ five ∷ six ∷ []) b.1 in
    let d = first_right four (five ∷ six ∷ []) c.1 in
    let f = first_right five (six ∷ []) d.1 in
    let g = first_right six [] f.1 in
    let name = both_right named closed (judged_right header (named && closed) a.0) in
    record {
      name = eqb-true (name_in header bytes) name_at name.0;
      closed = leb-true (name_end names header bytes) (length names) name.1;
      address = eqb-true (number_at w64 (header + 16) bytes) 0 (judged_right (header + 16) address b.0);
      offset = eqb-true (offset_in header bytes) (aligned at) (judged_right (header + 24) offset c.0);
      within = leb-true (bytes_end header bytes) table (judged_right (header + 32) within d.0);
      alignment = judged_right (header + 48) alignment f.0;
      before = zeros_right at bytes g.0;
    }

pub record NamesRight (table header name_at at : ℕ) (bytes : List ℕ) : Type 0 where
  pub name : name_in header bytes ≡ name_at
  pub type_stands : drop (header + 4) bytes ≡ to_le_bytes w32 3 ++ replicate 16 0 ++ drop (header + 24) bytes
  pub offset : offset_in header bytes ≡ aligned at
  pub size : size_in header bytes ≡ name_in header bytes + 10
  pub small : size_in header bytes < 2 ^ 32
  pub ends : aligned (bytes_end header bytes) ≡ table
  pub link_stands : drop (header + 40) bytes ≡ replicate 8 0 ++ to_le_bytes w64 1 ++ replicate 8 0 ++ drop (header + 64) bytes
  pub before : drop at bytes ≡ replicate (padding at) 0 ++ drop (aligned at) bytes
  pub none : drop (offset_in header bytes) bytes ≡ 0 ∷ drop (offset_in header bytes + 1) bytes
  pub own : drop (offset_in header bytes + name_at) bytes
      ≡ text (codes ".shstrtab") ++ drop (offset_in header bytes + name_at + 10) bytes
  pub behind : drop (bytes_end header bytes) bytes ≡ replicate (padding (bytes_end header bytes)) 0 ++ drop (aligned (bytes_end header bytes)) bytes

pub names_right : (table header name_at at : ℕ) (bytes : List ℕ) → names_fault table header name_at at bytes ≡ None
    → NamesRight table header name_at at bytes
unfolding names_fault type_fault link_fault start_fault own_fault is_names_size
names_right table header name_at at bytes e =
    let from : ℕ = offset_in header bytes in
    let type_bytes : List ℕ = to_le_bytes w32 3 ++ replicate 16 0 in
    let link_bytes : List ℕ = replicate 8 0 ++ to_le_bytes w64 1 ++ replicate 8 0 in
    let string : List ℕ = text (codes ".shstrtab") in
    let named : Bool = name_in header bytes == name_at in
    let offset : Bool = from == aligned at in
    let size : Bool = size_in header bytes == name_in header bytes + 10 in
    let small : Bool = nat_lt (size_in header bytes) (2 ^ 32) in
    let ended : Bool = aligned (bytes_end header bytes) == table in
    let f1 : Option ℕ = judged header named in
    let f2 : Option ℕ = constants (header + 4) (4 ∷ 8 ∷ 8 ∷ []) type_bytes (drop (header + 4) bytes) in
    let f3 : Option ℕ = judged (header + 24) offset in
    let f4 : Option ℕ = judged (header + 32) (size && (small && ended)) in
    let f5 : Option ℕ = constants (header + 40) (4 ∷ 4 ∷ 8 ∷ 8 ∷ []) link_bytes (drop (header + 40) bytes) in
    let f6 : Option ℕ = zeros at bytes in
    let f7 : Option ℕ = constants from (1 ∷ []) (0 ∷ []) (drop from bytes) in
    let f8 : Option ℕ = constants (from + name_at) (replicate 10 1) string (drop (from + name_at) bytes) in
    let f9 : Option ℕ = zeros (bytes_end header bytes) bytes in
    let a = first_right f1 (f2 ∷ f3 ∷ f4 ∷ f5 ∷ f6 ∷ f7 ∷ f8 ∷ f9 ∷ []) e in
    let b = first_right f2 (f3 ∷ f4 ∷ f5 ∷ f6 ∷ f7 ∷ f8 ∷ f9 ∷ []) a.1 in
    let c = first_right f3 (f4 ∷ f5 ∷ f6 ∷ f7 ∷ f8 ∷ f9 ∷ []) b.1 in
    let d = first_right f4 (f5 ∷ f6 ∷ f7 ∷ f8 ∷ f9 ∷ []) c.1 in
    let f = first_right f5 (f6 ∷ f7 ∷ f8 ∷ f9 ∷ []) d.1 in
    let g = first_right f6 (f7 ∷ f8 ∷ f9 ∷ []) f.1 in
    let h = first_right f7 (f8 ∷ f9 ∷ []) g.1 in
    let i = first_right f8 (f9 ∷ []) h.1 in
    let j = first_right f9 [] i.1 in
    let sized = both_right size (small && ended) (judged_right (header + 32) (size && (small && ended)) d.0) in
    let limits = both_right small ended sized.1 in
    record {
      name = eqb-true (name_in header bytes) name_at (judged_right header named a.0);
      type_stands =
          constants_right (header + 4) (4 ∷ 8 ∷ 8 ∷ []) type_bytes (drop (header + 4) bytes) refl b.0
          ∙ ap (λ ys. type_bytes ++ ys) (drop-drop 20 (header + 4) bytes ∙ ap (λ k. drop k bytes) (four_on header));
      offset = eqb-true from (aligned at) (judged_right (header + 24) offset c.0);
      size = eqb-true (size_in header bytes) (name_in header bytes + 10) sized.0;
      small = ltb-true (size_in header bytes) (2 ^ 32) limits.0;
      ends = eqb-true (aligned (bytes_end header bytes)) table limits.1;
      link_stands =
          constants_right (header + 40) (4 ∷ 4 ∷ 8 ∷ 8 ∷ []) link_bytes (drop (header + 40) bytes) refl f.0
          ∙ ap (λ ys. link_bytes ++ ys) (drop-drop 24 (header + 40) bytes ∙ ap (λ k. drop k bytes) (forty_on header));
      before = zeros_right at bytes g.0;
      none = constants_right from (1 ∷ []) (0 ∷ []) (drop from bytes) refl h.0 ∙ ap (λ ys. 0 ∷ ys) (drop-drop 1 from bytes);
      own =
          constants_right (from + name_at) (replicate 10 1) string (drop (from + name_at) bytes) refl i.0
          ∙ ap (λ ys. string ++ ys) (drop-drop 10 (from + name_at) bytes);
      behind = zeros_right (bytes_end header bytes) bytes j.0;
    }
  where
    four_on : (a : ℕ) → a + 4 + 20 ≡ a + 24
    four_on a = omega arith

    forty_on : (a : ℕ) → a + 40 + 24 ≡ a + 64
    forty_on a = omega arith
