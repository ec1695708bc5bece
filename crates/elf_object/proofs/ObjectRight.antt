-- In the file of an object no field is wrong.
use Rattle.std.specs.Prelude.{nat_eq, nat_lt, nat_le, ◌==◌, ◌&&◌, replicate, codes, Option, Some, None, if◌then◌else◌}
use Rattle.std.specs.List.{flat_map, starts_with, AllByRecursion}
use Rattle.std.specs.Int.{w16, w32, w64, to_le_bytes}
use Rattle.std.proofs.Common.{◌≡◌, ℕ, zero, suc, ◌+◌, ◌-◌, ◌*◌, ◌%◌, ◌^◌, ◌≤◌, ◌<◌, Bool, true, false, List, [], ◌∷◌, ◌++◌, length, take, drop}
use Rattle.std.proofs.Common.{arith, ap, sym, subst, ◌∙◌, refl, append_assoc, length-append}
use Rattle.std.proofs.lemmas.Bool.{lt-ltb, le-leb, eq-eqb}
use Rattle.std.proofs.lemmas.Bool.Decides.{Decides-eqb}
use Rattle.std.proofs.lemmas.Slice.Eq.{starts_is}
use Rattle.std.proofs.lemmas.List.{append-nil, length-take-le, length-drop, length-replicate, take-append-drop, drop-drop, drop_at, take_at, drop-append-le}
use Rattle.std.proofs.lemmas.List.Elements.{All-from_recursion, recursion_from_All}
use Rattle.elf_object.specs.declared.object.Section.{Section}
use Rattle.elf_object.specs.declared.object.Object.{Object}
use Rattle.elf_object.specs.Standard.{SHN_LORESERVE}
use Rattle.elf_object.specs.Spelling.{padding, aligned, text, names_of, section_names, all_sections, contents, section_header, headers, file_header}
use Rattle.elf_object.specs.Grammar.{IsNamed, is_alignment, IsAligned, IsObject}
use Rattle.elf_object.specs.Sections.{number_at}
use Rattle.elf_object.specs.FirstFault.{first, judged, constants, zeros, table_in, count_in, flags_in, right_header, file_fault, null_fault, ends_file, is_count}
use Rattle.elf_object.specs.FirstFault.{front_fault, sizes_fault, index_fault, type_fault, link_fault, start_fault, own_fault, is_name_at, is_names_size}
use Rattle.elf_object.specs.FirstFault.{name_in, name_end, offset_in, size_in, bytes_end, section_fault, names_fault, header_after, names_in, names_end}
use Rattle.elf_object.specs.FirstFault.{sections_end, fault_after, last_fault_after, IsRight, FirstFault, InFileHeader, InNullHeader, InSection, InNames}
use Rattle.elf_object.proofs.ContentLemmas.{length-contents, length-contents-last}
use Rattle.elf_object.proofs.HeaderLemmas
use Rattle.elf_object.proofs.HeaderLemmas.{length-file_header, length-section_header, length-headers, shoff_in, shnum_in, address_in, fields_in}
use Rattle.elf_object.proofs.SpellingLemmas.{table_of, length-body, length-spelling}
use Rattle.elf_object.proofs.OneReading.{Sized, is_sized, length-all, table_fits, count_fits}
use Rattle.elf_object.proofs.FoundSections.{number_past, head_of, body_of, table_bytes, whole, in_head, names_all, names_long}
use Rattle.elf_object.specs.steps.Told.{total}
use Rattle.elf_object.proofs.FaultLoops.{total-ones}
use Rattle.elf_object.proofs.FaultLemmas.{front_sizes}
use Rattle.elf_object.proofs.ToldLemmas.{contents_append, headers_append, names_append, all_last, before_zero, before_suc, own_names}

-- ---- fields that are right

pub right_first : (fault : Option ℕ) (faults : List (Option ℕ)) → fault ≡ None → first faults ≡ None → first (fault ∷ faults) ≡ None
right_first fault faults e later = subst (λ f. first (f ∷ faults) ≡ None) (sym e) later

right5 : (a b c d e : Option ℕ) → a ≡ None → b ≡ None → c ≡ None → d ≡ None → e ≡ None → first (a ∷ b ∷ c ∷ d ∷ e ∷ []) ≡ None
right5 a b c d e p q r s t =
    right_first a (b ∷ c ∷ d ∷ e ∷ []) p (right_first b (c ∷ d ∷ e ∷ []) q (right_first c (d ∷ e ∷ []) r (right_first d (e ∷ []) s
    (right_first e [] t refl))))

right6 : (a b c d e f : Option ℕ) → a ≡ None → b ≡ None → c ≡ None → d ≡ None → e ≡ None → f ≡ None
    → first (a ∷ b ∷ c ∷ d ∷ e ∷ f ∷ []) ≡ None
right6 a b c d e f p q r s t u = right_first a (b ∷ c ∷ d ∷ e ∷ f ∷ []) p (right5 b c d e f q r s t u)

right9 : (a b c d e f g h i : Option ℕ) → a ≡ None → b ≡ None → c ≡ None → d ≡ None → e ≡ None → f ≡ None → g ≡ None → h ≡ None → i ≡ None
    → first (a ∷ b ∷ c ∷ d ∷ e ∷ f ∷ g ∷ h ∷ i ∷ []) ≡ None
right9 a b c d e f g h i p q r s t u v w x =
    right_first a (b ∷ c ∷ d ∷ e ∷ f ∷ g ∷ h ∷ i ∷ []) p (right_first b (c ∷ d ∷ e ∷ f ∷ g ∷ h ∷ i ∷ []) q
    (right_first c (d ∷ e ∷ f ∷ g ∷ h ∷ i ∷ []) r (right_first d (e ∷ f ∷ g ∷ h ∷ i ∷ []) s (right5 e f g h i t u v w x))))

pub right_judged : (at : ℕ) (right : Bool) → right ≡ true → judged at right ≡ None
right_judged at true e = refl
right_judged at false e = absurd cc

pub right_both : (a b : Bool) → a ≡ true → b ≡ true → (a && b) ≡ true
right_both true b e f = f
right_both false b e f = absurd cc

pub right_constants : (at : ℕ) (sizes right bytes rest : List ℕ) → total sizes ≡ length right → bytes ≡ right ++ rest → constants at sizes right bytes ≡ None
right_constants at [] right bytes rest long e = refl
right_constants at (n ∷ sizes) right bytes rest long e =
    let field : List ℕ = take n right in
    let later : List ℕ = drop n right in
    let sized : n + total sizes ≡ length right = long in
    let size : length field ≡ n = length-take-le n right (omega (arith, sized)) in
    let front : bytes ≡ field ++ (later ++ rest) =
    e ∙ ap (λ ys. ys ++ rest) (sym (take-append-drop n right)) ∙ append_assoc field later rest in
    let stands : starts_with nat_eq bytes field ≡ true =
    (starts_is Decides-eqb bytes field (starts_with nat_eq bytes field) refl).1 (later ++ rest) front in
    let next : drop n bytes ≡ later ++ rest = ap (drop n) front ∙ drop_at field (later ++ rest) n size in
    ap (λ b. if b then constants (at + n) sizes later (drop n bytes) else Some at) stands
    ∙ right_constants (at + n) sizes later (drop n bytes) rest (omega (arith, length-drop n right, sized)) next

right_zeros : (at : ℕ) (bytes rest : List ℕ) → drop at bytes ≡ replicate (padding at) 0 ++ rest → zeros at bytes ≡ None
unfolding zeros
right_zeros at bytes rest e =
    right_constants at (replicate (padding at) 1) (replicate (padding at) 0) (drop at bytes) rest
    (total-ones (padding at) ∙ sym (length-replicate {A = ℕ} (padding at) 0)) e

-- ---- lists

all_of : (P : Section → Type 0) (xs : List Section) (s : Section) (ys : List Section) → AllByRecursion P (xs ++ s ∷ ys) → P s
all_of P [] s ys all = all.0
all_of P (x ∷ xs) s ys all = all_of P xs s ys all.1

record Split (all : List Section) (k : ℕ) : Type 0 where
  xs : List Section
  s : Section
  ys : List Section
  is : all ≡ xs ++ s ∷ ys
  long : length xs ≡ k

split_at : (all : List Section) (k : ℕ) → k < length all → Split all k
split_at [] k lt = absurd (omega arith)
split_at (s ∷ all) zero lt = record { xs = []; s = s; ys = all; is = refl; long = refl }
split_at (s ∷ all) (suc k) lt =
    let rest = split_at all k (omega (arith, lt)) in
    record { xs = s ∷ rest.xs; s = rest.s; ys = rest.ys; is = ap (λ zs. s ∷ zs) rest.is; long = ap suc rest.long }

-- ---- the parts of the file

abbrev table_at : Object → ℕ
table_at o = table_of (all_sections o)

abbrev gap_of : Object → List ℕ
gap_of o = replicate (padding (64 + length (contents 64 (all_sections o)))) 0

table_is : (o : Object) (bytes : List ℕ) → IsObject o bytes → table_in bytes ≡ table_at o
table_is o bytes is =
    in_head w64 40 bytes o is (omega arith) ∙ shoff_in o.flags (table_at o) (length (all_sections o) + 1) (table_fits o bytes is)

count_is : (o : Object) (bytes : List ℕ) → IsObject o bytes → count_in bytes ≡ length (all_sections o) + 1
count_is o bytes is =
    in_head w16 60 bytes o is (omega arith) ∙ shnum_in o.flags (table_at o) (length (all_sections o) + 1) (count_fits o bytes is)

flags_are : (o : Object) (bytes : List ℕ) → IsObject o bytes → flags_in bytes ≡ o.flags
flags_are o bytes is =
    in_head w32 48 bytes o is (omega arith) ∙ HeaderLemmas.flags_in o.flags (table_at o) (length (all_sections o) + 1) is.flags

header_is : (o : Object) (bytes : List ℕ) → IsObject o bytes → right_header bytes ≡ head_of o
header_is o bytes is =
    ap (λ n. file_header n (table_in bytes) (count_in bytes)) (flags_are o bytes is)
    ∙ ap (λ n. file_header o.flags n (count_in bytes)) (table_is o bytes is) ∙ ap (file_header o.flags (table_at o)) (count_is o bytes is)

head_long : (o : Object) → length (head_of o) ≡ 64
head_long o = length-file_header o.flags (table_at o) (length (all_sections o) + 1)

-- what stands at an offset of the header
in_header : (at n : ℕ) (head rest : List ℕ) → length head ≡ 64 → at + n ≤ 64
    → drop at (head ++ rest) ≡ take n (drop at head) ++ (drop n (drop at head) ++ rest)
in_header at n head rest long within =
    drop-append-le at head rest (omega (arith, long, within)) ∙ ap (λ ys. ys ++ rest) (sym (take-append-drop n (drop at head)))
    ∙ append_assoc (take n (drop at head)) (drop n (drop at head)) rest

pub file_stands : (o : Object) (bytes : List ℕ) → IsObject o bytes → file_fault bytes ≡ None
unfolding file_fault front_fault sizes_fault index_fault ends_file file_header
file_stands o bytes is =
    let head : List ℕ = right_header bytes in
    let rest : List ℕ = body_of o ++ table_bytes o in
    let long : length head ≡ 64 = ap length (header_is o bytes is) ∙ head_long o in
    let stands : bytes ≡ head ++ rest = whole bytes o is ∙ ap (λ ys. ys ++ rest) (sym (header_is o bytes is)) in
    let table = table_is o bytes is in
    let count = count_is o bytes is in
    let size : table_in bytes + 64 * count_in bytes ≡ length bytes =
    omega (arith, table, count, length-spelling o, ap length is.spelled, length-all o) in
    let behind : 64 ≤ table_in bytes = omega (arith, table) in
    let aligned_at : table_in bytes % 8 ≡ 0 = omega (arith, table) in
    let few : 2 ≤ count_in bytes = omega (arith, count, length-all o) in
    let below : count_in bytes < SHN_LORESERVE = omega (arith, count, length-all o, is.count) in
    let front : List ℕ = take 40 head in
    let sizes : List ℕ = take 8 (drop 52 head) in
    let index : List ℕ = drop 62 head in
    right5 (constants 0 front_sizes front bytes) (judged 40 (ends_file bytes)) (constants 52 (2 ∷ 2 ∷ 2 ∷ 2 ∷ []) sizes (drop 52 bytes))
    (judged 60 (is_count (count_in bytes))) (constants 62 (2 ∷ []) index (drop 62 bytes))
    (right_constants 0 front_sizes front bytes (drop 40 head ++ rest) refl (stands ∙ in_header 0 40 head rest long (omega arith)))
    (right_judged 40 (ends_file bytes) (right_both (table_in bytes + 64 * count_in bytes == length bytes)
    (nat_le 64 (table_in bytes) && table_in bytes % 8 == 0) (eq-eqb (table_in bytes + 64 * count_in bytes) (length bytes) size)
    (right_both (nat_le 64 (table_in bytes)) (table_in bytes % 8 == 0) (le-leb 64 (table_in bytes) behind) (eq-eqb (table_in bytes % 8) 0 aligned_at))))
    (right_constants 52 (2 ∷ 2 ∷ 2 ∷ 2 ∷ []) sizes (drop 52 bytes) (drop 8 (drop 52 head) ++ rest) refl
    (ap (drop 52) stands ∙ in_header 52 8 head rest long (omega arith)))
    (right_judged 60 (is_count (count_in bytes)) (right_both (nat_le 2 (count_in bytes)) (nat_lt (count_in bytes) SHN_LORESERVE)
    (le-leb 2 (count_in bytes) few) (lt-ltb (count_in bytes) SHN_LORESERVE below)))
    (right_constants 62 (2 ∷ []) index (drop 62 bytes) rest refl (ap (drop 62) stands ∙ drop-append-le 62 head rest (omega (arith, long))))

-- from the section header table on
from_table : (o : Object) (bytes : List ℕ) → IsObject o bytes → drop (table_in bytes) bytes ≡ replicate 64 0 ++ headers 1 64 (all_sections o)
from_table o bytes is =
    ap (drop (table_in bytes)) (whole bytes o is ∙ sym (append_assoc (head_of o) (body_of o) (table_bytes o)))
    ∙ drop_at (head_of o ++ body_of o) (table_bytes o) (table_in bytes)
    (length-append (head_of o) (body_of o) ∙ ap (λ n. n + length (body_of o)) (head_long o) ∙ length-body (all_sections o) ∙ sym (table_is o bytes is))

pub null_stands : (o : Object) (bytes : List ℕ) → IsObject o bytes → null_fault bytes ≡ None
unfolding null_fault
null_stands o bytes is =
    right_constants (table_in bytes) (4 ∷ 4 ∷ 8 ∷ 8 ∷ 8 ∷ 8 ∷ 4 ∷ 4 ∷ 8 ∷ 8 ∷ []) (replicate 64 0) (drop (table_in bytes) bytes) (headers 1 64 (all_sections o)) refl (from_table o bytes is)

-- from the end of the sections' bytes on
from_end : (o : Object) (bytes : List ℕ) → IsObject o bytes → drop (64 + length (contents 64 (all_sections o))) bytes ≡ gap_of o ++ table_bytes o
from_end o bytes is =
    let front : List ℕ = head_of o ++ contents 64 (all_sections o) in
    ap (drop (64 + length (contents 64 (all_sections o))))
    (whole bytes o is ∙ regrouped (head_of o) (contents 64 (all_sections o)) (gap_of o) (table_bytes o))
    ∙ drop_at front (gap_of o ++ table_bytes o) (64 + length (contents 64 (all_sections o)))
    (length-append (head_of o) (contents 64 (all_sections o)) ∙ ap (λ n. n + length (contents 64 (all_sections o))) (head_long o))
  where
    regrouped : (a b c d : List ℕ) → a ++ ((b ++ c) ++ d) ≡ (a ++ b) ++ (c ++ d)
    regrouped a b c d = simp append_assoc

-- ---- a section

-- where the names, and where the bytes, of sections end
abbrev names_to : List Section → ℕ
names_to xs = 1 + length (flat_map text (names_of xs))

abbrev bytes_to : List Section → ℕ
bytes_to xs = 64 + length (contents 64 xs)

-- the header of the section after some
header_stands : (o : Object) (bytes : List ℕ) (xs ys : List Section) (s : Section) → IsObject o bytes → all_sections o ≡ xs ++ s ∷ ys
    → (later : List ℕ) × (drop (header_after bytes (length xs)) bytes ≡ section_header (names_to xs) (aligned (bytes_to xs)) s ++ later)
header_stands o bytes xs ys s is e =
    let header : List ℕ = section_header (names_to xs) (aligned (bytes_to xs)) s in
    let later : List ℕ = headers (names_to xs + length (text s.name)) (aligned (bytes_to xs) + length s.bytes) ys in
    let front : List ℕ = replicate 64 0 ++ headers 1 64 xs in
    let table : replicate 64 0 ++ headers 1 64 (all_sections o) ≡ front ++ (header ++ later) =
    ap (λ zs. replicate 64 0 ++ headers 1 64 zs) e ∙ ap (λ zs. replicate 64 0 ++ zs) (headers_append 1 64 xs (s ∷ ys))
    ∙ sym (append_assoc (replicate 64 0) (headers 1 64 xs) (header ++ later)) in
    let long : length front ≡ 64 * suc (length xs) =
    omega (arith, length-append (replicate 64 0) (headers 1 64 xs), length-replicate {A = ℕ} 64 0, length-headers 1 64 xs) in (
      later,
      sym (drop-drop (64 * suc (length xs)) (table_in bytes) bytes) ∙ ap (drop (64 * suc (length xs))) (from_table o bytes is ∙ table)
          ∙ drop_at front (header ++ later) (64 * suc (length xs)) long,
    )

-- its bytes, and those before them
body_stands : (o : Object) (bytes : List ℕ) (xs ys : List Section) (s : Section) → IsObject o bytes → all_sections o ≡ xs ++ s ∷ ys
    → (later : List ℕ) × (drop (bytes_to xs) bytes ≡ replicate (padding (bytes_to xs)) 0 ++ (s.bytes ++ later))
body_stands o bytes xs ys s is e =
    let zeros_before : List ℕ = replicate (padding (bytes_to xs)) 0 in
    let after : List ℕ = contents (aligned (bytes_to xs) + length s.bytes) ys in
    let tail : List ℕ = gap_of o ++ table_bytes o in
    let front : List ℕ = head_of o ++ contents 64 xs in
    let all : contents 64 (all_sections o) ≡ contents 64 xs ++ ((zeros_before ++ s.bytes) ++ after) =
    ap (contents 64) e ∙ contents_append 64 xs (s ∷ ys) in
    let parts : bytes ≡ front ++ (zeros_before ++ (s.bytes ++ (after ++ tail))) =
    whole bytes o is ∙ ap (λ zs. head_of o ++ ((zs ++ gap_of o) ++ table_bytes o)) all
    ∙ regrouped (head_of o) (contents 64 xs) zeros_before s.bytes after (gap_of o) (table_bytes o) in
    let long : length front ≡ bytes_to xs = length-append (head_of o) (contents 64 xs) ∙ ap (λ n. n + length (contents 64 xs)) (head_long o) in
    (after ++ tail, ap (drop (bytes_to xs)) parts ∙ drop_at front (zeros_before ++ (s.bytes ++ (after ++ tail))) (bytes_to xs) long)
  where
    regrouped : (a b c d e f g : List ℕ) → a ++ (((b ++ ((c ++ d) ++ e)) ++ f) ++ g) ≡ (a ++ b) ++ (c ++ (d ++ (e ++ (f ++ g))))
    regrouped a b c d e f g = simp append_assoc

one_more : (n a b : ℕ) → n ≡ a + b → 1 + n ≡ 1 + a + b
one_more n a b e = omega (arith, e)

-- what its header tells
record Numbers (bytes : List ℕ) (xs : List Section) (s : Section) : Type 0 where
  name : name_in (header_after bytes (length xs)) bytes ≡ names_to xs
  address : number_at w64 (header_after bytes (length xs) + 16) bytes ≡ 0
  offset : offset_in (header_after bytes (length xs)) bytes ≡ aligned (bytes_to xs)
  size : size_in (header_after bytes (length xs)) bytes ≡ length s.bytes
  alignment : number_at w64 (header_after bytes (length xs) + 48) bytes ≡ s.alignment
  within : aligned (bytes_to xs) + length s.bytes ≤ table_in bytes

numbers_are : (o : Object) (bytes : List ℕ) (xs ys : List Section) (s : Section) → IsObject o bytes → all_sections o ≡ xs ++ s ∷ ys
    → Sized s → Numbers bytes xs s
numbers_are o bytes xs ys s is e sized =
    let h : ℕ = header_after bytes (length xs) in
    let header : List ℕ = section_header (names_to xs) (aligned (bytes_to xs)) s in
    let found = header_stands o bytes xs ys s is e in
    let long : length header ≡ 64 = length-section_header (names_to xs) (aligned (bytes_to xs)) s in
    let fields = fields_in (names_to xs) (aligned (bytes_to xs)) s sized.fits sized.size in
    let ends : bytes_to (all_sections o) ≡ (aligned (bytes_to xs) + length s.bytes) + length (contents (aligned (bytes_to xs) + length s.bytes) ys) =
    ap bytes_to e ∙ ap (λ zs. 64 + length zs) (contents_append 64 xs (s ∷ ys))
    ∙ ap (λ n. 64 + n) (length-append (contents 64 xs) (contents (bytes_to xs) (s ∷ ys)))
    ∙ plus (length (contents 64 xs)) (length (contents (bytes_to xs) (s ∷ ys))) ∙ length-contents (bytes_to xs) s ys in
    let strings : names_to (all_sections o) ≡ names_to xs + length (flat_map text (names_of (s ∷ ys))) =
    ap names_to e ∙ ap (λ zs. 1 + length zs) (names_append xs (s ∷ ys))
    ∙ one_more _ _ _ (length-append (flat_map text (names_of xs)) (flat_map text (names_of (s ∷ ys)))) in
    let within : aligned (bytes_to xs) + length s.bytes ≤ table_in bytes = omega (arith, ends, table_is o bytes is) in
    record {
      name = ap (λ n. number_at w32 n bytes) (none h) ∙ number_past w32 h 0 bytes header found.0 found.1 (omega (arith, long))
          ∙ HeaderLemmas.name_in (names_to xs) (aligned (bytes_to xs)) s (omega (arith, strings, names_long o, is.names));
      address = number_past w64 h 16 bytes header found.0 found.1 (omega (arith, long)) ∙ address_in (names_to xs) (aligned (bytes_to xs)) s;
      offset = number_past w64 h 24 bytes header found.0 found.1 (omega (arith, long))
          ∙ HeaderLemmas.offset_in (names_to xs) (aligned (bytes_to xs)) s (omega (arith, within, table_is o bytes is, table_fits o bytes is));
      size = number_past w64 h 32 bytes header found.0 found.1 (omega (arith, long)) ∙ fields.size;
      alignment = number_past w64 h 48 bytes header found.0 found.1 (omega (arith, long)) ∙ fields.alignment;
      within = within;
    }
  where
    none : (n : ℕ) → n ≡ n + 0
    none n = omega arith

    plus : (a b : ℕ) → 64 + (a + b) ≡ 64 + a + b
    plus a b = omega arith

-- ---- the sections' names

-- the bytes from the multiple of 8 on
body_at : (at : ℕ) (bytes rest : List ℕ) → drop at bytes ≡ replicate (padding at) 0 ++ rest → drop (aligned at) bytes ≡ rest
body_at at bytes rest e =
    sym (drop-drop (padding at) at bytes) ∙ ap (drop (padding at)) e
    ∙ drop_at (replicate (padding at) 0) rest (padding at) (length-replicate {A = ℕ} (padding at) 0)

names_are : (o : Object) (bytes : List ℕ) → IsObject o bytes → names_in bytes ≡ 0 ∷ flat_map text (names_of (all_sections o))
names_are o bytes is =
    let us : List Section = o.sections in
    let names : Section = section_names us in
    let h : ℕ = header_after bytes (length us) in
    let sized : Sized names = all_of Sized us names [] (is_sized o bytes is) in
    let numbers : Numbers bytes us names = numbers_are o bytes us [] names is refl sized in
    let body = body_stands o bytes us [] names is refl in
    ap (λ k. take (size_in k bytes) (drop (offset_in k bytes) bytes))
    (last_header (table_in bytes) (length us) (count_in bytes) (length (all_sections o)) (count_is o bytes is) (length-all o))
    ∙ ap (λ n. take n (drop (offset_in h bytes) bytes)) numbers.size ∙ ap (λ n. take (length names.bytes) (drop n bytes)) numbers.offset
    ∙ ap (take (length names.bytes)) (body_at (bytes_to us) bytes (names.bytes ++ body.0) body.1)
    ∙ take_at names.bytes body.0 (length names.bytes) refl ∙ ap (λ zs. 0 ∷ flat_map text zs) (sym (names_all o))
  where
    last_header : (t n count all : ℕ) → count ≡ all + 1 → all ≡ n + 1 → t + 64 * (count - 1) ≡ t + 64 * suc n
    last_header t n count all e f = omega (arith, e, f)

-- the string of a section, and what is behind it
string_at : (o : Object) (bytes : List ℕ) (xs ys : List Section) (s : Section) → IsObject o bytes → all_sections o ≡ xs ++ s ∷ ys
    → drop (names_to xs) (names_in bytes) ≡ text s.name ++ flat_map text (names_of ys)
string_at o bytes xs ys s is e =
    let before : List ℕ = 0 ∷ flat_map text (names_of xs) in
    ap (drop (names_to xs)) (names_are o bytes is ∙ ap (λ zs. 0 ∷ flat_map text (names_of zs)) e ∙ ap (λ zs. 0 ∷ zs) (names_append xs (s ∷ ys)))
    ∙ drop_at before (text s.name ++ flat_map text (names_of ys)) (names_to xs) (plus (length (flat_map text (names_of xs))))
  where
    plus : (n : ℕ) → suc n ≡ 1 + n
    plus n = omega arith

pub zero_after : (name rest : List ℕ) → AllByRecursion (λ byte. 0 < byte) name → before_zero (text name ++ rest) ≡ length name
zero_after [] rest named = refl
zero_after (zero ∷ name) rest named = absurd (omega (arith, named.0))
zero_after (suc b ∷ name) rest named = before_suc b (text name ++ rest) ∙ ap suc (zero_after name rest named.1)

shstrtab_named : AllByRecursion (λ byte. 0 < byte) (codes ".shstrtab")
shstrtab_named =
    (omega arith, (omega arith, (omega arith, (omega arith, (omega arith, (omega arith, (omega arith, (omega arith, (omega arith, tt)))))))))

all_named : (o : Object) (bytes : List ℕ) → IsObject o bytes → AllByRecursion IsNamed (all_sections o)
all_named o bytes is =
    all_last IsNamed o.sections (section_names o.sections) (recursion_from_All IsNamed o.sections is.named)
    (All-from_recursion (λ byte. 0 < byte) (codes ".shstrtab") shstrtab_named)

all_aligned : (o : Object) (bytes : List ℕ) → IsObject o bytes → AllByRecursion IsAligned (all_sections o)
all_aligned o bytes is = all_last IsAligned o.sections (section_names o.sections) (recursion_from_All IsAligned o.sections is.aligned) refl

-- where a section's name ends
name_ends : (o : Object) (bytes : List ℕ) (xs ys : List Section) (s : Section) → IsObject o bytes → all_sections o ≡ xs ++ s ∷ ys
    → name_end (names_in bytes) (header_after bytes (length xs)) bytes ≡ names_to (xs ++ s ∷ [])
name_ends o bytes xs ys s is e =
    let sized = all_of Sized xs s ys (subst (AllByRecursion Sized) e (is_sized o bytes is)) in
    let named = all_of IsNamed xs s ys (subst (AllByRecursion IsNamed) e (all_named o bytes is)) in
    let numbers = numbers_are o bytes xs ys s is e sized in
    let before : before_zero (drop (names_to xs) (names_in bytes)) ≡ length s.name =
    ap before_zero (string_at o bytes xs ys s is e)
    ∙ zero_after s.name (flat_map text (names_of ys)) (recursion_from_All (λ byte. 0 < byte) s.name named) in
    ap (λ n. n + before_zero (drop n (names_in bytes)) + 1) numbers.name ∙ ap (λ n. names_to xs + n + 1) before
    ∙ counted (length (flat_map text (names_of xs))) (length s.name) (length (text s.name)) (length (flat_map text (names_of xs) ++ text s.name))
    (length-append s.name (0 ∷ [])) (length-append (flat_map text (names_of xs)) (text s.name))
    ∙ ap (λ zs. 1 + length zs) (sym (names_append xs (s ∷ []) ∙ ap (λ zs. flat_map text (names_of xs) ++ zs) (append-nil (text s.name))))
  where
    counted : (a b c d : ℕ) → c ≡ b + 1 → d ≡ a + c → 1 + a + b + 1 ≡ 1 + d
    counted a b c d e f = omega (arith, e, f)

bytes_end_is : (o : Object) (bytes : List ℕ) (xs ys : List Section) (s : Section) → IsObject o bytes → all_sections o ≡ xs ++ s ∷ ys
    → bytes_end (header_after bytes (length xs)) bytes ≡ bytes_to (xs ++ s ∷ [])
bytes_end_is o bytes xs ys s is e =
    let sized = all_of Sized xs s ys (subst (AllByRecursion Sized) e (is_sized o bytes is)) in
    let numbers = numbers_are o bytes xs ys s is e sized in
    omega (arith, numbers.offset, numbers.size, length-contents-last 64 xs s)

-- ---- where those before a section end

record Init (xs : List Section) (k : ℕ) : Type 0 where
  front : List Section
  last : Section
  is : xs ≡ front ++ last ∷ []
  long : length front ≡ k

init_of : (xs : List Section) (k : ℕ) → length xs ≡ suc k → Init xs k
init_of [] k e = absurd (omega arith)
init_of (s ∷ []) k e = record { front = []; last = s; is = refl; long = omega arith }
init_of (s ∷ t ∷ xs) zero e = absurd (omega arith)
init_of (s ∷ t ∷ xs) (suc k) e =
    let rest = init_of (t ∷ xs) k (omega arith) in
    record { front = s ∷ rest.front; last = rest.last; is = ap (λ zs. s ∷ zs) rest.is; long = ap suc rest.long }

none_of : (xs : List Section) → length xs ≡ zero → xs ≡ []
none_of [] e = refl
none_of (s ∷ xs) e = absurd (omega arith)

record Ends (bytes : List ℕ) (k : ℕ) (xs : List Section) : Type 0 where
  names : names_end bytes k ≡ names_to xs
  bodies : sections_end bytes k ≡ bytes_to xs

ends_are : (o : Object) (bytes : List ℕ) (k : ℕ) (xs ys : List Section) → IsObject o bytes → all_sections o ≡ xs ++ ys → length xs ≡ k → Ends bytes k xs
ends_are o bytes zero xs ys is e long =
    record { names = ap names_to (sym (none_of xs long)); bodies = ap bytes_to (sym (none_of xs long)) }
ends_are o bytes (suc k) xs ys is e long =
    let init = init_of xs k long in
    let split : all_sections o ≡ init.front ++ init.last ∷ ys =
    e ∙ ap (λ zs. zs ++ ys) init.is ∙ append_assoc init.front (init.last ∷ []) ys in
    record {
      names = ap (λ n. name_end (names_in bytes) (header_after bytes n) bytes) (sym init.long)
          ∙ name_ends o bytes init.front ys init.last is split ∙ ap names_to (sym init.is);
      bodies = ap (λ n. bytes_end (header_after bytes n) bytes) (sym init.long)
          ∙ bytes_end_is o bytes init.front ys init.last is split ∙ ap bytes_to (sym init.is);
    }

-- ---- each section

section_stands : (o : Object) (bytes : List ℕ) (xs ys : List Section) (s : Section) → IsObject o bytes → all_sections o ≡ xs ++ s ∷ ys
    → fault_after bytes (length xs) ≡ None
unfolding section_fault is_name_at
section_stands o bytes xs ys s is e =
    let sized = all_of Sized xs s ys (subst (AllByRecursion Sized) e (is_sized o bytes is)) in
    let numbers = numbers_are o bytes xs ys s is e sized in
    let ends = ends_are o bytes (length xs) xs (s ∷ ys) is e refl in
    let body = body_stands o bytes xs ys s is e in
    let h : ℕ = header_after bytes (length xs) in
    let string = string_at o bytes xs ys s is e in
    let whole_names : length (names_in bytes) ≡ names_to (all_sections o) = ap length (names_are o bytes is) ∙ plus (length (flat_map text (names_of (all_sections o)))) in
    let more : names_to (all_sections o) ≡ names_to (xs ++ s ∷ []) + length (flat_map text (names_of ys)) =
    ap names_to (e ∙ sym (append_assoc xs (s ∷ []) ys)) ∙ ap (λ zs. 1 + length zs) (names_append (xs ++ s ∷ []) ys)
    ∙ one_more _ _ _ (length-append (flat_map text (names_of (xs ++ s ∷ []))) (flat_map text (names_of ys))) in
    let name_at : ℕ = names_end bytes (length xs) in
    let at : ℕ = sections_end bytes (length xs) in
    let named : Bool = name_in h bytes == name_at in
    let closed : Bool = nat_le (name_end (names_in bytes) h bytes) (length (names_in bytes)) in
    let is_aligned : IsAligned s = all_of IsAligned xs s ys (subst (AllByRecursion IsAligned) e (all_aligned o bytes is)) in
    let alignment : ℕ = number_at w64 (h + 48) bytes in
    right6 (judged h (named && closed)) (judged (h + 16) (number_at w64 (h + 16) bytes == 0)) (judged (h + 24) (offset_in h bytes == aligned at))
    (judged (h + 32) (nat_le (bytes_end h bytes) (table_in bytes))) (judged (h + 48) (is_alignment alignment)) (zeros at bytes)
    (right_judged h (named && closed) (right_both named closed (eq-eqb (name_in h bytes) name_at (numbers.name ∙ sym ends.names))
    (le-leb (name_end (names_in bytes) h bytes) (length (names_in bytes)) (omega (arith, name_ends o bytes xs ys s is e, whole_names, more)))))
    (right_judged (h + 16) (number_at w64 (h + 16) bytes == 0) (eq-eqb (number_at w64 (h + 16) bytes) 0 numbers.address))
    (right_judged (h + 24) (offset_in h bytes == aligned at)
    (eq-eqb (offset_in h bytes) (aligned at) (numbers.offset ∙ ap aligned (sym ends.bodies))))
    (right_judged (h + 32) (nat_le (bytes_end h bytes) (table_in bytes))
    (le-leb (bytes_end h bytes) (table_in bytes) (omega (arith, numbers.offset, numbers.size, numbers.within))))
    (right_judged (h + 48) (is_alignment alignment) (ap is_alignment numbers.alignment ∙ is_aligned))
    (subst (λ n. zeros n bytes ≡ None) (sym ends.bodies) (right_zeros (bytes_to xs) bytes (s.bytes ++ body.0) body.1))
  where
    plus : (n : ℕ) → suc n ≡ 1 + n
    plus n = omega arith

-- the section of the names
last_stands : (o : Object) (bytes : List ℕ) → IsObject o bytes → last_fault_after bytes (length o.sections) ≡ None
unfolding names_fault type_fault link_fault start_fault own_fault is_names_size section_header
last_stands o bytes is =
    let us : List Section = o.sections in
    let own : Section = section_names us in
    let h : ℕ = header_after bytes (length us) in
    let sized = all_of Sized us own [] (is_sized o bytes is) in
    let numbers = numbers_are o bytes us [] own is refl sized in
    let ends = ends_are o bytes (length us) us (own ∷ []) is refl refl in
    let body = body_stands o bytes us [] own is refl in
    let header = header_stands o bytes us [] own is refl in
    let table = table_is o bytes is in
    let name : name_in h bytes ≡ names_end bytes (length us) = numbers.name ∙ sym ends.names in
    let own_bytes : own.bytes ≡ (0 ∷ flat_map text (names_of us)) ++ text (codes ".shstrtab") = ap (λ ys. 0 ∷ ys) (own_names us) in
    let long : length own.bytes ≡ names_to us + 10 =
    ap length own_bytes ∙ length-append (0 ∷ flat_map text (names_of us)) (text (codes ".shstrtab")) ∙ plus (length (flat_map text (names_of us))) in
    let end : bytes_end h bytes ≡ 64 + length (contents 64 (all_sections o)) = bytes_end_is o bytes us [] own is refl in
    let whole_table : aligned (bytes_end h bytes) ≡ table_in bytes = ap aligned end ∙ sym table in
    let from : drop (offset_in h bytes) bytes ≡ own.bytes ++ body.0 =
    ap (λ n. drop n bytes) numbers.offset ∙ body_at (bytes_to us) bytes (own.bytes ++ body.0) body.1 in
    let strings : List ℕ = flat_map text (names_of us) in
    let split : drop (offset_in h bytes) bytes ≡ (0 ∷ strings) ++ (text (codes ".shstrtab") ++ body.0) =
    from ∙ ap (λ ys. ys ++ body.0) own_bytes ∙ append_assoc (0 ∷ strings) (text (codes ".shstrtab")) body.0 in
    let string : drop (offset_in h bytes + names_end bytes (length us)) bytes ≡ text (codes ".shstrtab") ++ body.0 =
    sym (drop-drop (names_end bytes (length us)) (offset_in h bytes) bytes) ∙ ap (drop (names_end bytes (length us))) split
    ∙ drop_at (0 ∷ strings) (text (codes ".shstrtab") ++ body.0) (names_end bytes (length us)) (one (length strings) ∙ sym ends.names) in
    let name_at : ℕ = names_end bytes (length us) in
    let at : ℕ = sections_end bytes (length us) in
    let place : ℕ = offset_in h bytes in
    let type_bytes : List ℕ = to_le_bytes w32 3 ++ replicate 16 0 in
    let link_bytes : List ℕ = replicate 8 0 ++ to_le_bytes w64 1 ++ replicate 8 0 in
    let named : Bool = name_in h bytes == name_at in
    let offset : Bool = place == aligned at in
    let sized_right : Bool = size_in h bytes == name_in h bytes + 10 in
    let small : Bool = nat_lt (size_in h bytes) (2 ^ 32) in
    let ended : Bool = aligned (bytes_end h bytes) == table_in bytes in
    right9 (judged h named) (constants (h + 4) (4 ∷ 8 ∷ 8 ∷ []) type_bytes (drop (h + 4) bytes)) (judged (h + 24) offset)
    (judged (h + 32) (sized_right && (small && ended))) (constants (h + 40) (4 ∷ 4 ∷ 8 ∷ 8 ∷ []) link_bytes (drop (h + 40) bytes)) (zeros at bytes)
    (constants place (1 ∷ []) (0 ∷ []) (drop place bytes))
    (constants (place + name_at) (replicate 10 1) (text (codes ".shstrtab")) (drop (place + name_at) bytes)) (zeros (bytes_end h bytes) bytes)
    (right_judged h named (eq-eqb (name_in h bytes) name_at name))
    (right_constants (h + 4) (4 ∷ 8 ∷ 8 ∷ []) type_bytes (drop (h + 4) bytes)
    (drop 24 (section_header (names_to us) (aligned (bytes_to us)) own) ++ header.0) refl (sym (drop-drop 4 h bytes) ∙ ap (drop 4) header.1))
    (right_judged (h + 24) offset (eq-eqb place (aligned at) (numbers.offset ∙ ap aligned (sym ends.bodies))))
    (right_judged (h + 32) (sized_right && (small && ended)) (right_both sized_right (small && ended)
    (eq-eqb (size_in h bytes) (name_in h bytes + 10) (numbers.size ∙ long ∙ ap (λ n. n + 10) (sym numbers.name)))
    (right_both small ended (lt-ltb (size_in h bytes) (2 ^ 32) (omega (arith, numbers.size, is.names)))
    (eq-eqb (aligned (bytes_end h bytes)) (table_in bytes) whole_table))))
    (right_constants (h + 40) (4 ∷ 4 ∷ 8 ∷ 8 ∷ []) link_bytes (drop (h + 40) bytes) header.0 refl (sym (drop-drop 40 h bytes) ∙ ap (drop 40) header.1))
    (subst (λ n. zeros n bytes ≡ None) (sym ends.bodies) (right_zeros (bytes_to us) bytes (own.bytes ++ body.0) body.1))
    (right_constants place (1 ∷ []) (0 ∷ []) (drop place bytes) (strings ++ (text (codes ".shstrtab") ++ body.0)) refl split)
    (right_constants (place + name_at) (replicate 10 1) (text (codes ".shstrtab")) (drop (place + name_at) bytes) body.0 refl string)
    (subst (λ n. zeros n bytes ≡ None) (sym end)
    (right_zeros (64 + length (contents 64 (all_sections o))) bytes (table_bytes o) (from_end o bytes is)))
  where
    plus : (n : ℕ) → suc n + 10 ≡ 1 + n + 10
    plus n = omega arith

    one : (n : ℕ) → suc n ≡ 1 + n
    one n = omega arith

-- ---- the file

pub object_right : (o : Object) (bytes : List ℕ) → IsObject o bytes → IsRight bytes
object_right o bytes is =
    let count : count_in bytes - 2 ≡ length o.sections = counted (count_in bytes) (length (all_sections o)) (length o.sections) (count_is o bytes is)
    (length-all o) in
    record {
      before = record {
        file = file_stands o bytes is;
        null = null_stands o bytes is;
        sections = λ k lt.
            let split = split_at (all_sections o) k (omega (arith, lt, count, length-all o)) in
            ap (fault_after bytes) (sym split.long) ∙ section_stands o bytes split.xs split.ys split.s is split.is;
      };
      names = ap (last_fault_after bytes) count ∙ last_stands o bytes is;
    }
  where
    counted : (count all n : ℕ) → count ≡ all + 1 → all ≡ n + 1 → count - 2 ≡ n
    counted count all n e f = omega (arith, e, f)

pub some_none : (at : ℕ) (fault : Option ℕ) → fault ≡ Some at → fault ≡ None → ⊥
some_none at fault e f = let same : Some at ≡ None = sym e ∙ f in absurd cc

-- a wrong field is none of an object's file
pub apart : (o : Object) (bytes : List ℕ) (at : ℕ) → IsObject o bytes → FirstFault bytes at → ⊥
apart o bytes at is (InFileHeader e) = some_none at (file_fault bytes) e (file_stands o bytes is)
apart o bytes at is (InNullHeader before e) = some_none at (null_fault bytes) e (null_stands o bytes is)
apart o bytes at is (InSection index before lt e) =
    let right = object_right o bytes is in some_none at (fault_after bytes index) e (right.before.sections index (omega (arith, lt)))
apart o bytes at is (InNames before e) =
    let right = object_right o bytes is in some_none at (last_fault_after bytes (count_in bytes - 2)) e right.names
