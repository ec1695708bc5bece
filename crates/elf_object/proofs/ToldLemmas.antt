-- A file in which no field is wrong is that of the object that its headers tell.
use Rattle.std.specs.Prelude.{◌==◌, replicate, codes, None}
use Rattle.std.specs.List.{flat_map, position_or_len, AllByRecursion}
use Rattle.std.specs.Int.{w32, w64, to_le_bytes}
use Rattle.std.proofs.Common.{◌≡◌, ℕ, zero, suc, ◌+◌, ◌-◌, ◌*◌, ◌^◌, ◌≤◌, ◌<◌, List, [], ◌∷◌, ◌++◌, length, take, drop}
use Rattle.std.proofs.Common.{arith, ap, sym, subst, ◌∙◌, refl, append_assoc, length-append}
use Rattle.std.proofs.lemmas.Bool.Decides.{nat_tests}
use Rattle.std.proofs.lemmas.List.{append-nil, length-take-le, length-drop, drop-take, drop_all, length-replicate, drop-drop, take-append-drop}
use Rattle.std.proofs.lemmas.List.Elements.{All-from_recursion}
use Rattle.elf_object.specs.declared.object.Section.{Section}
use Rattle.elf_object.specs.Spelling.{padding, aligned, text, names_of, section_names, contents, section_header, headers, file_header, spelling}
use Rattle.elf_object.specs.Grammar.{IsNamed, IsAligned, FitsHeader, IsObject}
use Rattle.elf_object.specs.Sections.{number_at}
use Rattle.elf_object.specs.FirstFault.{table_in, count_in, flags_in, right_header, name_in, name_end, offset_in, size_in, bytes_end, header_after, names_in}
use Rattle.elf_object.specs.FirstFault.{names_end, sections_end, fault_after, IsRight}
use Rattle.elf_object.specs.steps.Told.{section_told, sections_told, object_told}
use Rattle.elf_object.proofs.ContentLemmas.{length-contents}
use Rattle.elf_object.proofs.SpellingLemmas.{grouped}
use Rattle.elf_object.proofs.FaultLemmas.{IsBytes, word_stands, xword_stands, word_fits, xword_fits, FileRight, file_right, header_stands, null_right}
use Rattle.elf_object.proofs.FaultLemmas.{SectionRight, section_right, NamesRight, names_right}

-- ---- the parts of a file for sections and more sections

nothing_more : (n : ℕ) → n + 0 ≡ n
nothing_more n = omega arith

pub contents_append : (at : ℕ) (ss more : List Section)
    → contents at (ss ++ more) ≡ contents at ss ++ contents (at + length (contents at ss)) more
contents_append at [] more = ap (λ n. contents n more) (sym (nothing_more at))
contents_append at (s ∷ ss) more =
    let next : ℕ = aligned at + length s.bytes in
    let front : List ℕ = replicate (padding at) 0 ++ s.bytes in
    ap (λ ys. front ++ ys) (contents_append next ss more)
    ∙ sym (append_assoc front (contents next ss) (contents (next + length (contents next ss)) more))
    ∙ ap (λ n. (front ++ contents next ss) ++ contents n more) (sym (length-contents at s ss))

pub headers_append : (name_at at : ℕ) (ss more : List Section)
    → headers name_at at (ss ++ more)
    ≡ headers name_at at ss ++ headers (name_at + length (flat_map text (names_of ss))) (at + length (contents at ss)) more
headers_append name_at at [] more =
    ap (λ n. headers n at more) (sym (nothing_more name_at)) ∙ ap (λ n. headers (name_at + 0) n more) (sym (nothing_more at))
headers_append name_at at (s ∷ ss) more =
    let next : ℕ = aligned at + length s.bytes in
    let next_name : ℕ = name_at + length (text s.name) in
    let header : List ℕ = section_header name_at (aligned at) s in
    let names : ℕ = length (flat_map text (names_of ss)) in
    let later : next_name + names ≡ name_at + length (text s.name ++ flat_map text (names_of ss)) =
    omega (arith, length-append (text s.name) (flat_map text (names_of ss))) in
    ap (λ ys. header ++ ys) (headers_append next_name next ss more)
    ∙ sym (append_assoc header (headers next_name next ss) (headers (next_name + names) (next + length (contents next ss)) more))
    ∙ ap (λ n. (header ++ headers next_name next ss) ++ headers n (next + length (contents next ss)) more) later
    ∙ ap (λ n. (header ++ headers next_name next ss) ++ headers (name_at + length (text s.name ++ flat_map text (names_of ss))) n more)
    (sym (length-contents at s ss))

pub names_append : (ss more : List Section)
    → flat_map text (names_of (ss ++ more)) ≡ flat_map text (names_of ss) ++ flat_map text (names_of more)
names_append [] more = refl
names_append (s ∷ ss) more =
    ap (λ ys. text s.name ++ ys) (names_append ss more)
    ∙ sym (append_assoc (text s.name) (flat_map text (names_of ss)) (flat_map text (names_of more)))

pub all_last : (P : Section → Type 0) (ss : List Section) (last : Section) → AllByRecursion P ss → P last → AllByRecursion P (ss ++ last ∷ [])
all_last P [] last are is = (is, tt)
all_last P (s ∷ ss) last are is = (are.0, all_last P ss last are.1 is)

-- ---- a string

abbrev pub before_zero : List ℕ → ℕ
before_zero xs = position_or_len (λ b. b == 0) xs

pub before_suc : (b : ℕ) (xs : List ℕ) → before_zero (suc b ∷ xs) ≡ suc (before_zero xs)
before_suc b xs = grind (arith, nat_tests)

pub string_stands : (xs : List ℕ) → before_zero xs < length xs → xs ≡ text (take (before_zero xs) xs) ++ drop (before_zero xs + 1) xs
string_stands [] closed = absurd (omega arith)
string_stands (zero ∷ xs) closed = refl
string_stands (suc b ∷ xs) closed =
    let n : ℕ = before_zero xs in
    let here : before_zero (suc b ∷ xs) ≡ suc n = before_suc b xs in
    let later : xs ≡ text (take n xs) ++ drop (n + 1) xs = string_stands xs (omega (arith, here, closed)) in
    ap (λ ys. suc b ∷ ys) later
    ∙ ap (λ k. text (take (suc n) (suc b ∷ xs)) ++ drop k (suc b ∷ xs)) (plus n)
    ∙ ap (λ k. text (take k (suc b ∷ xs)) ++ drop (k + 1) (suc b ∷ xs)) (sym here)
  where
    plus : (n : ℕ) → suc (n + 1) ≡ suc n + 1
    plus n = omega arith

pub string_named : (xs : List ℕ) → AllByRecursion (λ byte. 0 < byte) (take (before_zero xs) xs)
string_named [] = tt
string_named (zero ∷ xs) = tt
string_named (suc b ∷ xs) =
    let rest : AllByRecursion (λ byte. 0 < byte) (suc b ∷ take (before_zero xs) xs) = (omega arith, string_named xs) in
    subst (λ n. AllByRecursion (λ byte. 0 < byte) (take n (suc b ∷ xs))) (sym (before_suc b xs)) rest

-- ---- the header of a section

word_to : (at next : ℕ) (bytes : List ℕ) → IsBytes bytes → next ≤ length bytes → next ≡ at + 4
    → drop at bytes ≡ to_le_bytes w32 (number_at w32 at bytes) ++ drop next bytes
word_to at next bytes are within e =
    word_stands at bytes are (omega (arith, within, e)) ∙ ap (λ k. to_le_bytes w32 (number_at w32 at bytes) ++ drop k bytes) (sym e)

xword_to : (at next : ℕ) (bytes : List ℕ) → IsBytes bytes → next ≤ length bytes → next ≡ at + 8
    → drop at bytes ≡ to_le_bytes w64 (number_at w64 at bytes) ++ drop next bytes
xword_to at next bytes are within e =
    xword_stands at bytes are (omega (arith, within, e)) ∙ ap (λ k. to_le_bytes w64 (number_at w64 at bytes) ++ drop k bytes) (sym e)

told_header : (names : List ℕ) (h name_at offset : ℕ) (bytes : List ℕ) → IsBytes bytes → h + 64 ≤ length bytes → name_in h bytes ≡ name_at
    → number_at w64 (h + 16) bytes ≡ 0 → offset_in h bytes ≡ offset → size_in h bytes ≡ length (section_told names h bytes).bytes
    → drop h bytes ≡ section_header name_at offset (section_told names h bytes) ++ drop (h + 64) bytes
unfolding section_header
told_header names h name_at offset bytes are within name address at size =
    word_to h (h + 4) bytes are (omega (arith, within)) refl ∙ ap (λ n. to_le_bytes w32 n ++ drop (h + 4) bytes) name
    ∙ ap (λ ys. to_le_bytes w32 name_at ++ ys) (word_to (h + 4) (h + 8) bytes are (omega (arith, within)) (omega arith)
    ∙ ap (λ ys. to_le_bytes w32 (number_at w32 (h + 4) bytes) ++ ys) (xword_to (h + 8) (h + 16) bytes are (omega (arith, within)) (omega arith)
    ∙ ap (λ ys. to_le_bytes w64 (number_at w64 (h + 8) bytes) ++ ys) (xword_to (h + 16) (h + 24) bytes are (omega (arith, within)) (omega arith)
    ∙ ap (λ n. to_le_bytes w64 n ++ drop (h + 24) bytes) address
    ∙ ap (λ ys. to_le_bytes w64 0 ++ ys) (xword_to (h + 24) (h + 32) bytes are (omega (arith, within)) (omega arith)
    ∙ ap (λ n. to_le_bytes w64 n ++ drop (h + 32) bytes) at
    ∙ ap (λ ys. to_le_bytes w64 offset ++ ys) (xword_to (h + 32) (h + 40) bytes are (omega (arith, within)) (omega arith)
    ∙ ap (λ n. to_le_bytes w64 n ++ drop (h + 40) bytes) size
    ∙ ap (λ ys. to_le_bytes w64 (length (section_told names h bytes).bytes) ++ ys)
    (word_to (h + 40) (h + 44) bytes are (omega (arith, within)) (omega arith)
    ∙ ap (λ ys. to_le_bytes w32 (number_at w32 (h + 40) bytes) ++ ys) (word_to (h + 44) (h + 48) bytes are (omega (arith, within)) (omega arith)
    ∙ ap (λ ys. to_le_bytes w32 (number_at w32 (h + 44) bytes) ++ ys) (xword_to (h + 48) (h + 56) bytes are (omega (arith, within)) (omega arith)
    ∙ ap (λ ys. to_le_bytes w64 (number_at w64 (h + 48) bytes) ++ ys) (xword_to (h + 56) (h + 64) bytes are (omega (arith, within)) (omega arith)
    )))))))))

names_header : (ss : List Section) (table h name_at at : ℕ) (bytes : List ℕ) → IsBytes bytes → h + 64 ≤ length bytes
    → NamesRight table h name_at at bytes → size_in h bytes ≡ length (section_names ss).bytes
    → drop h bytes ≡ section_header name_at (aligned at) (section_names ss) ++ drop (h + 64) bytes
unfolding section_header
names_header ss table h name_at at bytes are within right size =
    word_to h (h + 4) bytes are (omega (arith, within)) refl ∙ ap (λ n. to_le_bytes w32 n ++ drop (h + 4) bytes) right.name
    ∙ ap (λ ys. to_le_bytes w32 name_at ++ ys) (right.type_stands
    ∙ ap (λ ys. to_le_bytes w32 3 ++ replicate 16 0 ++ ys) (xword_to (h + 24) (h + 32) bytes are (omega (arith, within)) (omega arith)
    ∙ ap (λ n. to_le_bytes w64 n ++ drop (h + 32) bytes) right.offset
    ∙ ap (λ ys. to_le_bytes w64 (aligned at) ++ ys) (xword_to (h + 32) (h + 40) bytes are (omega (arith, within)) (omega arith)
    ∙ ap (λ n. to_le_bytes w64 n ++ drop (h + 40) bytes) size
    ∙ ap (λ ys. to_le_bytes w64 (length (section_names ss).bytes) ++ ys) right.link_stands)))

-- ---- sections, one after the other

-- the bytes tell these sections up to an index, whose names and whose bytes end at two offsets
record Told (bytes : List ℕ) (index name_at at : ℕ) (ss : List Section) : Type 0 where
  names : names_in bytes ≡ (0 ∷ flat_map text (names_of ss)) ++ drop name_at (names_in bytes)
  names_at : 1 + length (flat_map text (names_of ss)) ≡ name_at
  bodies : drop 64 bytes ≡ contents 64 ss ++ drop at bytes
  bodies_at : 64 + length (contents 64 ss) ≡ at
  heads : drop (table_in bytes + 64) bytes ≡ headers 1 64 ss ++ drop (header_after bytes index) bytes

-- and then one more, whose name and whose bytes end at the next two
record More (bytes : List ℕ) (index name_at at name_next next : ℕ) (s : Section) : Type 0 where
  name : drop name_at (names_in bytes) ≡ text s.name ++ drop name_next (names_in bytes)
  name_end : name_at + length (text s.name) ≡ name_next
  before : drop at bytes ≡ replicate (padding at) 0 ++ drop (aligned at) bytes
  body : drop (aligned at) bytes ≡ s.bytes ++ drop next bytes
  body_end : aligned at + length s.bytes ≡ next
  header : drop (header_after bytes index) bytes ≡ section_header name_at (aligned at) s ++ drop (header_after bytes (suc index)) bytes

told_more : (bytes : List ℕ) (index name_at at name_next next : ℕ) (ss : List Section) (s : Section) → Told bytes index name_at at ss
    → More bytes index name_at at name_next next s → Told bytes (suc index) name_next next (ss ++ s ∷ [])
told_more bytes index name_at at name_next next ss s is more =
    let names : List ℕ = flat_map text (names_of ss) in
    let zeros : List ℕ = replicate (padding at) 0 in
    let both : flat_map text (names_of (ss ++ s ∷ [])) ≡ names ++ text s.name =
    names_append ss (s ∷ []) ∙ ap (λ ys. names ++ ys) (append-nil (text s.name)) in
    let bodies : contents 64 (ss ++ s ∷ []) ≡ contents 64 ss ++ (zeros ++ s.bytes) =
    contents_append 64 ss (s ∷ []) ∙ ap (λ n. contents 64 ss ++ contents n (s ∷ [])) is.bodies_at
    ∙ ap (λ ys. contents 64 ss ++ ys) (append-nil (zeros ++ s.bytes)) in
    let heads : headers 1 64 (ss ++ s ∷ []) ≡ headers 1 64 ss ++ section_header name_at (aligned at) s =
    headers_append 1 64 ss (s ∷ []) ∙ ap (λ n. headers 1 64 ss ++ headers n (64 + length (contents 64 ss)) (s ∷ [])) is.names_at
    ∙ ap (λ n. headers 1 64 ss ++ headers name_at n (s ∷ [])) is.bodies_at
    ∙ ap (λ ys. headers 1 64 ss ++ ys) (append-nil (section_header name_at (aligned at) s)) in
    record {
      names =
          is.names ∙ ap (λ ys. (0 ∷ names) ++ ys) more.name
          ∙ sym (append_assoc (0 ∷ names) (text s.name) (drop name_next (names_in bytes)))
          ∙ ap (λ ys. (0 ∷ ys) ++ drop name_next (names_in bytes)) (sym both);
      names_at = omega (arith, ap length both, length-append names (text s.name), is.names_at, more.name_end);
      bodies =
          is.bodies ∙ ap (λ ys. contents 64 ss ++ ys) (more.before ∙ ap (λ ys. zeros ++ ys) more.body
          ∙ sym (append_assoc zeros s.bytes (drop next bytes)))
          ∙ sym (append_assoc (contents 64 ss) (zeros ++ s.bytes) (drop next bytes)) ∙ ap (λ ys. ys ++ drop next bytes) (sym bodies);
      bodies_at =
          ap (λ ys. 64 + length ys) bodies
          ∙ ended (length (contents 64 ss)) at (padding at) (length s.bytes) next (length (zeros ++ s.bytes))
          (length (contents 64 ss ++ (zeros ++ s.bytes))) (length-append (contents 64 ss) (zeros ++ s.bytes))
          (length-append zeros s.bytes ∙ ap (λ n. n + length s.bytes) (length-replicate {A = ℕ} (padding at) 0)) is.bodies_at more.body_end;
      heads =
          is.heads ∙ ap (λ ys. headers 1 64 ss ++ ys) more.header
          ∙ sym (append_assoc (headers 1 64 ss) (section_header name_at (aligned at) s) (drop (header_after bytes (suc index)) bytes))
          ∙ ap (λ ys. ys ++ drop (header_after bytes (suc index)) bytes) (sym heads);
    }
  where
    ended : (c at p n next front whole : ℕ) → whole ≡ c + front → front ≡ p + n → 64 + c ≡ at → at + p + n ≡ next → 64 + whole ≡ next
    ended c at p n next front whole a b d e = omega (arith, a, b, d, e)

told_none : (bytes : List ℕ) → names_in bytes ≡ 0 ∷ drop 1 (names_in bytes) → Told bytes zero 1 64 []
told_none bytes zero_first = record {
  names = zero_first;
  names_at = refl;
  bodies = refl;
  bodies_at = refl;
  heads = ap (λ n. drop n bytes) (one (table_in bytes));
}
  where
    one : (t : ℕ) → t + 64 ≡ t + 64 * suc zero
    one t = omega arith

-- ---- the sections that are told

header_within : (bytes : List ℕ) (index : ℕ) → FileRight bytes → index + 1 < count_in bytes → header_after bytes index + 64 ≤ length bytes
header_within bytes index file lt = omega (arith, file.table, lt)

header_next : (bytes : List ℕ) (index : ℕ) → header_after bytes index + 64 ≡ header_after bytes (suc index)
header_next bytes index = omega arith

abbrev section_of : (bytes : List ℕ) (index : ℕ) → Section
section_of bytes index = section_told (names_in bytes) (header_after bytes index) bytes

-- where a section is right, what its header tells is one more
section_more : (bytes : List ℕ) (index name_at at : ℕ) → IsBytes bytes → FileRight bytes → index + 2 < count_in bytes
    → SectionRight (names_in bytes) (table_in bytes) (header_after bytes index) name_at at bytes
    → More bytes index name_at at (name_end (names_in bytes) (header_after bytes index) bytes) (bytes_end (header_after bytes index) bytes)
    (section_of bytes index)
section_more bytes index name_at at are file lt right =
    let h : ℕ = header_after bytes index in
    let names : List ℕ = names_in bytes in
    let tail : List ℕ = drop (name_in h bytes) names in
    let n : ℕ = before_zero tail in
    let rest : List ℕ = drop (offset_in h bytes) bytes in
    let size : ℕ = size_in h bytes in
    let closed : n < length tail = omega (arith, right.closed, length-drop (name_in h bytes) names) in
    let long : length (take size rest) ≡ size =
    length-take-le size rest (omega (arith, length-drop (offset_in h bytes) bytes, right.within, file.table)) in
    let text_long : length (text (take n tail)) ≡ n + 1 =
    length-append (take n tail) (0 ∷ []) ∙ ap (λ k. k + 1) (length-take-le n tail (omega (arith, closed))) in
    record {
      name =
          ap (λ k. drop k names) (sym right.name) ∙ string_stands tail closed
          ∙ ap (λ ys. text (take n tail) ++ ys) (drop-drop (n + 1) (name_in h bytes) names ∙ ap (λ k. drop k names) (plus (name_in h bytes) n));
      name_end = omega (arith, text_long, right.name);
      before = right.before;
      body =
          ap (λ k. drop k bytes) (sym right.offset) ∙ sym (take-append-drop size rest)
          ∙ ap (λ ys. take size rest ++ ys) (drop-drop size (offset_in h bytes) bytes);
      body_end = omega (arith, long, right.offset);
      header =
          told_header names h name_at (aligned at) bytes are (header_within bytes index file (omega (arith, lt))) right.name right.address right.offset
          (sym long)
          ∙ ap (λ k. section_header name_at (aligned at) (section_of bytes index) ++ drop k bytes) (header_next bytes index);
    }
  where
    plus : (a n : ℕ) → a + (n + 1) ≡ a + n + 1
    plus a n = omega arith

-- the names of the sections that are told have no zero byte, and what the headers have of them fits
told_named : (bytes : List ℕ) (index : ℕ) → AllByRecursion IsNamed (sections_told bytes index)
told_named bytes zero = tt
told_named bytes (suc index) =
    all_last IsNamed (sections_told bytes index) (section_of bytes index) (told_named bytes index)
    (All-from_recursion (λ byte. 0 < byte) (section_of bytes index).name
    (string_named (drop (name_in (header_after bytes index) bytes) (names_in bytes))))

told_aligned : (bytes : List ℕ) (index : ℕ) → ((k : ℕ) → k < index → fault_after bytes k ≡ None) → AllByRecursion IsAligned (sections_told bytes index)
told_aligned bytes zero rights = tt
told_aligned bytes (suc index) rights =
    all_last IsAligned (sections_told bytes index) (section_of bytes index) (told_aligned bytes index (λ k below. rights k (omega (arith, below))))
    (section_right _ _ _ _ _ bytes (rights index (omega arith))).alignment

told_fits : (bytes : List ℕ) (index : ℕ) → IsBytes bytes → AllByRecursion FitsHeader (sections_told bytes index)
told_fits bytes zero are = tt
told_fits bytes (suc index) are =
    let h : ℕ = header_after bytes index in
    all_last FitsHeader (sections_told bytes index) (section_of bytes index) (told_fits bytes index are) (record {
      section_type = word_fits (h + 4) bytes are;
      flags = xword_fits (h + 8) bytes are;
      link = word_fits (h + 40) bytes are;
      info = word_fits (h + 44) bytes are;
      alignment = xword_fits (h + 48) bytes are;
      entry_size = xword_fits (h + 56) bytes are;
    })

told_count : (bytes : List ℕ) (index : ℕ) → length (sections_told bytes index) ≡ index
told_count bytes zero = refl
told_count bytes (suc index) =
    length-append (sections_told bytes index) (section_of bytes index ∷ []) ∙ ap (λ n. n + 1) (told_count bytes index) ∙ plus index
  where
    plus : (n : ℕ) → n + 1 ≡ suc n
    plus n = omega arith

sections_stand : (bytes : List ℕ) (index : ℕ) → IsBytes bytes → FileRight bytes → names_in bytes ≡ 0 ∷ drop 1 (names_in bytes)
    → index + 1 < count_in bytes → ((k : ℕ) → k < index → fault_after bytes k ≡ None)
    → Told bytes index (names_end bytes index) (sections_end bytes index) (sections_told bytes index)
sections_stand bytes zero are file zero_first lt rights = told_none bytes zero_first
sections_stand bytes (suc index) are file zero_first lt rights =
    told_more bytes index (names_end bytes index) (sections_end bytes index) _ _ (sections_told bytes index) (section_of bytes index)
    (sections_stand bytes index are file zero_first (omega (arith, lt)) (λ k below. rights k (omega (arith, below))))
    (section_more bytes index (names_end bytes index) (sections_end bytes index) are file (omega (arith, lt))
    (section_right _ _ _ _ _ bytes (rights index (omega arith))))

-- ---- the section of the names

pub own_names : (ss : List Section) → flat_map text (names_of ss ++ codes ".shstrtab" ∷ []) ≡ flat_map text (names_of ss) ++ text (codes ".shstrtab")
own_names [] = refl
own_names (s ∷ ss) =
    ap (λ ys. text s.name ++ ys) (own_names ss) ∙ sym (append_assoc (text s.name) (flat_map text (names_of ss)) (text (codes ".shstrtab")))

-- where the section of the names is right, it is that of the sections before it
record NamesStand (bytes : List ℕ) (h name_at : ℕ) : Type 0 where
  first : names_in bytes ≡ 0 ∷ drop 1 (names_in bytes)
  own : drop name_at (names_in bytes) ≡ text (codes ".shstrtab")
  size : size_in h bytes ≡ name_at + 10
  long : length (names_in bytes) ≡ size_in h bytes

names_stand : (bytes : List ℕ) (h name_at at : ℕ) → FileRight bytes → table_in bytes + 64 * (count_in bytes - 1) ≡ h
    → NamesRight (table_in bytes) h name_at at bytes → NamesStand bytes h name_at
names_stand bytes h name_at at file is_last right =
    let from : ℕ = offset_in h bytes in
    let rest : List ℕ = drop from bytes in
    let are : names_in bytes ≡ take (size_in h bytes) rest = ap (λ k. take (size_in k bytes) (drop (offset_in k bytes) bytes)) is_last in
    let size : size_in h bytes ≡ name_at + 10 = right.size ∙ ap (λ n. n + 10) right.name in
    let counted : names_in bytes ≡ take (name_at + 10) rest = are ∙ ap (λ n. take n rest) size in
    let some : names_in bytes ≡ 0 ∷ take (name_at + 9) (drop (from + 1) bytes) =
    counted ∙ ap (λ n. take n rest) (plus name_at) ∙ ap (take (suc (name_at + 9))) right.none in
    record {
      first = some ∙ ap (λ ys. 0 ∷ ys) (sym (ap (drop 1) some));
      own =
          ap (drop name_at) counted ∙ drop-take name_at 10 rest
          ∙ ap (take 10) (drop-drop name_at from bytes ∙ right.own);
      size = size;
      long =
          ap length are
          ∙ length-take-le (size_in h bytes) rest (omega (arith, length-drop from bytes, right.ends, file.table));
    }
  where
    plus : (n : ℕ) → n + 10 ≡ suc (n + 9)
    plus n = omega arith

names_more : (bytes : List ℕ) (index name_at at : ℕ) (ss : List Section) → IsBytes bytes → FileRight bytes → index + 2 ≡ count_in bytes
    → NamesRight (table_in bytes) (header_after bytes index) name_at at bytes → Told bytes index name_at at ss
    → NamesStand bytes (header_after bytes index) name_at
    → More bytes index name_at at (name_at + 10) (bytes_end (header_after bytes index) bytes) (section_names ss)
names_more bytes index name_at at ss are file is_last right told stand =
    let h : ℕ = header_after bytes index in
    let rest : List ℕ = drop (offset_in h bytes) bytes in
    let table : names_in bytes ≡ (section_names ss).bytes =
    told.names ∙ ap (λ ys. (0 ∷ flat_map text (names_of ss)) ++ ys) stand.own ∙ ap (λ ys. 0 ∷ ys) (sym (own_names ss)) in
    let told_bytes : names_in bytes ≡ take (size_in h bytes) rest =
    ap (λ k. take (size_in k bytes) (drop (offset_in k bytes) bytes)) (last_at (table_in bytes) index (count_in bytes) is_last) in
    let long : length (section_names ss).bytes ≡ size_in h bytes = ap length (sym table) ∙ stand.long in
    let none : drop (name_at + 10) (names_in bytes) ≡ [] =
    drop_all (name_at + 10) (names_in bytes) (omega (arith, stand.long, stand.size)) in
    record {
      name = stand.own ∙ ap (λ ys. text (codes ".shstrtab") ++ ys) (sym none);
      name_end = refl;
      before = right.before;
      body =
          ap (λ k. drop k bytes) (sym right.offset) ∙ sym (take-append-drop (size_in h bytes) rest)
          ∙ ap (λ ys. take (size_in h bytes) rest ++ ys) (drop-drop (size_in h bytes) (offset_in h bytes) bytes)
          ∙ ap (λ ys. ys ++ drop (bytes_end h bytes) bytes) (sym told_bytes ∙ table);
      body_end = omega (arith, long, right.offset);
      header =
          names_header ss (table_in bytes) h name_at at bytes are (header_within bytes index file (omega (arith, is_last))) right (sym long)
          ∙ ap (λ k. section_header name_at (aligned at) (section_names ss) ++ drop k bytes) (header_next bytes index);
    }
  where
    last_at : (t index count : ℕ) → index + 2 ≡ count → t + 64 * (count - 1) ≡ t + 64 * suc index
    last_at t index count e = omega (arith, e)

-- ---- the file

pub right_object : (bytes : List ℕ) → IsBytes bytes → length bytes < 2 ^ 64 → IsRight bytes → IsObject (object_told bytes) bytes
unfolding spelling
right_object bytes are short right =
    let file : FileRight bytes = file_right bytes right.before.file in
    let last : ℕ = count_in bytes - 2 in
    let h : ℕ = header_after bytes last in
    let ss : List Section = sections_told bytes last in
    let all : List Section = ss ++ section_names ss ∷ [] in
    let counted : last + 2 ≡ count_in bytes = omega (arith, file.few) in
    let own = names_right (table_in bytes) h (names_end bytes last) (sections_end bytes last) bytes right.names in
    let stand = names_stand bytes h (names_end bytes last) (sections_end bytes last) file (omega (arith, counted)) own in
    let before = sections_stand bytes last are file stand.first (omega (arith, counted)) right.before.sections in
    let told : Told bytes (suc last) (names_end bytes last + 10) (bytes_end h bytes) all =
    told_more bytes last _ _ _ _ ss (section_names ss) before (names_more bytes last _ _ ss are file counted own before stand) in
    let end : ℕ = bytes_end h bytes in
    let table : table_in bytes ≡ aligned (64 + length (contents 64 all)) = sym own.ends ∙ ap aligned (sym told.bodies_at) in
    let count : count_in bytes ≡ length all + 1 =
    omega (arith, counted, length-append ss (section_names ss ∷ []), told_count bytes last) in
    let none : drop (header_after bytes (suc last)) bytes ≡ [] =
    drop_all (header_after bytes (suc last)) bytes (omega (arith, file.table, counted)) in
    let gap : List ℕ = replicate (padding (64 + length (contents 64 all))) 0 in
    let behind : drop end bytes ≡ gap ++ drop (table_in bytes) bytes =
    own.behind ∙ ap (λ n. replicate (padding end) 0 ++ drop n bytes) own.ends
    ∙ ap (λ n. replicate (padding n) 0 ++ drop (table_in bytes) bytes) (sym told.bodies_at) in
    let heads : List ℕ = replicate 64 0 ++ headers 1 64 all in
    record {
      spelled =
          header_stands bytes are file
          ∙ ap (λ ys. right_header bytes ++ ys)
          (told.bodies
          ∙ ap (λ ys. contents 64 all ++ ys) (behind
          ∙ ap (λ ys. gap ++ ys) (null_right bytes right.before.null
          ∙ ap (λ ys. replicate 64 0 ++ ys) (told.heads ∙ ap (λ ys. headers 1 64 all ++ ys) none ∙ append-nil (headers 1 64 all))))
          ∙ sym (append_assoc (contents 64 all) gap heads))
          ∙ ap (λ n. file_header (flags_in bytes) n (count_in bytes) ++ ((contents 64 all ++ gap) ++ heads)) table
          ∙ ap (λ n. file_header (flags_in bytes) (aligned (64 + length (contents 64 all))) n ++ ((contents 64 all ++ gap) ++ heads)) count
          ∙ sym (grouped (flags_in bytes) all);
      named = All-from_recursion IsNamed ss (told_named bytes last);
      aligned = All-from_recursion IsAligned ss (told_aligned bytes last right.before.sections);
      fits = All-from_recursion FitsHeader ss (told_fits bytes last are);
      flags = word_fits 48 bytes are;
      count = omega (arith, told_count bytes last, counted, file.below);
      names = names_short (length (section_names ss).bytes) (length (names_in bytes)) (size_in h bytes)
          (ap length (before.names ∙ ap (λ ys. (0 ∷ flat_map text (names_of ss)) ++ ys) stand.own ∙ ap (λ ys. 0 ∷ ys) (sym (own_names ss))))
          stand.long own.small;
      size = short;
    }
  where
    names_short : (a b c : ℕ) → b ≡ a → b ≡ c → c < 2 ^ 32 → a < 2 ^ 32
    names_short a b c e d lt = omega (arith, e, d, lt)
