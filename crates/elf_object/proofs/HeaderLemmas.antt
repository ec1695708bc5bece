-- The headers, one after the other: how long they are, and the fields in them.
use Rattle.std.proofs.Common.{◌≡◌, ℕ, suc, ◌+◌, ◌-◌, ◌*◌, ◌^◌, ◌≤◌, ◌<◌, List, [], ◌∷◌, ◌++◌, length, drop, get_or, arith, ap, sym, ◌∙◌, refl, length-append, append_assoc}
use Rattle.std.specs.Int.{w16, w32, w64, to_le_bytes}
use Rattle.std.proofs.lemmas.List.{append-nil}
use Rattle.std.proofs.lemmas.Nat.{from_le_bytes-to_le_bytes_2, from_le_bytes-to_le_bytes_4, from_le_bytes-to_le_bytes_8}
use Rattle.elf_object.specs.declared.object.Section.{Section}
use Rattle.elf_object.specs.Spelling.{aligned, text, section_header, headers, file_header}
use Rattle.elf_object.specs.Sections.{number_at}
use Rattle.elf_object.specs.Grammar.{FitsHeader}
use Rattle.elf_object.proofs.ContentLemmas.{next_is, all_dropped, length-text}

pub length-file_header : (flags table count : ℕ) → length (file_header flags table count) ≡ 64
unfolding file_header
length-file_header flags table count = refl

pub length-section_header : (name_at offset : ℕ) (s : Section) → length (section_header name_at offset s) ≡ 64
unfolding section_header
length-section_header name_at offset s = refl

pub length-headers : (name_at at : ℕ) (ss : List Section) → length (headers name_at at ss) ≡ 64 * length ss
length-headers name_at at [] = refl
length-headers name_at at (s ∷ rest) =
    let after : List ℕ = headers (name_at + length (text s.name)) (aligned at + length s.bytes) rest in
    let here : length (section_header name_at (aligned at) s) ≡ 64 = length-section_header name_at (aligned at) s in
    let whole = length-append (section_header name_at (aligned at) s) after in
    let later : length after ≡ 64 * length rest = length-headers (name_at + length (text s.name)) (aligned at + length s.bytes) rest in
    whole ∙ ap (λ n. n + length after) here ∙ ap (λ n. 64 + n) later ∙ counted (length rest)
  where
    counted : (n : ℕ) → 64 + 64 * n ≡ 64 * suc n
    counted n = omega arith

-- a section's header is written, and then those of the rest
pub headers_more : (out new whole : List ℕ) (name_at at name_next next : ℕ) (ss more : List Section) (i : ℕ) (s : Section)
    → i < length ss → s ≡ get_or ss i s → name_next ≡ name_at + (length s.name + 1) → next ≡ aligned at + length s.bytes
    → new ≡ out ++ section_header name_at (aligned at) s → out ++ headers name_at at (drop i ss ++ more) ≡ whole
    → new ++ headers name_next next (drop (i + 1) ss ++ more) ≡ whole
headers_more out new whole name_at at name_next next ss more i s inside at_is name_is next_at is so_far =
    let rest : List Section = drop (i + 1) ss ++ more in
    let name : name_next ≡ name_at + length (text s.name) = name_is ∙ ap (λ n. name_at + n) (sym (length-text s.name)) in
    let after : List ℕ = headers (name_at + length (text s.name)) (aligned at + length s.bytes) rest in
    ap (λ n. new ++ headers n next rest) name ∙ ap (λ n. new ++ headers (name_at + length (text s.name)) n rest) next_at
    ∙ ap (λ ys. ys ++ after) is ∙ append_assoc out (section_header name_at (aligned at) s) after
    ∙ ap (λ ys. out ++ headers name_at at (ys ++ more)) (sym (next_is ss i s inside at_is)) ∙ so_far

pub headers_all : (out new whole : List ℕ) (name_at at : ℕ) (ss : List Section) (i : ℕ) (last : Section) → length ss ≤ i
    → new ≡ out ++ section_header name_at (aligned at) last → out ++ headers name_at at (drop i ss ++ last ∷ []) ≡ whole → new ≡ whole
headers_all out new whole name_at at ss i last end is so_far =
    is ∙ ap (λ ys. out ++ ys) (sym (append-nil (section_header name_at (aligned at) last)))
    ∙ ap (λ ys. out ++ headers name_at at (ys ++ last ∷ [])) (sym (all_dropped ss i end)) ∙ so_far

-- ---- as they are written

-- 10 parts, one after the other
pub joined10 : (o o1 o2 o3 o4 o5 o6 o7 o8 o9 o10 a b c d e f g h i j : List ℕ)
    → o1 ≡ o ++ a → o2 ≡ o1 ++ b → o3 ≡ o2 ++ c → o4 ≡ o3 ++ d → o5 ≡ o4 ++ e → o6 ≡ o5 ++ f → o7 ≡ o6 ++ g → o8 ≡ o7 ++ h → o9 ≡ o8 ++ i → o10 ≡ o9
    ++ j
    → o10 ≡ o ++ (((((((((a ++ b) ++ c) ++ d) ++ e) ++ f) ++ g) ++ h) ++ i) ++ j)
joined10 o o1 o2 o3 o4 o5 o6 o7 o8 o9 o10 a b c d e f g h i j e1 e2 e3 e4 e5 e6 e7 e8 e9 e10 =
    e10 ∙ ap (λ y. y ++ j) (e9 ∙ ap (λ y. y ++ i) (e8 ∙ ap (λ y. y ++ h) (e7 ∙ ap (λ y. y ++ g) (e6 ∙ ap (λ y. y ++ f) (e5 ∙ ap (λ y. y ++ e) (e4 ∙
    ap (λ y. y ++ d) (e3 ∙ ap (λ y. y ++ c) (e2 ∙ ap (λ y. y ++ b) (e1))))))))) ∙ nested o a b c d e f g h i j
  where
    nested : (o a b c d e f g h i j : List ℕ)
        → ((((((((((o ++ a) ++ b) ++ c) ++ d) ++ e) ++ f) ++ g) ++ h) ++ i) ++ j) ≡ o ++ (((((((((a ++ b) ++ c) ++ d) ++ e) ++ f) ++ g) ++ h) ++ i)
        ++ j)
    nested o a b c d e f g h i j = simp append_assoc

-- 15 parts, one after the other
pub joined15 : (o o1 o2 o3 o4 o5 o6 o7 o8 o9 o10 o11 o12 o13 o14 o15 a b c d e f g h i j k l m n p : List ℕ)
    → o1 ≡ o ++ a → o2 ≡ o1 ++ b → o3 ≡ o2 ++ c → o4 ≡ o3 ++ d → o5 ≡ o4 ++ e → o6 ≡ o5 ++ f → o7 ≡ o6 ++ g → o8 ≡ o7 ++ h → o9 ≡ o8 ++ i → o10 ≡ o9
    ++ j → o11 ≡ o10 ++ k → o12 ≡ o11 ++ l → o13 ≡ o12 ++ m → o14 ≡ o13 ++ n → o15 ≡ o14 ++ p
    → o15 ≡ o ++ ((((((((((((((a ++ b) ++ c) ++ d) ++ e) ++ f) ++ g) ++ h) ++ i) ++ j) ++ k) ++ l) ++ m) ++ n) ++ p)
joined15 o o1 o2 o3 o4 o5 o6 o7 o8 o9 o10 o11 o12 o13 o14 o15 a b c d e f g h i j k l m n p e1 e2 e3 e4 e5 e6 e7 e8 e9 e10 e11 e12 e13 e14 e15 =
    e15 ∙ ap (λ y. y ++ p) (e14 ∙ ap (λ y. y ++ n) (e13 ∙ ap (λ y. y ++ m) (e12 ∙ ap (λ y. y ++ l) (e11 ∙ ap (λ y. y ++ k) (e10 ∙ ap (λ y. y ++ j)
    (e9 ∙ ap (λ y. y ++ i) (e8 ∙ ap (λ y. y ++ h) (e7 ∙ ap (λ y. y ++ g) (e6 ∙ ap (λ y. y ++ f) (e5 ∙ ap (λ y. y ++ e) (e4 ∙ ap (λ y. y ++ d) (e3 ∙
    ap (λ y. y ++ c) (e2 ∙ ap (λ y. y ++ b) (e1)))))))))))))) ∙ nested o a b c d e f g h i j k l m n p
  where
    nested : (o a b c d e f g h i j k l m n p : List ℕ)
        → (((((((((((((((o ++ a) ++ b) ++ c) ++ d) ++ e) ++ f) ++ g) ++ h) ++ i) ++ j) ++ k) ++ l) ++ m) ++ n) ++ p) ≡ o ++ ((((((((((((((a ++ b) ++
        c) ++ d) ++ e) ++ f) ++ g) ++ h) ++ i) ++ j) ++ k) ++ l) ++ m) ++ n) ++ p)
    nested o a b c d e f g h i j k l m n p = simp append_assoc

pub section_header_is : (name_at offset : ℕ) (s : Section)
    → to_le_bytes w32 name_at ++ to_le_bytes w32 s.section_type ++ to_le_bytes w64 s.flags ++ to_le_bytes w64 0
    ++ to_le_bytes w64 offset ++ to_le_bytes w64 (length s.bytes) ++ to_le_bytes w32 s.link ++ to_le_bytes w32 s.info
    ++ to_le_bytes w64 s.alignment ++ to_le_bytes w64 s.entry_size
    ≡ section_header name_at offset s
unfolding section_header
section_header_is name_at offset s = refl

pub file_header_is : (flags table count : ℕ)
    → (0x7f ∷ 0x45 ∷ 0x4c ∷ 0x46 ∷ []) ++ (2 ∷ 1 ∷ 1 ∷ 0 ∷ 0 ∷ 0 ∷ 0 ∷ 0 ∷ 0 ∷ 0 ∷ 0 ∷ 0 ∷ [])
    ++ to_le_bytes w16 1 ++ to_le_bytes w16 243 ++ to_le_bytes w32 1
    ++ to_le_bytes w64 0 ++ to_le_bytes w64 0 ++ to_le_bytes w64 table
    ++ to_le_bytes w32 flags ++ to_le_bytes w16 64 ++ to_le_bytes w16 0 ++ to_le_bytes w16 0
    ++ to_le_bytes w16 64 ++ to_le_bytes w16 count ++ to_le_bytes w16 (count - 1)
    ≡ file_header flags table count
unfolding file_header
file_header_is flags table count = refl

pub section_header_written : (name_at offset : ℕ) (s : Section) (o o1 o2 o3 o4 o5 o6 o7 o8 o9 o10 p1 p2 p3 p4 p5 p6 p7 p8 p9 p10 : List ℕ)
    → o1 ≡ o ++ p1 → o2 ≡ o1 ++ p2 → o3 ≡ o2 ++ p3 → o4 ≡ o3 ++ p4 → o5 ≡ o4 ++ p5 → o6 ≡ o5 ++ p6 → o7 ≡ o6 ++ p7 → o8 ≡ o7 ++ p8 → o9 ≡ o8 ++ p9 →
    o10 ≡ o9 ++ p10
    → p1 ≡ to_le_bytes w32 name_at → p2 ≡ to_le_bytes w32 s.section_type → p3 ≡ to_le_bytes w64 s.flags → p4 ≡ to_le_bytes w64 0 → p5 ≡ to_le_bytes
    w64 offset → p6 ≡ to_le_bytes w64 (length s.bytes) → p7 ≡ to_le_bytes w32 s.link → p8 ≡ to_le_bytes w32 s.info → p9 ≡ to_le_bytes w64 s.alignment
    → p10 ≡ to_le_bytes w64 s.entry_size
    → o10 ≡ o ++ section_header name_at offset s
section_header_written name_at offset s o o1 o2 o3 o4 o5 o6 o7 o8 o9 o10 p1 p2 p3 p4 p5 p6 p7 p8 p9 p10 e1 e2 e3 e4 e5 e6 e7 e8 e9 e10 q1 q2 q3 q4 q5
    q6 q7 q8 q9 q10 =
    joined10 o o1 o2 o3 o4 o5 o6 o7 o8 o9 o10 (to_le_bytes w32 name_at) (to_le_bytes w32 s.section_type) (to_le_bytes w64 s.flags) (to_le_bytes w64
    0) (to_le_bytes w64 offset) (to_le_bytes w64 (length s.bytes)) (to_le_bytes w32 s.link) (to_le_bytes w32 s.info) (to_le_bytes w64 s.alignment)
    (to_le_bytes w64 s.entry_size) (e1 ∙ ap (λ y. o ++ y) q1) (e2 ∙ ap (λ y. o1 ++ y) q2) (e3 ∙ ap (λ y. o2 ++ y) q3) (e4 ∙ ap (λ y. o3 ++ y) q4) (e5
    ∙ ap (λ y. o4 ++ y) q5) (e6 ∙ ap (λ y. o5 ++ y) q6) (e7 ∙ ap (λ y. o6 ++ y) q7) (e8 ∙ ap (λ y. o7 ++ y) q8) (e9 ∙ ap (λ y. o8 ++ y) q9) (e10 ∙ ap
    (λ y. o9 ++ y) q10) ∙ ap (λ y. o ++ y) (section_header_is name_at offset s)

pub file_header_written : (flags table count : ℕ) (o o1 o2 o3 o4 o5 o6 o7 o8 o9 o10 o11 o12 o13 o14 o15 p1 p2 p3 p4 p5 p6 p7 p8 p9 p10 p11 p12 p13 p14 p15 : List ℕ)
    → o1 ≡ o ++ p1 → o2 ≡ o1 ++ p2 → o3 ≡ o2 ++ p3 → o4 ≡ o3 ++ p4 → o5 ≡ o4 ++ p5 → o6 ≡ o5 ++ p6 → o7 ≡ o6 ++ p7 → o8 ≡ o7 ++ p8 → o9 ≡ o8 ++ p9 →
    o10 ≡ o9 ++ p10 → o11 ≡ o10 ++ p11 → o12 ≡ o11 ++ p12 → o13 ≡ o12 ++ p13 → o14 ≡ o13 ++ p14 → o15 ≡ o14 ++ p15
    → p1 ≡ 0x7f ∷ 0x45 ∷ 0x4c ∷ 0x46 ∷ [] → p2 ≡ 2 ∷ 1 ∷ 1 ∷ 0 ∷ 0 ∷ 0 ∷ 0 ∷ 0 ∷ 0 ∷ 0 ∷ 0 ∷ 0 ∷ [] → p3 ≡ to_le_bytes w16 1 → p4 ≡ to_le_bytes w16
    243 → p5 ≡ to_le_bytes w32 1 → p6 ≡ to_le_bytes w64 0 → p7 ≡ to_le_bytes w64 0 → p8 ≡ to_le_bytes w64 table → p9 ≡ to_le_bytes w32 flags → p10 ≡
    to_le_bytes w16 64 → p11 ≡ to_le_bytes w16 0 → p12 ≡ to_le_bytes w16 0 → p13 ≡ to_le_bytes w16 64 → p14 ≡ to_le_bytes w16 count → p15 ≡
    to_le_bytes w16 (count - 1)
    → o15 ≡ o ++ file_header flags table count
file_header_written flags table count o o1 o2 o3 o4 o5 o6 o7 o8 o9 o10 o11 o12 o13 o14 o15 p1 p2 p3 p4 p5 p6 p7 p8 p9 p10 p11 p12 p13 p14 p15 e1 e2
    e3 e4 e5 e6 e7 e8 e9 e10 e11 e12 e13 e14 e15 q1 q2 q3 q4 q5 q6 q7 q8 q9 q10 q11 q12 q13 q14 q15 =
    joined15 o o1 o2 o3 o4 o5 o6 o7 o8 o9 o10 o11 o12 o13 o14 o15 (0x7f ∷ 0x45 ∷ 0x4c ∷ 0x46 ∷ []) (2 ∷ 1 ∷ 1 ∷ 0 ∷ 0 ∷ 0 ∷ 0 ∷ 0 ∷ 0 ∷ 0 ∷ 0 ∷ 0 ∷
    []) (to_le_bytes w16 1) (to_le_bytes w16 243) (to_le_bytes w32 1) (to_le_bytes w64 0) (to_le_bytes w64 0) (to_le_bytes w64 table) (to_le_bytes
    w32 flags) (to_le_bytes w16 64) (to_le_bytes w16 0) (to_le_bytes w16 0) (to_le_bytes w16 64) (to_le_bytes w16 count) (to_le_bytes w16 (count -
    1)) (e1 ∙ ap (λ y. o ++ y) q1) (e2 ∙ ap (λ y. o1 ++ y) q2) (e3 ∙ ap (λ y. o2 ++ y) q3) (e4 ∙ ap (λ y. o3 ++ y) q4) (e5 ∙ ap (λ y. o4 ++ y) q5)
    (e6 ∙ ap (λ y. o5 ++ y) q6) (e7 ∙ ap (λ y. o6 ++ y) q7) (e8 ∙ ap (λ y. o7 ++ y) q8) (e9 ∙ ap (λ y. o8 ++ y) q9) (e10 ∙ ap (λ y. o9 ++ y) q10)
    (e11 ∙ ap (λ y. o10 ++ y) q11) (e12 ∙ ap (λ y. o11 ++ y) q12) (e13 ∙ ap (λ y. o12 ++ y) q13) (e14 ∙ ap (λ y. o13 ++ y) q14) (e15 ∙ ap (λ y. o14
    ++ y) q15) ∙ ap (λ y. o ++ y) (file_header_is flags table count)

-- ---- the fields

-- the number at an offset, in the words of the gABI ("Data Representation")
abbrev pub half_at : ℕ → List ℕ → ℕ
half_at at bytes = number_at w16 at bytes

abbrev pub word_at : ℕ → List ℕ → ℕ
word_at at bytes = number_at w32 at bytes

abbrev pub xword_at : ℕ → List ℕ → ℕ
xword_at at bytes = number_at w64 at bytes

pub shoff_in : (flags table count : ℕ) → table < 2 ^ 64 → xword_at 40 (file_header flags table count) ≡ table
unfolding file_header
shoff_in flags table count fits = from_le_bytes-to_le_bytes_8 table fits

pub flags_in : (flags table count : ℕ) → flags < 2 ^ 32 → word_at 48 (file_header flags table count) ≡ flags
unfolding file_header
flags_in flags table count fits = from_le_bytes-to_le_bytes_4 flags fits

pub shnum_in : (flags table count : ℕ) → count < 2 ^ 16 → half_at 60 (file_header flags table count) ≡ count
unfolding file_header
shnum_in flags table count fits = from_le_bytes-to_le_bytes_2 count fits

pub shentsize_in : (flags table count : ℕ) → half_at 58 (file_header flags table count) ≡ 64
unfolding file_header
shentsize_in flags table count = from_le_bytes-to_le_bytes_2 64 (omega arith)

pub shstrndx_in : (flags table count : ℕ) → count - 1 < 2 ^ 16 → half_at 62 (file_header flags table count) ≡ count - 1
unfolding file_header
shstrndx_in flags table count fits = from_le_bytes-to_le_bytes_2 (count - 1) fits

pub name_in : (name_at offset : ℕ) (s : Section) → name_at < 2 ^ 32 → word_at 0 (section_header name_at offset s) ≡ name_at
unfolding section_header
name_in name_at offset s fits = from_le_bytes-to_le_bytes_4 name_at fits

pub offset_in : (name_at offset : ℕ) (s : Section) → offset < 2 ^ 64 → xword_at 24 (section_header name_at offset s) ≡ offset
unfolding section_header
offset_in name_at offset s fits = from_le_bytes-to_le_bytes_8 offset fits

pub address_in : (name_at offset : ℕ) (s : Section) → xword_at 16 (section_header name_at offset s) ≡ 0
unfolding section_header
address_in name_at offset s = from_le_bytes-to_le_bytes_8 0 (omega arith)

-- the fields of a section's header that its record determines
pub record Fields (bytes : List ℕ) (s : Section) : Type 0 where
  pub section_type : word_at 4 bytes ≡ s.section_type
  pub flags : xword_at 8 bytes ≡ s.flags
  pub size : xword_at 32 bytes ≡ length s.bytes
  pub link : word_at 40 bytes ≡ s.link
  pub info : word_at 44 bytes ≡ s.info
  pub alignment : xword_at 48 bytes ≡ s.alignment
  pub entry_size : xword_at 56 bytes ≡ s.entry_size

pub fields_in : (name_at offset : ℕ) (s : Section) → FitsHeader s → length s.bytes < 2 ^ 64 → Fields (section_header name_at offset s) s
unfolding section_header
fields_in name_at offset s fits size = record {
  section_type = from_le_bytes-to_le_bytes_4 s.section_type fits.section_type;
  flags = from_le_bytes-to_le_bytes_8 s.flags fits.flags;
  size = from_le_bytes-to_le_bytes_8 (length s.bytes) size;
  link = from_le_bytes-to_le_bytes_4 s.link fits.link;
  info = from_le_bytes-to_le_bytes_4 s.info fits.info;
  alignment = from_le_bytes-to_le_bytes_8 s.alignment fits.alignment;
  entry_size = from_le_bytes-to_le_bytes_8 s.entry_size fits.entry_size;
}
