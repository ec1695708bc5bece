-- By the section header table each section of an object is found in its file.
use Rattle.std.specs.Prelude.{replicate, codes, slice_get, Some}
use Rattle.std.specs.List.{flat_map, AllByRecursion}
use Rattle.std.specs.Int.{Width, w16, w32, w64, byte_len, from_le_bytes}
use Rattle.std.proofs.Common.{◌≡◌, ℕ, zero, suc, ◌+◌, ◌-◌, ◌*◌, ◌^◌, ◌≤◌, ◌<◌, List, [], ◌∷◌, ◌++◌, length, take, drop, arith, ap, sym, subst, ◌∙◌, refl, length-append, append_assoc}
use Rattle.std.proofs.lemmas.List.{drop-drop, drop_at, take_at, drop-append-le, take-append-le, length-drop, length-replicate, map-append}
use Rattle.elf_object.specs.declared.object.Section.{Section}
use Rattle.elf_object.specs.declared.object.Object.{Object}
use Rattle.elf_object.specs.Spelling.{padding, aligned, text, names_of, section_names, all_sections, contents, section_header, headers, file_header, spelling}
use Rattle.elf_object.specs.Grammar.{IsObject}
use Rattle.elf_object.specs.Sections.{number_at, header_at, section_at, IsSectionAt}
use Rattle.elf_object.proofs.ContentLemmas.{length-contents}
use Rattle.elf_object.proofs.HeaderLemmas.{length-file_header, length-section_header, shoff_in, shnum_in, shentsize_in, shstrndx_in, name_in, offset_in, Fields, fields_in}
use Rattle.elf_object.proofs.SpellingLemmas.{table_of, grouped, length-body, all_below}
use Rattle.elf_object.proofs.OneReading.{Sized, is_sized, length-all, table_fits, count_fits}

-- ---- numbers at offsets

pub drop_past : (p q : List ℕ) (m n : ℕ) → length p ≡ m → drop (m + n) (p ++ q) ≡ drop n q
drop_past p q m n long = sym (drop-drop n m (p ++ q)) ∙ ap (drop n) (drop_at p q m long)

pub number_front : (w : Width) (at : ℕ) (p q : List ℕ) → at + byte_len w ≤ length p → number_at w at (p ++ q) ≡ number_at w at p
number_front w at p q within =
    ap (λ ys. from_le_bytes w (take (byte_len w) ys)) (drop-append-le at p q (omega (arith, within)))
    ∙ ap (from_le_bytes w) (take-append-le (byte_len w) (drop at p) q (omega (arith, within, length-drop at p)))

pub number_past : (w : Width) (at n : ℕ) (bytes p q : List ℕ) → drop at bytes ≡ p ++ q → n + byte_len w ≤ length p
    → number_at w (at + n) bytes ≡ number_at w n p
number_past w at n bytes p q here within =
    ap (λ ys. from_le_bytes w (take (byte_len w) ys)) (sym (drop-drop n at bytes) ∙ ap (drop n) here) ∙ number_front w n p q within

-- ---- where a section's header, its bytes and its name are

record Placed (name_at at : ℕ) (ss : List Section) (k : ℕ) (s : Section) : Type 0 where
  pub name : ℕ
  pub from : ℕ
  pub header : (later : List ℕ) × (drop (64 * k) (headers name_at at ss) ≡ section_header name (aligned from) s ++ later)
  pub bytes : (front x : List ℕ) → length front ≡ at → (later : List ℕ) × (drop (aligned from) (front ++ (contents at ss ++ x)) ≡ s.bytes ++ later)
  pub string : (front : List ℕ) → length front ≡ name_at → (later : List ℕ) × (drop name (front ++ flat_map text (names_of ss)) ≡ text s.name ++ later)
  pub within : aligned from + length s.bytes ≤ at + length (contents at ss)
  pub named : name ≤ name_at + length (flat_map text (names_of ss))

first_placed : (name_at at : ℕ) (s : Section) (ss : List Section) → Placed name_at at (s ∷ ss) zero s
first_placed name_at at s ss =
    let next : ℕ = aligned at + length s.bytes in
    let zeros : List ℕ = replicate (padding at) 0 in
    let names : List ℕ = flat_map text (names_of ss) in
    record {
      name = name_at;
      from = at;
      header = (headers (name_at + length (text s.name)) next ss, refl);
      bytes = λ front x long. (
        contents next ss ++ x,
        ap (drop (aligned at)) (regrouped front zeros s.bytes (contents next ss) x)
            ∙ drop_at (front ++ zeros) (s.bytes ++ (contents next ss ++ x)) (aligned at)
            (length-append front zeros ∙ ap (λ n. n + length zeros) long ∙ ap (λ n. at + n) (length-replicate {A = ℕ} (padding at) 0)),
      );
      string = λ front long. (names, drop_at front (text s.name ++ names) name_at long);
      within = below (aligned at) (length s.bytes) (length (contents next ss)) (at + length (contents at (s ∷ ss))) (length-contents at s ss);
      named = later name_at (length (text s.name ++ names));
    }
  where
    regrouped : (a b c d e : List ℕ) → a ++ (((b ++ c) ++ d) ++ e) ≡ (a ++ b) ++ (c ++ (d ++ e))
    regrouped a b c d e = simp append_assoc

    below : (a b c n : ℕ) → n ≡ a + b + c → a + b ≤ n
    below a b c n is = omega arith

    later : (a b : ℕ) → a ≤ a + b
    later a b = omega arith

next_placed : (name_at at : ℕ) (t : Section) (ss : List Section) (k : ℕ) (s : Section)
    → Placed (name_at + length (text t.name)) (aligned at + length t.bytes) ss k s → Placed name_at at (t ∷ ss) (suc k) s
next_placed name_at at t ss k s is =
    let next : ℕ = aligned at + length t.bytes in
    let next_name : ℕ = name_at + length (text t.name) in
    let zeros : List ℕ = replicate (padding at) 0 in
    let names : List ℕ = flat_map text (names_of ss) in
    let header : List ℕ = section_header name_at (aligned at) t in
    record {
      name = is.name;
      from = is.from;
      header = (
        is.header.0,
        ap (λ n. drop n (header ++ headers next_name next ss)) (counted k)
            ∙ drop_past header (headers next_name next ss) 64 (64 * k) (length-section_header name_at (aligned at) t)
            ∙ is.header.1,
      );
      bytes = λ front x long.
          let moved : length (front ++ (zeros ++ t.bytes)) ≡ next =
          length-append front (zeros ++ t.bytes) ∙ ap (λ n. n + length (zeros ++ t.bytes)) long
          ∙ ap (λ n. at + n) (length-append zeros t.bytes ∙ ap (λ n. n + length t.bytes) (length-replicate {A = ℕ} (padding at) 0))
          ∙ plus at (padding at) (length t.bytes) in
          let found = is.bytes (front ++ (zeros ++ t.bytes)) x moved in
          (found.0, ap (drop (aligned is.from)) (regrouped front (zeros ++ t.bytes) (contents next ss) x) ∙ found.1);
      string = λ front long.
          let found = is.string (front ++ text t.name) (length-append front (text t.name) ∙ ap (λ n. n + length (text t.name)) long) in
          (found.0, ap (drop is.name) (sym (append_assoc front (text t.name) names)) ∙ found.1);
      within = below (aligned is.from + length s.bytes) (next + length (contents next ss)) (at + length (contents at (t ∷ ss))) is.within
          (length-contents at t ss);
      named = longer is.name name_at (length (text t.name)) (length names) (length (text t.name ++ names)) is.named
          (length-append (text t.name) names);
    }
  where
    counted : (k : ℕ) → 64 * suc k ≡ 64 + 64 * k
    counted k = omega arith

    plus : (a b c : ℕ) → a + (b + c) ≡ a + b + c
    plus a b c = omega arith

    regrouped : (a b c d : List ℕ) → a ++ ((b ++ c) ++ d) ≡ (a ++ b) ++ (c ++ d)
    regrouped a b c d = simp append_assoc

    below : (a b n : ℕ) → a ≤ b → n ≡ b → a ≤ n
    below a b n within is = omega arith

    longer : (name a b c n : ℕ) → name ≤ a + b + c → n ≡ b + c → name ≤ a + n
    longer name a b c n within is = omega arith

place_of : (name_at at : ℕ) (ss : List Section) (k : ℕ) (s : Section) → slice_get ss k ≡ Some s → Placed name_at at ss k s
place_of name_at at [] k s e = absurd cc
place_of name_at at (t ∷ ss) zero s e = let same : t ≡ s = cc in subst (λ u. Placed name_at at (t ∷ ss) zero u) same (first_placed name_at at t ss)
place_of name_at at (t ∷ ss) (suc k) s e =
    next_placed name_at at t ss k s (place_of (name_at + length (text t.name)) (aligned at + length t.bytes) ss k s e)

each_at : (P : Section → Type 0) (ss : List Section) (k : ℕ) (s : Section) → AllByRecursion P ss → slice_get ss k ≡ Some s → P s
each_at P [] k s all e = absurd cc
each_at P (t ∷ ss) zero s all e = let same : t ≡ s = cc in subst P same all.0
each_at P (t ∷ ss) (suc k) s all e = each_at P ss k s all.1 e

push_get : (ss : List Section) (last : Section) (k : ℕ) (s : Section) → slice_get ss k ≡ Some s → slice_get (ss ++ last ∷ []) k ≡ Some s
push_get [] last k s e = absurd cc
push_get (t ∷ ss) last zero s e = e
push_get (t ∷ ss) last (suc k) s e = push_get ss last k s e

push_last : (ss : List Section) (last : Section) → slice_get (ss ++ last ∷ []) (length ss) ≡ Some last
push_last [] last = refl
push_last (t ∷ ss) last = push_last ss last

-- the names of all sections are those in the table of names
pub names_all : (o : Object) → names_of (all_sections o) ≡ names_of o.sections ++ codes ".shstrtab" ∷ []
names_all o = map-append (λ (s : Section). s.name) o.sections (section_names o.sections ∷ [])

pub names_long : (o : Object) → 1 + length (flat_map text (names_of (all_sections o))) ≡ length (section_names o.sections).bytes
names_long o = ap (λ ns. 1 + length (flat_map text ns)) (names_all o) ∙ plus (length (flat_map text (names_of o.sections ++ codes ".shstrtab" ∷ [])))
  where
    plus : (n : ℕ) → 1 + n ≡ suc n
    plus n = omega arith

-- ---- in the file of an object

-- what is known of a section's header, where it is in the table
record Found (bytes : List ℕ) (k : ℕ) (s : Section) (place sh_name sh_offset : ℕ) : Type 0 where
  pub at : header_at bytes (k + 1) ≡ place
  pub name : number_at w32 place bytes ≡ sh_name
  pub offset : number_at w64 (place + 24) bytes ≡ sh_offset
  pub section_type : number_at w32 (place + 4) bytes ≡ s.section_type
  pub flags : number_at w64 (place + 8) bytes ≡ s.flags
  pub size : number_at w64 (place + 32) bytes ≡ length s.bytes
  pub link : number_at w32 (place + 40) bytes ≡ s.link
  pub info : number_at w32 (place + 44) bytes ≡ s.info
  pub alignment : number_at w64 (place + 48) bytes ≡ s.alignment
  pub entry_size : number_at w64 (place + 56) bytes ≡ s.entry_size

abbrev pub head_of : Object → List ℕ
head_of o = file_header o.flags (table_of (all_sections o)) (length (all_sections o) + 1)

abbrev pub body_of : Object → List ℕ
body_of o = contents 64 (all_sections o) ++ replicate (padding (64 + length (contents 64 (all_sections o)))) 0

abbrev pub table_bytes : Object → List ℕ
table_bytes o = replicate 64 0 ++ headers 1 64 (all_sections o)

pub whole : (bytes : List ℕ) (o : Object) → IsObject o bytes → bytes ≡ head_of o ++ (body_of o ++ table_bytes o)
unfolding spelling
whole bytes o is = is.spelled ∙ grouped o.flags (all_sections o)

-- a number in the ELF header
pub in_head : (w : Width) (at : ℕ) (bytes : List ℕ) (o : Object) → IsObject o bytes → at + byte_len w ≤ 64
    → number_at w at bytes ≡ number_at w at (head_of o)
in_head w at bytes o is within =
    let long : length (head_of o) ≡ 64 = length-file_header o.flags (table_of (all_sections o)) (length (all_sections o) + 1) in
    ap (number_at w at) (whole bytes o is) ∙ number_front w at (head_of o) (body_of o ++ table_bytes o) (omega (arith, within, long))

header_place : (bytes : List ℕ) (o : Object) (index : ℕ) → IsObject o bytes → header_at bytes index ≡ table_of (all_sections o) + 64 * index
header_place bytes o index is =
    let shoff : number_at w64 40 bytes ≡ table_of (all_sections o) =
    in_head w64 40 bytes o is (omega arith)
    ∙ shoff_in o.flags (table_of (all_sections o)) (length (all_sections o) + 1) (table_fits o bytes is) in
    let size : number_at w16 58 bytes ≡ 64 =
    in_head w16 58 bytes o is (omega arith) ∙ shentsize_in o.flags (table_of (all_sections o)) (length (all_sections o) + 1) in
    ap (λ n. n + number_at w16 58 bytes * index) shoff ∙ ap (λ n. table_of (all_sections o) + n * index) size

-- the table from a section's header on
from_header : (bytes : List ℕ) (o : Object) (k : ℕ) → IsObject o bytes
    → drop (table_of (all_sections o) + 64 * (k + 1)) bytes ≡ drop (64 * k) (headers 1 64 (all_sections o))
from_header bytes o k is =
    let ss : List Section = all_sections o in
    let front : List ℕ = (head_of o ++ body_of o) ++ replicate 64 0 in
    let long : length front ≡ table_of ss + 64 =
    length-append (head_of o ++ body_of o) (replicate 64 0)
    ∙ ap (λ n. n + length {A = ℕ} (replicate 64 0)) (length-append (head_of o) (body_of o)
    ∙ ap (λ n. n + length (body_of o)) (length-file_header o.flags (table_of ss) (length ss + 1)) ∙ length-body ss)
    ∙ ap (λ n. table_of ss + n) (length-replicate {A = ℕ} 64 0) in
    ap (λ n. drop n bytes) (counted (table_of ss) k)
    ∙ ap (drop (table_of ss + 64 + 64 * k)) (whole bytes o is ∙ regrouped (head_of o) (body_of o) (replicate 64 0) (headers 1 64 ss))
    ∙ drop_past front (headers 1 64 ss) (table_of ss + 64) (64 * k) long
  where
    counted : (table k : ℕ) → table + 64 * (k + 1) ≡ table + 64 + 64 * k
    counted table k = omega arith

    regrouped : (a b c d : List ℕ) → a ++ (b ++ (c ++ d)) ≡ ((a ++ b) ++ c) ++ d
    regrouped a b c d = simp append_assoc

found_header : (bytes : List ℕ) (o : Object) (k : ℕ) (s : Section) → IsObject o bytes → Sized s → (is_placed : Placed 1 64 (all_sections o) k s)
    → Found bytes k s (table_of (all_sections o) + 64 * (k + 1)) is_placed.name (aligned is_placed.from)
found_header bytes o k s is sized is_placed =
    let place : ℕ = table_of (all_sections o) + 64 * (k + 1) in
    let header : List ℕ = section_header is_placed.name (aligned is_placed.from) s in
    let here : drop place bytes ≡ header ++ is_placed.header.0 = from_header bytes o k is ∙ is_placed.header.1 in
    let long : length header ≡ 64 = length-section_header is_placed.name (aligned is_placed.from) s in
    let size : length (spelling o) < 2 ^ 64 = omega (arith, ap length is.spelled, is.size) in
    let fields : Fields header s = fields_in is_placed.name (aligned is_placed.from) s sized.fits sized.size in
    let offset : aligned is_placed.from < 2 ^ 64 = omega (arith, is_placed.within, all_below o, size) in
    let name : is_placed.name < 2 ^ 32 = omega (arith, is_placed.named, names_long o, is.names) in
    record {
      at = header_place bytes o (k + 1) is;
      name = ap (λ n. number_at w32 n bytes) (plus place) ∙ number_past w32 place 0 bytes header is_placed.header.0 here (omega (arith, long))
          ∙ name_in is_placed.name (aligned is_placed.from) s name;
      offset = number_past w64 place 24 bytes header is_placed.header.0 here (omega (arith, long))
          ∙ offset_in is_placed.name (aligned is_placed.from) s offset;
      section_type = number_past w32 place 4 bytes header is_placed.header.0 here (omega (arith, long)) ∙ fields.section_type;
      flags = number_past w64 place 8 bytes header is_placed.header.0 here (omega (arith, long)) ∙ fields.flags;
      size = number_past w64 place 32 bytes header is_placed.header.0 here (omega (arith, long)) ∙ fields.size;
      link = number_past w32 place 40 bytes header is_placed.header.0 here (omega (arith, long)) ∙ fields.link;
      info = number_past w32 place 44 bytes header is_placed.header.0 here (omega (arith, long)) ∙ fields.info;
      alignment = number_past w64 place 48 bytes header is_placed.header.0 here (omega (arith, long)) ∙ fields.alignment;
      entry_size = number_past w64 place 56 bytes header is_placed.header.0 here (omega (arith, long)) ∙ fields.entry_size;
    }
  where
    plus : (n : ℕ) → n ≡ n + 0
    plus n = omega arith

-- the bytes of a section are found by its header
found_bytes : (bytes : List ℕ) (o : Object) (k : ℕ) (s : Section) → IsObject o bytes → slice_get (all_sections o) k ≡ Some s
    → section_at bytes (k + 1) ≡ s.bytes
found_bytes bytes o k s is e =
    let ss : List Section = all_sections o in
    let sized : Sized s = each_at Sized ss k s (is_sized o bytes is) e in
    let is_placed : Placed 1 64 ss k s = place_of 1 64 ss k s e in
    let found = found_header bytes o k s is sized is_placed in
    let there = is_placed.bytes (head_of o) (replicate (padding (64 + length (contents 64 ss))) 0 ++ table_bytes o)
    (length-file_header o.flags (table_of ss) (length ss + 1)) in
    let bytes_are : bytes ≡ head_of o ++ (contents 64 ss ++ (replicate (padding (64 + length (contents 64 ss))) 0 ++ table_bytes o)) =
    whole bytes o is
    ∙ ap (λ ys. head_of o ++ ys) (append_assoc (contents 64 ss) (replicate (padding (64 + length (contents 64 ss))) 0) (table_bytes o)) in
    ap (λ h. take (number_at w64 (h + 32) bytes) (drop (number_at w64 (h + 24) bytes) bytes)) found.at
    ∙ ap (λ n. take n (drop (number_at w64 (table_of ss + 64 * (k + 1) + 24) bytes) bytes)) found.size
    ∙ ap (λ n. take (length s.bytes) (drop n bytes)) found.offset
    ∙ ap (take (length s.bytes)) (ap (drop (aligned is_placed.from)) bytes_are ∙ there.1)
    ∙ take_at s.bytes there.0 (length s.bytes) refl

pub found_section : (bytes : List ℕ) (o : Object) (k : ℕ) (s : Section) → IsObject o bytes → slice_get o.sections k ≡ Some s
    → IsSectionAt bytes (k + 1) s
found_section bytes o k s is e =
    let ss : List Section = all_sections o in
    let names : Section = section_names o.sections in
    let listed : slice_get ss k ≡ Some s = push_get o.sections names k s e in
    let sized : Sized s = each_at Sized ss k s (is_sized o bytes is) listed in
    let is_placed : Placed 1 64 ss k s = place_of 1 64 ss k s listed in
    let found = found_header bytes o k s is sized is_placed in
    let last : slice_get ss (length o.sections) ≡ Some names = push_last o.sections names in
    let index : number_at w16 62 bytes ≡ length o.sections + 1 =
    in_head w16 62 bytes o is (omega arith)
    ∙ shstrndx_in o.flags (table_of ss) (length ss + 1) (omega (arith, count_fits o bytes is))
    ∙ less (length ss) ∙ length-all o in
    let strings : section_at bytes (number_at w16 62 bytes) ≡ (section_names o.sections).bytes =
    ap (section_at bytes) index ∙ found_bytes bytes o (length o.sections) names is last in
    let string = is_placed.string (0 ∷ []) refl in
    record {
      section_type = ap (λ h. number_at w32 (h + 4) bytes) found.at ∙ found.section_type;
      flags = ap (λ h. number_at w64 (h + 8) bytes) found.at ∙ found.flags;
      link = ap (λ h. number_at w32 (h + 40) bytes) found.at ∙ found.link;
      info = ap (λ h. number_at w32 (h + 44) bytes) found.at ∙ found.info;
      alignment = ap (λ h. number_at w64 (h + 48) bytes) found.at ∙ found.alignment;
      entry_size = ap (λ h. number_at w64 (h + 56) bytes) found.at ∙ found.entry_size;
      bytes = found_bytes bytes o k s is listed;
      after = string.0;
      name =
          ap (λ h. drop (number_at w32 h bytes) (section_at bytes (number_at w16 62 bytes))) found.at
          ∙ ap (λ n. drop n (section_at bytes (number_at w16 62 bytes))) found.name
          ∙ ap (drop is_placed.name) (strings ∙ ap (λ ns. 0 ∷ flat_map text ns) (sym (names_all o)))
          ∙ string.1;
    }
  where
    less : (n : ℕ) → n + 1 - 1 ≡ n
    less n = omega arith

-- how many sections there are is in the ELF header
pub found_count : (bytes : List ℕ) (o : Object) → IsObject o bytes → number_at w16 60 bytes ≡ length o.sections + 2
found_count bytes o is =
    in_head w16 60 bytes o is (omega arith)
    ∙ shnum_in o.flags (table_of (all_sections o)) (length (all_sections o) + 1) (count_fits o bytes is)
    ∙ ap (λ n. n + 1) (length-all o) ∙ plus (length o.sections)
  where
    plus : (n : ℕ) → n + 1 + 1 ≡ n + 2
    plus n = omega arith
