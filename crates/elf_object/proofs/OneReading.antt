-- Bytes are at most one object.
use Rattle.std.specs.Prelude.{replicate, map, codes}
use Rattle.std.specs.List.{flat_map, AllByRecursion}
use Rattle.std.proofs.Common.{◌≡◌, ℕ, ◌+◌, ◌^◌, ◌<◌, List, [], ◌∷◌, ◌++◌, length, get_or, drop, arith, ap, sym, subst, ◌∙◌, refl, length-append, append_assoc}
use Rattle.std.proofs.lemmas.List.{append_cancel_left, map-append, length-map}
use Rattle.std.proofs.lemmas.List.Elements.{recursion_from_All}
use Rattle.elf_object.specs.declared.object.Section.{Section}
use Rattle.elf_object.specs.declared.object.Object.{Object}
use Rattle.elf_object.specs.Spelling.{padding, aligned, text, names_of, section_names, all_sections, contents, section_header, headers, file_header, spelling}
use Rattle.elf_object.specs.Grammar.{IsNamed, FitsHeader, IsObject}
use Rattle.elf_object.proofs.ContentLemmas.{length-contents}
use Rattle.elf_object.proofs.HeaderLemmas.{length-file_header, length-section_header, half_at, word_at, xword_at, shoff_in, flags_in, shnum_in, Fields, fields_in}
use Rattle.elf_object.proofs.SpellingLemmas.{table_of, grouped, length-body, length-spelling, all_below}

heads_one : (m n : ℕ) (x y : List ℕ) → m ∷ x ≡ n ∷ y → m ≡ n
heads_one m n x y e = cc

pub tails_one : (m n : ℕ) (x y : List ℕ) → m ∷ x ≡ n ∷ y → x ≡ y
tails_one m n x y e = cc

-- the two parts of a list, cut at one length
pub cut : {X : Type 0} (a b x y : List X) → length a ≡ length b → a ++ x ≡ b ++ y → (a ≡ b) × (x ≡ y)
cut [] [] x y same e = (refl, e)
cut [] (n ∷ b) x y same e = absurd (omega arith)
cut (m ∷ a) [] x y same e = absurd (omega arith)
cut (m ∷ a) (n ∷ b) x y same e =
    let rest : a ++ x ≡ b ++ y = cc in
    let found = cut a b x y (omega arith) rest in
    (let heads : m ≡ n = cc in let tails = found.0 in cc, found.1)

-- ---- what headers and bytes determine: all but the name

abbrev unnamed : Section → Section
unnamed s = record {
  name = [];
  section_type = s.section_type;
  flags = s.flags;
  link = s.link;
  info = s.info;
  alignment = s.alignment;
  entry_size = s.entry_size;
  bytes = s.bytes;
}

same_unnamed : (s t : Section) (x y : List ℕ) → x ≡ y → Fields x s → Fields y t → s.bytes ≡ t.bytes → unnamed s ≡ unnamed t
same_unnamed s t x y e fs ft bytes =
    let section_type : s.section_type ≡ t.section_type = sym fs.section_type ∙ ap (word_at 4) e ∙ ft.section_type in
    let flags : s.flags ≡ t.flags = sym fs.flags ∙ ap (xword_at 8) e ∙ ft.flags in
    let link : s.link ≡ t.link = sym fs.link ∙ ap (word_at 40) e ∙ ft.link in
    let info : s.info ≡ t.info = sym fs.info ∙ ap (word_at 44) e ∙ ft.info in
    let alignment : s.alignment ≡ t.alignment = sym fs.alignment ∙ ap (xword_at 48) e ∙ ft.alignment in
    let entry_size : s.entry_size ≡ t.entry_size = sym fs.entry_size ∙ ap (xword_at 56) e ∙ ft.entry_size in
    λ i. record {
      name = [];
      section_type = section_type i;
      flags = flags i;
      link = link i;
      info = info i;
      alignment = alignment i;
      entry_size = entry_size i;
      bytes = bytes i;
    }

-- what a header has of a section fits
pub record Sized (s : Section) : Type 0 where
  pub fits : FitsHeader s
  pub size : length s.bytes < 2 ^ 64

sections_alike : (n m at : ℕ) (us vs : List Section) (x y : List ℕ) → length us ≡ length vs → AllByRecursion Sized us → AllByRecursion Sized vs
    → headers n at us ≡ headers m at vs → contents at us ++ x ≡ contents at vs ++ y → map unnamed us ≡ map unnamed vs
sections_alike n m at [] [] x y long sized_a sized_b hs cs = refl
sections_alike n m at [] (t ∷ vs) x y long sized_a sized_b hs cs = absurd (omega arith)
sections_alike n m at (s ∷ us) [] x y long sized_a sized_b hs cs = absurd (omega arith)
sections_alike n m at (s ∷ us) (t ∷ vs) x y long sized_a sized_b hs cs =
    let next_n : ℕ = n + length (text s.name) in
    let next_m : ℕ = m + length (text t.name) in
    let next_s : ℕ = aligned at + length s.bytes in
    let next_t : ℕ = aligned at + length t.bytes in
    let one = cut (section_header n (aligned at) s) (section_header m (aligned at) t) (headers next_n next_s us) (headers next_m next_t vs)
    (length-section_header n (aligned at) s ∙ sym (length-section_header m (aligned at) t)) hs in
    let fs : Fields (section_header n (aligned at) s) s = fields_in n (aligned at) s sized_a.0.fits sized_a.0.size in
    let ft : Fields (section_header m (aligned at) t) t = fields_in m (aligned at) t sized_b.0.fits sized_b.0.size in
    let size : length s.bytes ≡ length t.bytes = sym fs.size ∙ ap (xword_at 32) one.0 ∙ ft.size in
    let zeros : List ℕ = replicate (padding at) 0 in
    let long_front : length (zeros ++ s.bytes) ≡ length (zeros ++ t.bytes) =
    length-append zeros s.bytes ∙ ap (λ k. length zeros + k) size ∙ sym (length-append zeros t.bytes) in
    let parts = cut (zeros ++ s.bytes) (zeros ++ t.bytes) (contents next_s us ++ x) (contents next_t vs ++ y) long_front
    (sym (append_assoc (zeros ++ s.bytes) (contents next_s us) x) ∙ cs ∙ append_assoc (zeros ++ t.bytes) (contents next_t vs) y) in
    let bytes : s.bytes ≡ t.bytes = append_cancel_left zeros s.bytes t.bytes parts.0 in
    let head : unnamed s ≡ unnamed t =
    same_unnamed s t (section_header n (aligned at) s) (section_header m (aligned at) t) one.0 fs ft bytes in
    let later : length us ≡ length vs = omega arith in
    let tail : map unnamed us ≡ map unnamed vs =
    sections_alike next_n next_m next_s us vs x y later sized_a.1 sized_b.1
    (one.1 ∙ ap (λ k. headers next_m (aligned at + k) vs) (sym size))
    (parts.1 ∙ ap (λ k. contents (aligned at + k) vs ++ y) (sym size)) in
    ap (λ u. u ∷ map unnamed us) head ∙ ap (λ rest. unnamed t ∷ rest) tail

-- ---- what the table of names determines

abbrev pub HasNoZero : List ℕ → Type 0
HasNoZero name = AllByRecursion (λ byte. 0 < byte) name

pub text_one : (a b x y : List ℕ) → HasNoZero a → HasNoZero b → text a ++ x ≡ text b ++ y → (a ≡ b) × (x ≡ y)
text_one [] [] x y is_a is_b e = (refl, tails_one 0 0 x y e)
text_one [] (n ∷ b) x y is_a is_b e = absurd (omega (arith, heads_one 0 n x (text b ++ y) e, is_b.0))
text_one (m ∷ a) [] x y is_a is_b e = absurd (omega (arith, heads_one m 0 (text a ++ x) y e, is_a.0))
text_one (m ∷ a) (n ∷ b) x y is_a is_b e =
    let found = text_one a b x y is_a.1 is_b.1 (tails_one m n (text a ++ x) (text b ++ y) e) in
    (ap (λ k. k ∷ a) (heads_one m n (text a ++ x) (text b ++ y) e) ∙ ap (λ ys. n ∷ ys) found.0, found.1)

names_one : (us vs : List Section) (last : List ℕ) → length us ≡ length vs → AllByRecursion IsNamed us → AllByRecursion IsNamed vs
    → flat_map text (names_of us ++ last ∷ []) ≡ flat_map text (names_of vs ++ last ∷ []) → names_of us ≡ names_of vs
names_one [] [] last long is_a is_b e = refl
names_one [] (t ∷ vs) last long is_a is_b e = absurd (omega arith)
names_one (s ∷ us) [] last long is_a is_b e = absurd (omega arith)
names_one (s ∷ us) (t ∷ vs) last long is_a is_b e =
    let found = text_one s.name t.name (flat_map text (names_of us ++ last ∷ [])) (flat_map text (names_of vs ++ last ∷ []))
    (recursion_from_All (λ byte. 0 < byte) s.name is_a.0) (recursion_from_All (λ byte. 0 < byte) t.name is_b.0) e in
    let later : length us ≡ length vs = omega arith in
    let rest : names_of us ≡ names_of vs = names_one us vs last later is_a.1 is_b.1 found.1 in
    ap (λ name. name ∷ names_of us) found.0 ∙ ap (λ names. t.name ∷ names) rest

-- ---- both together

sections_one : (us vs : List Section) → map unnamed us ≡ map unnamed vs → names_of us ≡ names_of vs → us ≡ vs
sections_one [] [] same names = refl
sections_one [] (t ∷ vs) same names = absurd (let long : 0 ≡ length (map unnamed (t ∷ vs)) = ap length same in omega arith)
sections_one (s ∷ us) [] same names = absurd (let long : length (map unnamed (s ∷ us)) ≡ 0 = ap length same in omega arith)
sections_one (s ∷ us) (t ∷ vs) same names =
    let u : unnamed s ≡ unnamed t = ap (λ all. get_or all 0 (unnamed s)) same in
    let n : s.name ≡ t.name = ap (λ ns. get_or ns 0 s.name) names in
    let rest : us ≡ vs = sections_one us vs (ap (drop 1) same) (ap (drop 1) names) in
    let first : s ≡ t = λ i. record {
      name = n i;
      section_type = (u i).section_type;
      flags = (u i).flags;
      link = (u i).link;
      info = (u i).info;
      alignment = (u i).alignment;
      entry_size = (u i).entry_size;
      bytes = (u i).bytes;
    } in
    ap (λ x. x ∷ us) first ∙ ap (λ xs. t ∷ xs) rest

-- sections that end below a limit are shorter
sized : (at : ℕ) (ss : List Section) → at + length (contents at ss) < 2 ^ 64 → AllByRecursion FitsHeader ss → AllByRecursion Sized ss
sized at [] below fits = tt
sized at (s ∷ ss) below fits =
    let next : ℕ = aligned at + length s.bytes in
    let end : next + length (contents next ss) < 2 ^ 64 = subst (λ n. n < 2 ^ 64) (length-contents at s ss) below in
    (record { fits = fits.0; size = smaller (aligned at) (length s.bytes) (length (contents next ss)) end }, sized next ss end fits.1)
  where
    smaller : (a b c : ℕ) → a + b + c < 2 ^ 64 → b < 2 ^ 64
    smaller a b c below = omega arith

names_fit : (ss : List Section) → FitsHeader (section_names ss)
names_fit ss = record {
  section_type = omega arith;
  flags = omega arith;
  link = omega arith;
  info = omega arith;
  alignment = omega arith;
  entry_size = omega arith;
}

fits_all : (ss : List Section) (last : Section) → AllByRecursion FitsHeader ss → FitsHeader last → AllByRecursion FitsHeader (ss ++ last ∷ [])
fits_all [] last fits is = (is, tt)
fits_all (s ∷ ss) last fits is = (fits.0, fits_all ss last fits.1 is)

pub is_sized : (o : Object) (bytes : List ℕ) → IsObject o bytes → AllByRecursion Sized (all_sections o)
is_sized o bytes is =
    let below : 64 + length (contents 64 (all_sections o)) < 2 ^ 64 = omega (arith, all_below o, ap length is.spelled, is.size) in
    sized 64 (all_sections o) below
    (fits_all o.sections (section_names o.sections) (recursion_from_All FitsHeader o.sections is.fits) (names_fit o.sections))

pub length-all : (o : Object) → length (all_sections o) ≡ length o.sections + 1
length-all o = length-append o.sections (section_names o.sections ∷ [])

-- the file's headers are told by its bytes
pub record SameParts (a b : Object) : Type 0 where
  pub flags : a.flags ≡ b.flags
  pub count : length a.sections ≡ length b.sections
  pub tables : headers 1 64 (all_sections a) ≡ headers 1 64 (all_sections b)
  pub bodies : contents 64 (all_sections a) ++ replicate (padding (64 + length (contents 64 (all_sections a)))) 0
      ≡ contents 64 (all_sections b) ++ replicate (padding (64 + length (contents 64 (all_sections b)))) 0

pub table_fits : (o : Object) (bytes : List ℕ) → IsObject o bytes → table_of (all_sections o) < 2 ^ 64
table_fits o bytes is = omega (arith, length-spelling o, ap length is.spelled, is.size)

pub count_fits : (o : Object) (bytes : List ℕ) → IsObject o bytes → length (all_sections o) + 1 < 2 ^ 16
count_fits o bytes is = omega (arith, length-all o, is.count)

abbrev body_of : List Section → List ℕ
body_of ss = contents 64 ss ++ replicate (padding (64 + length (contents 64 ss))) 0

same_parts : (bytes : List ℕ) (a b : Object) → IsObject a bytes → IsObject b bytes → SameParts a b
unfolding spelling
same_parts bytes a b is_a is_b =
    let us : List Section = all_sections a in
    let vs : List Section = all_sections b in
    let head_a : List ℕ = file_header a.flags (table_of us) (length us + 1) in
    let head_b : List ℕ = file_header b.flags (table_of vs) (length vs + 1) in
    let table_a : List ℕ = replicate 64 0 ++ headers 1 64 us in
    let table_b : List ℕ = replicate 64 0 ++ headers 1 64 vs in
    let whole : head_a ++ (body_of us ++ table_a) ≡ head_b ++ (body_of vs ++ table_b) =
    sym (grouped a.flags us) ∙ sym is_a.spelled ∙ is_b.spelled ∙ grouped b.flags vs in
    let first = cut head_a head_b (body_of us ++ table_a) (body_of vs ++ table_b)
    (length-file_header a.flags (table_of us) (length us + 1) ∙ sym (length-file_header b.flags (table_of vs) (length vs + 1))) whole in
    let flags : a.flags ≡ b.flags =
    sym (flags_in a.flags (table_of us) (length us + 1) is_a.flags) ∙ ap (word_at 48) first.0
    ∙ flags_in b.flags (table_of vs) (length vs + 1) is_b.flags in
    let table : table_of us ≡ table_of vs =
    sym (shoff_in a.flags (table_of us) (length us + 1) (table_fits a bytes is_a)) ∙ ap (xword_at 40) first.0
    ∙ shoff_in b.flags (table_of vs) (length vs + 1) (table_fits b bytes is_b) in
    let counted : length us + 1 ≡ length vs + 1 =
    sym (shnum_in a.flags (table_of us) (length us + 1) (count_fits a bytes is_a)) ∙ ap (half_at 60) first.0
    ∙ shnum_in b.flags (table_of vs) (length vs + 1) (count_fits b bytes is_b) in
    let long : length (body_of us) ≡ length (body_of vs) =
    without (length (body_of us)) (length (body_of vs)) (length-body us ∙ table ∙ sym (length-body vs)) in
    let second = cut (body_of us) (body_of vs) table_a table_b long first.1 in
    let third = cut (replicate 64 0) (replicate 64 0) (headers 1 64 us) (headers 1 64 vs) refl second.1 in
    record {
      flags = flags;
      count = fewer (length a.sections) (length b.sections) (length us) (length vs) (length-all a) (length-all b) counted;
      tables = third.1;
      bodies = second.0;
    }
  where
    without : (m n : ℕ) → 64 + m ≡ 64 + n → m ≡ n
    without m n e = omega arith

    fewer : (m n i j : ℕ) → i ≡ m + 1 → j ≡ n + 1 → i + 1 ≡ j + 1 → m ≡ n
    fewer m n i j i_is j_is e = omega arith

same_names : (us vs : List Section) → length us ≡ length vs → AllByRecursion IsNamed us → AllByRecursion IsNamed vs
    → unnamed (section_names us) ∷ [] ≡ unnamed (section_names vs) ∷ [] → names_of us ≡ names_of vs
same_names us vs long is_a is_b e =
    let tables : (section_names us).bytes ≡ (section_names vs).bytes = ap (λ all. (get_or all 0 (unnamed (section_names us))).bytes) e in
    names_one us vs (codes ".shstrtab") long is_a is_b
    (tails_one 0 0 (flat_map text (names_of us ++ codes ".shstrtab" ∷ [])) (flat_map text (names_of vs ++ codes ".shstrtab" ∷ [])) tables)

-- bytes are at most one object
pub one_object : (bytes : List ℕ) (a b : Object) → IsObject a bytes → IsObject b bytes → a ≡ b
one_object bytes a b is_a is_b =
    let parts : SameParts a b = same_parts bytes a b is_a is_b in
    let us : List Section = all_sections a in
    let vs : List Section = all_sections b in
    let long : length us ≡ length vs = length-all a ∙ ap (λ n. n + 1) parts.count ∙ sym (length-all b) in
    let alike : map unnamed us ≡ map unnamed vs =
    sections_alike 1 1 64 us vs (replicate (padding (64 + length (contents 64 us))) 0) (replicate (padding (64 + length (contents 64 vs))) 0) long
    (is_sized a bytes is_a) (is_sized b bytes is_b) parts.tables parts.bodies in
    let fronts : length (map unnamed a.sections) ≡ length (map unnamed b.sections) =
    length-map a.sections unnamed ∙ parts.count ∙ sym (length-map b.sections unnamed) in
    let split = cut (map unnamed a.sections) (map unnamed b.sections) (unnamed (section_names a.sections) ∷ []) (unnamed (section_names b.sections) ∷ [])
    fronts
    (sym (map-append unnamed a.sections (section_names a.sections ∷ [])) ∙ alike ∙ map-append unnamed b.sections (section_names b.sections ∷ [])) in
    let names : names_of a.sections ≡ names_of b.sections =
    same_names a.sections b.sections parts.count (recursion_from_All IsNamed a.sections is_a.named) (recursion_from_All IsNamed b.sections is_b.named)
    split.1 in
    let sections : a.sections ≡ b.sections = sections_one a.sections b.sections split.0 names in
    let flags : a.flags ≡ b.flags = parts.flags in
    λ i. record { flags = flags i; sections = sections i }
