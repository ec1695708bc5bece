-- A file of sections that a linker places is that of one list of sections and one of symbols.
use Rattle.std.specs.Prelude.{All, count_by}
use Rattle.std.specs.List.{AllByRecursion}
use Rattle.std.proofs.Common.{◌≡◌, ℕ, suc, ◌+◌, ◌≤◌, List, [], ◌∷◌, ◌++◌, length, map, arith, ap, sym, ◌∙◌, refl, append_assoc, length-append}
use Rattle.std.proofs.lemmas.List.Elements.{recursion_from_All}
use Rattle.elf_object.specs.declared.object.Section.{Section}
use Rattle.elf_object.specs.declared.object.Object.{Object}
use Rattle.elf_object.specs.declared.relocations.Relocation.{Relocation}
use Rattle.elf_object.specs.declared.symbols.Symbol.{Symbol}
use Rattle.elf_object.specs.Standard.{SHT_RELA}
use Rattle.elf_object.specs.Relocations.{relocation_table, FitsRelocation}
use Rattle.elf_object.specs.Symbols.{symbol_table, symbol_names}
use Rattle.elf_object.proofs.OneReading.{cut, one_object}
use Rattle.elf_object.proofs.OneTable.{one_relocations, one_symbols}
use Rattle.elf_linkable.specs.declared.section.LinkableSection.{LinkableSection}
use Rattle.elf_linkable.specs.Linkable.{content_section, relocation_section, relocation_section_if, relocation_sections, stack_section, symbol_section}
use Rattle.elf_linkable.specs.Linkable.{name_section, is_relocated, table_index, object_of, IsLinkableFile}
use Rattle.elf_linkable.proofs.Counting.{counted, length-mapped}

-- ---- lists of sections

abbrev first_or : Section → List Section → Section
first_or d [] = d
first_or d (s ∷ rest) = s

abbrev rest_of : List Section → List Section
rest_of [] = []
rest_of (s ∷ rest) = rest

head_one : (a b : Section) (x y : List Section) → a ∷ x ≡ b ∷ y → a ≡ b
head_one a b x y e = ap (first_or a) e

tail_one : (a b : Section) (x y : List Section) → a ∷ x ≡ b ∷ y → x ≡ y
tail_one a b x y e = ap rest_of e

-- each section of a list has relocations
abbrev AreRelocating : List Section → Type 0
AreRelocating [] = Unit {0}
AreRelocating (s ∷ rest) = (s.section_type ≡ SHT_RELA) × AreRelocating rest

relocating_both : (x y : List Section) → AreRelocating x → AreRelocating y → AreRelocating (x ++ y)
relocating_both [] y are others = others
relocating_both (s ∷ x) y are others = (are.0, relocating_both x y are.1 others)

one_relocating : (table k : ℕ) (name : List ℕ) (rs : List Relocation) → AreRelocating (relocation_section_if table k name rs)
one_relocating table k name [] = tt
one_relocating table k name (r ∷ rs) = (refl, tt)

all_relocating : (table k : ℕ) (sections : List LinkableSection) → AreRelocating (relocation_sections table k sections)
all_relocating table k [] = tt
all_relocating table k (s ∷ rest) =
    relocating_both (relocation_section_if table k s.name s.content.relocations) (relocation_sections table (suc k) rest)
    (one_relocating table k s.name s.content.relocations) (all_relocating table (suc k) rest)

-- each section of a list is of one whose index is no lower
abbrev AreFrom : (index : ℕ) → List Section → Type 0
AreFrom k [] = Unit {0}
AreFrom k (s ∷ rest) = (k ≤ s.info) × AreFrom k rest

from_both : (k : ℕ) (x y : List Section) → AreFrom k x → AreFrom k y → AreFrom k (x ++ y)
from_both k [] y are others = others
from_both k (s ∷ x) y are others = (are.0, from_both k x y are.1 others)

one_from : (table j k : ℕ) (name : List ℕ) (rs : List Relocation) → j ≤ k → AreFrom j (relocation_section_if table k name rs)
one_from table j k name [] le = tt
one_from table j k name (r ∷ rs) le = (le, tt)

all_from : (table j k : ℕ) (sections : List LinkableSection) → j ≤ k → AreFrom j (relocation_sections table k sections)
all_from table j k [] le = tt
all_from table j k (s ∷ rest) le =
    from_both j (relocation_section_if table k s.name s.content.relocations) (relocation_sections table (suc k) rest)
    (one_from table j k s.name s.content.relocations le) (all_from table j (suc k) rest (omega (arith, le)))

-- ---- where the sections' contents end

-- the last three sections
abbrev tail : (table names : Section) → List Section
tail table names = stack_section ∷ table ∷ names ∷ []

-- behind the relocations there are but three sections
no_content : (x : List Section) (table names c : Section) (more : List Section) → AreRelocating x → c.section_type ≡ 1 → 3 ≤ length more
    → x ++ tail table names ≡ c ∷ more → ⊥
no_content [] table names c more are is long e =
    let whole : length (tail table names) ≡ length (c ∷ more) = ap length e in omega (arith, whole, long)
no_content (s ∷ x) table names c more are is long e =
    let same : s ≡ c = head_one s c (x ++ tail table names) more e in
    let no : 4 ≡ 1 = sym are.0 ∙ ap (λ (t : Section). t.section_type) same ∙ is in omega (arith, no)

behind_long : (sections : List LinkableSection) (x : List Section) (table names : Section)
    → 3 ≤ length (map content_section sections ++ (x ++ tail table names))
behind_long sections x table names =
    omega (arith, length-append (map content_section sections) (x ++ tail table names), length-append x (tail table names))

record Parted (a b : List LinkableSection) (x y : List Section) : Type 0 where
  contents : map content_section a ≡ map content_section b
  behind : x ≡ y

parted : (a b : List LinkableSection) (x y : List Section) (table names other others : Section) → AreRelocating x → AreRelocating y
    → map content_section a ++ (x ++ tail table names) ≡ map content_section b ++ (y ++ tail other others)
    → Parted a b (x ++ tail table names) (y ++ tail other others)
parted [] [] x y table names other others are_x are_y e = record { contents = refl; behind = e }
parted [] (s ∷ b) x y table names other others are_x are_y e =
    absurd (no_content x table names (content_section s) (map content_section b ++ (y ++ tail other others)) are_x refl (behind_long b y other others) e)
parted (s ∷ a) [] x y table names other others are_x are_y e =
    absurd (no_content y other others (content_section s) (map content_section a ++ (x ++ tail table names)) are_y refl (behind_long a x table names) (sym e))
parted (s ∷ a) (q ∷ b) x y table names other others are_x are_y e =
    let left : List Section = map content_section a ++ (x ++ tail table names) in
    let right : List Section = map content_section b ++ (y ++ tail other others) in
    let first : content_section s ≡ content_section q = head_one (content_section s) (content_section q) left right e in
    let more = parted a b x y table names other others are_x are_y (tail_one (content_section s) (content_section q) left right e) in
    record {
      contents = ap (λ (c : Section). c ∷ map content_section a) first ∙ ap (λ (cs : List Section). content_section q ∷ cs) more.contents;
      behind = more.behind;
    }

-- ---- which section has which relocations

not_yet : (k : ℕ) (x : List Section) (c : Section) (more : List Section) → AreFrom (suc k) x → c.info ≡ k → x ≡ c ∷ more → ⊥
not_yet k [] c more are is e = let whole : 0 ≡ length (c ∷ more) = ap length e in omega (arith, whole)
not_yet k (s ∷ x) c more are is e =
    let same : s ≡ c = head_one s c x more e in
    let info : s.info ≡ k = ap (λ (t : Section). t.info) same ∙ is in omega (arith, are.0, info)

one_part : (table k : ℕ) (n m : List ℕ) (rs qs : List Relocation) (x y : List Section) → All FitsRelocation rs → All FitsRelocation qs
    → AreFrom (suc k) x → AreFrom (suc k) y → relocation_section_if table k n rs ++ x ≡ relocation_section_if table k m qs ++ y → (rs ≡ qs) × (x ≡ y)
one_part table k n m [] [] x y fits others are_x are_y e = (refl, e)
one_part table k n m [] (q ∷ qs) x y fits others are_x are_y e =
    absurd (not_yet k x (relocation_section table k m (q ∷ qs)) y are_x refl e)
one_part table k n m (r ∷ rs) [] x y fits others are_x are_y e =
    absurd (not_yet k y (relocation_section table k n (r ∷ rs)) x are_y refl (sym e))
one_part table k n m (r ∷ rs) (q ∷ qs) x y fits others are_x are_y e =
    let left : Section = relocation_section table k n (r ∷ rs) in
    let right : Section = relocation_section table k m (q ∷ qs) in
    let same : left ≡ right = head_one left right x y e in
    let bytes : relocation_table (r ∷ rs) ≡ relocation_table (q ∷ qs) = ap (λ (s : Section). s.bytes) same in (
      one_relocations (relocation_table (r ∷ rs)) (r ∷ rs) (q ∷ qs) (record { table = refl; fits = fits }) (record { table = bytes; fits = others }),
      tail_one left right x y e,
    )

same_section : (s q : LinkableSection) → content_section s ≡ content_section q → s.content.relocations ≡ q.content.relocations → s ≡ q
same_section s q e relocations =
    let name : s.name ≡ q.name = ap (λ (c : Section). c.name) e in
    let flags : s.flags ≡ q.flags = ap (λ (c : Section). c.flags) e in
    let alignment : s.alignment ≡ q.alignment = ap (λ (c : Section). c.alignment) e in
    let bytes : s.content.bytes ≡ q.content.bytes = ap (λ (c : Section). c.bytes) e in
    λ i. record { name = name i; flags = flags i; alignment = alignment i; content = record { bytes = bytes i; relocations = relocations i } }

sections_one : (table k : ℕ) (a b : List LinkableSection) → AllByRecursion (λ (s : LinkableSection). All FitsRelocation s.content.relocations) a
    → AllByRecursion (λ (s : LinkableSection). All FitsRelocation s.content.relocations) b → map content_section a ≡ map content_section b
    → relocation_sections table k a ≡ relocation_sections table k b → a ≡ b
sections_one table k [] [] fits others contents e = refl
sections_one table k [] (q ∷ b) fits others contents e =
    let whole : 0 ≡ length (map content_section (q ∷ b)) = ap length contents in absurd (let none : ⊥ = omega (arith, whole) in none)
sections_one table k (s ∷ a) [] fits others contents e =
    let whole : length (map content_section (s ∷ a)) ≡ 0 = ap length contents in absurd (let none : ⊥ = omega (arith, whole) in none)
sections_one table k (s ∷ a) (q ∷ b) fits others contents e =
    let x : List Section = relocation_sections table (suc k) a in
    let y : List Section = relocation_sections table (suc k) b in
    let parts = one_part table k s.name q.name s.content.relocations q.content.relocations x y fits.0 others.0
    (all_from table (suc k) (suc k) a (omega arith)) (all_from table (suc k) (suc k) b (omega arith)) e in
    let first : s ≡ q =
    same_section s q (head_one (content_section s) (content_section q) (map content_section a) (map content_section b) contents) parts.0 in
    let rest : a ≡ b =
    sections_one table (suc k) a b fits.1 others.1
    (tail_one (content_section s) (content_section q) (map content_section a) (map content_section b) contents) parts.1 in
    ap (λ (t : LinkableSection). t ∷ a) first ∙ ap (λ (ts : List LinkableSection). q ∷ ts) rest

-- ---- the file

pub file_one : (f g : ℕ) (a b : List LinkableSection) (x y : List Symbol) (bytes : List ℕ) → IsLinkableFile f a x bytes → IsLinkableFile g b y bytes
    → (f ≡ g) × (a ≡ b) × (x ≡ y)
file_one f g a b x y bytes left right =
    let e : object_of f a x ≡ object_of g b y = one_object bytes (object_of f a x) (object_of g b y) left.object right.object in
    let m : ℕ = table_index a in
    let n : ℕ = table_index b in
    let these : List Section = relocation_sections m 1 a in
    let those : List Section = relocation_sections n 1 b in
    let table : Section = symbol_section (suc m) x in
    let other : Section = symbol_section (suc n) y in
    let ends : List Section = tail table (name_section x) in
    let other_ends : List Section = tail other (name_section y) in
    let sections : map content_section a ++ (these ++ ends) ≡ map content_section b ++ (those ++ other_ends) =
    sym (append_assoc (map content_section a) these ends) ∙ ap (λ (o : Object). o.sections) e ∙ append_assoc (map content_section b) those other_ends in
    let parts = parted a b these those table (name_section x) other (name_section y) (all_relocating m 1 a) (all_relocating n 1 b) sections in
    let whole : length (these ++ ends) ≡ length (those ++ other_ends) = ap length parts.behind in
    let long : length these ≡ length those = omega (arith, whole, length-append these ends, length-append those other_ends) in
    let both = cut these those ends other_ends long parts.behind in
    let count : length a ≡ length b = sym (length-mapped a) ∙ ap length parts.contents ∙ length-mapped b in
    let relocated : count_by is_relocated a ≡ count_by is_relocated b = sym (counted m 1 a) ∙ long ∙ counted n 1 b in
    let index : n ≡ m = omega (arith, count, relocated) in
    let tables : table ≡ other =
    head_one table other (name_section x ∷ []) (name_section y ∷ [])
    (tail_one stack_section stack_section (table ∷ name_section x ∷ []) (other ∷ name_section y ∷ []) both.1) in
    let names : name_section x ≡ name_section y =
    head_one (name_section x) (name_section y) [] []
    (tail_one table other (name_section x ∷ []) (name_section y ∷ [])
    (tail_one stack_section stack_section (table ∷ name_section x ∷ []) (other ∷ name_section y ∷ []) both.1)) in
    let symbols : symbol_table x ≡ symbol_table y = ap (λ (s : Section). s.bytes) tables in
    let strings : symbol_names x ≡ symbol_names y = ap (λ (s : Section). s.bytes) names in (
      ap (λ (o : Object). o.flags) e,
      sections_one m 1 a b (recursion_from_All (λ (s : LinkableSection). All FitsRelocation s.content.relocations) a left.relocations)
          (recursion_from_All (λ (s : LinkableSection). All FitsRelocation s.content.relocations) b right.relocations) parts.contents
          (both.0 ∙ ap (λ (k : ℕ). relocation_sections k 1 b) index),
      one_symbols (symbol_table x) (symbol_names x) x y left.symbols_are (record {
        table = symbols;
        names = strings;
        fits = right.symbols_are.fits;
        locals = right.symbols_are.locals;
        long = left.symbols_are.long;
      }),
    )
