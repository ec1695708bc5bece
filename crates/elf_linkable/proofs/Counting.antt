-- The sections of an object by their indices.
use Rattle.std.specs.Prelude.{slice_get, count_by, nat_lt}
use Rattle.std.proofs.Common.{◌≡◌, ℕ, suc, ◌+◌, ◌-◌, ◌<◌, Bool, cond, List, [], ◌∷◌, ◌++◌, length, map, drop, Some, arith, ap, sym, ◌∙◌, refl}
use Rattle.std.proofs.Common.{append_assoc, length-append}
use Rattle.std.proofs.lemmas.Bool.{lt-ltb}
use Rattle.std.proofs.lemmas.List.{drop_more}
use Rattle.std.proofs.lemmas.List.Sums.{sum_by-cons}
use Rattle.elf_object.specs.declared.object.Section.{Section}
use Rattle.elf_object.specs.declared.relocations.Relocation.{Relocation}
use Rattle.elf_object.specs.declared.symbols.Symbol.{Symbol}
use Rattle.elf_linkable.specs.declared.section.LinkableSection.{LinkableSection}
use Rattle.elf_linkable.specs.Linkable.{section_symbol, section_symbols, content_section, relocation_section_if, relocation_sections}
use Rattle.elf_linkable.specs.Linkable.{stack_section, symbol_section, name_section, is_relocated, table_index, object_of}

-- ---- the symbols of sections

symbols_at : (sections : List LinkableSection) (i : ℕ) (d : LinkableSection) (now new whole : List Symbol) → i < length sections
    → now ++ section_symbols (i + 1) (drop i sections) ≡ whole → new ≡ now ++ section_symbol (i + 1) ∷ []
    → new ++ section_symbols (i + 1 + 1) (drop (i + 1) sections) ≡ whole
symbols_at sections i d now new whole inside so_far is =
    let rest : List LinkableSection = drop (i + 1) sections in
    ap (λ (ss : List Symbol). ss ++ section_symbols (i + 1 + 1) rest) is
    ∙ append_assoc now (section_symbol (i + 1) ∷ []) (section_symbols (i + 1 + 1) rest)
    ∙ ap (λ (k : ℕ). now ++ section_symbol (i + 1) ∷ section_symbols k rest) (omega arith)
    ∙ sym (ap (λ (ss : List LinkableSection). now ++ section_symbols (i + 1) ss) (drop_more sections i d inside)) ∙ so_far

-- one more
pub symbols_more : (sections : List LinkableSection) (i : ℕ) (now new whole : List Symbol) → i < length sections
    → now ++ section_symbols (i + 1) (drop i sections) ≡ whole → new ≡ now ++ section_symbol (i + 1) ∷ []
    → new ++ section_symbols (i + 1 + 1) (drop (i + 1) sections) ≡ whole
symbols_more [] i now new whole inside so_far is = let none : ⊥ = omega (arith, inside) in absurd none
symbols_more (s ∷ rest) i now new whole inside so_far is = symbols_at (s ∷ rest) i s now new whole inside so_far is

-- ---- the object

-- three more sections, one by one
three_behind : (front : List Section) (a b c : Section) → front ++ a ∷ [] ++ b ∷ [] ++ c ∷ [] ≡ front ++ a ∷ b ∷ c ∷ []
three_behind front a b c = append_assoc (front ++ a ∷ []) (b ∷ []) (c ∷ []) ∙ append_assoc front (a ∷ []) (b ∷ c ∷ [])

pub all_made : (flags : ℕ) (sections slice : List LinkableSection) (symbols : List Symbol) (table : ℕ)
    (contents none relocations joined one two three : List Section) (stack table_section names : Section) → table ≡ table_index sections
    → slice ≡ sections → contents ≡ map content_section sections → none ≡ [] → relocations ≡ none ++ relocation_sections table 1 slice
    → joined ≡ contents ++ relocations → one ≡ joined ++ stack ∷ [] → stack ≡ stack_section → two ≡ one ++ table_section ∷ []
    → table_section ≡ symbol_section (table + 1) symbols → three ≡ two ++ names ∷ [] → names ≡ name_section symbols
    → record { flags = flags; sections = three } ≡ object_of flags sections symbols
all_made flags sections slice symbols table contents none relocations joined one two three stack table_section names is_table is_slice are_contents
    is_none are_relocations is_joined is_one is_stack is_two is_table_section is_three are_names =
    let made : relocations ≡ relocation_sections (table_index sections) 1 sections =
    are_relocations ∙ ap (λ (ss : List Section). ss ++ relocation_sections table 1 slice) is_none
    ∙ ap (λ (k : ℕ). relocation_sections k 1 slice) is_table ∙ ap (relocation_sections (table_index sections) 1) is_slice in
    let front : List Section = map content_section sections ++ relocation_sections (table_index sections) 1 sections in
    let joined_is : joined ≡ front =
    is_joined ∙ ap (λ (ss : List Section). ss ++ relocations) are_contents ∙ ap (λ (ss : List Section). map content_section sections ++ ss) made in
    let linked : table_section ≡ symbol_section (suc (table_index sections)) symbols =
    is_table_section ∙ ap (λ (k : ℕ). symbol_section k symbols) (omega (arith, is_table)) in
    ap (λ (ss : List Section). record { flags = flags; sections = ss }) (
    is_three ∙ ap (λ (ss : List Section). ss ++ names ∷ []) (is_two ∙ ap (λ (ss : List Section). ss ++ table_section ∷ []) (is_one
    ∙ ap (λ (ss : List Section). ss ++ stack ∷ []) joined_is))
    ∙ three_behind front stack table_section names
    ∙ ap (λ (s : Section). front ++ s ∷ table_section ∷ names ∷ []) is_stack
    ∙ ap (λ (s : Section). front ++ stack_section ∷ s ∷ names ∷ []) linked
    ∙ ap (λ (s : Section). front ++ stack_section ∷ symbol_section (suc (table_index sections)) symbols ∷ s ∷ []) are_names)

-- ---- for the law

one_counted : (table k : ℕ) (name : List ℕ) (rs : List Relocation) → length (relocation_section_if table k name rs) ≡ cond (nat_lt 0 (length rs)) 1 0
one_counted table k name [] = refl
one_counted table k name (r ∷ rs) = sym (ap (λ (b : Bool). cond b 1 0) (lt-ltb 0 (length (r ∷ rs)) (omega arith)))

pub counted : (table k : ℕ) (sections : List LinkableSection) → length (relocation_sections table k sections) ≡ count_by is_relocated sections
counted table k [] = refl
counted table k (s ∷ rest) =
    let one : List Section = relocation_section_if table k s.name s.content.relocations in
    let more : List Section = relocation_sections table (suc k) rest in
    let this : length one ≡ cond (is_relocated s) 1 0 = one_counted table k s.name s.content.relocations in
    let others : length more ≡ count_by is_relocated rest = counted table (suc k) rest in
    let sum : count_by is_relocated (s ∷ rest) ≡ cond (is_relocated s) 1 0 + count_by is_relocated rest =
    sum_by-cons (λ (t : LinkableSection). cond (is_relocated t) 1 0) s rest in
    length-append one more ∙ ap (λ (n : ℕ). n + length more) this ∙ ap (λ (n : ℕ). cond (is_relocated s) 1 0 + n) others ∙ sym sum

-- what stands behind a front
got_behind : (front rest : List Section) (n : ℕ) → slice_get (front ++ rest) (length front + n) ≡ slice_get rest n
got_behind [] rest n = ap (slice_get rest) (omega arith)
got_behind (s ∷ front) rest n =
    let next : length (s ∷ front) + n ≡ suc (length front + n) = omega arith in
    ap (slice_get (s ∷ (front ++ rest))) next ∙ got_behind front rest n

pub length-mapped : (sections : List LinkableSection) → length (map content_section sections) ≡ length sections
length-mapped [] = refl
length-mapped (s ∷ rest) = ap suc (length-mapped rest)

module _ (sections : List LinkableSection) (symbols : List Symbol) where
  abbrev table : ℕ
  table = table_index sections

  abbrev relocations : List Section
  relocations = relocation_sections table 1 sections

  abbrev tail : List Section
  tail = stack_section ∷ symbol_section (suc table) symbols ∷ name_section symbols ∷ []

  front_long : length (map content_section sections ++ relocations) ≡ length sections + count_by is_relocated sections
  front_long =
      length-append (map content_section sections) relocations ∙ ap (λ (n : ℕ). n + length relocations) (length-mapped sections)
      ∙ ap (λ (n : ℕ). length sections + n) (counted table 1 sections)

  got : (n : ℕ) → slice_get (map content_section sections ++ relocations ++ tail) (length sections + count_by is_relocated sections + n) ≡ slice_get tail n
  got n =
      ap (λ (k : ℕ). slice_get ((map content_section sections ++ relocations) ++ tail) (k + n)) (sym front_long)
      ∙ got_behind (map content_section sections ++ relocations) tail n

pub table_linked : (flags : ℕ) (sections : List LinkableSection) (symbols : List Symbol)
    → slice_get (object_of flags sections symbols).sections (table_index sections - 1) ≡ Some (symbol_section (suc (table_index sections)) symbols)
table_linked flags sections symbols =
    ap (slice_get (object_of flags sections symbols).sections) (omega arith) ∙ got sections symbols 1

pub names_linked : (flags : ℕ) (sections : List LinkableSection) (symbols : List Symbol)
    → slice_get (object_of flags sections symbols).sections (table_index sections) ≡ Some (name_section symbols)
names_linked flags sections symbols = got sections symbols 2
