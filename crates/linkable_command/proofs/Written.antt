-- The object of an output can be written.
use Rattle.std.specs.Prelude.{codes, All, Option, Some, None, IsNone, is_some, Result, Ok, Err, IfOk}
use Rattle.std.specs.List.{AllByRecursion, list_any}
use Rattle.std.proofs.Common.{◌≡◌, ℕ, suc, ◌+◌, ◌*◌, ◌^◌, ◌<◌, ◌≤◌, Bool, true, false, not, if◌then◌else◌, List, [], ◌∷◌, ◌++◌, length, map, arith}
use Rattle.std.proofs.Common.{ap, sym, refl, ◌∙◌, subst, append_assoc, length-append, ◌⊎◌, inl, inr, true≢false}
use Rattle.std.proofs.lemmas.List.{length-map}
use Rattle.std.proofs.lemmas.List.Elements.{All-nil, All-from_recursion, recursion_from_All}
use Rattle.dwarf_frame.specs.declared.table.FrameDescription.{FrameDescription}
use Rattle.dwarf_frame.specs.Table.{AreUndefined, MayBeLost, is_fixed}
use Rattle.dwarf_line_table.specs.Files.{with_new, first_uses}
use Rattle.dwarf_line_table.proofs.FirstUses.{uses_append}
use Rattle.prologue_lines.specs.Pieces.{line_pieces}
use Rattle.entry_placement.specs.Pieces.{unit_pieces}
use Rattle.entry_placement.specs.dwarf_entry.declared.abbreviation.Abbreviation.{Abbreviation}
use Rattle.entry_placement.specs.dwarf_entry.declared.tree.TreeItem.{TreeItem}
use Rattle.entry_placement.specs.dwarf_entry.Declarations.{abbreviations_of, abbreviation_section}
use Rattle.elf_object.specs.declared.object.Section.{Section}
use Rattle.elf_object.specs.declared.object.Object.{Object}
use Rattle.elf_object.specs.declared.relocations.Relocation.{Relocation}
use Rattle.elf_object.specs.declared.symbols.Symbol.{Symbol}
use Rattle.elf_object.specs.Grammar.{IsName, IsNamed, IsAligned, IsObject}
use Rattle.elf_object.specs.Relocations.{FitsRelocation}
use Rattle.elf_object.specs.Spelling.{spelling}
use Rattle.elf_object.specs.declared.symbols.Binding.{Binding}
use Rattle.elf_object.specs.declared.symbols.Binding.TheVariants.{Local, Global, Weak}
use Rattle.elf_object.specs.Symbols.{is_local, none_local, locals_first, LocalsFirst, symbol_table, symbol_names, FitsSymbol}
use Rattle.elf_linkable.specs.declared.section.LinkableSection.{LinkableSection}
use Rattle.elf_linkable.specs.Linkable.{section_symbols, content_section, relocation_section_if, relocation_sections, stack_section, symbol_section}
use Rattle.elf_linkable.specs.Linkable.{name_section, table_index, object_of, IsLinkableFile}
use Rattle.listing_text.specs.declared.output.ListedFunction.{ListedFunction}
use Rattle.listing_text.specs.declared.output.Output.{Output}
use Rattle.read_linkage.specs.declared.linkage.LinkedName.{LinkedName}
use Rattle.object_command.specs.declared.object.ObjectError.{ObjectError}
use Rattle.object_command.specs.Object.{defined_symbol, have_one_name, IsSymbolName}
use Rattle.object_command.proofs.GlobalSymbols.{none_append, none_more, none_parts, first_of}
use Rattle.object_command.proofs.ObjectLemmas.{string}
use Rattle.object_command.proofs.SizeLemmas.{within_file, through, length-table}
use Rattle.linkable_command.specs.declared.reference.Reference.{Reference}
use Rattle.linkable_command.specs.declared.tables.DebugTables.{DebugTables}
use Rattle.linkable_command.specs.References.{references}
use Rattle.linkable_command.specs.Symbols.{binding_named, with_binding, is_wanted, if_wanted, bound_symbol, bound_symbols, function_symbols}
use Rattle.linkable_command.specs.Symbols.{undefined_symbol, named_symbols}
use Rattle.linkable_command.specs.Linkable.{TEXT, LOST, unit_sections, content_of, plain_content, text_section, debug_section}
use Rattle.linkable_command.specs.Linkable.{declaration_section, entry_section, frame_sections, sections_by, sections_of, symbols_of}
use Rattle.linkable_command.specs.Linkable.{HaveLinkableNames, HasLargeLinkable, IsLinkableObject}
use Rattle.linkable_command.specs.steps.Sections.{AreFew, IsPlain}

-- ---- sections

last_few : (frames : Option (List FrameDescription)) (s : LinkableSection) → length (frame_sections frames ++ s ∷ []) ≤ 2
last_few None s = omega arith
last_few (Some functions) s = omega arith

pub few : (rs : List Relocation) (text lists : List ℕ) (t : DebugTables) → AreFew (sections_by rs text lists t)
few rs text lists t = omega (arith, last_few t.frames (debug_section (codes ".debug_rnglists") (plain_content t.ranges)))

last_plain : (frames : Option (List FrameDescription)) (s : LinkableSection) → IsPlain s → AllByRecursion IsPlain (frame_sections frames ++ s ∷ [])
last_plain None s is = (is, tt)
last_plain (Some functions) s is = (record { name = string (codes ".debug_frame") refl; alignment = refl }, (is, tt))

pub plain : (rs : List Relocation) (text lists : List ℕ) (t : DebugTables) → All IsPlain (sections_by rs text lists t)
plain rs text lists t =
    All-from_recursion IsPlain (sections_by rs text lists t) (
      record { name = string (codes ".text") refl; alignment = refl },
      (
        record { name = string (codes ".debug_abbrev") refl; alignment = refl },
        (
          record { name = string (codes ".debug_info") refl; alignment = refl },
          (
            record { name = string (codes ".debug_line") refl; alignment = refl },
            (
              record { name = string (codes ".debug_loclists") refl; alignment = refl },
              last_plain t.frames (debug_section (codes ".debug_rnglists") (plain_content t.ranges))
                  (record { name = string (codes ".debug_rnglists") refl; alignment = refl }),
            ),
          ),
        ),
      ),
    )

pub entries_made : (t : DebugTables) (entries : List TreeItem) (declared : List Abbreviation) (before one two : List LinkableSection)
    (a b : LinkableSection) → entries ≡ t.entries → declared ≡ abbreviations_of entries → one ≡ before ++ a ∷ [] → two ≡ one ++ b ∷ []
    → a ≡ debug_section (codes ".debug_abbrev") (plain_content (abbreviation_section declared))
    → b ≡ debug_section (codes ".debug_info") (content_of (unit_pieces (unit_sections t.frames) declared entries))
    → two ≡ before ++ declaration_section t ∷ entry_section t ∷ []
entries_made t entries declared before one two a b same are is_one is_two is_a is_b =
    let all : declared ≡ abbreviations_of t.entries = are ∙ ap (λ (xs : List TreeItem). abbreviations_of xs) same in
    is_two
    ∙ (λ i. is_one i ++ b ∷ [])
    ∙ append_assoc before (a ∷ []) (b ∷ [])
    ∙ (λ i. before ++ is_a i ∷ is_b i ∷ [])
    ∙ (λ i. before ++ debug_section (codes ".debug_abbrev") (plain_content (abbreviation_section (all i)))
    ∷ debug_section (codes ".debug_info") (content_of (unit_pieces (unit_sections t.frames) (all i) (same i))) ∷ [])

pub all_sections_made : (rs : List Relocation) (text lists : List ℕ) (t : DebugTables) (none one two three four five six : List LinkableSection)
    (a c d e : LinkableSection) → none ≡ [] → one ≡ none ++ a ∷ [] → two ≡ one ++ declaration_section t ∷ entry_section t ∷ [] → three ≡ two ++ c ∷ []
    → four ≡ three ++ d ∷ [] → five ≡ four ++ frame_sections t.frames → six ≡ five ++ e ∷ [] → a ≡ text_section text rs
    → c ≡ debug_section (codes ".debug_line") (content_of (line_pieces TEXT t.rows)) → d ≡ debug_section (codes ".debug_loclists") (plain_content lists)
    → e ≡ debug_section (codes ".debug_rnglists") (plain_content t.ranges) → six ≡ sections_by rs text lists t
all_sections_made rs text lists t none one two three four five six a c d e is_none is_one is_two is_three is_four is_five is_six is_a is_c is_d is_e =
    is_six
    ∙ (λ i. (is_five
    ∙ (λ j. (is_four
    ∙ (λ k. (is_three
    ∙ (λ l. (is_two ∙ (λ m. (is_one ∙ (λ n. is_none n ++ is_a n ∷ [])) m ++ declaration_section t ∷ entry_section t ∷ [])) l ++ is_c l ∷ [])) k
    ++ is_d k ∷ [])) j ++ frame_sections t.frames)) i ++ is_e i ∷ [])

-- ---- registers whose values a function may lose

pub lost_undefined : AreUndefined LOST
lost_undefined = record { each = All-from_recursion MayBeLost LOST lost_each; few = omega arith }
  where
    low : (r : ℕ) → r < 32 → is_fixed r ≡ false → MayBeLost r
    low r lt own = (lt, own)

    lost_each : AllByRecursion MayBeLost LOST
    lost_each = (
      low 5 (omega arith) refl,
      (
        low 6 (omega arith) refl,
        (
          low 7 (omega arith) refl,
          (
            low 10 (omega arith) refl,
            (
              low 11 (omega arith) refl,
              (
                low 12 (omega arith) refl,
                (
                  low 13 (omega arith) refl,
                  (
                    low 14 (omega arith) refl,
                    (
                      low 15 (omega arith) refl,
                      (
                        low 16 (omega arith) refl,
                        (
                          low 17 (omega arith) refl,
                          (
                            low 28 (omega arith) refl,
                            (
                              low 29 (omega arith) refl,
                              (
                                low 30 (omega arith) refl,
                                (
                                  low 31 (omega arith) refl,
                                  tt,
                                ),
                              ),
                            ),
                          ),
                        ),
                      ),
                    ),
                  ),
                ),
              ),
            ),
          ),
        ),
      ),
    )

-- ---- symbols

none_undefined : (rs : List Reference) → none_local (map undefined_symbol rs) ≡ true
none_undefined [] = refl
none_undefined (r ∷ rs) = none_undefined rs

-- the symbols of functions are local, or none of them is
abbrev AreLocal : List Symbol → Type 0
AreLocal ss = AllByRecursion (λ s. is_local s.binding ≡ true) ss

local_append : (ss more : List Symbol) → AreLocal ss → AreLocal more → AreLocal (ss ++ more)
local_append [] more all others = others
local_append (s ∷ ss) more all others = (all.0, local_append ss more all.1 others)

local_used : (known ss : List Symbol) → AreLocal known → AreLocal ss → AreLocal (first_uses have_one_name known ss)
local_used known [] all others = all
local_used known (s ∷ ss) all others = local_used (with_new have_one_name known s) ss (by (list_any (have_one_name s) known)) others.1
  where
    by : (b : Bool) → AreLocal (if b then known else known ++ s ∷ [])
    by true = all
    by false = local_append known (s ∷ []) all (others.0, tt)

module _ (linkages : List LinkedName) where
  bound_local : (functions : List ListedFunction) → AreLocal (bound_symbols true linkages functions)
  bound_local [] = tt
  bound_local (f ∷ functions) =
      local_append (bound_symbol true linkages f) (bound_symbols true linkages functions) (by (binding_named linkages f.name)) (bound_local functions)
    where
      by : (b : Binding) → AreLocal (if_wanted (is_local b) (with_binding b (defined_symbol f)))
      by Local = (refl, tt)
      by Global = tt
      by Weak = tt

  bound_none : (functions : List ListedFunction) → none_local (bound_symbols false linkages functions) ≡ true
  bound_none [] = refl
  bound_none (f ∷ functions) =
      none_append (bound_symbol false linkages f) (bound_symbols false linkages functions) (by (binding_named linkages f.name)) (bound_none functions)
    where
      by : (b : Binding) → none_local (if_wanted (not (is_local b)) (with_binding b (defined_symbol f))) ≡ true
      by Local = refl
      by Global = refl
      by Weak = refl

-- local symbols stand first
first_append : (ss more : List Symbol) → locals_first ss ≡ true → none_local more ≡ true → locals_first (ss ++ more) ≡ true
first_append [] more first none = first_of more none
first_append (s ∷ ss) more first none = by (is_local s.binding) first (λ e. first_append ss more e none) (λ e. none_append ss more e none)
  where
    by : (b : Bool) → (if b then locals_first ss else none_local ss) ≡ true → (locals_first ss ≡ true → locals_first (ss ++ more) ≡ true)
        → (none_local ss ≡ true → none_local (ss ++ more) ≡ true) → (if b then locals_first (ss ++ more) else none_local (ss ++ more)) ≡ true
    by true e firsts nones = firsts e
    by false e firsts nones = nones e

first_used : (known ss : List Symbol) → locals_first known ≡ true → none_local ss ≡ true → locals_first (first_uses have_one_name known ss) ≡ true
first_used known [] first none = first
first_used known (s ∷ ss) first none =
    let parts = none_parts s ss none in
    first_used (with_new have_one_name known s) ss (by parts.0 (list_any (have_one_name s) known)) parts.1
  where
    by : is_local s.binding ≡ false → (b : Bool) → locals_first (if b then known else known ++ s ∷ []) ≡ true
    by e true = first
    by e false = first_append known (s ∷ []) first (none_more s [] e refl)

all_local : (ss : List Symbol) → AreLocal ss → locals_first ss ≡ true
all_local [] all = refl
all_local (s ∷ ss) all = ap (λ b. if b then locals_first ss else none_local ss) all.0 ∙ all_local ss all.1

named_first : (linkages : List LinkedName) (functions : List ListedFunction) → locals_first (named_symbols linkages functions) ≡ true
named_first linkages functions =
    let first : List Symbol = bound_symbols true linkages functions in
    let others : List Symbol = bound_symbols false linkages functions in
    let undefined : List Symbol = map undefined_symbol (references functions) in
    let begun : List Symbol = first_uses have_one_name [] first in
    ap locals_first (uses_append have_one_name [] (first ++ others) undefined
    ∙ ap (λ (ss : List Symbol). first_uses have_one_name ss undefined) (uses_append have_one_name [] first others))
    ∙ first_used (first_uses have_one_name begun others) undefined
    (first_used begun others (all_local begun (local_used [] first tt (bound_local linkages functions))) (bound_none linkages functions))
    (none_undefined (references functions))

behind_sections : (k : ℕ) (sections : List LinkableSection) (ss : List Symbol) → locals_first ss ≡ true
    → locals_first (section_symbols k sections ++ ss) ≡ true
behind_sections k [] ss first = first
behind_sections k (s ∷ sections) ss first = behind_sections (suc k) sections ss first

pub locals : (sections : List LinkableSection) (linkages : List LinkedName) (functions : List ListedFunction)
    → LocalsFirst (section_symbols 1 sections ++ named_symbols linkages functions)
locals sections linkages functions = behind_sections 1 sections (named_symbols linkages functions) (named_first linkages functions)

abbrev IsNamedSymbol : Symbol → Type 0
IsNamedSymbol s = IsName s.name

all_behind : (ss : List Symbol) (s : Symbol) → AllByRecursion IsNamedSymbol ss → IsNamedSymbol s → AllByRecursion IsNamedSymbol (ss ++ s ∷ [])
all_behind [] s all is = (is, tt)
all_behind (t ∷ ss) s all is = (all.0, all_behind ss s all.1 is)

all_with : (known : List Symbol) (s : Symbol) → AllByRecursion IsNamedSymbol known → IsNamedSymbol s
    → AllByRecursion IsNamedSymbol (with_new have_one_name known s)
all_with known s all is = by (list_any (have_one_name s) known)
  where
    by : (b : Bool) → AllByRecursion IsNamedSymbol (if b then known else known ++ s ∷ [])
    by true = all
    by false = all_behind known s all is

all_used : (known ss : List Symbol) → AllByRecursion IsNamedSymbol known → AllByRecursion IsNamedSymbol ss
    → AllByRecursion IsNamedSymbol (first_uses have_one_name known ss)
all_used known [] all others = all
all_used known (s ∷ ss) all others = all_used (with_new have_one_name known s) ss (all_with known s all others.0) others.1

all_append : (ss more : List Symbol) → AllByRecursion IsNamedSymbol ss → AllByRecursion IsNamedSymbol more → AllByRecursion IsNamedSymbol (ss ++ more)
all_append [] more all others = others
all_append (s ∷ ss) more all others = (all.0, all_append ss more all.1 others)

all_bound : (local : Bool) (linkages : List LinkedName) (functions : List ListedFunction) → AllByRecursion (λ f. IsSymbolName f.name) functions
    → AllByRecursion IsNamedSymbol (bound_symbols local linkages functions)
all_bound local linkages [] all = tt
all_bound local linkages (f ∷ functions) all =
    all_append (bound_symbol local linkages f) (bound_symbols local linkages functions)
    (by (is_wanted local (is_local (binding_named linkages f.name)))) (all_bound local linkages functions all.1)
  where
    by : (b : Bool) → AllByRecursion IsNamedSymbol (if_wanted b (with_binding (binding_named linkages f.name) (defined_symbol f)))
    by true = (all.0.string, tt)
    by false = tt

all_defined : (linkages : List LinkedName) (functions : List ListedFunction) → AllByRecursion (λ f. IsSymbolName f.name) functions
    → AllByRecursion IsNamedSymbol (function_symbols linkages functions)
all_defined linkages functions all =
    all_append (bound_symbols true linkages functions) (bound_symbols false linkages functions) (all_bound true linkages functions all)
    (all_bound false linkages functions all)

all_referred : (rs : List Reference) → AllByRecursion (λ r. IsSymbolName r.name) rs → AllByRecursion IsNamedSymbol (map undefined_symbol rs)
all_referred [] all = tt
all_referred (r ∷ rs) all = (all.0.string, all_referred rs all.1)

all_sections : (k : ℕ) (sections : List LinkableSection) (ss : List Symbol) → AllByRecursion IsNamedSymbol ss
    → AllByRecursion IsNamedSymbol (section_symbols k sections ++ ss)
all_sections k [] ss all = all
all_sections k (s ∷ sections) ss all = (All-nil (λ (byte : ℕ). 0 < byte), all_sections (suc k) sections ss all)

pub symbols_named : (sections : List LinkableSection) (linkages : List LinkedName) (functions : List ListedFunction) → HaveLinkableNames functions
    → All (λ s. IsName s.name) (section_symbols 1 sections ++ named_symbols linkages functions)
symbols_named sections linkages functions names =
    All-from_recursion IsNamedSymbol (section_symbols 1 sections ++ named_symbols linkages functions)
    (all_sections 1 sections (named_symbols linkages functions)
    (all_used [] (function_symbols linkages functions ++ map undefined_symbol (references functions)) tt
    (all_append (function_symbols linkages functions) (map undefined_symbol (references functions))
    (all_defined linkages functions (recursion_from_All (λ f. IsSymbolName f.name) functions names.defined))
    (all_referred (references functions) (recursion_from_All (λ r. IsSymbolName r.name) (references functions) names.referred)))))

-- ---- the object

module _ (P : Section → Type 0) (own : (s : LinkableSection) → IsPlain s → P (content_section s))
    (relocated : (table k : ℕ) (s : LinkableSection) → IsPlain s → AllByRecursion P (relocation_section_if table k s.name s.content.relocations)) where
  contents_are : (sections : List LinkableSection) → AllByRecursion IsPlain sections → (more : List Section) → AllByRecursion P more
      → AllByRecursion P (map content_section sections ++ more)
  contents_are [] all more others = others
  contents_are (s ∷ sections) all more others = (own s all.0, contents_are sections all.1 more others)

  joined : (ss more : List Section) → AllByRecursion P ss → AllByRecursion P more → AllByRecursion P (ss ++ more)
  joined [] more all others = others
  joined (s ∷ ss) more all others = (all.0, joined ss more all.1 others)

  relocations_are : (table k : ℕ) (sections : List LinkableSection) → AllByRecursion IsPlain sections → AllByRecursion P (relocation_sections table k sections)
  relocations_are table k [] all = tt
  relocations_are table k (s ∷ sections) all =
      joined (relocation_section_if table k s.name s.content.relocations) (relocation_sections table (suc k) sections) (relocated table k s all.0)
      (relocations_are table (suc k) sections all.1)

  all_are : (flags : ℕ) (sections : List LinkableSection) (symbols : List Symbol) → All IsPlain sections
      → AllByRecursion P (stack_section ∷ symbol_section (suc (table_index sections)) symbols ∷ name_section symbols ∷ [])
      → All P (object_of flags sections symbols).sections
  all_are flags sections symbols all last =
      let each = recursion_from_All IsPlain sections all in
      let relocations : List Section = relocation_sections (table_index sections) 1 sections in
      let end : List Section = stack_section ∷ symbol_section (suc (table_index sections)) symbols ∷ name_section symbols ∷ [] in
      All-from_recursion P ((map content_section sections ++ relocations) ++ end)
      (joined (map content_section sections ++ relocations) end
      (contents_are sections each relocations (relocations_are (table_index sections) 1 sections each)) last)

joined_name : (front name : List ℕ) → AllByRecursion (λ (byte : ℕ). 0 < byte) front → AllByRecursion (λ (byte : ℕ). 0 < byte) name
    → AllByRecursion (λ (byte : ℕ). 0 < byte) (front ++ name)
joined_name [] name front_is is = is
joined_name (byte ∷ front) name front_is is = (front_is.0, joined_name front name front_is.1 is)

relocated_named : (table k : ℕ) (s : LinkableSection) → IsPlain s → AllByRecursion IsNamed (relocation_section_if table k s.name s.content.relocations)
relocated_named table k s is = by s.content.relocations
  where
    by : (rs : List Relocation) → AllByRecursion IsNamed (relocation_section_if table k s.name rs)
    by [] = tt
    by (r ∷ rs) = (
      All-from_recursion (λ (byte : ℕ). 0 < byte) (codes ".rela" ++ s.name) (joined_name (codes ".rela") s.name
          (recursion_from_All (λ (byte : ℕ). 0 < byte) (codes ".rela") (string (codes ".rela") refl))
          (recursion_from_All (λ (byte : ℕ). 0 < byte) s.name is.name)),
      tt,
    )

relocated_aligned : (table k : ℕ) (s : LinkableSection) → IsPlain s → AllByRecursion IsAligned (relocation_section_if table k s.name s.content.relocations)
relocated_aligned table k s is = by s.content.relocations
  where
    by : (rs : List Relocation) → AllByRecursion IsAligned (relocation_section_if table k s.name rs)
    by [] = tt
    by (r ∷ rs) = (refl, tt)

pub all_named : (flags : ℕ) (sections : List LinkableSection) (symbols : List Symbol) → All IsPlain sections
    → All IsNamed (object_of flags sections symbols).sections
all_named flags sections symbols all =
    all_are IsNamed (λ s is. is.name) relocated_named flags sections symbols all
    (string (codes ".note.GNU-stack") refl, (string (codes ".symtab") refl, (string (codes ".strtab") refl, tt)))

pub all_aligned : (flags : ℕ) (sections : List LinkableSection) (symbols : List Symbol) → All IsPlain sections
    → All IsAligned (object_of flags sections symbols).sections
all_aligned flags sections symbols all =
    all_are IsAligned (λ s is. is.alignment) relocated_aligned flags sections symbols all (refl, (refl, (refl, tt)))

one_few : (table k : ℕ) (name : List ℕ) (rs : List Relocation) → length (relocation_section_if table k name rs) ≤ 1
one_few table k name [] = omega arith
one_few table k name (r ∷ rs) = omega arith

relocations_few : (table k : ℕ) (sections : List LinkableSection) → length (relocation_sections table k sections) ≤ length sections
relocations_few table k [] = omega arith
relocations_few table k (s ∷ sections) =
    let one : List Section = relocation_section_if table k s.name s.content.relocations in
    omega (
      arith,
      length-append one (relocation_sections table (suc k) sections),
      one_few table k s.name s.content.relocations,
      relocations_few table (suc k) sections,
    )

pub object_few : (flags : ℕ) (sections : List LinkableSection) (symbols : List Symbol) → AreFew sections
    → length (object_of flags sections symbols).sections + 2 < 0xff00
object_few flags sections symbols are =
    let contents : List Section = map content_section sections in
    let relocations : List Section = relocation_sections (table_index sections) 1 sections in
    let end : List Section = stack_section ∷ symbol_section (suc (table_index sections)) symbols ∷ name_section symbols ∷ [] in
    omega (
      arith,
      are,
      length-append (contents ++ relocations) end,
      length-append contents relocations,
      length-map sections content_section,
      relocations_few (table_index sections) 1 sections,
    )

-- ---- objects that are too large

pub many_symbols : (flags : ℕ) (sections : List LinkableSection) (symbols : List Symbol) → 2 ^ 27 ≤ length symbols
    → 2 ^ 31 ≤ length (spelling (object_of flags sections symbols))
many_symbols flags sections symbols many =
    let front : List Section = map content_section sections ++ relocation_sections (table_index sections) 1 sections in
    let table : Section = symbol_section (suc (table_index sections)) symbols in
    through (2 ^ 31) (length (symbol_table symbols)) (length (spelling (object_of flags sections symbols)))
    (large (length symbols) (length (symbol_table symbols)) many (length-table symbols))
    (within_file (object_of flags sections symbols) (front ++ stack_section ∷ []) table (name_section symbols ∷ [])
    (sym (append_assoc front (stack_section ∷ []) (table ∷ name_section symbols ∷ []))))
  where
    large : (n table : ℕ) → 2 ^ 27 ≤ n → table ≡ 24 + 24 * n → 2 ^ 31 ≤ table
    large n table many is = omega (arith, many, is)

pub long_names : (flags : ℕ) (sections : List LinkableSection) (symbols : List Symbol) → 2 ^ 31 ≤ length (symbol_names symbols)
    → 2 ^ 31 ≤ length (spelling (object_of flags sections symbols))
long_names flags sections symbols long =
    let front : List Section = map content_section sections ++ relocation_sections (table_index sections) 1 sections in
    let table : Section = symbol_section (suc (table_index sections)) symbols in
    through (2 ^ 31) (length (symbol_names symbols)) (length (spelling (object_of flags sections symbols))) long
    (within_file (object_of flags sections symbols) (front ++ stack_section ∷ table ∷ []) (name_section symbols) []
    (sym (append_assoc front (stack_section ∷ table ∷ []) (name_section symbols ∷ []))))

pub many_named : (flags : ℕ) (sections : List LinkableSection) (named : List Symbol) → 2 ^ 27 ≤ length named
    → 2 ^ 31 ≤ length (spelling (object_of flags sections (section_symbols 1 sections ++ named)))
many_named flags sections named many =
    many_symbols flags sections (section_symbols 1 sections ++ named) (omega (arith, many, length-append (section_symbols 1 sections) named))

-- ---- what was written

pub is_linkable : (flags : ℕ) (o : Output) (lists : List ℕ) (t : DebugTables) (sections : List LinkableSection) (symbols : List Symbol)
    (r : Result (List ℕ) ObjectError) → HaveLinkableNames o.functions → sections ≡ sections_of o lists t → symbols ≡ symbols_of o lists t
    → IfOk r (IsLinkableFile flags sections symbols) → IfOk r (IsLinkableObject flags o lists t)
is_linkable flags o lists t sections symbols (Ok bytes) names first second is = record {
  names = names;
  file = subst (λ (ss : List Symbol). IsLinkableFile flags (sections_of o lists t) ss bytes) second
      (subst (λ (ss : List LinkableSection). IsLinkableFile flags ss symbols bytes) first is);
}
is_linkable flags o lists t sections symbols (Err e) names first second is = tt

pub is_large : (flags : ℕ) (o : Output) (lists : List ℕ) (t : DebugTables) (sections : List LinkableSection) (symbols : List Symbol)
    → HaveLinkableNames o.functions → sections ≡ sections_of o lists t → symbols ≡ symbols_of o lists t
    → 2 ^ 31 ≤ length (spelling (object_of flags sections symbols)) → HasLargeLinkable flags o lists t
is_large flags o lists t sections symbols names first second large = record {
  names = names;
  large = subst (λ (ss : List Symbol). 2 ^ 31 ≤ length (spelling (object_of flags (sections_of o lists t) ss))) second
      (subst (λ (ss : List LinkableSection). 2 ^ 31 ≤ length (spelling (object_of flags ss symbols))) first large);
}

pub none_of : (size : Option ℕ) → is_some size ≡ false → IsNone size
none_of None e = refl
none_of (Some n) e = absurd (true≢false e)

-- an object has few sections, so its file is too large
pub file_large : (flags : ℕ) (sections : List LinkableSection) (symbols : List Symbol) (object : Object) → object ≡ object_of flags sections symbols
    → AreFew sections → (2 ^ 31 ≤ length (spelling object)) ⊎ (0xff00 ≤ length object.sections + 2)
    → 2 ^ 31 ≤ length (spelling (object_of flags sections symbols))
file_large flags sections symbols object same are (inl large) = subst (λ (x : Object). 2 ^ 31 ≤ length (spelling x)) same large
file_large flags sections symbols object same are (inr many) =
    let few : length (object_of flags sections symbols).sections + 2 < 0xff00 = object_few flags sections symbols are in
    let long : length object.sections ≡ length (object_of flags sections symbols).sections = ap (λ (x : Object). length x.sections) same in
    let none : ⊥ = omega (arith, many, few, long) in absurd none

-- the file that was written
pub is_file : (flags : ℕ) (sections : List LinkableSection) (symbols : List Symbol) (object : Object) (bytes : List ℕ)
    → object ≡ object_of flags sections symbols → IsObject object bytes → All (λ s. All FitsRelocation s.content.relocations) sections → All FitsSymbol symbols → LocalsFirst symbols
    → length (symbol_names symbols) < 2 ^ 32 → IsLinkableFile flags sections symbols bytes
is_file flags sections symbols object bytes same is relocations fits first long = record {
  object = subst (λ (x : Object). IsObject x bytes) same is;
  relocations = relocations;
  symbols_are = record { table = refl; names = refl; fits = fits; locals = first; long = long };
}
