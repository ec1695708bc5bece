-- An object where a linker places it.
use Rattle.std.specs.Prelude.{All, Option, Some, None, cond, codes, is_some}
use Rattle.std.specs.List.{AllByRecursion, flat_map, list_any, position_or_len}
use Rattle.std.proofs.Common.{◌≡◌, ℕ, suc, ◌+◌, ◌<◌, ◌≤◌, ◌%◌, ◌^◌, ℤ, pos, negsuc, Bool, true, false, not, ◌||◌, List, [], ◌∷◌, ◌++◌, length, map}
use Rattle.std.proofs.Common.{arith, ap, sym, ◌∙◌, refl, subst, length-append, true≢false}
use Rattle.std.proofs.lemmas.List.{map-append, length-map}
use Rattle.std.proofs.lemmas.List.Concat.{flat_map-append}
use Rattle.std.proofs.lemmas.List.Elements.{All-from_recursion}
use Rattle.rv64_instr.specs.declared.symbol.Half.{Half}
use Rattle.rv64_instr.specs.declared.symbol.LinkedAddress.{LinkedAddress}
use Rattle.rv64_instr.specs.Arithmetic.{word}
use Rattle.rv64_instr.specs.LocationEffects.{part_named, part_address, is_named, way_has_site, has_site}
use Rattle.rv64_instr.specs.Row.{Row, Callee, Named, Held, Way, Back, Tail, Never, row_of}
use Rattle.rv64_instr.specs.Row as row
use Rattle.rv64_instr.specs.View.{Class, class_of}
use Rattle.mir_func.specs.declared.item.ItemKind.{ItemKind}
use Rattle.mir_func.specs.declared.item.ItemKind.TheVariants.{Code, Mark, Phi}
use Rattle.sem_mir.specs.Align.{is_code}
use Rattle.sem_machine.specs.Image.{CodeLine, line_of}
use Rattle.listing_text.specs.declared.output.Line.{Line}
use Rattle.listing_text.specs.declared.output.Line.TheVariants.{Item as OfItem, Skip}
use Rattle.listing_text.specs.declared.output.ListedFunction.{ListedFunction}
use Rattle.listing_text.specs.declared.output.Output.{Output}
use Rattle.compile_theorem.specs.listing_meaning.Program.{lines_of, code_lines, image_of, past_item, start_of, LinesLie}
use Rattle.compile_theorem.specs.OutputProperties.{FunctionsLie, IsLaidOut, AreLaidOut}
use Rattle.compile_theorem.specs.Source.{SourceFunction, OfEach}
use Rattle.dwarf_frame.specs.declared.table.FrameDescription.{FrameDescription}
use Rattle.dwarf_line_table.specs.Files.{with_new, first_uses}
use Rattle.dwarf_line_table.proofs.FirstUses.{joined, lengthened, uses_append}
use Rattle.dwarf_line_table.proofs.Keys.{name_same}
use Rattle.elf_object.specs.declared.relocations.Relocation.{Relocation}
use Rattle.elf_object.specs.declared.symbols.Symbol.{Symbol}
use Rattle.elf_relocation.specs.Kinds.{number_of}
use Rattle.elf_relocation.specs.Applied.{applied}
use Rattle.elf_content.specs.Content.{symbol_address}
use Rattle.elf_linkable.specs.Linkable.{section_symbols}
use Rattle.elf_linkable.specs.declared.section.LinkableSection.{LinkableSection}
use Rattle.rv64_relocation.specs.Code.{half_kind, kind_by}
use Rattle.debug_placement.proofs.FrameProofs.{frames_placed}
use Rattle.prologue_lines.proofs.Placed.{lines_placed}
use Rattle.entry_placement.proofs.Placing.{entries_placed, abbreviations_moved}
use Rattle.entry_placement.specs.dwarf_entry.Declarations.{abbreviations_of}
use Rattle.text_placement.specs.Placed.{SymbolPlaces, PlacedLine, site_name, way_name, callee_name, relocations_by, line_relocations, Lie}
use Rattle.text_placement.specs.Placed.{HasNumber, IsPlacedLine, AreLines, NamesFunctions, text_relocations}
use Rattle.text_placement.proofs.LineProofs.{lines_placed as lines_run}
use Rattle.object_command.specs.Object.{have_one_name}
use Rattle.linkable_command.specs.declared.reference.Reference.{Reference}
use Rattle.linkable_command.specs.declared.tables.DebugTables.{DebugTables}
use Rattle.linkable_command.specs.References.{reference_by, line_references, references_in, references}
use Rattle.linkable_command.specs.Symbols.{function_symbols, undefined_symbol, named_symbols, relocation_by}
use Rattle.linkable_command.specs.Linkable.{TEXT, ENTRIES, ROWS, FRAME, LOST, section_count, unit_sections, plain_content, debug_section, frame_sections}
use Rattle.linkable_command.specs.Linkable.{sections_of, symbols_of, output_relocations, AreWritable}
use Rattle.linkable_placement.specs.Placement.{Placement, base_of, address_of, addresses_of, places_of, placed_line, output_lines, FramesFit}
use Rattle.linkable_placement.specs.Placement.{Fits, FramesMoved, IsPlaced}

-- ---- lines with two words

callee_sited : (c : Callee) → is_named c ≡ is_some (callee_name c)
callee_sited (Named name) = refl
callee_sited (Held r) = refl

way_sited : (w : Way Callee) → way_has_site w ≡ is_some (way_name w)
way_sited Back = refl
way_sited (Tail callee) = callee_sited callee
way_sited (Never callee) = callee_sited callee

sited : (r : Row) → has_site r ≡ is_some (site_name r)
sited (row.Fixes rd n) = refl
sited (row.Moves rd rs) = refl
sited (row.Sets rd op a b) = refl
sited (row.Addresses rd n offset) = refl
sited (row.Loads rd op base offset) = refl
sited (row.Stores op rs base offset) = refl
sited (row.LoadsSlot rd n) = refl
sited (row.StoresSlot rs n) = refl
sited (row.Branches op a b target) = refl
sited (row.Jumps target) = refl
sited (row.Calls call) = callee_sited call.callee
sited (row.Returns ending) = way_sited ending.way
sited row.Unfit = refl

no_address : (a : ℕ) → None ≡ Some a → ⊥
no_address a e = let f : ⊥ = cc in f

same_address : (a b : ℕ) → Some a ≡ Some b → a ≡ b
same_address a b e = cc

-- ---- lines fill the text

module _ (places : SymbolPlaces) (end : ℕ) where
  -- the code lines of lines, and others behind them
  abbrev placed_behind : List Line → List PlacedLine → List PlacedLine
  placed_behind ls more = map (placed_line places) (flat_map code_lines ls) ++ more

  lines_lie : (a b : ℕ) (ls : List Line) (more : List PlacedLine) → LinesLie a ls b → Lie b more end → Lie a (placed_behind ls more) end
  lines_lie a b [] more lies rest = subst (λ (n : ℕ). Lie n more end) (sym lies) rest
  lines_lie a b (Skip s ∷ ls) more lies rest = (lies.0, lines_lie (a + 4) b ls more lies.1 rest)
  lines_lie a b (OfItem l ∷ ls) more lies rest = by l.item.kind l.address lies.0 lies.1 (λ n on. lines_lie n b ls more on rest)
    where
      by : (kind : ItemKind) (address : Option ℕ) → address ≡ start_of a (is_code kind) → LinesLie (past_item a kind) ls b
          → ((n : ℕ) → LinesLie n ls b → Lie n (placed_behind ls more) end)
          → Lie a (map (placed_line places) (line_of address l.item.origin kind ++ flat_map code_lines ls) ++ more) end
      by (Code i k) None e on next = absurd (no_address a e)
      by (Code i k) (Some x) e on next = (
        same_address x a e,
        subst (λ (t : Bool). Lie (a + cond t 8 4) (placed_behind ls more) end) (sited (row_of i)) (next (a + cond (has_site (row_of i)) 8 4) on),
      )
      by (Mark v m) None e on next = next a on
      by (Mark v m) (Some x) e on next = absurd (no_address x (sym e))
      by (Phi p k) None e on next = next a on
      by (Phi p k) (Some x) e on next = absurd (no_address x (sym e))

abbrev LiesOwn : ListedFunction → Type 0
LiesOwn f = LinesLie f.low (lines_of f) f.high

functions_lie : (places : SymbolPlaces) (o : Output) (a b : ℕ) (fs : List ListedFunction) → AllByRecursion LiesOwn fs → FunctionsLie a fs b
    → Lie a (flat_map (λ f. map (placed_line places) (image_of o f).lines) fs) b
functions_lie places o a b [] all lies = lies
functions_lie places o a b (f ∷ fs) all lies =
    let rest : List PlacedLine = flat_map (λ g. map (placed_line places) (image_of o g).lines) fs in
    subst (λ (n : ℕ). Lie n (map (placed_line places) (flat_map code_lines (lines_of f)) ++ rest) b) lies.0
    (lines_lie places b f.low f.high (lines_of f) rest all.0 (functions_lie places o f.high b fs all.1 lies.1))

source_at : (sources : List SourceFunction) (fs : List ListedFunction) → OfEach IsLaidOut sources fs → AllByRecursion LiesOwn fs
source_at sources [] of = tt
source_at [] (f ∷ fs) of = let short : ⊥ = omega (arith, of.as_many) in absurd short
source_at (s ∷ sources) (f ∷ fs) of = (
  (of.each 0 s f refl refl).lines,
  source_at sources fs (record { as_many = omega (arith, of.as_many); each = λ n x g at also. of.each (suc n) x g at also }),
)

-- ---- the relocations of references are those of the lines

no_more : (z : ℤ) → word z ≡ (word z + 0) % 2 ^ 64
no_more (pos n) = omega arith
no_more (negsuc n) = omega arith

module _ (before : ℕ) (named : List Symbol) where
  same_by : (a : ℕ) (c : Class) (h : Option (Half × LinkedAddress)) (site : Option (List ℕ))
      → map (relocation_by before named) (reference_by a (kind_by c h) (part_address h) site) ≡ relocations_by (places_of before named) a c h site
  same_by a c None None = refl
  same_by a c None (Some name) = refl
  same_by a c (Some h) site =
      ap (λ (n : ℕ). record {
        offset = a;
        symbol = (places_of before named).number h.1.symbol;
        relocation_type = number_of (half_kind h.0 c);
        addend = n;
      } ∷ []) (no_more h.1.addend)

  same_line : (l : CodeLine) → map (relocation_by before named) (line_references l) ≡ line_relocations (placed_line (places_of before named) l)
  same_line l =
      same_by l.address (class_of (row_of l.instruction)) (part_named (row_of l.instruction)) (site_name (row_of l.instruction))

  same_lines : (ls : List CodeLine)
      → map (relocation_by before named) (flat_map line_references ls) ≡ flat_map line_relocations (map (placed_line (places_of before named)) ls)
  same_lines [] = refl
  same_lines (l ∷ ls) =
      map-append (relocation_by before named) (line_references l) (flat_map line_references ls)
      ∙ ap (λ (rs : List Relocation). rs ++ map (relocation_by before named) (flat_map line_references ls)) (same_line l)
      ∙ ap (λ (rs : List Relocation). line_relocations (placed_line (places_of before named) l) ++ rs) (same_lines ls)

  nested : (ls : List Line) → flat_map references_in ls ≡ flat_map line_references (flat_map code_lines ls)
  nested [] = refl
  nested (l ∷ ls) =
      ap (λ (rs : List Reference). references_in l ++ rs) (nested ls)
      ∙ sym (flat_map-append line_references (code_lines l) (flat_map code_lines ls))

  same_relocations : (o : Output) (fs : List ListedFunction) → map (relocation_by before named) (references fs)
      ≡ text_relocations (flat_map (λ f. map (placed_line (places_of before named)) (image_of o f).lines) fs)
  same_relocations o [] = refl
  same_relocations o (f ∷ fs) =
      let R : Reference → Relocation = relocation_by before named in
      let P : CodeLine → PlacedLine = placed_line (places_of before named) in
      let rest : List PlacedLine = flat_map (λ g. map P (image_of o g).lines) fs in
      map-append R (flat_map references_in (lines_of f)) (references fs)
      ∙ ap (λ (rs : List Reference). map R rs ++ map R (references fs)) (nested (lines_of f))
      ∙ ap (λ (rs : List Relocation). rs ++ map R (references fs)) (same_lines (flat_map code_lines (lines_of f)))
      ∙ ap (λ (rs : List Relocation). flat_map line_relocations (map P (flat_map code_lines (lines_of f))) ++ rs) (same_relocations o fs)
      ∙ sym (flat_map-append line_relocations (map P (flat_map code_lines (lines_of f))) rest)

-- ---- each relocation has a symbol

any_before : (p : Symbol → Bool) (ss : List Symbol) → list_any p ss ≡ true → position_or_len p ss < length ss
any_before p [] e = absurd (true≢false (sym e))
any_before p (s ∷ ss) e = by (p s) e (any_before p ss)
  where
    by : (b : Bool) → (b || list_any p ss) ≡ true → (list_any p ss ≡ true → position_or_len p ss < length ss)
        → cond (not b) (1 + position_or_len p ss) 0 < suc (length ss)
    by true found rest = omega arith
    by false found rest = omega (arith, rest found)

any_front : (p : Symbol → Bool) (ss more : List Symbol) → list_any p ss ≡ true → list_any p (ss ++ more) ≡ true
any_front p [] more e = absurd (true≢false (sym e))
any_front p (s ∷ ss) more e = by (p s) e (any_front p ss more)
  where
    by : (b : Bool) → (b || list_any p ss) ≡ true → (list_any p ss ≡ true → list_any p (ss ++ more) ≡ true) → (b || list_any p (ss ++ more)) ≡ true
    by true found rest = refl
    by false found rest = rest found

numbered : (before n : ℕ) (known : List Symbol) (rs : List Reference) (whole : List Symbol) → first_uses have_one_name known (map undefined_symbol rs) ≡ whole
    → before + length whole ≤ n → AllByRecursion (HasNumber n) (map (relocation_by before whole) rs)
numbered before n known [] whole e le = tt
numbered before n known (r ∷ rs) whole e le =
    let one : List Symbol = with_new have_one_name known (undefined_symbol r) in
    let long = lengthened have_one_name one (map undefined_symbol rs) in
    let there : list_any (have_one_name (undefined_symbol r)) whole ≡ true =
    ap (list_any (have_one_name (undefined_symbol r))) (sym e ∙ long.1)
    ∙ any_front (have_one_name (undefined_symbol r)) one long.0 (joined have_one_name (λ s. name_same s.name) known (undefined_symbol r)) in
    let inside : position_or_len (have_one_name (undefined_symbol r)) whole < length whole =
    any_before (have_one_name (undefined_symbol r)) whole there in
    ((omega arith, omega (arith, inside, le)), numbered before n one rs whole e le)

length-sections : (k : ℕ) (sections : List LinkableSection) → length (section_symbols k sections) ≡ length sections
length-sections k [] = refl
length-sections k (s ∷ sections) = ap (λ (n : ℕ). suc n) (length-sections (suc k) sections)

last_counted : (frames : Option (List FrameDescription)) (s : LinkableSection) → section_count frames ≡ 5 + length (frame_sections frames ++ s ∷ [])
last_counted None s = refl
last_counted (Some functions) s = refl

-- ---- the object

module _ (names : ℕ → List ℕ) (sources : List SourceFunction) (o : Output) (lists : List ℕ) (t : DebugTables) (laid : AreLaidOut names sources o)
    (writable : AreWritable t) (p : Placement) (fit : Fits p o lists t) where
  abbrev addresses : List ℕ
  addresses = addresses_of p o lists t

  abbrev before : ℕ
  before = section_count t.frames

  abbrev named : List Symbol
  named = named_symbols t.linkages o.functions

  symbols_counted : before + length named ≡ length addresses
  symbols_counted =
      let last : LinkableSection = debug_section (codes ".debug_rnglists") (plain_content t.ranges) in
      let many : length (sections_of o lists t) ≡ 5 + length (frame_sections t.frames ++ last ∷ []) = omega arith in
      omega (
        arith,
        many,
        length-map (symbols_of o lists t) (address_of p),
        length-append (section_symbols 1 (sections_of o lists t)) named,
        length-sections 1 (sections_of o lists t),
        last_counted t.frames last,
      )

  same : output_relocations o t ≡ text_relocations (output_lines o t)
  same = same_relocations before named o o.functions

  all_numbered : All (HasNumber (length addresses)) (text_relocations (output_lines o t))
  all_numbered =
      subst (All (HasNumber (length addresses))) same
      (All-from_recursion (HasNumber (length addresses)) (map (relocation_by before named) (references o.functions))
      (numbered before (length addresses) (first_uses have_one_name [] (function_symbols t.linkages o.functions)) (references o.functions) named
      (sym (uses_append have_one_name [] (function_symbols t.linkages o.functions) (map undefined_symbol (references o.functions))))
      (omega (arith, symbols_counted))))

  lie : Lie 0 (output_lines o t) (length o.text)
  lie = functions_lie (places_of before named) o 0 (length o.text) o.functions (source_at sources o.functions laid.each) laid.functions

  names_own : (ls : List CodeLine) (more : List PlacedLine) → AllByRecursion NamesFunctions more
      → AllByRecursion NamesFunctions (map (placed_line (places_of before named)) ls ++ more)
  names_own [] more rest = rest
  names_own (l ∷ ls) more rest = (λ name. refl, names_own ls more rest)

  all_own : (fs : List ListedFunction)
      → AllByRecursion NamesFunctions (flat_map (λ f. map (placed_line (places_of before named)) (image_of o f).lines) fs)
  all_own [] = tt
  all_own (f ∷ fs) =
      names_own (flat_map code_lines (lines_of f)) (flat_map (λ g. map (placed_line (places_of before named)) (image_of o g).lines) fs) (all_own fs)

  are_lines : AreLines (base_of p TEXT) addresses o.text (output_lines o t)
  are_lines = record {
    lie = lie;
    numbers = all_numbered;
    names = All-from_recursion NamesFunctions (output_lines o t) (all_own o.functions);
    addresses_fit = fit.symbols;
    fits = fit.text;
  }

  lines_placed_here : All (IsPlacedLine (base_of p TEXT) addresses o.text (applied (base_of p TEXT) addresses (output_relocations o t) o.text))
      (output_lines o t)
  lines_placed_here =
      subst (λ (rs : List Relocation). All (IsPlacedLine (base_of p TEXT) addresses o.text (applied (base_of p TEXT) addresses rs o.text)) (output_lines o t))
      (sym same) (lines_run (base_of p TEXT) addresses o.text (output_lines o t) are_lines)

  frames_moved : (frames : Option (List FrameDescription)) → FramesFit (symbol_address addresses TEXT) (symbol_address addresses FRAME) frames
      → FramesMoved p addresses frames
  frames_moved None fits = tt
  frames_moved (Some functions) fits = frames_placed LOST functions FRAME TEXT (base_of p FRAME) addresses fits.0 fits.1

  pub object_placed : IsPlaced p o lists t
  object_placed = record {
    lines = lines_placed_here;
    entries = entries_placed (unit_sections t.frames) (abbreviations_of t.entries) t.entries (base_of p ENTRIES) addresses fit.abbreviations fit.entries;
    same = abbreviations_moved (unit_sections t.frames) t.entries addresses;
    rows = lines_placed t.rows TEXT (base_of p ROWS) addresses writable.sequences fit.rows;
    frames = frames_moved t.frames fit.frames;
  }
