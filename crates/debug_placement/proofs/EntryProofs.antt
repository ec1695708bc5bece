-- The section of debugging information entries where the code and the sections that it refers to lie at other addresses.
use Rattle.std.specs.Prelude.{All}
use Rattle.std.specs.List.{AllByRecursion, flat_map}
use Rattle.std.specs.Int.{w16, w32, w64, to_le_bytes}
use Rattle.std.proofs.Common.{◌≡◌, ℕ, ◌+◌, ◌^◌, ◌<◌, List, [], ◌∷◌, ◌++◌, length, map, arith, ap, sym, ◌∙◌, refl, None}
use Rattle.std.proofs.Common.{append_assoc, append-nil, length-append}
use Rattle.std.proofs.lemmas.List.Elements.{All-from_recursion, recursion_from_All}
use Rattle.dwarf_base.specs.Leb.{uleb_of}
use Rattle.dwarf_info.specs.declared.kind.DieKind.TheVariants.{CompileUnit, Subprogram, UnitWithRanges}
use Rattle.dwarf_info.specs.declared.unit.FunctionEntry.{FunctionEntry}
use Rattle.dwarf_info.specs.declared.unit.Unit.{Unit as CompilationUnit}
use Rattle.dwarf_info.specs.declared.inlined.InlinedFunction.{InlinedFunction}
use Rattle.dwarf_info.specs.declared.inlined.InlinedUnit.{InlinedUnit}
use Rattle.dwarf_info.specs.Standard.{DW_LANG_C99, LOCLISTS_BASE, RNGLISTS_BASE}
use Rattle.dwarf_info.specs.Kinds.{code}
use Rattle.dwarf_info.specs.Entries.{entry, named, base_type, variable, subprogram, compile_unit, function, function_of, type_offset, tree, tree_of, spelling, header}
use Rattle.dwarf_info.specs.Inlined
use Rattle.dwarf_info.specs.Inlined.{unit_with_ranges, abstract_subprogram, call_bytes, calls_within, inlined_functions, inlined_tree, origin_offset}
use Rattle.dwarf_info.specs.Inlined.{inlined_spelling}
use Rattle.dwarf_info.proofs.TreeLemmas.{flat_map-map}
use Rattle.elf_relocation.specs.Applied.{applied}
use Rattle.elf_content.specs.declared.piece.Piece.{Piece}
use Rattle.elf_content.specs.declared.piece.Piece.TheVariants.{Fixed}
use Rattle.elf_content.specs.Content.{written, placed, placed_piece, relocations_from, symbol_address, IsWhole}
use Rattle.elf_content.proofs.Pieces.{content_placed}
use Rattle.debug_placement.specs.declared.sections.UnitSections.{UnitSections}
use Rattle.debug_placement.specs.Fields.{address_field, offset_field}
use Rattle.debug_placement.specs.Entries.{UnitPlaces, unit_places, header_front, header_in, moved_function, compile_unit_in, tree_in, spelling_in}
use Rattle.debug_placement.specs.Entries.{unit_with_ranges_in, moved_inlined, inlined_tree_in, inlined_spelling_in, FunctionPart, part_pieces, parts_pieces}
use Rattle.debug_placement.specs.Entries.{unit_front, front_pieces, part_of, info_pieces, inlined_part, inlined_parts, inlined_pieces, IsBelow, UnitFits}
use Rattle.debug_placement.specs.Entries.{HasRangesBelow}
use Rattle.debug_placement.proofs.Placing.{placed-append, address_placed, offset_placed}

-- ---- lists of one length

in_front : (a b back : List ℕ) → length a ≡ length b → length (a ++ back) ≡ length (b ++ back)
in_front a b back e = length-append a back ∙ ap (λ (n : ℕ). n + length back) e ∙ sym (length-append b back)

behind : (front a b : List ℕ) → length a ≡ length b → length (front ++ a) ≡ length (front ++ b)
behind front a b e = length-append front a ∙ ap (λ (n : ℕ). length front + n) e ∙ sym (length-append front b)

-- ---- functions

-- the bytes of a function whose address is moved, and of one as it is
abbrev part_bytes : (base : ℕ) → FunctionPart → List ℕ
part_bytes base x = entry (subprogram (moved_function base x.self)) ++ x.children

abbrev own_bytes : FunctionPart → List ℕ
own_bytes x = entry (subprogram x.self) ++ x.children

abbrev IsPartBelow : (base : ℕ) → FunctionPart → Type 0
IsPartBelow base x = IsBelow base x.self

part_placed : (place : ℕ) (addresses : List ℕ) (text : ℕ) (x : FunctionPart) → IsBelow (symbol_address addresses text) x.self
    → placed place addresses (part_pieces text x) ≡ part_bytes (symbol_address addresses text) x
unfolding entry
part_placed place addresses text x below =
    let front : List ℕ = uleb_of (code Subprogram) ++ (named x.self.name ++ 0 ∷ []) in
    let size : List ℕ = to_le_bytes w32 x.self.len in
    ap (λ (ys : List ℕ). front ++ (ys ++ ((size ++ x.children) ++ []))) (address_placed (place + length front) addresses text x.self.lo below)
    ∙ shape (uleb_of (code Subprogram)) (named x.self.name ++ 0 ∷ []) (to_le_bytes w64 (symbol_address addresses text + x.self.lo)) size x.children
  where
    shape : (a b c d e : List ℕ) → (a ++ b) ++ (c ++ ((d ++ e) ++ [])) ≡ (a ++ (b ++ (c ++ (d ++ [])))) ++ e
    shape a b c d e = simp (append_assoc, append-nil)

parts_placed : (place : ℕ) (addresses : List ℕ) (text : ℕ) (parts : List FunctionPart)
    → AllByRecursion (IsPartBelow (symbol_address addresses text)) parts
    → placed place addresses (flat_map (part_pieces text) parts) ≡ flat_map (part_bytes (symbol_address addresses text)) parts
parts_placed place addresses text [] below = refl
parts_placed place addresses text (x ∷ rest) below =
    let b : ℕ = symbol_address addresses text in
    let next : ℕ = place + length (written (part_pieces text x)) in
    placed-append place addresses (part_pieces text x) (flat_map (part_pieces text) rest)
    ∙ ap (λ (ys : List ℕ). ys ++ placed next addresses (flat_map (part_pieces text) rest)) (part_placed place addresses text x below.0)
    ∙ ap (λ (ys : List ℕ). part_bytes b x ++ ys) (parts_placed next addresses text rest below.1)

all_placed : (place : ℕ) (addresses : List ℕ) (text : ℕ) (parts : List FunctionPart) → AllByRecursion (IsPartBelow (symbol_address addresses text)) parts
    → placed place addresses (parts_pieces text parts) ≡ flat_map (part_bytes (symbol_address addresses text)) parts ++ 0 ∷ []
all_placed place addresses text parts below =
    placed-append place addresses (flat_map (part_pieces text) parts) (Fixed (0 ∷ []) ∷ [])
    ∙ ap (λ (ys : List ℕ). ys ++ 0 ∷ []) (parts_placed place addresses text parts below)

part_long : (base : ℕ) (x : FunctionPart) → length (part_bytes base x) ≡ length (own_bytes x)
unfolding entry
part_long base x =
    let size : List ℕ = to_le_bytes w32 x.self.len ++ [] in
    in_front (entry (subprogram (moved_function base x.self))) (entry (subprogram x.self)) x.children
    (behind (uleb_of (code Subprogram)) ((named x.self.name ++ 0 ∷ []) ++ (to_le_bytes w64 (base + x.self.lo) ++ size))
    ((named x.self.name ++ 0 ∷ []) ++ (to_le_bytes w64 x.self.lo ++ size))
    (behind (named x.self.name ++ 0 ∷ []) (to_le_bytes w64 (base + x.self.lo) ++ size) (to_le_bytes w64 x.self.lo ++ size) refl))

parts_long : (base : ℕ) (parts : List FunctionPart) → length (flat_map (part_bytes base) parts) ≡ length (flat_map own_bytes parts)
parts_long base [] = refl
parts_long base (x ∷ rest) =
    length-append (part_bytes base x) (flat_map (part_bytes base) rest)
    ∙ ap (λ (n : ℕ). n + length (flat_map (part_bytes base) rest)) (part_long base x)
    ∙ ap (λ (n : ℕ). length (own_bytes x) + n) (parts_long base rest)
    ∙ sym (length-append (own_bytes x) (flat_map own_bytes rest))

-- fields of zeros are whole
parts_whole : (text : ℕ) (parts : List FunctionPart) → AllByRecursion IsWhole (parts_pieces text parts)
parts_whole text [] = (tt, tt)
parts_whole text (x ∷ rest) = (tt, (refl, (tt, parts_whole text rest)))

-- ---- functions without inlined ones

function_parts : (offset : ℕ → ℕ) (f : FunctionEntry) → function (function_of offset f) ≡ entry (subprogram f) ++ (part_of offset f).children
function_parts offset f =
    ap (λ (ys : List ℕ). (entry (subprogram f) ++ ys) ++ 0 ∷ []) (flat_map-map entry (variable offset) f.variables)
    ∙ append_assoc (entry (subprogram f)) (flat_map (λ v. entry (variable offset v)) f.variables) (0 ∷ [])

functions_moved : (base : ℕ) (offset : ℕ → ℕ) (functions : List FunctionEntry)
    → flat_map function (map (function_of offset) (map (moved_function base) functions)) ≡ flat_map (part_bytes base) (map (part_of offset) functions)
functions_moved base offset [] = refl
functions_moved base offset (f ∷ rest) =
    ap (λ (ys : List ℕ). ys ++ flat_map function (map (function_of offset) (map (moved_function base) rest))) (function_parts offset (moved_function base f))
    ∙ ap (λ (ys : List ℕ). part_bytes base (part_of offset f) ++ ys) (functions_moved base offset rest)

functions_own : (offset : ℕ → ℕ) (functions : List FunctionEntry)
    → flat_map function (map (function_of offset) functions) ≡ flat_map own_bytes (map (part_of offset) functions)
functions_own offset [] = refl
functions_own offset (f ∷ rest) =
    ap (λ (ys : List ℕ). ys ++ flat_map function (map (function_of offset) rest)) (function_parts offset f)
    ∙ ap (λ (ys : List ℕ). own_bytes (part_of offset f) ++ ys) (functions_own offset rest)

parts_below : (base : ℕ) (offset : ℕ → ℕ) (functions : List FunctionEntry) → AllByRecursion (IsBelow base) functions
    → AllByRecursion (IsPartBelow base) (map (part_of offset) functions)
parts_below base offset [] below = tt
parts_below base offset (f ∷ rest) below = (below.0, parts_below base offset rest below.1)

-- ---- functions with inlined ones

inlined_parted : (offset origin : ℕ → ℕ) (first : ℕ) (f : InlinedFunction)
    → Inlined.inlined_function offset origin first f ≡ own_bytes (inlined_part offset origin first f)
inlined_parted offset origin first f =
    let calls : List ℕ = calls_within (call_bytes offset origin first) 0 f.calls None in
    ap (λ (ys : List ℕ). ((entry (subprogram f.function) ++ ys) ++ calls) ++ 0 ∷ []) (flat_map-map entry (variable offset) f.function.variables)
    ∙ shape (entry (subprogram f.function)) (flat_map (λ v. entry (variable offset v)) f.function.variables) calls (0 ∷ [])
  where
    shape : (a b c d : List ℕ) → ((a ++ b) ++ c) ++ d ≡ a ++ (b ++ (c ++ d))
    shape a b c d = simp append_assoc

inlined_moved : (base : ℕ) (offset origin : ℕ → ℕ) (first : ℕ) (functions : List InlinedFunction)
    → inlined_functions offset origin first (map (moved_inlined base) functions) ≡ flat_map (part_bytes base) (inlined_parts offset origin first functions)
inlined_moved base offset origin first [] = refl
inlined_moved base offset origin first (f ∷ rest) =
    let next : ℕ = first + length f.calls in
    ap (λ (ys : List ℕ). ys ++ inlined_functions offset origin next (map (moved_inlined base) rest))
    (inlined_parted offset origin first (moved_inlined base f))
    ∙ ap (λ (ys : List ℕ). part_bytes base (inlined_part offset origin first f) ++ ys) (inlined_moved base offset origin next rest)

inlined_own : (offset origin : ℕ → ℕ) (first : ℕ) (functions : List InlinedFunction)
    → inlined_functions offset origin first functions ≡ flat_map own_bytes (inlined_parts offset origin first functions)
inlined_own offset origin first [] = refl
inlined_own offset origin first (f ∷ rest) =
    let next : ℕ = first + length f.calls in
    ap (λ (ys : List ℕ). ys ++ inlined_functions offset origin next rest) (inlined_parted offset origin first f)
    ∙ ap (λ (ys : List ℕ). own_bytes (inlined_part offset origin first f) ++ ys) (inlined_own offset origin next rest)

inlined_below : (base : ℕ) (offset origin : ℕ → ℕ) (first : ℕ) (functions : List InlinedFunction)
    → AllByRecursion (IsBelow base) (map (λ f. f.function) functions) → AllByRecursion (IsPartBelow base) (inlined_parts offset origin first functions)
inlined_below base offset origin first [] below = tt
inlined_below base offset origin first (f ∷ rest) below = (below.0, inlined_below base offset origin (first + length f.calls) rest below.1)

-- ---- the front of a unit

no_more : (n : ℕ) → n + 0 ≡ n
no_more n = omega arith

front_placed : (place : ℕ) (addresses : List ℕ) (s : UnitSections) (functions : List FunctionEntry) → UnitFits (unit_places addresses s) functions → (n : ℕ)
    (front : List ℕ) (text_len : ℕ) (rest : List Piece) (bytes : List ℕ) → ((at : ℕ) → placed at addresses rest ≡ bytes)
    → placed place addresses (front_pieces s n front text_len rest)
    ≡ header_front n ++ (to_le_bytes w32 (symbol_address addresses s.abbreviations) ++ (front ++ (to_le_bytes w32 (symbol_address addresses s.lines)
    ++ (to_le_bytes w64 (symbol_address addresses s.text) ++ (to_le_bytes w32 text_len
    ++ (to_le_bytes w32 (symbol_address addresses s.lists + LOCLISTS_BASE) ++ bytes))))))
front_placed place addresses s functions fits n front text_len rest bytes tail =
    let size : List ℕ = to_le_bytes w32 text_len in
    let abbreviations =
    offset_placed (place + 8) addresses s.abbreviations 0 (omega (arith, fits.abbreviations))
    ∙ ap (to_le_bytes w32) (no_more (symbol_address addresses s.abbreviations)) in
    let lines =
    offset_placed (place + 8 + 4 + length front) addresses s.lines 0 (omega (arith, fits.lines)) ∙ ap (to_le_bytes w32) (no_more (symbol_address addresses s.lines)) in
    let text =
    address_placed (place + 8 + 4 + length front + 4) addresses s.text 0 (omega (arith, fits.text)) ∙ ap (to_le_bytes w64) (no_more (symbol_address addresses s.text)) in
    let lists = offset_placed (place + 8 + 4 + length front + 4 + 8 + 4) addresses s.lists LOCLISTS_BASE fits.lists in
    let more = tail (place + 8 + 4 + length front + 4 + 8 + 4 + 4) in
    (λ i. header_front n ++ (abbreviations i ++ (front ++ (lines i ++ (text i ++ (size ++ (lists i ++ more i)))))))

-- ---- the section

module _ (p : UnitPlaces) (u : CompilationUnit) where
  abbrev unit_parts : List FunctionPart
  unit_parts = map (part_of (type_offset u)) u.functions

  abbrev unit_types : List ℕ
  unit_types = flat_map (λ b. entry (base_type b)) u.types

  tree_parted : tree (tree_in p u) ≡ ((entry (compile_unit_in p u) ++ unit_types) ++ flat_map (part_bytes p.text) unit_parts) ++ 0 ∷ []
  unfolding tree
  tree_parted =
      ap (λ (ys : List ℕ). ((entry (compile_unit_in p u) ++ ys) ++ flat_map function (map (function_of (type_offset u)) (map (moved_function p.text) u.functions)))
      ++ 0 ∷ []) (flat_map-map entry base_type u.types)
      ∙ ap (λ (ys : List ℕ). ((entry (compile_unit_in p u) ++ unit_types) ++ ys) ++ 0 ∷ []) (functions_moved p.text (type_offset u) u.functions)

  own_parted : tree (tree_of u) ≡ ((entry (compile_unit u) ++ unit_types) ++ flat_map own_bytes unit_parts) ++ 0 ∷ []
  unfolding tree
  own_parted =
      ap (λ (ys : List ℕ). ((entry (compile_unit u) ++ ys) ++ flat_map function (map (function_of (type_offset u)) u.functions)) ++ 0 ∷ [])
      (flat_map-map entry base_type u.types)
      ∙ ap (λ (ys : List ℕ). ((entry (compile_unit u) ++ unit_types) ++ ys) ++ 0 ∷ []) (functions_own (type_offset u) u.functions)

  unit_long : length (entry (compile_unit_in p u)) ≡ length (entry (compile_unit u))
  unfolding entry
  unit_long = five_long (uleb_of (code CompileUnit)) (to_le_bytes w16 DW_LANG_C99) (named u.name ++ 0 ∷ []) (named u.dir ++ 0 ∷ [])
      (to_le_bytes w32 p.lines ++ (to_le_bytes w64 p.text ++ (to_le_bytes w32 u.text_len ++ (to_le_bytes w32 (p.lists + LOCLISTS_BASE) ++ []))))
      (to_le_bytes w32 0 ++ (to_le_bytes w64 0 ++ (to_le_bytes w32 u.text_len ++ (to_le_bytes w32 LOCLISTS_BASE ++ [])))) refl
    where
      five_long : (a b c d x y : List ℕ) → length x ≡ length y → length (a ++ (b ++ (c ++ (d ++ x)))) ≡ length (a ++ (b ++ (c ++ (d ++ y))))
      five_long a b c d x y e = behind a (b ++ (c ++ (d ++ x))) (b ++ (c ++ (d ++ y))) (behind b (c ++ (d ++ x)) (c ++ (d ++ y)) (behind c (d ++ x) (d ++ y)
          (behind d x y e)))

  tree_long : length (tree (tree_of u)) ≡ length (tree (tree_in p u))
  tree_long =
      ap (λ (ys : List ℕ). length ys) own_parted ∙ alike (entry (compile_unit u)) (entry (compile_unit_in p u)) unit_types (flat_map own_bytes unit_parts)
      (flat_map (part_bytes p.text) unit_parts) (sym unit_long) (sym (parts_long p.text unit_parts)) ∙ ap (λ (ys : List ℕ). length ys) (sym tree_parted)
    where
      alike : (a b t x y : List ℕ) → length a ≡ length b → length x ≡ length y → length (((a ++ t) ++ x) ++ 0 ∷ []) ≡ length (((b ++ t) ++ y) ++ 0 ∷ [])
      alike a b t x y e f =
          in_front ((a ++ t) ++ x) ((b ++ t) ++ y) (0 ∷ []) (in_front (a ++ t) (b ++ t) x (in_front a b t e) ∙ behind (b ++ t) x y f)

unit_shape : (h o c g x y l t k s e f z : List ℕ) → h ++ (o ++ ((c ++ (g ++ (x ++ y))) ++ (l ++ (t ++ (k ++ (s ++ (e ++ (f ++ z))))))))
    ≡ (h ++ o) ++ ((((c ++ (g ++ (x ++ (y ++ (l ++ (t ++ (k ++ (s ++ [])))))))) ++ e) ++ f) ++ z)
unit_shape h o c g x y l t k s e f z = simp (append_assoc, append-nil)

section_placed : (place : ℕ) (addresses : List ℕ) (s : UnitSections) (u : CompilationUnit) → UnitFits (unit_places addresses s) u.functions
    → placed place addresses (info_pieces s u) ≡ spelling_in (unit_places addresses s) u
unfolding entry
section_placed place addresses s u fits =
    let p : UnitPlaces = unit_places addresses s in
    let parts : List FunctionPart = map (part_of (type_offset u)) u.functions in
    let types : List ℕ = flat_map (λ b. entry (base_type b)) u.types in
    let below = parts_below p.text (type_offset u) u.functions (recursion_from_All (IsBelow p.text) u.functions fits.functions_fit) in
    let n : ℕ = 8 + length (tree (tree_of u)) in
    let m : ℕ = 8 + length (tree (tree_in p u)) in
    let long : n ≡ m = ap (λ (k : ℕ). 8 + k) (tree_long p u) in
    front_placed place addresses s u.functions fits n (unit_front CompileUnit u.name u.dir) u.text_len (Fixed types ∷ parts_pieces s.text parts)
    (types ++ (flat_map (part_bytes p.text) parts ++ 0 ∷ []))
    (λ at. ap (λ (ys : List ℕ). types ++ ys) (all_placed (at + length types) addresses s.text parts below))
    ∙ unit_shape (header_front n) (to_le_bytes w32 p.abbreviations) (uleb_of (code CompileUnit)) (to_le_bytes w16 DW_LANG_C99) (named u.name ++ 0 ∷ [])
    (named u.dir ++ 0 ∷ []) (to_le_bytes w32 p.lines) (to_le_bytes w64 p.text) (to_le_bytes w32 u.text_len) (to_le_bytes w32 (p.lists + LOCLISTS_BASE)) types
    (flat_map (part_bytes p.text) parts) (0 ∷ [])
    ∙ (λ i. header_in p (long i) ++ sym (tree_parted p u) i)

info_whole : (s : UnitSections) (u : CompilationUnit) → AllByRecursion IsWhole (info_pieces s u)
info_whole s u =
    (tt, (refl, (tt, (refl, (refl, (tt, (refl, (tt, parts_whole s.text (map (part_of (type_offset u)) u.functions)))))))))

pub entries_placed : (s : UnitSections) (u : CompilationUnit) (place : ℕ) (addresses : List ℕ) → UnitFits (unit_places addresses s) u.functions
    → applied place addresses (relocations_from 0 (info_pieces s u)) (written (info_pieces s u)) ≡ spelling_in (unit_places addresses s) u
entries_placed s u place addresses fits =
    content_placed place addresses (info_pieces s u) (All-from_recursion IsWhole (info_pieces s u) (info_whole s u))
    ∙ section_placed place addresses s u fits

-- ---- the section with inlined functions

module _ (p : UnitPlaces) (u : InlinedUnit) where
  abbrev unit_calls : List FunctionPart
  unit_calls = inlined_parts (Inlined.type_offset u) (origin_offset u) 0 u.functions

  abbrev unit_before : List ℕ
  unit_before = flat_map (λ b. entry (base_type b)) u.types ++ flat_map (λ n. entry (abstract_subprogram n)) u.abstracts

  calls_parted : inlined_tree_in p u ≡ ((entry (unit_with_ranges_in p u) ++ unit_before) ++ flat_map (part_bytes p.text) unit_calls) ++ 0 ∷ []
  calls_parted =
      let self : List ℕ = entry (unit_with_ranges_in p u) in
      let types = flat_map-map entry base_type u.types in
      let abstracts = flat_map-map entry abstract_subprogram u.abstracts in
      let functions = inlined_moved p.text (Inlined.type_offset u) (origin_offset u) 0 u.functions in
      (λ i. (((self ++ types i) ++ abstracts i) ++ functions i) ++ 0 ∷ [])
      ∙ ap (λ (ys : List ℕ). (ys ++ flat_map (part_bytes p.text) unit_calls) ++ 0 ∷ [])
      (append_assoc self (flat_map (λ b. entry (base_type b)) u.types) (flat_map (λ n. entry (abstract_subprogram n)) u.abstracts))

  calls_own : inlined_tree u ≡ ((entry (unit_with_ranges u) ++ unit_before) ++ flat_map own_bytes unit_calls) ++ 0 ∷ []
  unfolding inlined_tree
  calls_own =
      let self : List ℕ = entry (unit_with_ranges u) in
      let types = flat_map-map entry base_type u.types in
      let abstracts = flat_map-map entry abstract_subprogram u.abstracts in
      let functions = inlined_own (Inlined.type_offset u) (origin_offset u) 0 u.functions in
      (λ i. (((self ++ types i) ++ abstracts i) ++ functions i) ++ 0 ∷ [])
      ∙ ap (λ (ys : List ℕ). (ys ++ flat_map own_bytes unit_calls) ++ 0 ∷ [])
      (append_assoc self (flat_map (λ b. entry (base_type b)) u.types) (flat_map (λ n. entry (abstract_subprogram n)) u.abstracts))

  ranged_long : length (entry (unit_with_ranges_in p u)) ≡ length (entry (unit_with_ranges u))
  unfolding entry
  ranged_long = five_long (uleb_of (code UnitWithRanges)) (to_le_bytes w16 DW_LANG_C99) (named u.name ++ 0 ∷ []) (named u.dir ++ 0 ∷ [])
      (to_le_bytes w32 p.lines ++ (to_le_bytes w64 p.text ++ (to_le_bytes w32 u.text_len ++ (to_le_bytes w32 (p.lists + LOCLISTS_BASE)
      ++ (to_le_bytes w32 (p.ranges + RNGLISTS_BASE) ++ [])))))
      (to_le_bytes w32 0 ++ (to_le_bytes w64 0 ++ (to_le_bytes w32 u.text_len ++ (to_le_bytes w32 LOCLISTS_BASE ++ (to_le_bytes w32 RNGLISTS_BASE ++ [])))))
      refl
    where
      five_long : (a b c d x y : List ℕ) → length x ≡ length y → length (a ++ (b ++ (c ++ (d ++ x)))) ≡ length (a ++ (b ++ (c ++ (d ++ y))))
      five_long a b c d x y e = behind a (b ++ (c ++ (d ++ x))) (b ++ (c ++ (d ++ y))) (behind b (c ++ (d ++ x)) (c ++ (d ++ y)) (behind c (d ++ x) (d ++ y)
          (behind d x y e)))

  calls_long : length (inlined_tree u) ≡ length (inlined_tree_in p u)
  calls_long =
      ap (λ (ys : List ℕ). length ys) calls_own ∙ alike (entry (unit_with_ranges u)) (entry (unit_with_ranges_in p u)) unit_before
      (flat_map own_bytes unit_calls) (flat_map (part_bytes p.text) unit_calls) (sym ranged_long) (sym (parts_long p.text unit_calls))
      ∙ ap (λ (ys : List ℕ). length ys) (sym calls_parted)
    where
      alike : (a b t x y : List ℕ) → length a ≡ length b → length x ≡ length y → length (((a ++ t) ++ x) ++ 0 ∷ []) ≡ length (((b ++ t) ++ y) ++ 0 ∷ [])
      alike a b t x y e f =
          in_front ((a ++ t) ++ x) ((b ++ t) ++ y) (0 ∷ []) (in_front (a ++ t) (b ++ t) x (in_front a b t e) ∙ behind (b ++ t) x y f)

ranged_shape : (h o c g x y l t k s r e f z : List ℕ) → h ++ (o ++ ((c ++ (g ++ (x ++ y))) ++ (l ++ (t ++ (k ++ (s ++ (r ++ (e ++ (f ++ z)))))))))
    ≡ (h ++ o) ++ ((((c ++ (g ++ (x ++ (y ++ (l ++ (t ++ (k ++ (s ++ (r ++ []))))))))) ++ e) ++ f) ++ z)
ranged_shape h o c g x y l t k s r e f z = simp (append_assoc, append-nil)

inlined_placed : (place : ℕ) (addresses : List ℕ) (s : UnitSections) (u : InlinedUnit)
    → UnitFits (unit_places addresses s) (map (λ f. f.function) u.functions) → HasRangesBelow (unit_places addresses s)
    → placed place addresses (inlined_pieces s u) ≡ inlined_spelling_in (unit_places addresses s) u
unfolding entry
inlined_placed place addresses s u fits ranged =
    let p : UnitPlaces = unit_places addresses s in
    let own : List FunctionEntry = map (λ f. f.function) u.functions in
    let parts : List FunctionPart = inlined_parts (Inlined.type_offset u) (origin_offset u) 0 u.functions in
    let before : List ℕ = flat_map (λ b. entry (base_type b)) u.types ++ flat_map (λ n. entry (abstract_subprogram n)) u.abstracts in
    let below =
    inlined_below p.text (Inlined.type_offset u) (origin_offset u) 0 u.functions (recursion_from_All (IsBelow p.text) own fits.functions_fit) in
    let n : ℕ = 8 + length (inlined_tree u) in
    let m : ℕ = 8 + length (inlined_tree_in p u) in
    let long : n ≡ m = ap (λ (k : ℕ). 8 + k) (calls_long p u) in
    let ranges = offset_placed place addresses s.ranges RNGLISTS_BASE ranged in
    front_placed place addresses s own fits n (unit_front UnitWithRanges u.name u.dir) u.text_len
    (offset_field s.ranges RNGLISTS_BASE ∷ Fixed before ∷ parts_pieces s.text parts)
    (to_le_bytes w32 (p.ranges + RNGLISTS_BASE) ++ (before ++ (flat_map (part_bytes p.text) parts ++ 0 ∷ [])))
    (λ at. (let more = all_placed (at + 4 + length before) addresses s.text parts below in (λ i. ranges i ++ (before ++ more i))))
    ∙ ranged_shape (header_front n) (to_le_bytes w32 p.abbreviations) (uleb_of (code UnitWithRanges)) (to_le_bytes w16 DW_LANG_C99) (named u.name ++ 0 ∷ [])
    (named u.dir ++ 0 ∷ []) (to_le_bytes w32 p.lines) (to_le_bytes w64 p.text) (to_le_bytes w32 u.text_len) (to_le_bytes w32 (p.lists + LOCLISTS_BASE))
    (to_le_bytes w32 (p.ranges + RNGLISTS_BASE)) before (flat_map (part_bytes p.text) parts) (0 ∷ [])
    ∙ (λ i. header_in p (long i) ++ sym (calls_parted p u) i)

calls_whole : (s : UnitSections) (u : InlinedUnit) → AllByRecursion IsWhole (inlined_pieces s u)
calls_whole s u = (
  tt,
  (
    refl,
    (
      tt,
      (
        refl,
        (
          refl,
          (
            tt,
            (
              refl,
              (
                refl,
                (
                  tt,
                  parts_whole s.text (inlined_parts (Inlined.type_offset u) (origin_offset u) 0 u.functions),
                ),
              ),
            ),
          ),
        ),
      ),
    ),
  ),
)

pub inlined_entries_placed : (s : UnitSections) (u : InlinedUnit) (place : ℕ) (addresses : List ℕ)
    → UnitFits (unit_places addresses s) (map (λ f. f.function) u.functions) → HasRangesBelow (unit_places addresses s)
    → applied place addresses (relocations_from 0 (inlined_pieces s u)) (written (inlined_pieces s u)) ≡ inlined_spelling_in (unit_places addresses s) u
inlined_entries_placed s u place addresses fits ranged =
    content_placed place addresses (inlined_pieces s u) (All-from_recursion IsWhole (inlined_pieces s u) (calls_whole s u))
    ∙ inlined_placed place addresses s u fits ranged
