-- A tree's pieces at their places are the encoding of the moved tree.
use Rattle.std.specs.Prelude.{All}
use Rattle.std.specs.List.{flat_map, AllByRecursion}
use Rattle.std.specs.Int.{w16, w32, to_le_bytes}
use Rattle.std.proofs.Common.{◌≡◌, ℕ, zero, suc, ◌+◌, ◌<◌, ◌^◌, List, [], ◌∷◌, ◌++◌, length, take, map, arith, ap, sym, ◌∙◌, refl, append-nil, length-append}
use Rattle.std.proofs.lemmas.List.Elements.{All-from_recursion, recursion_from_All}
use Rattle.dwarf_base.specs.Leb.{uleb_of}
use Rattle.dwarf_base.specs.Standard.{VERSION, ADDRESS_SIZE}
use Rattle.dwarf_info.specs.Standard.{DW_UT_compile}
use Rattle.dwarf_entry.specs.declared.tree.Value.{Value}
use Rattle.dwarf_entry.specs.declared.tree.Value.TheVariants.{Address, Data1, Data2, Data4, Unsigned, Signed, Text, Reference, SectionOffset, LocationList}
use Rattle.dwarf_entry.specs.declared.tree.Value.TheVariants.{RangeList, Flag, Present, Expression}
use Rattle.dwarf_entry.specs.declared.tree.Attribute.{Attribute}
use Rattle.dwarf_entry.specs.declared.tree.Entry.{Entry}
use Rattle.dwarf_entry.specs.declared.tree.TreeItem.{TreeItem}
use Rattle.dwarf_entry.specs.declared.tree.TreeItem.TheVariants.{Die, Null}
use Rattle.dwarf_entry.specs.declared.abbreviation.Abbreviation.{Abbreviation}
use Rattle.dwarf_entry.specs.Declarations.{specification_of, abbreviation_of, code_of, with_one, abbreviations_from, abbreviations_of}
use Rattle.dwarf_entry.specs.Entries.{value_bytes, attribute_bytes, item_bytes, tree_bytes, offset_of, header_at, encoded, spelling_at}
use Rattle.elf_relocation.specs.Applied.{applied}
use Rattle.elf_content.specs.declared.piece.Piece.{Piece}
use Rattle.elf_content.specs.Content.{written, placed, placed_piece, relocations_from, symbol_address, IsWhole}
use Rattle.elf_content.proofs.Pieces.{content_placed}
use Rattle.debug_placement.proofs.Placing.{placed-append, address_placed, offset_placed}
use Rattle.debug_placement.specs.Fields.{address_field, offset_field}
use Rattle.entry_placement.specs.declared.content.SectionSymbols.{SectionSymbols}
use Rattle.entry_placement.specs.Pieces.{symbol_of, value_pieces, attribute_pieces, item_pieces, tree_pieces, header_pieces, unit_pieces}
use Rattle.entry_placement.specs.Moved.{moved_value, moved_attribute, moved_item, moved_tree, FitsMoved, AttributeFitsMoved, ItemFitsMoved}

module _ (s : SectionSymbols) (addresses : List ℕ) where
  -- where code lies, and where the section of an attribute does
  abbrev code : ℕ
  code = symbol_address addresses s.text

  abbrev section : ℕ → ℕ
  section name = symbol_address addresses (symbol_of s name)

  -- ---- values

  value_placed : (place : ℕ) (offset : ℕ → ℕ) (name : ℕ) (v : Value) → FitsMoved code section name v
      → placed place addresses (value_pieces s offset name v) ≡ value_bytes offset (moved_value code section name v)
  value_placed place offset name (Address address) fits =
      append-nil (placed_piece place addresses (address_field s.text address)) ∙ address_placed place addresses s.text address fits
  value_placed place offset name (Data1 n) fits = append-nil (value_bytes offset (Data1 n))
  value_placed place offset name (Data2 n) fits = append-nil (value_bytes offset (Data2 n))
  value_placed place offset name (Data4 n) fits = append-nil (value_bytes offset (Data4 n))
  value_placed place offset name (Unsigned n) fits = append-nil (value_bytes offset (Unsigned n))
  value_placed place offset name (Signed v) fits = append-nil (value_bytes offset (Signed v))
  value_placed place offset name (Text text) fits = append-nil (value_bytes offset (Text text))
  value_placed place offset name (Reference item) fits = append-nil (value_bytes offset (Reference item))
  value_placed place offset name (SectionOffset n) fits =
      append-nil (placed_piece place addresses (offset_field (symbol_of s name) n)) ∙ offset_placed place addresses (symbol_of s name) n fits
  value_placed place offset name (LocationList list) fits = append-nil (value_bytes offset (LocationList list))
  value_placed place offset name (RangeList list) fits = append-nil (value_bytes offset (RangeList list))
  value_placed place offset name (Flag is) fits = append-nil (value_bytes offset (Flag is))
  value_placed place offset name Present fits = refl
  value_placed place offset name (Expression bytes) fits = append-nil (value_bytes offset (Expression bytes))

  attributes_placed : (place : ℕ) (offset : ℕ → ℕ) (xs : List Attribute) → AllByRecursion (AttributeFitsMoved code section) xs
      → placed place addresses (flat_map (attribute_pieces s offset) xs) ≡ flat_map (attribute_bytes offset) (map (moved_attribute code section) xs)
  attributes_placed place offset [] fit = refl
  attributes_placed place offset (a ∷ xs) fit =
      let next : ℕ = place + length (written (attribute_pieces s offset a)) in
      let here = value_placed place offset a.name a.value fit.0 in
      let rest = attributes_placed next offset xs fit.1 in
      placed-append place addresses (attribute_pieces s offset a) (flat_map (attribute_pieces s offset) xs) ∙ (λ i. here i ++ rest i)

  -- ---- the abbreviation of an entry stays

  form_moved : (name : ℕ) (v : Value)
      → specification_of (record { name = name; value = moved_value code section name v }) ≡ specification_of (record { name = name; value = v })
  form_moved name (Address address) = refl
  form_moved name (Data1 n) = refl
  form_moved name (Data2 n) = refl
  form_moved name (Data4 n) = refl
  form_moved name (Unsigned n) = refl
  form_moved name (Signed v) = refl
  form_moved name (Text text) = refl
  form_moved name (Reference item) = refl
  form_moved name (SectionOffset n) = refl
  form_moved name (LocationList list) = refl
  form_moved name (RangeList list) = refl
  form_moved name (Flag is) = refl
  form_moved name Present = refl
  form_moved name (Expression bytes) = refl

  specifications_moved : (xs : List Attribute) → map specification_of (map (moved_attribute code section) xs) ≡ map specification_of xs
  specifications_moved [] = refl
  specifications_moved (a ∷ xs) =
      let here = form_moved a.name a.value in
      let rest = specifications_moved xs in
      λ i. here i ∷ rest i

  abbrev moved_entry : Entry → Entry
  moved_entry e = record { tag = e.tag; children = e.children; attributes = map (moved_attribute code section) e.attributes }

  code_moved : (ds : List Abbreviation) (e : Entry) → code_of ds (abbreviation_of (moved_entry e)) ≡ code_of ds (abbreviation_of e)
  code_moved ds e =
      let same = specifications_moved e.attributes in
      λ i. code_of ds (record { tag = e.tag; children = e.children; attributes = same i })

  one_moved : (before : List Abbreviation) (e : Entry) → with_one before (abbreviation_of (moved_entry e)) ≡ with_one before (abbreviation_of e)
  one_moved before e =
      let same = specifications_moved e.attributes in
      λ i. with_one before (record { tag = e.tag; children = e.children; attributes = same i })

  declared_moved : (before : List Abbreviation) (tree : List TreeItem)
      → abbreviations_from before (moved_tree code section tree) ≡ abbreviations_from before tree
  declared_moved before [] = refl
  declared_moved before (Null ∷ tree) = declared_moved before tree
  declared_moved before (Die e ∷ tree) =
      ap (λ (ds : List Abbreviation). abbreviations_from ds (moved_tree code section tree)) (one_moved before e)
      ∙ declared_moved (with_one before (abbreviation_of e)) tree

  -- ---- items

  item_placed : (ds : List Abbreviation) (place : ℕ) (offset : ℕ → ℕ) (i : TreeItem) → ItemFitsMoved code section i
      → placed place addresses (item_pieces s ds offset i) ≡ item_bytes ds offset (moved_item code section i)
  item_placed ds place offset Null fits = refl
  item_placed ds place offset (Die e) fits =
      let number : List ℕ = uleb_of (code_of ds (abbreviation_of e)) in
      let same = code_moved ds e in
      let values =
      attributes_placed (place + length number) offset e.attributes (recursion_from_All (AttributeFitsMoved code section) e.attributes fits) in
      λ i. uleb_of (sym same i) ++ values i

  items_placed : (ds : List Abbreviation) (place : ℕ) (offset : ℕ → ℕ) (tree : List TreeItem) → AllByRecursion (ItemFitsMoved code section) tree
      → placed place addresses (tree_pieces s ds offset tree) ≡ tree_bytes ds offset (moved_tree code section tree)
  items_placed ds place offset [] fit = refl
  items_placed ds place offset (i ∷ tree) fit =
      let next : ℕ = place + length (written (item_pieces s ds offset i)) in
      let here = item_placed ds place offset i fit.0 in
      let rest = items_placed ds next offset tree fit.1 in
      placed-append place addresses (item_pieces s ds offset i) (tree_pieces s ds offset tree) ∙ (λ k. here k ++ rest k)

  -- ---- offsets stay

  value_long : (offset : ℕ → ℕ) (name : ℕ) (v : Value) → length (value_bytes offset (moved_value code section name v)) ≡ length (value_bytes offset v)
  value_long offset name (Address address) = refl
  value_long offset name (Data1 n) = refl
  value_long offset name (Data2 n) = refl
  value_long offset name (Data4 n) = refl
  value_long offset name (Unsigned n) = refl
  value_long offset name (Signed v) = refl
  value_long offset name (Text text) = refl
  value_long offset name (Reference item) = refl
  value_long offset name (SectionOffset n) = refl
  value_long offset name (LocationList list) = refl
  value_long offset name (RangeList list) = refl
  value_long offset name (Flag is) = refl
  value_long offset name Present = refl
  value_long offset name (Expression bytes) = refl

  values_long : (offset : ℕ → ℕ) (xs : List Attribute)
      → length (flat_map (attribute_bytes offset) (map (moved_attribute code section) xs)) ≡ length (flat_map (attribute_bytes offset) xs)
  values_long offset [] = refl
  values_long offset (a ∷ xs) =
      omega (
        arith,
        length-append (attribute_bytes offset (moved_attribute code section a)) (flat_map (attribute_bytes offset) (map (moved_attribute code section) xs)),
        length-append (attribute_bytes offset a) (flat_map (attribute_bytes offset) xs),
        value_long offset a.name a.value,
        values_long offset xs,
      )

  item_long : (ds : List Abbreviation) (offset : ℕ → ℕ) (i : TreeItem)
      → length (item_bytes ds offset (moved_item code section i)) ≡ length (item_bytes ds offset i)
  item_long ds offset Null = refl
  item_long ds offset (Die e) =
      omega (
        arith,
        length-append (uleb_of (code_of ds (abbreviation_of (moved_entry e)))) (flat_map (attribute_bytes offset) (map (moved_attribute code section) e.attributes)),
        length-append (uleb_of (code_of ds (abbreviation_of e))) (flat_map (attribute_bytes offset) e.attributes),
        ap (λ (n : ℕ). length (uleb_of n)) (code_moved ds e),
        values_long offset e.attributes,
      )

  front_long : (ds : List Abbreviation) (offset : ℕ → ℕ) (k : ℕ) (tree : List TreeItem)
      → length (tree_bytes ds offset (take k (moved_tree code section tree))) ≡ length (tree_bytes ds offset (take k tree))
  front_long ds offset zero [] = refl
  front_long ds offset (suc k) [] = refl
  front_long ds offset zero (i ∷ tree) = refl
  front_long ds offset (suc k) (i ∷ tree) =
      omega (
        arith,
        length-append (item_bytes ds offset (moved_item code section i)) (tree_bytes ds offset (take k (moved_tree code section tree))),
        length-append (item_bytes ds offset i) (tree_bytes ds offset (take k tree)),
        item_long ds offset i,
        front_long ds offset k tree,
      )

  tree_long : (ds : List Abbreviation) (offset : ℕ → ℕ) (tree : List TreeItem)
      → length (tree_bytes ds offset (moved_tree code section tree)) ≡ length (tree_bytes ds offset tree)
  tree_long ds offset [] = refl
  tree_long ds offset (i ∷ tree) =
      omega (
        arith,
        length-append (item_bytes ds offset (moved_item code section i)) (tree_bytes ds offset (moved_tree code section tree)),
        length-append (item_bytes ds offset i) (tree_bytes ds offset tree),
        item_long ds offset i,
        tree_long ds offset tree,
      )

  -- the offsets of a moved tree, as a function
  same_offsets : (ds : List Abbreviation) (tree : List TreeItem) → offset_of ds (moved_tree code section tree) ≡ offset_of ds tree
  same_offsets ds tree = λ i k. at k i
    where
      at : (k : ℕ) → offset_of ds (moved_tree code section tree) k ≡ offset_of ds tree k
      at k = ap (λ (n : ℕ). 12 + n) (front_long ds (λ _. 0) k tree)

  encoded_moved : (ds : List Abbreviation) (tree : List TreeItem)
      → encoded ds (moved_tree code section tree) ≡ tree_bytes ds (offset_of ds tree) (moved_tree code section tree)
  encoded_moved ds tree = ap (λ (f : ℕ → ℕ). tree_bytes ds f (moved_tree code section tree)) (same_offsets ds tree)

  -- ---- the section

  header_placed : (place length_after : ℕ) → symbol_address addresses s.abbreviations < 2 ^ 32
      → placed place addresses (header_pieces s length_after) ≡ header_at (symbol_address addresses s.abbreviations) length_after
  header_placed place length_after near =
      let front : List ℕ = to_le_bytes w32 length_after ++ to_le_bytes w16 VERSION ++ (DW_UT_compile ∷ ADDRESS_SIZE ∷ []) in
      let at : symbol_address addresses s.abbreviations + 0 ≡ symbol_address addresses s.abbreviations = omega arith in
      ap (λ (ys : List ℕ). front ++ ys)
      (append-nil (placed_piece (place + length front) addresses (offset_field s.abbreviations 0))
      ∙ offset_placed (place + length front) addresses s.abbreviations 0 (omega (arith, near)) ∙ ap (to_le_bytes w32) at)

  unit_placed : (ds : List Abbreviation) (tree : List TreeItem) (place : ℕ) → symbol_address addresses s.abbreviations < 2 ^ 32
      → AllByRecursion (ItemFitsMoved code section) tree
      → placed place addresses (unit_pieces s ds tree) ≡ spelling_at (symbol_address addresses s.abbreviations) ds (moved_tree code section tree)
  unfolding spelling_at
  unit_placed ds tree place near fit =
      let after : ℕ = 8 + length (encoded ds tree) in
      let head : List Piece = header_pieces s after in
      let long : length (encoded ds (moved_tree code section tree)) ≡ length (encoded ds tree) =
      ap length (encoded_moved ds tree) ∙ tree_long ds (offset_of ds tree) tree in
      let front = header_placed place after near in
      let rest = items_placed ds (place + length (written head)) (offset_of ds tree) tree fit ∙ sym (encoded_moved ds tree) in
      placed-append place addresses head (tree_pieces s ds (offset_of ds tree) tree) ∙ (λ i. front i ++ rest i)
      ∙ ap (λ (n : ℕ). header_at (symbol_address addresses s.abbreviations) (8 + n) ++ encoded ds (moved_tree code section tree)) (sym long)

-- ---- fields are whole

whole-append : (front rest : List Piece) → AllByRecursion IsWhole front → AllByRecursion IsWhole rest → AllByRecursion IsWhole (front ++ rest)
whole-append [] rest first second = second
whole-append (p ∷ front) rest first second = (first.0, whole-append front rest first.1 second)

value_whole : (s : SectionSymbols) (offset : ℕ → ℕ) (name : ℕ) (v : Value) → AllByRecursion IsWhole (value_pieces s offset name v)
value_whole s offset name (Address address) = (refl, tt)
value_whole s offset name (Data1 n) = (tt, tt)
value_whole s offset name (Data2 n) = (tt, tt)
value_whole s offset name (Data4 n) = (tt, tt)
value_whole s offset name (Unsigned n) = (tt, tt)
value_whole s offset name (Signed v) = (tt, tt)
value_whole s offset name (Text text) = (tt, tt)
value_whole s offset name (Reference item) = (tt, tt)
value_whole s offset name (SectionOffset n) = (refl, tt)
value_whole s offset name (LocationList list) = (tt, tt)
value_whole s offset name (RangeList list) = (tt, tt)
value_whole s offset name (Flag is) = (tt, tt)
value_whole s offset name Present = (tt, tt)
value_whole s offset name (Expression bytes) = (tt, tt)

attributes_whole : (s : SectionSymbols) (offset : ℕ → ℕ) (xs : List Attribute) → AllByRecursion IsWhole (flat_map (attribute_pieces s offset) xs)
attributes_whole s offset [] = tt
attributes_whole s offset (a ∷ xs) =
    whole-append (attribute_pieces s offset a) (flat_map (attribute_pieces s offset) xs) (value_whole s offset a.name a.value) (attributes_whole s offset xs)

item_whole : (s : SectionSymbols) (ds : List Abbreviation) (offset : ℕ → ℕ) (i : TreeItem) → AllByRecursion IsWhole (item_pieces s ds offset i)
item_whole s ds offset Null = (tt, tt)
item_whole s ds offset (Die e) = (tt, attributes_whole s offset e.attributes)

items_whole : (s : SectionSymbols) (ds : List Abbreviation) (offset : ℕ → ℕ) (tree : List TreeItem) → AllByRecursion IsWhole (tree_pieces s ds offset tree)
items_whole s ds offset [] = tt
items_whole s ds offset (i ∷ tree) =
    whole-append (item_pieces s ds offset i) (tree_pieces s ds offset tree) (item_whole s ds offset i) (items_whole s ds offset tree)

pub unit_whole : (s : SectionSymbols) (ds : List Abbreviation) (tree : List TreeItem) → All IsWhole (unit_pieces s ds tree)
unit_whole s ds tree =
    All-from_recursion IsWhole (unit_pieces s ds tree) (tt, (refl, items_whole s ds (offset_of ds tree) tree))

pub entries_placed : (s : SectionSymbols) (ds : List Abbreviation) (tree : List TreeItem) (place : ℕ) (addresses : List ℕ)
    → symbol_address addresses s.abbreviations < 2 ^ 32
    → All (ItemFitsMoved (symbol_address addresses s.text) (λ name. symbol_address addresses (symbol_of s name))) tree
    → applied place addresses (relocations_from 0 (unit_pieces s ds tree)) (written (unit_pieces s ds tree))
    ≡ spelling_at (symbol_address addresses s.abbreviations) ds
    (moved_tree (symbol_address addresses s.text) (λ name. symbol_address addresses (symbol_of s name)) tree)
entries_placed s ds tree place addresses near fit =
    content_placed place addresses (unit_pieces s ds tree) (unit_whole s ds tree)
    ∙ unit_placed s addresses ds tree place near
    (recursion_from_All (ItemFitsMoved (symbol_address addresses s.text) (λ name. symbol_address addresses (symbol_of s name))) tree fit)

pub abbreviations_moved : (s : SectionSymbols) (tree : List TreeItem) (addresses : List ℕ)
    → abbreviations_of (moved_tree (symbol_address addresses s.text) (λ name. symbol_address addresses (symbol_of s name)) tree) ≡ abbreviations_of tree
abbreviations_moved s tree addresses = declared_moved s addresses [] tree
