-- The content of a unit, as its parts were appended one after the other.
use Rattle.std.specs.List.{flat_map, AllByRecursion}
use Rattle.std.specs.Int.{w16, w32, to_le_bytes}
use Rattle.std.proofs.Common.{◌≡◌, ℕ, ◌+◌, ◌<◌, List, [], ◌∷◌, ◌++◌, length, arith, ap, subst, ◌∙◌, refl, append_assoc}
use Rattle.std.proofs.lemmas.List.Elements.{recursion_from_All}
use Rattle.dwarf_base.specs.Leb.{uleb_of}
use Rattle.dwarf_entry.specs.declared.tree.Value.{Value}
use Rattle.dwarf_entry.specs.declared.tree.Value.TheVariants.{Address, Data1, Data2, Data4, Unsigned, Signed, Text, Reference, SectionOffset, LocationList}
use Rattle.dwarf_entry.specs.declared.tree.Value.TheVariants.{RangeList, Flag, Present, Expression}
use Rattle.dwarf_entry.specs.declared.tree.Attribute.{Attribute}
use Rattle.dwarf_entry.specs.declared.tree.Entry.{Entry}
use Rattle.dwarf_entry.specs.declared.tree.TreeItem.{TreeItem}
use Rattle.dwarf_entry.specs.declared.tree.TreeItem.TheVariants.{Die, Null}
use Rattle.dwarf_entry.specs.declared.abbreviation.Abbreviation.{Abbreviation}
use Rattle.dwarf_entry.specs.Declarations.{abbreviation_of, code_of}
use Rattle.dwarf_entry.specs.Entries.{offset_of, encoded, spelling, RefersBelow, AttributeRefersBelow, ItemRefersBelow, RefersWithin}
use Rattle.dwarf_entry.specs.steps.Offsets.{AreOffsets, in_table}
use Rattle.dwarf_entry.proofs.Lengths.{length-spelling}
use Rattle.elf_object.specs.declared.relocations.Relocation.{Relocation}
use Rattle.elf_content.specs.declared.piece.Piece.{Piece}
use Rattle.elf_content.specs.declared.piece.Piece.TheVariants.{Fixed}
use Rattle.debug_placement.specs.Fields.{offset_field}
use Rattle.entry_placement.specs.declared.content.SectionSymbols.{SectionSymbols}
use Rattle.entry_placement.specs.Pieces.{value_pieces, attribute_pieces, item_pieces, tree_pieces, header_pieces, unit_pieces}
use Rattle.entry_placement.proofs.Growth.{Grows}
use Rattle.entry_placement.proofs.Growing.{grows_fixed, grows_more}

-- ---- a table serves for the offsets themselves

value_same : (s : SectionSymbols) (count : ℕ) (f g : ℕ → ℕ) → ((k : ℕ) → k < count → f k ≡ g k) → (name : ℕ) (v : Value) → RefersBelow count v
    → value_pieces s f name v ≡ value_pieces s g name v
value_same s count f g same name (Address address) below = refl
value_same s count f g same name (Data1 n) below = refl
value_same s count f g same name (Data2 n) below = refl
value_same s count f g same name (Data4 n) below = refl
value_same s count f g same name (Unsigned n) below = refl
value_same s count f g same name (Signed v) below = refl
value_same s count f g same name (Text text) below = refl
value_same s count f g same name (Reference item) below = ap (λ (n : ℕ). value_pieces s (λ _. n) name (Reference 0)) (same item below)
value_same s count f g same name (SectionOffset n) below = refl
value_same s count f g same name (LocationList list) below = refl
value_same s count f g same name (RangeList list) below = refl
value_same s count f g same name (Flag is) below = refl
value_same s count f g same name Present below = refl
value_same s count f g same name (Expression bytes) below = refl

values_same : (s : SectionSymbols) (count : ℕ) (f g : ℕ → ℕ) → ((k : ℕ) → k < count → f k ≡ g k) → (xs : List Attribute)
    → AllByRecursion (AttributeRefersBelow count) xs → flat_map (attribute_pieces s f) xs ≡ flat_map (attribute_pieces s g) xs
values_same s count f g same [] below = refl
values_same s count f g same (a ∷ xs) below =
    let here = value_same s count f g same a.name a.value below.0 in
    let rest = values_same s count f g same xs below.1 in
    λ i. here i ++ rest i

item_same : (s : SectionSymbols) (ds : List Abbreviation) (count : ℕ) (f g : ℕ → ℕ) → ((k : ℕ) → k < count → f k ≡ g k) → (i : TreeItem)
    → ItemRefersBelow count i → item_pieces s ds f i ≡ item_pieces s ds g i
item_same s ds count f g same Null below = refl
item_same s ds count f g same (Die e) below =
    ap (λ (ps : List Piece). Fixed (uleb_of (code_of ds (abbreviation_of e))) ∷ ps)
    (values_same s count f g same e.attributes (recursion_from_All (AttributeRefersBelow count) e.attributes below))

items_same : (s : SectionSymbols) (ds : List Abbreviation) (count : ℕ) (f g : ℕ → ℕ) → ((k : ℕ) → k < count → f k ≡ g k) → (tree : List TreeItem)
    → AllByRecursion (ItemRefersBelow count) tree → tree_pieces s ds f tree ≡ tree_pieces s ds g tree
items_same s ds count f g same [] below = refl
items_same s ds count f g same (i ∷ tree) below =
    let here = item_same s ds count f g same i below.0 in
    let rest = items_same s ds count f g same tree below.1 in
    λ k. here k ++ rest k

-- ---- the unit

pub unit_grown : (s : SectionSymbols) (ds : List Abbreviation) (tree : List TreeItem) (b0 : List ℕ) (r0 : List Relocation) (b1 : List ℕ)
    (r1 : List Relocation) (b2 : List ℕ) (r2 : List Relocation) (offsets table : List ℕ) (after : ℕ) → b0 ≡ [] → r0 ≡ []
    → after + 4 ≡ length (spelling ds tree) → AreOffsets ds tree offsets → RefersWithin tree → table ≡ offsets → Grows b0 r0 (header_pieces s after) b1 r1
    → Grows b1 r1 (tree_pieces s ds (in_table table) tree) b2 r2 → Grows [] [] (unit_pieces s ds tree) b2 r2
unit_grown s ds tree b0 r0 b1 r1 b2 r2 offsets table after e0 f0 size are within same front rest =
    let is : after ≡ 8 + length (encoded ds tree) = omega (arith, size, length-spelling ds (offset_of ds tree) tree) in
    let items : tree_pieces s ds (in_table table) tree ≡ tree_pieces s ds (offset_of ds tree) tree =
    ap (λ (xs : List ℕ). tree_pieces s ds (in_table xs) tree) same
    ∙ items_same s ds (length tree) (in_table offsets) (offset_of ds tree) are.at tree (recursion_from_All (ItemRefersBelow (length tree)) tree within) in
    let whole : Grows b0 r0 (header_pieces s after ++ tree_pieces s ds (in_table table) tree) b2 r2 =
    grows_more b0 r0 (header_pieces s after) b1 r1 (tree_pieces s ds (in_table table) tree) b2 r2 front rest in
    let pieces : header_pieces s after ++ tree_pieces s ds (in_table table) tree ≡ unit_pieces s ds tree = λ i. header_pieces s (is i) ++ items i in
    let named : Grows b0 r0 (unit_pieces s ds tree) b2 r2 = subst (λ (ps : List Piece). Grows b0 r0 ps b2 r2) pieces whole in
    let from_nothing : Grows [] r0 (unit_pieces s ds tree) b2 r2 = subst (λ (b : List ℕ). Grows b r0 (unit_pieces s ds tree) b2 r2) e0 named in
    subst (λ (r : List Relocation). Grows [] r (unit_pieces s ds tree) b2 r2) f0 from_nothing

-- ---- the header and an entry

pub grows_header : (s : SectionSymbols) (after : ℕ) (b b1 b2 b3 b4 : List ℕ) (r : List Relocation) (b5 : List ℕ) (r5 : List Relocation)
    → b1 ≡ b ++ to_le_bytes w32 after → b2 ≡ b1 ++ to_le_bytes w16 5 → b3 ≡ b2 ++ 1 ∷ [] → b4 ≡ b3 ++ 8 ∷ []
    → Grows b4 r (offset_field s.abbreviations 0 ∷ []) b5 r5 → Grows b r (header_pieces s after) b5 r5
grows_header s after b b1 b2 b3 b4 r b5 r5 e1 e2 e3 e4 last =
    let front : List ℕ = to_le_bytes w32 after ++ to_le_bytes w16 5 ++ (1 ∷ 8 ∷ []) in
    let chain : b4 ≡ b ++ front =
    e4
    ∙ ap (λ (ys : List ℕ). ys ++ 8 ∷ [])
    (e3 ∙ ap (λ (ys : List ℕ). ys ++ 1 ∷ []) (e2 ∙ ap (λ (ys : List ℕ). ys ++ to_le_bytes w16 5) e1))
    ∙ nested b (to_le_bytes w32 after) (to_le_bytes w16 5) in
    grows_more b r (Fixed front ∷ []) b4 r (offset_field s.abbreviations 0 ∷ []) b5 r5 (grows_fixed b r front b4 r chain refl) last
  where
    nested : (b x y : List ℕ) → (((b ++ x) ++ y) ++ 1 ∷ []) ++ 8 ∷ [] ≡ b ++ ((x ++ y) ++ (1 ∷ 8 ∷ []))
    nested b x y = simp append_assoc

pub grows_entry : (s : SectionSymbols) (ds : List Abbreviation) (f : ℕ → ℕ) (e : Entry) (xs : List Attribute) (b b1 : List ℕ) (r : List Relocation)
    (b2 : List ℕ) (r2 : List Relocation) → b1 ≡ b ++ uleb_of (code_of ds (abbreviation_of e)) → xs ≡ e.attributes
    → Grows b1 r (flat_map (attribute_pieces s f) xs) b2 r2 → Grows b r (item_pieces s ds f (Die e)) b2 r2
grows_entry s ds f e xs b b1 r b2 r2 code same values =
    let number : List ℕ = uleb_of (code_of ds (abbreviation_of e)) in
    let own : Grows b1 r (flat_map (attribute_pieces s f) e.attributes) b2 r2 =
    subst (λ (ys : List Attribute). Grows b1 r (flat_map (attribute_pieces s f) ys) b2 r2) same values in
    grows_more b r (Fixed number ∷ []) b1 r (flat_map (attribute_pieces s f) e.attributes) b2 r2 (grows_fixed b r number b1 r code refl) own
