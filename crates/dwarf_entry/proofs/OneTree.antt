-- Two trees with the same two sections are equal. First their items are, with references xs offsets: the code tells an item's abbreviation, and that tells the
-- forms of its values. So both have the same offsets, and an offset tells the item that is there.
use Rattle.std.specs.Prelude.{cond, nat_eq, slice_get}
use Rattle.std.specs.List.{flat_map, AllByRecursion}
use Rattle.std.proofs.Common.{◌≡◌, ℕ, zero, suc, ◌+◌, ◌<◌, ◌≤◌, ◌^◌, true, List, [], ◌∷◌, ◌++◌, length, take, map, arith, ap, sym, subst, ◌∙◌, refl}
use Rattle.std.proofs.Common.{append_assoc, length-append}
use Rattle.std.proofs.lemmas.Bool.{cond-true, cond-false, eq-eqb, ne_eqb}
use Rattle.std.proofs.lemmas.List.Elements.{recursion_from_All}
use Rattle.dwarf_base.specs.Leb.{uleb_of}
use Rattle.dwarf_loclists.proofs.OneLocation.{uleb_one, tails_one}
use Rattle.dwarf_loclists.proofs.OneReading.{cut}
use Rattle.dwarf_entry.specs.declared.tree.Value.{Value}
use Rattle.dwarf_entry.specs.declared.tree.Value.TheVariants.{Address, Data1, Data2, Data4, Unsigned, Signed, Text, Reference, SectionOffset, LocationList}
use Rattle.dwarf_entry.specs.declared.tree.Value.TheVariants.{RangeList, Flag, Present, Expression}
use Rattle.dwarf_entry.specs.declared.tree.Attribute.{Attribute}
use Rattle.dwarf_entry.specs.declared.tree.TreeItem.{TreeItem}
use Rattle.dwarf_entry.specs.declared.tree.TreeItem.TheVariants.{Die, Null}
use Rattle.dwarf_entry.specs.declared.abbreviation.Specification.{Specification}
use Rattle.dwarf_entry.specs.declared.abbreviation.Abbreviation.{Abbreviation}
use Rattle.dwarf_entry.specs.Declarations.{specification_of, abbreviation_of, code_of, is_declared}
use Rattle.dwarf_entry.specs.Entries.{value_bytes, attribute_bytes, item_bytes, tree_bytes, offset_of, header_at, encoded, spelling, spelling_at}
use Rattle.dwarf_entry.specs.Grammar.{IsValue, IsItem, IsEntry, HasForms, AreSections}
use Rattle.dwarf_entry.proofs.Reading.{located, IsReadable, value_one}
use Rattle.dwarf_entry.proofs.Declarations.{code_above, code_one, declarations_one, zero_is}
use Rattle.dwarf_entry.proofs.Lengths.{item_long, offset_within}

-- ---- items with their references xs offsets

abbrev located_attribute : (ℕ → ℕ) → Attribute → Attribute
located_attribute f a = record { name = a.name; value = located f a.value }

abbrev located_item : (ℕ → ℕ) → TreeItem → TreeItem
located_item f Null = Null
located_item f (Die e) = Die (record { tag = e.tag; children = e.children; attributes = map (located_attribute f) e.attributes })

abbrev AttributeReadable : (ℕ → ℕ) → Attribute → Type 0
AttributeReadable f a = IsReadable f a.value

-- an item that can be read back
abbrev ItemReadable : List Abbreviation → (ℕ → ℕ) → TreeItem → Type 0
ItemReadable xs f Null = Unit {0}
ItemReadable xs f (Die e) = (is_declared (abbreviation_of e) xs ≡ true) × AllByRecursion (AttributeReadable f) e.attributes

attributes_one : (f g : ℕ → ℕ) (a b : List Attribute) (x y : List ℕ) → map specification_of a ≡ map specification_of b
    → AllByRecursion (AttributeReadable f) a → AllByRecursion (AttributeReadable g) b
    → flat_map (attribute_bytes f) a ++ x ≡ flat_map (attribute_bytes g) b ++ y → (map (located_attribute f) a ≡ map (located_attribute g) b) × (x ≡ y)
attributes_one f g [] [] x y same ok_a ok_b e = (refl, e)
attributes_one f g [] (q ∷ b) x y same ok_a ok_b e = absurd cc
attributes_one f g (p ∷ a) [] x y same ok_a ok_b e = absurd cc
attributes_one f g (p ∷ a) (q ∷ b) x y same ok_a ok_b e =
    let head : specification_of p ≡ specification_of q = cc in
    let tail : map specification_of a ≡ map specification_of b = cc in
    let first =
    value_one f g p.value q.value _ _ ok_a.0 ok_b.0 (ap (λ (s : Specification). s.form) head)
    (sym (append_assoc (attribute_bytes f p) (flat_map (attribute_bytes f) a) x) ∙ e ∙ append_assoc (attribute_bytes g q) (flat_map (attribute_bytes g) b) y) in
    let rest = attributes_one f g a b x y tail ok_a.1 ok_b.1 first.1 in
    (λ i. record { name = (head i).name; value = first.0 i } ∷ rest.0 i, rest.1)

item_one : (xs : List Abbreviation) (f g : ℕ → ℕ) (i j : TreeItem) (x y : List ℕ) → ItemReadable xs f i → ItemReadable xs g j
    → item_bytes xs f i ++ x ≡ item_bytes xs g j ++ y → (located_item f i ≡ located_item g j) × (x ≡ y)
item_one xs f g Null Null x y ok_i ok_j e = (refl, tails_one 0 0 x y e)
item_one xs f g Null (Die d) x y ok_i ok_j e =
    let code : ℕ = code_of xs (abbreviation_of d) in
    let found = uleb_one 0 code x _ (sym (zero_is x) ∙ e ∙ append_assoc (uleb_of code) (flat_map (attribute_bytes g) d.attributes) y) in
    absurd (omega (arith, found.0, code_above 1 xs (abbreviation_of d)))
item_one xs f g (Die d) Null x y ok_i ok_j e =
    let code : ℕ = code_of xs (abbreviation_of d) in
    let found = uleb_one code 0 _ y (sym (append_assoc (uleb_of code) (flat_map (attribute_bytes f) d.attributes) x) ∙ e ∙ zero_is y) in
    absurd (omega (arith, found.0, code_above 1 xs (abbreviation_of d)))
item_one xs f g (Die c) (Die d) x y ok_i ok_j e =
    let left : List ℕ = uleb_of (code_of xs (abbreviation_of c)) in
    let right : List ℕ = uleb_of (code_of xs (abbreviation_of d)) in
    let found =
    uleb_one (code_of xs (abbreviation_of c)) (code_of xs (abbreviation_of d)) _ _
    (sym (append_assoc left (flat_map (attribute_bytes f) c.attributes) x) ∙ e ∙ append_assoc right (flat_map (attribute_bytes g) d.attributes) y) in
    let same : abbreviation_of c ≡ abbreviation_of d = code_one 1 xs (abbreviation_of c) (abbreviation_of d) ok_i.0 ok_j.0 found.0 in
    let values = attributes_one f g c.attributes d.attributes x y (ap (λ (a : Abbreviation). a.attributes) same) ok_i.1 ok_j.1 found.1 in
    (λ k. Die (record { tag = (same k).tag; children = (same k).children; attributes = values.0 k }), values.1)

no_more : (xs : List Abbreviation) (f : ℕ → ℕ) (i : TreeItem) (x : List ℕ) → [] ≡ item_bytes xs f i ++ x → ⊥
no_more xs f i x e =
    let empty : 0 ≡ length (item_bytes xs f i ++ x) = ap length e in
    omega (arith, empty, length-append (item_bytes xs f i) x, item_long xs f i)

items_one : (xs : List Abbreviation) (f g : ℕ → ℕ) (a b : List TreeItem) → AllByRecursion (ItemReadable xs f) a → AllByRecursion (ItemReadable xs g) b
    → tree_bytes xs f a ≡ tree_bytes xs g b → map (located_item f) a ≡ map (located_item g) b
items_one xs f g [] [] ok_a ok_b e = refl
items_one xs f g [] (j ∷ b) ok_a ok_b e = absurd (no_more xs g j (tree_bytes xs g b) e)
items_one xs f g (i ∷ a) [] ok_a ok_b e = absurd (no_more xs f i (tree_bytes xs f a) (sym e))
items_one xs f g (i ∷ a) (j ∷ b) ok_a ok_b e =
    let first = item_one xs f g i j _ _ ok_a.0 ok_b.0 e in
    let rest = items_one xs f g a b ok_a.1 ok_b.1 first.1 in
    λ k. first.0 k ∷ rest k

-- ---- the offsets of located items are those of the items

abbrev nowhere : ℕ → ℕ
nowhere k = 0

value_located : (f : ℕ → ℕ) (v : Value) → value_bytes nowhere (located f v) ≡ value_bytes nowhere v
value_located f (Address address) = refl
value_located f (Data1 n) = refl
value_located f (Data2 n) = refl
value_located f (Data4 n) = refl
value_located f (Unsigned n) = refl
value_located f (Signed v) = refl
value_located f (Text name) = refl
value_located f (Reference item) = refl
value_located f (SectionOffset n) = refl
value_located f (LocationList list) = refl
value_located f (RangeList list) = refl
value_located f (Flag is) = refl
value_located f Present = refl
value_located f (Expression bytes) = refl

form_located : (f : ℕ → ℕ) (v : Value) → specification_of (record { name = 0; value = located f v }) ≡ specification_of (record { name = 0; value = v })
form_located f (Address address) = refl
form_located f (Data1 n) = refl
form_located f (Data2 n) = refl
form_located f (Data4 n) = refl
form_located f (Unsigned n) = refl
form_located f (Signed v) = refl
form_located f (Text name) = refl
form_located f (Reference item) = refl
form_located f (SectionOffset n) = refl
form_located f (LocationList list) = refl
form_located f (RangeList list) = refl
form_located f (Flag is) = refl
form_located f Present = refl
form_located f (Expression bytes) = refl

specifications_located : (f : ℕ → ℕ) (xs : List Attribute) → map specification_of (map (located_attribute f) xs) ≡ map specification_of xs
specifications_located f [] = refl
specifications_located f (a ∷ xs) =
    let form = form_located f a.value in
    let rest = specifications_located f xs in
    λ i. record { name = a.name; form = (form i).form } ∷ rest i

values_located : (f : ℕ → ℕ) (xs : List Attribute) → flat_map (attribute_bytes nowhere) (map (located_attribute f) xs) ≡ flat_map (attribute_bytes nowhere) xs
values_located f [] = refl
values_located f (a ∷ xs) =
    let here = value_located f a.value in
    let rest = values_located f xs in
    λ i. here i ++ rest i

item_located : (xs : List Abbreviation) (f : ℕ → ℕ) (i : TreeItem) → item_bytes xs nowhere (located_item f i) ≡ item_bytes xs nowhere i
item_located xs f Null = refl
item_located xs f (Die e) =
    let same = specifications_located f e.attributes in
    let values = values_located f e.attributes in
    λ k. uleb_of (code_of xs (record { tag = e.tag; children = e.children; attributes = same k })) ++ values k

front_located : (xs : List Abbreviation) (f : ℕ → ℕ) (k : ℕ) (tree : List TreeItem)
    → tree_bytes xs nowhere (take k (map (located_item f) tree)) ≡ tree_bytes xs nowhere (take k tree)
front_located xs f zero [] = refl
front_located xs f (suc k) [] = refl
front_located xs f zero (i ∷ tree) = refl
front_located xs f (suc k) (i ∷ tree) =
    let here = item_located xs f i in
    let rest = front_located xs f k tree in
    λ j. here j ++ rest j

offsets_located : (xs : List Abbreviation) (f : ℕ → ℕ) (k : ℕ) (tree : List TreeItem) → offset_of xs (map (located_item f) tree) k ≡ offset_of xs tree k
offsets_located xs f k tree = ap (λ (ys : List ℕ). 12 + length ys) (front_located xs f k tree)

-- ---- the item at an offset

abbrev index_at : List Abbreviation → List TreeItem → (from n : ℕ) → ℕ
index_at xs [] from n = 0
index_at xs (i ∷ rest) from n = cond (nat_eq from n) 0 (suc (index_at xs rest (from + length (item_bytes xs nowhere i)) n))

index_found : (xs : List Abbreviation) (tree : List TreeItem) (from k n : ℕ) → k < length tree → n ≡ from + length (tree_bytes xs nowhere (take k tree))
    → index_at xs tree from n ≡ k
index_found xs [] from k n inside e = absurd (omega (arith, inside))
index_found xs (i ∷ tree) from zero n inside e =
    cond-true (nat_eq from n) 0 (suc (index_at xs tree (from + length (item_bytes xs nowhere i)) n)) (eq-eqb from n (omega (arith, e)))
index_found xs (i ∷ tree) from (suc k) n inside e =
    let size : ℕ = length (item_bytes xs nowhere i) in
    let long : 1 ≤ size = item_long xs nowhere i in
    let more = length-append (item_bytes xs nowhere i) (tree_bytes xs nowhere (take k tree)) in
    let there : n ≡ from + size + length (tree_bytes xs nowhere (take k tree)) = omega (arith, e, more) in
    cond-false (nat_eq from n) 0 (suc (index_at xs tree (from + size) n)) (ne_eqb from n (λ here. omega (arith, here, there, long)))
    ∙ ap suc (index_found xs tree (from + size) k n (omega (arith, inside)) there)

-- the item at the offset of an item is that item
at_offset : (xs : List Abbreviation) (tree : List TreeItem) (k : ℕ) → k < length tree → index_at xs tree 12 (offset_of xs tree k) ≡ k
at_offset xs tree k inside = index_found xs tree 12 k (offset_of xs tree k) inside refl

-- ---- back from offsets to items

abbrev AttributeBack : (f g : ℕ → ℕ) → Attribute → Type 0
AttributeBack f g a = located g (located f a.value) ≡ a.value

abbrev ItemBack : (f g : ℕ → ℕ) → TreeItem → Type 0
ItemBack f g Null = Unit {0}
ItemBack f g (Die e) = AllByRecursion (AttributeBack f g) e.attributes

attributes_back : (f g : ℕ → ℕ) (xs : List Attribute) → AllByRecursion (AttributeBack f g) xs → map (located_attribute g) (map (located_attribute f) xs) ≡ xs
attributes_back f g [] back = refl
attributes_back f g (a ∷ xs) back =
    let here = back.0 in
    let rest = attributes_back f g xs back.1 in
    λ i. record { name = a.name; value = here i } ∷ rest i

item_back : (f g : ℕ → ℕ) (i : TreeItem) → ItemBack f g i → located_item g (located_item f i) ≡ i
item_back f g Null back = refl
item_back f g (Die e) back =
    let same = attributes_back f g e.attributes back in
    λ k. Die (record { tag = e.tag; children = e.children; attributes = same k })

items_back : (f g : ℕ → ℕ) (tree : List TreeItem) → AllByRecursion (ItemBack f g) tree → map (located_item g) (map (located_item f) tree) ≡ tree
items_back f g [] back = refl
items_back f g (i ∷ tree) back =
    let here = item_back f g i back.0 in
    let rest = items_back f g tree back.1 in
    λ k. here k ∷ rest k

-- ---- what the grammar gives

inside_of : (tree : List TreeItem) (k : ℕ) → IsEntry (slice_get tree k) → k < length tree
inside_of [] k is = absurd is
inside_of (i ∷ tree) zero is = omega arith
inside_of (i ∷ tree) (suc k) is = omega (arith, inside_of tree k is)

module _ (tree : List TreeItem) (f : ℕ → ℕ) (g : ℕ → ℕ) (fits : (k : ℕ) → f k < 2 ^ 32) (back : (k : ℕ) → k < length tree → g (f k) ≡ k) where
  value_readable : (v : Value) → IsValue tree v → IsReadable f v
  value_readable (Address address) is = is
  value_readable (Data1 n) is = tt
  value_readable (Data2 n) is = is
  value_readable (Data4 n) is = is
  value_readable (Unsigned n) is = tt
  value_readable (Signed v) is = tt
  value_readable (Text name) is = is
  value_readable (Reference item) is = fits item
  value_readable (SectionOffset n) is = is
  value_readable (LocationList list) is = tt
  value_readable (RangeList list) is = tt
  value_readable (Flag is_so) is = tt
  value_readable Present is = tt
  value_readable (Expression bytes) is = tt

  value_back : (v : Value) → IsValue tree v → located g (located f v) ≡ v
  value_back (Address address) is = refl
  value_back (Data1 n) is = refl
  value_back (Data2 n) is = refl
  value_back (Data4 n) is = refl
  value_back (Unsigned n) is = refl
  value_back (Signed v) is = refl
  value_back (Text name) is = refl
  value_back (Reference item) is = ap Reference (back item (inside_of tree item is))
  value_back (SectionOffset n) is = refl
  value_back (LocationList list) is = refl
  value_back (RangeList list) is = refl
  value_back (Flag is_so) is = refl
  value_back Present is = refl
  value_back (Expression bytes) is = refl

  attributes_are : (xs : List Attribute) → AllByRecursion (λ a. IsValue tree a.value) xs
      → AllByRecursion (AttributeReadable f) xs × AllByRecursion (AttributeBack f g) xs
  attributes_are [] are = (tt, tt)
  attributes_are (a ∷ xs) are =
      let rest = attributes_are xs are.1 in
      ((value_readable a.value are.0, rest.0), (value_back a.value are.0, rest.1))

  item_is : (xs : List Abbreviation) (i : TreeItem) → IsItem xs tree i → ItemReadable xs f i × ItemBack f g i
  item_is xs Null is = (tt, tt)
  item_is xs (Die e) is =
      let rest = attributes_are e.attributes (recursion_from_All (λ a. IsValue tree a.value) e.attributes is.1) in
      ((is.0, rest.0), rest.1)

  items_are : (xs : List Abbreviation) (is : List TreeItem) → AllByRecursion (IsItem xs tree) is
      → AllByRecursion (ItemReadable xs f) is × AllByRecursion (ItemBack f g) is
  items_are xs [] are = (tt, tt)
  items_are xs (i ∷ is) are =
      let here = item_is xs i are.0 in
      let rest = items_are xs is are.1 in
      ((here.0, rest.0), (here.1, rest.1))

length_map : {X Y : Type 0} (f : X → Y) (xs : List X) → length (map f xs) ≡ length xs
length_map f [] = refl
length_map f (x ∷ xs) = ap suc (length_map f xs)

-- a tree by some abbreviations
record IsBy (xs : List Abbreviation) (tree : List TreeItem) : Type 0 where
  fits : (k : ℕ) → offset_of xs tree k < 2 ^ 32
  items : AllByRecursion (IsItem xs tree) tree

abbrev shown : List Abbreviation → List TreeItem → List TreeItem
shown xs tree = map (located_item (offset_of xs tree)) tree

abbrev back_by : List Abbreviation → List TreeItem → ℕ → ℕ
back_by xs items n = index_at xs items 12 n

-- what is shown of a tree tells the tree
module _ (xs : List Abbreviation) (tree : List TreeItem) (is : IsBy xs tree) where
  abbrev own : ℕ → ℕ
  own k = offset_of xs tree k

  told : (k : ℕ) → k < length tree → back_by xs (shown xs tree) (own k) ≡ k
  told k inside =
      ap (back_by xs (shown xs tree)) (sym (offsets_located xs own k tree))
      ∙ at_offset xs (shown xs tree) k (omega (arith, inside, length_map (located_item own) tree))

  are : AllByRecursion (ItemReadable xs own) tree × AllByRecursion (ItemBack own (back_by xs (shown xs tree))) tree
  are = items_are tree own (back_by xs (shown xs tree)) is.fits told xs tree is.items

  readable : AllByRecursion (ItemReadable xs own) tree
  readable = are.0

  restored : map (located_item (back_by xs (shown xs tree))) (shown xs tree) ≡ tree
  restored = items_back own (back_by xs (shown xs tree)) tree are.1

encoded_one : (xs : List Abbreviation) (a b : List TreeItem) → IsBy xs a → IsBy xs b → encoded xs a ≡ encoded xs b → a ≡ b
encoded_one xs a b is_a is_b e =
    let same : shown xs a ≡ shown xs b = items_one xs (offset_of xs a) (offset_of xs b) a b (readable xs a is_a) (readable xs b is_b) e in
    sym (restored xs a is_a) ∙ ap (λ (ts : List TreeItem). map (located_item (back_by xs ts)) ts) same ∙ restored xs b is_b

spelling_one : (xs : List Abbreviation) (a b : List TreeItem) → IsBy xs a → IsBy xs b → spelling xs a ≡ spelling xs b → a ≡ b
unfolding spelling_at
spelling_one xs a b is_a is_b e =
    encoded_one xs a b is_a is_b
    (cut (header_at 0 (8 + length (encoded xs a))) (header_at 0 (8 + length (encoded xs b))) (encoded xs a) (encoded xs b) refl e).1

by_sections : (debug_abbrev debug_info : List ℕ) (tree : List TreeItem) (are : AreSections debug_abbrev debug_info tree) → IsBy are.abbreviations tree
by_sections debug_abbrev debug_info tree are = record {
  fits = λ k. omega (arith, offset_within are.abbreviations tree k, ap length are.spelled, are.size);
  items = recursion_from_All (IsItem are.abbreviations tree) tree are.values;
}

pub one_tree_only : (debug_abbrev debug_info : List ℕ) (a b : List TreeItem) → AreSections debug_abbrev debug_info a → AreSections debug_abbrev debug_info b
    → a ≡ b
one_tree_only debug_abbrev debug_info a b are_a are_b =
    let same : are_a.abbreviations ≡ are_b.abbreviations =
    declarations_one 0 are_a.abbreviations are_b.abbreviations (recursion_from_All HasForms are_a.abbreviations are_a.forms)
    (recursion_from_All HasForms are_b.abbreviations are_b.forms) (sym are_a.declared ∙ are_b.declared) in
    let by_b : IsBy are_a.abbreviations b = subst (λ (xs : List Abbreviation). IsBy xs b) (sym same) (by_sections debug_abbrev debug_info b are_b) in
    spelling_one are_a.abbreviations a b (by_sections debug_abbrev debug_info a are_a) by_b
    (sym are_a.spelled ∙ are_b.spelled ∙ ap (λ (xs : List Abbreviation). spelling xs b) (sym same))
