-- How long items are: no matter which offsets their references have.
use Rattle.std.specs.List.{flat_map, AllByRecursion}
use Rattle.std.proofs.Common.{◌≡◌, ℕ, ◌+◌, ◌<◌, ◌≤◌, List, [], ◌∷◌, ◌++◌, length, take, get_or, arith, ap, ◌∙◌, refl, length-append, inl, inr, ◌⊎◌, sym}
use Rattle.std.proofs.lemmas.Bool.{cases_lt}
use Rattle.std.proofs.lemmas.List.{take_more, get_or_append_left, get_or_push, length_push}
use Rattle.std.proofs.lemmas.List.Concat.{flat_map-append}
use Rattle.std.proofs.lemmas.List.Elements.{recursion_from_All}
use Rattle.dwarf_base.specs.Leb.{uleb_of, IsLeb}
use Rattle.dwarf_base.proofs.LebLaws.{uleb_law}
use Rattle.dwarf_info.proofs.TreeLemmas.{front_le}
use Rattle.dwarf_entry.specs.declared.tree.Value.{Value}
use Rattle.dwarf_entry.specs.declared.tree.Value.TheVariants.{Address, Data1, Data2, Data4, Unsigned, Signed, Text, Reference, SectionOffset, LocationList}
use Rattle.dwarf_entry.specs.declared.tree.Value.TheVariants.{RangeList, Flag, Present, Expression}
use Rattle.dwarf_entry.specs.declared.tree.Attribute.{Attribute}
use Rattle.dwarf_entry.specs.declared.tree.TreeItem.{TreeItem}
use Rattle.dwarf_entry.specs.declared.tree.TreeItem.TheVariants.{Die, Null}
use Rattle.dwarf_entry.specs.declared.abbreviation.Abbreviation.{Abbreviation}
use Rattle.dwarf_entry.specs.Declarations.{abbreviation_of, code_of}
use Rattle.dwarf_entry.specs.Entries.{value_bytes, attribute_bytes, item_bytes, tree_bytes, offset_of, encoded, spelling, spelling_at}
use Rattle.dwarf_entry.specs.Entries.{RefersBelow, AttributeRefersBelow, ItemRefersBelow, RefersWithin}
use Rattle.dwarf_entry.specs.steps.Offsets.{AreOffsets, in_table}

-- ---- with other offsets

length-value : (f g : ℕ → ℕ) (v : Value) → length (value_bytes f v) ≡ length (value_bytes g v)
length-value f g (Address address) = refl
length-value f g (Data1 n) = refl
length-value f g (Data2 n) = refl
length-value f g (Data4 n) = refl
length-value f g (Unsigned n) = refl
length-value f g (Signed v) = refl
length-value f g (Text name) = refl
length-value f g (Reference item) = refl
length-value f g (SectionOffset n) = refl
length-value f g (LocationList list) = refl
length-value f g (RangeList list) = refl
length-value f g (Flag is) = refl
length-value f g Present = refl
length-value f g (Expression bytes) = refl

length-values : (f g : ℕ → ℕ) (xs : List Attribute) → length (flat_map (attribute_bytes f) xs) ≡ length (flat_map (attribute_bytes g) xs)
length-values f g [] = refl
length-values f g (a ∷ xs) =
    omega (
      arith,
      length-append (attribute_bytes f a) (flat_map (attribute_bytes f) xs),
      length-append (attribute_bytes g a) (flat_map (attribute_bytes g) xs),
      length-value f g a.value,
      length-values f g xs,
    )

pub length-item : (abbreviations : List Abbreviation) (f g : ℕ → ℕ) (i : TreeItem)
    → length (item_bytes abbreviations f i) ≡ length (item_bytes abbreviations g i)
length-item abbreviations f g Null = refl
length-item abbreviations f g (Die e) =
    let code : List ℕ = uleb_of (code_of abbreviations (abbreviation_of e)) in
    omega (
      arith,
      length-append code (flat_map (attribute_bytes f) e.attributes),
      length-append code (flat_map (attribute_bytes g) e.attributes),
      length-values f g e.attributes,
    )

pub length-tree : (abbreviations : List Abbreviation) (f g : ℕ → ℕ) (tree : List TreeItem)
    → length (tree_bytes abbreviations f tree) ≡ length (tree_bytes abbreviations g tree)
length-tree abbreviations f g [] = refl
length-tree abbreviations f g (i ∷ tree) =
    omega (
      arith,
      length-append (item_bytes abbreviations f i) (tree_bytes abbreviations f tree),
      length-append (item_bytes abbreviations g i) (tree_bytes abbreviations g tree),
      length-item abbreviations f g i,
      length-tree abbreviations f g tree,
    )

pub length-spelling : (abbreviations : List Abbreviation) (f : ℕ → ℕ) (tree : List TreeItem)
    → length (spelling abbreviations tree) ≡ 12 + length (tree_bytes abbreviations f tree)
unfolding spelling_at
length-spelling abbreviations f tree = omega (arith, length-tree abbreviations (offset_of abbreviations tree) f tree)

-- ---- each item has a byte

leb_long : (bytes : List ℕ) → IsLeb bytes → 1 ≤ length bytes
leb_long [] is = absurd is
leb_long (b ∷ rest) is = omega arith

pub item_long : (abbreviations : List Abbreviation) (f : ℕ → ℕ) (i : TreeItem) → 1 ≤ length (item_bytes abbreviations f i)
item_long abbreviations f Null = omega arith
item_long abbreviations f (Die e) =
    let code : List ℕ = uleb_of (code_of abbreviations (abbreviation_of e)) in
    omega (arith, length-append code (flat_map (attribute_bytes f) e.attributes), leb_long code (uleb_law (code_of abbreviations (abbreviation_of e))).0)

-- ---- offsets

-- an offset is within the section
pub offset_within : (abbreviations : List Abbreviation) (tree : List TreeItem) (k : ℕ)
    → offset_of abbreviations tree k ≤ length (spelling abbreviations tree)
offset_within abbreviations tree k =
    omega (arith, length-spelling abbreviations (λ _. 0) tree, front_le (item_bytes abbreviations (λ _. 0)) tree k)

-- the next offset is behind the item
pub offset_more : (abbreviations : List Abbreviation) (tree : List TreeItem) (k : ℕ) (d : TreeItem) → k < length tree
    → offset_of abbreviations tree (k + 1) ≡ offset_of abbreviations tree k + length (item_bytes abbreviations (λ _. 0) (get_or tree k d))
offset_more abbreviations tree k d inside =
    let bytes : TreeItem → List ℕ = item_bytes abbreviations (λ _. 0) in
    let i : TreeItem = get_or tree k d in
    omega (
      arith,
      ap (λ (ts : List TreeItem). length (flat_map bytes ts)) (take_more tree k d inside),
      ap length (flat_map-append bytes (take k tree) (i ∷ [])),
      length-append (flat_map bytes (take k tree)) (bytes i ++ []),
      length-append (bytes i) [],
    )

-- one more item of a list is as much longer
pub length_more : {X : Type 0} (f : X → List ℕ) (xs : List X) (i : ℕ) (x : X) → i < length xs → x ≡ get_or xs i x
    → length (flat_map f (take (i + 1) xs)) ≡ length (flat_map f (take i xs)) + length (f x)
length_more f xs i x inside is =
    let more : take (i + 1) xs ≡ take i xs ++ x ∷ [] = take_more xs i x inside ∙ ap (λ y. take i xs ++ y ∷ []) (sym is) in
    omega (
      arith,
      ap (λ ys. length (flat_map f ys)) more,
      ap length (flat_map-append f (take i xs) (x ∷ [])),
      length-append (flat_map f (take i xs)) (f x ++ []),
      length-append (f x) [],
    )

-- a table of numbers with one more
pub table_more : (table new : List ℕ) (x i : ℕ) (f : ℕ → ℕ) → new ≡ table ++ x ∷ [] → length table ≡ i → ((k : ℕ) → k < i → get_or table k 0 ≡ f k)
    → x ≡ f i → (length new ≡ i + 1) × ((k : ℕ) → k < i + 1 → get_or new k 0 ≡ f k)
table_more table new x i f pushed long each is = (
  ap length pushed ∙ length_push table x ∙ ap (λ (n : ℕ). n + 1) long,
  λ k below. ap (λ (xs : List ℕ). get_or xs k 0) pushed ∙ by k below (cases_lt k i),
)
  where
    by : (k : ℕ) → k < i + 1 → (k < i) ⊎ (i ≤ k) → get_or (table ++ x ∷ []) k 0 ≡ f k
    by k below (inl early) = get_or_append_left table (x ∷ []) 0 k (omega (arith, long, early)) ∙ each k early
    by k below (inr late) =
        let same : i ≡ k = omega (arith, late, below) in
        get_or_push table x 0 k (omega (arith, long, same)) ∙ is ∙ ap f same

-- ---- a table serves for the offsets themselves

value_same : (count : ℕ) (f g : ℕ → ℕ) → ((k : ℕ) → k < count → f k ≡ g k) → (v : Value) → RefersBelow count v → value_bytes f v ≡ value_bytes g v
value_same count f g same (Address address) below = refl
value_same count f g same (Data1 n) below = refl
value_same count f g same (Data2 n) below = refl
value_same count f g same (Data4 n) below = refl
value_same count f g same (Unsigned n) below = refl
value_same count f g same (Signed v) below = refl
value_same count f g same (Text name) below = refl
value_same count f g same (Reference item) below = ap (λ (n : ℕ). value_bytes (λ _. n) (Reference 0)) (same item below)
value_same count f g same (SectionOffset n) below = refl
value_same count f g same (LocationList list) below = refl
value_same count f g same (RangeList list) below = refl
value_same count f g same (Flag is) below = refl
value_same count f g same Present below = refl
value_same count f g same (Expression bytes) below = refl

values_same : (count : ℕ) (f g : ℕ → ℕ) → ((k : ℕ) → k < count → f k ≡ g k) → (xs : List Attribute) → AllByRecursion (AttributeRefersBelow count) xs
    → flat_map (attribute_bytes f) xs ≡ flat_map (attribute_bytes g) xs
values_same count f g same [] below = refl
values_same count f g same (a ∷ xs) below =
    ap (λ (ys : List ℕ). ys ++ flat_map (attribute_bytes f) xs) (value_same count f g same a.value below.0)
    ∙ ap (λ (ys : List ℕ). attribute_bytes g a ++ ys) (values_same count f g same xs below.1)

item_same : (abbreviations : List Abbreviation) (count : ℕ) (f g : ℕ → ℕ) → ((k : ℕ) → k < count → f k ≡ g k) → (i : TreeItem) → ItemRefersBelow count i
    → item_bytes abbreviations f i ≡ item_bytes abbreviations g i
item_same abbreviations count f g same Null below = refl
item_same abbreviations count f g same (Die e) below =
    ap (λ (ys : List ℕ). uleb_of (code_of abbreviations (abbreviation_of e)) ++ ys)
    (values_same count f g same e.attributes (recursion_from_All (AttributeRefersBelow count) e.attributes below))

pub items_same : (abbreviations : List Abbreviation) (count : ℕ) (f g : ℕ → ℕ) → ((k : ℕ) → k < count → f k ≡ g k) → (tree : List TreeItem)
    → AllByRecursion (ItemRefersBelow count) tree → tree_bytes abbreviations f tree ≡ tree_bytes abbreviations g tree
items_same abbreviations count f g same [] below = refl
items_same abbreviations count f g same (i ∷ tree) below =
    ap (λ (ys : List ℕ). ys ++ tree_bytes abbreviations f tree) (item_same abbreviations count f g same i below.0)
    ∙ ap (λ (ys : List ℕ). item_bytes abbreviations g i ++ ys) (items_same abbreviations count f g same tree below.1)

pub by_table : (abbreviations : List Abbreviation) (tree : List TreeItem) (offsets : List ℕ) → AreOffsets abbreviations tree offsets → RefersWithin tree
    → tree_bytes abbreviations (in_table offsets) tree ≡ encoded abbreviations tree
by_table abbreviations tree offsets are within =
    items_same abbreviations (length tree) (in_table offsets) (offset_of abbreviations tree) are.at tree
    (recursion_from_All (ItemRefersBelow (length tree)) tree within)
