-- Where the items of each type are among those of all.
use Rattle.std.proofs.Common.{◌≡◌, ℕ, zero, suc, ◌+◌, ◌-◌, ◌<◌, ◌≤◌, Bool, true, false, cond, Some, List, [], ◌∷◌, ◌++◌, length, take, drop, map, filter}
use Rattle.std.proofs.Common.{refl, sym, ap, ◌∙◌, subst, arith, length-append, ltb-true, ltb-false}
use Rattle.std.specs.Prelude.{◌*◌, ◌%◌, ◌&&◌, ◌||◌, not, nat_eq, nat_lt, Option, is_some, slice_index_or}
use Rattle.std.specs.List.{slice_get}
use Rattle.std.proofs.lemmas.Bool.{false≢true}
use Rattle.std.proofs.lemmas.List.{length-map, append_assoc, append-nil, drop_at, take-append-drop, drop_more, length-take, take_all, take_more, get_or_past}
use Rattle.std.proofs.lemmas.List.Elements.{filter_agree}
use Rattle.std.proofs.lemmas.Option.{slice_get_within, slice_get-get_or}
use Rattle.dataflow.proofs.Pushed.{at_push}
use Rattle.dwarf_entry.specs.declared.tree.TreeItem.{TreeItem}
use Rattle.dwarf_entry.specs.declared.tree.TreeItem.TheVariants.{Null}
use Rattle.graph_cycles.specs.Ends.{is_marked}
use Rattle.type_nodes.specs.declared.shape.Member.{Member}
use Rattle.type_nodes.specs.declared.shape.Shape.{Shape}
use Rattle.type_nodes.specs.declared.shape.Shape.TheVariants.{Base, Pointer, Qualifier, Typedef, Declaration, Record, Enumeration, Array, Subroutine}
use Rattle.type_nodes.specs.Standing.{Stands, AreStanding}
use Rattle.type_nodes.specs.Sizes.{size_at, AreSizes}
use Rattle.type_entries.specs.declared.table.TypeTable.{TypeTable}
use Rattle.type_entries.specs.Standard.{DW_TAG_unspecified_parameters}
use Rattle.type_entries.specs.Entries.{entry, is_array, is_told, member_item, parameter_item, item_of, shape_items}
use Rattle.type_entries.specs.Types.{items_from, AreStarts, IsTable}

-- ---- how many items there are, no matter where others are

inside_long : (a b : List TreeItem) → length a ≡ length b → suc (length (a ++ Null ∷ [])) ≡ suc (length (b ++ Null ∷ []))
inside_long a b same = omega (arith, same, length-append a (Null ∷ []), length-append b (Null ∷ []))

both_long : (a b c : List TreeItem) → length a ≡ length b → length (a ++ c) ≡ length (b ++ c)
both_long a b c same = omega (arith, same, length-append a c, length-append b c)

module _ (t u : TypeTable) (stands : t.stands.items ≡ u.stands.items) (told : (size : ℕ) (m : Member) → is_told t size m ≡ is_told u size m) where
  shape_long : (s : Shape) → length (shape_items t s) ≡ length (shape_items u s)
  shape_long (Base name size encoding) = refl
  shape_long (Pointer tag to) = refl
  shape_long (Qualifier tag to) = refl
  shape_long (Typedef name to) = refl
  shape_long (Declaration tag name) = refl
  shape_long (Record tag name size members) =
      inside_long (map (member_item t) (filter (is_told t size) members)) (map (member_item u) (filter (is_told u size) members))
      (length-map (filter (is_told t size) members) (member_item t) ∙ ap length (filter_agree (is_told t size) (is_told u size) (told size) members)
      ∙ sym (length-map (filter (is_told u size) members) (member_item u)))
  shape_long (Enumeration name size to enumerators) = refl
  shape_long (Array to counts) = refl
  shape_long (Subroutine result parameters more) =
      let last : List TreeItem = cond more (entry DW_TAG_unspecified_parameters false [] ∷ []) [] in
      inside_long (map (parameter_item t) parameters ++ last) (map (parameter_item u) parameters ++ last)
      (both_long (map (parameter_item t) parameters) (map (parameter_item u) parameters) last
      (length-map parameters (parameter_item t) ∙ sym (length-map parameters (parameter_item u))))

  one_long : (n : ℕ) (s : Shape)
      → length (cond (is_marked t.stands.items n) (shape_items t s) []) ≡ length (cond (is_marked u.stands.items n) (shape_items u s) [])
  one_long n s =
      ap (λ (marks : List Bool). length (cond (is_marked marks n) (shape_items t s) [])) stands ∙ by_mark (is_marked u.stands.items n)
    where
      by_mark : (z : Bool) → length (cond z (shape_items t s) []) ≡ length (cond z (shape_items u s) [])
      by_mark true = shape_long s
      by_mark false = refl

  pub from_long : (n : ℕ) (types : List Shape) → length (items_from t n types) ≡ length (items_from u n types)
  from_long n [] = refl
  from_long n (s ∷ types) =
      omega (
        arith,
        length-append (cond (is_marked t.stands.items n) (shape_items t s) []) (items_from t (suc n) types),
        length-append (cond (is_marked u.stands.items n) (shape_items u s) []) (items_from u (suc n) types),
        one_long n s,
        from_long (suc n) types,
      )

-- ---- the items of a type are behind those of the types before it

pub from_append : (t : TypeTable) (n : ℕ) (xs ys : List Shape) → items_from t n (xs ++ ys) ≡ items_from t n xs ++ items_from t (n + length xs) ys
from_append t n [] ys = (let same : n ≡ n + 0 = omega arith in ap (λ (k : ℕ). items_from t k ys) same)
from_append t n (x ∷ xs) ys =
    let own : List TreeItem = cond (is_marked t.stands.items n) (shape_items t x) [] in
    let index : suc n + length xs ≡ n + suc (length xs) = omega arith in
    ap (λ (items : List TreeItem). own ++ items) (from_append t (suc n) xs ys)
    ∙ sym (append_assoc own (items_from t (suc n) xs) (items_from t (suc n + length xs) ys))
    ∙ ap (λ (k : ℕ). (own ++ items_from t (suc n) xs) ++ items_from t k ys) index

-- a list is what is before an index, what is there, and the rest
split_at : (types : List Shape) (n : ℕ) (s : Shape) → slice_get types n ≡ Some s → types ≡ take n types ++ s ∷ drop (n + 1) types
split_at types n s is =
    let less : n < length types = slice_get_within types n s is in
    let here : slice_index_or types n s ≡ s = one (slice_index_or types n s) (sym (slice_get-get_or types n s less) ∙ is) in
    sym (take-append-drop n types) ∙ ap (λ (rest : List Shape). take n types ++ rest) (drop_more types n s less)
    ∙ ap (λ (x : Shape). take n types ++ x ∷ drop (n + 1) types) here
  where
    one : (x : Shape) → Some x ≡ Some s → x ≡ s
    one x same = cc

pub type_at : (first : ℕ) (t : TypeTable) (n : ℕ) (s : Shape) → IsTable first t → slice_get t.types n ≡ Some s → Stands t.types n
    → (before : List TreeItem) × (later : List TreeItem) × (item_of t n ≡ first + length before)
    × (items_from t 0 t.types ≡ before ++ (shape_items t s ++ later))
type_at first t n s table is stands =
    let less : n < length t.types = slice_get_within t.types n s is in
    let before : List TreeItem = items_from t 0 (take n t.types) in
    let long : length (take n t.types) ≡ n = omega (arith, less, length-take n t.types) in
    let marked : is_marked t.stands.items n ≡ true = (table.stands.each n less).1 stands in
    let later : List TreeItem = items_from t (suc n) (drop (n + 1) t.types) in
    let all : items_from t 0 t.types ≡ before ++ (shape_items t s ++ later) =
    ap (items_from t 0) (split_at t.types n s is) ∙ from_append t 0 (take n t.types) (s ∷ drop (n + 1) t.types)
    ∙ ap (λ (k : ℕ). before ++ items_from t k (s ∷ drop (n + 1) t.types)) (zero_plus (length (take n t.types)) ∙ long)
    ∙ ap (λ (z : Bool). before ++ (cond z (shape_items t s) [] ++ later)) marked in (before, later, table.items.each n less, all)
  where
    zero_plus : (k : ℕ) → 0 + k ≡ k
    zero_plus k = omega arith

pub type_found : (first : ℕ) (t : TypeTable) (n : ℕ) (s : Shape) → IsTable first t → slice_get t.types n ≡ Some s → Stands t.types n
    → (rest : List TreeItem) × (drop (item_of t n - first) (items_from t 0 t.types) ≡ shape_items t s ++ rest)
type_found first t n s table is stands =
    let at = type_at first t n s table is stands in
    let count : item_of t n - first ≡ length at.0 = omega (arith, at.2) in (
      at.1,
      ap (drop (item_of t n - first)) at.3 ∙ ap (λ (k : ℕ). drop k (at.0 ++ (shape_items t s ++ at.1))) count
          ∙ drop_at at.0 (shape_items t s ++ at.1) (length at.0) refl,
    )

-- ---- each type that stands has a place among the items

-- a type has an item at least
shape_some : (t : TypeTable) (s : Shape) → 0 < length (shape_items t s)
shape_some t (Base name size encoding) = omega arith
shape_some t (Pointer tag to) = omega arith
shape_some t (Qualifier tag to) = omega arith
shape_some t (Typedef name to) = omega arith
shape_some t (Declaration tag name) = omega arith
shape_some t (Record tag name size members) = omega arith
shape_some t (Enumeration name size to enumerators) = omega arith
shape_some t (Array to counts) = omega arith
shape_some t (Subroutine result parameters more) = omega arith

marked_within : (marks : List Bool) (n : ℕ) → is_marked marks n ≡ true → n < length marks
marked_within marks n is = by_place (nat_lt n (length marks)) refl
  where
    by_place : (z : Bool) → nat_lt n (length marks) ≡ z → n < length marks
    by_place true e = ltb-true n (length marks) e
    by_place false e = absurd (false≢true (sym (get_or_past marks n false (omega (arith, ltb-false n (length marks) e))) ∙ is))

-- a type that stands has its place before the end of all
pub placed_within : (first : ℕ) (t : TypeTable) (n : ℕ) → IsTable first t → is_marked t.stands.items n ≡ true
    → item_of t n < first + length (items_from t 0 t.types)
placed_within first t n table is =
    let less : n < length t.types = omega (arith, marked_within t.stands.items n is, table.stands.long) in
    let s = some t.types n less in
    let at = type_at first t n s.0 table s.1 ((table.stands.each n less).0 is) in
    omega (
      arith,
      at.2,
      ap length at.3,
      length-append at.0 (shape_items t s.0 ++ at.1),
      length-append (shape_items t s.0) at.1,
      shape_some t s.0,
    )
  where
    some : (types : List Shape) (k : ℕ) → k < length types → (s : Shape) × (slice_get types k ≡ Some s)
    some [] k less = absurd (omega (arith, less))
    some (s ∷ types) zero less = (s, refl)
    some (s ∷ types) (suc k) less = some types k (omega (arith, less))

-- ---- all types, one after the other

pub record SoFar (t : TypeTable) (types : List Shape) (old tree : List TreeItem) (starts : List ℕ) (k : ℕ) : Type 0 where
  pub within : k ≤ length types
  pub long : length starts ≡ k
  pub items : tree ≡ old ++ items_from t 0 (take k types)
  pub each : (n : ℕ) → n < k → slice_index_or starts n 0 ≡ length old + length (items_from t 0 (take n types))

pub not_yet : (t : TypeTable) (types : List Shape) (old tree : List TreeItem) (starts : List ℕ) → starts ≡ [] → tree ≡ old
    → SoFar t types old tree starts 0
not_yet t types old tree starts none same = record {
  within = omega arith;
  long = ap length none;
  items = same ∙ sym (append-nil old);
  each = λ n less. absurd (omega (arith, less));
}

-- the items of one more type
items_more : (t : TypeTable) (types : List Shape) (k : ℕ) (s : Shape) → k < length types → s ≡ slice_index_or types k s
    → items_from t 0 (take (k + 1) types) ≡ items_from t 0 (take k types) ++ cond (is_marked t.stands.items k) (shape_items t s) []
items_more t types k s less here =
    let index : 0 + length (take k types) ≡ k = omega (arith, less, length-take k types) in
    ap (items_from t 0) (take_more types k s less ∙ ap (λ (x : Shape). take k types ++ x ∷ []) (sym here))
    ∙ from_append t 0 (take k types) (s ∷ []) ∙ ap (λ (j : ℕ). items_from t 0 (take k types) ++ items_from t j (s ∷ [])) index
    ∙ ap (λ (items : List TreeItem). items_from t 0 (take k types) ++ items) (append-nil (cond (is_marked t.stands.items k) (shape_items t s) []))

pub so_far_more : (t : TypeTable) (types : List Shape) (old tree next : List TreeItem) (starts later : List ℕ) (k start index : ℕ) (s : Shape)
    → k < length types → s ≡ slice_index_or types k s → start ≡ length tree → index ≡ length starts → later ≡ starts ++ start ∷ []
    → next ≡ tree ++ cond (is_marked t.stands.items index) (shape_items t s) [] → SoFar t types old tree starts k → SoFar t types old next later (k + 1)
so_far_more t types old tree next starts later k start index s less here begin place pushed step so = record {
  within = omega (arith, less);
  long = ap length pushed ∙ length-append starts (start ∷ []) ∙ ap (λ (j : ℕ). j + 1) so.long;
  items = step ∙ ap (λ (j : ℕ). tree ++ cond (is_marked t.stands.items j) (shape_items t s) []) (place ∙ so.long)
      ∙ ap (λ (items : List TreeItem). items ++ cond (is_marked t.stands.items k) (shape_items t s) []) so.items
      ∙ append_assoc old (items_from t 0 (take k types)) (cond (is_marked t.stands.items k) (shape_items t s) [])
      ∙ ap (λ (items : List TreeItem). old ++ items) (sym (items_more t types k s less here));
  each = each;
}
  where
    each : (n : ℕ) → n < k + 1 → slice_index_or later n 0 ≡ length old + length (items_from t 0 (take n types))
    each n below =
        ap (λ (xs : List ℕ). slice_index_or xs n 0) pushed
        ∙ at_push starts start 0 n (λ (x : ℕ). x ≡ length old + length (items_from t 0 (take n types)))
        (λ low. so.each n (omega (arith, low, so.long))) at_end (λ far. absurd (omega (arith, far, below, so.long)))
      where
        at_end : n ≡ length starts → start ≡ length old + length (items_from t 0 (take n types))
        at_end same =
            let last : k ≡ n = omega (arith, same, so.long) in
            begin ∙ ap length so.items ∙ length-append old (items_from t 0 (take k types))
            ∙ ap (λ (j : ℕ). length old + length (items_from t 0 (take j types))) last

pub all_items : (t : TypeTable) (types : List Shape) (old tree : List TreeItem) (starts : List ℕ) (k : ℕ) → length types ≤ k
    → SoFar t types old tree starts k → tree ≡ old ++ items_from t 0 types
all_items t types old tree starts k far so = so.items ∙ ap (λ (ts : List Shape). old ++ items_from t 0 ts) (take_all k types far)

pub all_starts : (t : TypeTable) (types : List Shape) (old tree : List TreeItem) (starts : List ℕ) (k : ℕ) → length types ≤ k
    → SoFar t types old tree starts k → AreStarts (length old) t types starts
all_starts t types old tree starts k far so = record {
  long = omega (arith, far, so.within, so.long);
  each = λ n less. so.each n (omega (arith, less, far));
}

-- ---- a table, once its items have places

-- the types have places, as they had none, or others, when their items were counted
pub placed_table : (first : ℕ) (t u : TypeTable) (types : List Shape) → AreStanding u.types u.stands.items → AreSizes u.types u.sizes.items
    → t.types ≡ u.types → t.stands.items ≡ u.stands.items → t.sizes.items ≡ u.sizes.items → types ≡ u.types → AreStarts first t types u.items.items
    → IsTable first u
placed_table first t u types standing sizes same_types same_stands same_sizes own starts = record {
  stands = standing;
  sizes = sizes;
  items = subst (λ (ts : List Shape). AreStarts first u ts u.items.items) own (record {
    long = starts.long;
    each = λ n less.
        starts.each n less ∙ ap (λ (k : ℕ). first + k) (from_long t u same_stands told 0 (take n types));
  });
}
  where
    told : (size : ℕ) (m : Member) → is_told t size m ≡ is_told u size m
    told size m =
        ap (λ (marks : List Bool). is_marked marks m.base && (is_some (size_at t.sizes.items m.base) || is_array (slice_get t.types m.base))
        && (m.bit_field || nat_eq (m.offset % 8) 0) && not (nat_lt (8 * size) (m.offset + m.size))) same_stands
        ∙ ap (λ (ns : List (Option ℕ)). is_marked u.stands.items m.base && (is_some (size_at ns m.base) || is_array (slice_get t.types m.base))
        && (m.bit_field || nat_eq (m.offset % 8) 0) && not (nat_lt (8 * size) (m.offset + m.size))) same_sizes
        ∙ ap (λ (ts : List Shape). is_marked u.stands.items m.base && (is_some (size_at u.sizes.items m.base) || is_array (slice_get ts m.base))
        && (m.bit_field || nat_eq (m.offset % 8) 0) && not (nat_lt (8 * size) (m.offset + m.size))) same_types
