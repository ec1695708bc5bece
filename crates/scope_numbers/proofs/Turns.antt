-- Items with the numbers of their lists, item by item.
use Rattle.std.proofs.Common.{◌≡◌, ℕ, ◌+◌, ◌<◌, List, [], ◌∷◌, ◌++◌, length, get_or, drop, refl, sym, ap, ◌∙◌}
use Rattle.std.proofs.Common.{Option, Some, None, append_assoc, append-nil, length-append}
use Rattle.std.specs.List.{flat_map}
use Rattle.std.proofs.lemmas.List.{drop_more}
use Rattle.dwarf_rnglists.specs.declared.range.AddressRange.{AddressRange}
use Rattle.scope_ranges.specs.declared.scope.Scope.{Scope}
use Rattle.scope_entries.specs.declared.item.ScopeItem.{ScopeItem}
use Rattle.scope_entries.specs.declared.item.ScopeItem.TheVariants.{Variable, Open, End}
use Rattle.scope_numbers.specs.declared.item.FunctionList.{FunctionList}
use Rattle.scope_numbers.specs.declared.item.NumberedItem.{NumberedItem}
use Rattle.scope_numbers.specs.Numbers.{count, list_count, list_of, lists_of_item, numbered, numbered_item, range_count, ranges_of_item}

listed : (f : ℕ) (o : Option ℕ) → length (list_of f o) ≡ count o
listed f None = refl
listed f (Some k) = refl

-- an item has one list at most
list_long : (f : ℕ) (i : ScopeItem) → length (lists_of_item f i) ≡ list_count i
list_long f (Variable v) = listed f v.list
list_long f (Open k) = refl
list_long f End = refl

range_long : (scopes : List Scope) (i : ScopeItem) → length (ranges_of_item scopes i) ≡ range_count i
range_long scopes (Variable v) = refl
range_long scopes (Open k) = refl
range_long scopes End = refl

-- what is numbered so far, and what is left
pub record AreNumbered (f : ℕ) (scopes : List Scope) (items rest : List ScopeItem) (lists others : List FunctionList) (ranges more : List (List AddressRange))
    (made : List NumberedItem) : Type 0 where
  pub items_are : made ++ numbered (length others) (length more) rest ≡ numbered (length lists) (length ranges) items
  pub lists_are : others ++ flat_map (lists_of_item f) rest ≡ lists ++ flat_map (lists_of_item f) items
  pub ranges_are : more ++ flat_map (ranges_of_item scopes) rest ≡ ranges ++ flat_map (ranges_of_item scopes) items

-- one more item
pub number_turn : (f : ℕ) (scopes : List Scope) (items : List ScopeItem) (lists others next : List FunctionList) (ranges more behind : List (List AddressRange))
    (made longer : List NumberedItem) (k : ℕ) (i : ScopeItem) (item : NumberedItem) → AreNumbered f scopes items (drop k items) lists others ranges more made
    → k < length items → i ≡ get_or items k i → item ≡ numbered_item (length others) (length more) i → longer ≡ made ++ item ∷ []
    → next ≡ others ++ lists_of_item f i → behind ≡ more ++ ranges_of_item scopes i
    → AreNumbered f scopes items (drop (k + 1) items) lists next ranges behind longer
number_turn f scopes items lists others next ranges more behind made longer k i item are lt here is e g h =
    let rest = drop (k + 1) items in
    let split : drop k items ≡ i ∷ rest = drop_more items k i lt ∙ ap (λ (s : ScopeItem). s ∷ rest) (sym here) in
    let long : length next ≡ length others + list_count i =
    ap length g ∙ length-append others (lists_of_item f i) ∙ ap (λ n. length others + n) (list_long f i) in
    let wide : length behind ≡ length more + range_count i =
    ap length h ∙ length-append more (ranges_of_item scopes i) ∙ ap (λ n. length more + n) (range_long scopes i) in
    record {
      items_are =
          (λ j. e j ++ numbered (long j) (wide j) rest)
          ∙ append_assoc made (item ∷ []) (numbered (length others + list_count i) (length more + range_count i) rest)
          ∙ ap (λ (x : NumberedItem). made ++ x ∷ numbered (length others + list_count i) (length more + range_count i) rest) is
          ∙ ap (λ (is : List ScopeItem). made ++ numbered (length others) (length more) is) (sym split)
          ∙ are.items_are;
      lists_are =
          ap (λ (x : List FunctionList). x ++ flat_map (lists_of_item f) rest) g
          ∙ append_assoc others (lists_of_item f i) (flat_map (lists_of_item f) rest)
          ∙ ap (λ (is : List ScopeItem). others ++ flat_map (lists_of_item f) is) (sym split)
          ∙ are.lists_are;
      ranges_are =
          ap (λ (x : List (List AddressRange)). x ++ flat_map (ranges_of_item scopes) rest) h
          ∙ append_assoc more (ranges_of_item scopes i) (flat_map (ranges_of_item scopes) rest)
          ∙ ap (λ (is : List ScopeItem). more ++ flat_map (ranges_of_item scopes) is) (sym split)
          ∙ are.ranges_are;
    }

-- all items
pub number_all : (f : ℕ) (scopes : List Scope) (items rest : List ScopeItem) (lists others : List FunctionList) (ranges more : List (List AddressRange))
    (made : List NumberedItem) → AreNumbered f scopes items rest lists others ranges more made → rest ≡ []
    → (made ≡ numbered (length lists) (length ranges) items) × (others ≡ lists ++ flat_map (lists_of_item f) items)
    × (more ≡ ranges ++ flat_map (ranges_of_item scopes) items)
number_all f scopes items rest lists others ranges more made are none = (
  sym (append-nil made) ∙ ap (λ (is : List ScopeItem). made ++ numbered (length others) (length more) is) (sym none) ∙ are.items_are,
  sym (append-nil others) ∙ ap (λ (is : List ScopeItem). others ++ flat_map (lists_of_item f) is) (sym none) ∙ are.lists_are,
  sym (append-nil more) ∙ ap (λ (is : List ScopeItem). more ++ flat_map (ranges_of_item scopes) is) (sym none) ∙ are.ranges_are,
)
