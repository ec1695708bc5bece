-- The section of a unit with inlined functions is that of its tree.
use Rattle.std.specs.Prelude.{All}
use Rattle.std.specs.List.{flat_map, AllByRecursion}
use Rattle.std.specs.Option.{option_eq}
use Rattle.std.proofs.Common.{◌≡◌, ℕ, suc, ◌+◌, ◌<◌, Bool, true, false, cond, nat_eq, Option, Some, None, List, [], ◌∷◌, ◌++◌, length, take, map, arith, ap}
use Rattle.std.proofs.Common.{sym, ◌∙◌, refl, append_assoc, length-append}
use Rattle.std.proofs.lemmas.List.{length-map, take-map, take-append-le}
use Rattle.std.proofs.lemmas.List.Concat.{flat_map-append}
use Rattle.std.proofs.lemmas.List.Elements.{recursion_from_All}
use Rattle.dwarf_info.specs.declared.inlined.InlinedCall.{InlinedCall}
use Rattle.dwarf_info.specs.declared.inlined.InlinedFunction.{InlinedFunction}
use Rattle.dwarf_info.specs.declared.inlined.InlinedUnit.{InlinedUnit}
use Rattle.dwarf_info.specs.Entries.{entry, base_type, variable, subprogram, header, HasType}
use Rattle.dwarf_info.specs.Inlined.{unit_with_ranges, abstract_subprogram, inlined_subroutine, call_bytes, inlined_function, inlined_functions}
use Rattle.dwarf_info.specs.Inlined.{type_offset, origin_offset, inlined_tree, inlined_spelling, IsCall, AreCalls, IsInlinedFunction}
use Rattle.dwarf_info.specs.Inlined
use Rattle.dwarf_entry.specs.declared.tree.TreeItem.{TreeItem}
use Rattle.dwarf_entry.specs.declared.tree.TreeItem.TheVariants.{Null}
use Rattle.dwarf_entry.specs.Entries.{item_bytes, tree_bytes, offset_of, encoded, spelling, spelling_at}
use Rattle.unit_entries.specs.Kinds.{all_abbreviations}
use Rattle.unit_entries.specs.Plain.{type_item, variable_item, subprogram_item}
use Rattle.unit_entries.specs.Inlined.{unit_item, abstract_item, subroutine_item, call_items, calls_within, function_items, functions_items, inlined_unit_tree}
use Rattle.unit_entries.proofs.Parts.{all, subprogram_is, TypesAt, offset_front}
use Rattle.unit_entries.proofs.PlainProofs.{types_are, variables_are}

-- ---- single items

unit_is : (o : ℕ → ℕ) (u : InlinedUnit) → item_bytes all_abbreviations o (unit_item u) ≡ entry (unit_with_ranges u)
unfolding entry
unit_is o u = refl

abstract_is : (o : ℕ → ℕ) (name : List ℕ) → item_bytes all_abbreviations o (abstract_item name) ≡ entry (abstract_subprogram name)
unfolding entry
abstract_is o name = refl

abstracts_are : (o : ℕ → ℕ) (names : List (List ℕ))
    → tree_bytes all_abbreviations o (map abstract_item names) ≡ flat_map entry (map abstract_subprogram names)
abstracts_are o [] = refl
abstracts_are o (name ∷ names) =
    let here = abstract_is o name in
    let rest = abstracts_are o names in
    λ i. here i ++ rest i

subroutine_is : (types list : ℕ) (o origin : ℕ → ℕ) (c : InlinedCall) → o (suc types + c.origin) ≡ origin c.origin
    → item_bytes all_abbreviations o (subroutine_item types list c) ≡ entry (inlined_subroutine origin list c)
unfolding entry
subroutine_is types list o origin c same = ap (λ (n : ℕ). item_bytes all_abbreviations (λ _. n) (subroutine_item types list c)) same

-- ---- calls

-- where abstract entries lie
abbrev OriginsAt : (types count : ℕ) (o origin : ℕ → ℕ) → Type 0
OriginsAt types count o origin = (k : ℕ) → k < count → o (suc types + k) ≡ origin k

module _ (types abstracts : ℕ) (o offset origin : ℕ → ℕ) (types_lie : TypesAt types o offset) (origins_lie : OriginsAt types abstracts o origin) where
  abbrev bytes : TreeItem → List ℕ
  bytes i = item_bytes all_abbreviations o i

  call_is : (first k : ℕ) (c : InlinedCall) → IsCall types abstracts k c
      → flat_map bytes (call_items types first k c) ≡ call_bytes offset origin first k c
  call_is first k c is =
      let here = subroutine_is types (first + k) o origin c (origins_lie c.origin is.origin) in
      let inside = variables_are all types o offset types_lie c.variables (recursion_from_All (HasType types) c.variables is.types_are) in
      λ i. here i ++ inside i

  calls_are : (first k : ℕ) (cs : List InlinedCall) (around : Option ℕ) → AreCalls types abstracts k cs
      → flat_map bytes (calls_within (call_items types first) k cs around) ≡ Inlined.calls_within (call_bytes offset origin first) k cs around
  calls_are first k [] around are = refl
  calls_are first k (c ∷ cs) around are =
      let inside = calls_are first (suc k) cs (Some k) are.1 in
      let behind = calls_are first (suc k) cs around are.1 in
      let own : List TreeItem = call_items types first k c ++ (calls_within (call_items types first) (suc k) cs (Some k) ++ Null ∷ []) in
      let others : List TreeItem = calls_within (call_items types first) (suc k) cs around in
      flat_map-append bytes (cond (option_eq nat_eq c.parent around) own []) others
      ∙ (λ i. by (option_eq nat_eq c.parent around) inside i ++ behind i)
    where
      by : (b : Bool)
          → flat_map bytes (calls_within (call_items types first) (suc k) cs (Some k)) ≡ Inlined.calls_within (call_bytes offset origin first) (suc k) cs (Some k)
          → flat_map bytes (cond b (call_items types first k c ++ (calls_within (call_items types first) (suc k) cs (Some k) ++ Null ∷ [])) [])
          ≡ cond b (call_bytes offset origin first k c ++ Inlined.calls_within (call_bytes offset origin first) (suc k) cs (Some k) ++ 0 ∷ []) []
      by true inside =
          let within : List TreeItem = calls_within (call_items types first) (suc k) cs (Some k) in
          let here = call_is first k c are.0 in
          flat_map-append bytes (call_items types first k c) (within ++ Null ∷ [])
          ∙ ap (λ (ys : List ℕ). flat_map bytes (call_items types first k c) ++ ys) (flat_map-append bytes within (Null ∷ []))
          ∙ (λ i. here i ++ (inside i ++ 0 ∷ []))
          ∙ sym (append_assoc (call_bytes offset origin first k c) (Inlined.calls_within (call_bytes offset origin first) (suc k) cs (Some k)) (0 ∷ []))
      by false inside = refl

  -- ---- functions

  function_is : (first : ℕ) (f : InlinedFunction) → IsInlinedFunction types abstracts f
      → flat_map bytes (function_items types first f) ≡ inlined_function offset origin first f
  function_is first f is =
      let vs : List TreeItem = map variable_item f.function.variables in
      let cs : List TreeItem = calls_within (call_items types first) 0 f.calls None in
      let here = subprogram_is all o f.function in
      let variables = variables_are all types o offset types_lie f.function.variables (recursion_from_All (HasType types) f.function.variables is.0) in
      let calls = calls_are first 0 f.calls None is.1 in
      ap (λ (ys : List ℕ). bytes (subprogram_item f.function) ++ ys) (flat_map-append bytes vs (cs ++ Null ∷ []))
      ∙ ap (λ (ys : List ℕ). bytes (subprogram_item f.function) ++ (flat_map bytes vs ++ ys)) (flat_map-append bytes cs (Null ∷ []))
      ∙ (λ i. here i ++ (variables i ++ (calls i ++ 0 ∷ [])))
      ∙ nested (entry (subprogram f.function)) (flat_map entry (map (variable offset) f.function.variables))
      (Inlined.calls_within (call_bytes offset origin first) 0 f.calls None)
    where
      nested : (a b c : List ℕ) → a ++ (b ++ (c ++ 0 ∷ [])) ≡ ((a ++ b) ++ c) ++ 0 ∷ []
      nested a b c = sym (append_assoc (a ++ b) c (0 ∷ []) ∙ append_assoc a b (c ++ 0 ∷ []))

  functions_are : (first : ℕ) (fs : List InlinedFunction) → AllByRecursion (IsInlinedFunction types abstracts) fs
      → flat_map bytes (functions_items types first fs) ≡ inlined_functions offset origin first fs
  functions_are first [] are = refl
  functions_are first (f ∷ fs) are =
      let here = function_is first f are.0 in
      let rest = functions_are (first + length f.calls) fs are.1 in
      flat_map-append bytes (function_items types first f) (functions_items types (first + length f.calls) fs) ∙ (λ i. here i ++ rest i)

-- ---- where types and abstract entries lie

types_at : (u : InlinedUnit) → TypesAt (length u.types) (offset_of all_abbreviations (inlined_unit_tree u)) (type_offset u)
types_at u k below =
    let rest : List TreeItem = map abstract_item u.abstracts ++ (functions_items (length u.types) 0 u.functions ++ Null ∷ []) in
    offset_front all_abbreviations (unit_item u) (map type_item u.types) rest k (omega (arith, below, length-map u.types type_item))
    ∙ ap (λ (ts : List TreeItem). 12 + length (item_bytes all_abbreviations (λ _. 0) (unit_item u)) + length (tree_bytes all_abbreviations (λ _. 0) ts))
    (take-map type_item k u.types)
    ∙ ap (λ (ys : List ℕ). 12 + length (item_bytes all_abbreviations (λ _. 0) (unit_item u)) + length ys) (types_are all (λ _. 0) (take k u.types))
    ∙ ap (λ (ys : List ℕ). 12 + length ys + length (flat_map entry (map base_type (take k u.types)))) (unit_is (λ _. 0) u)

-- a front that reaches into the second of two lists
take_both : {X : Type 0} (xs ys : List X) (k : ℕ) → take (length xs + k) (xs ++ ys) ≡ xs ++ take k ys
take_both [] ys k = let same : 0 + k ≡ k = omega arith in ap (λ (n : ℕ). take n ys) same
take_both (x ∷ xs) ys k =
    let next : suc (length xs) + k ≡ suc (length xs + k) = omega arith in
    ap (λ (n : ℕ). take n (x ∷ (xs ++ ys))) next ∙ ap (λ zs. x ∷ zs) (take_both xs ys k)

origins_at : (u : InlinedUnit) → OriginsAt (length u.types) (length u.abstracts) (offset_of all_abbreviations (inlined_unit_tree u)) (origin_offset u)
origins_at u k below =
    let none : ℕ → ℕ = λ _. 0 in
    let ts : List TreeItem = map type_item u.types in
    let xs : List TreeItem = map abstract_item u.abstracts in
    let rest : List TreeItem = functions_items (length u.types) 0 u.functions ++ Null ∷ [] in
    let size : ℕ = length (item_bytes all_abbreviations none (unit_item u)) in
    let index : suc (length u.types) + k ≡ suc (length ts + k) = omega (arith, length-map u.types type_item) in
    let front : take (length ts + k) (ts ++ (xs ++ rest)) ≡ ts ++ map abstract_item (take k u.abstracts) =
    take_both ts (xs ++ rest) k
    ∙ ap (λ (zs : List TreeItem). ts ++ zs)
    (take-append-le k xs rest (omega (arith, below, length-map u.abstracts abstract_item)) ∙ take-map abstract_item k u.abstracts) in
    let bytes_are : flat_map (item_bytes all_abbreviations none) (ts ++ map abstract_item (take k u.abstracts))
    ≡ flat_map entry (map base_type u.types) ++ flat_map entry (map abstract_subprogram (take k u.abstracts)) =
    flat_map-append (item_bytes all_abbreviations none) ts (map abstract_item (take k u.abstracts))
    ∙ (λ i. types_are all none u.types i ++ abstracts_are none (take k u.abstracts) i) in
    ap (offset_of all_abbreviations (inlined_unit_tree u)) index
    ∙ omega (
      arith,
      length-append (item_bytes all_abbreviations none (unit_item u)) (flat_map (item_bytes all_abbreviations none) (take (length ts + k) (ts ++ (xs ++ rest)))),
      ap (λ (zs : List TreeItem). length (flat_map (item_bytes all_abbreviations none) zs)) front,
      ap length bytes_are,
      length-append (flat_map entry (map base_type u.types)) (flat_map entry (map abstract_subprogram (take k u.abstracts))),
      ap length (unit_is none u),
    )

-- ---- the unit

abbrev AreInlined : InlinedUnit → Type 0
AreInlined u = All (IsInlinedFunction (length u.types) (length u.abstracts)) u.functions

tree_is : (u : InlinedUnit) → AreInlined u → encoded all_abbreviations (inlined_unit_tree u) ≡ inlined_tree u
unfolding inlined_tree
tree_is u are =
    let o : ℕ → ℕ = offset_of all_abbreviations (inlined_unit_tree u) in
    let bytes : TreeItem → List ℕ = item_bytes all_abbreviations o in
    let ts : List TreeItem = map type_item u.types in
    let xs : List TreeItem = map abstract_item u.abstracts in
    let fs : List TreeItem = functions_items (length u.types) 0 u.functions in
    let here = unit_is o u in
    let types = types_are all o u.types in
    let abstracts = abstracts_are o u.abstracts in
    let functions =
    functions_are (length u.types) (length u.abstracts) o (type_offset u) (origin_offset u) (types_at u) (origins_at u) 0 u.functions
    (recursion_from_All (IsInlinedFunction (length u.types) (length u.abstracts)) u.functions are) in
    ap (λ (ys : List ℕ). bytes (unit_item u) ++ ys) (flat_map-append bytes ts (xs ++ (fs ++ Null ∷ [])))
    ∙ ap (λ (ys : List ℕ). bytes (unit_item u) ++ (flat_map bytes ts ++ ys)) (flat_map-append bytes xs (fs ++ Null ∷ []))
    ∙ ap (λ (ys : List ℕ). bytes (unit_item u) ++ (flat_map bytes ts ++ (flat_map bytes xs ++ ys))) (flat_map-append bytes fs (Null ∷ []))
    ∙ (λ i. here i ++ (types i ++ (abstracts i ++ (functions i ++ 0 ∷ []))))
    ∙ nested (entry (unit_with_ranges u)) (flat_map entry (map base_type u.types)) (flat_map entry (map abstract_subprogram u.abstracts))
    (inlined_functions (type_offset u) (origin_offset u) 0 u.functions)
  where
    nested : (a b c d : List ℕ) → a ++ (b ++ (c ++ (d ++ 0 ∷ []))) ≡ (((a ++ b) ++ c) ++ d) ++ 0 ∷ []
    nested a b c d = sym (append_assoc ((a ++ b) ++ c) d (0 ∷ []) ∙ append_assoc (a ++ b) c (d ++ 0 ∷ []) ∙ append_assoc a b (c ++ (d ++ 0 ∷ [])))

pub inlined_is : (u : InlinedUnit) → AreInlined u → spelling all_abbreviations (inlined_unit_tree u) ≡ inlined_spelling u
unfolding spelling_at inlined_spelling
inlined_is u are = ap (λ (ys : List ℕ). header (8 + length ys) ++ ys) (tree_is u are)
