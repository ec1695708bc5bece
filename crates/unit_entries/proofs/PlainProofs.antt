-- The section of a unit without inlined functions is that of its tree.
use Rattle.std.specs.Prelude.{All}
use Rattle.std.specs.List.{flat_map, AllByRecursion}
use Rattle.std.proofs.Common.{◌≡◌, ℕ, ◌+◌, List, [], ◌∷◌, ◌++◌, length, take, map, arith, ap, sym, ◌∙◌, refl, append_assoc}
use Rattle.std.proofs.lemmas.List.{length-map, take-map}
use Rattle.std.proofs.lemmas.List.Concat.{flat_map-append}
use Rattle.std.proofs.lemmas.List.Elements.{recursion_from_All}
use Rattle.dwarf_base.specs.Leb.{uleb_of, groups}
use Rattle.dwarf_info.specs.declared.unit.BaseEntry.{BaseEntry}
use Rattle.dwarf_info.specs.declared.unit.VariableEntry.{VariableEntry}
use Rattle.dwarf_info.specs.declared.unit.FunctionEntry.{FunctionEntry}
use Rattle.dwarf_info.specs.declared.unit.Unit.{Unit as CompilationUnit}
use Rattle.dwarf_info.specs.Kinds.{abbreviations, inlined_abbreviations, abbreviation}
use Rattle.dwarf_info.specs.Entries.{entry, base_type, variable, subprogram, compile_unit, type_offset, function, function_of, tree, tree_of, header}
use Rattle.dwarf_info.specs.Entries.{HasType, HasTypes, spelling}
use Rattle.dwarf_entry.specs.declared.tree.TreeItem.{TreeItem}
use Rattle.dwarf_entry.specs.declared.tree.TreeItem.TheVariants.{Null}
use Rattle.dwarf_entry.specs.Declarations.{abbreviation_section, declaration}
use Rattle.dwarf_entry.specs.Entries.{item_bytes, tree_bytes, offset_of, encoded, spelling as tree_spelling, spelling_at}
use Rattle.unit_entries.specs.Kinds.{plain_abbreviations, all_abbreviations}
use Rattle.unit_entries.specs.Plain.{unit_item, type_item, variable_item, subprogram_item, function_items, unit_tree}
use Rattle.unit_entries.proofs.Parts.{Table, plain, declared, type_is, subprogram_is, variable_is, TypesAt, offset_front}

-- ---- the abbreviations

pub plain_declared : abbreviation_section plain_abbreviations ≡ abbreviations
unfolding abbreviations abbreviation declaration uleb_of groups
plain_declared = refl

pub all_declared : abbreviation_section all_abbreviations ≡ inlined_abbreviations
unfolding inlined_abbreviations abbreviation declaration uleb_of groups
all_declared = refl

-- ---- parts that both kinds of units have

pub types_are : (t : Table) (o : ℕ → ℕ) (bs : List BaseEntry) → tree_bytes (declared t) o (map type_item bs) ≡ flat_map entry (map base_type bs)
types_are t o [] = refl
types_are t o (b ∷ bs) =
    let here = type_is t o b in
    let rest = types_are t o bs in
    λ i. here i ++ rest i

pub variables_are : (t : Table) (count : ℕ) (o offset : ℕ → ℕ) → TypesAt count o offset → (vs : List VariableEntry) → AllByRecursion (HasType count) vs
    → tree_bytes (declared t) o (map variable_item vs) ≡ flat_map entry (map (variable offset) vs)
variables_are t count o offset at [] has = refl
variables_are t count o offset at (v ∷ vs) has =
    let here = variable_is t count o offset at v has.0 in
    let rest = variables_are t count o offset at vs has.1 in
    λ i. here i ++ rest i

-- ---- functions

function_is : (count : ℕ) (o offset : ℕ → ℕ) → TypesAt count o offset → (f : FunctionEntry) → HasTypes count f
    → tree_bytes plain_abbreviations o (function_items f) ≡ function (function_of offset f)
function_is count o offset at f has =
    let here = subprogram_is plain o f in
    let inside = variables_are plain count o offset at f.variables (recursion_from_All (HasType count) f.variables has) in
    ap (λ (ys : List ℕ). item_bytes plain_abbreviations o (subprogram_item f) ++ ys)
    (flat_map-append (item_bytes plain_abbreviations o) (map variable_item f.variables) (Null ∷ []))
    ∙ (λ i. here i ++ (inside i ++ 0 ∷ []))
    ∙ sym (append_assoc (entry (subprogram f)) (flat_map entry (map (variable offset) f.variables)) (0 ∷ []))

functions_are : (count : ℕ) (o offset : ℕ → ℕ) → TypesAt count o offset → (fs : List FunctionEntry) → AllByRecursion (HasTypes count) fs
    → tree_bytes plain_abbreviations o (flat_map function_items fs) ≡ flat_map function (map (function_of offset) fs)
functions_are count o offset at [] has = refl
functions_are count o offset at (f ∷ fs) has =
    let here = function_is count o offset at f has.0 in
    let rest = functions_are count o offset at fs has.1 in
    flat_map-append (item_bytes plain_abbreviations o) (function_items f) (flat_map function_items fs) ∙ (λ i. here i ++ rest i)

-- ---- the unit

unit_is : (o : ℕ → ℕ) (u : CompilationUnit) → item_bytes plain_abbreviations o (unit_item u) ≡ entry (compile_unit u)
unfolding entry
unit_is o u = refl

types_at : (u : CompilationUnit) → TypesAt (length u.types) (offset_of plain_abbreviations (unit_tree u)) (type_offset u)
types_at u k below =
    let rest : List TreeItem = flat_map function_items u.functions ++ Null ∷ [] in
    offset_front plain_abbreviations (unit_item u) (map type_item u.types) rest k (omega (arith, below, length-map u.types type_item))
    ∙ ap (λ (ts : List TreeItem). 12 + length (item_bytes plain_abbreviations (λ _. 0) (unit_item u)) + length (tree_bytes plain_abbreviations (λ _. 0) ts))
    (take-map type_item k u.types)
    ∙ ap (λ (ys : List ℕ). 12 + length (item_bytes plain_abbreviations (λ _. 0) (unit_item u)) + length ys) (types_are plain (λ _. 0) (take k u.types))
    ∙ ap (λ (ys : List ℕ). 12 + length ys + length (flat_map entry (map base_type (take k u.types)))) (unit_is (λ _. 0) u)

tree_is : (u : CompilationUnit) → All (HasTypes (length u.types)) u.functions → encoded plain_abbreviations (unit_tree u) ≡ tree (tree_of u)
unfolding tree
tree_is u has =
    let o : ℕ → ℕ = offset_of plain_abbreviations (unit_tree u) in
    let bytes : TreeItem → List ℕ = item_bytes plain_abbreviations o in
    let here = unit_is o u in
    let types = types_are plain o u.types in
    let functions =
    functions_are (length u.types) o (type_offset u) (types_at u) u.functions (recursion_from_All (HasTypes (length u.types)) u.functions has) in
    let behind : List TreeItem = flat_map function_items u.functions ++ Null ∷ [] in
    ap (λ (ys : List ℕ). bytes (unit_item u) ++ ys) (flat_map-append bytes (map type_item u.types) behind)
    ∙ ap (λ (ys : List ℕ). bytes (unit_item u) ++ (flat_map bytes (map type_item u.types) ++ ys)) (flat_map-append bytes (flat_map function_items u.functions) (Null ∷ []))
    ∙ (λ i. here i ++ (types i ++ (functions i ++ 0 ∷ [])))
    ∙ nested (entry (compile_unit u)) (flat_map entry (map base_type u.types)) (flat_map function (map (function_of (type_offset u)) u.functions))
  where
    nested : (a b c : List ℕ) → a ++ (b ++ (c ++ 0 ∷ [])) ≡ ((a ++ b) ++ c) ++ 0 ∷ []
    nested a b c = sym (append_assoc (a ++ b) c (0 ∷ []) ∙ append_assoc a b (c ++ 0 ∷ []))

pub plain_is : (u : CompilationUnit) → All (HasTypes (length u.types)) u.functions → tree_spelling plain_abbreviations (unit_tree u) ≡ spelling u
unfolding spelling_at spelling
plain_is u has = ap (λ (ys : List ℕ). header (8 + length ys) ++ ys) (tree_is u has)
