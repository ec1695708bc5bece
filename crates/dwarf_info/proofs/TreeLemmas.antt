-- The tree's spelling by its parts, how long it is, and that a table of offsets serves for the offsets themselves.
use Rattle.std.specs.Prelude.{All, IfSome}
use Rattle.std.specs.List.{flat_map, AllByRecursion}
use Rattle.std.proofs.Common.{◌≡◌, ℕ, ◌+◌, ◌<◌, ◌≤◌, Bool, true, false, Option, Some, None, List, [], ◌∷◌, ◌++◌, length, take, drop, map, arith, ap, subst, sym}
use Rattle.std.proofs.Common.{◌∙◌, refl, length-append, append_assoc}
use Rattle.std.proofs.lemmas.List.{take-append-drop}
use Rattle.std.proofs.lemmas.List.Concat.{flat_map-append}
use Rattle.std.proofs.lemmas.List.Elements.{recursion_from_All}
use Rattle.std.specs.Int.{w32, to_le_bytes}
use Rattle.dwarf_base.specs.Leb.{uleb_of}
use Rattle.dwarf_info.specs.declared.unit.BaseEntry.{BaseEntry}
use Rattle.dwarf_info.specs.declared.unit.VariableEntry.{VariableEntry}
use Rattle.dwarf_info.specs.declared.unit.FunctionEntry.{FunctionEntry}
use Rattle.dwarf_info.specs.declared.unit.Unit.{Unit as CompilationUnit}
use Rattle.dwarf_info.specs.Entries.{named, entry, base_type, variable, variable_by, subprogram, compile_unit, type_offset, function, function_of, tree}
use Rattle.dwarf_info.specs.Entries.{tree_of, header, spelling, HasType, HasTypes}
use Rattle.dwarf_info.specs.steps.Parts.{type_bytes, variable_bytes, function_bytes, in_table, AreOffsets}

pub flat_map-map : {X Y : Type 0} (g : Y → List ℕ) (f : X → Y) (xs : List X) → flat_map g (map f xs) ≡ flat_map (λ x. g (f x)) xs
flat_map-map g f [] = refl
flat_map-map g f (x ∷ xs) = ap (λ ys. g (f x) ++ ys) (flat_map-map g f xs)

pub same_parts : {X : Type 0} (P : X → Type 0) (f g : X → List ℕ) → ((x : X) → P x → f x ≡ g x) → (xs : List X) → AllByRecursion P xs
    → flat_map f xs ≡ flat_map g xs
same_parts P f g each [] are = refl
same_parts P f g each (x ∷ xs) are = ap (λ y. y ++ flat_map f xs) (each x are.0) ∙ ap (λ ys. g x ++ ys) (same_parts P f g each xs are.1)

function_parts : (offset : ℕ → ℕ) (f : FunctionEntry) → function (function_of offset f) ≡ function_bytes offset f
function_parts offset f = ap (λ x. entry (subprogram f) ++ x ++ 0 ∷ []) (flat_map-map entry (variable offset) f.variables)

always : {X : Type 0} (xs : List X) → AllByRecursion (λ _. Unit {0}) xs
always [] = tt
always (x ∷ xs) = (tt, always xs)

pub tree_parts : (u : CompilationUnit) → tree (tree_of u)
    ≡ entry (compile_unit u) ++ flat_map type_bytes u.types ++ flat_map (function_bytes (type_offset u)) u.functions ++ 0 ∷ []
unfolding tree
tree_parts u =
    ap (λ x. entry (compile_unit u) ++ x ++ flat_map function (map (function_of (type_offset u)) u.functions) ++ 0 ∷ []) (flat_map-map entry base_type u.types)
    ∙ ap (λ x. entry (compile_unit u) ++ flat_map type_bytes u.types ++ x ++ 0 ∷ [])
    (flat_map-map function (function_of (type_offset u)) u.functions
    ∙ same_parts (λ _. Unit {0}) (λ f. function (function_of (type_offset u) f)) (function_bytes (type_offset u))
    (λ f is. function_parts (type_offset u) f) u.functions (always u.functions))

-- the parts' lengths
pub length-tree : (u : CompilationUnit) → length (tree (tree_of u))
    ≡ length (entry (compile_unit u)) + length (flat_map type_bytes u.types) + length (flat_map (function_bytes (type_offset u)) u.functions) + 1
length-tree u =
    ap length (tree_parts u)
    ∙ four (entry (compile_unit u)) (flat_map type_bytes u.types) (flat_map (function_bytes (type_offset u)) u.functions)
  where
    four : (a b c : List ℕ) → length (a ++ b ++ c ++ 0 ∷ []) ≡ length a + length b + length c + 1
    four a b c = omega (arith, length-append (a ++ b ++ c) (0 ∷ []), length-append (a ++ b) c, length-append a b)

pub length-spelling : (u : CompilationUnit) → length (spelling u)
    ≡ 13 + length (entry (compile_unit u)) + length (flat_map type_bytes u.types) + length (flat_map (function_bytes (type_offset u)) u.functions)
unfolding spelling
length-spelling u = omega (arith, length-tree u)

-- what a front of a list gives is no longer than what the list gives
pub front_le : {X : Type 0} (f : X → List ℕ) (xs : List X) (i : ℕ) → length (flat_map f (take i xs)) ≤ length (flat_map f xs)
front_le f xs i =
    let whole : length (flat_map f (take i xs)) + length (flat_map f (drop i xs)) ≡ length (flat_map f xs) =
    sym (length-append (flat_map f (take i xs)) (flat_map f (drop i xs)))
    ∙ ap length (sym (flat_map-append f (take i xs) (drop i xs)))
    ∙ ap (λ ys. length (flat_map f ys)) (take-append-drop i xs) in
    omega arith

-- ---- offsets by a table

pub variable_same : (count : ℕ) (f g : ℕ → ℕ) → ((k : ℕ) → k < count → f k ≡ g k) → (name : List ℕ) (argument : Bool) (base : Option ℕ) (list : ℕ)
    → IfSome base (λ k. k < count) → entry (variable_by f name argument base list) ≡ entry (variable_by g name argument base list)
variable_same count f g same name true None list has = refl
variable_same count f g same name true (Some k) list has = ap (λ (n : ℕ). entry (variable_by (λ _. n) name true (Some k) list)) (same k has)
variable_same count f g same name false None list has = refl
variable_same count f g same name false (Some k) list has = ap (λ (n : ℕ). entry (variable_by (λ _. n) name false (Some k) list)) (same k has)

function_same : (count : ℕ) (f g : ℕ → ℕ) → ((k : ℕ) → k < count → f k ≡ g k) → (h : FunctionEntry) → HasTypes count h → function_bytes f h ≡ function_bytes g h
function_same count f g same h has =
    ap (λ x. entry (subprogram h) ++ x ++ 0 ∷ [])
    (same_parts (HasType count) (variable_bytes f) (variable_bytes g) (λ v is. variable_same count f g same v.name v.argument v.base v.list is) h.variables
    (recursion_from_All (HasType count) h.variables has))

pub functions_same : (u : CompilationUnit) (offsets : List ℕ) (first : ℕ) → first ≡ 12 + length (entry (compile_unit u)) → AreOffsets first u.types offsets
    → All (HasTypes (length u.types)) u.functions → flat_map (function_bytes (in_table offsets)) u.functions ≡ flat_map
    (function_bytes (type_offset u)) u.functions
functions_same u offsets first at are has =
    same_parts (HasTypes (length u.types)) (function_bytes (in_table offsets)) (function_bytes (type_offset u))
    (λ h is. function_same (length u.types) (in_table offsets) (type_offset u)
    (λ k inside. are.at k inside ∙ ap (λ n. n + length (flat_map type_bytes (take k u.types))) at
    ∙ ap (λ (x : List ℕ). 12 + length (entry (compile_unit u)) + length x) (sym (flat_map-map entry base_type (take k u.types)))) h is)
    u.functions (recursion_from_All (HasTypes (length u.types)) u.functions has)

-- the section, as its parts were written one after the other
pub written : (u : CompilationUnit) (o0 o1 o2 o3 o4 o5 offsets : List ℕ) (types : List BaseEntry) (functions : List FunctionEntry) (after : ℕ) → o0 ≡ []
    → o1 ≡ o0 ++ header after → after + 4 ≡ length (spelling u) → o2 ≡ o1 ++ entry (compile_unit u) → types ≡ u.types → o3 ≡ o2 ++ flat_map type_bytes types
    → functions ≡ u.functions → o4 ≡ o3 ++ flat_map (function_bytes (in_table offsets)) functions → o5 ≡ o4 ++ 0 ∷ []
    → flat_map (function_bytes (in_table offsets)) u.functions ≡ flat_map (function_bytes (type_offset u)) u.functions → o5 ≡ spelling u
unfolding spelling
written u o0 o1 o2 o3 o4 o5 offsets types functions after e0 e1 after_is e2 types_are e3 functions_are e4 e5 same =
    let is : after ≡ 8 + length (tree (tree_of u)) = omega arith in
    let front : o2 ≡ header (8 + length (tree (tree_of u))) ++ entry (compile_unit u) =
    e2 ∙ ap (λ x. x ++ entry (compile_unit u)) (e1 ∙ ap (λ x. x ++ header after) e0 ∙ ap header is) in
    e5 ∙ ap (λ x. x ++ 0 ∷ [])
    (e4 ∙ ap (λ fs. o3 ++ flat_map (function_bytes (in_table offsets)) fs) functions_are ∙ ap (λ x. o3 ++ x) same
    ∙ ap (λ x. x ++ flat_map (function_bytes (type_offset u)) u.functions)
    (e3 ∙ ap (λ ts. o2 ++ flat_map type_bytes ts) types_are ∙ ap (λ x. x ++ flat_map type_bytes u.types) front))
    ∙ nested (header (8 + length (tree (tree_of u)))) (entry (compile_unit u)) (flat_map type_bytes u.types)
    (flat_map (function_bytes (type_offset u)) u.functions)
    ∙ ap (λ x. header (8 + length (tree (tree_of u))) ++ x) (sym (tree_parts u))
  where
    nested : (a b c d : List ℕ) → (((a ++ b) ++ c) ++ d) ++ 0 ∷ [] ≡ a ++ (b ++ c ++ d ++ 0 ∷ [])
    nested a b c d = simp append_assoc

-- ---- how long an entry of a variable is

pub parts_len : (a b c : List ℕ) → length (a ++ (b ++ (c ++ []))) ≡ length a + length b + length c
parts_len a b c = omega (arith, length-append a (b ++ (c ++ [])), length-append b (c ++ []), length-append c [])

pub typed_len : (a b c d : List ℕ) → length (a ++ (b ++ (c ++ (d ++ [])))) ≡ length a + length b + length c + length d
typed_len a b c d = omega (arith, length-append a (b ++ (c ++ (d ++ []))), parts_len b c d)

-- the bytes of the code and the type's offset
abbrev pub fixed_len : Bool → Option ℕ → ℕ
fixed_len true (Some k) = length (uleb_of 3) + 4
fixed_len true None = length (uleb_of 4)
fixed_len false (Some k) = length (uleb_of 5) + 4
fixed_len false None = length (uleb_of 6)

pub length-variable_by : (offset : ℕ → ℕ) (name : List ℕ) (argument : Bool) (base : Option ℕ) (list : ℕ)
    → length (entry (variable_by offset name argument base list)) ≡ fixed_len argument base + length (named name) + 1 + length (uleb_of list)
unfolding entry
length-variable_by offset name true (Some k) list =
    omega (arith, typed_len (uleb_of 3) (named name ++ 0 ∷ []) (to_le_bytes w32 (offset k)) (uleb_of list), length-append (named name) (0 ∷ []))
length-variable_by offset name true None list = omega (arith, parts_len (uleb_of 4) (named name ++ 0 ∷ []) (uleb_of list), length-append (named name) (0 ∷ []))
length-variable_by offset name false (Some k) list =
    omega (arith, typed_len (uleb_of 5) (named name ++ 0 ∷ []) (to_le_bytes w32 (offset k)) (uleb_of list), length-append (named name) (0 ∷ []))
length-variable_by offset name false None list = omega (arith, parts_len (uleb_of 6) (named name ++ 0 ∷ []) (uleb_of list), length-append (named name) (0 ∷ []))

pub length-variable : (offset : ℕ → ℕ) (v : VariableEntry) (argument : Bool) (base : Option ℕ) → v.argument ≡ argument → v.base ≡ base
    → length (entry (variable offset v)) ≡ fixed_len argument base + length (named v.name) + 1 + length (uleb_of v.list)
length-variable offset v argument base is_argument is_base =
    ap (λ (a : Bool). length (entry (variable_by offset v.name a v.base v.list))) is_argument
    ∙ ap (λ (b : Option ℕ). length (entry (variable_by offset v.name argument b v.list))) is_base ∙ length-variable_by offset v.name argument base v.list

-- where the first type is
pub front_length : (u : CompilationUnit) (o0 o1 o2 : List ℕ) (after : ℕ) → o0 ≡ [] → o1 ≡ o0 ++ header after → o2 ≡ o1 ++ entry (compile_unit u)
    → length o2 ≡ 12 + length (entry (compile_unit u))
front_length u o0 o1 o2 after e0 e1 e2 = ap length (e2 ∙ ap (λ x. x ++ entry (compile_unit u)) (e1 ∙ ap (λ x. x ++ header after) e0))
    ∙ twelve (entry (compile_unit u))
  where
    twelve : (x : List ℕ) → length (header after ++ x) ≡ 12 + length x
    twelve x = omega (arith, length-append (header after) x)

pub offsets_at : (first : ℕ) (types others : List BaseEntry) (offsets table : List ℕ) → types ≡ others → offsets ≡ table
    → AreOffsets first types offsets → AreOffsets first others table
offsets_at first types others offsets table same equal are =
    subst (λ (ts : List BaseEntry). AreOffsets first ts table) same (subst (λ (os : List ℕ). AreOffsets first types os) equal are)
