-- The pieces of a unit, by the offsets of types in a table.
use Rattle.std.specs.Prelude.{All}
use Rattle.std.specs.List.{AllByRecursion, flat_map}
use Rattle.std.proofs.Common.{◌≡◌, ℕ, ◌+◌, ◌-◌, ◌^◌, ◌<◌, List, [], ◌∷◌, ◌++◌, length, take, drop, map, arith, ap, sym, ◌∙◌, refl}
use Rattle.std.proofs.lemmas.List.{drop_at}
use Rattle.std.proofs.lemmas.List.Elements.{recursion_from_All}
use Rattle.dwarf_base.specs.Size.{capped}
use Rattle.dwarf_info.specs.declared.kind.DieKind.TheVariants.{CompileUnit}
use Rattle.dwarf_info.specs.declared.unit.BaseEntry.{BaseEntry}
use Rattle.dwarf_info.specs.declared.unit.FunctionEntry.{FunctionEntry}
use Rattle.dwarf_info.specs.declared.unit.Unit.{Unit as CompilationUnit}
use Rattle.dwarf_info.specs.Entries.{entry, base_type, compile_unit, type_offset, tree, tree_of, spelling, HasType, HasTypes}
use Rattle.dwarf_info.specs.steps.Parts.{type_bytes, variable_bytes, in_table, AreOffsets}
use Rattle.dwarf_info.proofs.TreeLemmas.{flat_map-map, same_parts, variable_same}
use Rattle.elf_content.specs.declared.piece.Piece.{Piece}
use Rattle.elf_content.specs.declared.piece.Piece.TheVariants.{Fixed}
use Rattle.debug_placement.specs.declared.sections.UnitSections.{UnitSections}
use Rattle.debug_placement.specs.Entries.{FunctionPart, part_of, part_pieces, front_pieces, unit_front, info_pieces}

-- ---- offsets by a table

part_same : (count : ℕ) (f g : ℕ → ℕ) → ((k : ℕ) → k < count → f k ≡ g k) → (h : FunctionEntry) → HasTypes count h → part_of f h ≡ part_of g h
part_same count f g same h has =
    ap (λ (ys : List ℕ). record { self = h; children = ys ++ 0 ∷ [] })
    (same_parts (HasType count) (variable_bytes f) (variable_bytes g) (λ v is. variable_same count f g same v.name v.argument v.base v.list is) h.variables
    (recursion_from_All (HasType count) h.variables has))

each_same : (count : ℕ) (f g : ℕ → ℕ) → ((k : ℕ) → k < count → f k ≡ g k) → (fs : List FunctionEntry) → AllByRecursion (HasTypes count) fs
    → map (part_of f) fs ≡ map (part_of g) fs
each_same count f g same [] has = refl
each_same count f g same (h ∷ fs) has =
    let one = part_same count f g same h has.0 in
    let rest = each_same count f g same fs has.1 in
    (λ i. one i ∷ rest i)

pub parts_same : (u : CompilationUnit) (offsets : List ℕ) (first : ℕ) → first ≡ 12 + length (entry (compile_unit u)) → AreOffsets first u.types offsets
    → All (HasTypes (length u.types)) u.functions → map (part_of (in_table offsets)) u.functions ≡ map (part_of (type_offset u)) u.functions
parts_same u offsets first at are has =
    each_same (length u.types) (in_table offsets) (type_offset u)
    (λ k inside. are.at k inside ∙ ap (λ n. n + length (flat_map type_bytes (take k u.types))) at
    ∙ ap (λ (x : List ℕ). 12 + length (entry (compile_unit u)) + length x) (sym (flat_map-map entry base_type (take k u.types)))) u.functions
    (recursion_from_All (HasTypes (length u.types)) u.functions has)

-- ---- the length in the header

pub after_is : (u : CompilationUnit) (size : ℕ) → size ≡ capped (length (spelling u)) → length (spelling u) < 2 ^ 31
    → size - 4 ≡ 8 + length (tree (tree_of u))
unfolding spelling
after_is u size e small = omega (arith, e, small)

-- ---- all pieces

pub info_made : (s : UnitSections) (u : CompilationUnit) (o0 o1 o2 o3 o4 : List Piece) (after : ℕ) (name dir : List ℕ) (t z : Piece)
    (slice front : List ℕ) (types : ℕ) (bases : List BaseEntry) (functions : List FunctionEntry) (parts : FunctionEntry → FunctionPart)
    → o0 ≡ [] → o1 ≡ o0 ++ front_pieces s after (unit_front CompileUnit name dir) u.text_len [] → o2 ≡ o1 ++ t ∷ []
    → o3 ≡ o2 ++ flat_map (part_pieces s.text) (map parts functions) → o4 ≡ o3 ++ z ∷ [] → after ≡ 8 + length (tree (tree_of u)) → name ≡ u.name
    → dir ≡ u.dir → t ≡ Fixed (drop types slice) → slice ≡ front ++ flat_map type_bytes bases → types ≡ length front → bases ≡ u.types
    → functions ≡ u.functions → map parts u.functions ≡ map (part_of (type_offset u)) u.functions → z ≡ Fixed (0 ∷ []) → o4 ≡ info_pieces s u
info_made s u o0 o1 o2 o3 o4 after name dir t z slice front types bases functions parts e0 e1 e2 e3 e4 is_after is_name is_dir is_t is_slice
    is_types are_bases are_functions same is_z =
    let rest : t ≡ Fixed (flat_map type_bytes u.types) =
    is_t ∙ (λ i. Fixed (drop (is_types i) (is_slice i))) ∙ ap (λ (ys : List ℕ). Fixed ys) (drop_at front (flat_map type_bytes bases) (length front) refl)
    ∙ ap (λ (bs : List BaseEntry). Fixed (flat_map type_bytes bs)) are_bases in
    let listed : flat_map (part_pieces s.text) (map parts functions) ≡ flat_map (part_pieces s.text) (map (part_of (type_offset u)) u.functions) =
    ap (λ (fs : List FunctionEntry). flat_map (part_pieces s.text) (map parts fs)) are_functions
    ∙ ap (λ (ps : List FunctionPart). flat_map (part_pieces s.text) ps) same in
    e4 ∙ (λ i. (e3 ∙ (λ j. (e2 ∙ (λ k. (e1 ∙ (λ l. e0 l ++ front_pieces s (is_after l) (unit_front CompileUnit (is_name l) (is_dir l)) u.text_len [])) k
    ++ rest k ∷ [])) j ++ listed j)) i ++ is_z i ∷ [])
