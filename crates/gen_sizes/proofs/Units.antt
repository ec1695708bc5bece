-- How long the unit of one function is, without metadata: it has no types, and its variables have no names.
use Rattle.std.proofs.Common.{◌≡◌, ◌∙◌, ℕ, suc, ◌+◌, ◌*◌, ◌^◌, ◌<◌, ◌≤◌, false, List, [], ◌∷◌, ◌++◌, length, Option, None, refl, sym, ap, subst, arith}
use Rattle.std.proofs.Common.{length-append, length-take, lit≤}
use Rattle.std.specs.Prelude.{◌==◌, nat_eq}
use Rattle.std.specs.List.{flat_map, position_or_len}
use Rattle.std.specs.Int.{w16, w32, w64, to_le_bytes}
use Rattle.read_metadata.specs.Maps.{Maps}
use Rattle.read_metadata.specs.Metadata.{variable_at}
use Rattle.read_metadata.specs.declared.node.VariableNode.{VariableNode}
use Rattle.mir_func.specs.declared.variable.VarId.{VarId}
use Rattle.dwarf_base.specs.Leb.{uleb_of}
use Rattle.dwarf_base.proofs.FrontLemmas.{length-uleb_of}
use Rattle.dwarf_info.specs.Standard.{DW_LANG_C99, LOCLISTS_BASE}
use Rattle.dwarf_info.specs.declared.unit.FunctionEntry.{FunctionEntry}
use Rattle.dwarf_info.specs.declared.unit.Unit.{Unit as CompilationUnit}
use Rattle.dwarf_info.specs.Entries.{named, entry, variable, subprogram, compile_unit, type_offset, spelling}
use Rattle.dwarf_info.specs.steps.Parts.{variable_bytes, function_bytes}
use Rattle.dwarf_info.proofs.TreeLemmas.{typed_len, length-variable_by, length-spelling}
use Rattle.dwarf_line_table.specs.declared.source_and_code.SourceAndCode.{SourceAndCode}
use Rattle.dwarf_line_table.specs.declared.file.SourceFile.{SourceFile}
use Rattle.dwarf_line_table.specs.Files.{no_file, first_uses}
use Rattle.dwarf_line_table.specs.Program.{program_file}
use Rattle.compile_program.specs.dwarf_unit.Unit.{node_uses, type_uses, node_entry, variable_entry, variables_from, function_variables, function_entry, functions_from}
use Rattle.compile_program.specs.dwarf_unit.Unit.{program_types, base_entries, unit_of}

-- ---- parts

named_short : (name : List ℕ) → length (named name) ≤ length name
named_short name = omega (arith, length-take (position_or_len (λ byte. byte == 0) name) name)

low_64 : (n : ℕ) → n ≤ 10 → n < 2 ^ 64
low_64 n few = omega (arith, few)

leb_short : (n : ℕ) → n ≤ 10 → length (uleb_of n) ≤ 10
leb_short n few = length-uleb_of n (low_64 n few)

-- ---- the unit's entry

eight_parts : (a b c d e f g h : List ℕ) → length (a ++ (b ++ (c ++ (d ++ (e ++ (f ++ (g ++ (h ++ []))))))))
    ≡ length a + length b + length c + length d + length e + length f + length g + length h
eight_parts a b c d e f g h = omega (
  arith,
  length-append a (b ++ (c ++ (d ++ (e ++ (f ++ (g ++ (h ++ []))))))),
  length-append b (c ++ (d ++ (e ++ (f ++ (g ++ (h ++ [])))))),
  length-append c (d ++ (e ++ (f ++ (g ++ (h ++ []))))),
  length-append d (e ++ (f ++ (g ++ (h ++ [])))),
  typed_len e f g h,
)

unit_sum : (whole code c d name dir : ℕ) → whole ≡ code + 2 + c + d + 4 + 8 + 4 + 4 → code ≤ 10 → c ≡ name + 1 → d ≡ dir + 1 → name ≤ 0 → dir ≤ 0 →
    whole ≤ 34
unit_sum whole code c d name dir is few e f g h = omega (arith, is, few, e, f, g, h)

-- a unit without a name and a directory
abbrev unit_with : (text_len : ℕ) → List FunctionEntry → CompilationUnit
unit_with n functions = record { name = []; dir = []; text_len = n; types = []; functions = functions }

self_short : (n : ℕ) (functions : List FunctionEntry) → length (entry (compile_unit (unit_with n functions))) ≤ 34
unfolding entry
self_short n functions =
    let name : List ℕ = named [] ++ 0 ∷ [] in
    unit_sum (length (entry (compile_unit (unit_with n functions)))) (length (uleb_of 1)) (length name) (length name) (length (named [])) (length (named []))
    (eight_parts (uleb_of 1) (to_le_bytes w16 DW_LANG_C99) name name (to_le_bytes w32 0) (to_le_bytes w64 0) (to_le_bytes w32 n)
    (to_le_bytes w32 LOCLISTS_BASE)) (leb_short 1 (lit≤ tt)) (length-append (named []) (0 ∷ [])) (length-append (named []) (0 ∷ [])) (named_short [])
    (named_short [])

-- ---- the function's entry

subprogram_sum : (whole code c name : ℕ) → whole ≡ code + c + 8 + 4 → code ≤ 10 → c ≡ name + 1 → name ≤ 3 → whole ≤ 26
subprogram_sum whole code c name is few e f = omega (arith, is, few, e, f)

name_within : (n m : ℕ) → n ≤ m → m ≤ 3 → n ≤ 3
name_within n m low few = omega (arith, low, few)

subprogram_short : (f : FunctionEntry) → length f.name ≤ 3 → length (entry (subprogram f)) ≤ 26
unfolding entry
subprogram_short f short =
    subprogram_sum (length (entry (subprogram f))) (length (uleb_of 2)) (length (named f.name ++ 0 ∷ [])) (length (named f.name))
    (typed_len (uleb_of 2) (named f.name ++ 0 ∷ []) (to_le_bytes w64 f.lo) (to_le_bytes w32 f.len)) (leb_short 2 (lit≤ tt))
    (length-append (named f.name) (0 ∷ [])) (name_within (length (named f.name)) (length f.name) (named_short f.name) short)

-- ---- its variables

variable_sum : (whole code name list : ℕ) → whole ≡ code + name + 1 + list → code ≤ 10 → name ≤ 0 → list ≤ 10 → whole ≤ 21
variable_sum whole code name list is e f g = omega (arith, is, e, f, g)

module _ (meta : Maps) (bare : (node : ℕ) → variable_at meta node ≡ None) where
  variable_short : (offset : ℕ → ℕ) (k : ℕ) (v : VarId) → k ≤ 10 → length (variable_bytes offset (variable_entry meta [] k v)) ≤ 21
  variable_short offset k v few =
      subst (λ (o : Option VariableNode). length (entry (variable offset (node_entry meta [] o k))) ≤ 21) (sym (bare v.node))
      (variable_sum (length (entry (variable offset (node_entry meta [] None k)))) (length (uleb_of 6)) (length (named [])) (length (uleb_of k))
      (length-variable_by offset [] false None k) (leb_short 6 (lit≤ tt)) (named_short []) (leb_short k few))

  one_variable : (whole one rest n : ℕ) → whole ≡ one + rest → one ≤ 21 → rest ≤ 21 * n → whole ≤ 21 * suc n
  one_variable whole one rest n is few more = omega (arith, is, few, more)

  this_low : (k n : ℕ) → k + suc n ≤ 10 → k ≤ 10
  this_low k n few = omega (arith, few)

  next_low : (k n : ℕ) → k + suc n ≤ 10 → suc k + n ≤ 10
  next_low k n few = omega (arith, few)

  variables_short : (offset : ℕ → ℕ) (k : ℕ) (vs : List VarId) → k + length vs ≤ 10 →
      length (flat_map (variable_bytes offset) (variables_from meta [] k vs)) ≤ 21 * length vs
  variables_short offset k [] few = omega arith
  variables_short offset k (v ∷ vs) few =
      let first : List ℕ = variable_bytes offset (variable_entry meta [] k v) in
      let rest : List ℕ = flat_map (variable_bytes offset) (variables_from meta [] (suc k) vs) in
      one_variable (length (first ++ rest)) (length first) (length rest) (length vs) (length-append first rest)
      (variable_short offset k v (this_low k (length vs) few)) (variables_short offset (suc k) vs (next_low k (length vs) few))

  -- no variable has a type
  no_types : (vs : List VarId) → flat_map (type_uses meta) vs ≡ []
  no_types [] = refl
  no_types (v ∷ vs) = ap (λ (o : Option VariableNode). node_uses meta o ++ flat_map (type_uses meta) vs) (bare v.node) ∙ no_types vs

  types_are : (c : SourceAndCode) → program_types meta (c ∷ []) ≡ []
  types_are c = ap (λ (ns : List ℕ). first_uses nat_eq [] (ns ++ [])) (no_types (function_variables c))

  -- ---- the section

  three_parts : (a b : List ℕ) → length ((a ++ b ++ 0 ∷ []) ++ []) ≡ length a + length b + 1
  three_parts a b = omega (arith, length-append (a ++ b ++ 0 ∷ []) [], length-append (a ++ b) (0 ∷ []), length-append a b)

  function_sum : (whole self variables n : ℕ) → whole ≡ self + variables + 1 → self ≤ 26 → variables ≤ 21 * n → n ≤ 4 → whole ≤ 111
  function_sum whole self variables n is short few low = omega (arith, is, short, few, low)

  section_sum : (whole self functions : ℕ) → whole ≡ 13 + self + 0 + functions → self ≤ 34 → functions ≤ 111 → whole < 2 ^ 31
  section_sum whole self functions is short few = omega (arith, is, short, few)

  four_low : (n : ℕ) → n ≤ 4 → 0 + n ≤ 10
  four_low n few = omega (arith, few)

  module _ (n : ℕ) (c : SourceAndCode) (none : program_file meta (c ∷ []) ≡ no_file) (name : length c.source.now.name ≤ 3)
      (few : length (function_variables c) ≤ 4) where
    abbrev Small : SourceFile → List ℕ → Type 0
    Small file types =
        length (spelling (record {
          name = file.name;
          dir = file.dir;
          text_len = n;
          types = base_entries meta types;
          functions = functions_from meta types 0 (c ∷ []);
        })) < 2 ^ 31

    abbrev bare_unit : CompilationUnit
    bare_unit = unit_with n (functions_from meta [] 0 (c ∷ []))

    function_few : length (flat_map (function_bytes (type_offset bare_unit)) (functions_from meta [] 0 (c ∷ []))) ≤ 111
    function_few =
        let offset : ℕ → ℕ = type_offset bare_unit in
        let f : FunctionEntry = function_entry meta [] 0 c in
        let self : List ℕ = entry (subprogram f) in
        let variables : List ℕ = flat_map (variable_bytes offset) f.variables in
        function_sum (length (flat_map (function_bytes offset) (f ∷ []))) (length self) (length variables) (length (function_variables c))
        (three_parts self variables) (subprogram_short f name)
        (variables_short offset 0 (function_variables c) (four_low (length (function_variables c)) few)) few

    small : Small no_file []
    small =
        section_sum (length (spelling bare_unit)) (length (entry (compile_unit bare_unit)))
        (length (flat_map (function_bytes (type_offset bare_unit)) (functions_from meta [] 0 (c ∷ [])))) (length-spelling bare_unit)
        (self_short n (functions_from meta [] 0 (c ∷ []))) function_few

    -- the unit of the function alone is small
    pub unit_small : length (spelling (unit_of meta n (c ∷ []))) < 2 ^ 31
    unfolding unit_of
    unit_small =
        subst (λ (types : List ℕ). Small (program_file meta (c ∷ [])) types) (sym (types_are c))
        (subst (λ (file : SourceFile). Small file []) (sym none) small)
