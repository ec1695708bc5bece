-- The entries of a program's unit with inlined functions.
use Rattle.std.specs.Prelude.{ℕ, suc, ◌+◌, Bool, not, cond, List, [], ◌∷◌, map, length, Option, Some, None, nat_eq}
use Rattle.std.specs.List.{flat_map, list_any, position_or_len}
use Rattle.std.specs.Option.{option_eq}
use Rattle.dwarf_info.specs.declared.unit.VariableEntry.{VariableEntry}
use Rattle.dwarf_info.specs.declared.inlined.InlinedCall.{InlinedCall}
use Rattle.dwarf_info.specs.declared.inlined.InlinedFunction.{InlinedFunction}
use Rattle.dwarf_info.specs.declared.inlined.InlinedUnit.{InlinedUnit}
use Rattle.read_metadata.specs.Maps.{Maps}
use Rattle.read_metadata.specs.Metadata.{location_at, subprogram_node_at}
use Rattle.read_metadata.specs.declared.node.LocationNode.{LocationNode}
use Rattle.read_metadata.specs.declared.node.SubprogramNode.{SubprogramNode}
use Rattle.mir_func.specs.declared.variable.VarId.{VarId}
use Rattle.dwarf_line_table.specs.declared.source_and_code.SourceAndCode.{SourceAndCode}
use Rattle.dwarf_line_table.specs.Files.{first_uses}
use Rattle.dwarf_line_table.specs.Program.{program_file, scope_number}
use Rattle.inline_subroutines.specs.declared.subroutine.InlinedSubroutine.{InlinedSubroutine}
use Rattle.inline_subroutines.specs.inline_instances.Instances.{scope_of_call}
use Rattle.dwarf_unit.specs.Unit.{variable_entry, function_variables, code_length, program_types, base_entries}

-- the scopes of the calls of all functions, in their order
abbrev pub call_scopes : Maps → List (List InlinedSubroutine) → List (Option ℕ)
call_scopes meta instances = flat_map (λ is. map (λ i. scope_of_call meta i.call) is) instances

-- the subprograms that were inlined, in the order of their first instance; those that aren't readable are one
abbrev pub inlined_subprograms : List (List InlinedSubroutine) → List (Option ℕ)
inlined_subprograms instances = first_uses (option_eq nat_eq) [] (flat_map (λ is. map (λ i. i.subprogram) is) instances)

abbrev pub node_name : Option SubprogramNode → List ℕ
node_name None = []
node_name (Some s) = s.name

-- the name of a subprogram, empty if none is readable
abbrev pub subprogram_name : Maps → Option ℕ → List ℕ
subprogram_name meta None = []
subprogram_name meta (Some s) = node_name (subprogram_node_at meta s)

-- the entries of those of the variables that are kept, whose location lists are numbered over all from this index on
abbrev pub kept_variables : Maps → (types : List ℕ) → (VarId → Bool) → (list : ℕ) → List VarId → List VariableEntry
kept_variables meta types keep k [] = []
kept_variables meta types keep k (v ∷ vs) =
    cond (keep v) (variable_entry meta types k v ∷ kept_variables meta types keep (suc k) vs) (kept_variables meta types keep (suc k) vs)

-- a variable is of the code that was inlined by a call
abbrev pub is_in : (call : ℕ) → VarId → Bool
is_in call v = option_eq nat_eq v.inlined_at (Some call)

-- a variable is a function's own: it is of none of its instances
abbrev pub is_own : List InlinedSubroutine → VarId → Bool
is_own instances v = not (list_any (λ i. is_in i.call v) instances)

abbrev pub line_or_zero : Option LocationNode → ℕ
line_or_zero None = 0
line_or_zero (Some l) = l.line

abbrev pub column_or_zero : Option LocationNode → ℕ
column_or_zero None = 0
column_or_zero (Some l) = l.column

-- the content of an instance's DW_TAG_inlined_subroutine: its call's file, line and column, and its own variables among those of its function
abbrev pub inlined_call : Maps → (number : Option ℕ → ℕ) → (types : List ℕ) → (subprograms : List (Option ℕ)) → (list : ℕ) → List VarId → InlinedSubroutine
    → InlinedCall
inlined_call meta number types subprograms k vs i = record {
  parent = i.parent;
  origin = position_or_len (option_eq nat_eq i.subprogram) subprograms;
  file = number (scope_of_call meta i.call);
  line = line_or_zero (location_at meta i.call);
  column = column_or_zero (location_at meta i.call);
  variables = kept_variables meta types (is_in i.call) k vs;
}

-- the content of a function's DW_TAG_subprogram with its instances
abbrev pub inlined_function : Maps → (number : Option ℕ → ℕ) → (types : List ℕ) → (subprograms : List (Option ℕ)) → (list : ℕ) → SourceAndCode
    → List InlinedSubroutine → InlinedFunction
inlined_function meta number types subprograms k f instances = record {
  function = record {
    name = f.source.now.name;
    lo = f.code.now.base;
    len = code_length f;
    variables = kept_variables meta types (is_own instances) k (function_variables f);
  };
  calls = map (inlined_call meta number types subprograms k (function_variables f)) instances;
}

-- the functions, whose variables' location lists are numbered from this index on, each with its instances
abbrev pub inlined_functions : Maps → (number : Option ℕ → ℕ) → (types : List ℕ) → (subprograms : List (Option ℕ)) → (list : ℕ) → List SourceAndCode
    → List (List InlinedSubroutine) → List InlinedFunction
inlined_functions meta number types subprograms k [] instances = []
inlined_functions meta number types subprograms k (f ∷ fs) [] = []
inlined_functions meta number types subprograms k (f ∷ fs) (is ∷ others) =
    inlined_function meta number types subprograms k f is
    ∷ inlined_functions meta number types subprograms (k + length (function_variables f)) fs others

-- the unit of a program with inlined functions, with the length of its code in bytes
unfoldable pub inlined_unit_of : Maps → (text_len : ℕ) → List SourceAndCode → List (List InlinedSubroutine) → InlinedUnit
inlined_unit_of meta text_len functions instances = record {
  name = (program_file meta functions).name;
  dir = (program_file meta functions).dir;
  text_len = text_len;
  types = base_entries meta (program_types meta functions);
  abstracts = map (subprogram_name meta) (inlined_subprograms instances);
  functions = inlined_functions meta (scope_number meta functions (call_scopes meta instances)) (program_types meta functions)
      (inlined_subprograms instances) 0 functions instances;
}
