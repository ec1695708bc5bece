-- A unit whose types are base types alone, and whose functions and variables are known by their names.
use Rattle.std.specs.Prelude.{ℕ, Bool, true, false, List, [], map, Some, None}
use Rattle.dwarf_info.specs.declared.unit.BaseEntry.{BaseEntry}
use Rattle.dwarf_info.specs.declared.unit.VariableEntry.{VariableEntry}
use Rattle.dwarf_info.specs.declared.unit.FunctionEntry.{FunctionEntry}
use Rattle.dwarf_info.specs.declared.unit.Unit.{Unit as CompilationUnit}
use Rattle.dwarf_info.specs.Standard.{DW_LANG_C99}
use Rattle.type_nodes.specs.declared.shape.Shape.{Shape}
use Rattle.type_nodes.specs.declared.shape.Shape.TheVariants.{Base}
use Rattle.typed_unit.specs.declared.content.Subprogram.{Subprogram}
use Rattle.typed_unit.specs.declared.content.Inner.{Inner}
use Rattle.typed_unit.specs.declared.content.Inner.TheVariants.{Variable}
use Rattle.typed_unit.specs.declared.content.TypedVariable.{TypedVariable}
use Rattle.typed_unit.specs.declared.content.TypedFunction.{TypedFunction}
use Rattle.typed_unit.specs.declared.content.TypedUnit.{TypedUnit}

abbrev pub plain_type : BaseEntry → Shape
plain_type b = Base b.name b.size b.encoding

abbrev pub plain_types : CompilationUnit → List Shape
plain_types u = map plain_type u.types

abbrev pub plain_content : VariableEntry → TypedVariable
plain_content v = record { name = v.name; argument = v.argument; declared = None; base = v.base; list = Some v.list }

abbrev pub plain_variable : VariableEntry → Inner
plain_variable v = Variable (plain_content v)

-- a function that other units can name
abbrev pub plain_subprogram : (name : List ℕ) → Subprogram
plain_subprogram name = record {
  name = name;
  linkage_name = [];
  declared = None;
  external = true;
  prototyped = false;
  signature = None;
}

abbrev pub plain_function : FunctionEntry → TypedFunction
plain_function f = record { subprogram = plain_subprogram f.name; lo = f.lo; len = f.len; inside = map plain_variable f.variables }

abbrev pub plain_unit : (frame_base : Bool) → CompilationUnit → TypedUnit
plain_unit frame_base u = record {
  language = DW_LANG_C99;
  name = u.name;
  dir = u.dir;
  text_len = u.text_len;
  abstracts = [];
  functions = map plain_function u.functions;
  frame_base = frame_base;
  ranges = true;
}
