-- Whether the unknown type is used: by a parameter, a variable or a result whose own type can't be told.
use Rattle.std.specs.Prelude.{ℕ, Bool, false, not, ◌||◌, List, Option, Some, None}
use Rattle.std.specs.List.{list_any}
use Rattle.type_nodes.specs.declared.shape.Shape.{Shape}
use Rattle.type_entries.specs.Entries.{is_known}
use Rattle.type_entries.specs.Types.{types_name_unknown}
use Rattle.typed_unit.specs.declared.content.Subprogram.{Subprogram}
use Rattle.typed_unit.specs.declared.content.Inner.{Inner}
use Rattle.typed_unit.specs.declared.content.Inner.TheVariants as inner
use Rattle.typed_unit.specs.declared.content.TypedFunction.{TypedFunction}
use Rattle.typed_unit.specs.declared.content.TypedUnit.{TypedUnit}
use Rattle.typed_unit.specs.Entries.{result_type}

abbrev pub result_names_unknown : (stands : List Bool) (sizes : List (Option ℕ)) → Option ℕ → Bool
result_names_unknown stands sizes None = false
result_names_unknown stands sizes (Some n) = not (is_known stands sizes (Some n))

abbrev pub subprogram_names_unknown : List Shape → (stands : List Bool) (sizes : List (Option ℕ)) → Subprogram → Bool
subprogram_names_unknown types stands sizes s = result_names_unknown stands sizes (result_type types stands s.signature)

abbrev pub inner_names_unknown : (stands : List Bool) (sizes : List (Option ℕ)) → Inner → Bool
inner_names_unknown stands sizes (inner.Variable v) = not (is_known stands sizes v.base)
inner_names_unknown stands sizes (inner.Block list) = false
inner_names_unknown stands sizes (inner.Inlined c) = false
inner_names_unknown stands sizes inner.End = false

abbrev pub function_names_unknown : List Shape → (stands : List Bool) (sizes : List (Option ℕ)) → TypedFunction → Bool
function_names_unknown types stands sizes f =
    subprogram_names_unknown types stands sizes f.subprogram || list_any (inner_names_unknown stands sizes) f.inside

-- whether an entry of a unit with these types has the unknown one
abbrev pub names_unknown : List Shape → (stands : List Bool) (sizes : List (Option ℕ)) → TypedUnit → Bool
names_unknown types stands sizes u =
    types_name_unknown stands sizes 0 types
    || (list_any (subprogram_names_unknown types stands sizes) u.abstracts || list_any (function_names_unknown types stands sizes) u.functions)
