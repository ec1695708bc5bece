-- Variables with their location lists.
use Rattle.std.specs.Prelude.{List, [], slice_index_or}
use Rattle.listing_text.specs.declared.output.ListedVariable.{ListedVariable}
use Rattle.dwarf_loclists.specs.declared.range.Range.{Range}
use Rattle.sim_trace.specs.declared.variable.Variable.{Variable}

-- a listed variable with the location list of its number
abbrev pub variable_of : List (List Range) → ListedVariable → Variable
variable_of lists line = record { name = line.name; ranges = slice_index_or lists line.list [] }
