-- The listed variables of a function.
use Rattle.std.specs.Prelude.{ℕ, suc, List, [], ◌∷◌, Option, Some, None}
use Rattle.read_metadata.specs.Maps.{Maps}
use Rattle.read_metadata.specs.Metadata.{variable_at}
use Rattle.read_metadata.specs.declared.node.VariableNode.{VariableNode}
use Rattle.mir_func.specs.declared.variable.VarId.{VarId}
use Rattle.listing_text.specs.declared.output.ListedVariable.{ListedVariable}

-- the name in a variable's metadata node, or the empty name if the node isn't readable
abbrev pub name_of : Option VariableNode → List ℕ
name_of None = []
name_of (Some d) = d.name

-- the listed variables, with list numbers from `list` on
abbrev pub variables_listed : Maps → (list : ℕ) → List VarId → List ListedVariable
variables_listed meta k [] = []
variables_listed meta k (v ∷ vs) = record { list = k; variable = v; name = name_of (variable_at meta v.node) } ∷ variables_listed meta (suc k) vs
