-- The variables of a function, each as a whole, in the order of the first debug value for any of its parts.
use Rattle.std.specs.Prelude.{List, [], ◌∷◌, None}
use Rattle.std.specs.List.{flat_map}
use Rattle.mir_func.specs.declared.block.Block.{Block}
use Rattle.mir_func.specs.declared.item.Item.{Item}
use Rattle.mir_func.specs.declared.item.ItemKind.{ItemKind}
use Rattle.mir_func.specs.declared.item.ItemKind.TheVariants.{Code, Mark, Phi}
use Rattle.mir_func.specs.declared.variable.VarId.{VarId}
use Rattle.mir_func.specs.Variables.{is_same_variable}
use Rattle.dwarf_line_table.specs.Files.{first_uses}

-- the whole variable of a part
abbrev pub whole : VarId → VarId
whole v = record { node = v.node; inlined_at = v.inlined_at; fragment = None }

-- the variable of a debug value, as a list
abbrev pub marked : ItemKind → List VarId
marked (Mark v m) = whole v ∷ []
marked (Code i k) = []
marked (Phi p k) = []

-- the variables of the items' debug values, in the items' order
abbrev pub marks_of : List Item → List VarId
marks_of items = flat_map (λ i. marked i.kind) items

-- the variables of blocks, each once, in the order of their first debug values
abbrev pub variables_of_function : List Block → List VarId
variables_of_function blocks = first_uses is_same_variable [] (flat_map (λ b. marks_of b.items) blocks)
