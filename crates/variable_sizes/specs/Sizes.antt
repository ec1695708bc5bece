-- The sizes of the variables of a unit that have location lists.
use Rattle.std.specs.Prelude.{◌≡◌, ℕ, ◌^◌, nat_lt, cond, List, [], ◌∷◌, replicate, slice_set, Option, Some, None}
use Rattle.type_nodes.specs.Sizes.{size_at}
use Rattle.type_entries.specs.declared.table.TypeTable.{TypeTable}
use Rattle.type_entries.specs.Entries.{is_known}
use Rattle.type_entries.specs.Types.{AreKnown}
use Rattle.type_nodes.specs.declared.shape.Shape.{Shape}
use Rattle.typed_unit.specs.declared.content.Inner.{Inner}
use Rattle.typed_unit.specs.declared.content.Inner.TheVariants as inner
use Rattle.typed_unit.specs.declared.content.TypedFunction.{TypedFunction}
use Rattle.typed_unit.specs.declared.content.TypedUnit.{TypedUnit}

-- a variable of the unknown type has eight bytes
abbrev pub UNKNOWN_SIZE : ℕ
UNKNOWN_SIZE = 8

-- no variable has 2^61 bytes
abbrev pub size_within : Option ℕ → ℕ
size_within None = UNKNOWN_SIZE
size_within (Some n) = cond (nat_lt n (2 ^ 61)) n UNKNOWN_SIZE

-- the size of a variable in bytes: that of its type, if that can be told of it
abbrev pub variable_size : TypeTable → (type : Option ℕ) → ℕ
variable_size t None = UNKNOWN_SIZE
variable_size t (Some n) = cond (is_known t.stands.items t.sizes.items (Some n)) (size_within (size_at t.sizes.items n)) UNKNOWN_SIZE

-- sizes by the numbers of location lists, with that of the variable of a list
abbrev pub with_size : List ℕ → (list : Option ℕ) → (size : ℕ) → List ℕ
with_size sizes None size = sizes
with_size sizes (Some k) size = slice_set sizes k size

-- with that of an item inside a function, if it is a variable
abbrev pub with_inner : TypeTable → List ℕ → Inner → List ℕ
with_inner t sizes (inner.Variable v) = with_size sizes v.list (variable_size t v.base)
with_inner t sizes (inner.Block list) = sizes
with_inner t sizes (inner.Inlined c) = sizes
with_inner t sizes inner.End = sizes

-- with those of the variables inside a function
abbrev pub with_inside : TypeTable → List ℕ → List Inner → List ℕ
with_inside t sizes [] = sizes
with_inside t sizes (x ∷ inside) = with_inside t (with_inner t sizes x) inside

-- with those of functions
abbrev pub with_functions : TypeTable → List ℕ → List TypedFunction → List ℕ
with_functions t sizes [] = sizes
with_functions t sizes (f ∷ functions) = with_functions t (with_inside t sizes f.inside) functions

-- the sizes of the variables of a unit, by the numbers of their location lists, of which there are so many
abbrev pub list_sizes : TypeTable → (count : ℕ) → TypedUnit → List ℕ
list_sizes t count u = with_functions t (replicate count UNKNOWN_SIZE) u.functions

-- they are those where the unit's types are these
pub record AreListSizes (shapes : List Shape) (count : ℕ) (u : TypedUnit) (sizes : List ℕ) : Type 0 where
  pub table : TypeTable
  pub types : table.types ≡ shapes
  pub known : AreKnown table
  pub are : sizes ≡ list_sizes table count u
