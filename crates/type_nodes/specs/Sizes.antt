-- The sizes of types in bytes. (DWARF 5, section 5.)
use Rattle.std.specs.Prelude.{◌≡◌, ℕ, ◌*◌, ◌^◌, nat_lt, cond, Option, Some, None, List, [], ◌∷◌, length, slice_index_or}
use Rattle.std.specs.List.{slice_get}
use Rattle.std.specs.Option.{option_and_then, option_map}
use Rattle.type_nodes.specs.declared.shape.Shape.{Shape}
use Rattle.type_nodes.specs.declared.shape.Shape.TheVariants.{Base, Pointer, Qualifier, Typedef, Declaration, Record, Enumeration, Array, Subroutine}
use Rattle.type_nodes.specs.Standing.{IsMade}

-- the number of elements of an array with these dimensions
abbrev pub product : List (Option ℕ) → Option ℕ
product [] = Some 1
product (None ∷ counts) = None
product (Some count ∷ counts) = option_map (λ n. count * n) (product counts)

-- the size of so many elements. No array has 2^61 bytes
abbrev pub times : (size count : ℕ) → Option ℕ
times size count = cond (nat_lt (size * count) (2 ^ 61)) (Some (size * count)) None

abbrev pub array_size : List (Option ℕ) → (size : ℕ) → Option ℕ
array_size counts size = option_and_then (times size) (product counts)

-- the size of a type, by the sizes of others: none of void, of a declaration, of a function, and of an array with an unknown number of elements
abbrev pub size_by : (size : ℕ → Option ℕ) → Shape → Option ℕ
size_by size (Base name bytes encoding) = Some bytes
size_by size (Pointer tag to) = Some 8
size_by size (Qualifier tag to) = option_and_then size to
size_by size (Typedef name to) = option_and_then size to
size_by size (Declaration tag name) = None
size_by size (Record tag name bytes members) = Some bytes
size_by size (Enumeration name bytes to enumerators) = Some bytes
size_by size (Array to counts) = option_and_then (array_size counts) (size to)
size_by size (Subroutine result parameters more) = None

abbrev pub size_at : (sizes : List (Option ℕ)) → ℕ → Option ℕ
size_at sizes n = slice_index_or sizes n None

-- the sizes of types: each is by those of the types that it is made of, and what isn't made of anything has none
pub record AreSizes (types : List Shape) (sizes : List (Option ℕ)) : Type 0 where
  pub long : length sizes ≡ length types
  pub each : (n : ℕ) (s : Shape) → slice_get types n ≡ Some s → IsMade types n → size_at sizes n ≡ size_by (size_at sizes) s
  pub none : (n : ℕ) → (IsMade types n → ⊥) → size_at sizes n ≡ None
