-- Which types can be told: those that are made of something and don't come round to themselves, neither by the parts of their values nor by the names that
-- they are written with. A debugger follows both walks without a limit. (DWARF 5, chapter 5. LLVM Language Reference Manual, "DIDerivedType",
-- "DICompositeType" and "DISubroutineType".)
use Rattle.std.specs.Prelude.{◌≡◌, ◌↔◌, ℕ, zero, suc, ◌<◌, Bool, true, Some, List, [], ◌∷◌, ◌++◌, length, map, Contains}
use Rattle.std.specs.List.{slice_get}
use Rattle.std.specs.Option.{option_to_list}
use Rattle.graph_cycles.specs.Ends.{Ends, is_marked}
use Rattle.type_nodes.specs.declared.shape.Member.{Member}
use Rattle.type_nodes.specs.declared.shape.Shape.{Shape}
use Rattle.type_nodes.specs.declared.shape.Shape.TheVariants.{Base, Pointer, Qualifier, Typedef, Declaration, Record, Enumeration, Array, Subroutine}
use Rattle.type_nodes.specs.declared.shape.Walk.{Walk}
use Rattle.type_nodes.specs.declared.shape.Walk.TheVariants.{ByValue, ByName}

-- the type of which a qualifier, a typedef or an array is made. Of a qualifier or a typedef it may be void
abbrev pub made_of : Shape → List ℕ
made_of (Base name size encoding) = []
made_of (Pointer tag to) = []
made_of (Qualifier tag to) = option_to_list to
made_of (Typedef name to) = option_to_list to
made_of (Declaration tag name) = []
made_of (Record tag name size members) = []
made_of (Enumeration name size to enumerators) = []
made_of (Array to counts) = to ∷ []
made_of (Subroutine result parameters more) = []

-- the types whose values are parts of a value of the type
abbrev pub parts_of : Shape → List ℕ
parts_of (Base name size encoding) = []
parts_of (Pointer tag to) = []
parts_of (Qualifier tag to) = option_to_list to
parts_of (Typedef name to) = option_to_list to
parts_of (Declaration tag name) = []
parts_of (Record tag name size members) = map (λ (m : Member). m.base) members
parts_of (Enumeration name size to enumerators) = []
parts_of (Array to counts) = to ∷ []
parts_of (Subroutine result parameters more) = []

-- the types that are written out where the type is named
abbrev pub named_by : Shape → List ℕ
named_by (Base name size encoding) = []
named_by (Pointer tag to) = option_to_list to
named_by (Qualifier tag to) = option_to_list to
named_by (Typedef name to) = option_to_list to
named_by (Declaration tag name) = []
named_by (Record tag name size members) = []
named_by (Enumeration name size to enumerators) = []
named_by (Array to counts) = to ∷ []
named_by (Subroutine result parameters more) = option_to_list result ++ parameters

abbrev pub targets : Walk → Shape → List ℕ
targets ByValue s = parts_of s
targets ByName s = named_by s

-- a type is made of something: the qualifiers, typedefs and arrays from it on end in void or in a type of another form
pub data IsMade (types : List Shape) : ℕ → Type 0 where
  made : {n : ℕ} (s : Shape) → slice_get types n ≡ Some s → ((m : ℕ) → Contains (made_of s) m → IsMade types m) → IsMade types n

-- a step of a walk between types that are made of something
pub record Step (walk : Walk) (types : List Shape) (m n : ℕ) : Type 0 where
  pub shape : Shape
  pub is : slice_get types m ≡ Some shape
  pub leads : Contains (targets walk shape) n
  pub start : IsMade types m
  pub end : IsMade types n

-- a walk of so many steps
abbrev pub Steps : (One : ℕ → ℕ → Type 0) → (steps m n : ℕ) → Type 0
Steps One zero m n = m ≡ n
Steps One (suc k) m n = (x : ℕ) × One m x × Steps One k x n

-- a type stands: it is made of something, and the walks from it end
pub record Stands (types : List Shape) (n : ℕ) : Type 0 where
  pub made : IsMade types n
  pub walks : (walk : Walk) → Ends (Step walk types) n

-- the marked types are those that stand
pub record AreStanding (types : List Shape) (marks : List Bool) : Type 0 where
  pub long : length marks ≡ length types
  pub each : (n : ℕ) → n < length types → (is_marked marks n ≡ true) ↔ Stands types n
