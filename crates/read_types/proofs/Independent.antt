-- Whether a node is a type doesn't depend on which types it names.
use Rattle.std.proofs.Common.{◌≡◌, ℕ, suc, ◌+◌, Bool, true, false, ◌==◌, ◌%◌, cond, List}
use Rattle.std.proofs.Common.{[], ◌∷◌, length, filter, Option, Some, None, refl, sym, ap, ◌∙◌, arith}
use Rattle.std.specs.Prelude.{is_some, All}
use Rattle.std.specs.List.{filter_map, cons_option, AllByRecursion}
use Rattle.std.specs.Option.{option_map, option_and_then}
use Rattle.read_debug_nodes.specs.declared.node.DebugNode.{DebugNode}
use Rattle.read_debug_nodes.specs.declared.node.DebugNode.TheVariants as nodes
use Rattle.read_debug_nodes.specs.declared.node.DerivedForm.{DerivedForm}
use Rattle.read_debug_nodes.specs.declared.node.DerivedForm.TheVariants as derived
use Rattle.read_debug_nodes.specs.declared.node.CompositeForm.{CompositeForm}
use Rattle.read_debug_nodes.specs.declared.node.CompositeForm.TheVariants as composite
use Rattle.read_debug_nodes.specs.declared.node.CompositeType.{CompositeType}
use Rattle.read_debug_nodes.specs.Maps.{DebugMaps, numbers_of}
use Rattle.read_debug_nodes.specs.Metadata.{node_at}
use Rattle.type_nodes.specs.declared.shape.Shape.{Shape}
use Rattle.type_nodes.specs.declared.shape.Shape.TheVariants.{Array}
use Rattle.read_types.specs.Parts.{counts_at}
use Rattle.read_types.specs.Indices.{index_or_past}
use Rattle.read_types.specs.Shapes.{derived_by, record_shape, enumeration_shape, array_shape, composite_by, shape_of, shape_at}
use Rattle.read_types.specs.Types.{is_type, type_nodes, types_of}

same_derived : (f : DerivedForm) (name : List ℕ) (x y : Option ℕ) → is_some (derived_by f name x) ≡ is_some (derived_by f name y)
same_derived derived.Pointer name x y = refl
same_derived derived.Reference name x y = refl
same_derived derived.RvalueReference name x y = refl
same_derived derived.Const name x y = refl
same_derived derived.Volatile name x y = refl
same_derived derived.Restrict name x y = refl
same_derived derived.Atomic name x y = refl
same_derived derived.Typedef name x y = refl
same_derived derived.Member name x y = refl
same_derived derived.Other name x y = refl

whole : (sized declaration : Bool) (d r s : Shape) → is_some (cond sized (cond declaration (Some d) (Some r)) None)
    ≡ is_some (cond sized (cond declaration (Some d) (Some s)) None)
whole true true d r s = refl
whole true false d r s = refl
whole false declaration d r s = refl

counted : (vector : Bool) (a b : ℕ) (counts : Option (List (Option ℕ))) → is_some (cond vector None (option_map (Array a) counts))
    ≡ is_some (cond vector None (option_map (Array b) counts))
counted true a b counts = refl
counted false a b None = refl
counted false a b (Some cs) = refl

module _ (m : DebugMaps) (a b : List ℕ) where
  same_composite : (f : CompositeForm) (c : CompositeType) → is_some (composite_by m a f c) ≡ is_some (composite_by m b f c)
  same_composite composite.Structure c = whole (c.size % 8 == 0) c.declaration _ _ _
  same_composite composite.Union c = whole (c.size % 8 == 0) c.declaration _ _ _
  same_composite composite.Class c = whole (c.size % 8 == 0) c.declaration _ _ _
  same_composite composite.Enumeration c = whole (c.size % 8 == 0) c.declaration _ _ _
  same_composite composite.Array c = counted c.vector (index_or_past a c.base) (index_or_past b c.base) (counts_at m c.elements)
  same_composite composite.Other c = refl

  same_shape : (node : DebugNode) → is_some (shape_of m a node) ≡ is_some (shape_of m b node)
  same_shape (nodes.File f) = refl
  same_shape nodes.Location = refl
  same_shape (nodes.Unit code) = refl
  same_shape (nodes.Subprogram s) = refl
  same_shape (nodes.Block scope) = refl
  same_shape (nodes.FileBlock scope) = refl
  same_shape (nodes.Variable v) = refl
  same_shape (nodes.BaseType t) = refl
  same_shape (nodes.Derived d) = same_derived d.form d.name _ _
  same_shape (nodes.Composite c) = same_composite c.form c
  same_shape (nodes.Subroutine tuple) = refl
  same_shape (nodes.Enumerator e) = refl
  same_shape (nodes.Subrange d) = refl
  same_shape (nodes.Tuple elements) = refl

  same_node : (node : Option DebugNode) → is_some (option_and_then (shape_of m a) node) ≡ is_some (option_and_then (shape_of m b) node)
  same_node None = refl
  same_node (Some node) = same_shape node

  pub same_type : (n : ℕ) → is_some (shape_at m a n) ≡ is_some (shape_at m b n)
  same_type n = same_node (node_at m n)

-- where each item gives something, there are as many
one_more : {Y : Type 0} (o : Option Y) (ys : List Y) (n : ℕ) → is_some o ≡ true → length ys ≡ n → length (cons_option o ys) ≡ suc n
one_more None ys n e long = absurd cc
one_more (Some y) ys n e long = ap suc long

as_many : {X Y : Type 0} (h : X → Option Y) (xs : List X) → AllByRecursion (λ (x : X). is_some (h x) ≡ true) xs → length (filter_map h xs) ≡ length xs
as_many h [] all = refl
as_many h (x ∷ xs) all = one_more (h x) (filter_map h xs) (length xs) all.0 (as_many h xs all.1)

pub each_is : (m : DebugMaps) (ns : List ℕ) → AllByRecursion (λ (n : ℕ). is_type m n ≡ true) ns → (types : List ℕ)
    → AllByRecursion (λ (n : ℕ). is_some (shape_at m types n) ≡ true) ns
each_is m [] all types = tt
each_is m (n ∷ ns) all types = (same_type m types [] n ∙ all.0, each_is m ns all.1 types)

-- what passes a test that a type is
module _ (m : DebugMaps) (n : ℕ) (ns : List ℕ) (rest : AllByRecursion (λ (k : ℕ). is_type m k ≡ true) (filter (is_type m) ns)) where
  kept_type : (b : Bool) → is_type m n ≡ b → AllByRecursion (λ (k : ℕ). is_type m k ≡ true) (cond b (n ∷ filter (is_type m) ns) (filter (is_type m) ns))
  kept_type true e = (e, rest)
  kept_type false e = rest

pub all_types : (m : DebugMaps) (ns : List ℕ) → AllByRecursion (λ (n : ℕ). is_type m n ≡ true) (filter (is_type m) ns)
all_types m [] = tt
all_types m (n ∷ ns) = kept_type m n ns (all_types m ns) (is_type m n) refl

pub as_long : (m : DebugMaps) → length (types_of m) ≡ length (type_nodes m)
as_long m = as_many (shape_at m (type_nodes m)) (type_nodes m) (each_is m (type_nodes m) (all_types m (numbers_of m)) (type_nodes m))
