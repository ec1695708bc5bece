-- The sizes of variables are small, and as many as lists.
use Rattle.std.specs.Prelude.{All, Option, Some, None, nat_lt, cond, slice_set, replicate}
use Rattle.std.proofs.Common.{◌≡◌, ℕ, ◌^◌, ◌<◌, Bool, true, false, List, [], ◌∷◌, length, arith, refl, ◌∙◌, ap, sym, subst}
use Rattle.std.proofs.lemmas.List.{length-set, length-replicate}
use Rattle.std.proofs.lemmas.List.Elements.{All-replicate, All-set}
use Rattle.type_nodes.specs.Sizes.{size_at}
use Rattle.type_nodes.specs.declared.shape.Shape.{Shape}
use Rattle.type_entries.specs.declared.table.TypeTable.{TypeTable}
use Rattle.type_entries.specs.Entries.{is_known}
use Rattle.typed_unit.specs.declared.content.Inner.{Inner}
use Rattle.typed_unit.specs.declared.content.Inner.TheVariants as inner
use Rattle.typed_unit.specs.declared.content.TypedFunction.{TypedFunction}
use Rattle.typed_unit.specs.declared.content.TypedUnit.{TypedUnit}
use Rattle.variable_sizes.specs.Sizes.{UNKNOWN_SIZE, size_within, variable_size, with_size, with_inner, with_inside, with_functions, list_sizes, AreListSizes}

abbrev IsSmall : ℕ → Type 0
IsSmall n = n < 2 ^ 61

-- sizes by the numbers of so many lists
record AreSized (count : ℕ) (sizes : List ℕ) : Type 0 where
  small : All IsSmall sizes
  long : length sizes ≡ count

within_small : (size : Option ℕ) → IsSmall (size_within size)
within_small None = omega arith
within_small (Some n) = by (nat_lt n (2 ^ 61)) refl
  where
    by : (b : Bool) → nat_lt n (2 ^ 61) ≡ b → IsSmall (cond b n UNKNOWN_SIZE)
    by true is = grind (arith, is)
    by false is = omega arith

variable_small : (t : TypeTable) (type : Option ℕ) → IsSmall (variable_size t type)
variable_small t None = omega arith
variable_small t (Some n) = by (is_known t.stands.items t.sizes.items (Some n))
  where
    by : (b : Bool) → IsSmall (cond b (size_within (size_at t.sizes.items n)) UNKNOWN_SIZE)
    by true = within_small (size_at t.sizes.items n)
    by false = omega arith

module _ (t : TypeTable) (count : ℕ) where
  one_set : (sizes : List ℕ) (list : Option ℕ) (size : ℕ) → IsSmall size → AreSized count sizes → AreSized count (with_size sizes list size)
  one_set sizes None size small are = are
  one_set sizes (Some k) size small are = record {
    small = All-set IsSmall sizes k size small are.small;
    long = length-set sizes k size ∙ are.long;
  }

  inner_set : (sizes : List ℕ) (x : Inner) → AreSized count sizes → AreSized count (with_inner t sizes x)
  inner_set sizes (inner.Variable v) are = one_set sizes v.list (variable_size t v.base) (variable_small t v.base) are
  inner_set sizes (inner.Block list) are = are
  inner_set sizes (inner.Inlined c) are = are
  inner_set sizes inner.End are = are

  inside_set : (inside : List Inner) (sizes : List ℕ) → AreSized count sizes → AreSized count (with_inside t sizes inside)
  inside_set [] sizes are = are
  inside_set (x ∷ inside) sizes are = inside_set inside (with_inner t sizes x) (inner_set sizes x are)

  functions_set : (functions : List TypedFunction) (sizes : List ℕ) → AreSized count sizes → AreSized count (with_functions t sizes functions)
  functions_set [] sizes are = are
  functions_set (f ∷ functions) sizes are = functions_set functions (with_inside t sizes f.inside) (inside_set f.inside sizes are)

  all_sized : (u : TypedUnit) → AreSized count (list_sizes t count u)
  all_sized u =
      functions_set u.functions (replicate count UNKNOWN_SIZE)
      (record { small = All-replicate IsSmall count UNKNOWN_SIZE (omega arith); long = length-replicate count UNKNOWN_SIZE })

pub sizes_small : (shapes : List Shape) (count : ℕ) (u : TypedUnit) (sizes : List ℕ) → AreListSizes shapes count u sizes → All (λ (n : ℕ). n < 2 ^ 61) sizes
sizes_small shapes count u sizes of = subst (All IsSmall) (sym of.are) (all_sized of.table count u).small

pub sizes_counted : (shapes : List Shape) (count : ℕ) (u : TypedUnit) (sizes : List ℕ) → AreListSizes shapes count u sizes → length sizes ≡ count
sizes_counted shapes count u sizes of = ap length of.are ∙ (all_sized of.table count u).long
