-- What keys of two nodes are seen as: a test of keys is one of variables.
use Rattle.std.proofs.Common.{◌≡◌, ℕ, Bool, ◌&&◌, List, map, refl, sym, ◌∙◌, ap, Some, None}
use Rattle.std.specs.Prelude.{Option, nat_eq}
use Rattle.mir_func.specs.declared.variable.VarId.{VarId}
use Rattle.std.proofs.Common.{true, eq-eqb}
use Rattle.std.specs.Option.{option_eq}
use Rattle.mir_func.specs.Variables.{is_same_variable, is_same_node}
use Rattle.indexmap.specs.IndexSet.{insert_key}
use Rattle.dwarf_line_table.specs.Files.{with_new}
use Rattle.dwarf_line_table.proofs.Keys.{insert_map}
use Rattle.dwarf_unit.specs.Variables.{whole}
use Rattle.dwarf_unit.specs.steps.Keys.{seen}

pub key_known : (eq : ℕ × Option ℕ → ℕ × Option ℕ → Bool) (agree : (x y : ℕ × Option ℕ) → eq x y ≡ is_same_variable (seen x) (seen y))
    → (keys joined : List (ℕ × Option ℕ)) (known : List VarId) (k : ℕ × Option ℕ) (v : VarId) → known ≡ map seen keys → joined ≡ insert_key eq keys k
    → seen k ≡ whole v → map seen joined ≡ with_new is_same_variable known (whole v)
key_known eq agree keys joined known k v are e is =
    ap (map seen) e ∙ insert_map seen eq is_same_variable agree keys k ∙ (λ i. with_new is_same_variable (sym are i) (is i))

nodes_are : (a b : Option ℕ) → option_eq nat_eq a b ≡ is_same_node a b
nodes_are None None = refl
nodes_are None (Some n) = refl
nodes_are (Some m) None = refl
nodes_are (Some m) (Some n) = refl

pub keys_are : (x y : ℕ × Option ℕ) → (nat_eq x.0 y.0 && option_eq nat_eq x.1 y.1) ≡ is_same_variable (seen x) (seen y)
keys_are x y = ap (λ b. nat_eq x.0 y.0 && b) (nodes_are x.1 y.1)

pub node_same : (n : ℕ) → nat_eq n n ≡ true
node_same n = eq-eqb n n refl

pub option_same : (o : Option ℕ) → option_eq nat_eq o o ≡ true
option_same None = refl
option_same (Some n) = node_same n
