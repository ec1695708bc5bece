-- The keys of fields in a set.
use Rattle.std.specs.Prelude.{◌≡◌, ℕ, List}
use Rattle.std.specs.Borrow.{Bor}
use Rattle.std.specs.Ordering.{nat_cmp}
use Rattle.std.specs.Cmp.Lexicographic.{slice_cmp}
use Rattle.std.specs.BTreeSet.{BTreeSet, contains_by}
use Rattle.read_debug_nodes.specs.declared.field.NodeField.{NodeField}
use Rattle.read_debug_nodes.specs.Field.{has_key}

-- a set contains the keys of these fields and no others
abbrev pub AreKeys : (line : List ℕ) → BTreeSet (Bor (List ℕ)) → List NodeField → Type 0
AreKeys line keys fields = (t : List ℕ) → contains_by (λ k. slice_cmp nat_cmp t k.now) keys ≡ has_key line t fields
