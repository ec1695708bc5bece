-- Sets of numbers and of variables, as lists in the order of first insertion.
use Rattle.std.specs.Prelude.{◌≡◌, ℕ, Bool, ◌==◌, if◌then◌else◌, List, [], ◌∷◌, ◌++◌}
use Rattle.std.specs.List.{list_any}
use Rattle.std.specs.Ordering.{nat_cmp}
use Rattle.std.specs.BTreeSet.{BTreeSet, contains}
use Rattle.mir_func.specs.declared.variable.VarId.{VarId}
use Rattle.mir_func.specs.Variables.{is_same}

-- whether a number is in the set
abbrev pub is_met : ℕ → List ℕ → Bool
is_met n ns = list_any (λ m. n == m) ns

-- the set with a number inserted
abbrev pub met : ℕ → List ℕ → List ℕ
met n ns = if is_met n ns then ns else ns ++ n ∷ []

-- a tree set has the numbers of this list
abbrev pub HasAll : BTreeSet ℕ → List ℕ → Type 0
HasAll set ns = (n : ℕ) → contains nat_cmp set n ≡ is_met n ns

-- whether a variable, or a fragment of one, is in the set
abbrev pub is_known : VarId → List VarId → Bool
is_known v vs = list_any (λ w. is_same v w) vs

-- the set with a variable, or a fragment of one, inserted
abbrev pub known : VarId → List VarId → List VarId
known v vs = if is_known v vs then vs else vs ++ v ∷ []
