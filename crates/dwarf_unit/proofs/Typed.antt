-- The type of each variable is there.
-- Plan: what is used is among the first uses, so its place is below their number.
use Rattle.std.proofs.Common.{◌≡◌, ℕ, suc, ◌+◌, ◌<◌, Bool, true, false, ◌||◌, List, [], ◌∷◌, ◌++◌, length, sym, ◌∙◌, ap, arith, Some, None}
use Rattle.std.proofs.Common.{true≢false, cond, not}
use Rattle.std.specs.Prelude.{Option, All, nat_eq, IfSome}
use Rattle.std.specs.List.{flat_map, list_any, position_or_len}
use Rattle.std.proofs.lemmas.List.{length-map}
use Rattle.std.proofs.lemmas.List.Elements.{All-nil, All-cons, All-head, All-tail, All-weaker}
use Rattle.std.proofs.lemmas.List.Folds.{list_any-append}
use Rattle.dwarf_info.specs.Entries.{HasType, HasTypes}
use Rattle.read_metadata.specs.Maps.{Maps}
use Rattle.read_metadata.specs.Metadata.{variable_at}
use Rattle.read_metadata.specs.declared.node.VariableNode.{VariableNode}
use Rattle.mir_func.specs.declared.variable.VarId.{VarId}
use Rattle.dwarf_line_table.specs.declared.source_and_code.SourceAndCode.{SourceAndCode}
use Rattle.dwarf_line_table.specs.Files.{with_new, first_uses}
use Rattle.dwarf_line_table.proofs.FirstUses.{joined, lengthened}
use Rattle.dwarf_unit.specs.Unit.{type_uses, node_uses, listed, readable_type, type_in, node_entry, variables_from, function_variables}
use Rattle.dwarf_unit.specs.Unit.{functions_from, program_types, base_entries, unit_of}
use Rattle.dwarf_unit.proofs.Keys.{node_same}

-- a place that is found is below the length
pub found_below : {X : Type 0} (p : X → Bool) (xs : List X) → list_any p xs ≡ true → position_or_len p xs < length xs
found_below p [] h = absurd (true≢false (sym h))
found_below p (x ∷ xs) h = by (p x) h (found_below p xs)
  where
    by : (b : Bool) → (b || list_any p xs) ≡ true → (list_any p xs ≡ true → position_or_len p xs < length xs)
        → cond (not b) (1 + position_or_len p xs) 0 < suc (length xs)
    by true found rest = omega arith
    by false found rest = let below = rest found in omega (arith, below)

pub Below : List ℕ → ℕ → Type 0
Below types node = position_or_len (nat_eq node) types < length types

-- each that is used is there
pub used_any : {X : Type 0} (is : X → X → Bool) → ((x : X) → is x x ≡ true) → (known xs : List X) → All (λ x. list_any (is x) (first_uses is known xs) ≡ true) xs
used_any is same known [] = All-nil _
used_any {X} is same known (x ∷ xs) =
    let more = lengthened is (with_new is known x) xs in
    let there : list_any (is x) (first_uses is (with_new is known x) xs) ≡ true =
    ap (list_any (is x)) more.1 ∙ list_any-append (is x) (with_new is known x) more.0 ∙ ap (λ b. b || list_any (is x) more.0) (joined is same known x) in
    All-cons (λ (y : X). list_any (is y) (first_uses is (with_new is known x) xs) ≡ true) x xs there (used_any is same (with_new is known x) xs)

-- so it has a place
pub used : (known xs : List ℕ) → All (Below (first_uses nat_eq known xs)) xs
unfolding Below
used known xs =
    let all = first_uses nat_eq known xs in
    All-weaker (λ (x : ℕ). list_any (nat_eq x) all ≡ true) (Below all) (λ x there. found_below (nat_eq x) all there) xs (used_any nat_eq node_same known xs)

pub front : {X : Type 0} (P : X → Type 0) (xs ys : List X) → All P (xs ++ ys) → All P xs
front P [] ys all = All-nil P
front P (x ∷ xs) ys all = All-cons P x xs (All-head P x (xs ++ ys) all) (front P xs ys (All-tail P x (xs ++ ys) all))

pub back : {X : Type 0} (P : X → Type 0) (xs ys : List X) → All P (xs ++ ys) → All P ys
back P [] ys all = all
back P (x ∷ xs) ys all = back P xs ys (All-tail P x (xs ++ ys) all)

typed_in : (types : List ℕ) (node : Option ℕ) (count : ℕ) → count ≡ length types → All (Below types) (listed node) → IfSome (type_in types node)
    (λ base. base < count)
unfolding Below
typed_in types None count e all = tt
typed_in types (Some node) count e all = let below : position_or_len (nat_eq node) types < length types = All-head (Below types) node [] all in omega
    (arith, e, below)

pub typed_node : (meta : Maps) (types : List ℕ) (o : Option VariableNode) (k count : ℕ) → count ≡ length types → All (Below types) (node_uses meta o)
    → HasType count (node_entry meta types o k)
typed_node meta types None k count e all = tt
typed_node meta types (Some d) k count e all = typed_in types (readable_type meta d.base) count e all

typed_variables : (meta : Maps) (types : List ℕ) (k count : ℕ) (vs : List VarId) → count ≡ length types → All (Below types) (flat_map (type_uses meta) vs)
    → All (HasType count) (variables_from meta types k vs)
typed_variables meta types k count [] e all = All-nil _
typed_variables meta types k count (v ∷ vs) e all =
    All-cons (HasType count) (node_entry meta types (variable_at meta v.node) k) (variables_from meta types (suc k) vs)
    (typed_node meta types (variable_at meta v.node) k count e (front (Below types) (type_uses meta v) (flat_map (type_uses meta) vs) all))
    (typed_variables meta types (suc k) count vs e (back (Below types) (type_uses meta v) (flat_map (type_uses meta) vs) all))

typed_functions : (meta : Maps) (types : List ℕ) (k count : ℕ) (fs : List SourceAndCode) → count ≡ length types
    → All (Below types) (flat_map (λ f. flat_map (type_uses meta) (function_variables f)) fs) → All (HasTypes count) (functions_from meta types k fs)
typed_functions meta types k count [] e all = All-nil _
typed_functions meta types k count (f ∷ fs) e all =
    let own = flat_map (type_uses meta) (function_variables f) in
    let others = flat_map (λ g. flat_map (type_uses meta) (function_variables g)) fs in
    All-cons (HasTypes count) _ (functions_from meta types (k + length (function_variables f)) fs)
    (typed_variables meta types k count (function_variables f) e (front (Below types) own others all))
    (typed_functions meta types (k + length (function_variables f)) count fs e (back (Below types) own others all))

pub unit_typed : (meta : Maps) (text_len : ℕ) (functions : List SourceAndCode) → All (HasTypes (length (unit_of meta text_len functions).types))
    (unit_of meta text_len functions).functions
unfolding unit_of
unit_typed meta text_len functions =
    let types = program_types meta functions in
    typed_functions meta types 0 (length (base_entries meta types)) functions (length-map types _) (used [] _)
