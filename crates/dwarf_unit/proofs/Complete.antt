-- What the entries of calls refer to is there: the types of their variables, the subprograms, and the calls around them.
use Rattle.std.proofs.Common.{◌≡◌, ℕ, suc, ◌+◌, ◌<◌, Bool, true, false, cond, List, [], ◌∷◌, map, length, refl, arith, subst}
use Rattle.std.proofs.Common.{Option, Some, slice_get}
use Rattle.std.specs.Prelude.{All, nat_eq, IfSome}
use Rattle.std.specs.List.{flat_map, list_any}
use Rattle.std.specs.Option.{option_eq}
use Rattle.std.proofs.lemmas.List.{length-map}
use Rattle.std.proofs.lemmas.List.Elements.{All-nil, All-cons, All-head, All-tail}
use Rattle.dwarf_info.specs.declared.unit.VariableEntry.{VariableEntry}
use Rattle.dwarf_info.specs.Entries.{HasType}
use Rattle.dwarf_info.specs.Inlined.{AreCalls, IsInlinedFunction}
use Rattle.read_metadata.specs.Maps.{Maps}
use Rattle.read_metadata.specs.Metadata.{variable_at}
use Rattle.mir_func.specs.declared.variable.VarId.{VarId}
use Rattle.dwarf_line_table.specs.declared.source_and_code.SourceAndCode.{SourceAndCode}
use Rattle.dwarf_line_table.specs.Program.{scope_number}
use Rattle.inline_subroutines.specs.declared.subroutine.InlinedSubroutine.{InlinedSubroutine}
use Rattle.inline_subroutines.specs.Subroutines.{AreOrdered}
use Rattle.dwarf_unit.specs.Unit.{type_uses, variable_entry, function_variables, program_types, base_entries}
use Rattle.dwarf_unit.specs.Inlined.{call_scopes, inlined_subprograms, subprogram_name, kept_variables, is_in, is_own, inlined_call, inlined_functions}
use Rattle.dwarf_unit.specs.Inlined.{inlined_unit_of}
use Rattle.dwarf_unit.proofs.Keys.{option_same}
use Rattle.dwarf_unit.proofs.Typed.{found_below, Below, used_any, used, front, back, typed_node}

typed_kept : (meta : Maps) (types : List ℕ) (keep : VarId → Bool) (k count : ℕ) (vs : List VarId) → count ≡ length types
    → All (Below types) (flat_map (type_uses meta) vs) → All (HasType count) (kept_variables meta types keep k vs)
typed_kept meta types keep k count [] e all = All-nil (HasType count)
typed_kept meta types keep k count (v ∷ vs) e all =
    by (keep v) (typed_node meta types (variable_at meta v.node) k count e (front (Below types) (type_uses meta v) (flat_map (type_uses meta) vs) all))
    (typed_kept meta types keep (suc k) count vs e (back (Below types) (type_uses meta v) (flat_map (type_uses meta) vs) all))
  where
    rest : List VariableEntry
    rest = kept_variables meta types keep (suc k) vs

    by : (b : Bool) → HasType count (variable_entry meta types k v) → All (HasType count) rest
        → All (HasType count) (cond b (variable_entry meta types k v ∷ rest) rest)
    by true one others = All-cons (HasType count) (variable_entry meta types k v) rest one others
    by false one others = others

-- a subprogram is among those that have an entry
abbrev IsFound : List (Option ℕ) → Option ℕ → Type 0
IsFound subprograms s = list_any (option_eq nat_eq s) subprograms ≡ true

module _ (meta : Maps) (number : Option ℕ → ℕ) (types : List ℕ) (subprograms : List (Option ℕ)) (count abstracts : ℕ) (many : count ≡ length types)
    (all_named : abstracts ≡ length subprograms) where
  calls_complete : (list : ℕ) (vs : List VarId) → All (Below types) (flat_map (type_uses meta) vs) → (k : ℕ) (is : List InlinedSubroutine)
      → ((j : ℕ) (i : InlinedSubroutine) → slice_get is j ≡ Some i → IfSome i.parent (λ p. p < k + j))
      → All (IsFound subprograms) (map (λ i. i.subprogram) is) → AreCalls count abstracts k (map (inlined_call meta number types subprograms list vs) is)
  calls_complete list vs typed k [] earlier found = tt
  calls_complete list vs typed k (i ∷ is) earlier found = (
    record {
      types_are = typed_kept meta types (is_in i.call) list count vs many typed;
      origin =
          let below =
          found_below (option_eq nat_eq i.subprogram) subprograms (All-head (IsFound subprograms) i.subprogram (map (λ s. s.subprogram) is) found) in
          omega (arith, below, all_named);
      parent =
          let here : k + 0 ≡ k = omega arith in
          subst (λ (n : ℕ). IfSome i.parent (λ p. p < n)) here (earlier 0 i refl);
    },
    calls_complete list vs typed (suc k) is
        (λ j s at. let next : k + suc j ≡ suc k + j = omega arith in
        subst (λ (n : ℕ). IfSome s.parent (λ p. p < n)) next (earlier (suc j) s at))
        (All-tail (IsFound subprograms) i.subprogram (map (λ s. s.subprogram) is) found),
  )

  functions_complete : (list : ℕ) (fs : List SourceAndCode) (instances : List (List InlinedSubroutine))
      → All (Below types) (flat_map (λ f. flat_map (type_uses meta) (function_variables f)) fs)
      → All (IsFound subprograms) (flat_map (λ is. map (λ i. i.subprogram) is) instances) → All AreOrdered instances
      → All (IsInlinedFunction count abstracts) (inlined_functions meta number types subprograms list fs instances)
  functions_complete list [] instances typed found ordered = All-nil (IsInlinedFunction count abstracts)
  functions_complete list (f ∷ fs) [] typed found ordered = All-nil (IsInlinedFunction count abstracts)
  functions_complete list (f ∷ fs) (is ∷ others) typed found ordered =
      let own = flat_map (type_uses meta) (function_variables f) in
      let left = flat_map (λ g. flat_map (type_uses meta) (function_variables g)) fs in
      let named = map (λ (i : InlinedSubroutine). i.subprogram) is in
      let left_named = flat_map (λ (js : List InlinedSubroutine). map (λ i. i.subprogram) js) others in
      let first = All-head AreOrdered is others ordered in
      let here : All (Below types) own = front (Below types) own left typed in
      All-cons (IsInlinedFunction count abstracts) _ (inlined_functions meta number types subprograms (list + length (function_variables f)) fs others) (
        typed_kept meta types (is_own is) list count (function_variables f) many here,
        calls_complete list (function_variables f) here 0 is
            (λ j i at. let same : j ≡ 0 + j = omega arith in
            subst (λ (n : ℕ). IfSome i.parent (λ p. p < n)) same (first.earlier j i at))
            (front (IsFound subprograms) named left_named found),
      )
      (functions_complete (list + length (function_variables f)) fs others (back (Below types) own left typed)
      (back (IsFound subprograms) named left_named found) (All-tail AreOrdered is others ordered))

pub unit_complete : (meta : Maps) (text_len : ℕ) (functions : List SourceAndCode) (instances : List (List InlinedSubroutine)) → All AreOrdered instances
    → All (IsInlinedFunction (length (inlined_unit_of meta text_len functions instances).types)
    (length (inlined_unit_of meta text_len functions instances).abstracts)) (inlined_unit_of meta text_len functions instances).functions
unfolding inlined_unit_of
unit_complete meta text_len functions instances ordered =
    let types = program_types meta functions in
    let subprograms = inlined_subprograms instances in
    functions_complete meta (scope_number meta functions (call_scopes meta instances)) types subprograms (length (base_entries meta types))
    (length (map (subprogram_name meta) subprograms)) (length-map types _) (length-map subprograms _) 0 functions instances (used [] _)
    (used_any (option_eq nat_eq) option_same [] _) ordered
