-- Each scope begins right under the next one around it that is told.
-- Plan: by induction over the scopes from an index on, with what stands behind them.
use Rattle.std.proofs.Common.{◌≡◌, ℕ, ◌+◌, Bool, true, false, cond, List, [], ◌∷◌, ◌++◌, map, filter, drop, refl, sym, ap, ◌∙◌, subst, nat_eq}
use Rattle.std.proofs.Common.{Option, Some, None, append_assoc, append-nil}
use Rattle.std.specs.Prelude.{slice_get}
use Rattle.std.specs.List.{flat_map}
use Rattle.std.specs.Option.{option_and_then, option_eq}
use Rattle.std.proofs.lemmas.List.Concat.{flat_map-append}
use Rattle.std.proofs.lemmas.Option.{slice_get-get_or}
use Rattle.read_metadata.specs.Maps.{Maps}
use Rattle.mir_func.specs.declared.variable.VarId.{VarId}
use Rattle.read_debug_nodes.specs.Maps.{DebugMaps}
use Rattle.scope_ranges.specs.declared.scope.Scope.{Scope}
use Rattle.scope_ranges.specs.steps.Entered.{no_scope}
use Rattle.scope_variables.specs.declared.variable.ScopeVariable.{ScopeVariable}
use Rattle.scope_variables.specs.Variables.{variables_of_function, variables_of_scope}
use Rattle.scope_entries.specs.declared.step.ScopeStep.{ScopeStep}
use Rattle.scope_entries.specs.declared.step.ScopeStep.TheVariants as step
use Rattle.scope_entries.specs.declared.item.ScopeItem.{ScopeItem}
use Rattle.scope_entries.specs.declared.item.ScopeItem.TheVariants.{Variable, Open, End}
use Rattle.scope_entries.specs.Prefix.{steps_from, steps_of}
use Rattle.scope_entries.specs.Items.{begin_items, closed, end_items, is_block, is_told, opened, step_items}
use Rattle.scope_entries.specs.Laws.{AllStand, AreAround, ScopesStandInScopes, parent_of}
use Rattle.scope_variables.proofs.Keys.{same_option}
use Rattle.scope_entries.proofs.Places.{IsAt, at_index}

variables_stand : (scopes : List Scope) (told : ℕ → Bool) (ks : List ℕ) (vs : List ScopeVariable) (rest : List ScopeItem) → AllStand scopes told ks rest
    → AllStand scopes told ks (map Variable vs ++ rest)
variables_stand scopes told ks [] rest all = all
variables_stand scopes told [] (v ∷ vs) rest all = variables_stand scopes told [] vs rest all
variables_stand scopes told (k ∷ ks) (v ∷ vs) rest all = variables_stand scopes told (k ∷ ks) vs rest all

-- a scope with what stands in it
scope_stands : (scopes : List Scope) (told : ℕ → Bool) (b : Bool) (k : ℕ) (ks : List ℕ) (vs : List ScopeVariable) (inner rest : List ScopeItem)
    → told k ≡ b → AreAround scopes (parent_of scopes k) ks
    → ((behind : List ScopeItem) → AllStand scopes told (filter told (k ∷ ks)) behind → AllStand scopes told (filter told (k ∷ ks)) (inner ++ behind))
    → AllStand scopes told (filter told ks) rest
    → AllStand scopes told (filter told ks) (cond b (Open k ∷ map Variable vs) [] ++ (inner ++ (cond b (End ∷ []) [] ++ rest)))
scope_stands scopes told true k ks vs inner rest is around stands all =
    let one : filter told (k ∷ ks) ≡ k ∷ filter told ks = ap (λ (b : Bool). cond b (k ∷ filter told ks) (filter told ks)) is in
    let whole : AllStand scopes told (k ∷ filter told ks) (inner ++ End ∷ rest) =
    subst (λ (js : List ℕ). AllStand scopes told js (inner ++ End ∷ rest)) one
    (stands (End ∷ rest) (subst (λ (js : List ℕ). AllStand scopes told js (End ∷ rest)) (sym one) all)) in (
      record { around = ks; are = around; open_ones = refl },
      variables_stand scopes told (k ∷ filter told ks) vs (inner ++ End ∷ rest) whole,
    )
scope_stands scopes told false k ks vs inner rest is around stands all =
    let none : filter told (k ∷ ks) ≡ filter told ks = ap (λ (b : Bool). cond b (k ∷ filter told ks) (filter told ks)) is in
    subst (λ (js : List ℕ). AllStand scopes told js (inner ++ rest)) none
    (stands rest (subst (λ (js : List ℕ). AllStand scopes told js rest) (sym none) all))

module _ (meta : Maps) (debug : DebugMaps) (marked : List VarId) (scopes : List Scope) where
  abbrev told : ℕ → Bool
  told k = is_told meta debug marked (slice_get scopes k)

  abbrev made : ScopeStep → List ScopeItem
  made s = step_items meta debug marked scopes s

  -- the steps through a scope and those behind it
  parted : (k : ℕ) (s : Scope) (inner outer : List ScopeStep) (rest : List ScopeItem) → slice_get scopes k ≡ Some s
      → cond (told k) (Open k ∷ map Variable (variables_of_scope debug marked s.place)) []
      ++ (flat_map made inner ++ (cond (told k) (End ∷ []) [] ++ (flat_map made outer ++ rest)))
      ≡ flat_map made (step.Open k ∷ (inner ++ step.Close k ∷ outer)) ++ rest
  parted k s inner outer rest at =
      let open_items = begin_items (is_block meta s.place) k (variables_of_scope debug marked s.place) in
      let end = end_items (is_block meta s.place) (variables_of_scope debug marked s.place) in
      let told_so : is_told meta debug marked (slice_get scopes k) ≡ is_told meta debug marked (Some s) = ap (is_told meta debug marked) at in
      let opens : open_items ≡ made (step.Open k) = ap (λ o. opened meta debug marked k o) (sym at) in
      let ends : end ≡ made (step.Close k) = ap (λ o. closed meta debug marked o) (sym at) in
      ap (λ (b : Bool). cond b (Open k ∷ map Variable (variables_of_scope debug marked s.place)) []
      ++ (flat_map made inner ++ (cond b (End ∷ []) [] ++ (flat_map made outer ++ rest)))) told_so
      ∙ (λ i. opens i ++ (flat_map made inner ++ (ends i ++ (flat_map made outer ++ rest))))
      ∙ ap (λ (x : List ScopeItem). made (step.Open k) ++ (flat_map made inner ++ x))
      (sym (append_assoc (made (step.Close k)) (flat_map made outer) rest))
      ∙ ap (λ (x : List ScopeItem). made (step.Open k) ++ x) (sym (append_assoc (flat_map made inner) (flat_map made (step.Close k ∷ outer)) rest))
      ∙ ap (λ (x : List ScopeItem). made (step.Open k) ++ (x ++ rest)) (sym (flat_map-append made inner (step.Close k ∷ outer)))
      ∙ sym (append_assoc (made (step.Open k)) (flat_map made (inner ++ step.Close k ∷ outer)) rest)

  stand_by : (around : Option ℕ) (k : ℕ) (s : Scope) (ss : List Scope) (ks : List ℕ) (b : Bool) → option_eq nat_eq s.parent around ≡ b
      → IsAt scopes k s ss → AreAround scopes around ks
      → ((js : List ℕ) (rest : List ScopeItem) → AreAround scopes (Some k) js → AllStand scopes told (filter told js) rest
      → AllStand scopes told (filter told js) (flat_map made (steps_from (k + 1) ss (Some k)) ++ rest))
      → (rest : List ScopeItem)
      → AllStand scopes told (filter told ks) (flat_map made (steps_from (k + 1) ss around) ++ rest)
      → AllStand scopes told (filter told ks)
      (flat_map made (cond b (step.Open k ∷ (steps_from (k + 1) ss (Some k) ++ step.Close k ∷ steps_from (k + 1) ss around)) (steps_from (k + 1) ss around))
      ++ rest)
  stand_by around k s ss ks true same at are inner rest more =
      let read : slice_get scopes k ≡ Some s = slice_get-get_or scopes k no_scope at.within ∙ ap Some at.item in
      let outer : parent_of scopes k ≡ around = ap (option_and_then (λ (t : Scope). t.parent)) read ∙ same_option s.parent around same in
      let own : AreAround scopes (parent_of scopes k) ks = subst (λ (o : Option ℕ). AreAround scopes o ks) (sym outer) are in
      subst (AllStand scopes told (filter told ks))
      (parted k s (steps_from (k + 1) ss (Some k)) (steps_from (k + 1) ss around) rest read)
      (scope_stands scopes told (told k) k ks (variables_of_scope debug marked s.place) (flat_map made (steps_from (k + 1) ss (Some k)))
      (flat_map made (steps_from (k + 1) ss around) ++ rest) refl own (λ behind all. inner (k ∷ ks) behind (refl, own) all) more)
  stand_by around k s ss ks false same at are inner rest more = more

  stand : (around : Option ℕ) (k : ℕ) (ss : List Scope) → ss ≡ drop k scopes → (ks : List ℕ) (rest : List ScopeItem) → AreAround scopes around ks
      → AllStand scopes told (filter told ks) rest → AllStand scopes told (filter told ks) (flat_map made (steps_from k ss around) ++ rest)
  unfolding steps_from
  stand around k [] e ks rest are all = all
  stand around k (s ∷ ss) e ks rest are all =
      let at = at_index scopes k s ss e in
      stand_by around k s ss ks (option_eq nat_eq s.parent around) refl at are
      (λ js behind these well. stand (Some k) (k + 1) ss at.rest js behind these well) rest
      (stand around (k + 1) ss at.rest ks rest are all)

pub all_stand : ScopesStandInScopes
all_stand meta debug marked subprogram scopes =
    let items = flat_map (step_items meta debug marked scopes) (steps_of scopes) in
    variables_stand scopes (λ k. is_told meta debug marked (slice_get scopes k)) [] (variables_of_function debug marked subprogram) items
    (subst (AllStand scopes (λ k. is_told meta debug marked (slice_get scopes k)) []) (append-nil items)
    (stand meta debug marked scopes None 0 scopes refl [] [] tt tt))
