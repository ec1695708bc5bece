-- Laws of what stands inside a function.
use Rattle.std.specs.Prelude.{◌≡◌, ℕ, Bool, List, [], ◌∷◌, filter, Option, Some, None, slice_get}
use Rattle.std.specs.Option.{option_and_then}
use Rattle.read_metadata.specs.Maps.{Maps}
use Rattle.mir_func.specs.declared.variable.VarId.{VarId}
use Rattle.read_debug_nodes.specs.Maps.{DebugMaps}
use Rattle.scope_ranges.specs.declared.scope.Scope.{Scope}
use Rattle.scope_entries.specs.declared.item.ScopeItem.{ScopeItem}
use Rattle.scope_entries.specs.declared.item.ScopeItem.TheVariants.{Variable, Open, End}
use Rattle.scope_entries.specs.Items.{is_told, items_of}

-- the scope around one
abbrev pub parent_of : List Scope → ℕ → Option ℕ
parent_of scopes k = option_and_then (λ (s : Scope). s.parent) (slice_get scopes k)

-- the scopes around one, innermost first
abbrev pub AreAround : List Scope → (parent : Option ℕ) → List ℕ → Type 0
AreAround scopes None [] = Unit {0}
AreAround scopes None (k ∷ ks) = ⊥
AreAround scopes (Some p) [] = ⊥
AreAround scopes (Some p) (k ∷ ks) = (p ≡ k) × AreAround scopes (parent_of scopes p) ks

-- where a scope begins, those that are open are those around it that are told
pub record IsUnder (scopes : List Scope) (told : ℕ → Bool) (opens : List ℕ) (k : ℕ) : Type 0 where
  pub around : List ℕ
  pub are : AreAround scopes (parent_of scopes k) around
  pub open_ones : opens ≡ filter told around

-- each scope that is told begins right under the next one around it that is told, and ends behind all that stands in it
abbrev pub AllStand : List Scope → (told : ℕ → Bool) → (opens : List ℕ) → List ScopeItem → Type 0
AllStand scopes told [] [] = Unit {0}
AllStand scopes told (k ∷ ks) [] = ⊥
AllStand scopes told ks (Variable v ∷ items) = AllStand scopes told ks items
AllStand scopes told ks (Open k ∷ items) = IsUnder scopes told ks k × AllStand scopes told (k ∷ ks) items
AllStand scopes told [] (End ∷ items) = ⊥
AllStand scopes told (k ∷ ks) (End ∷ items) = AllStand scopes told ks items

-- Of what stands inside a function each scope that is told begins right under the next one around it that is told.
abbrev pub ScopesStandInScopes : Type 0
ScopesStandInScopes = (meta : Maps) (debug : DebugMaps) (marked : List VarId) (subprogram : Option ℕ) (scopes : List Scope) →
    AllStand scopes (λ k. is_told meta debug marked (slice_get scopes k)) [] (items_of meta debug marked subprogram scopes)
