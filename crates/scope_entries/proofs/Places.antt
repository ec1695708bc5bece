-- What is left of the scopes of a function from an index on.
use Rattle.std.proofs.Common.{◌≡◌, ℕ, ◌+◌, ◌<◌, cond, List, [], ◌∷◌, length, get_or, drop, sym, ap, ◌∙◌, arith, inl, inr, nat_eq}
use Rattle.std.proofs.Common.{Option, Some}
use Rattle.std.specs.Option.{option_eq}
use Rattle.std.proofs.lemmas.Bool.{cases_lt}
use Rattle.std.proofs.lemmas.List.{drop_more, drop_all}
use Rattle.scope_ranges.specs.declared.scope.Scope.{Scope}
use Rattle.scope_ranges.specs.steps.Entered.{no_scope}
use Rattle.scope_entries.specs.steps.Links.{first_from, first_behind, parent_at}

head_or : Scope → List Scope → Scope
head_or d [] = d
head_or d (s ∷ ss) = s

rest_of : List Scope → List Scope
rest_of [] = []
rest_of (s ∷ ss) = ss

-- the scope at an index, and those behind it
pub record IsAt (scopes : List Scope) (k : ℕ) (s : Scope) (behind : List Scope) : Type 0 where
  pub within : k < length scopes
  pub item : get_or scopes k no_scope ≡ s
  pub rest : behind ≡ drop (k + 1) scopes

pub at_index : (scopes : List Scope) (k : ℕ) (s : Scope) (ss : List Scope) → s ∷ ss ≡ drop k scopes → IsAt scopes k s ss
unfolding head_or rest_of
at_index scopes k s ss e =
    elim (cases_lt k (length scopes)) [
      | inl within ↦
          let parts : s ∷ ss ≡ get_or scopes k no_scope ∷ drop (k + 1) scopes = e ∙ drop_more scopes k no_scope within in
          record { within = within; item = sym (ap (head_or s) parts); rest = ap rest_of parts }
      | inr past ↦ absurd (omega (arith, ap length (e ∙ drop_all k scopes past)))
    ]

-- the first scope in another one, from an index on: the one with this index, or else the first behind it
pub first_more : (scopes : List Scope) (k : ℕ) (around : Option ℕ) → k < length scopes
    → first_from k (drop k scopes) around ≡ cond (option_eq nat_eq (parent_at scopes k) around) (Some k) (first_behind scopes k around)
first_more scopes k around within = ap (λ (ss : List Scope). first_from k ss around) (drop_more scopes k no_scope within)
