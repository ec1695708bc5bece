-- The scopes of instructions as they are entered, one instruction after the other.
use Rattle.std.specs.Prelude.{◌≡◌, ℕ, Bool, List, [], ◌∷◌, ◌++◌, map, filter, cond, nat_eq, Option, Some, None}
use Rattle.std.specs.List.{position_or_len}
use Rattle.dwarf_rnglists.specs.declared.range.AddressRange.{AddressRange}
use Rattle.scope_ways.specs.declared.scope.LexicalScope.{LexicalScope}
use Rattle.scope_ways.specs.Ways.{is_same}
use Rattle.scope_ranges.specs.declared.scope.Scope.{Scope}
use Rattle.scope_ranges.specs.Words.{ScopedWord}

-- which scopes they are
abbrev pub places : List Scope → List LexicalScope
places scopes = map (λ s. s.place) scopes

-- ranges with an instruction behind them, which lengthens the last one if it begins where that ends
abbrev pub joined : List AddressRange → (lo hi : ℕ) → List AddressRange
joined [] lo hi = record { lo = lo; hi = hi } ∷ []
joined (r ∷ []) lo hi = cond (nat_eq r.hi lo) (record { lo = r.lo; hi = hi } ∷ []) (r ∷ record { lo = lo; hi = hi } ∷ [])
joined (r ∷ s ∷ rs) lo hi = r ∷ joined (s ∷ rs) lo hi

-- what stands where no scope is
abbrev pub no_scope : Scope
no_scope = record { place = record { node = None; inlined_at = None }; parent = None; ranges = [] }

-- a scope with an instruction
abbrev pub with_addresses : Scope → (lo hi : ℕ) → Scope
with_addresses s lo hi = record { place = s.place; parent = s.parent; ranges = joined s.ranges lo hi }

-- scopes with an instruction in one of them: a new one is appended
abbrev pub with_code : List Scope → LexicalScope → (parent : Option ℕ) → (lo hi : ℕ) → List Scope
with_code [] place parent lo hi = record { place = place; parent = parent; ranges = joined [] lo hi } ∷ []
with_code (s ∷ ss) place parent lo hi = cond (is_same place s.place) (with_addresses s lo hi ∷ ss) (s ∷ with_code ss place parent lo hi)

-- the index of the first of some scopes
abbrev pub index_in : List Scope → List LexicalScope → Option ℕ
index_in scopes [] = None
index_in scopes (s ∷ ss) = Some (position_or_len (is_same s) (places scopes))

-- scopes with an instruction in some of them, inner ones first
abbrev pub entered : List Scope → (inside : List LexicalScope) → (lo hi : ℕ) → List Scope
entered scopes [] lo hi = scopes
entered scopes (s ∷ ss) lo hi = with_code (entered scopes ss lo hi) s (index_in (entered scopes ss lo hi) ss) lo hi

-- scopes with some instructions
abbrev pub with_words : List Scope → List ScopedWord → List Scope
with_words scopes [] = scopes
with_words scopes (w ∷ ws) = with_words (entered scopes w.scopes w.lo w.hi) ws

-- the scopes on a way are entered but for those that are left, and the last of them has this index
pub record IsEntering (test : LexicalScope → Bool) (old : List Scope) (whole left : List LexicalScope) (lo hi : ℕ) (now : List Scope) (last : Option ℕ)
    : Type 0 where
  pub done : List LexicalScope
  pub split : whole ≡ left ++ done
  pub made : now ≡ entered old (filter test done) lo hi
  pub index : last ≡ index_in now (filter test done)
