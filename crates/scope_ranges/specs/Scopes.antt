-- The scopes of a function that have code: lexical blocks (DWARF 5 section 3.5) and inlined subroutines (section 3.3.8.2).
use Rattle.std.specs.Prelude.{◌≡◌, ◌↔◌, ℕ, ◌<◌, Bool, List, [], ◌∷◌, map, Contains, Option, None, Some, IfSome, slice_get}
use Rattle.read_metadata.specs.Maps.{Maps}
use Rattle.dwarf_line_table.specs.declared.source_and_code.SourceAndCode.{SourceAndCode}
use Rattle.dwarf_rnglists.specs.declared.range.AddressRange.{AddressRange}
use Rattle.dwarf_rnglists.specs.Ranges.{Ascend, Cover}
use Rattle.scope_ways.specs.declared.scope.LexicalScope.{LexicalScope}
use Rattle.scope_ways.specs.Outer.{around}
use Rattle.scope_ways.specs.Ways.{IsWholeWay, scopes_on}
use Rattle.scope_ranges.specs.declared.scope.Scope.{Scope}
use Rattle.scope_ranges.specs.Words.{ScopedWord, AreScoped, scopes_in, IsAt}

-- an index of the first of some scopes, and none if there are none
abbrev pub IsIndexOf : (places : List LexicalScope) → Option ℕ → List LexicalScope → Type 0
IsIndexOf places None [] = Unit {0}
IsIndexOf places None (s ∷ ss) = ⊥
IsIndexOf places (Some k) [] = ⊥
IsIndexOf places (Some k) (s ∷ ss) = slice_get places k ≡ Some s

-- the parent of a scope is the first scope of its own on the way from what is around it, which has an earlier index
pub record HasParent (meta : Maps) (is_file : ℕ → Bool) (places : List LexicalScope) (k : ℕ) (s : Scope) : Type 0 where
  pub way : List LexicalScope
  pub leads : IsWholeWay meta (around meta s.place) way
  pub parent : IsIndexOf places s.parent (scopes_on meta is_file way)
  pub earlier : IfSome s.parent (λ p. p < k)

-- These are the addresses of the instructions in a scope, in maximal ranges: each is nonempty, they ascend, and no two touch.
pub record AreRangesOf (words : List ScopedWord) (place : LexicalScope) (ranges : List AddressRange) : Type 0 where
  pub ascend : Ascend ranges
  pub cover : (address : ℕ) → Cover ranges address ↔ ((w : ScopedWord) × Contains words w × IsAt place address w)

-- The scopes of a function: each that an instruction is in is one of them, by their first instruction, outer ones first.
pub record AreScopes (meta : Maps) (is_file : ℕ → Bool) (f : SourceAndCode) (scopes : List Scope) : Type 0 where
  pub words : List ScopedWord
  pub instructions : AreScoped meta is_file f words
  pub places : map (λ s. s.place) scopes ≡ scopes_in words
  pub parents : (k : ℕ) (s : Scope) → slice_get scopes k ≡ Some s → HasParent meta is_file (scopes_in words) k s
  pub ranges : (k : ℕ) (s : Scope) → slice_get scopes k ≡ Some s → AreRangesOf words s.place s.ranges
