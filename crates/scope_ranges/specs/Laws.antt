-- Laws of the scopes of a function.
use Rattle.std.specs.Prelude.{◌≡◌, ◌↔◌, ℕ, ◌+◌, ◌<◌, ◌≤◌, Bool, List, Contains, Some, slice_get}
use Rattle.read_metadata.specs.Maps.{Maps}
use Rattle.mir_func.specs.Positions.{position_of}
use Rattle.dwarf_line_table.specs.emit_code.declared.code.EncodedInstruction.{EncodedInstruction}
use Rattle.dwarf_line_table.specs.emit_code.Laid.{StandFrom}
use Rattle.dwarf_line_table.specs.SourcePosition.{loc_of}
use Rattle.dwarf_line_table.specs.declared.source_and_code.SourceAndCode.{SourceAndCode}
use Rattle.dwarf_line_table.specs.Program.{function_end}
use Rattle.dwarf_rnglists.specs.Ranges.{Cover}
use Rattle.scope_ways.specs.declared.scope.LexicalScope.{LexicalScope}
use Rattle.scope_ways.specs.declared.scope.Outer.TheVariants as outer
use Rattle.scope_ways.specs.Ways.{IsWholeWay, scopes_on}
use Rattle.scope_ranges.specs.declared.scope.Scope.{Scope}
use Rattle.scope_ranges.specs.Words.{scope_of_loc}
use Rattle.scope_ranges.specs.Scopes.{AreScopes}

-- a scope is on the way of an instruction's debug location, as one of its own
pub record IsInScope (meta : Maps) (is_file : ℕ → Bool) (f : SourceAndCode) (e : EncodedInstruction) (s : LexicalScope) : Type 0 where
  pub way : List LexicalScope
  pub leads : IsWholeWay meta (outer.Scope (scope_of_loc meta (loc_of f.source.now.blocks (position_of e.origin)))) way
  pub among : Contains (scopes_on meta is_file way) s

-- An address of an instruction is in the ranges of a scope exactly if the scope is on the way of the instruction's debug location.
abbrev pub RangesAreOfScopedCode : Type 0
RangesAreOfScopedCode = (meta : Maps) (is_file : ℕ → Bool) (f : SourceAndCode) (scopes : List Scope) → AreScopes meta is_file f scopes →
    StandFrom f.code.now.base f.code.now.entries (function_end f) → (e : EncodedInstruction) (address : ℕ) → Contains f.code.now.entries e →
    e.address ≤ address → address < e.address + e.size → (k : ℕ) (s : Scope) → slice_get scopes k ≡ Some s →
    Cover s.ranges address ↔ IsInScope meta is_file f e s.place

-- Each scope that an instruction is in has one entry.
abbrev pub EachScopeIsThere : Type 0
EachScopeIsThere = (meta : Maps) (is_file : ℕ → Bool) (f : SourceAndCode) (scopes : List Scope) → AreScopes meta is_file f scopes →
    (e : EncodedInstruction) (place : LexicalScope) → Contains f.code.now.entries e → IsInScope meta is_file f e place →
    (k : ℕ) × ((s : Scope) × (slice_get scopes k ≡ Some s) × (s.place ≡ place)) ×
    ((j : ℕ) (t : Scope) → slice_get scopes j ≡ Some t → t.place ≡ place → j ≡ k)
