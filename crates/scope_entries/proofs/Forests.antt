-- The scopes of a function stand behind those around them.
use Rattle.std.proofs.Common.{ℕ, Bool, List}
use Rattle.read_metadata.specs.Maps.{Maps}
use Rattle.dwarf_line_table.specs.declared.source_and_code.SourceAndCode.{SourceAndCode}
use Rattle.scope_ranges.specs.declared.scope.Scope.{Scope}
use Rattle.scope_ranges.specs.Scopes.{AreScopes}
use Rattle.scope_entries.specs.Prefix.{IsForest}

pub scopes_are_forest : (meta : Maps) (is_file : ℕ → Bool) (f : SourceAndCode) (scopes : List Scope) → AreScopes meta is_file f scopes → IsForest scopes
scopes_are_forest meta is_file f scopes are = λ k s at. (are.parents k s at).earlier
