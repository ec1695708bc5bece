-- Variables with their lists.
use Rattle.std.proofs.Common.{◌≡◌, ℕ, List, map, filter, ap}
use Rattle.mir_func.specs.declared.variable.VarId.{VarId}
use Rattle.read_debug_nodes.specs.Maps.{DebugMaps, numbers_of}
use Rattle.scope_ways.specs.declared.scope.LexicalScope.{LexicalScope}
use Rattle.scope_variables.specs.declared.marked.MarkedVariables.{MarkedVariables}
use Rattle.scope_variables.specs.declared.variable.ScopeVariable.{ScopeVariable}
use Rattle.scope_variables.specs.Scope.{most_files}
use Rattle.scope_variables.specs.Variables.{is_own, listed}
use Rattle.scope_variables.specs.steps.Listed.{is_own_within, placed}
use Rattle.scope_variables.specs.steps.Marked.{AreMarked}

pub same_placed : (vs : List VarId) (m : MarkedVariables) (s : LexicalScope) → AreMarked vs m → (ks : List (ℕ × ℕ))
    → map (placed m s) ks ≡ map (listed vs s.inlined_at) ks
same_placed vs m s are ks =
    λ i. map (λ (k : ℕ × ℕ). let made : ScopeVariable = record { node = k.1; list = are (k.1, s.inlined_at) i } in made) ks

pub same_own : (debug : DebugMaps) (most : ℕ) (vs : List VarId) → most ≡ most_files debug (numbers_of debug)
    → map (λ (v : VarId). v.node) (filter (is_own_within debug most) vs) ≡ map (λ (v : VarId). v.node) (filter (is_own debug) vs)
same_own debug most vs e = ap (λ n. map (λ (v : VarId). v.node) (filter (is_own_within debug n) vs)) e
