-- The instructions of a function with the scopes that they are in.
use Rattle.std.specs.Prelude.{◌≡◌, ℕ, ◌+◌, ◌<◌, ◌≤◌, Bool, List, [], Contains, reverse}
use Rattle.std.specs.List.{AllZip, flat_map}
use Rattle.read_metadata.specs.Maps.{Maps}
use Rattle.read_item.specs.Debug.{inlined_at}
use Rattle.mir_func.specs.declared.block.Block.{Block}
use Rattle.mir_func.specs.declared.location.Loc.{Loc}
use Rattle.mir_func.specs.Positions.{position_of}
use Rattle.dwarf_line_table.specs.emit_code.declared.code.EncodedInstruction.{EncodedInstruction}
use Rattle.dwarf_line_table.specs.Files.{first_uses}
use Rattle.dwarf_line_table.specs.SourcePosition.{loc_of, scope_line}
use Rattle.dwarf_line_table.specs.declared.source_and_code.SourceAndCode.{SourceAndCode}
use Rattle.scope_ways.specs.declared.scope.LexicalScope.{LexicalScope}
use Rattle.scope_ways.specs.Ways.{IsWayOf, is_same, scopes_on}

-- an instruction: its addresses, and the scopes that it is in, inner ones first
pub record ScopedWord : Type 0 where
  pub lo : ℕ
  pub hi : ℕ
  pub scopes : List LexicalScope

-- the scope of a debug location, by its node and the node that it is inlined at
abbrev pub scope_of_loc : Maps → Loc → LexicalScope
scope_of_loc meta loc = record { node = (scope_line meta loc).scope; inlined_at = inlined_at meta loc }

-- An instruction is in the scopes on the way of its debug location: none if that has no way. The location is that of the first code at or after its origin, in
-- the blocks of the function as it was read. So that of the prologue is the one of the function's first code.
pub record IsScoped (meta : Maps) (is_file : ℕ → Bool) (blocks : List Block) (e : EncodedInstruction) (w : ScopedWord) : Type 0 where
  pub lo : w.lo ≡ e.address
  pub hi : w.hi ≡ e.address + e.size
  pub way : List LexicalScope
  pub leads : IsWayOf meta (scope_of_loc meta (loc_of blocks (position_of e.origin))) way
  pub scopes : w.scopes ≡ scopes_on meta is_file way

-- the instructions of a function
abbrev pub AreScoped : Maps → (is_file : ℕ → Bool) → SourceAndCode → List ScopedWord → Type 0
AreScoped meta is_file f words = AllZip (IsScoped meta is_file f.source.now.blocks) f.code.now.entries words

-- the scopes of instructions: by their first instruction, outer ones first
abbrev pub scopes_in : List ScopedWord → List LexicalScope
scopes_in words = first_uses is_same [] (flat_map (λ w. reverse w.scopes) words)

-- the address is one of an instruction in a scope
abbrev pub IsAt : LexicalScope → ℕ → ScopedWord → Type 0
IsAt s address w = Contains w.scopes s × (w.lo ≤ address) × (address < w.hi)
