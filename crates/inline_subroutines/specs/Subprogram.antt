-- The subprogram of a scope (LLVM Language Reference Manual, "DISubprogram", "DILexicalBlock").
use Rattle.std.specs.Prelude.{◌≡◌, ℕ, List, [], ◌∷◌, Option, Some, None, IsSome}
use Rattle.std.specs.Option.{option_and_then}
use Rattle.read_metadata.specs.Maps.{Maps}
use Rattle.read_metadata.specs.Metadata.{subprogram_node_at, block_at}

-- the scope around a lexical block
abbrev pub scope_around : Maps → ℕ → Option ℕ
scope_around meta b = option_and_then (λ block. block.scope) (block_at meta b)

-- a scope is in these lexical blocks, inner ones first, each in the next one's scope, and the last of them in a subprogram
abbrev pub IsWithin : Maps → (scope : Option ℕ) → (blocks : List ℕ) → (subprogram : ℕ) → Type 0
IsWithin meta scope [] s = (scope ≡ Some s) × IsSome (subprogram_node_at meta s)
IsWithin meta scope (b ∷ bs) s = (scope ≡ Some b) × IsSome (block_at meta b) × IsWithin meta (scope_around meta b) bs s

-- the subprogram of a scope: none if the way to it meets a node that isn't readable, or one twice
abbrev pub IsSubprogramOf : Maps → (scope : Option ℕ) → Option ℕ → Type 0
IsSubprogramOf meta scope None = (bs : List ℕ) (s : ℕ) → IsWithin meta scope bs s → ⊥
IsSubprogramOf meta scope (Some s) = (bs : List ℕ) × IsWithin meta scope bs s
