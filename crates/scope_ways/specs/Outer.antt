-- The scope around a scope (LLVM Language Reference Manual, "DILexicalBlock", "DILexicalBlockFile", "DISubprogram" and "DILocation").
use Rattle.std.specs.Prelude.{ℕ, Bool, false, not, Option, Some, None, is_some}
use Rattle.read_metadata.specs.Maps.{Maps}
use Rattle.read_metadata.specs.Metadata.{location_at, subprogram_node_at, block_at}
use Rattle.read_metadata.specs.declared.node.BlockNode.{BlockNode}
use Rattle.read_metadata.specs.declared.node.LocationNode.{LocationNode}
use Rattle.read_metadata.specs.declared.node.SubprogramNode.{SubprogramNode}
use Rattle.scope_ways.specs.declared.scope.LexicalScope.{LexicalScope}
use Rattle.scope_ways.specs.declared.scope.Outer.{Outer}
use Rattle.scope_ways.specs.declared.scope.Outer.TheVariants as outer

-- the scope of a location, if there is one
abbrev pub scope_of_location : Option LocationNode → Outer
scope_of_location None = outer.Unknown
scope_of_location (Some l) = outer.Scope (record { node = l.scope; inlined_at = l.inlined_at })

-- what is around a subprogram that was inlined by a call: the scope of the call's location
abbrev pub around_call : Maps → ℕ → Outer
around_call meta call = scope_of_location (location_at meta call)

-- what is around a subprogram: nothing of the function, if it wasn't inlined
abbrev pub around_subprogram : Maps → (inlined_at : Option ℕ) → Outer
around_subprogram meta None = outer.Function
around_subprogram meta (Some call) = around_call meta call

-- what is around a node, by what it is: a lexical block is in its scope
abbrev pub around_node : Maps → (inlined_at : Option ℕ) → Option BlockNode → Option SubprogramNode → Outer
around_node meta at (Some b) s = outer.Scope (record { node = b.scope; inlined_at = at })
around_node meta at None (Some s) = around_subprogram meta at
around_node meta at None None = outer.Unknown

-- what is around a node of a scope
abbrev pub around_scope : Maps → (inlined_at node : Option ℕ) → Outer
around_scope meta at None = outer.Unknown
around_scope meta at (Some n) = around_node meta at (block_at meta n) (subprogram_node_at meta n)

-- what is around a scope
abbrev pub around : Maps → LexicalScope → Outer
around meta s = around_scope meta s.inlined_at s.node

-- a subprogram is a scope of its own if it was inlined, and a block unless it is a DILexicalBlockFile
abbrev pub is_scope_by : (is_file : Bool) → (inlined_at : Option ℕ) → Option BlockNode → Bool
is_scope_by is_file at (Some b) = not is_file
is_scope_by is_file at None = is_some at

-- the node of a scope
abbrev pub is_scope_node : Maps → (is_file : ℕ → Bool) → (inlined_at node : Option ℕ) → Bool
is_scope_node meta is_file at None = false
is_scope_node meta is_file at (Some n) = is_scope_by (is_file n) at (block_at meta n)

-- whether a scope on a way is one of its own: neither the function's own subprogram nor a DILexicalBlockFile, which stands for the scope around it
abbrev pub is_scope : Maps → (is_file : ℕ → Bool) → LexicalScope → Bool
is_scope meta is_file s = is_scope_node meta is_file s.inlined_at s.node
