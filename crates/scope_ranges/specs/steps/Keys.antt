-- The scope that a key of two nodes stands for.
use Rattle.std.specs.Prelude.{ℕ, Option}
use Rattle.scope_ways.specs.declared.scope.LexicalScope.{LexicalScope}

abbrev pub seen : Option ℕ × Option ℕ → LexicalScope
seen k = record { node = k.0; inlined_at = k.1 }
