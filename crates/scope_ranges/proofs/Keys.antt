-- What keys of two nodes are seen as: a test of keys is one of scopes.
use Rattle.std.proofs.Common.{◌≡◌, ℕ, Bool, ◌&&◌, List, map, refl, sym, ◌∙◌, ap, nat_eq}
use Rattle.std.specs.Prelude.{Option}
use Rattle.std.specs.List.{position_or_len}
use Rattle.std.specs.Option.{option_eq}
use Rattle.indexmap.specs.IndexSet.{insert_key}
use Rattle.dwarf_line_table.specs.Files.{with_new}
use Rattle.dwarf_line_table.proofs.Keys.{insert_map, position_map}
use Rattle.scope_ways.specs.declared.scope.LexicalScope.{LexicalScope}
use Rattle.scope_ways.specs.Ways.{is_same}
use Rattle.scope_ranges.specs.steps.Keys.{seen}

abbrev pub is_key : Option ℕ × Option ℕ → Option ℕ × Option ℕ → Bool
is_key x y = option_eq nat_eq x.0 y.0 && option_eq nat_eq x.1 y.1

pub key_known : (keys joined : List (Option ℕ × Option ℕ)) (known : List LexicalScope) (k : Option ℕ × Option ℕ) (s : LexicalScope) → known ≡ map seen keys
    → joined ≡ insert_key is_key keys k → seen k ≡ s → map seen joined ≡ with_new is_same known s
key_known keys joined known k s are e is =
    ap (map seen) e ∙ insert_map seen is_key is_same (λ x y. refl) keys k ∙ (λ i. with_new is_same (sym are i) (is i))

pub key_number : (keys : List (Option ℕ × Option ℕ)) (known : List LexicalScope) (k : Option ℕ × Option ℕ) (s : LexicalScope) → known ≡ map seen keys
    → seen k ≡ s → position_or_len (is_key k) keys ≡ position_or_len (is_same s) known
key_number keys known k s are is =
    position_map seen (is_key k) (is_same (seen k)) (λ x. refl) keys ∙ (λ i. position_or_len (is_same (is i)) (sym are i))
