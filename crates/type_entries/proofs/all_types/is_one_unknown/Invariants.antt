use Rattle.std.proofs.Common.{◌≡◌, ℕ, Bool, Some, not, drop}
use Rattle.std.specs.List.{list_any}
use Rattle.type_entries.specs.Entries.{is_known}
use Rattle.type_entries.proofs.all_types.is_one_unknown.Given as goal

abbrev pub invariant-loop-index : goal.invariant-loop-index
invariant-loop-index l =
    list_any (λ n. not (is_known l.t.stands.items l.t.sizes.items (Some n))) (drop l.index-index l.parameters)
    ≡ list_any (λ n. not (is_known l.t.stands.items l.t.sizes.items (Some n))) l.parameters
