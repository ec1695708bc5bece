use Rattle.std.proofs.Common.{◌≡◌, drop}
use Rattle.type_entries.specs.Types.{types_name_unknown}
use Rattle.type_entries.proofs.all_types.some_name_unknown.Given as goal

abbrev pub invariant-loop-i : goal.invariant-loop-i
invariant-loop-i l =
    types_name_unknown l.t.stands.items l.t.sizes.items l.i (drop l.i l.types)
    ≡ types_name_unknown l.t.stands.items l.t.sizes.items 0 l.types
