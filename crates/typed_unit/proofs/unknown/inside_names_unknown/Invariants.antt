use Rattle.std.proofs.Common.{◌≡◌, drop}
use Rattle.std.specs.List.{list_any}
use Rattle.typed_unit.specs.Unknown.{inner_names_unknown}
use Rattle.typed_unit.proofs.unknown.inside_names_unknown.Given as goal

abbrev pub invariant-loop-item : goal.invariant-loop-item
invariant-loop-item l =
    list_any (inner_names_unknown l.t.stands.items l.t.sizes.items) (drop l.item-index l.inside)
    ≡ list_any (inner_names_unknown l.t.stands.items l.t.sizes.items) l.inside
