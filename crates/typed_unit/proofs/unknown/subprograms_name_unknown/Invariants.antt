use Rattle.std.proofs.Common.{◌≡◌, drop}
use Rattle.std.specs.List.{list_any}
use Rattle.typed_unit.specs.Unknown.{subprogram_names_unknown}
use Rattle.typed_unit.proofs.unknown.subprograms_name_unknown.Given as goal

abbrev pub invariant-loop-s : goal.invariant-loop-s
invariant-loop-s l =
    list_any (subprogram_names_unknown l.t.types l.t.stands.items l.t.sizes.items) (drop l.s-index l.subprograms)
    ≡ list_any (subprogram_names_unknown l.t.types l.t.stands.items l.t.sizes.items) l.subprograms
