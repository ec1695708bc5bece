use Rattle.std.proofs.Common.{◌≡◌, drop}
use Rattle.std.specs.List.{list_any}
use Rattle.typed_unit.specs.Unknown.{function_names_unknown}
use Rattle.typed_unit.proofs.unknown.functions_name_unknown.Given as goal

abbrev pub invariant-loop-f : goal.invariant-loop-f
invariant-loop-f l =
    list_any (function_names_unknown l.t.types l.t.stands.items l.t.sizes.items) (drop l.f-index l.functions)
    ≡ list_any (function_names_unknown l.t.types l.t.stands.items l.t.sizes.items) l.functions
