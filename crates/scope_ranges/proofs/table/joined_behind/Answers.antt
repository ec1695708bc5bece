use Rattle.std.proofs.Common.{◌≡◌, List, ◌∷◌, ◌++◌, [], ap, ◌∙◌}
use Rattle.std.specs.Prelude.{IfOk}
use Rattle.std.proofs.lemmas.Result.{IfOk-weaker}
use Rattle.dwarf_rnglists.specs.declared.range.AddressRange.{AddressRange}
use Rattle.scope_ranges.proofs.Steps.{joined_touching, joined_apart}
use Rattle.scope_ranges.proofs.table.joined_behind.Goals as goal

pub returns-then-last-addresses : goal.returns-then-last-addresses
returns-then-last-addresses c =
    let last = c.args.last.now in
    let addresses = c.args.addresses.now in
    IfOk-weaker c.pushed.result _ _
    (λ (now : List AddressRange) e. e ∙ joined_touching c.args.before.items last addresses.lo addresses.hi c.if-last-addresses.true) c.pushed.ensures

pub returns-else-last-addresses : goal.returns-else-last-addresses
returns-else-last-addresses c =
    let before = c.args.before.items in
    let last = c.args.last.now in
    let addresses = c.args.addresses.now in
    IfOk-weaker c.both_pushed.result _ _
    (λ (now : List AddressRange) e.
    e ∙ joined_apart before last addresses.lo addresses.hi c.if-last-addresses.false)
    c.both_pushed.ensures
