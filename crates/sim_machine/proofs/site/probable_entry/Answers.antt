use Rattle.std.proofs.Common.{ap}
use Rattle.emit_code.specs.Laid.{LaidCode}
use Rattle.sim_machine.proofs.Sites.{entry_found}
use Rattle.sim_machine.proofs.site.probable_entry.Goals as goal

pub returns-then-entry-address-clause-found : goal.returns-then-entry-address-clause-found
returns-then-entry-address-clause-found c =
    entry_found _ _ c.code.inside.entries c.as_slice-entries.result.now c.args.code.now.entries c.index-i.result.now c.index-entries-i.result c.args.address
    c.code.invariant.stand c.as_slice-entries.ensures (ap (λ (x : LaidCode). x.entries) c.code.view_is) c.if-i-entries.true c.index-entries-i.is
    c.if-entry-address.true
