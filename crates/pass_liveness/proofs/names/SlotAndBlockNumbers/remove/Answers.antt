use Rattle.std.proofs.Common.{sym}
use Rattle.pass_liveness.proofs.Places.{place_removed, placeless}
use Rattle.pass_liveness.proofs.names.SlotAndBlockNumbers.remove.Goals as goal

pub returns-in-Some-bit : goal.returns-in-Some-bit
returns-in-Some-bit c = rw c.in-Some.is (place_removed c.args.self.now.slots c.args.self.now.few c.args.set.now c.remove.new.self c.in-Some.place
    c.in-Some-bit.bit (sym c.in-Some-bit.ensures.bit) c.remove.ensures)

pub returns-in_default-bit : goal.returns-in_default-bit
returns-in_default-bit c = rw c.in-Some.is (placeless c.args.self.now.slots c.args.set.now c.in-Some.place (sym c.in_default-bit.ensures.bit))
