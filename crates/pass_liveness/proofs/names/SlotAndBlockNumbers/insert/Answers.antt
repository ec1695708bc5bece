use Rattle.std.proofs.Common.{sym}
use Rattle.pass_liveness.proofs.Places.{place_added, unbitted}
use Rattle.pass_liveness.proofs.names.SlotAndBlockNumbers.insert.Goals as goal

pub returns-in-Some-bit : goal.returns-in-Some-bit
returns-in-Some-bit c = rw c.in-Some.is (λ there. place_added c.args.self.now.slots c.args.self.now.few c.args.set.now c.insert.new.self c.in-Some.place
    c.in-Some-bit.bit (sym c.in-Some-bit.ensures.bit) c.insert.ensures)

pub returns-in_default-bit : goal.returns-in_default-bit
returns-in_default-bit c = rw c.in-Some.is (λ there. unbitted c.args.self.now.slots c.args.set.now c.in-Some.place (sym c.in_default-bit.ensures.bit) there)
