use Rattle.std.proofs.Common.{◌≡◌, ℕ, ◌+◌, ◌%◌, ◌^◌, ◌/◌, ◌*◌, ap, arith}
use Rattle.sim_machine.proofs.Rows.{links_to}
use Rattle.sim_machine.proofs.hart.Hart.link_to.Goals as goal

pub returns-clause-stands : goal.returns-clause-stands
returns-clause-stands c = λ s h.
    let link : c.args.self.now.counter + 4 ≡ (s.counter + 4) % 2 ^ 64 = omega (arith, h.counter, c.requires.low) in
    links_to _ c.args.rd _ _ _ s (ap (λ (x : ℕ). (x + c.args.offset) % 2 ^ 64 / 2 * 2) (c.read.ensures s h)) link
    (c.jump.ensures.stands _ (c.write.ensures.stands s h))
