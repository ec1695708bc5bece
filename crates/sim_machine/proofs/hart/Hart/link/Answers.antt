use Rattle.std.proofs.Common.{◌≡◌, ℕ, ◌+◌, ◌%◌, ◌^◌, refl, ap, sym, arith}
use Rattle.sim_machine.proofs.Rows.{links}
use Rattle.sim_machine.proofs.hart.Hart.link.Goals as goal

pub returns-clause-stands : goal.returns-clause-stands
returns-clause-stands c = λ s h.
    let link : c.args.self.now.counter + 4 ≡ (s.counter + 4) % 2 ^ 64 = omega (arith, h.counter, c.requires.low) in
    links _ c.args.rd _ _ _ _ s (ap (λ (n : ℕ). (n + c.args.offset) % 2 ^ 64) (sym h.counter)) refl link (c.jump.ensures.stands _ (c.write.ensures.stands s h))
