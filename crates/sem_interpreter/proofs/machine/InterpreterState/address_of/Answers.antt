use Rattle.std.proofs.Common.{ℕ, ap, refl, ◌+◌, ◌%◌, ◌^◌}
use Rattle.sem_interpreter.proofs.Rows.{sets_so, addresses_so}
use Rattle.sem_interpreter.proofs.machine.InterpreterState.address_of.Goals as goal

pub returns : goal.returns
returns c =
    sets_so c.args.self.now c.write.new.self _ c.args.rd _ (λ p. refl) c.write.ensures
    (λ s holds. addresses_so c.args.rd c.args.n c.args.offset _ s (ap (λ (x : ℕ). (x + c.args.offset) % 2 ^ 64) (c.object_address.ensures s holds)))
