use Rattle.std.proofs.Common.{◌≡◌, refl, ◌∙◌, ap, pos, rules}
use Rattle.std.specs.Prelude.{◌*ℤ◌}
use Rattle.rv64_instr.specs.Arithmetic.{word, extend32}
use Rattle.rv64_instr.specs.Row as row
use Rattle.sem_machine.specs.MachineStep.{does_row}
use Rattle.sim_machine.proofs.Rows.{sets}
use Rattle.sim_machine.proofs.hart.Hart.load_upper.Goals as goal

pub returns-clause-stands : goal.returns-clause-stands
unfolding does_row
returns-clause-stands c = λ s h.
    let v : c.extend32.result ≡ extend32 (word (c.args.imm *ℤ pos 4096)) = c.extend32.ensures ∙ ap extend32 (search rules) in
    sets c.set.new.self (does_row (row.Fixes c.args.rd (extend32 (word (c.args.imm *ℤ pos 4096)))) s) c.args.rd
    (extend32 (word (c.args.imm *ℤ pos 4096))) c.extend32.result s refl v (c.set.ensures.stands s h)
