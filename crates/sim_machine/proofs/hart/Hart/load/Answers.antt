use Rattle.std.proofs.Common.{◌≡◌, ℕ, ◌+◌, ◌%◌, ◌^◌, refl, ◌∙◌, ap, sym}
use Rattle.rv64_instr.specs.Arithmetic.{extended, load_width}
use Rattle.sem_mir.specs.State.{spelled}
use Rattle.sem_machine.specs.Machine.{address_of}
use Rattle.sem_machine.specs.MachineStep.{does_row}
use Rattle.sem_interpreter.specs.Memory.{number_in}
use Rattle.sim_machine.proofs.Rows.{sets}
use Rattle.sim_machine.proofs.hart.Hart.load.Goals as goal

pub returns-clause-stands : goal.returns-clause-stands
unfolding does_row
returns-clause-stands c = λ s h.
    let width = load_width c.args.op in
    let address = address_of s c.args.base c.args.offset in
    let held = number_in c.args.self.now.memory in
    let m : s.memory ≡ held = λ i a. h.memory a i in
    let at : (c.read.result + c.args.offset) % 2 ^ 64 ≡ address = ap (λ (x : ℕ). (x + c.args.offset) % 2 ^ 64) (c.read.ensures s h) in
    let n : c.spelled-number.result ≡ spelled s.memory address width =
    c.spelled-number.ensures.value ∙ (ap (λ (x : ℕ). spelled held x c.load_width.result) at
    ∙ (ap (λ (x : ℕ). spelled held address x) c.load_width.ensures ∙ sym (ap (λ (f : ℕ → ℕ). spelled f address width) m))) in
    sets _ _ _ _ _ s refl (c.extend.ensures ∙ ap (extended c.args.op) n) (c.set.ensures.stands s h)
