use Rattle.std.proofs.Common.{◌≡◌, ℕ, ◌+◌, ◌%◌, ◌^◌, sym, ap, ◌∙◌}
use Rattle.sem_mir.specs.State.{spelled}
use Rattle.sem_machine.specs.Machine.{address_of}
use Rattle.sem_interpreter.specs.Memory.{number_in}
use Rattle.sim_machine.proofs.hart.Hart.word_at.Goals as goal

pub returns : goal.returns
returns c = λ s h.
    let held = number_in c.args.self.now.memory in
    let m : s.memory ≡ held = λ i a. h.memory a i in
    let at : (c.read.result + c.args.offset) % 2 ^ 64 ≡ address_of s 2 c.args.offset =
    ap (λ (x : ℕ). (x + c.args.offset) % 2 ^ 64) (c.read.ensures s h) in
    c.spelled.ensures.value ∙ (ap (λ (x : ℕ). spelled held x 8) at ∙ sym (ap (λ (f : ℕ → ℕ). spelled f (address_of s 2 c.args.offset) 8) m))
