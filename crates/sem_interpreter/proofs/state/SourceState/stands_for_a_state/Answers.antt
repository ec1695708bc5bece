use Rattle.std.proofs.Common.{◌≡◌, Some, None, subst}
use Rattle.std.specs.Prelude.{slice_index_or}
use Rattle.sem_interpreter.specs.StandsFor.{Concrete}
use Rattle.sem_interpreter.proofs.Again.{a_state}
use Rattle.sem_interpreter.proofs.state.SourceState.stands_for_a_state.Goals as goal

pub returns : goal.returns
returns c = a_state c.args.self.now (subst (λ (x : Concrete). slice_index_or x.machine.registers 0 None ≡ Some 0) c.self.view_is c.hold_zero.ensures)
