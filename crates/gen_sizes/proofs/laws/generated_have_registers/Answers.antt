use Rattle.gen_sizes.proofs.Registers.{generated_have_registers}
use Rattle.gen_sizes.proofs.laws.generated_have_registers.Goals as goal

pub returns : goal.returns
returns c = generated_have_registers
