use Rattle.std.proofs.Common.{◌∙◌}
use Rattle.elf_object.proofs.FaultLoops.{ones_fit, zeros_are}
use Rattle.elf_object.proofs.fault.zeros.Goals as goal

pub constants-requires-clause-right : goal.constants-requires-clause-right
constants-requires-clause-right c = ones_fit c.padding-n.result c.padding-n.ensures.within

pub returns : goal.returns
returns c = c.constants.ensures ∙ zeros_are c.args.at c.padding-n.result c.args.bytes.now c.padding-n.ensures.exact c.padding-n.ensures.within
