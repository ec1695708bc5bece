use Rattle.std.proofs.Common.{◌∙◌}
use Rattle.read_item.proofs.Named.{named_op}
use Rattle.read_item.proofs.opcode.op_named.Goals as goal

pub returns : goal.returns
returns c = c.if_read.ensures ∙ named_op c.args.linked c.args.name.now _ c.from_mnemonic.ensures.found c.from_mnemonic.ensures.only
