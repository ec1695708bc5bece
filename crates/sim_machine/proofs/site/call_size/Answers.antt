use Rattle.std.proofs.Common.{Bool, cond, ap, ◌∙◌}
use Rattle.rv64_instr.specs.Row.{row_of}
use Rattle.sim_machine.proofs.Sites.{call_bytes}
use Rattle.sim_machine.proofs.site.call_size.Goals as goal

pub returns-clause-size : goal.returns-clause-size
returns-clause-size c = λ site e.
    let row = row_of c.args.i.now in
    c.bytes.ensures.size ∙ ap (λ (b : Bool). cond b 8 4) (c.has_site.ensures row c.decoded.ensures.row) ∙ call_bytes row site e
