use Rattle.std.proofs.Common.{subst}
use Rattle.std.proofs.lemmas.Result.{err_from_is_err_and}
use Rattle.dwarf_frame.specs.steps.Gives.{Gives}
use Rattle.dwarf_frame.proofs.ReadLoops.{fields_end, fields_fault}
use Rattle.dwarf_frame.proofs.read.after_fields.Goals as goal

pub returns-in_err-nops : goal.returns-in_err-nops
returns-in_err-nops c =
    let p = err_from_is_err_and c.from_residual-in_err-nops.result c.from_residual-in_err-nops.ensures.1 in
    rw (p.1, p.2)
    (fields_fault c.args.undefined.now c.args.bytes.now c.in_ok-opcodes.opcodes.now _ c.in_ok-opcodes.ensures c.in_err-nops.ensures)

pub returns : goal.returns
returns c =
    subst (Gives (λ x. x.now) c.constants-2.result)
    (fields_end c.args.undefined.now c.args.bytes.now c.in_ok-opcodes.opcodes.now c.in_ok-nops.nops.now _ c.in_ok-opcodes.ensures
    c.in_ok-nops.ensures c.split_at.ensures.front) c.constants-2.ensures
