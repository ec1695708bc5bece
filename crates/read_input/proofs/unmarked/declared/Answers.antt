use Rattle.std.proofs.Common.{sym, Ok}
use Rattle.read_program.proofs.Soundness.{declared_entries}
use Rattle.read_input.proofs.unmarked.declared.Goals as goal

pub returns-in-Ok-clause-entries : goal.returns-in-Ok-clause-entries
returns-in-Ok-clause-entries c = declared_entries c.args.document.now (Ok c.in-Ok.declared) (sym c.in-Ok.ensures)
