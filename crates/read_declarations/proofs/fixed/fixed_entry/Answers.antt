use Rattle.std.proofs.Common.{sym, subst}
use Rattle.std.specs.Prelude.{codes}
use Rattle.read_declarations.proofs.Limits.{IsLow, needed_low}
use Rattle.read_declarations.proofs.fixed.fixed_entry.Goals as goal

pub fixed_with-requires : goal.fixed_with-requires
fixed_with-requires c = subst IsLow (sym c.needed-number.ensures) (needed_low c.args.lines.now (codes "id") c.args.fields.now)
