use Rattle.std.proofs.Common.{sym, subst}
use Rattle.read_declarations.proofs.Limits.{IsLow, needed_low, negated_low}
use Rattle.read_declarations.proofs.fixed.integer.Goals as goal

pub signed-requires : goal.signed-requires
signed-requires c = record {
  number = subst IsLow (sym c.needed-number.ensures) (needed_low c.args.lines.now c.args.key.now c.args.fields.now);
  negated = subst IsLow (sym c.negated-negated.ensures) (negated_low c.args.lines.now c.args.key.now c.args.fields.now);
}
