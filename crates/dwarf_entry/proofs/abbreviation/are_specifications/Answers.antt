use Rattle.std.proofs.Common.{arith}
use Rattle.dwarf_entry.proofs.Declarations.{other_lengths}
use Rattle.dwarf_entry.proofs.abbreviation.are_specifications.Goals as goal

pub returns-then-specifications-attributes : goal.returns-then-specifications-attributes
returns-then-specifications-attributes c = other_lengths c.args.specifications.now c.args.attributes.now (λ e. omega (arith, e))
