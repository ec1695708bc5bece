use Rattle.object_command.proofs.GlobalSymbols.{symbols_first, first_is}
use Rattle.object_command.proofs.laws.symbols_are_global.Goals as goal

pub returns-clause-first : goal.returns-clause-first
returns-clause-first c = symbols_first

pub returns-clause-info : goal.returns-clause-info
returns-clause-info c = first_is
