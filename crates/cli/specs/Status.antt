-- The exit codes of the program.
use Rattle.std.specs.Prelude.{ℕ}
use Rattle.cli.specs.declared.status.Status.{Status}
use Rattle.cli.specs.declared.status.Status.TheVariants.{Done, Refused, Usage, Memory, ReadFault, WriteFault}

-- the exit code of a status
abbrev pub number_of : Status → ℕ
number_of Done = 0
number_of Refused = 1
number_of Usage = 2
number_of Memory = 3
number_of ReadFault = 4
number_of WriteFault = 5
