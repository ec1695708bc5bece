use Rattle.std.specs.Option.{option_copied}
use Rattle.dwarf_loclists.specs.steps.Reader.{ListsRead}
use Rattle.dwarf_loclists.proofs.list_reader.read_lists.Given as goal

abbrev pub invariant-loop-number : goal.invariant-loop-number
invariant-loop-number l = ListsRead l.bytes l.count l.number l.k l.address (option_copied l.found) l.table l.rest
