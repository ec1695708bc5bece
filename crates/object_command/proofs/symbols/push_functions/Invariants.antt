use Rattle.std.proofs.Common.{◌≡◌, map, drop}
use Rattle.dwarf_line_table.specs.Files.{first_uses}
use Rattle.object_command.specs.Object.{defined_symbol, have_one_name}
use Rattle.object_command.proofs.symbols.push_functions.Given as goal

abbrev pub invariant-loop-function : goal.invariant-loop-function
invariant-loop-function l = record {
  named : l.names ≡ map (λ s. s.name) l.symbols;
  used : first_uses have_one_name l.symbols (map defined_symbol (drop l.function-index l.functions))
      ≡ first_uses have_one_name l.fn.symbols (map defined_symbol l.functions);
}
