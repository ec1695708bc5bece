use Rattle.std.proofs.Common.{◌≡◌, map, drop}
use Rattle.dwarf_line_table.specs.Files.{first_uses}
use Rattle.object_command.specs.Object.{have_one_name}
use Rattle.linkable_command.specs.Symbols.{bound_symbols}
use Rattle.linkable_command.proofs.functions.push_bound.Given as goal

abbrev pub invariant-loop-function : goal.invariant-loop-function
invariant-loop-function l = record {
  named : l.names ≡ map (λ s. s.name) l.symbols;
  used : first_uses have_one_name l.symbols (bound_symbols l.local l.linkages (drop l.function-index l.functions))
      ≡ first_uses have_one_name l.fn.symbols (bound_symbols l.local l.linkages l.functions);
}
