use Rattle.std.proofs.Common.{◌≡◌, ◌++◌, List, map, take, drop}
use Rattle.dwarf_line_table.specs.Files.{first_uses}
use Rattle.elf_object.specs.declared.symbols.Symbol.{Symbol}
use Rattle.object_command.specs.Object.{have_one_name}
use Rattle.linkable_command.specs.Symbols.{undefined_symbol, relocation_by}
use Rattle.linkable_command.proofs.symbols.push_references.Given as goal

abbrev pub invariant-loop-reference : goal.invariant-loop-reference
invariant-loop-reference l = record {
  named : l.names ≡ map (λ s. s.name) l.symbols;
  used : first_uses have_one_name l.symbols (map undefined_symbol (drop l.reference-index l.referred))
      ≡ first_uses have_one_name l.fn.symbols (map undefined_symbol l.referred);
  made : (more : List Symbol) → l.relocations ≡ map (relocation_by l.before (l.symbols ++ more)) (take l.reference-index l.referred);
}
