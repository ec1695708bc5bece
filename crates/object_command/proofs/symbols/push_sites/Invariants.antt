use Rattle.std.proofs.Common.{◌≡◌, ◌++◌, List, map, take, drop}
use Rattle.dwarf_line_table.specs.Files.{first_uses}
use Rattle.elf_object.specs.declared.symbols.Symbol.{Symbol}
use Rattle.object_command.specs.Object.{undefined_symbol, have_one_name, relocation_of}
use Rattle.object_command.proofs.symbols.push_sites.Given as goal

abbrev pub invariant-loop-site : goal.invariant-loop-site
invariant-loop-site l = record {
  named : l.names ≡ map (λ s. s.name) l.symbols;
  used : first_uses have_one_name l.symbols (map undefined_symbol (drop l.site-index l.sites))
      ≡ first_uses have_one_name l.fn.symbols (map undefined_symbol l.sites);
  made : (more : List Symbol) → l.relocations ≡ map (relocation_of (l.symbols ++ more)) (take l.site-index l.sites);
}
