use Rattle.std.proofs.Common.{ap, sym, ◌∙◌}
use Rattle.elf_symbols.specs.FirstFault.{in_names, in_either}
use Rattle.elf_symbols.proofs.fault.first_fault.Goals as goal

pub returns-in-Err : goal.returns-in-Err
returns-in-Err c = sym (ap (λ r. in_either r c.args.names.now) (sym c.table_end.ensures ∙ c.in-Err.is))

pub returns-in-Ok : goal.returns-in-Ok
returns-in-Ok c =
    c.in_names.ensures ∙ ap in_names c.names_fault.ensures
    ∙ sym (ap (λ r. in_either r c.args.names.now) (sym c.table_end.ensures ∙ c.in-Ok.is))
