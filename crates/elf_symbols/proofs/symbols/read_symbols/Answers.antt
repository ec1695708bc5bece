use Rattle.std.proofs.Common.{List, arith, sym, subst, ◌∙◌}
use Rattle.elf_object.specs.declared.symbols.Symbol.{Symbol}
use Rattle.elf_object.specs.Symbols.{AreSymbols}
use Rattle.elf_object.proofs.OneTable.{one_symbols}
use Rattle.elf_symbols.proofs.SymbolRight.{right_symbols}
use Rattle.elf_symbols.proofs.RightSymbols.{no_first_fault, no_fault_there}
use Rattle.elf_symbols.proofs.symbols.read_symbols.Goals as goal

pub returns-in-Some-clause-only : goal.returns-in-Some-clause-only
returns-in-Some-clause-only c = λ ss are.
    absurd (no_fault_there _ c.in-Some.fault (sym c.first_fault.ensures ∙ c.in-Some.is) (no_first_fault c.args.table.now c.args.names.now ss are))

pub returns-in_ok-all_symbols-in-None-clause-symbols : goal.returns-in_ok-all_symbols-in-None-clause-symbols
returns-in_ok-all_symbols-in-None-clause-symbols c =
    subst (λ (ss : List Symbol). AreSymbols ss c.args.table.now c.args.names.now) (sym c.in_ok-all_symbols-in-None.ensures)
    (right_symbols c.args.table.now c.args.names.now (λ i. omega (arith, c.type_inv.table i)) (sym c.first_fault.ensures ∙ c.in-None.is))

pub returns-in_ok-all_symbols-in-None-clause-only : goal.returns-in_ok-all_symbols-in-None-clause-only
returns-in_ok-all_symbols-in-None-clause-only c = λ ss are.
    one_symbols c.args.table.now c.args.names.now _ ss (returns-in_ok-all_symbols-in-None-clause-symbols c) are
