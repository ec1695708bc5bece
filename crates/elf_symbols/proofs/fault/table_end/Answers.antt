use Rattle.std.specs.Prelude.{false}
use Rattle.std.proofs.Common.{ap, sym, ◌∙◌, drop}
use Rattle.elf_symbols.specs.FirstFault.{unless, names_end, count_in, table_end}
use Rattle.elf_symbols.proofs.fault.table_end.Goals as goal

pub returns-in-Some : goal.returns-in-Some
unfolding table_end
returns-in-Some c =
    ap (λ f. unless f (names_end c.args.names.now 24 false 1 (count_in c.args.table.now) (drop 24 c.args.table.now)))
    (sym c.in-Some.is ∙ c.null_fault.ensures)

pub returns : goal.returns
unfolding table_end
returns c =
    c.names_end.ensures ∙ ap (λ n. names_end c.args.names.now 24 false 1 n (drop 24 c.args.table.now)) c.symbol_count-count.ensures.exact
    ∙ ap (λ f. unless f (names_end c.args.names.now 24 false 1 (count_in c.args.table.now) (drop 24 c.args.table.now)))
    (sym c.in_default.is ∙ c.null_fault.ensures)
