use Rattle.std.proofs.Common.{◌≡◌, nat_cmp}
use Rattle.std.specs.BTreeSet.{contains}
use Rattle.dwarf_line_table.specs.Program.{function_end}
use Rattle.scope_ranges.specs.steps.Entered.{places}
use Rattle.scope_ranges.proofs.Walked.{IsWalked}
use Rattle.scope_ranges.proofs.scopes.scopes.Given as goal

abbrev pub invariant-loop-entry : goal.invariant-loop-entry
invariant-loop-entry l = record {
  known : l.table.known ≡ places l.table.scopes.items;
  walked : IsWalked l.meta (contains nat_cmp l.files) l.function.source.now.blocks l.function.code.now.entries (function_end l.function) l.entry-index
      l.table.scopes.items;
}
