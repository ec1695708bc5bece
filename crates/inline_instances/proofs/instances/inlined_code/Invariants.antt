use Rattle.dwarf_line_table.specs.Program.{function_end}
use Rattle.inline_instances.proofs.Walked.{IsWalked}
use Rattle.inline_instances.proofs.instances.inlined_code.Given as goal

abbrev pub invariant-loop-entry : goal.invariant-loop-entry
invariant-loop-entry l = IsWalked l.meta l.function.source.now.blocks l.function.code.now.entries (function_end l.function)
    l.entry-index l.table l.ranges l.inside
