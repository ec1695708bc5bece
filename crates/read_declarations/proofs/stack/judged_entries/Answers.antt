use Rattle.std.proofs.Common.{[], ap, ◌∙◌}
use Rattle.read_declarations.specs.declared.entry.MappingEntry.{MappingEntry}
use Rattle.read_declarations.specs.Stack.{stack_entry_of, judged}
use Rattle.read_declarations.proofs.Walks.{stack_more, stack_whole}
use Rattle.read_declarations.proofs.stack.judged_entries.Goals as goal

-- an entry that stands for none
none : MappingEntry
none = record { line = 0; fields = [] }

pub loop-entry-preserved : goal.loop-entry-preserved
loop-entry-preserved c =
    let here = c.entry-item.result in
    record {
      read = stack_more c.args.lines.now c.as_slice-entry-items.result.now c.loop-entry.entry-index here c.loop-entry.read c.judge.new.read
          c.loop-entry-test.true c.entry-item.is c.loop-entry.invariant.read
          (c.in_ok-judge.ensures.read ∙ ap (judged c.loop-entry.read here.line) (c.stack_entry-judged.ensures
          ∙ ap (stack_entry_of c.args.lines.now) c.as_slice.ensures));
      ids = c.in_ok-judge.ensures.ids;
    }

pub returns : goal.returns
returns c = stack_whole c.args.lines.now c.as_slice-entry-items.result.now c.loop-entry.entry-index none c.loop-entry.read c.loop-entry-test.false
    c.loop-entry.invariant.read
