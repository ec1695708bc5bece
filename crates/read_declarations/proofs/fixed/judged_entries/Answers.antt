use Rattle.std.proofs.Common.{[], ap, ◌∙◌}
use Rattle.read_declarations.specs.declared.entry.MappingEntry.{MappingEntry}
use Rattle.read_declarations.specs.Fixed.{fixed_entry_of, fixed_judged}
use Rattle.read_declarations.proofs.Walks.{fixed_more, fixed_whole}
use Rattle.read_declarations.proofs.fixed.judged_entries.Goals as goal

-- an entry that stands for none
none : MappingEntry
none = record { line = 0; fields = [] }

pub loop-entry-preserved : goal.loop-entry-preserved
loop-entry-preserved c =
    let here = c.entry-item.result in
    record {
      read = fixed_more c.args.lines.now c.as_slice-entry-items.result.now c.loop-entry.entry-index here c.args.room c.loop-entry.read c.judge.new.read
          c.loop-entry-test.true c.entry-item.is c.loop-entry.invariant.read
          (c.in_ok-judge.ensures.read ∙ ap (fixed_judged c.args.room c.loop-entry.read here.line) (c.fixed_entry-judged.ensures
          ∙ ap (fixed_entry_of c.args.lines.now) c.as_slice.ensures));
      known = c.in_ok-judge.ensures.known;
    }

pub returns : goal.returns
returns c = fixed_whole c.args.lines.now c.as_slice-entry-items.result.now c.loop-entry.entry-index none c.args.room c.loop-entry.read
    c.loop-entry-test.false c.loop-entry.invariant.read
