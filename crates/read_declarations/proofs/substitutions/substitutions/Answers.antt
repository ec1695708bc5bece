use Rattle.std.proofs.Common.{[], ap, ◌∙◌}
use Rattle.read_declarations.specs.declared.entry.MappingEntry.{MappingEntry}
use Rattle.read_declarations.specs.Substitutions.{substitution_of, substituted}
use Rattle.read_declarations.proofs.Walks.{substitutions_more, substitutions_whole}
use Rattle.read_declarations.proofs.substitutions.substitutions.Goals as goal

-- an entry that stands for none
none : MappingEntry
none = record { line = 0; fields = [] }

pub loop-entry-preserved : goal.loop-entry-preserved
loop-entry-preserved c =
    let here = c.entry-item.result in
    substitutions_more c.args.lines.now c.as_slice-entry-items.result.now c.loop-entry.entry-index here c.loop-entry.read c.judge.new.read
    c.loop-entry-test.true c.entry-item.is c.loop-entry.invariant
    (c.in_ok-judge.ensures ∙ ap (substituted c.loop-entry.read here.line) (c.substitution_in-said.ensures
    ∙ ap (substitution_of c.args.lines.now) c.as_slice.ensures))

pub returns : goal.returns
returns c = substitutions_whole c.args.lines.now c.as_slice-entry-items.result.now c.loop-entry.entry-index none c.loop-entry.read c.loop-entry-test.false
    c.loop-entry.invariant
