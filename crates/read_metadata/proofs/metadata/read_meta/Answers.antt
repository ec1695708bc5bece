use Rattle.read_metadata.specs.Metadata.{metadata_of}
use Rattle.read_metadata.proofs.Lines.{next_line}
use Rattle.read_metadata.proofs.metadata.read_meta.Goals as goal

pub loop-line-init : goal.loop-line-init
unfolding metadata_of
loop-line-init c = c.new-metadata.ensures

pub loop-line-preserved : goal.loop-line-preserved
loop-line-preserved c =
    next_line c.args.lines.now c.as_slice-line-items.result.now c.loop-line.line-index c.line-item.result c.loop-line.metadata c.take_line.new.self
    c.as_slice.result.now c.as_slice-line-items.ensures c.loop-line-test.true c.line-item.is c.as_slice.ensures c.loop-line.invariant
    c.in_ok-take_line.ensures
