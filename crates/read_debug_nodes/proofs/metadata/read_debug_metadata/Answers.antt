use Rattle.std.proofs.Common.{◌≤◌, List, length, ap, subst}
use Rattle.read_metadata.specs.read_lexer.declared.line.Line.{Line}
use Rattle.read_debug_nodes.specs.Maps.{DebugMaps}
use Rattle.read_debug_nodes.specs.Metadata.{with_lines}
use Rattle.read_debug_nodes.proofs.Maps.{next_line, no_line}
use Rattle.read_debug_nodes.proofs.metadata.read_debug_metadata.Goals as goal

pub loop-line-init : goal.loop-line-init
loop-line-init c = ap (λ (m : DebugMaps). with_lines m c.args.lines.now) c.new-metadata.ensures

pub loop-line-preserved : goal.loop-line-preserved
loop-line-preserved c =
    next_line c.args.lines.now c.as_slice-line-items.result.now c.loop-line.line-index c.line-item.result c.loop-line.metadata c.take_line.new.self
    c.as_slice.result.now c.as_slice-line-items.ensures c.loop-line-test.true c.line-item.is c.as_slice.ensures c.loop-line.invariant
    c.in_ok-take_line.ensures

pub returns : goal.returns
returns c = no_line c.args.lines.now c.loop-line.line-index c.loop-line.metadata
    (subst (λ (xs : List Line). length xs ≤ c.loop-line.line-index) c.as_slice-line-items.ensures c.loop-line-test.false) c.loop-line.invariant
