use Rattle.std.proofs.Common.{◌≡◌, map, take, false}
use Rattle.emit_code.specs.Rule.{sites_from}
use Rattle.emit_code.specs.steps.Spans.{site_span}
use Rattle.emit_code.proofs.span.short_spans.Given as goal

abbrev pub invariant-loop-block : goal.invariant-loop-block
invariant-loop-block l = l.spans ≡ map (site_span l.blocks (λ p. false)) (sites_from 0 (take l.block-index l.blocks))
