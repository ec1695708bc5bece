use Rattle.std.proofs.Common.{sym, ◌∙◌}
use Rattle.std.proofs.lemmas.Bool.{false≢true}
use Rattle.compile_passes.proofs.Scan.{gets_registers, leaves_virtual}
use Rattle.compile_passes.proofs.passed.with_registers.Goals as goal

pub returns-then-is_physical-clause-registers : goal.returns-then-is_physical-clause-registers
returns-then-is_physical-clause-registers c =
    gets_registers c.args.source.now c.args.reserve.now c.in_ok-allocated.allocated.function c.in_ok-allocated.allocated.substitutions
    c.in_ok-allocated.allocated.losses c.in_ok-allocated.ensures (c.is_physical.ensures.0 c.if-is_physical.true)

pub returns-else-is_physical-clause-no_register : goal.returns-else-is_physical-clause-no_register
returns-else-is_physical-clause-no_register c is =
    leaves_virtual c.args.source.now c.args.reserve.now c.in_ok-allocated.allocated.function c.in_ok-allocated.allocated.substitutions
    c.in_ok-allocated.allocated.losses c.in_ok-allocated.ensures
    (λ physical. absurd (false≢true (sym c.if-is_physical.false ∙ c.is_physical.ensures.1 physical)))
