use Rattle.std.proofs.Common.{arith, refl}
use Rattle.std.proofs.lemmas.Bool.{true≢false}
use Rattle.dwarf_frame.proofs.WriteLoops.{size_done}
use Rattle.dwarf_frame.proofs.size.frame_size.Goals as goal

pub returns-then-size-lt-SECTION_LIMIT-clause-none : goal.returns-then-size-lt-SECTION_LIMIT-clause-none
returns-then-size-lt-SECTION_LIMIT-clause-none c =
    let size = size_done c.args.undefined.now _ _ _ c.loop-function-test.false c.loop-function.invariant in
    (λ none. absurd (true≢false none), λ large. absurd (omega (arith, size, large, c.if-size-lt-SECTION_LIMIT.true)))

pub returns-then-size-lt-SECTION_LIMIT-clause-size : goal.returns-then-size-lt-SECTION_LIMIT-clause-size
returns-then-size-lt-SECTION_LIMIT-clause-size c =
    omega (arith, size_done c.args.undefined.now _ _ _ c.loop-function-test.false c.loop-function.invariant, c.if-size-lt-SECTION_LIMIT.true)

pub returns-else-size-lt-SECTION_LIMIT-clause-none : goal.returns-else-size-lt-SECTION_LIMIT-clause-none
returns-else-size-lt-SECTION_LIMIT-clause-none c =
    let size = size_done c.args.undefined.now _ _ _ c.loop-function-test.false c.loop-function.invariant in
    (λ none. omega (arith, size, c.if-size-lt-SECTION_LIMIT.false), λ large. refl)
