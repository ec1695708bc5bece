use Rattle.std.proofs.Common.{◌≡◌, ℕ, List, length, arith, ap, ◌∙◌, refl}
use Rattle.sized_lists.specs.Spelling.{spelling}
use Rattle.sized_lists.proofs.Sections.{AreWritten, all_written, assembled, large_front, length-spelling}
use Rattle.sized_lists.proofs.section.write_sized_lists.Goals as goal

pub returns-then-count-ge-LIST_LIMIT-clause-none : goal.returns-then-count-ge-LIST_LIMIT-clause-none
returns-then-count-ge-LIST_LIMIT-clause-none c = λ _. omega (arith, length-spelling c.args.lists.now, c.if-count-ge-LIST_LIMIT.true)

pub returns-then-offset-ge-SECTION_LIMIT-clause-none : goal.returns-then-offset-ge-SECTION_LIMIT-clause-none
returns-then-offset-ge-SECTION_LIMIT-clause-none c = λ _.
    omega (
      arith,
      large_front c.args.lists.now c.loop-list.list-index c.loop-list.bodies.items c.loop-list.invariant.bodies,
      c.len.ensures,
      c.if-offset-ge-SECTION_LIMIT.true,
    )

pub returns-then-size-ge-SECTION_LIMIT-clause-none : goal.returns-then-size-ge-SECTION_LIMIT-clause-none
returns-then-size-ge-SECTION_LIMIT-clause-none c = λ _.
    let written : AreWritten c.args.lists.now c.loop-list.offsets.items c.loop-list.bodies.items =
    all_written c.args.lists.now c.loop-list.list-index _ c.loop-list.offsets.items c.loop-list.bodies.items c.loop-list-test.false
    c.loop-list.invariant.offsets c.loop-list.invariant.bodies in
    omega (arith, length-spelling c.args.lists.now, ap length written.body_is, c.len-2.ensures, c.if-size-ge-SECTION_LIMIT.true)

pub joined-requires : goal.joined-requires
joined-requires c =
    let written : AreWritten c.args.lists.now c.loop-list.offsets.items c.loop-list.bodies.items =
    all_written c.args.lists.now c.loop-list.list-index _ c.loop-list.offsets.items c.loop-list.bodies.items c.loop-list-test.false
    c.loop-list.invariant.offsets c.loop-list.invariant.bodies in
    omega (
      arith,
      written.long,
      ap length c.as_slice-2.ensures.value,
      ap length c.as_slice-3.ensures.value,
      c.len-2.ensures,
      c.if-size-ge-SECTION_LIMIT.false,
    )

pub returns-clause-bytes : goal.returns-clause-bytes
returns-clause-bytes c =
    let written : AreWritten c.args.lists.now c.loop-list.offsets.items c.loop-list.bodies.items =
    all_written c.args.lists.now c.loop-list.list-index _ c.loop-list.offsets.items c.loop-list.bodies.items c.loop-list-test.false
    c.loop-list.invariant.offsets c.loop-list.invariant.bodies in
    assembled c.args.lists.now c.in_ok-section.section c.as_slice-2.result.now c.as_slice-3.result.now (length c.args.lists.now) refl
    (c.as_slice-2.ensures.value ∙ written.offsets_are) (c.as_slice-3.ensures.value ∙ written.body_is) c.in_ok-section.ensures

pub returns-clause-small : goal.returns-clause-small
returns-clause-small c =
    let written : AreWritten c.args.lists.now c.loop-list.offsets.items c.loop-list.bodies.items =
    all_written c.args.lists.now c.loop-list.list-index _ c.loop-list.offsets.items c.loop-list.bodies.items c.loop-list-test.false
    c.loop-list.invariant.offsets c.loop-list.invariant.bodies in
    omega (
      arith,
      ap length (returns-clause-bytes c),
      length-spelling c.args.lists.now,
      ap length written.body_is,
      c.len-2.ensures,
      c.if-size-ge-SECTION_LIMIT.false,
    )
