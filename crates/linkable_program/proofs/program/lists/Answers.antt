use Rattle.std.proofs.Common.{◌≡◌, ℕ, List, length, subst}
use Rattle.linkable_program.specs.Program.{AreListSizesOf}
use Rattle.linkable_program.proofs.Compiled.{as_many_listed, kept_of, small_sizes, lists_of, lists_large}
use Rattle.linkable_program.proofs.program.lists.Goals as goal

pub all_kept_lists-requires : goal.all_kept_lists-requires
all_kept_lists-requires c =
    rw c.as_slice.ensures (rw c.as_slice-2.ensures (as_many_listed _ _ c.args.program.now c.args.compilation.now c.requires.compilation))

pub list_section-requires-clause-ascend : goal.list_section-requires-clause-ascend
list_section-requires-clause-ascend c = c.in_ok-lists.ensures.writable.ascend

pub list_section-requires-clause-places : goal.list_section-requires-clause-places
list_section-requires-clause-places c = c.in_ok-lists.ensures.writable.places

pub list_section-requires-clause-small : goal.list_section-requires-clause-small
list_section-requires-clause-small c =
    rw c.as_slice-3.ensures.value
    (small_sizes c.args.lines.now c.args.program.now c.args.compilation.now c.args.with_frame c.len-count.result c.in_ok-sizes.sizes.items c.in_ok-sizes.ensures)

pub returns-clause-lists : goal.returns-clause-lists
returns-clause-lists c =
    let kept = kept_of c.args.compilation.now _ _ c.in_ok-lists.lists c.as_slice.ensures c.as_slice-2.ensures c.in_ok-lists.ensures.kept in
    let sizes : AreListSizesOf c.args.lines.now c.args.program.now c.args.compilation.now c.args.with_frame (length c.in_ok-lists.lists) c.as_slice-3.result.now =
    rw c.as_slice-3.ensures.value
    (subst (λ (n : ℕ). AreListSizesOf c.args.lines.now c.args.program.now c.args.compilation.now c.args.with_frame n c.in_ok-sizes.sizes.items) c.len-count.ensures
    c.in_ok-sizes.ensures) in
    lists_of c.args.lines.now c.args.program.now c.args.compilation.now c.args.with_frame c.in_ok-lists.lists kept c.as_slice-3.result.now sizes c.list_section.result
    c.list_section.ensures.section

pub returns-clause-large : goal.returns-clause-large
returns-clause-large c = λ is.
    let kept = kept_of c.args.compilation.now _ _ c.in_ok-lists.lists c.as_slice.ensures c.as_slice-2.ensures c.in_ok-lists.ensures.kept in
    let sizes : AreListSizesOf c.args.lines.now c.args.program.now c.args.compilation.now c.args.with_frame (length c.in_ok-lists.lists) c.as_slice-3.result.now =
    rw c.as_slice-3.ensures.value
    (subst (λ (n : ℕ). AreListSizesOf c.args.lines.now c.args.program.now c.args.compilation.now c.args.with_frame n c.in_ok-sizes.sizes.items) c.len-count.ensures
    c.in_ok-sizes.ensures) in
    lists_large c.args.lines.now c.args.program.now c.args.compilation.now c.args.with_frame c.in_ok-lists.lists kept c.as_slice-3.result.now sizes
    (c.list_section.ensures.large is)
