use Rattle.std.proofs.Common.{◌≡◌, ◌<◌, ℕ, List, length, refl, sym, ◌∙◌, ap, subst}
use Rattle.std.specs.Prelude.{Option, Some, IfOk, slice_get}
use Rattle.std.proofs.lemmas.Option.{slice_get_read, slice_get_within, slice_get_past}
use Rattle.mir_func.specs.declared.block.Block.{Block}
use Rattle.mir_func.specs.declared.item.Item.{Item}
use Rattle.kept_ranges.specs.Calls.{lookup_of, passed_at}
use Rattle.kept_ranges.specs.steps.Walk.{IsPast}
use Rattle.kept_ranges.proofs.Entries.{item_there, none_there}
use Rattle.kept_ranges.proofs.ranges.past_lookup.Goals as goal

pub returns-in-None-clause-past : goal.returns-in-None-clause-past
returns-in-None-clause-past c =
    let blocks = c.args.blocks.now in
    let e = c.args.entry.now in
    let block = c.index-blocks-block_of.result in
    let there : slice_get blocks e.point.block ≡ Some block =
    subst (λ (n : ℕ). slice_get blocks n ≡ Some block) c.block_of.ensures
    (slice_get_read blocks _ c.block_of.result block refl
    (subst (λ (n : ℕ). n < length blocks) (sym c.block_of.ensures) (slice_get_within blocks e.point.block c.requires.point.0 c.requires.point.1))
    c.index-blocks-block_of.is) in
    let items = c.as_slice-items.ensures ∙ sym (ap (λ (z : Block). z.items) c.index-blocks-block_of.is) in
    let y = c.in-None.ensures.lookup in
    let past = slice_get_past c.as_slice-items.result.now e.point.item y.3 in
    let none = none_there blocks e.point.block e.point.item block there
    (sym (ap (λ (xs : List Item). slice_get xs e.point.item) items) ∙ past) in
    subst (λ (q : Option (List ℕ)). IsPast c.args.values.now c.args.groups.now q (lookup_of e) c.args.walk c.args.walk) (sym none) refl

pub returns-in-Some-clause-past : goal.returns-in-Some-clause-past
returns-in-Some-clause-past c =
    let blocks = c.args.blocks.now in
    let e = c.args.entry.now in
    let block = c.index-blocks-block_of.result in
    let there : slice_get blocks e.point.block ≡ Some block =
    subst (λ (n : ℕ). slice_get blocks n ≡ Some block) c.block_of.ensures
    (slice_get_read blocks _ c.block_of.result block refl
    (subst (λ (n : ℕ). n < length blocks) (sym c.block_of.ensures) (slice_get_within blocks e.point.block c.requires.point.0 c.requires.point.1))
    c.index-blocks-block_of.is) in
    let items = c.as_slice-items.ensures ∙ sym (ap (λ (z : Block). z.items) c.index-blocks-block_of.is) in
    let x = c.in-Some.ensures.lookup in
    let item = c.in-Some.item.now in
    let found : slice_get c.as_slice-items.result.now e.point.item ≡ Some item =
    slice_get_read c.as_slice-items.result.now _ e.point.item item refl x.3.0 x.1 in
    let here = item_there blocks e.point.block e.point.item block item there
    (sym (ap (λ (xs : List Item). slice_get xs e.point.item) items) ∙ found) in
    subst (λ (q : Option (List ℕ)). IfOk c.past_item.result (IsPast c.args.values.now c.args.groups.now q (lookup_of e) c.args.walk)) (sym (ap passed_at here))
    c.past_item.ensures.past
