use Rattle.std.proofs.Common.{◌≡◌, ◌+◌, max, ap, sym, ◌∙◌, arith}
use Rattle.pass_trait.specs.Sizes.{greatest, greatest_number}
use Rattle.pass_salvage.specs.Fresh.{block_numbers, entry_numbers}
use Rattle.pass_salvage.proofs.Greatest.{greatest_append}
use Rattle.pass_salvage.proofs.fresh.fresh_number.Goals as goal

is_greatest : (c : goal.After-greater) → c.greater.result ≡ greatest_number c.args.f.now c.args.subs.now
is_greatest c =
    let blocks = c.greatest_in_blocks-on_items.ensures ∙ ap (λ bs. greatest (block_numbers bs)) (c.as_slice.ensures ∙ ap (λ f. f.blocks) c.f.view_is) in
    let entries = c.greatest_in_entries-in_entries.ensures ∙ ap (λ es. greatest (entry_numbers es)) c.entries.ensures in
    c.greater.ensures ∙ (λ i. max (blocks i) (entries i)) ∙ sym (greatest_append (block_numbers c.args.f.now.blocks) (entry_numbers c.args.subs.now))

pub overflow_add-result : goal.overflow_add-result
overflow_add-result c = let e = is_greatest c in let h = c.requires in omega (arith, e, h)

pub returns : goal.returns
returns c = ap (λ n. n + 1) (is_greatest c)
