use Rattle.std.proofs.Common.{List, length, arith, ap, ◌∙◌}
use Rattle.std.proofs.lemmas.List.{take_all}
use Rattle.dwarf_base.specs.Size.{capped}
use Rattle.dwarf_entry.specs.declared.tree.TreeItem.{TreeItem}
use Rattle.dwarf_entry.specs.Entries.{item_bytes, tree_bytes}
use Rattle.dwarf_entry.proofs.Lengths.{length_more}
use Rattle.dwarf_entry.proofs.size.tree_len.Goals as goal

pub loop-item-preserved : goal.loop-item-preserved
loop-item-preserved c =
    λ offset.
    omega (
      arith,
      c.saturating_add-len.ensures,
      c.item_len.ensures offset,
      c.loop-item.invariant offset,
      ap (λ (t : TreeItem). length (item_bytes c.args.abbreviations.now offset t)) c.item-item.is,
      length_more (item_bytes c.args.abbreviations.now offset) c.args.tree.now c.loop-item.item-index c.item-item.result c.loop-item-test.true c.item-item.is,
    )

pub returns : goal.returns
returns c =
    λ offset.
    c.loop-item.invariant offset
    ∙ ap (λ (ts : List TreeItem). capped (length (tree_bytes c.args.abbreviations.now offset ts)))
    (take_all c.loop-item.item-index c.args.tree.now c.loop-item-test.false)
