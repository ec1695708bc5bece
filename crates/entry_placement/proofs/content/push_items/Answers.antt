use Rattle.std.proofs.Common.{List, ◌++◌, length, ap, ◌∙◌}
use Rattle.std.proofs.lemmas.List.{take_all}
use Rattle.dwarf_entry.specs.declared.tree.TreeItem.{TreeItem}
use Rattle.dwarf_entry.specs.steps.Offsets.{in_table}
use Rattle.elf_content.specs.Content.{written, relocations_from}
use Rattle.entry_placement.specs.Pieces.{item_pieces, tree_pieces}
use Rattle.entry_placement.proofs.Growing.{grows_none, grows_step}
use Rattle.entry_placement.proofs.content.push_items.Goals as goal

pub loop-item-init : goal.loop-item-init
loop-item-init c = grows_none _ _

pub loop-item-preserved : goal.loop-item-preserved
loop-item-preserved c =
    grows_step (item_pieces c.args.symbols.now c.args.abbreviations.now (in_table c.args.offsets.now)) c.args.tree.now c.loop-item.item-index
    c.item-item.result _ _ _ _ _ _ c.loop-item-test.true c.item-item.is c.loop-item.invariant
    (record { written_are = c.in_ok-push_item.ensures.bytes; relocated = c.in_ok-push_item.ensures.relocations })

pub returns-clause-bytes : goal.returns-clause-bytes
returns-clause-bytes c =
    c.loop-item.invariant.written_are
    ∙ ap (λ (ts : List TreeItem). c.args.bytes.now.items ++ written (tree_pieces c.args.symbols.now c.args.abbreviations.now (in_table c.args.offsets.now) ts))
    (take_all c.loop-item.item-index c.args.tree.now c.loop-item-test.false)

pub returns-clause-relocations : goal.returns-clause-relocations
returns-clause-relocations c =
    c.loop-item.invariant.relocated
    ∙ ap
    (λ (ts : List TreeItem).
    c.args.relocations.now
    ++ relocations_from (length c.args.bytes.now.items) (tree_pieces c.args.symbols.now c.args.abbreviations.now (in_table c.args.offsets.now) ts))
    (take_all c.loop-item.item-index c.args.tree.now c.loop-item-test.false)
