use Rattle.std.proofs.Common.{ℕ, ◌+◌, length, arith, ap}
use Rattle.dwarf_entry.specs.declared.tree.TreeItem.{TreeItem}
use Rattle.dwarf_entry.specs.Entries.{item_bytes, offset_of}
use Rattle.dwarf_entry.proofs.Lengths.{offset_within, offset_more, table_more}
use Rattle.dwarf_entry.proofs.offsets.item_offsets.Goals as goal

pub overflow_cast-at : goal.overflow_cast-at
overflow_cast-at c =
    omega (arith, c.loop-item.invariant.now, offset_within c.args.abbreviations.now c.args.tree.now c.loop-item.item-index, c.requires)

pub overflow_add-at : goal.overflow_add-at
overflow_add-at c =
    let ds = c.args.abbreviations.now in
    let i : ℕ = c.loop-item.item-index in
    omega (
      arith,
      c.loop-item.invariant.now,
      offset_more ds c.args.tree.now i c.item-item.result c.loop-item-test.true,
      offset_within ds c.args.tree.now (i + 1),
      ap (λ (t : TreeItem). length (item_bytes ds (λ _. 0) t)) c.item-item.is,
      c.item_len-at.ensures (λ _. 0),
      c.requires,
    )

pub loop-item-preserved : goal.loop-item-preserved
loop-item-preserved c =
    let ds = c.args.abbreviations.now in
    let i : ℕ = c.loop-item.item-index in
    let more =
    table_more c.loop-item.offsets.items c.push.new.self.items c.loop-item.at i (offset_of ds c.args.tree.now) c.in_ok-push.ensures.items
    c.loop-item.invariant.count c.loop-item.invariant.at c.loop-item.invariant.now in
    record {
      now =
          omega (
            arith,
            c.loop-item.invariant.now,
            offset_more ds c.args.tree.now i c.item-item.result c.loop-item-test.true,
            offset_within ds c.args.tree.now (i + 1),
            ap (λ (t : TreeItem). length (item_bytes ds (λ _. 0) t)) c.item-item.is,
            c.item_len-at.ensures (λ _. 0),
            c.requires,
          );
      count = more.0;
      at = more.1;
    }
