use Rattle.std.proofs.Common.{◌+◌, List, drop, ◌∙◌, sym, ap}
use Rattle.std.specs.List.{flat_map}
use Rattle.mir_func.specs.Variables.{is_same_variable}
use Rattle.mir_func.specs.declared.block.Block.{Block}
use Rattle.dwarf_line_table.specs.Files.{first_uses}
use Rattle.dwarf_line_table.proofs.FirstUses.{uses_append}
use Rattle.dwarf_line_table.proofs.Split.{split_at}
use Rattle.dwarf_unit.specs.Variables.{marks_of}
use Rattle.dwarf_unit.proofs.variables.variables.Goals as goal

pub loop-block-preserved : goal.loop-block-preserved
loop-block-preserved c =
    let blocks = c.args.blocks.now in
    let known = c.loop-block.known in
    let rest = drop (c.loop-block.block-index + 1) blocks in
    let marks = λ (bs : List Block). flat_map (λ b. marks_of b.items) bs in
    ap (λ vs. first_uses is_same_variable vs (marks rest))
    (c.in_ok-add_all.ensures ∙ ap (λ is. first_uses is_same_variable known (marks_of is)) c.as_slice.ensures)
    ∙ sym (uses_append is_same_variable known (marks_of c.block-item.result.items) (marks rest))
    ∙ ap (λ bs. first_uses is_same_variable known (marks bs)) (sym (split_at blocks c.loop-block.block-index c.block-item.result c.loop-block-test.true
    c.block-item.is))
    ∙ c.loop-block.invariant
