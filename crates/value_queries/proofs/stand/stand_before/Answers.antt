use Rattle.std.proofs.Common.{sym, ap, ◌∙◌}
use Rattle.std.specs.Prelude.{Some}
use Rattle.mir_func.specs.declared.block.Block.{Block}
use Rattle.std.proofs.lemmas.Option.{slice_get-get_or}
use Rattle.value_queries.proofs.stand.stand_before.Goals as goal

pub returns-clause-stands : goal.returns-clause-stands
returns-clause-stands c = λ are.
    let block = c.index-blocks-block.result in
    let items = ap (λ (b : Block). b.items) c.index-blocks-block.is ∙ sym c.as_slice-items.ensures in
    c.in_ok-move_to.ensures.stands c.args.blocks.now are
    (block, slice_get-get_or c.args.blocks.now c.args.block block c.requires.block ∙ ap Some (sym c.index-blocks-block.is), items)
    (c.in_ok-stand.ensures.stands c.args.blocks.now are)
