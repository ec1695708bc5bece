-- The lines of blocks are read back as the blocks.
use Rattle.std.proofs.Common.{List, [], ◌∷◌, All, arith}
use Rattle.std.proofs.lemmas.List.Elements.{All-nil, All-cons}
use Rattle.mir_func.specs.declared.block.Block.{Block}
use Rattle.mir_func.specs.declared.item.Item.{Item}
use Rattle.mir_func.specs.Sound.{items_of}
use Rattle.read_body.specs.Body.{nothing_read}
use Rattle.readback_items.specs.Body.{IsReadableItem, BodiesReadBack}
use Rattle.readback_items.proofs.Made.{AllMade, blocks_made}
use Rattle.readback_items.proofs.Room.{Fits, all_front, all_behind, blocks_walk, nothing_room}
use Rattle.readback_items.proofs.Steps.{with_blocks, BlocksFit, blocks_read}

-- P holds of the items of each block
each_block : (P : Item → Type 0) (blocks : List Block) → All P (items_of blocks) → All (λ (b : Block). All P b.items) blocks
each_block P [] all = All-nil (λ (b : Block). All P b.items)
each_block P (b ∷ bs) all = All-cons (λ (x : Block). All P x.items) b bs (all_front P b.items (items_of bs) all)
    (each_block P bs (all_behind P b.items (items_of bs) all))

pub bodies_read_back : BodiesReadBack
bodies_read_back meta blocks lines texts readable within = record {
  body = with_blocks nothing_read blocks;
  read = blocks_read meta nothing_read blocks lines within.ids (each_block (IsReadableItem meta) blocks readable) fit texts;
  made = all.made;
  ids = all.ids;
  entries = all.entries;
  objects = all.objects;
} where
  fits : All (Fits within.few_variables.among within.few_numbers.among within.few_constants.among) (items_of blocks)
  fits = λ k d lt. record {
    variable = within.few_variables.all k d lt;
    number = within.few_numbers.all k d lt;
    constant = within.few_constants.all k d lt;
  }

  fit : BlocksFit nothing_read blocks
  fit = blocks_walk within.few_variables.among within.few_numbers.among within.few_constants.among within.few_variables.few within.few_numbers.few
      within.few_constants.few [] blocks nothing_read
      (nothing_room within.few_variables.among within.few_numbers.among within.few_constants.among within.few_variables.few within.few_numbers.few
      within.few_constants.few) fits within.once (omega (arith, within.few_items)) within.apart (omega (arith, within.few_blocks))

  all : AllMade nothing_read (with_blocks nothing_read blocks) blocks
  all = blocks_made nothing_read blocks fit
