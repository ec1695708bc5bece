-- Frame lowering with a given frame: auxiliary definitions for proofs about the code.
use Rattle.std.specs.Prelude.{◌≡◌, ℕ, ◌+◌, ◌*◌, ◌≤◌, List, [], ◌∷◌, ◌++◌, map, length, cond, nat_eq, Option, Some, None}
use Rattle.std.specs.List.{flat_map}
use Rattle.std.specs.Ordering.{nat_cmp}
use Rattle.std.specs.BTreeMap.{BTreeMap, get}
use Rattle.mir_func.specs.declared.block.Block.{Block}
use Rattle.mir_func.specs.declared.item.Item.{Item}
use Rattle.mir_func.specs.declared.position.Origin.{Origin}
use Rattle.mir_func.specs.declared.position.Origin.TheVariants.{Before}
use Rattle.mir_func.specs.Exits.{leads_back}
use Rattle.mir_func.specs.Function.{Function}
use Rattle.mir_func.specs.Graph.{block_start}
use Rattle.mir_func.specs.Limits.{MAX_FRAME, MAX_SLOTS}
use Rattle.mir_func.specs.SoundFrame.{prologue_code, epilogue_code}
use Rattle.mir_func.specs.Positions.{position_of}
use Rattle.frame_rule.specs.Rule.{saved_of, size_of, reach_of, added_all, renamed}
use Rattle.frame_lowering.specs.declared.frame.Frame.{Frame}

-- ---- slots

-- the offset of a slot, if `k` slots come before these
abbrev pub offset_in : ℕ → List ℕ → ℕ → Option ℕ
offset_in k [] n = None
offset_in k (s ∷ slots) n = cond (nat_eq s n) (Some (8 * k)) (offset_in (k + 1) slots n)

-- the map has the offset of each slot
pub record AreOffsets (slots : List ℕ) (offsets : BTreeMap ℕ ℕ) : Type 0 where
  pub found : (n : ℕ) → get nat_cmp offsets n ≡ offset_in 0 slots n
  pub few : length slots ≤ MAX_SLOTS

-- ---- the frame

-- the frame is that of the function
pub record IsFrameOf (f : Function) (frame : Frame) : Type 0 where
  pub slots : frame.slots ≡ f.slots
  pub saved : frame.saved ≡ saved_of f
  pub size : frame.size ≡ size_of f
  pub small : frame.size ≤ MAX_FRAME
  pub reach : reach_of f ≤ MAX_FRAME

-- ---- the parts of the function, by the frame

abbrev pub prologue_in : Frame → (first : ℕ) → List Item
prologue_in frame first = added_all frame.size (Before (block_start first)) (prologue_code frame.size frame.saved)

abbrev pub epilogue_in : Frame → Origin → List Item
epilogue_in frame o = added_all frame.size (Before (position_of o)) (epilogue_code frame.size frame.saved)

abbrev pub framed_item_in : Frame → Item → List Item
framed_item_in frame i = cond (leads_back i.kind) (epilogue_in frame i.origin) [] ++ renamed frame.slots i ∷ []

abbrev pub framed_items_in : Frame → List Item → List Item
framed_items_in frame items = flat_map (framed_item_in frame) items

abbrev pub framed_block_in : Frame → Block → Block
framed_block_in frame b = record { id = b.id; items = framed_items_in frame b.items; source_end = b.source_end }

abbrev pub prologue_block_in : Frame → Block → Block
prologue_block_in frame b = record { id = b.id; items = prologue_in frame b.id; source_end = b.source_end }

abbrev pub framed_blocks_in : Frame → List Block → List Block
framed_blocks_in frame [] = []
framed_blocks_in frame (b ∷ bs) = prologue_block_in frame b ∷ framed_block_in frame b ∷ map (framed_block_in frame) bs
