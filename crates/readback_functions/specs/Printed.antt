-- Lines as they are printed: printable ASCII without a space at the end.
use Rattle.std.specs.Prelude.{ℕ, ◌<◌, ◌≤◌, List, All}
use Rattle.base_ids.specs.Limits.{MAX_NUMBER}
use Rattle.mir_func.specs.declared.item.Item.{Item}
use Rattle.mir_func.specs.declared.object.Object.{Object}
use Rattle.mir_func.specs.Sound.{IsLocalOffset}
use Rattle.readback_items.specs.Laws.{IsWritable}
use Rattle.readback_items.specs.Body.{label_line, item_line}
use Rattle.readback_functions.specs.Document.{IsLine}
use Rattle.readback_functions.specs.Declared.{name_line, slot_line, object_line}

-- the lines of labels and items
pub record BlockLinesArePrinted : Type 0 where
  pub labels : (n : ℕ) → n ≤ MAX_NUMBER → IsLine (label_line n)
  pub items : (i : Item) → IsWritable i → IsLine (item_line i)

-- the lines of a function's name, slots and objects
pub record DeclaredLinesArePrinted : Type 0 where
  pub names : (name : List ℕ) → All (λ b. b < 256) name → IsLine (name_line name)
  pub slots : (n : ℕ) → n ≤ MAX_NUMBER → IsLine (slot_line n)
  pub objects : (o : Object) → o.id ≤ MAX_NUMBER → o.size ≤ MAX_NUMBER → o.align ≤ MAX_NUMBER → IsLocalOffset o.local_offset → IsLine (object_line o)
