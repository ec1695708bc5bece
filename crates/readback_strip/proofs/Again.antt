-- A function that was read again, without its debug items, has the document that it was read from.
use Rattle.std.proofs.Common.{◌≡◌, ℕ, ◌+◌, List, [], ◌∷◌, ◌++◌, map, None, refl, ap}
use Rattle.std.specs.List.{cons_option}
use Rattle.mir_func.specs.declared.block.Block.{Block}
use Rattle.mir_func.specs.declared.item.Item.{Item}
use Rattle.mir_func.specs.declared.item.ItemKind.{ItemKind}
use Rattle.mir_func.specs.declared.item.ItemKind.TheVariants.{Code, Mark, Phi}
use Rattle.mir_func.specs.declared.location.Loc.{Loc}
use Rattle.mir_func.specs.declared.position.Origin.{Origin}
use Rattle.mir_func.specs.Function.{Function}
use Rattle.mir_func.specs.Strip.{bare, stripped_items, stripped_blocks, stripped}
use Rattle.readback_functions.specs.readback_items.Body.{label_line, item_line, body_lines}
use Rattle.readback_functions.specs.Declared.{name_line, stack_lines}
use Rattle.readback_functions.specs.Stripped.{placed_items, placed_block, placed, document_of}

one_again : (blk k : ℕ) (kind : ItemKind) (o : Origin) (l : Loc) (rest : List Item) →
    ((j : ℕ) → map item_line (stripped_items (placed_items blk j rest)) ≡ map item_line rest) →
    map item_line (stripped_items (placed_items blk k (cons_option (bare kind o l) rest))) ≡ map item_line (cons_option (bare kind o l) rest)
unfolding placed_items
one_again blk k (Code c x) o l rest later =
    ap (λ (ls : List (List ℕ)). item_line (record { kind = Code c None; origin = o; loc = l }) ∷ ls) (later (k + 1))
one_again blk k (Mark v m) o l rest later = later k
one_again blk k (Phi p x) o l rest later = later k

items_again : (blk k : ℕ) (items : List Item) →
    map item_line (stripped_items (placed_items blk k (stripped_items items))) ≡ map item_line (stripped_items items)
unfolding placed_items
items_again blk k [] = refl
items_again blk k (i ∷ is) = one_again blk k i.kind i.origin i.loc (stripped_items is) (λ j. items_again blk j is)

blocks_again : (bs : List Block) → body_lines (stripped_blocks (map placed_block (stripped_blocks bs))) ≡ body_lines (stripped_blocks bs)
blocks_again [] = refl
blocks_again (b ∷ bs) = λ i. (label_line b.id ∷ items_again b.id 0 b.items i) ++ blocks_again bs i

pub document_again : (f : Function) → document_of (stripped (placed (stripped f))) ≡ document_of (stripped f)
document_again f =
    ap (λ (ls : List (List ℕ)). record { name = name_line f.name; stack = stack_lines f.slots f.objects; substitutions = []; body = ls })
    (blocks_again f.blocks)
