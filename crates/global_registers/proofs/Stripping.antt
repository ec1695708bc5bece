-- Calls and ends read the global registers in a function as in it without its debug items.
use Rattle.std.proofs.Common.{◌≡◌, Bool, List, [], ◌∷◌, map, None, refl, ap}
use Rattle.std.specs.List.{cons_option}
use Rattle.mir_func.specs.declared.item.Item.{Item}
use Rattle.mir_func.specs.declared.item.ItemKind.{ItemKind}
use Rattle.mir_func.specs.declared.item.ItemKind.TheVariants.{Code, Mark, Phi}
use Rattle.mir_func.specs.declared.location.Loc.{Loc}
use Rattle.mir_func.specs.declared.position.Origin.{Origin}
use Rattle.mir_func.specs.declared.block.Block.{Block}
use Rattle.mir_func.specs.Function.{Function}
use Rattle.mir_func.specs.Strip.{bare, stripped_items, stripped_blocks, stripped}
use Rattle.global_registers.specs.Shared.{kind_by, item_by, block_by, function_by}

one_stripped : (shares : Bool) (k : ItemKind) (o : Origin) (l : Loc) (is : List Item) →
    stripped_items (map (item_by shares) is) ≡ map (item_by shares) (stripped_items is) →
    cons_option (bare (kind_by shares k) o l) (stripped_items (map (item_by shares) is))
    ≡ map (item_by shares) (cons_option (bare k o l) (stripped_items is))
one_stripped shares (Code i n) o l is rest = ap (λ (ys : List Item). record { kind = kind_by shares (Code i None); origin = o; loc = l } ∷ ys) rest
one_stripped shares (Mark v m) o l is rest = rest
one_stripped shares (Phi p n) o l is rest = rest

items_stripped : (shares : Bool) (is : List Item) → stripped_items (map (item_by shares) is) ≡ map (item_by shares) (stripped_items is)
items_stripped shares [] = refl
items_stripped shares (i ∷ is) = one_stripped shares i.kind i.origin i.loc is (items_stripped shares is)

blocks_stripped : (shares : Bool) (bs : List Block) → stripped_blocks (map (block_by shares) bs) ≡ map (block_by shares) (stripped_blocks bs)
blocks_stripped shares [] = refl
blocks_stripped shares (b ∷ bs) =
    let e = items_stripped shares b.items in
    let es = blocks_stripped shares bs in
    λ i. record { id = b.id; items = e i; source_end = b.source_end } ∷ es i

pub shared_stripped : (shares : Bool) (f : Function) → stripped (function_by shares f) ≡ function_by shares (stripped f)
shared_stripped shares f = let e = blocks_stripped shares f.blocks in λ i. record { name = f.name; slots = f.slots; objects = f.objects; blocks = e i }
