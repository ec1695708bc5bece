-- Constants are set in a function as in it without its debug items: what is known never hangs on a mark, a phi or a
-- number.
use Rattle.std.proofs.Common.{◌≡◌, List, [], ◌∷◌, None, refl, ap}
use Rattle.std.specs.List.{cons_option}
use Rattle.mir_func.specs.declared.item.Item.{Item}
use Rattle.mir_func.specs.declared.item.ItemKind.{ItemKind}
use Rattle.mir_func.specs.declared.item.ItemKind.TheVariants.{Code, Mark, Phi}
use Rattle.mir_func.specs.declared.location.Loc.{Loc}
use Rattle.mir_func.specs.declared.position.Origin.{Origin}
use Rattle.mir_func.specs.declared.block.Block.{Block}
use Rattle.mir_func.specs.Function.{Function}
use Rattle.mir_func.specs.Strip.{bare, stripped_items, stripped_blocks, stripped}
use Rattle.remat_pass.specs.Known.{Known, nothing_known, known_past}
use Rattle.remat_pass.specs.Remat.{set_in, set_items, set_blocks, rematerialized}

one_stripped : (known : Known) (k : ItemKind) (o : Origin) (l : Loc) (is : List Item) →
    ((now : Known) → stripped_items (set_items now is) ≡ set_items now (stripped_items is)) →
    cons_option (bare (set_in known k) o l) (stripped_items (set_items (known_past (set_in known k) known) is))
    ≡ set_items known (cons_option (bare k o l) (stripped_items is))
one_stripped known (Code i n) o l is rest =
    ap (λ (ys : List Item). record { kind = set_in known (Code i None); origin = o; loc = l } ∷ ys) (rest (known_past (set_in known (Code i None)) known))
one_stripped known (Mark v m) o l is rest = rest known
one_stripped known (Phi p n) o l is rest = rest known

items_stripped : (is : List Item) (known : Known) → stripped_items (set_items known is) ≡ set_items known (stripped_items is)
items_stripped [] known = refl
items_stripped (i ∷ is) known = one_stripped known i.kind i.origin i.loc is (items_stripped is)

blocks_stripped : (bs : List Block) → stripped_blocks (set_blocks bs) ≡ set_blocks (stripped_blocks bs)
blocks_stripped [] = refl
blocks_stripped (b ∷ bs) =
    let e = items_stripped b.items nothing_known in
    let es = blocks_stripped bs in
    λ i. record { id = b.id; items = e i; source_end = b.source_end } ∷ es i

pub rematerialized_stripped : (f : Function) → stripped (rematerialized f) ≡ rematerialized (stripped f)
rematerialized_stripped f = let e = blocks_stripped f.blocks in λ i. record { name = f.name; slots = f.slots; objects = f.objects; blocks = e i }
