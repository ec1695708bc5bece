-- Taking out no-operations and debug items comes to the same in either order.
use Rattle.std.proofs.Common.{◌≡◌, List, [], ◌∷◌, filter, Bool, true, false, cond, None, not, ◌&&◌, ◌||◌, refl, sym, ap, ◌∙◌}
use Rattle.std.specs.List.{list_any}
use Rattle.sem_simulation.specs.mir_func.declared.position.Origin.{Origin}
use Rattle.sem_simulation.specs.mir_func.declared.position.Origin.TheVariants.{Kept, Before}
use Rattle.sem_simulation.specs.mir_func.declared.location.Loc.{Loc}
use Rattle.sem_simulation.specs.mir_func.declared.block.Block.{Block}
use Rattle.sem_simulation.specs.mir_func.declared.item.Item.{Item}
use Rattle.sem_simulation.specs.mir_func.declared.item.ItemKind.{ItemKind}
use Rattle.sem_simulation.specs.mir_func.declared.item.ItemKind.TheVariants.{Code, Mark, Phi}
use Rattle.sem_simulation.specs.mir_func.Function.{Function}
use Rattle.sem_simulation.specs.mir_func.Strip.{stripped, stripped_items, stripped_blocks}
use Rattle.sem_simulation.specs.rv64_instr.Row.{row_of}
use Rattle.pass_trait.specs.Nops.{is_nop_row, is_added_save, has_added_saves, stays, thinned_blocks, thinned}

abbrev any_save : List Item → Bool
any_save xs = list_any (λ (i : Item). is_added_save i.kind i.origin) xs

-- debug items are no stores
save_first : (k : ItemKind) (o : Origin) (l : Loc) (xs : List Item) → any_save (stripped_items xs) ≡ any_save xs →
    any_save (stripped_items (record { kind = k; origin = o; loc = l } ∷ xs)) ≡ (is_added_save k o || any_save xs)
save_first (Code i n) (Kept p) l xs h = h
save_first (Code i n) (Before p) l xs h = ap (λ (z : Bool). is_added_save (Code i n) (Before p) || z) h
save_first (Mark v m) o l xs h = h
save_first (Phi p n) o l xs h = h

saves_stripped : (xs : List Item) → any_save (stripped_items xs) ≡ any_save xs
saves_stripped [] = refl
saves_stripped (x ∷ xs) = save_first x.kind x.origin x.loc xs (saves_stripped xs)

has_saves_stripped : (bs : List Block) → has_added_saves (stripped_blocks bs) ≡ has_added_saves bs
has_saves_stripped [] = refl
has_saves_stripped (b ∷ bs) = let e = saves_stripped b.items in let es = has_saves_stripped bs in λ i. e i || es i

module _ (busy : Bool) where
  -- debug items stay, and a number doesn't matter
  first_thin : (k : ItemKind) (o : Origin) (l : Loc) (xs : List Item) → stripped_items (filter (stays busy) xs) ≡ filter (stays busy) (stripped_items xs) →
      stripped_items (filter (stays busy) (record { kind = k; origin = o; loc = l } ∷ xs)) ≡
      filter (stays busy) (stripped_items (record { kind = k; origin = o; loc = l } ∷ xs))
  first_thin (Code i n) o l xs h = by_test (not (not busy && is_nop_row (row_of i))) where
    by_test : (z : Bool) → stripped_items (cond z (record { kind = Code i n; origin = o; loc = l } ∷ filter (stays busy) xs) (filter (stays busy) xs)) ≡
        cond z (record { kind = Code i None; origin = o; loc = l } ∷ filter (stays busy) (stripped_items xs)) (filter (stays busy) (stripped_items xs))
    by_test true = ap (λ (ys : List Item). record { kind = Code i None; origin = o; loc = l } ∷ ys) h
    by_test false = h
  first_thin (Mark v m) o l xs h = by_test (not (not busy && false)) where
    by_test : (z : Bool) → stripped_items (cond z (record { kind = Mark v m; origin = o; loc = l } ∷ filter (stays busy) xs) (filter (stays busy) xs)) ≡
        filter (stays busy) (stripped_items xs)
    by_test true = h
    by_test false = h
  first_thin (Phi p n) o l xs h = by_test (not (not busy && false)) where
    by_test : (z : Bool) → stripped_items (cond z (record { kind = Phi p n; origin = o; loc = l } ∷ filter (stays busy) xs) (filter (stays busy) xs)) ≡
        filter (stays busy) (stripped_items xs)
    by_test true = h
    by_test false = h

  items_stripped : (xs : List Item) → stripped_items (filter (stays busy) xs) ≡ filter (stays busy) (stripped_items xs)
  items_stripped [] = refl
  items_stripped (x ∷ xs) = first_thin x.kind x.origin x.loc xs (items_stripped xs)

  blocks_stripped : (bs : List Block) → stripped_blocks (thinned_blocks busy bs) ≡ thinned_blocks busy (stripped_blocks bs)
  blocks_stripped [] = refl
  blocks_stripped
      (b ∷ bs) = let e = items_stripped b.items in let es = blocks_stripped bs in λ i. record { id = b.id; items = e i; source_end = b.source_end } ∷ es i

pub stripped_thinned : (f : Function) → stripped (thinned f) ≡ thinned (stripped f)
stripped_thinned f =
    let e = blocks_stripped (has_added_saves f.blocks) f.blocks ∙
    ap (λ (z : Bool). thinned_blocks z (stripped_blocks f.blocks)) (sym (has_saves_stripped f.blocks)) in
    λ i. record (stripped f) { blocks = e i }
