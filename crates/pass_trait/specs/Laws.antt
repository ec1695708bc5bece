-- Proofs that a pass needs for its own trait items. They are here and not in proofs/ since an implementation of a trait
-- names them. Nothing here must be believed.
use Rattle.std.proofs.Common.{◌≡◌, ℕ, ◌*◌, ◌≤◌, List, [], ◌∷◌, ◌++◌, map, filter, Bool, true, false, cond, ◌||◌, refl, sym, ap, ◌∙◌}
use Rattle.std.specs.List.{list_any}
use Rattle.std.proofs.Math.Nat.{one-le-mul}
use Rattle.sem_simulation.specs.mir_func.declared.position.Origin.{Origin}
use Rattle.sem_simulation.specs.mir_func.declared.position.Origin.TheVariants.{Kept, Before}
use Rattle.sem_simulation.specs.mir_func.declared.item.Item.{Item}
use Rattle.sem_simulation.specs.mir_func.declared.item.ItemKind.{ItemKind}
use Rattle.sem_simulation.specs.mir_func.declared.item.ItemKind.TheVariants.{Code, Mark, Phi}
use Rattle.sem_simulation.specs.mir_func.declared.block.Block.{Block}
use Rattle.sem_simulation.specs.mir_func.Function.{Function}
use Rattle.pass_trait.specs.Code.{CodeRule, HasOneResult, SeesCodeAlone, originless_origin, originless_item, originless_block, originless}
use Rattle.pass_trait.specs.Steps.{PassStep, EachCode}
use Rattle.pass_trait.specs.Nops.{is_added_save, has_added_saves, stays, thinned_blocks, thinned, IsThinned}

-- if every code rule of both lists has the property, so has every one of the concatenated list
each_then : (P : CodeRule → Type 0) (steps more : List PassStep) → EachCode P steps → EachCode P more → EachCode P (steps ++ more)
each_then P [] more h k = k
each_then P (s ∷ steps) more h k = (h.0, each_then P steps more h.1 k)

-- if the code rules of both lists are functional, so are those of the concatenated list
pub one_then : (steps more : List PassStep) → EachCode HasOneResult steps → EachCode HasOneResult more → EachCode HasOneResult (steps ++ more)
one_then = each_then HasOneResult

-- if the code rules of both lists ignore debug items, so do those of the concatenated list
pub same_then : (steps more : List PassStep) → EachCode SeesCodeAlone steps → EachCode SeesCodeAlone more → EachCode SeesCodeAlone (steps ++ more)
same_then = each_then SeesCodeAlone

-- the product of two factors of at least 1 is at least 1
pub grows_then : (a b : ℕ) → 1 ≤ a → 1 ≤ b → 1 ≤ a * b
grows_then a b = one-le-mul

-- a code rule that is the graph of a function is functional
pub one_of : (make : Function → Function) → HasOneResult (λ f g. g ≡ make f)
one_of make f g h a b = a ∙ sym b

-- a code rule that is the graph of a function ignores debug items if the function commutes with erasing positions
pub same_of : (make : Function → Function) → ((f : Function) → originless (make f) ≡ make (originless f)) → SeesCodeAlone (λ f g. g ≡ make f)
same_of make commutes f f' g g' alike a b = ap originless a ∙ commutes f ∙ ap make alike ∙ sym (commutes f') ∙ ap originless (sym b)

-- removing no-operations is functional
pub one_thinned : HasOneResult IsThinned
one_thinned = one_of thinned

-- whether an item is an added slot store doesn't depend on its position
save_originless : (k : ItemKind) (o : Origin) → is_added_save k (originless_origin o) ≡ is_added_save k o
save_originless (Code i n) (Kept p) = refl
save_originless (Code i n) (Before p) = refl
save_originless (Mark v m) o = refl
save_originless (Phi p n) o = refl

saves_in_originless : (xs : List Item) →
    list_any (λ (i : Item). is_added_save i.kind i.origin) (map originless_item xs) ≡ list_any (λ (i : Item). is_added_save i.kind i.origin) xs
saves_in_originless [] = refl
saves_in_originless (x ∷ xs) = let e = save_originless x.kind x.origin in let es = saves_in_originless xs in λ i. e i || es i

saves_originless : (bs : List Block) → has_added_saves (map originless_block bs) ≡ has_added_saves bs
saves_originless [] = refl
saves_originless (b ∷ bs) = let e = saves_in_originless b.items in let es = saves_originless bs in λ i. e i || es i

items_originless : (busy : Bool) (xs : List Item) → map originless_item (filter (stays busy) xs) ≡ filter (stays busy) (map originless_item xs)
items_originless busy [] = refl
items_originless busy (x ∷ xs) = by_test (stays busy x) (items_originless busy xs) where
  by_test : (z : Bool) → map originless_item (filter (stays busy) xs) ≡ filter (stays busy) (map originless_item xs) →
      map originless_item (cond z (x ∷ filter (stays busy) xs) (filter (stays busy) xs)) ≡
      cond z (originless_item x ∷ filter (stays busy) (map originless_item xs)) (filter (stays busy) (map originless_item xs))
  by_test true h = ap (λ (ys : List Item). originless_item x ∷ ys) h
  by_test false h = h

blocks_originless : (busy : Bool) (bs : List Block) → map originless_block (thinned_blocks busy bs) ≡ thinned_blocks busy (map originless_block bs)
blocks_originless busy [] = refl
blocks_originless busy (b ∷ bs) =
    let e = items_originless busy b.items in
    let es = blocks_originless busy bs in
    λ i. record { id = b.id; items = e i; source_end = 0 } ∷ es i

thinned_originless : (f : Function) → originless (thinned f) ≡ thinned (originless f)
thinned_originless f =
    let e = blocks_originless (has_added_saves f.blocks) f.blocks ∙
    ap (λ (z : Bool). thinned_blocks z (map originless_block f.blocks)) (sym (saves_originless f.blocks)) in
    λ i. record f { blocks = e i }

-- removing no-operations doesn't depend on positions
pub same_thinned : SeesCodeAlone IsThinned
same_thinned = same_of thinned thinned_originless
