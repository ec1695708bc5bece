-- Blocks without a dead numbered copy stay as they are.
use Rattle.std.proofs.Common.{◌≡◌, ℕ, zero, suc, ◌+◌, ◌<◌, List, [], ◌∷◌, ◌++◌, length, get_or, drop, Option, Some, None, Bool, true, false, refl, sym, ap, ◌∙◌, arith}
use Rattle.std.specs.Prelude.{slice_get}
use Rattle.mir_func.specs.declared.block.Block.{Block}
use Rattle.mir_func.specs.declared.item.Item.{Item}
use Rattle.pass_salvage.specs.SalvageAction.{going_from}
use Rattle.dce_salvage.specs.declared.salvage_numbers.Copied.{Copied}
use Rattle.dce_salvage.specs.SalvageNumbers.{SoFar, copy_in, salvage_copy, salvage_at, salvage_down}
use Rattle.dce_salvage.specs.SalvageBlocks.{BlocksSoFar, in_block, salvage_block, with_front, salvage_next, salvage_blocks, HasNoCopies}

still_at : (removed : List ℕ) (n : ℕ) (goes : Bool) (a : SoFar) → (goes ≡ true → copy_in (slice_get a.items n) ≡ None) → salvage_at removed n goes a ≡ a
still_at removed n true a none = ap (λ (o : Option Copied). salvage_copy removed n a o) (none refl)
still_at removed n false a none = refl

copy_none : (items : List Item) (dead : List Bool) (n : ℕ) → HasNoCopies dead items → get_or dead n false ≡ true → copy_in (slice_get items n) ≡ None
copy_none items dead n none goes = by_item (slice_get items n) refl where
  by_item : (o : Option Item) → slice_get items n ≡ o → copy_in o ≡ None
  by_item None at = refl
  by_item (Some x) at = none n x at goes

still_down : (removed : List ℕ) (dead : List Bool) (n : ℕ) (a : SoFar) → HasNoCopies dead a.items → salvage_down removed dead n a ≡ a
still_down removed dead zero a none = refl
still_down removed dead (suc n) a none =
    ap (salvage_down removed dead n) (still_at removed n (get_or dead n false) a (copy_none a.items dead n none)) ∙ still_down removed dead n a none

next_dead : (dead : List (List Bool)) (k : ℕ) → get_or (drop 1 dead) k [] ≡ get_or dead (suc k) []
next_dead [] zero = refl
next_dead [] (suc k) = refl
next_dead (d ∷ []) zero = refl
next_dead (d ∷ []) (suc k) = refl
next_dead (d ∷ e ∷ ds) zero = refl
next_dead (d ∷ e ∷ ds) (suc k) = refl

pub still_blocks : (dead : List (List Bool)) (bs : List Block) (a : BlocksSoFar) →
    ((b : ℕ) (x : Block) → slice_get bs b ≡ Some x → HasNoCopies (get_or dead b []) x.items) →
    salvage_blocks dead bs a ≡ record a { blocks = bs ++ a.blocks }
still_blocks dead [] a none = refl
still_blocks dead (b ∷ bs) a none =
    let rest : BlocksSoFar = record a { blocks = bs ++ a.blocks } in
    let d : List Bool = get_or dead 0 [] in
    ap (salvage_next d b) (still_blocks (drop 1 dead) bs a (λ k x at. by_next k x at))
    ∙ ap (with_front b rest) (still_down (going_from 0 d) d (length b.items) (in_block b rest) (none 0 b refl)) where
      by_next : (k : ℕ) (x : Block) → slice_get bs k ≡ Some x → HasNoCopies (get_or (drop 1 dead) k []) x.items
      by_next k x at n y at_y goes = none (suc k) x at n y at_y (ap (λ (vs : List Bool). get_or vs n false) (sym (next_dead dead k)) ∙ goes)
