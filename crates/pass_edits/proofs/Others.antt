-- What stands beside one item of a function, and what of it hasn't its number.
use Rattle.std.proofs.Common.{◌≡◌, ℕ, List, [], ◌∷◌, ◌++◌, All, Some, sym, ap, ◌∙◌, subst}
use Rattle.std.proofs.lemmas.Grind.{flat_map-append}
use Rattle.std.proofs.lemmas.List.{append_assoc}
use Rattle.std.proofs.lemmas.List.Elements.{All-nil, All-cons, All-head, All-tail, All-append}
use Rattle.mir_func.specs.declared.block.Block.{Block}
use Rattle.mir_func.specs.declared.item.Item.{Item}
use Rattle.mir_func.specs.Function.{Function}
use Rattle.mir_func.specs.Sound.{AllItems, items_of, code_number, NumbersOnce, EndsWell, IsSound}
use Rattle.pass_edits.proofs.Numbers.{IsUnlike, AreUnlike, all_first, all_second, unlike_above, unlike_behind, HaveFewer, once_fewer, fewer_same}
use Rattle.pass_edits.proofs.Numbers.{fewer_behind, fewer_append}
use Rattle.pass_edits.proofs.Around.{block_of, with_block}

abbrev pub BlocksUnlike : ℕ → List Block → Type 0
BlocksUnlike k bs = All (λ (b : Block). All (λ (x : Item). IsUnlike k x.kind) b.items) bs

pub blocks_unlike : (k : ℕ) (bs : List Block) → AreUnlike k (items_of bs) → BlocksUnlike k bs
blocks_unlike k [] h = All-nil (λ (b : Block). All (λ (x : Item). IsUnlike k x.kind) b.items)
blocks_unlike k (b ∷ bs) h =
    All-cons (λ (c : Block). All (λ (x : Item). IsUnlike k x.kind) c.items) b bs
    (all_first (λ (x : Item). IsUnlike k x.kind) b.items (items_of bs) h)
    (blocks_unlike k bs (all_second (λ (x : Item). IsUnlike k x.kind) b.items (items_of bs) h))

pub flat_unlike : (k : ℕ) (bs : List Block) → BlocksUnlike k bs → AreUnlike k (items_of bs)
flat_unlike k [] h = All-nil (λ (x : Item). IsUnlike k x.kind)
flat_unlike k (b ∷ bs) h =
    All-append (λ (x : Item). IsUnlike k x.kind) b.items (items_of bs) (All-head (λ (c : Block). All (λ (x : Item). IsUnlike k x.kind) c.items) b bs h)
    (flat_unlike k bs (All-tail (λ (c : Block). All (λ (x : Item). IsUnlike k x.kind) c.items) b bs h))

-- nothing but one item has the number
pub record Others (k : ℕ) (fs : List Block) (xs ys : List Item) (gs : List Block) : Type 0 where
  pub above : BlocksUnlike k fs
  pub up : AreUnlike k xs
  pub down : AreUnlike k ys
  pub behind : BlocksUnlike k gs

module _ (f : Function) (above : List Block) (id source_end : ℕ) (behind : List Block) where
  abbrev pub fn : List Item → Function
  fn items = with_block f above id source_end items behind

  pub all_around : (items : List Item) → items_of (fn items).blocks ≡ items_of above ++ (items ++ items_of behind)
  all_around items = flat_map-append (λ (b : Block). b.items) above (block_of id source_end items ∷ behind)

  pub around_one : (up : List Item) (x : Item) (down : List Item) →
      items_of (fn (up ++ x ∷ down)).blocks ≡ (items_of above ++ up) ++ x ∷ (down ++ items_of behind)
  around_one up x down =
      all_around (up ++ x ∷ down) ∙ ap (λ (ys : List Item). items_of above ++ ys) (append_assoc up (x ∷ down) (items_of behind)) ∙
      sym (append_assoc (items_of above) up (x ∷ (down ++ items_of behind)))

  pub others_of : (k : ℕ) (up : List Item) (x : Item) (down : List Item) → NumbersOnce (items_of (fn (up ++ x ∷ down)).blocks) → code_number x.kind ≡ Some k →
      Others k above up down behind
  others_of k up x down once code =
      let all : NumbersOnce ((items_of above ++ up) ++ x ∷ (down ++ items_of behind)) = subst NumbersOnce (around_one up x down) once in
      let first = unlike_above (items_of above ++ up) x (down ++ items_of behind) k all code in
      let second = unlike_behind (items_of above ++ up) x (down ++ items_of behind) k all code in
      let P : Item → Type 0 = λ x. IsUnlike k x.kind in
      record {
        above = blocks_unlike k above (all_first P (items_of above) up first);
        up = all_second P (items_of above) up first;
        down = all_first P down (items_of behind) second;
        behind = blocks_unlike k behind (all_second P down (items_of behind) second);
      }

  -- what holds of all items holds of the block's
  pub in_block : (P : Item → Type 0) (items : List Item) → AllItems P (fn items).blocks → All P items
  in_block P items h =
      All-head (λ (b : Block). All P b.items) (block_of id source_end items) behind
      (all_second (λ (b : Block). All P b.items) above (block_of id source_end items ∷ behind) h)

  pub at_item : (P : Item → Type 0) (up : List Item) (x : Item) (down : List Item) → AllItems P (fn (up ++ x ∷ down)).blocks → P x
  at_item P up x down h = All-head P x down (all_second P up (x ∷ down) (in_block P (up ++ x ∷ down) h))

  pub block_ends : (items : List Item) → IsSound (fn items) → EndsWell items
  block_ends items s =
      All-head (λ (b : Block). EndsWell b.items) (block_of id source_end items) behind
      (all_second (λ (b : Block). EndsWell b.items) above (block_of id source_end items ∷ behind) s.ends)

  -- numbers stand once still
  pub once_around : (items items' : List Item) → HaveFewer items items' → NumbersOnce (items_of (fn items).blocks) → NumbersOnce (items_of (fn items').blocks)
  once_around items items' h once =
      subst NumbersOnce (sym (all_around items'))
      (once_fewer (fewer_behind (items_of above) (items ++ items_of behind) (items' ++ items_of behind) (fewer_append h (fewer_same (items_of behind))))
      (subst NumbersOnce (all_around items) once))
