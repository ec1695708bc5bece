-- Where the blocks of a function with its frame stand: each right after the prologue's.
use Rattle.std.proofs.Common.{◌≡◌, ℕ, suc, List, [], ◌∷◌, map, drop, Bool, true, false, cond, nat_eq, refl, sym, ap, ◌∙◌}
use Rattle.mir_func.specs.declared.block.Block.{Block}
use Rattle.mir_func.specs.declared.item.Item.{Item}
use Rattle.mir_func.specs.Function.{Function}
use Rattle.mir_func.specs.Graph.{EndOfBlock, end_of, front, fetch_in, from_block, index_of, rest_in}
use Rattle.mir_func.specs.SoundFrame.{body_of}
use Rattle.frame_rule.specs.Rule.{framed_items, framed_block, framed_blocks}

pub drop_zero : (xs : List Item) → drop 0 xs ≡ xs
drop_zero [] = refl
drop_zero (x ∷ xs) = refl

drop_all : (bs : List Block) → drop 0 bs ≡ bs
drop_all [] = refl
drop_all (b ∷ bs) = refl

module _ (f : Function) where
  abbrev with_frame : List Block → List Block
  with_frame bs = map (framed_block f) bs

  by_index : (bs : List Block) (n : ℕ) → drop (index_of (with_frame bs) n) (with_frame bs) ≡ with_frame (from_block bs n)
  by_index [] n = refl
  by_index (b ∷ bs) n = by_test (nat_eq b.id n) (by_index bs n) where
    by_test : (z : Bool) → drop (index_of (with_frame bs) n) (with_frame bs) ≡ with_frame (from_block bs n) →
        drop (cond z 0 (suc (index_of (with_frame bs) n))) (with_frame (b ∷ bs)) ≡ with_frame (cond z (b ∷ bs) (from_block bs n))
    by_test true more = refl
    by_test false more = more

  -- the blocks from where a branch to a number goes
  pub from_index : (bs : List Block) (n : ℕ) →
      drop (suc (index_of (body_of (framed_blocks f bs)) n)) (framed_blocks f bs) ≡ with_frame (from_block bs n)
  from_index [] n = refl
  from_index (b ∷ bs) n = by_index (b ∷ bs) n

  pub items_from : (bs : List Block) → rest_in (with_frame bs) 0 ≡ framed_items f (rest_in bs 0)
  items_from [] = refl
  items_from (b ∷ bs) = drop_zero (framed_items f b.items) ∙ ap (framed_items f) (sym (drop_zero b.items))

  -- the end of a block is that of the block without the frame
  pub ends_alike : (bs : List Block) (i j k n : ℕ) → rest_in bs i ≡ [] → rest_in (with_frame bs) j ≡ [] → fetch_in (with_frame bs) j ≡ EndOfBlock k n →
      fetch_in bs i ≡ EndOfBlock k n
  ends_alike [] i j k n e e' h = cc
  ends_alike (b ∷ bs) i j k n e e' h =
      ap (λ (z : List Item). front z b.source_end bs) e ∙ next bs (sym (ap (λ (z : List Item). front z b.source_end (with_frame bs)) e') ∙ h) where
        next : (cs : List Block) → end_of b.source_end (with_frame cs) ≡ EndOfBlock k n → end_of b.source_end cs ≡ EndOfBlock k n
        next [] w = cc
        next (c ∷ cs) w = w
