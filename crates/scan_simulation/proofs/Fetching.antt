-- What stands where in blocks whose items are changed each in its place.
use Rattle.std.proofs.Common.{◌≡◌, ℕ, zero, suc, ◌+◌, List, [], ◌∷◌, drop, Option, Bool, true, false, cond, nat_eq}
use Rattle.std.proofs.Common.{refl, sym, ap, ◌∙◌, arith}
use Rattle.mir_func.specs.declared.block.Block.{Block}
use Rattle.mir_func.specs.declared.debug_substitution.OperandPair.{OperandPair}
use Rattle.mir_func.specs.declared.item.Item.{Item}
use Rattle.mir_func.specs.declared.position.Pos.{Pos}
use Rattle.mir_func.specs.Graph.{Program, Fetch, Here, EndOfBlock, Outside, block_start, end_of, front, fetch_in, from_block}
use Rattle.mir_func.specs.Graph.{program_of, rest_in, rest_of}
use Rattle.sem_mir.proofs.Reading.{found_in}
use Rattle.scan_rule.specs.Rewrite.{item_now, items_now, blocks_now}

module _ (given : ℕ → Option ℕ) (silent : Pos → ℕ → Bool) where
  abbrev pub at_place : Pos → Item → Item
  at_place = item_now given silent

  -- what is fetched, changed in its place
  abbrev pub fetch_now : Pos → Fetch → Fetch
  fetch_now p (Here i) = Here (at_place p i)
  fetch_now p (EndOfBlock k n) = EndOfBlock k n
  fetch_now p Outside = Outside

  from_now : (bs : List Block) (n : ℕ) → from_block (blocks_now given silent bs) n ≡ blocks_now given silent (from_block bs n)
  from_now [] n = refl
  from_now (b ∷ bs) n = by_test (nat_eq b.id n) (from_now bs n) where
    by_test : (z : Bool) → from_block (blocks_now given silent bs) n ≡ blocks_now given silent (from_block bs n) →
        cond z (blocks_now given silent (b ∷ bs)) (from_block (blocks_now given silent bs) n) ≡ blocks_now given silent (cond z (b ∷ bs) (from_block bs n))
    by_test true h = refl
    by_test false h = h

  drop_now : (b k n : ℕ) (xs : List Item) → drop n (items_now given silent b k xs) ≡ items_now given silent b (k + n) (drop n xs)
  drop_now b k zero [] = refl
  drop_now b k (suc n) [] = refl
  drop_now b k zero (x ∷ xs) = let same : k ≡ k + 0 = omega arith in ap (λ (m : ℕ). items_now given silent b m (x ∷ xs)) same
  drop_now b k (suc n) (x ∷ xs) =
      let next : k + 1 + n ≡ k + suc n = omega arith in
      drop_now b (k + 1) n xs ∙ ap (λ (m : ℕ). items_now given silent b m (drop n xs)) next

  end_now : (k : ℕ) (bs : List Block) → end_of k (blocks_now given silent bs) ≡ end_of k bs
  end_now k [] = refl
  end_now k (b ∷ bs) = refl

  front_now : (b n k : ℕ) (xs : List Item) (bs : List Block) →
      front (items_now given silent b n xs) k (blocks_now given silent bs) ≡ fetch_now (record { block = b; item = n }) (front xs k bs)
  front_now b n k [] [] = refl
  front_now b n k [] (c ∷ cs) = refl
  front_now b n k (x ∷ xs) bs = refl

  zero_more : (n : ℕ) → 0 + n ≡ n
  zero_more n = omega arith

  module _ (blocks : List Block) (resolve : OperandPair → Option OperandPair) where
    abbrev pub f : Program
    f = program_of false blocks resolve

    abbrev pub g : Program
    g = program_of false (blocks_now given silent blocks) resolve

    pub fetched : (p : Pos) → g.fetch p ≡ fetch_now p (f.fetch p)
    fetched p = ap (λ (bs : List Block). fetch_in bs p.item) (from_now blocks p.block) ∙ by_blocks (from_block blocks p.block) refl where
      by_blocks : (bs : List Block) → from_block blocks p.block ≡ bs → fetch_in (blocks_now given silent bs) p.item ≡ fetch_now p (fetch_in bs p.item)
      by_blocks [] e = refl
      by_blocks (b ∷ bs) e =
          let id : b.id ≡ p.block = (found_in blocks p.block b bs e).1 in
          ap (λ (xs : List Item). front xs b.source_end (blocks_now given silent bs)) (drop_now b.id 0 p.item b.items) ∙
          front_now b.id (0 + p.item) b.source_end (drop p.item b.items) bs ∙
          ap (λ (q : Pos). fetch_now q (front (drop p.item b.items) b.source_end bs)) (λ t. record { block = id t; item = zero_more p.item t })

    -- an item that stands there stood there
    pub item_from : (p : Pos) (y : Item) → g.fetch p ≡ Here y → (x : Item) × (f.fetch p ≡ Here x) × (y ≡ at_place p x)
    item_from p y e = by_fetch (f.fetch p) refl (sym (fetched p) ∙ e) where
      by_fetch : (z : Fetch) → f.fetch p ≡ z → fetch_now p z ≡ Here y → (x : Item) × (f.fetch p ≡ Here x) × (y ≡ at_place p x)
      by_fetch (Here x) h e = (x, h, (let same : at_place p x ≡ y = cc in sym same))
      by_fetch (EndOfBlock k n) h e = cc
      by_fetch Outside h e = cc

    pub item_to : (p : Pos) (x : Item) → f.fetch p ≡ Here x → g.fetch p ≡ Here (at_place p x)
    item_to p x e = fetched p ∙ ap (fetch_now p) e

    pub end_from : (p : Pos) (k n : ℕ) → g.fetch p ≡ EndOfBlock k n → f.fetch p ≡ EndOfBlock k n
    end_from p k n e = by_fetch (f.fetch p) refl (sym (fetched p) ∙ e) where
      by_fetch : (z : Fetch) → f.fetch p ≡ z → fetch_now p z ≡ EndOfBlock k n → f.fetch p ≡ EndOfBlock k n
      by_fetch (Here x) h e = cc
      by_fetch (EndOfBlock j m) h e = h ∙ e
      by_fetch Outside h e = cc

    -- the rest of a block
    pub rest_now : (n : ℕ) → rest_of (blocks_now given silent blocks) (block_start n) ≡ items_now given silent n 0 (rest_of blocks (block_start n))
    rest_now n = ap (λ (bs : List Block). rest_in bs 0) (from_now blocks n) ∙ by_blocks (from_block blocks n) refl where
      drop_none : (ys : List Item) → drop 0 ys ≡ ys
      drop_none [] = refl
      drop_none (y ∷ ys) = refl

      by_blocks : (bs : List Block) → from_block blocks n ≡ bs → rest_in (blocks_now given silent bs) 0 ≡ items_now given silent n 0 (rest_in bs 0)
      by_blocks [] e = refl
      by_blocks (b ∷ bs) e =
          let id : b.id ≡ n = (found_in blocks n b bs e).1 in
          drop_none (items_now given silent b.id 0 b.items) ∙
          (λ t. items_now given silent (id t) 0 (sym (drop_none b.items) t))
