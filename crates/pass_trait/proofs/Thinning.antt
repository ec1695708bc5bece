-- Blocks whose items are those that pass a test: what stands where.
use Rattle.std.proofs.Common.{◌≡◌, ℕ, zero, suc, List, [], ◌∷◌, map, filter, drop, length, Bool, true, false, cond, nat_eq, Option, refl, sym, ap, ◌∙◌}
use Rattle.sem_simulation.specs.mir_func.declared.debug_substitution.OperandPair.{OperandPair}
use Rattle.sem_simulation.specs.mir_func.declared.position.Pos.{Pos}
use Rattle.sem_simulation.specs.mir_func.declared.block.Block.{Block}
use Rattle.sem_simulation.specs.mir_func.declared.item.Item.{Item}
use Rattle.sem_simulation.specs.mir_func.Graph.{Here, EndOfBlock, Program, block_start, end_of, front, fetch_in, from_block, program_of, rest_in, rest_of}

-- the first of what is left from an index on
pub first_of_front : (xs : List Item) (k : ℕ) (bs : List Block) (y : Item) → front xs k bs ≡ Here y → (more : List Item) × (xs ≡ y ∷ more)
first_of_front [] k [] y e = cc
first_of_front [] k (b ∷ bs) y e = cc
first_of_front (x ∷ xs) k bs y e = let w : x ≡ y = cc in (xs, λ i. w i ∷ xs)

pub none_of_front : (xs : List Item) (k : ℕ) (bs : List Block) (j n : ℕ) → front xs k bs ≡ EndOfBlock j n → (xs ≡ []) × (end_of k bs ≡ EndOfBlock j n)
none_of_front [] k bs j n e = (refl, e)
none_of_front (x ∷ xs) k bs j n e = cc

pub drop_all : {A : Type 0} (xs : List A) → drop (length xs) xs ≡ []
drop_all [] = refl
drop_all (x ∷ xs) = drop_all xs

pub drop_zero : (xs : List Item) → drop 0 xs ≡ xs
drop_zero [] = refl
drop_zero (x ∷ xs) = refl

module _ (keep : Item → Bool) where
  abbrev pub thin : Block → Block
  thin b = record { id = b.id; items = filter keep b.items; source_end = b.source_end }

  pub from_thin : (bs : List Block) (n : ℕ) → from_block (map thin bs) n ≡ map thin (from_block bs n)
  from_thin [] n = refl
  from_thin (b ∷ bs) n = by_test (nat_eq b.id n) (from_thin bs n) where
    by_test : (z : Bool) → from_block (map thin bs) n ≡ map thin (from_block bs n) →
        cond z (map thin (b ∷ bs)) (from_block (map thin bs) n) ≡ map thin (cond z (b ∷ bs) (from_block bs n))
    by_test true h = refl
    by_test false h = h

  pub end_thin : (k : ℕ) (bs : List Block) → end_of k (map thin bs) ≡ end_of k bs
  end_thin k [] = refl
  end_thin k (b ∷ bs) = refl

  -- it stands somewhere in the list
  record Stands (xs : List Item) (y : Item) : Type 0 where
    index : ℕ
    rest : List Item
    at : drop index xs ≡ y ∷ rest

  further : (x : Item) (xs : List Item) (y : Item) → Stands xs y → Stands (x ∷ xs) y
  further x xs y s = record { index = suc s.index; rest = s.rest; at = s.at }

  -- what is left stood somewhere, and passes
  from_step : (z : Bool) (x : Item) (xs ys : List Item) (n : ℕ) (y : Item) (more : List Item) → keep x ≡ z →
      ((m : ℕ) → drop m ys ≡ y ∷ more → Stands xs y × (keep y ≡ true)) →
      drop n (cond z (x ∷ ys) ys) ≡ y ∷ more → Stands (x ∷ xs) y × (keep y ≡ true)
  from_step true x xs ys zero y more k rec h = let w : x ≡ y = cc in (record { index = 0; rest = xs; at = λ i. w i ∷ xs }, ap keep (sym w) ∙ k)
  from_step true x xs ys (suc n) y more k rec h = let r = rec n h in (further x xs y r.0, r.1)
  from_step false x xs ys n y more k rec h = let r = rec n h in (further x xs y r.0, r.1)

  left_from : (xs : List Item) (n : ℕ) (y : Item) (more : List Item) → drop n (filter keep xs) ≡ y ∷ more → Stands xs y × (keep y ≡ true)
  left_from [] zero y more e = cc
  left_from [] (suc n) y more e = cc
  left_from (x ∷ xs) n y more e = from_step (keep x) x xs (filter keep xs) n y more refl (λ m h. left_from xs m y more h) e

  -- what passes is still somewhere
  to_step : (z : Bool) (y : Item) (ys zs : List Item) (m : ℕ) (x : Item) (more : List Item) → keep y ≡ z → keep x ≡ true →
      ((n : ℕ) → drop n ys ≡ x ∷ more → Stands zs x) →
      drop m (y ∷ ys) ≡ x ∷ more → Stands (cond z (y ∷ zs) zs) x
  to_step true y ys zs zero x more z k rec h = let w : y ≡ x = cc in record { index = 0; rest = zs; at = λ i. w i ∷ zs }
  to_step true y ys zs (suc m) x more z k rec h = further y zs x (rec m h)
  to_step false y ys zs zero x more z k rec h = let w : y ≡ x = cc in let bad : true ≡ false = sym k ∙ ap keep (sym w) ∙ z in cc
  to_step false y ys zs (suc m) x more z k rec h = rec m h

  left_to : (xs : List Item) (m : ℕ) (x : Item) (more : List Item) → keep x ≡ true → drop m xs ≡ x ∷ more → Stands (filter keep xs) x
  left_to [] zero x more k e = cc
  left_to [] (suc m) x more k e = cc
  left_to (y ∷ ys) m x more k e = to_step (keep y) y ys (filter keep ys) m x more refl k (λ n h. left_to ys n x more k h) e

  module _ (sp : Bool) (blocks : List Block) (resolve : OperandPair → Option OperandPair) where
    abbrev f : Program
    f = program_of sp blocks resolve

    abbrev g : Program
    g = program_of sp (map thin blocks) resolve

    -- an item that is left stood in its block, and one that passes is left there
    pub item_from : (q : Pos) (y : Item) → g.fetch q ≡ Here y → (p : Pos) × (p.block ≡ q.block) × (f.fetch p ≡ Here y) × (keep y ≡ true)
    item_from q y e = by_blocks (from_block blocks q.block) refl (ap (λ (bs : List Block). fetch_in bs q.item) (sym (from_thin blocks q.block)) ∙ e) where
      by_blocks : (bs : List Block) → from_block blocks q.block ≡ bs → fetch_in (map thin bs) q.item ≡ Here y →
          (p : Pos) × (p.block ≡ q.block) × (f.fetch p ≡ Here y) × (keep y ≡ true)
      by_blocks [] h k = cc
      by_blocks (b ∷ bs) h k =
          let t = first_of_front (drop q.item (filter keep b.items)) b.source_end (map thin bs) y k in
          let s = left_from b.items q.item y t.0 t.1 in (
            record { block = q.block; item = s.0.index },
            refl,
            ap (λ (x : List Block). fetch_in x s.0.index) h ∙
                ap (λ (x : List Item). front x b.source_end bs) s.0.at,
            s.1,
          )

    pub item_to : (p : Pos) (x : Item) → keep x ≡ true → f.fetch p ≡ Here x → (q : Pos) × (q.block ≡ p.block) × (g.fetch q ≡ Here x)
    item_to p x k e = by_blocks (from_block blocks p.block) refl e where
      by_blocks : (bs : List Block) → from_block blocks p.block ≡ bs → fetch_in bs p.item ≡ Here x → (q : Pos) × (q.block ≡ p.block) × (g.fetch q ≡ Here x)
      by_blocks [] h e = cc
      by_blocks (b ∷ bs) h e =
          let t = first_of_front (drop p.item b.items) b.source_end bs x e in
          let s = left_to b.items p.item x t.0 k t.1 in (
            record { block = p.block; item = s.index },
            refl,
            ap (λ (z : List Block). fetch_in z s.index) (from_thin blocks p.block ∙ ap (map thin) h) ∙
                ap (λ (z : List Item). front z b.source_end (map thin bs)) s.at,
          )

    -- a block's end is where it was
    pub end_from : (q : Pos) (k n : ℕ) → g.fetch q ≡ EndOfBlock k n → (p : Pos) × (p.block ≡ q.block) × (f.fetch p ≡ EndOfBlock k n)
    end_from q k n e = by_blocks (from_block blocks q.block) refl (ap (λ (bs : List Block). fetch_in bs q.item) (sym (from_thin blocks q.block)) ∙ e) where
      by_blocks : (bs : List Block) → from_block blocks q.block ≡ bs → fetch_in (map thin bs) q.item ≡ EndOfBlock k n →
          (p : Pos) × (p.block ≡ q.block) × (f.fetch p ≡ EndOfBlock k n)
      by_blocks [] h e = cc
      by_blocks (b ∷ bs) h e =
          let t = none_of_front (drop q.item (filter keep b.items)) b.source_end (map thin bs) k n e in (
            record { block = q.block; item = length b.items },
            refl,
            ap (λ (x : List Block). fetch_in x (length b.items)) h ∙
                ap (λ (x : List Item). front x b.source_end bs) (drop_all b.items) ∙ sym (end_thin b.source_end bs) ∙ t.1,
          )

    -- past the items of a block f stands where g does
    pub end_there : (p q : Pos) (k n : ℕ) → p.block ≡ q.block → rest_of blocks p ≡ [] → g.fetch q ≡ EndOfBlock k n → f.fetch p ≡ EndOfBlock k n
    end_there p q k n same none e = by_blocks (from_block blocks q.block) refl
        (ap (λ (bs : List Block). fetch_in bs q.item) (sym (from_thin blocks q.block)) ∙ e) where
          by_blocks : (bs : List Block) → from_block blocks q.block ≡ bs → fetch_in (map thin bs) q.item ≡ EndOfBlock k n → f.fetch p ≡ EndOfBlock k n
          by_blocks [] h e = cc
          by_blocks (b ∷ bs) h e =
              let t = none_of_front (drop q.item (filter keep b.items)) b.source_end (map thin bs) k n e in
              let at : from_block blocks p.block ≡ b ∷ bs = ap (from_block blocks) same ∙ h in
              let r : drop p.item b.items ≡ [] = ap (λ (x : List Block). rest_in x p.item) (sym at) ∙ none in
              ap (λ (x : List Block). fetch_in x p.item) at ∙ ap (λ (x : List Item). front x b.source_end bs) r ∙ sym (end_thin b.source_end bs) ∙ t.1

    -- a block starts with what passes of its items
    pub rest_thin : (n : ℕ) → rest_of (map thin blocks) (block_start n) ≡ filter keep (rest_of blocks (block_start n))
    rest_thin n = ap (λ (bs : List Block). rest_in bs 0) (from_thin blocks n) ∙ by_blocks (from_block blocks n) where
      by_blocks : (bs : List Block) → rest_in (map thin bs) 0 ≡ filter keep (rest_in bs 0)
      by_blocks [] = refl
      by_blocks (b ∷ bs) = drop_zero (filter keep b.items) ∙ ap (filter keep) (sym (drop_zero b.items))
