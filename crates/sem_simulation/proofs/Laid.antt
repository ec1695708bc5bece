-- A function's blocks are laid out: what stands from each position to its block's end.
use Rattle.std.proofs.Common.{◌≡◌, ℕ, zero, suc, ◌+◌, ◌*◌, ◌<◌, ◌≤◌, List, [], ◌∷◌, drop, All, Contains, slice_get, slice_index_or, Option, Some, Bool, true}
use Rattle.std.proofs.Common.{false, cond, nat_eq, ne_eqb, refl, sym, ap, ◌∙◌, subst, arith}
use Rattle.std.proofs.lemmas.List.Elements.{All-contains}
use Rattle.sem_mir.specs.mir_func.declared.debug_substitution.OperandPair.{OperandPair}
use Rattle.sem_mir.specs.mir_func.declared.position.Pos.{Pos}
use Rattle.sem_mir.specs.mir_func.declared.position.Origin.{Origin}
use Rattle.sem_mir.specs.mir_func.declared.position.Origin.TheVariants.{Kept, Before}
use Rattle.sem_mir.specs.mir_func.declared.block.Block.{Block}
use Rattle.sem_mir.specs.mir_func.declared.item.Item.{Item}
use Rattle.sem_mir.specs.mir_func.Sound.{AreApart, ids_of, OriginIn}
use Rattle.sem_mir.specs.mir_func.Graph.{Program, Here, EndOfBlock, block_start, end_of, front, fetch_in, from_block, index_of, program_of}
use Rattle.sem_mir.specs.mir_func.Graph.{framed_program, rest_in, rest_of}
use Rattle.sem_mir.specs.mir_func.Positions.{position_of}
use Rattle.sem_mir.specs.Follow.{next_rank, InOrder}
use Rattle.sem_mir.proofs.Reading.{found_in, front_item, front_end, end_index, within_list, next_block, apart_tail}
use Rattle.sem_simulation.specs.MatchStates.{IsPastItems, Laid}

drop_one : (xs : List Item) (n : ℕ) (x : Item) (rest : List Item) → drop n xs ≡ x ∷ rest → drop (suc n) xs ≡ rest
drop_one [] zero x rest e = cc
drop_one [] (suc n) x rest e = cc
drop_one (y ∷ ys) zero x rest e = cc
drop_one (y ∷ ys) (suc n) x rest e = drop_one ys n x rest e

drop_none : (xs : List Item) (n : ℕ) → drop n xs ≡ [] → drop (suc n) xs ≡ []
drop_none [] zero e = refl
drop_none [] (suc n) e = refl
drop_none (y ∷ ys) zero e = cc
drop_none (y ∷ ys) (suc n) e = drop_none ys n e

end_is_past : (k : ℕ) (bs : List Block) → IsPastItems (end_of k bs)
end_is_past k [] = tt
end_is_past k (b ∷ bs) = tt

cons_in : (bs : List Block) (n : ℕ) (x : Item) (xs : List Item) → rest_in bs n ≡ x ∷ xs → (fetch_in bs n ≡ Here x) × (rest_in bs (n + 1) ≡ xs)
cons_in [] n x xs e = cc
cons_in (b ∷ bs) n x xs e = let k : n + 1 ≡ suc n = omega arith in
    (ap (λ (z : List Item). front z b.source_end bs) e, ap (λ (m : ℕ). drop m b.items) k ∙ drop_one b.items n x xs e)

nil_in : (bs : List Block) (n : ℕ) → rest_in bs n ≡ [] → IsPastItems (fetch_in bs n) × (rest_in bs (n + 1) ≡ [])
nil_in [] n e = (tt, refl)
nil_in (b ∷ bs) n e = let k : n + 1 ≡ suc n = omega arith in (
  subst (λ (z : List Item). IsPastItems (front z b.source_end bs)) (sym e) (end_is_past b.source_end bs),
  ap (λ
      (m : ℕ). drop m b.items) k ∙ drop_none b.items n e,
)

pub laid_out : (sp : Bool) (blocks : List Block) (resolve : OperandPair → Option OperandPair) → Laid (program_of sp blocks resolve) (rest_of blocks)
laid_out sp blocks resolve = record {
  cons = λ p x xs e. cons_in (from_block blocks p.block) p.item x xs e;
  nil = λ p e. nil_in (from_block blocks p.block) p.item e;
}

-- with a frame, a position's block is its index
pub laid_out_framed : (blocks : List Block) (resolve : OperandPair → Option OperandPair) →
    Laid (framed_program blocks resolve) (λ p. rest_in (drop p.block blocks) p.item)
laid_out_framed blocks resolve = record { cons = λ p x xs e. cons_in (drop p.block blocks) p.item x xs e; nil = λ p e. nil_in (drop p.block blocks) p.item e }

-- what stands at a position is of the block with its number
pub record IsIn (blocks : List Block) (p : Pos) : Type 0 where
  pub block : Block
  pub rest : List Block
  pub found : from_block blocks p.block ≡ block ∷ rest
  pub member : Contains blocks block
  pub id : block.id ≡ p.block

drop_zero : (xs : List Item) → drop 0 xs ≡ xs
drop_zero [] = refl
drop_zero (x ∷ xs) = refl

contains_at : (xs : List Item) (k : ℕ) (x : Item) → slice_get xs k ≡ Some x → slice_index_or xs k x ≡ x
contains_at [] k x e = cc
contains_at (y ∷ ys) zero x e = cc
contains_at (y ∷ ys) (suc k) x e = contains_at ys k x e

origin_block : (b : Block) (o : Origin) → OriginIn b o → (position_of o).block ≡ b.id
origin_block b (Kept p) h = h.0
origin_block b (Before p) h = h.0

origin_within : (b : Block) (o : Origin) → OriginIn b o → (position_of o).item ≤ b.source_end
origin_within b (Kept p) h = let k = h.1 in omega (arith, k)
origin_within b (Before p) h = h.1

origin_next : (b : Block) (o : Origin) → OriginIn b o → next_rank o ≤ 2 * b.source_end
origin_next b (Kept p) h = let k = h.1 in omega (arith, k)
origin_next b (Before p) h = let k = h.1 in omega (arith, k)

module _ (sp : Bool) (blocks : List Block) (resolve : OperandPair → Option OperandPair) where
  abbrev g : Program
  g = program_of sp blocks resolve

  item_in : (p : Pos) (i : Item) → g.fetch p ≡ Here i → (s : IsIn blocks p) × Contains s.block.items i
  item_in p i e = by_blocks (from_block blocks p.block) refl e where
    by_blocks : (x : List Block) → from_block blocks p.block ≡ x → fetch_in x p.item ≡ Here i → (s : IsIn blocks p) × Contains s.block.items i
    by_blocks [] f e = cc
    by_blocks (b ∷ rest) f e =
        let k = found_in blocks p.block b rest f in
        let at = front_item b.items p.item b.source_end rest i e in
        (record { block = b; rest = rest; found = f; member = k.0; id = k.1 }, (p.item, within_list b.items p.item i at, contains_at b.items p.item i at))

  end_in : (p : Pos) (k n : ℕ) → g.fetch p ≡ EndOfBlock k n →
      (s : IsIn blocks p) × (s.block.source_end ≡ k) × (end_of s.block.source_end s.rest ≡ EndOfBlock k n)
  end_in p k n e = by_blocks (from_block blocks p.block) refl e where
    by_blocks : (x : List Block) → from_block blocks p.block ≡ x → fetch_in x p.item ≡ EndOfBlock k n →
        (s : IsIn blocks p) × (s.block.source_end ≡ k) × (end_of s.block.source_end s.rest ≡ EndOfBlock k n)
    by_blocks [] f e = cc
    by_blocks (b ∷ rest) f e =
        let h = found_in blocks p.block b rest f in
        let z = front_end b.items p.item b.source_end rest k n e in
        (record { block = b; rest = rest; found = f; member = h.0; id = h.1 }, end_index b.source_end rest k n z.1, z.1)

  same_block : (p q : Pos) → p.block ≡ q.block → (s : IsIn blocks p) (t : IsIn blocks q) → s.block ≡ t.block
  same_block p q e s t = let w : s.block ∷ s.rest ≡ t.block ∷ t.rest = sym s.found ∙ ap (from_block blocks) e ∙ t.found in cc

  -- a block's items are in order from its start
  pub in_order_at : All (λ (b : Block). InOrder b.id 0 b.items) blocks → (n : ℕ) → InOrder n 0 (rest_of blocks (block_start n))
  in_order_at ord n = by_blocks (from_block blocks n) refl where
    by_blocks : (x : List Block) → from_block blocks n ≡ x → InOrder n 0 (rest_in x 0)
    by_blocks [] e = tt
    by_blocks (b ∷ rest) e =
        let h = found_in blocks n b rest e in
        subst (InOrder n 0) (sym (drop_zero b.items))
        (subst (λ (m : ℕ). InOrder m 0 b.items) h.1 (All-contains (λ (c : Block). InOrder c.id 0 c.items) blocks b ord h.0))

  -- a block has one end
  pub one_end : (p q : Pos) (k n k' n' : ℕ) → g.fetch p ≡ EndOfBlock k n → g.fetch q ≡ EndOfBlock k' n' → p.block ≡ q.block → k ≡ k'
  one_end p q k n k' n' e f b =
      let s = end_in p k n e in
      let t = end_in q k' n' f in
      sym s.1 ∙ ap (λ (c : Block). c.source_end) (same_block p q b s.0 t.0) ∙ t.1

  module _ (origins : All (λ (b : Block). All (λ (i : Item). OriginIn b i.origin) b.items) blocks) where
    origin_at : (p : Pos) (i : Item) (e : g.fetch p ≡ Here i) → OriginIn (item_in p i e).0.block i.origin
    origin_at p i e =
        let s = item_in p i e in
        All-contains (λ (j : Item). OriginIn s.0.block j.origin) s.0.block.items i
        (All-contains (λ (b : Block). All (λ (j : Item). OriginIn b j.origin) b.items) blocks s.0.block origins s.0.member) s.1

    -- items come from their own block, and no later than its end
    pub from_home : (p : Pos) (i : Item) → g.fetch p ≡ Here i → (position_of i.origin).block ≡ p.block
    from_home p i e = origin_block (item_in p i e).0.block i.origin (origin_at p i e) ∙ (item_in p i e).0.id

    pub from_within : (p q : Pos) (i : Item) (k n : ℕ) → g.fetch p ≡ Here i → g.fetch q ≡ EndOfBlock k n → p.block ≡ q.block → (position_of i.origin).item ≤ k
    from_within p q i k n e f b =
        let t = end_in q k n f in
        subst (λ (m : ℕ). (position_of i.origin).item ≤ m) (ap (λ (c : Block). c.source_end) (same_block p q b (item_in p i e).0 t.0) ∙ t.1)
        (origin_within (item_in p i e).0.block i.origin (origin_at p i e))

    pub from_before_end : (p q : Pos) (i : Item) (k n : ℕ) → g.fetch p ≡ Here i → g.fetch q ≡ EndOfBlock k n → p.block ≡ q.block → next_rank i.origin ≤ 2 * k
    from_before_end p q i k n e f b =
        let t = end_in q k n f in
        subst (λ (m : ℕ). next_rank i.origin ≤ 2 * m) (ap (λ (c : Block). c.source_end) (same_block p q b (item_in p i e).0 t.0) ∙ t.1)
        (origin_next (item_in p i e).0.block i.origin (origin_at p i e))

index_next : (bs : List Block) → AreApart (ids_of bs) → (m : ℕ) (b c : Block) (rest : List Block) → from_block bs m ≡ b ∷ c ∷ rest →
    index_of bs m < index_of bs c.id
index_next [] h m b c rest e = cc
index_next (a ∷ cs) h m b c rest e = by_test (nat_eq a.id m) refl e (next_block (a ∷ cs) m b c rest e)
    (index_next cs (apart_tail a.id (ids_of cs) h) m b c rest) where
      by_test : (z : Bool) → nat_eq a.id m ≡ z → cond z (a ∷ cs) (from_block cs m) ≡ b ∷ c ∷ rest →
          (i : ℕ) × (slice_get (ids_of (a ∷ cs)) (suc i) ≡ Some c.id) →
          (from_block cs m ≡ b ∷ c ∷ rest → index_of cs m < index_of cs c.id) →
          cond (nat_eq a.id m) 0 (suc (index_of cs m)) < cond (nat_eq a.id c.id) 0 (suc (index_of cs c.id))
      by_test z t e nb later =
          let ne : a.id ≡ c.id → ⊥ = λ q. (let k : zero ≡ suc nb.0 = h zero (suc nb.0) c.id (ap Some q) nb.1 in omega (arith, k)) in
          rw (ne_eqb a.id c.id ne) (by_head z t e later) where
            by_head : (z : Bool) → nat_eq a.id m ≡ z → cond z (a ∷ cs) (from_block cs m) ≡ b ∷ c ∷ rest →
                (from_block cs m ≡ b ∷ c ∷ rest → index_of cs m < index_of cs c.id) → cond (nat_eq a.id m) 0 (suc (index_of cs m)) < suc (index_of cs c.id)
            by_head true t e later = rw t (omega arith)
            by_head false t e later = let k = later e in rw t (omega (arith, k))

-- where block numbers differ, a block falls into one further down in the text
pub falls_down : (sp : Bool) (blocks : List Block) (resolve : OperandPair → Option OperandPair) → AreApart (ids_of blocks) → (p : Pos) (k n : ℕ) →
    (program_of sp blocks resolve).fetch p ≡ EndOfBlock k n → index_of blocks p.block < index_of blocks n
falls_down sp blocks resolve apart p k n e = let s = end_in sp blocks resolve p k n e in by_rest s.0.block s.0.rest s.0.found s.2 where
  by_rest : (b : Block) (rest : List Block) → from_block blocks p.block ≡ b ∷ rest → end_of b.source_end rest ≡ EndOfBlock k n →
      index_of blocks p.block < index_of blocks n
  by_rest b [] f h = cc
  by_rest b (c ∷ rest) f h = let cn : c.id ≡ n = cc in
      subst (λ (m : ℕ). index_of blocks p.block < index_of blocks m) cn (index_next blocks apart p.block b c rest f)
