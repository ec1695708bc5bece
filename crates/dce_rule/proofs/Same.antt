-- Functions of the same code have the same live places.
use Rattle.std.proofs.Common.{◌≡◌, ◌⊎◌, inl, inr, ◌↔◌, ℕ, zero, suc, ◌+◌, List, [], ◌∷◌, drop, None, Bool, true, false, cond, nat_eq}
use Rattle.std.proofs.Common.{refl, sym, ap, subst, arith}
use Rattle.std.proofs.lemmas.Bool.{cases_eq}
use Rattle.rv64_instr.specs.declared.place.Place.{Place}
use Rattle.rv64_instr.specs.Row.{Row, Branches, Jumps, Returns, Unfit, row_of}
use Rattle.mir_func.specs.declared.position.Pos.{Pos}
use Rattle.mir_func.specs.declared.block.Block.{Block}
use Rattle.mir_func.specs.declared.item.Item.{Item}
use Rattle.mir_func.specs.declared.item.ItemKind.{ItemKind}
use Rattle.mir_func.specs.declared.item.ItemKind.TheVariants.{Code, Mark, Phi}
use Rattle.mir_func.specs.Function.{Function}
use Rattle.mir_func.specs.Graph.{Fetch, Here, EndOfBlock, Outside, Program, below, block_start}
use Rattle.mir_func.specs.Graph.{end_of, front, fetch_in, from_block, Edge, FetchEdge, KindEdge, RowEdge, rest_in, rest_of}
use Rattle.mir_func.specs.Successors.{pos_in, ComesDown, GoesTo}
use Rattle.sem_mir.specs.Align.{is_code}
use Rattle.sem_mir.specs.Live.{Uses, Defines, KindUses, KindDefines, Live, used, later}
use Rattle.sem_simulation.specs.MatchStates.{Laid, IsPastItems}
use Rattle.sem_simulation.proofs.Laid.{laid_out}
use Rattle.dce_rule.specs.Dead.{paths_of, LiveAtEnd}
use Rattle.dce_rule.specs.Same.{SameItems, none, both, first, second, SameBlocks, no_blocks, one_more}

-- ---- the relation

pub items_back : {xs ys : List Item} → SameItems xs ys → SameItems ys xs
items_back none = none
items_back (both x y i n m e e' more) = both y x i m n e' e (items_back more)
items_back (first x e more) = second x e (items_back more)
items_back (second y e more) = first y e (items_back more)

pub blocks_back : {us vs : List Block} → SameBlocks us vs → SameBlocks vs us
blocks_back no_blocks = no_blocks
blocks_back (one_more a b id same more) = one_more b a (sym id) (items_back same) (blocks_back more)

pub from_same : {us vs : List Block} → SameBlocks us vs → (n : ℕ) → SameBlocks (from_block us n) (from_block vs n)
from_same no_blocks n = no_blocks
from_same (one_more {us = us} {vs = vs} a b id same more) n = by_test (nat_eq a.id n) (nat_eq b.id n) (ap (λ (k : ℕ). nat_eq k n) id) (from_same more n) where
  by_test : (z w : Bool) → z ≡ w → SameBlocks (from_block us n) (from_block vs n) →
      SameBlocks (cond z (a ∷ us) (from_block us n)) (cond w (b ∷ vs) (from_block vs n))
  by_test true true e h = one_more a b id same more
  by_test false false e h = h
  by_test true false e h = cc
  by_test false true e h = cc

drop_zero : (xs : List Item) → drop 0 xs ≡ xs
drop_zero [] = refl
drop_zero (x ∷ xs) = refl

past_of : (xs : List Item) (k : ℕ) (bs : List Block) → xs ≡ [] → front xs k bs ≡ end_of k bs
past_of xs k bs e = ap (λ (z : List Item). front z k bs) e

up : {A : Type 0} (p : Pos) (n : ℕ) → block_start n ≡ below p → A
up p n e = let k : 0 ≡ p.item + 1 = ap (λ (q : Pos). q.item) e in absurd (omega (arith, k))

-- an edge of a row leads below, or to a block's start, from wherever the row stands
row_ways : (r : Row) (p q : Pos) → RowEdge (λ m. m) r p q →
    ((q ≡ below p) × ((p' : Pos) → RowEdge (λ m. m) r p' (below p'))) ⊎ ((n : ℕ) × (q ≡ block_start n) × ((p' : Pos) → RowEdge (λ m. m) r p' (block_start n)))
row_ways (Branches op a b t) p q (inl e) = inr (t, e, λ p'. inl refl)
row_ways (Branches op a b t) p q (inr e) = inl (e, λ p'. inr refl)
row_ways (Jumps t) p q e = inr (t, e, λ p'. refl)
row_ways (Returns v) p q e = absurd e
row_ways Unfit p q e = absurd e
row_ways _ p q e = inl (e, λ p'. refl)

pub debug_edge : (k : ItemKind) (p q : Pos) → is_code k ≡ false → KindEdge (λ m. m) k p q → q ≡ below p
debug_edge (Code i n) p q no_code e = cc
debug_edge (Mark v m) p q no_code e = e
debug_edge (Phi l n) p q no_code e = e

pub debug_below : (k : ItemKind) (p : Pos) → is_code k ≡ false → KindEdge (λ m. m) k p (below p)
debug_below (Code i n) p no_code = cc
debug_below (Mark v m) p no_code = refl
debug_below (Phi l n) p no_code = refl

module _ (f g : Function) (same : SameBlocks f.blocks g.blocks) where
  abbrev fp : Program
  fp = paths_of f

  abbrev gp : Program
  gp = paths_of g

  abbrev rf : Pos → List Item
  rf = rest_of f.blocks

  abbrev rg : Pos → List Item
  rg = rest_of g.blocks

  laid_f : Laid fp rf
  laid_f = laid_out false f.blocks (λ q. None)

  laid_g : Laid gp rg
  laid_g = laid_out false g.blocks (λ q. None)

  starts_same : (n : ℕ) → SameItems (rf (block_start n)) (rg (block_start n))
  starts_same n = by_blocks (from_same same n) where
    by_blocks : {us vs : List Block} → SameBlocks us vs → SameItems (rest_in us 0) (rest_in vs 0)
    by_blocks no_blocks = none
    by_blocks (one_more a b id items more) =
        subst (λ (xs : List Item). SameItems xs (drop 0 b.items)) (sym (drop_zero a.items)) (subst (SameItems a.items) (sym (drop_zero b.items)) items)

  -- past the items of a block both go to one next block
  past_same : (p p' : Pos) → p.block ≡ p'.block → rf p ≡ [] → rg p' ≡ [] → (q : Pos) → Edge fp p q → (n : ℕ) × (q ≡ block_start n) × Edge gp p' (block_start n)
  past_same p p' block none_f none_g q edge =
      by_same (subst (λ (n : ℕ). SameBlocks (from_block f.blocks p.block) (from_block g.blocks n)) block (from_same same p.block)) none_f none_g edge where
        Onward : Fetch → Type 0
        Onward x = (n : ℕ) × (q ≡ block_start n) × FetchEdge (λ m. m) x p' (block_start n)

        by_end : {us vs : List Block} (s t : ℕ) → SameBlocks us vs → FetchEdge (λ m. m) (end_of s us) p q →
            (n : ℕ) × (q ≡ block_start n) × FetchEdge (λ m. m) (end_of t vs) p' (block_start n)
        by_end s t no_blocks e = absurd e
        by_end s t (one_more a b id items more) e = (a.id, e, ap block_start id)

        by_same : {us vs : List Block} → SameBlocks us vs → rest_in us p.item ≡ [] → rest_in vs p'.item ≡ [] →
            FetchEdge (λ m. m) (fetch_in us p.item) p q → (n : ℕ) × (q ≡ block_start n) × FetchEdge (λ m. m) (fetch_in vs p'.item) p' (block_start n)
        by_same no_blocks na nb e = absurd e
        by_same (one_more {us = us} {vs = vs} a b id items more) na nb e =
            let w = by_end a.source_end b.source_end more (subst (λ (x : Fetch). FetchEdge (λ m. m) x p q) (past_of
            (drop p.item a.items) a.source_end us na) e) in
            (w.0, w.1, subst (λ (x : Fetch). FetchEdge (λ m. m) x p' (block_start w.0)) (sym (past_of (drop p'.item b.items) b.source_end vs nb)) w.2)

  edge_at : (p q : Pos) (x : Item) (xs : List Item) → rf p ≡ x ∷ xs → Edge fp p q → KindEdge (λ m. m) x.kind p q
  edge_at p q x xs at e = subst (λ (z : Fetch). FetchEdge (λ m. m) z p q) (laid_f.cons p x xs at).0 e

  edge_back : (p q : Pos) (y : Item) (ys : List Item) → rg p ≡ y ∷ ys → KindEdge (λ m. m) y.kind p q → Edge gp p q
  edge_back p q y ys at e = subst (λ (z : Fetch). FetchEdge (λ m. m) z p q) (sym (laid_g.cons p y ys at).0) e

  -- the rests of one block have the same code
  pub record Beside (p p' : Pos) : Type 0 where
    pub block : p.block ≡ p'.block
    pub rests : SameItems (rf p) (rg p')

  starts_beside : (n : ℕ) → Beside (block_start n) (block_start n)
  starts_beside n = record { block = refl; rests = starts_same n }

  no_define : (k : ItemKind) (x : Place) → is_code k ≡ false → KindDefines k x → ⊥
  no_define (Code i n) x e h = cc
  no_define (Mark v m) x e h = h
  no_define (Phi l n) x e h = h

  -- ---- liveness

  module _ (x : Place) where
    -- over debug items of g to where f's item stands
    past_debug : (p' : Pos) (y : Item) (ys : List Item) → rg p' ≡ y ∷ ys → is_code y.kind ≡ false → Live gp x (below p') → Live gp x p'
    past_debug p' y ys at no_code l =
        later (λ d. no_define y.kind x no_code (subst (λ (z : Fetch). Defines z x) (laid_g.cons p' y ys at).0 d))
        (edge_back p' (below p') y ys at (debug_below y.kind p' no_code)) l

    used_same : (xs ys : List Item) → SameItems xs ys → (p p' : Pos) → rf p ≡ xs → rg p' ≡ ys → Uses (fp.fetch p) x → Live gp x p'
    used_same xs ys none p p' at at' uses = absurd (no_use (fp.fetch p) (laid_f.nil p at).0 uses) where
      no_use : (z : Fetch) → IsPastItems z → Uses z x → ⊥
      no_use (Here i) past uses = past
      no_use (EndOfBlock k n) past uses = uses
      no_use Outside past uses = uses
    used_same (u ∷ us) (v ∷ vs) (both u' v' i n m e e' more) p p' at at' uses =
        let reads : KindUses u.kind x = subst (λ (z : Fetch). Uses z x) (laid_f.cons p u us at).0 uses in
        let reads' : KindUses v.kind x = subst (λ (k : ItemKind). KindUses k x) (sym e') (subst (λ (k : ItemKind). KindUses k x) e reads) in
        used (subst (λ (z : Fetch). Uses z x) (sym (laid_g.cons p' v vs at').0) reads')
    used_same (u ∷ us) ys (first u' no_code more) p p' at at' uses =
        absurd (no_use u.kind no_code (subst (λ (z : Fetch). Uses z x) (laid_f.cons p u us at).0 uses)) where
          no_use : (k : ItemKind) → is_code k ≡ false → KindUses k x → ⊥
          no_use (Code i n) e h = cc
          no_use (Mark v m) e h = h
          no_use (Phi l n) e h = h
    used_same xs (v ∷ vs) (second v' no_code more) p p' at at' uses =
        past_debug p' v vs at' no_code (used_same xs vs more p (below p') at (laid_g.cons p' v vs at').1 uses)

    later_same : (xs ys : List Item) → SameItems xs ys → (p p' q : Pos) → p.block ≡ p'.block → rf p ≡ xs → rg p' ≡ ys →
        (Defines (fp.fetch p) x → ⊥) → Edge fp p q → ((q' : Pos) → Beside q q' → Live gp x q') → Live gp x p'
    later_same xs ys none p p' q block at at' ne edge live =
        let w = past_same p p' block at at' q edge in
        later (no_def (gp.fetch p') (laid_g.nil p' at').0) w.2 (live (block_start w.0) (subst (λ (z : Pos). Beside z (block_start w.0)) (sym w.1)
        (starts_beside w.0))) where
          no_def : (z : Fetch) → IsPastItems z → Defines z x → ⊥
          no_def (Here i) past d = past
          no_def (EndOfBlock k n) past d = d
          no_def Outside past d = d
    later_same (u ∷ us) (v ∷ vs) (both u' v' i n m e e' more) p p' q block at at' ne edge live =
        let ne' : Defines (gp.fetch p') x → ⊥ = λ d. ne (subst (λ (z : Fetch). Defines z x) (sym (laid_f.cons p u us at).0)
        (subst (λ (k : ItemKind). KindDefines k x) (sym e) (subst (λ (k : ItemKind). KindDefines k x) e'
        (subst (λ (z : Fetch). Defines z x) (laid_g.cons p' v vs at').0 d)))) in
        let here : RowEdge (λ m. m) (row_of i) p q = subst (λ (k : ItemKind). KindEdge (λ m. m) k p q) e (edge_at p q u us at edge) in
        let to : (r : Pos) → RowEdge (λ m. m) (row_of i) p' r → Edge gp p' r =
        λ r h. edge_back p' r v vs at' (subst (λ (k : ItemKind). KindEdge (λ m. m) k p' r) (sym e') h) in
        elim (row_ways (row_of i) p q here) [
          | inl w ↦ later ne' (to (below p') (w.1 p')) (live (below p') (subst (λ (z : Pos). Beside z (below p')) (sym w.0)
              (record {
                block = block;
                rests = subst (λ (zs : List Item). SameItems zs (rg (below p'))) (sym (laid_f.cons p u us at).1)
                    (subst (SameItems us) (sym (laid_g.cons p' v vs at').1) more);
              })))
          | inr w ↦ later ne' (to (block_start w.0) (w.2 p')) (live (block_start w.0) (subst (λ (z : Pos). Beside z (block_start w.0)) (sym w.1)
              (starts_beside w.0)))
        ]
    later_same (u ∷ us) ys (first u' no_code more) p p' q block at at' ne edge live =
        let down : q ≡ below p = debug_edge u.kind p q no_code (edge_at p q u us at edge) in
        live p' (subst (λ (z : Pos). Beside z p') (sym down)
        (record {
          block = block;
          rests = subst (λ (zs : List Item). SameItems zs (rg p')) (sym (laid_f.cons p u us at).1) (subst (SameItems us)
              (sym at') more);
        }))
    later_same xs (v ∷ vs) (second v' no_code more) p p' q block at at' ne edge live =
        past_debug p' v vs at' no_code (later_same xs vs more p (below p') q block at (laid_g.cons p' v vs at').1 ne edge live)

    pub live_same : {p : Pos} → Live fp x p → (p' : Pos) → Beside p p' → Live gp x p'
    live_same {p} (used uses) p' b = used_same (rf p) (rg p') b.rests p p' refl refl uses
    live_same {p} (later {q = q} ne edge more) p' b =
        later_same (rf p) (rg p') b.rests p p' q b.block refl refl ne edge (λ q' beside. live_same more q' beside)

  -- ---- where control goes from a block

  data GoesFrom (h : Program) (n : ℕ) : Pos → Type 0 where
    out : {p : Pos} → Edge h p (block_start n) → GoesFrom h n p
    down : {p : Pos} → Edge h p (below p) → GoesFrom h n (below p) → GoesFrom h n p

  goes_down : (h : Program) (b n k : ℕ) → ComesDown h b k → Edge h (pos_in b k) (block_start n) → (j e : ℕ) → j + e ≡ k → GoesFrom h n (pos_in b j)
  goes_down h b n k comes edge j zero is = let same : j ≡ k = omega (arith, is) in
      subst (λ (i : ℕ). GoesFrom h n (pos_in b i)) (sym same) (out edge)
  goes_down h b n k comes edge j (suc e) is = down (comes j (omega (arith, is))) (goes_down h b n k comes edge (j + 1) e (omega (arith, is)))

  down_goes : (h : Program) (n : ℕ) {p : Pos} → GoesFrom h n p → ComesDown h p.block p.item → GoesTo h p.block n
  down_goes h n {p} (out edge) comes = (p.item, comes, edge)
  down_goes h n {p} (down edge more) comes = down_goes h n more (λ j lt. elim (cases_eq j p.item) [
    | inl e ↦ subst (λ (k : ℕ). Edge h (pos_in p.block k) (below (pos_in p.block k))) (sym e) edge
    | inr ne ↦ comes j (omega (arith, lt, ne))
  ])

  module _ (n : ℕ) where
    out_same : (xs ys : List Item) → SameItems xs ys → (p p' : Pos) → p.block ≡ p'.block → rf p ≡ xs → rg p' ≡ ys → Edge fp p (block_start n) →
        GoesFrom gp n p'
    out_same xs ys none p p' block at at' edge =
        let w = past_same p p' block at at' (block_start n) edge in
        out (subst (Edge gp p') (sym w.1) w.2)
    out_same (u ∷ us) (v ∷ vs) (both u' v' i k m e e' more) p p' block at at' edge =
        let here : RowEdge (λ m. m) (row_of i) p (block_start n) = subst (λ (k : ItemKind). KindEdge (λ m. m) k p (block_start n)) e (edge_at p
        (block_start n) u us at edge) in
        elim (row_ways (row_of i) p (block_start n) here) [
          | inl w ↦ up p n w.0
          | inr w ↦ out (subst (Edge gp p') (sym w.1) (edge_back p' (block_start w.0) v vs at'
              (subst (λ (k : ItemKind). KindEdge (λ m. m) k p' (block_start w.0)) (sym e') (w.2 p'))))
        ]
    out_same (u ∷ us) ys (first u' no_code more) p p' block at at' edge = up p n (debug_edge u.kind p (block_start n) no_code (edge_at p
        (block_start n) u us at edge))
    out_same xs (v ∷ vs) (second v' no_code more) p p' block at at' edge =
        down (edge_back p' (below p') v vs at' (debug_below v.kind p' no_code)) (out_same xs vs more p (below p') block at (laid_g.cons p' v vs at').1 edge)

    down_same : (xs ys : List Item) → SameItems xs ys → (p p' : Pos) → p.block ≡ p'.block → rf p ≡ xs → rg p' ≡ ys → Edge fp p (below p) →
        ((q' : Pos) → Beside (below p) q' → GoesFrom gp n q') → GoesFrom gp n p'
    down_same xs ys none p p' block at at' edge goes = let w = past_same p p' block at at' (below p) edge in up p w.0 (sym w.1)
    down_same (u ∷ us) (v ∷ vs) (both u' v' i k m e e' more) p p' block at at' edge goes =
        let here : RowEdge (λ m. m) (row_of i) p (below p) = subst (λ (k : ItemKind). KindEdge (λ m. m) k p (below p)) e (edge_at p (below p) u us at edge) in
        elim (row_ways (row_of i) p (below p) here) [
          | inl w ↦ down (edge_back p' (below p') v vs at' (subst (λ (k : ItemKind). KindEdge (λ m. m) k p' (below p')) (sym e') (w.1 p')))
              (goes (below p') (record {
                block = block;
                rests = subst (λ (zs : List Item). SameItems zs (rg (below p'))) (sym (laid_f.cons p u us at).1)
                    (subst (SameItems us) (sym (laid_g.cons p' v vs at').1) more);
              }))
          | inr w ↦ up p w.0 (sym w.1)
        ]
    down_same (u ∷ us) ys (first u' no_code more) p p' block at at' edge goes =
        goes p' (record {
          block = block;
          rests = subst (λ (zs : List Item). SameItems zs (rg p')) (sym (laid_f.cons p u us at).1) (subst
              (SameItems us) (sym at') more);
        })
    down_same xs (v ∷ vs) (second v' no_code more) p p' block at at' edge goes =
        down (edge_back p' (below p') v vs at' (debug_below v.kind p' no_code)) (down_same xs vs more p (below p') block at
        (laid_g.cons p' v vs at').1 edge goes)

    goes_same : {p : Pos} → GoesFrom fp n p → (p' : Pos) → Beside p p' → GoesFrom gp n p'
    goes_same {p} (out edge) p' b = out_same (rf p) (rg p') b.rests p p' b.block refl refl edge
    goes_same {p} (down edge more) p' b = down_same (rf p) (rg p') b.rests p p' b.block refl refl edge (λ q' beside. goes_same more q' beside)

  pub ends_from : (b : ℕ) (x : Place) → LiveAtEnd f b x → LiveAtEnd g b x
  ends_from b x (n, (k, comes, edge), live) =
      let goes = goes_down fp b n k comes edge 0 k (omega arith) in (
        n,
        down_goes gp n (goes_same n goes (block_start b) (starts_beside b)) (λ j lt. absurd (omega (arith, lt))),
        live_same x live (block_start n) (starts_beside n),
      )

-- functions of the same code have the same live places at their blocks' ends
pub ends_same : (f g : Function) → SameBlocks f.blocks g.blocks → (b : ℕ) (x : Place) → LiveAtEnd f b x ↔ LiveAtEnd g b x
ends_same f g same b x = (ends_from f g same b x, ends_from g f (blocks_back same) b x)
