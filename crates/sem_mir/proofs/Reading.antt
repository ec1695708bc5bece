-- A function as it is read follows itself, and has whole ends.
use Rattle.std.proofs.Common.{◌≡◌, ℕ, zero, suc, ◌+◌, ◌*◌, ◌<◌, ◌≤◌, List, [], ◌∷◌, length, drop, All, Contains, slice_get, slice_index_or, Option, Some}
use Rattle.std.proofs.Common.{None, Bool, true, false, cond, nat_eq, eq-eqb, ne_eqb, refl, sym, ap, ◌∙◌, subst, inl, inr, ◌⊎◌, arith}
use Rattle.std.proofs.lemmas.Bool.{eqb-true}
use Rattle.std.proofs.lemmas.List.Elements.{All-weaker, All-contains, All-contains_itself}
use Rattle.mir_func.specs.rv64_instr.Instruction.{is_volatile_load}
use Rattle.mir_func.specs.rv64_instr.Row.{Row, Branches, Jumps, Returns, Unfit, row_of}
use Rattle.mir_func.specs.declared.debug_substitution.OperandPair.{OperandPair}
use Rattle.mir_func.specs.declared.position.Pos.{Pos}
use Rattle.mir_func.specs.declared.position.Origin.{Origin}
use Rattle.mir_func.specs.declared.position.Origin.TheVariants.{Kept, Before}
use Rattle.mir_func.specs.declared.block.Block.{Block}
use Rattle.mir_func.specs.declared.object.Object.{Object}
use Rattle.mir_func.specs.declared.item.Item.{Item}
use Rattle.mir_func.specs.declared.item.ItemKind.{ItemKind}
use Rattle.mir_func.specs.declared.item.ItemKind.TheVariants.{Code, Mark, Phi}
use Rattle.mir_func.specs.declared.variable.MarkValue.TheVariants.{Nothing, Constant, At, Pair}
use Rattle.mir_func.specs.Sound.{AreApart, ids_of}
use Rattle.sem_mir.specs.State.{State, Core, content}
use Rattle.mir_func.specs.Graph.{Program, Fetch, Here, EndOfBlock, Outside, below, block_start, end_of, front, fetch_in, from_block, program_of, FetchEdge}
use Rattle.mir_func.specs.Graph.{KindEdge, RowEdge}
use Rattle.sem_mir.specs.Align.{Count, ByItems, ByEnds, sync_point_at, AnyOrigin, RunsMatch}
use Rattle.sem_mir.specs.InitialState.{first_of}
use Rattle.sem_mir.specs.Follow.{IsWithin, IsSource, IsRead, Among, none, same, OnRow, GoesTo, IsEnd, SameEnd, KindsEndAlike}
use Rattle.sem_mir.specs.InitialState.{IsInitialState}
use Rattle.sem_mir.specs.Follow.{InOrder, rank, next_rank, HasClass, KindFits, ItemIsVolatile, IsVolatile, StaysVolatile, MarkFits, Shape}
use Rattle.sem_mir.specs.Follow.{Follows, HasWholeEnds}
use Rattle.sem_mir.proofs.Sources.{in_step_any}
use Rattle.sem_mir.proofs.Told.{SeesLess, Beside, goes_beside, agrees_beside, tells_itself}

-- the blocks from a block's number on begin with a block of the list that has this number
pub found_in : (bs : List Block) (n : ℕ) (b : Block) (rest : List Block) → from_block bs n ≡ b ∷ rest → Contains bs b × (b.id ≡ n)
found_in [] n b rest e = cc
found_in (a ∷ cs) n b rest e = by_test (nat_eq a.id n) refl (found_in cs n b rest) e where
  by_test : (z : Bool) → nat_eq a.id n ≡ z → (from_block cs n ≡ b ∷ rest → Contains cs b × (b.id ≡ n)) → cond z (a ∷ cs) (from_block cs n) ≡ b ∷ rest →
      Contains (a ∷ cs) b × (b.id ≡ n)
  by_test true t later e =
      let ab : a ≡ b = cc in
      ((0, omega arith, ab), sym (ap (λ (x : Block). x.id) ab) ∙ eqb-true a.id n t)
  by_test false t later e = let h = later e in let k = h.0 in ((suc k.0, (let l = k.1 in omega (arith, l)), k.2), h.1)

-- and where numbers differ, with that block
pub record FoundAt (bs : List Block) (b : Block) : Type 0 where
  pub rest : List Block
  pub at : from_block bs b.id ≡ b ∷ rest

pub apart_tail : (n : ℕ) (ns : List ℕ) → AreApart (n ∷ ns) → AreApart ns
apart_tail n ns h i j m a b = let k : suc i ≡ suc j = h (suc i) (suc j) m a b in omega (arith, k)

number_at : (bs : List Block) (b : Block) (k : ℕ) → k < length bs → slice_index_or bs k b ≡ b → slice_get (ids_of bs) k ≡ Some b.id
number_at [] b k lt e = absurd (omega (arith, lt))
number_at (a ∷ cs) b zero lt e = ap (λ (x : Block). Some x.id) e
number_at (a ∷ cs) b (suc k) lt e = number_at cs b k (omega (arith, lt)) e

pub found : (bs : List Block) → AreApart (ids_of bs) → (b : Block) → Contains bs b → FoundAt bs b
found [] h b (k, lt, e) = absurd (omega (arith, lt))
found (a ∷ cs) h b (zero, lt, e) = record {
  rest = cs;
  at = (let t : nat_eq a.id b.id ≡ true = eq-eqb a.id b.id (ap (λ (x : Block). x.id) e) in
      ap (λ (z : Bool). cond z (a ∷ cs) (from_block cs b.id)) t) ∙ (λ i. e i ∷ cs);
}
found (a ∷ cs) h b (suc k, lt, e) =
    let ne : a.id ≡ b.id → ⊥ = λ eq. (let z : zero ≡ suc k = h zero (suc k) b.id (ap Some eq) (number_at cs b k (omega (arith, lt)) e) in omega (arith, z)) in
    let more = found cs (apart_tail a.id (ids_of cs) h) b (k, omega (arith, lt), e) in
    record { rest = more.rest; at = ap (λ (z : Bool). cond z (a ∷ cs) (from_block cs b.id)) (ne_eqb a.id b.id ne) ∙ more.at }

-- an item of a block, and its end
pub front_item : (is : List Item) (n k : ℕ) (bs : List Block) (i : Item) → front (drop n is) k bs ≡ Here i → slice_get is n ≡ Some i
front_item [] zero k [] i e = cc
front_item [] zero k (b ∷ bs) i e = cc
front_item [] (suc n) k [] i e = cc
front_item [] (suc n) k (b ∷ bs) i e = cc
front_item (j ∷ is) zero k bs i e = let w : j ≡ i = cc in ap Some w
front_item (j ∷ is) (suc n) k bs i e = front_item is n k bs i e

pub item_front : (is : List Item) (n k : ℕ) (bs : List Block) (i : Item) → slice_get is n ≡ Some i → front (drop n is) k bs ≡ Here i
item_front [] n k bs i e = cc
item_front (j ∷ is) zero k bs i e = let w : j ≡ i = cc in ap Here w
item_front (j ∷ is) (suc n) k bs i e = item_front is n k bs i e

pub front_end : (is : List Item) (n k : ℕ) (bs : List Block) (j m : ℕ) → front (drop n is) k bs ≡ EndOfBlock j m →
    (length is ≤ n) × (end_of k bs ≡ EndOfBlock j m)
front_end [] zero k bs j m e = (omega arith, e)
front_end [] (suc n) k bs j m e = (omega arith, e)
front_end (i ∷ is) zero k bs j m e = cc
front_end (i ∷ is) (suc n) k bs j m e = let h = front_end is n k bs j m e in let l = h.0 in (omega (arith, l), h.1)

end_front : (is : List Item) (n k : ℕ) (bs : List Block) → length is ≤ n → front (drop n is) k bs ≡ end_of k bs
end_front [] zero k bs le = refl
end_front [] (suc n) k bs le = refl
end_front (i ∷ is) zero k bs le = absurd (omega (arith, le))
end_front (i ∷ is) (suc n) k bs le = end_front is n k bs (omega (arith, le))

pub end_index : (k : ℕ) (bs : List Block) (j m : ℕ) → end_of k bs ≡ EndOfBlock j m → k ≡ j
end_index k [] j m e = cc
end_index k (b ∷ bs) j m e = cc

index_of : {A : Type 0} (xs : List A) (k : ℕ) (x : A) → k < length xs → slice_index_or xs k x ≡ x → slice_get xs k ≡ Some x
index_of [] k x lt e = absurd (omega (arith, lt))
index_of (y ∷ ys) zero x lt e = ap Some e
index_of (y ∷ ys) (suc k) x lt e = index_of ys k x (omega (arith, lt)) e

pub within_list : {A : Type 0} (xs : List A) (k : ℕ) (x : A) → slice_get xs k ≡ Some x → k < length xs
within_list [] k x e = cc
within_list (y ∷ ys) zero x e = omega arith
within_list (y ∷ ys) (suc k) x e = let h = within_list ys k x e in omega (arith, h)

-- the block after one isn't the first
pub next_block : (bs : List Block) (n : ℕ) (b c : Block) (rest : List Block) → from_block bs n ≡ b ∷ c ∷ rest →
    (i : ℕ) × (slice_get (ids_of bs) (suc i) ≡ Some c.id)
next_block [] n b c rest e = cc
next_block (a ∷ cs) n b c rest e = by_test (nat_eq a.id n) (next_block cs n b c rest) e where
  by_test : (z : Bool) → (from_block cs n ≡ b ∷ c ∷ rest → (i : ℕ) × (slice_get (ids_of cs) (suc i) ≡ Some c.id)) →
      cond z (a ∷ cs) (from_block cs n) ≡ b ∷ c ∷ rest → (i : ℕ) × (slice_get (ids_of (a ∷ cs)) (suc i) ≡ Some c.id)
  by_test true later e = let tail : cs ≡ c ∷ rest = cc in (0, ap (λ (z : List Block). slice_get (ids_of z) 0) tail)
  by_test false later e = let h = later e in (suc h.0, h.1)

-- each item of the block is its own origin
abbrev OwnItems : Block → Type 0
OwnItems b = (k : ℕ) (i : Item) → slice_get b.items k ≡ Some i → i.origin ≡ Kept (record { block = b.id; item = k })

among_self : (bs : List Block) → Among bs bs
among_self [] = none
among_self (b ∷ bs) = same refl refl (among_self bs)

in_order : (b k : ℕ) (xs : List Item) → ((j : ℕ) (i : Item) → slice_get xs j ≡ Some i → i.origin ≡ Kept (record { block = b; item = k + j })) →
    InOrder b (2 * k) xs
in_order b k [] own = tt
in_order b k (x ∷ xs) own =
    let z : k + 0 ≡ k = omega arith in
    let e : x.origin ≡ Kept (record { block = b; item = k }) = own 0 x refl ∙ ap (λ (n : ℕ). Kept (record { block = b; item = n })) z in
    let w : (k + 1) * 2 ≡ 2 * k + 2 = omega arith in
    let same_index : (j : ℕ) → k + suc j ≡ (k + 1) + j = λ j. omega arith in
    let rest = in_order b (k + 1) xs (λ j i h. own (suc j) i h ∙ ap (λ (n : ℕ). Kept (record { block = b; item = n })) (same_index j)) in
    let two : 2 * (k + 1) ≡ 2 * k + 2 = omega arith in
    subst (λ (o : Origin). ((Rattle.mir_func.specs.Positions.position_of o).block ≡ b) × (2 * k ≤ rank o) × InOrder b (next_rank o) xs) (sym e)
    (refl, omega arith, subst (λ (n : ℕ). InOrder b n xs) two rest)

end_alike : (k : ItemKind) → OnRow IsEnd k → KindsEndAlike k k
end_alike (Mark v m) h = absurd h
end_alike (Phi p n) h = absurd h
end_alike (Code c n) h = by_row (row_of c) h where
  by_row : (r : Row) → IsEnd r → SameEnd r r
  by_row (Branches op a b t) h = (refl, refl)
  by_row (Jumps t) h = refl
  by_row (Returns v) h = tt
  by_row _ h = absurd h

-- an edge back to the first place of a block is a branch's
back_edge : (k : ItemKind) (q : Pos) (n : ℕ) → KindEdge (λ m. m) k q (block_start n) → OnRow (GoesTo n) k
back_edge (Mark v m) q n e = let z : 0 ≡ q.item + 1 = ap (λ (p : Pos). p.item) e in absurd (omega (arith, z))
back_edge (Phi p m) q n e = let z : 0 ≡ q.item + 1 = ap (λ (p : Pos). p.item) e in absurd (omega (arith, z))
back_edge (Code c m) q n e = by_row (row_of c) e where
  not_below : {P : Type 0} → block_start n ≡ below q → P
  not_below e = let z : 0 ≡ q.item + 1 = ap (λ (p : Pos). p.item) e in absurd (omega (arith, z))

  by_row : (r : Row) → RowEdge (λ m. m) r q (block_start n) → GoesTo n r
  by_row (Branches op a b t) (inl e) = ap (λ (p : Pos). p.block) (sym e)
  by_row (Branches op a b t) (inr e) = not_below e
  by_row (Jumps t) e = ap (λ (p : Pos). p.block) (sym e)
  by_row (Returns v) e = absurd e
  by_row Unfit e = absurd e
  by_row _ e = not_below e

module _ (blocks : List Block) (read : IsRead blocks) where
  module _ (sp : Bool) (resolve : OperandPair → Option OperandPair) where
    abbrev program : Program
    program = program_of sp blocks resolve

    -- what stands at a position, in its block
    record Stands (p : Pos) : Type 0 where
      block : Block
      rest : List Block
      found : from_block blocks p.block ≡ block ∷ rest
      member : Contains blocks block
      id : block.id ≡ p.block
      source_end : block.source_end ≡ length block.items

    stands_in : (p : Pos) (x : List Block) → from_block blocks p.block ≡ x → (fetch_in x p.item ≡ Outside) ⊎ Stands p
    stands_in p [] e = inl refl
    stands_in p (b ∷ rest) e =
        let f = found_in blocks p.block b rest e in
        inr (record {
          block = b;
          rest = rest;
          found = e;
          member = f.0;
          id = f.1;
          source_end = All-contains (λ (c : Block). c.source_end ≡ length c.items) blocks b read.source_end f.0;
        })

    stands : (p : Pos) → (program.fetch p ≡ Outside) ⊎ Stands p
    stands p = elim (stands_in p (from_block blocks p.block) refl) as (λ z. (program.fetch p ≡ Outside) ⊎ Stands p) [ inl e ↦ inl e | inr s ↦ inr s ]

    fetch_at : (p : Pos) (s : Stands p) (n : ℕ) → program.fetch (record { block = p.block; item = n }) ≡ front (drop n s.block.items) s.block.source_end s.rest
    fetch_at p s n = ap (λ (x : List Block). fetch_in x n) s.found

    here_at : (p : Pos) (i : Item) → program.fetch p ≡ Here i → (s : Stands p) × (slice_get s.block.items p.item ≡ Some i)
    here_at p i e = elim (stands p) as (λ z. (s : Stands p) × (slice_get s.block.items p.item ≡ Some i)) [
      | inl o ↦ (let bad : Outside ≡ Here i = sym o ∙ e in cc)
      | inr s ↦ (s, front_item s.block.items p.item s.block.source_end s.rest i (sym (fetch_at p s p.item) ∙ e))
    ]

    end_at : (p : Pos) (k n : ℕ) → program.fetch p ≡ EndOfBlock k n →
        (s : Stands p) × (length s.block.items ≤ p.item) × (k ≡ length s.block.items) × (end_of s.block.source_end s.rest ≡ EndOfBlock k n)
    end_at p k n e = elim (stands p) as (λ z. (s : Stands p) × (length s.block.items ≤ p.item) × (k ≡ length s.block.items) × (end_of s.block.source_end
        s.rest ≡ EndOfBlock k n)) [
          | inl o ↦ (let bad : Outside ≡ EndOfBlock k n = sym o ∙ e in cc)
          | inr s ↦ (let h = front_end s.block.items p.item s.block.source_end s.rest k n (sym (fetch_at p s p.item) ∙ e) in
              (s, h.0, sym (end_index s.block.source_end s.rest k n h.1) ∙ s.source_end, h.1))
        ]

    same_block : (p : Pos) (s t : Stands p) → s.block ≡ t.block
    same_block p s t = let e : s.block ∷ s.rest ≡ t.block ∷ t.rest = sym s.found ∙ t.found in cc

    pub is_source : IsSource program
    is_source = record {
      items = λ p i e.
          let h = here_at p i e in
          All-contains OwnItems blocks h.0.block read.items h.0.member p.item i h.1
          ∙ ap (λ (n : ℕ). Kept (record { block = n; item = p.item })) h.0.id;
      ends = λ p k n e.
          let h = end_at p k n e in
          fetch_at p h.0 k ∙ end_front h.0.block.items k h.0.block.source_end h.0.rest (let z = h.2 in omega (arith, z)) ∙ h.3;
      starts = λ m k n e. let h = end_at (block_start m) k n e in (let a = h.1 in let b = h.2 in omega (arith, a, b));
      falls = λ p i e k n f.
          let a = here_at p i e in
          let h = end_at (below p) k n f in
          let lt = within_list a.0.block.items p.item i a.1 in
          let sb : a.0.block ≡ h.0.block = (let z : a.0.block ∷ a.0.rest ≡ h.0.block ∷ h.0.rest = sym a.0.found ∙ h.0.found in cc) in
          let len : length a.0.block.items ≡ length h.0.block.items = ap (λ (b : Block). length b.items) sb in
          (let x = h.1 in let y = h.2 in omega (arith, lt, len, x, y));
    }

  module _ (resolve : OperandPair → Option OperandPair) where
    abbrev src : Program
    src = program_of true blocks resolve

    abbrev fp : Program
    fp = program_of false blocks resolve

    not_first : (q : Pos) (k n : ℕ) → src.fetch q ≡ EndOfBlock k n → n ≡ first_of blocks → ⊥
    not_first q k n e at =
        let h = end_at true resolve q k n e in
        by_rest h.0.rest refl h.3 where
          by_first : (bs : List Block) (i m : ℕ) → AreApart (ids_of bs) → slice_get (ids_of bs) (suc i) ≡ Some m → m ≡ first_of bs → ⊥
          by_first [] i m ap' e f = cc
          by_first (b ∷ bs) i m ap' e f = let z : suc i ≡ zero = ap' (suc i) zero m e (ap Some (sym f)) in omega (arith, z)

          by_rest : (rest : List Block) → (end_at true resolve q k n e).0.rest ≡ rest →
              end_of (end_at true resolve q k n e).0.block.source_end rest ≡ EndOfBlock k n → ⊥
          by_rest [] r h = cc
          by_rest (c ∷ cs) r h =
              let cn : c.id ≡ n = cc in
              let s = (end_at true resolve q k n e).0 in
              let nb = next_block blocks q.block s.block c cs (s.found ∙ (λ i. s.block ∷ r i)) in
              by_first blocks nb.0 n read.apart (nb.1 ∙ ap Some cn) at

    kind_fits : (i : Item) (k : ItemKind) → i.kind ≡ k → (p : Pos) (source_end : ℕ) → src.fetch p ≡ Here i → KindFits src k source_end (Kept p)
    kind_fits i (Mark v m) e p source_end f = tt
    kind_fits i (Phi x m) e p source_end f = tt
    kind_fits i (Code c m) e p source_end f = subst (HasClass (row_of c)) (sym f) (subst (Rattle.sem_mir.specs.Follow.ItemHasClass (row_of c)) (sym e) refl)

    volatile_fits : (i : Item) (k : ItemKind) → i.kind ≡ k → (p : Pos) → src.fetch p ≡ Here i → StaysVolatile src k (Kept p)
    volatile_fits i (Mark v m) e p f = tt
    volatile_fits i (Phi x m) e p f = tt
    volatile_fits i (Code c m) e p f = subst (IsVolatile (is_volatile_load c)) (sym f) (subst (ItemIsVolatile (is_volatile_load c)) (sym e) refl)

    kept_fits : (k : ItemKind) (p : Pos) → MarkFits k (Kept p)
    kept_fits (Code c n) p = tt
    kept_fits (Mark v Nothing) p = tt
    kept_fits (Mark v (Constant z)) p = tt
    kept_fits (Mark v (At r)) p = tt
    kept_fits (Mark v (Pair q)) p = tt
    kept_fits (Phi x n) p = tt

    item_kept : (b : Block) → Contains blocks b → (i : Item) → (c : Contains b.items i) → i.origin ≡ Kept (record { block = b.id; item = c.0 })
    item_kept b m i (k, lt, e) = All-contains OwnItems blocks b read.items m k i (index_of b.items k i lt e)

    item_fits : (b : Block) → Contains blocks b → (i : Item) → Contains b.items i → KindFits src i.kind b.source_end i.origin
    item_fits b m i (k, lt, e) =
        let g = index_of b.items k i lt e in
        let o = All-contains OwnItems blocks b read.items m k i g in
        let f = found blocks read.apart b m in
        let at : src.fetch (record { block = b.id; item = k }) ≡ Here i = ap (λ (x : List Block). fetch_in x k) f.at ∙
        item_front b.items k b.source_end f.rest i g in
        subst (KindFits src i.kind b.source_end) (sym o) (kind_fits i i.kind refl (record { block = b.id; item = k }) b.source_end at)

    item_stays : (b : Block) → Contains blocks b → (i : Item) → Contains b.items i → StaysVolatile src i.kind i.origin
    item_stays b m i (k, lt, e) =
        let g = index_of b.items k i lt e in
        let o = All-contains OwnItems blocks b read.items m k i g in
        let f = found blocks read.apart b m in
        let at : src.fetch (record { block = b.id; item = k }) ≡ Here i = ap (λ (x : List Block). fetch_in x k) f.at ∙
        item_front b.items k b.source_end f.rest i g in
        subst (StaysVolatile src i.kind) (sym o) (volatile_fits i i.kind refl (record { block = b.id; item = k }) at)

    shape : Shape blocks blocks src fp
    shape = record {
      among = among_self blocks;
      first = refl;
      back = λ q reach e. by_edge q (src.fetch q) refl e;
      order = All-weaker OwnItems (λ (b : Block). InOrder b.id 0 b.items)
          (λ b own. in_order b.id 0 b.items (λ j i h. own j i h ∙ ap (λ (n : ℕ). Kept (record { block = b.id; item = n })) (let z : j ≡ 0 + j =
          omega arith in z))) blocks read.items;
      items = All-weaker (Contains blocks) (λ (b : Block). All (λ i. KindFits src i.kind b.source_end i.origin) b.items)
          (λ b m. All-weaker (Contains b.items) (λ (i : Item). KindFits src i.kind b.source_end i.origin) (item_fits b m) b.items (All-contains_itself b.items))
          blocks (All-contains_itself blocks);
      volatile = All-weaker (Contains blocks) (λ (b : Block). All (λ i. StaysVolatile src i.kind i.origin) b.items)
          (λ b m. All-weaker (Contains b.items) (λ (i : Item). StaysVolatile src i.kind i.origin) (item_stays b m) b.items (All-contains_itself b.items))
          blocks (All-contains_itself blocks);
      stores = λ b m p i pb f s o. (let bad : Kept p ≡ Before (record { block = b.id; item = b.source_end }) =
          sym ((is_source false resolve).items p i f) ∙ o in cc);
      marks = All-weaker (Contains blocks) (λ (b : Block). All (λ i. MarkFits i.kind i.origin) b.items)
          (λ b m. All-weaker (Contains b.items) (λ (i : Item). MarkFits i.kind i.origin) (λ i c. subst (MarkFits i.kind) (sym (item_kept b m i c))
          (kept_fits i.kind _)) b.items (All-contains_itself b.items)) blocks (All-contains_itself blocks);
    } where
      by_edge : (q : Pos) (x : Fetch) → src.fetch q ≡ x → FetchEdge (λ n. n) x q (block_start (first_of blocks)) →
          (p : Pos) × (i : Item) × (fp.fetch p ≡ Here i) × OnRow (GoesTo (first_of blocks)) i.kind
      by_edge q (Here i) f e = (q, i, f, back_edge i.kind q (first_of blocks) e)
      by_edge q (EndOfBlock k n) f e = absurd (not_first q k n f (ap (λ (p : Pos). p.block) (sym e)))
      by_edge q Outside f e = absurd e

    sees_less : SeesLess src fp
    sees_less = record { sees = λ r c v e. by_register r c v (nat_eq r 2) e; resolve = λ q. refl } where
      by_register : (r : ℕ) (c : Core) (v : ℕ) (z : Bool) → cond z None (content c.regs r) ≡ Some v → content c.regs r ≡ Some v
      by_register r c v true e = cc
      by_register r c v false e = e

    runs : (c : Count) (objects : List Object) (s : State) → IsInitialState objects (first_of blocks) s →
        RunsMatch src fp (sync_point_at c fp) (AnyOrigin (sync_point_at c fp)) s s
    runs c objects s st =
        let own = is_source false resolve in
        in_step_any fp own c src (Beside src fp sees_less)
        (record { pos = λ t u b. b.pos; goes = goes_beside src fp sees_less refl refl; agrees = agrees_beside src fp sees_less refl refl })
        s s (record { pos = refl; tells = tells_itself s.core }) (subst (IsWithin fp) (sym st.pos) (own.starts (first_of blocks)))

    -- it follows itself
    pub follows_itself : (objects : List Object) → Follows objects blocks blocks resolve resolve
    follows_itself objects = record { shape = shape; runs = runs ByItems objects }

    -- and has its own blocks and their ends
    pub whole_ends_of_itself : (objects : List Object) → HasWholeEnds objects blocks blocks resolve resolve
    whole_ends_of_itself objects = record {
      blocks = refl;
      kept = λ p i f e. (p, i, f, (is_source false resolve).items p i f, end_alike i.kind e);
      only = λ q j f e. (q, j, f, (is_source false resolve).items q j f, end_alike j.kind e);
      runs = runs ByEnds objects;
    }
