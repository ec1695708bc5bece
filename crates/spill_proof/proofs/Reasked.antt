-- What stands where, where marks ask for the numbers of phis right before them.
use Rattle.std.proofs.Common.{◌≡◌, ℕ, zero, suc, ◌+◌, ◌≤◌, List, [], ◌∷◌, drop, Option, Some}
use Rattle.std.proofs.Common.{Bool, true, false}
use Rattle.std.proofs.Common.{cond, nat_eq, refl, sym, ap, ◌∙◌, subst, arith}
use Rattle.rv64_instr.specs.declared.place.Place.TheVariants.{Register}
use Rattle.rv64_instr.specs.Row.{Row}
use Rattle.mir_func.specs.declared.block.Block.{Block}
use Rattle.mir_func.specs.declared.debug_substitution.OperandPair.{OperandPair}
use Rattle.mir_func.specs.declared.item.Item.{Item}
use Rattle.mir_func.specs.declared.item.ItemKind.{ItemKind}
use Rattle.mir_func.specs.declared.item.ItemKind.TheVariants.{Code, Mark, Phi}
use Rattle.mir_func.specs.declared.location.Loc.{Loc}
use Rattle.mir_func.specs.declared.position.Origin.{Origin}
use Rattle.mir_func.specs.declared.position.Pos.{Pos}
use Rattle.mir_func.specs.declared.variable.MarkValue.TheVariants.{At, Pair}
use Rattle.mir_func.specs.declared.variable.VarId.{VarId}
use Rattle.mir_func.specs.Graph.{Program, Fetch, Here, EndOfBlock, Outside, below, block_start, end_of, front, fetch_in, from_block, program_of}
use Rattle.mir_func.specs.Graph.{FetchEdge, Leads, stay, go}
use Rattle.sem_mir.specs.Align.{is_code}
use Rattle.sem_mir.specs.Follow.{OnRow, KindsEndAlike}
use Rattle.pass_trait.specs.Rule.{item, item_before, first_operand}
use Rattle.spill_proof.proofs.Remarked.{Reasks, no_items, same, asks, BlocksReask, over, further}

-- what stands at a place, before and after
pub data FetchLike : Fetch → Fetch → Type 0 where
  alike : {x y : Fetch} → y ≡ x → FetchLike x y
  mark_asks : {v : VarId} {r k : ℕ} {o : Origin} {l : Loc} →
      FetchLike (Here (item (Mark v (At r)) o l)) (Here (item (Mark v (Pair (first_operand k))) o l))

-- a mark of a register stands there
abbrev marks_register : ItemKind → Bool
marks_register (Mark v (At r)) = true
marks_register _ = false

abbrev pub has_register_mark : Fetch → Bool
has_register_mark (Here i) = marks_register i.kind
has_register_mark _ = false

-- a phi of the register with the number that the pair has, right above
pub record IsAbove (least : ℕ) (x : Fetch) (r : ℕ) (q : OperandPair) : Type 0 where
  pub number : ℕ
  pub origin : Origin
  pub fresh : least ≤ number
  pub pair : q ≡ first_operand number
  pub phi : x ≡ Here (item_before (Phi (Some (Register r)) number) origin)

module _ (least : ℕ) where
  end_same : (k k' : ℕ) (fs gs : List Block) → k' ≡ k → BlocksReask least fs gs → end_of k' gs ≡ end_of k fs
  end_same k k' fs gs e over = refl
  end_same k k' (a ∷ fs) (b ∷ gs) e (further id source_end items rest) = λ i. EndOfBlock (e i) (id i)

  module _ (k k' : ℕ) (fs gs : List Block) (source_end : k' ≡ k) (rest : BlocksReask least fs gs) where
    front_like : (xs ys : List Item) → Reasks least xs ys → (n : ℕ) → FetchLike (front (drop n xs) k fs) (front (drop n ys) k' gs)
    front_like xs ys no_items zero = alike (end_same k k' fs gs source_end rest)
    front_like xs ys no_items (suc n) = alike (end_same k k' fs gs source_end rest)
    front_like (x ∷ xs) (y ∷ ys) (same more) zero = alike refl
    front_like (x ∷ xs) (y ∷ ys) (same more) (suc n) = front_like xs ys more n
    front_like (x ∷ z ∷ xs) (y ∷ w ∷ ys) (asks le more) zero = alike refl
    front_like (x ∷ z ∷ xs) (y ∷ w ∷ ys) (asks le more) (suc zero) = mark_asks
    front_like (x ∷ z ∷ xs) (y ∷ w ∷ ys) (asks le more) (suc (suc n)) = front_like xs ys more n

    start_like : (xs ys : List Item) → Reasks least xs ys → front ys k' gs ≡ front xs k fs
    start_like xs ys no_items = end_same k k' fs gs source_end rest
    start_like (x ∷ xs) (y ∷ ys) (same more) = refl
    start_like (x ∷ z ∷ xs) (y ∷ w ∷ ys) (asks le more) = refl

    abbrev IsAt : Fetch → VarId → ℕ → Origin → Loc → Type 0
    IsAt x v r o l = x ≡ Here (item (Mark v (At r)) o l)

    abbrev AsksAt : Fetch → VarId → OperandPair → Origin → Loc → Type 0
    AsksAt x v q o l = x ≡ Here (item (Mark v (Pair q)) o l)

    no_end : (x : Fetch) (bs : List Block) (n : ℕ) (i : Item) → end_of n bs ≡ Here i → ⊥
    no_end x [] n i e = cc
    no_end x (b ∷ bs) n i e = cc

    no_start : (x : Fetch) (v w : VarId) (r : ℕ) (q : OperandPair) (o o' : Origin) (l l' : Loc) (y : Fetch) → y ≡ x → IsAt x v r o l → AsksAt y w q o' l' → ⊥
    no_start x v w r q o o' l l' y e h k =
        let bad : true ≡ false = ap has_register_mark (sym h ∙ sym e ∙ k) in cc

    above_in : (xs ys : List Item) → Reasks least xs ys → (n : ℕ) (v w : VarId) (r : ℕ) (q : OperandPair) (o o' : Origin) (l l' : Loc) →
        IsAt (front (drop (suc n) xs) k fs) v r o l → AsksAt (front (drop (suc n) ys) k' gs) w q o' l' → IsAbove least (front (drop n xs) k fs) r q
    above_in xs ys no_items n v w r q o o' l l' h e = absurd (no_end Outside fs k (item (Mark v (At r)) o l) h)
    above_in (x ∷ xs) (y ∷ ys) (same more) zero v w r q o o' l l' h e =
        absurd (no_start (front xs k fs) v w r q o o' l l' (front ys k' gs) (start_like xs ys more) h e)
    above_in (x ∷ xs) (y ∷ ys) (same more) (suc n) v w r q o o' l l' h e = above_in xs ys more n v w r q o o' l l' h e
    above_in (x ∷ z ∷ xs) (y ∷ u ∷ ys) (asks {v = t} {r = s} {k = m} {o = p} {l = d} le more) zero v w r q o o' l l' h e =
        let first : item (Mark t (At s)) p d ≡ item (Mark v (At r)) o l = cc in
        let kinds : Mark t (At s) ≡ Mark v (At r) = ap (λ (i : Item). i.kind) first in
        let register : s ≡ r = cc in
        let second : item (Mark t (Pair (first_operand m))) p d ≡ item (Mark w (Pair q)) o' l' = cc in
        let kinds' : Mark t (Pair (first_operand m)) ≡ Mark w (Pair q) = ap (λ (i : Item). i.kind) second in
        let number : first_operand m ≡ q = cc in
        record {
          number = m;
          origin = p;
          fresh = le;
          pair = sym number;
          phi = ap (λ (a : ℕ). Here (item_before (Phi (Some (Register a)) m) p)) register;
        }
    above_in (x ∷ z ∷ xs) (y ∷ u ∷ ys) (asks le more) (suc zero) v w r q o o' l l' h e =
        absurd (no_start (front xs k fs) v w r q o o' l l' (front ys k' gs) (start_like xs ys more) h e)
    above_in (x ∷ z ∷ xs) (y ∷ u ∷ ys) (asks le more) (suc (suc n)) v w r q o o' l l' h e = above_in xs ys more n v w r q o o' l l' h e

  blocks_from : (fs gs : List Block) → BlocksReask least fs gs → (n : ℕ) → BlocksReask least (from_block fs n) (from_block gs n)
  blocks_from fs gs over n = over
  blocks_from (a ∷ fs) (b ∷ gs) (further id source_end items rest) n =
      subst (λ (z : ℕ). BlocksReask least (from_block (a ∷ fs) n) (cond (nat_eq z n) (b ∷ gs) (from_block gs n))) (sym id)
      (by_test (nat_eq a.id n) (blocks_from fs gs rest n)) where
        by_test : (z : Bool) → BlocksReask least (from_block fs n) (from_block gs n) →
            BlocksReask least (cond z (a ∷ fs) (from_block fs n)) (cond z (b ∷ gs) (from_block gs n))
        by_test true h = further id source_end items rest
        by_test false h = h

  fetch_in_like : (fs gs : List Block) → BlocksReask least fs gs → (n : ℕ) → FetchLike (fetch_in fs n) (fetch_in gs n)
  fetch_in_like fs gs over n = alike refl
  fetch_in_like (a ∷ fs) (b ∷ gs) (further id source_end items rest) n = front_like a.source_end b.source_end fs gs source_end rest a.items b.items items n

  start_in : (fs gs : List Block) → BlocksReask least fs gs → fetch_in gs 0 ≡ fetch_in fs 0
  start_in fs gs over = refl
  start_in (a ∷ fs) (b ∷ gs) (further id source_end items rest) =
      ap (λ (ys : List Item). front ys b.source_end gs) (drop_none b.items) ∙ start_like a.source_end b.source_end fs gs source_end rest a.items b.items items ∙
      ap (λ (xs : List Item). front xs a.source_end fs) (sym (drop_none a.items)) where
        drop_none : (xs : List Item) → drop 0 xs ≡ xs
        drop_none [] = refl
        drop_none (x ∷ xs) = refl

  above_at : (fs gs : List Block) → BlocksReask least fs gs → (n : ℕ) (v w : VarId) (r : ℕ) (q : OperandPair) (o o' : Origin) (l l' : Loc) →
      fetch_in fs (suc n) ≡ Here (item (Mark v (At r)) o l) → fetch_in gs (suc n) ≡ Here (item (Mark w (Pair q)) o' l') → IsAbove least (fetch_in fs n) r q
  above_at fs gs over n v w r q o o' l l' h e = cc
  above_at (a ∷ fs) (b ∷ gs) (further id source_end items rest) n v w r q o o' l l' h e =
      above_in a.source_end b.source_end fs gs source_end rest a.items b.items items n v w r q o o' l l' h e

  module _ (fs gs : List Block) (rel : BlocksReask least fs gs) (resolve : OperandPair → Option OperandPair) where
    abbrev pub fp : Program
    fp = program_of false fs resolve

    abbrev pub gp : Program
    gp = program_of false gs resolve

    pub fetch_like : (p : Pos) → FetchLike (fp.fetch p) (gp.fetch p)
    fetch_like p = fetch_in_like (from_block fs p.block) (from_block gs p.block) (blocks_from fs gs rel p.block) p.item

    -- at the start of a block nothing changes
    pub start_same : (n : ℕ) → gp.fetch (block_start n) ≡ fp.fetch (block_start n)
    start_same n = start_in (from_block fs n) (from_block gs n) (blocks_from fs gs rel n)

    -- and right above what changes the phi stands
    pub stands_above : (p : Pos) (v w : VarId) (r : ℕ) (q : OperandPair) (o o' : Origin) (l l' : Loc) → fp.fetch (below p) ≡ Here (item (Mark v (At r)) o l) →
        gp.fetch (below p) ≡ Here (item (Mark w (Pair q)) o' l') → IsAbove least (fp.fetch p) r q
    stands_above p v w r q o o' l l' h e =
        let one : p.item + 1 ≡ suc p.item = omega arith in
        above_at (from_block fs p.block) (from_block gs p.block) (blocks_from fs gs rel p.block) p.item v w r q o o' l l'
        (ap (fetch_in (from_block fs p.block)) (sym one) ∙ h) (ap (fetch_in (from_block gs p.block)) (sym one) ∙ e)

    -- code stands where it stood
    pub code_on : (p : Pos) (i : Item) → fp.fetch p ≡ Here i → is_code i.kind ≡ true → gp.fetch p ≡ Here i
    code_on p i h code = by_fetch (fp.fetch p) (gp.fetch p) (fetch_like p) h where
      by_fetch : (x y : Fetch) → FetchLike x y → x ≡ Here i → y ≡ Here i
      by_fetch x y (alike e) h = e ∙ h
      by_fetch x y (mark_asks {v} {r} {k} {o} {l}) h =
          let w : item (Mark v (At r)) o l ≡ i = cc in
          let bad : false ≡ true = ap (λ (j : Item). is_code j.kind) w ∙ code in
          cc

    pub code_back : (p : Pos) (i : Item) → gp.fetch p ≡ Here i → is_code i.kind ≡ true → fp.fetch p ≡ Here i
    code_back p i h code = by_fetch (fp.fetch p) (gp.fetch p) (fetch_like p) h where
      by_fetch : (x y : Fetch) → FetchLike x y → y ≡ Here i → x ≡ Here i
      by_fetch x y (alike e) h = sym e ∙ h
      by_fetch x y (mark_asks {v} {r} {k} {o} {l}) h =
          let w : item (Mark v (Pair (first_operand k))) o l ≡ i = cc in
          let bad : false ≡ true = ap (λ (j : Item). is_code j.kind) w ∙ code in
          cc

    -- and control goes where it went
    edge_on : (x y : Fetch) (p q : Pos) → FetchLike x y → FetchEdge (λ n. n) x p q → FetchEdge (λ n. n) y p q
    edge_on x y p q (alike e) h = subst (λ (z : Fetch). FetchEdge (λ n. n) z p q) (sym e) h
    edge_on x y p q mark_asks h = h

    pub leads_on : {p q : Pos} → Leads fp p q → Leads gp p q
    leads_on stay = stay
    leads_on {p = p} (go {q = q} edge more) = go (edge_on (fp.fetch p) (gp.fetch p) p q (fetch_like p) edge) (leads_on more)

pub on_code : (P : Row → Type 0) (k : ItemKind) → OnRow P k → is_code k ≡ true
on_code P (Code i n) h = refl
on_code P (Mark v m) h = absurd h
on_code P (Phi p n) h = absurd h

pub end_code : (k l : ItemKind) → KindsEndAlike k l → is_code l ≡ true
end_code (Code c n) (Code d m) h = refl
end_code (Code c n) (Mark v m) h = absurd h
end_code (Code c n) (Phi p m) h = absurd h
end_code (Mark v m) l h = absurd h
end_code (Phi p n) l h = absurd h
