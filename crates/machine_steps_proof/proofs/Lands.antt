-- From each place of a function with its frame that control comes to, debug items and ends of blocks lead to code.
use Rattle.std.proofs.Common.{◌≡◌, ℕ, zero, suc, ◌+◌, List, [], ◌∷◌, drop, Contains, slice_get, Some, Bool, true, false, cond, nat_eq}
use Rattle.std.proofs.Common.{refl, sym, ap, ◌∙◌, subst, inl, inr, eq-eqb, ne_eqb, arith}
use Rattle.std.proofs.lemmas.Bool.{cases_Bool}
use Rattle.mir_func.specs.declared.block.Block.{Block}
use Rattle.mir_func.specs.declared.position.Pos.{Pos}
use Rattle.mir_func.specs.declared.item.Item.{Item}
use Rattle.mir_func.specs.declared.item.ItemKind.{ItemKind}
use Rattle.mir_func.specs.declared.item.ItemKind.TheVariants.{Code, Mark, Phi}
use Rattle.mir_func.specs.Exits.{exit_of, Leaves}
use Rattle.mir_func.specs.Function.{FramedFunction}
use Rattle.mir_func.specs.Graph.{Here, EndOfBlock, below, block_start, end_of, front, fetch_in, index_of}
use Rattle.mir_func.specs.Sound.{AreApart, ids_of, Closes, LastCloses}
use Rattle.mir_func.specs.SoundFrame.{body_of, NumberedAlike, IsFramed}
use Rattle.sem_mir.specs.Align.{is_code}
use Rattle.sem_mir.proofs.Reading.{apart_tail}
use Rattle.sem_machine.proofs.Fetching.{drop_zero}
use Rattle.machine_steps_proof.specs.Laid.{fetched}
use Rattle.machine_steps_proof.proofs.Points.{dropped, drop_next, stands_at}

-- ---- lists of blocks

-- what is left below an item that control may fall through closes too
closes_after : (xs : List Item) (k : ℕ) (x : Item) → (Leaves (exit_of x.kind) → ⊥) → Closes xs → slice_get xs k ≡ Some x → Closes (drop (suc k) xs)
closes_after [] k x falls h e = absurd h
closes_after (y ∷ []) zero x falls h e = let same : y ≡ x = cc in absurd (falls (subst (λ (z : Item). Leaves (exit_of z.kind)) same h))
closes_after (y ∷ []) (suc k) x falls h e = cc
closes_after (y ∷ z ∷ ys) zero x falls h e = subst Closes (sym (drop_zero (z ∷ ys))) h
closes_after (y ∷ z ∷ ys) (suc k) x falls h e = closes_after (z ∷ ys) k x falls h e

last_from : (bs : List Block) (k : ℕ) (c : Block) (cs : List Block) → LastCloses bs → drop k bs ≡ c ∷ cs → LastCloses (c ∷ cs)
last_from [] zero c cs h e = absurd h
last_from [] (suc k) c cs h e = absurd h
last_from (b ∷ bs) zero c cs h e = subst LastCloses e h
last_from (b ∷ []) (suc k) c cs h e = no_more k e where
  no_more : (k : ℕ) → drop k [] ≡ c ∷ cs → LastCloses (c ∷ cs)
  no_more zero e = cc
  no_more (suc k) e = cc
last_from (b ∷ d ∷ bs) (suc k) c cs h e = last_from (d ∷ bs) k c cs h e

-- a block's number is that of its index
index_at : (bs : List Block) → AreApart (ids_of bs) → (k : ℕ) (d : Block) → slice_get bs k ≡ Some d → index_of bs d.id ≡ k
index_at [] h k d e = cc
index_at (b ∷ bs) h zero d e =
    let same : b ≡ d = cc in
    ap (λ (z : Bool). cond z 0 (suc (index_of bs d.id))) (eq-eqb b.id d.id (ap (λ (x : Block). x.id) same))
index_at (b ∷ bs) h (suc k) d e =
    let ne : b.id ≡ d.id → ⊥ = λ q. (let z : zero ≡ suc k = h zero (suc k) d.id (ap Some q) (id_at bs k d e) in omega (arith, z)) in
    ap (λ (z : Bool). cond z 0 (suc (index_of bs d.id))) (ne_eqb b.id d.id ne) ∙ ap suc (index_at bs (apart_tail b.id (ids_of bs) h) k d e) where
      id_at : (bs : List Block) (k : ℕ) (d : Block) → slice_get bs k ≡ Some d → slice_get (ids_of bs) k ≡ Some d.id
      id_at [] k d e = cc
      id_at (b ∷ bs) zero d e = let same : b ≡ d = cc in ap (λ (x : Block). Some x.id) same
      id_at (b ∷ bs) (suc k) d e = id_at bs k d e

-- and where there is a block of a number
found_of : (bs : List Block) (n : ℕ) → Contains (ids_of bs) n → (b : Block) × (rest : List Block) × (drop (index_of bs n) bs ≡ b ∷ rest)
found_of [] n (k, lt, e) = absurd (omega (arith, lt))
found_of (b ∷ bs) n c = by_test (nat_eq b.id n) refl (λ t. found_of bs n (later c t)) where
  later : Contains (ids_of (b ∷ bs)) n → (nat_eq b.id n ≡ false) → Contains (ids_of bs) n
  later (zero, lt, e) t = let bad : true ≡ false = sym (eq-eqb b.id n e) ∙ t in cc
  later (suc k, lt, e) t = (k, omega (arith, lt), e)

  by_test : (z : Bool) → nat_eq b.id n ≡ z → (nat_eq b.id n ≡ false → (c : Block) × (rest : List Block) × (drop (index_of bs n) bs ≡ c ∷ rest)) →
      (c : Block) × (rest : List Block) × (drop (cond (nat_eq b.id n) 0 (suc (index_of bs n))) (b ∷ bs) ≡ c ∷ rest)
  by_test true t more = (b, bs, ap (λ (z : Bool). drop (cond z 0 (suc (index_of bs n))) (b ∷ bs)) t)
  by_test false t more = let f = more t in (f.0, f.1, ap (λ (z : Bool). drop (cond z 0 (suc (index_of bs n))) (b ∷ bs)) t ∙ f.2)

module _ (f : FramedFunction) where
  -- debug items and ends of blocks lead from one position to another, where code stands
  pub data Settles : Pos → Pos → Type 0 where
    now : {p : Pos} → Settles p p
    past_item : {p q : Pos} (i : Item) → fetched f p ≡ Here i → is_code i.kind ≡ false → Settles (below p) q → Settles p q
    past_end : {p q : Pos} (k n : ℕ) → fetched f p ≡ EndOfBlock k n → Settles (block_start (suc p.block)) q → Settles p q

  pub record Lands (p : Pos) : Type 0 where
    pub place : Pos
    pub item : Item
    pub settles : Settles p place
    pub stands : fetched f place ≡ Here item
    pub code : is_code item.kind ≡ true

  lands_more : (p q : Pos) → ((r : Pos) → Settles q r → Settles p r) → Lands q → Lands p
  lands_more p q way l = record { place = l.place; item = l.item; settles = way l.place l.settles; stands = l.stands; code = l.code }

  debug_stays : (i : Item) → is_code i.kind ≡ false → Leaves (exit_of i.kind) → ⊥
  debug_stays i e l = by_kind i.kind e l where
    by_kind : (k : ItemKind) → is_code k ≡ false → Leaves (exit_of k) → ⊥
    by_kind (Code c n) e l = cc
    by_kind (Mark v m) e l = l
    by_kind (Phi p n) e l = l

  abbrev spot : ℕ → ℕ → Pos
  spot b k = record { block = b; item = k }

  module _ (b : ℕ) (block : Block) (rest : List Block) (found : drop b f.blocks ≡ block ∷ rest) (next : (rest ≡ [] → ⊥) → Lands (block_start (suc b))) where
    fetch_at : (k : ℕ) → fetched f (spot b k) ≡ front (drop k block.items) block.source_end rest
    fetch_at k = ap (λ (bs : List Block). fetch_in bs k) found

    items_land : (xs : List Item) (k : ℕ) → drop k block.items ≡ xs → (rest ≡ [] → Closes xs) → Lands (spot b k)
    items_land [] k d closes = by_rest rest refl where
      by_rest : (r : List Block) → rest ≡ r → Lands (spot b k)
      by_rest [] e = absurd (closes e)
      by_rest (c ∷ cs) e =
          let end : fetched f (spot b k) ≡ EndOfBlock block.source_end c.id =
          fetch_at k ∙ ap (λ (is : List Item). front is block.source_end rest) d ∙ ap (end_of block.source_end) e in
          lands_more (spot b k) (block_start (suc b)) (λ r s. past_end block.source_end c.id end s) (next (λ z. (let bad : [] ≡ c ∷ cs = sym z ∙ e in cc)))
    items_land (x ∷ xs) k d closes =
        let here : fetched f (spot b k) ≡ Here x = fetch_at k ∙ ap (λ (is : List Item). front is block.source_end rest) d in
        elim (cases_Bool (is_code x.kind)) as (λ _. Lands (spot b k)) [
          | inl c ↦ record { place = spot b k; item = x; settles = now; stands = here; code = c }
          | inr c ↦
              let one : suc k ≡ k + 1 = omega arith in
              lands_more (spot b k) (spot b (k + 1)) (λ r s. past_item x here c s)
              (subst (λ (n : ℕ). Lands (spot b n)) one (items_land xs (suc k) (drop_next block.items k x xs d) (λ e. closes_tail x xs c (closes e))))
        ] where
          closes_tail : (x : Item) (xs : List Item) → is_code x.kind ≡ false → Closes (x ∷ xs) → Closes xs
          closes_tail x [] c h = debug_stays x c h
          closes_tail x (y ∷ ys) c h = h

  -- from the start of each of the blocks
  starts_land : (bs : List Block) (b : ℕ) → drop b f.blocks ≡ bs → LastCloses bs → Lands (block_start b)
  starts_land [] b d h = absurd h
  starts_land (c ∷ []) b d h = items_land b c [] d (λ n. absurd (n refl)) c.items 0 (drop_zero c.items) (λ e. h)
  starts_land (c ∷ e ∷ rest) b d h =
      items_land b c (e ∷ rest) d (λ n. starts_land (e ∷ rest) (suc b) (drop_next f.blocks b c (e ∷ rest) d) h) c.items 0 (drop_zero c.items)
      (λ z. (let bad : e ∷ rest ≡ [] = z in cc))

  -- from within a block that something comes after
  within_lands : (b : ℕ) (c : Block) (rest : List Block) → drop b f.blocks ≡ c ∷ rest → LastCloses (c ∷ rest) → (k : ℕ) (xs : List Item) → drop k c.items ≡ xs →
      (rest ≡ [] → Closes xs) → Lands (spot b k)
  within_lands b c [] d h k xs e closes = items_land b c [] d (λ n. absurd (n refl)) xs k e closes
  within_lands b c (g ∷ rest) d h k xs e closes =
      items_land b c (g ∷ rest) d (λ n. starts_land (g ∷ rest) (suc b) (drop_next f.blocks b c (g ∷ rest) d) h) xs k e closes

  module _ (framed : IsFramed f) where
    -- with the prologue before them
    last_of : (bs : List Block) → NumberedAlike bs → LastCloses (body_of bs) → LastCloses bs
    last_of [] n h = absurd n
    last_of (p ∷ []) n h = absurd n
    last_of (p ∷ b ∷ bs) n h = h

    all_close : LastCloses f.blocks
    all_close = last_of f.blocks framed.number framed.last

    start_lands : (b : ℕ) (c : Block) (rest : List Block) → drop b f.blocks ≡ c ∷ rest → Lands (block_start b)
    start_lands b c rest d = starts_land (c ∷ rest) b d (last_from f.blocks b c rest all_close d)

    -- the function's start
    pub first_lands : Lands (block_start 0)
    first_lands = by_blocks f.blocks refl all_close where
      by_blocks : (bs : List Block) → f.blocks ≡ bs → LastCloses bs → Lands (block_start 0)
      by_blocks [] e h = absurd h
      by_blocks (c ∷ rest) e h = start_lands 0 c rest (drop_zero f.blocks ∙ e)

    -- below an item that control may fall through
    pub below_lands : (p : Pos) (i : Item) → fetched f p ≡ Here i → (Leaves (exit_of i.kind) → ⊥) → Lands (below p)
    below_lands p i e falls =
        let s = stands_at f p i e in
        let last = last_from f.blocks p.block s.block s.rest all_close s.found in
        let one : suc p.item ≡ p.item + 1 = omega arith in
        within_lands p.block s.block s.rest s.found last (p.item + 1) (drop (p.item + 1) s.block.items) refl
        (λ z. subst (λ (n : ℕ). Closes (drop n s.block.items)) one (closes_after s.block.items p.item i falls (closes_one s.rest z s.block last) s.at)) where
          closes_one : (rest : List Block) → rest ≡ [] → (b : Block) → LastCloses (b ∷ rest) → Closes b.items
          closes_one [] e b h = h
          closes_one (c ∷ cs) e b h = cc

    index_of_next : (bs : List Block) → f.blocks ≡ bs → NumberedAlike bs → AreApart (ids_of (body_of bs)) → (b : ℕ) (c d : Block) (rest : List Block) →
        drop b bs ≡ c ∷ d ∷ rest → index_of (body_of bs) d.id ≡ b
    index_of_next [] eb n h b c d rest e = absurd n
    index_of_next (p ∷ []) eb n h b c d rest e = absurd n
    index_of_next (p ∷ x ∷ bs) eb n h b c d rest e =
        index_at (x ∷ bs) h b d (dropped (x ∷ bs) b d rest (drop_next (p ∷ x ∷ bs) b c (d ∷ rest) e))

    -- a block falls into the one with the next index
    pub next_index : (p : Pos) (k n : ℕ) → fetched f p ≡ EndOfBlock k n → index_of (body_of f.blocks) n ≡ p.block
    next_index p k n e = by_blocks (drop p.block f.blocks) refl e where
      by_end : (xs : List Item) (j s : ℕ) (bs : List Block) → front (drop j xs) s bs ≡ EndOfBlock k n → end_of s bs ≡ EndOfBlock k n
      by_end xs j s bs h = (Rattle.sem_mir.proofs.Reading.front_end xs j s bs k n h).1

      by_blocks : (bs : List Block) → drop p.block f.blocks ≡ bs → fetch_in bs p.item ≡ EndOfBlock k n → index_of (body_of f.blocks) n ≡ p.block
      by_blocks [] d h = cc
      by_blocks (c ∷ []) d h = let z = by_end c.items p.item c.source_end [] h in cc
      by_blocks (c ∷ g ∷ rest) d h =
          let z = by_end c.items p.item c.source_end (g ∷ rest) h in
          let id : g.id ≡ n = cc in
          subst (λ (x : ℕ). index_of (body_of f.blocks) x ≡ p.block) id
          (index_of_next f.blocks refl framed.number framed.blocks_apart p.block c g rest d)

    -- the start of a block of a number
    pub target_lands : (n : ℕ) → Contains (ids_of (body_of f.blocks)) n → Lands (block_start (suc (index_of (body_of f.blocks) n)))
    target_lands n c =
        let b = found_of (body_of f.blocks) n c in
        start_lands (suc (index_of (body_of f.blocks) n)) b.0 b.1 (past_first f.blocks (index_of (body_of f.blocks) n) b.0 b.1 b.2) where
          past_first : (bs : List Block) (k : ℕ) (c : Block) (rest : List Block) → drop k (body_of bs) ≡ c ∷ rest → drop (suc k) bs ≡ c ∷ rest
          past_first [] zero c rest e = cc
          past_first [] (suc k) c rest e = cc
          past_first (b ∷ bs) k c rest e = e
