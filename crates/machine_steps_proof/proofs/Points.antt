-- What stands at the positions of a function with its frame, and where x2 is there.
use Rattle.std.proofs.Common.{◌≡◌, ℕ, zero, suc, ◌+◌, pos, ◌-ℤ◌, List, [], ◌∷◌, drop, All, Contains, slice_get, Option, Some, None, Bool}
use Rattle.std.proofs.Common.{true, false, cond, nat_eq, ◌&&◌, ◌||◌, refl, sym, ap, ◌∙◌, subst, inl, inr, eq-eqb, ne_eqb, arith}
use Rattle.std.proofs.lemmas.Bool.{cases_eq}
use Rattle.std.proofs.lemmas.List.Elements.{All-contains}
use Rattle.mir_func.specs.declared.exit.Exit.TheVariants.{Onward, Final}
use Rattle.mir_func.specs.declared.block.Block.{Block}
use Rattle.mir_func.specs.declared.position.Pos.{Pos}
use Rattle.mir_func.specs.declared.item.Item.{Item}
use Rattle.mir_func.specs.declared.item.ItemKind.{ItemKind}
use Rattle.mir_func.specs.declared.item.ItemKind.TheVariants.{Code}
use Rattle.mir_func.specs.Exits.{exit_of, leads_back}
use Rattle.mir_func.specs.Function.{FramedFunction}
use Rattle.mir_func.specs.Graph.{Here, EndOfBlock, below, block_start, end_of, front, fetch_in, is_return}
use Rattle.mir_func.specs.Sound.{AllItems, LeavesPointer}
use Rattle.mir_func.specs.SoundFrame.{adds_to_pointer, AreCode, prologue_code, epilogue_code, GivesBack, HasFrame, IsFramed}
use Rattle.mir_func.proofs.Leading.{leads_out, onward_leads}
use Rattle.sem_mir.proofs.Reading.{front_item}
use Rattle.sem_machine.proofs.Fetching.{drop_zero}
use Rattle.machine_steps_proof.specs.Laid.{fetched}
use Rattle.machine_steps_proof.specs.Pointer.{is_as_at_entry, lowered_by}
use Rattle.machine_steps_proof.proofs.Motions.{KindLeavesTwo, kind_leaves, Stays, Motion, Moves, block_moves, prologue_moves}
use Rattle.machine_steps_proof.proofs.Motions as motion
use Rattle.machine_steps_proof.proofs.Memory.{either_right}

-- the item at an index is one of the list
pub got : {A : Type 0} (xs : List A) (k : ℕ) (x : A) → slice_get xs k ≡ Some x → Contains xs x
got [] k x e = cc
got (y ∷ ys) zero x e = let same : y ≡ x = cc in (0, omega arith, same)
got (y ∷ ys) (suc k) x e = let h = got ys k x e in (suc h.0, (let l = h.1 in omega (arith, l)), h.2)

pub dropped : {A : Type 0} (xs : List A) (n : ℕ) (x : A) (rest : List A) → drop n xs ≡ x ∷ rest → slice_get xs n ≡ Some x
dropped [] zero x rest e = cc
dropped [] (suc n) x rest e = cc
dropped (y ∷ ys) zero x rest e = let same : y ≡ x = cc in ap Some same
dropped (y ∷ ys) (suc n) x rest e = dropped ys n x rest e

pub drop_next : {A : Type 0} (xs : List A) (n : ℕ) (x : A) (rest : List A) → drop n xs ≡ x ∷ rest → drop (suc n) xs ≡ rest
drop_next [] zero x rest e = cc
drop_next [] (suc n) x rest e = cc
drop_next (y ∷ ys) zero x rest e = drop_zero ys ∙ (let same : ys ≡ rest = cc in same)
drop_next (y ∷ ys) (suc n) x rest e = drop_next ys n x rest e

-- where an item stands
pub record StandsAt (f : FramedFunction) (p : Pos) (i : Item) : Type 0 where
  pub block : Block
  pub rest : List Block
  pub found : drop p.block f.blocks ≡ block ∷ rest
  pub at : slice_get block.items p.item ≡ Some i
  pub member : Contains f.blocks block

pub stands_at : (f : FramedFunction) (p : Pos) (i : Item) → fetched f p ≡ Here i → StandsAt f p i
stands_at f p i e = by_blocks (drop p.block f.blocks) refl e where
  by_blocks : (bs : List Block) → drop p.block f.blocks ≡ bs → fetch_in bs p.item ≡ Here i → StandsAt f p i
  by_blocks [] d e = cc
  by_blocks (b ∷ rest) d e = record {
    block = b;
    rest = rest;
    found = d;
    at = front_item b.items p.item b.source_end rest i e;
    member = got f.blocks p.block b (dropped f.blocks p.block b rest d);
  }

-- what holds of each item
pub of_item : (f : FramedFunction) (P : Item → Type 0) → AllItems P f.blocks → (p : Pos) (i : Item) → fetched f p ≡ Here i → P i
of_item f P all p i e =
    let s = stands_at f p i e in
    All-contains P s.block.items i (All-contains (λ (b : Block). All P b.items) f.blocks s.block all s.member) (got s.block.items p.item i s.at)

abbrev returns_if : Option Item → Bool
returns_if None = false
returns_if (Some i) = leads_back i.kind

end_returns : (k : ℕ) (bs : List Block) → is_return (end_of k bs) ≡ false
end_returns k [] = refl
end_returns k (b ∷ bs) = refl

front_returns : (xs : List Item) (n k : ℕ) (bs : List Block) → is_return (front (drop n xs) k bs) ≡ returns_if (slice_get xs n)
front_returns [] zero k bs = end_returns k bs
front_returns [] (suc n) k bs = end_returns k bs
front_returns (x ∷ xs) zero k bs = refl
front_returns (x ∷ xs) (suc n) k bs = front_returns xs n k bs

none_returns : (x : Option Item) → Stays x → returns_if x ≡ false
none_returns None h = refl
none_returns (Some i) h = h

right_true : (a b : Bool) → b ≡ true → (a || b) ≡ true
right_true true b e = refl
right_true false b e = e

and_left : (a b : Bool) → a ≡ false → (a && b) ≡ false
and_left a b e = ap (λ (x : Bool). x && b) e

and_right : (a b : Bool) → b ≡ false → (a && b) ≡ false
and_right true b e = e
and_right false b e = refl

module _ (f : FramedFunction) where
  down : (p : Pos) → is_as_at_entry f p ≡ false → lowered_by f p ≡ f.size
  down p e = ap (λ (b : Bool). cond b 0 f.size) e

  up : (p : Pos) → is_as_at_entry f p ≡ true → lowered_by f p ≡ 0
  up p e = ap (λ (b : Bool). cond b 0 f.size) e

  -- where there is no frame
  no_frame : (p : Pos) → f.size ≡ 0 → lowered_by f p ≡ 0
  no_frame p e = by_test (is_as_at_entry f p) where
    by_test : (b : Bool) → cond b 0 f.size ≡ 0
    by_test true = refl
    by_test false = e

  not_start : (p : Pos) → (p.block ≡ 0 → p.item ≡ 0 → ⊥) → (nat_eq p.block 0 && nat_eq p.item 0) ≡ false
  not_start p h = elim (cases_eq p.block 0) as (λ _. (nat_eq p.block 0 && nat_eq p.item 0) ≡ false) [
    | inl e ↦ and_right (nat_eq p.block 0) (nat_eq p.item 0) (ne_eqb p.item 0 (h e))
    | inr ne ↦ and_left (nat_eq p.block 0) (nat_eq p.item 0) (ne_eqb p.block 0 ne)
  ]

  -- at an item that doesn't lead back to the caller, past the start
  item_down : (p : Pos) (i : Item) → fetched f p ≡ Here i → (p.block ≡ 0 → p.item ≡ 0 → ⊥) → leads_back i.kind ≡ false → lowered_by f p ≡ f.size
  item_down p i e h n = down p (either_right (nat_eq p.block 0 && nat_eq p.item 0) (is_return (fetched f p)) (not_start p h)
      (ap is_return e ∙ n))

  next_fetch : (p : Pos) (i : Item) (s : StandsAt f p i) → is_return (fetched f (below p)) ≡ returns_if (slice_get s.block.items (suc p.item))
  next_fetch p i s =
      let k : p.item + 1 ≡ suc p.item = omega arith in
      ap (λ (bs : List Block). is_return (fetch_in bs (p.item + 1))) s.found ∙ front_returns s.block.items (p.item + 1) s.block.source_end s.rest
      ∙ ap (λ (n : ℕ). returns_if (slice_get s.block.items n)) k

  -- below an item, where no return comes
  below_down : (p : Pos) (i : Item) (s : StandsAt f p i) → Stays (slice_get s.block.items (suc p.item)) → lowered_by f (below p) ≡ f.size
  below_down p i s n = down (below p) (either_right (nat_eq p.block 0 && nat_eq (p.item + 1) 0) (is_return (fetched f (below p)))
      (not_start (below p) (λ b z. omega (arith, z))) (next_fetch p i s ∙ none_returns (slice_get s.block.items (suc p.item)) n))

  below_up : (p : Pos) (i : Item) (s : StandsAt f p i) (l : Item) → slice_get s.block.items (suc p.item) ≡ Some l → leads_back l.kind ≡ true →
      lowered_by f (below p) ≡ 0
  below_up p i s l e q = up (below p) (right_true (nat_eq p.block 0 && nat_eq (p.item + 1) 0) (is_return (fetched f (below p)))
      (next_fetch p i s ∙ ap returns_if e ∙ q))

  -- what an item does with x2, by its position
  pub data PointerMotion (p : Pos) (k : ItemKind) : Type 0 where
    -- it leaves x2, which is lowered here and below
    keeps : KindLeavesTwo k → lowered_by f p ≡ f.size → lowered_by f (below p) ≡ f.size → leads_back k ≡ false → PointerMotion p k
    lowers : k ≡ Code (adds_to_pointer (pos 0 -ℤ pos f.size)) None → (f.size ≡ 0 → ⊥) → lowered_by f p ≡ 0 → lowered_by f (below p) ≡ f.size → PointerMotion p k
    raises : k ≡ Code (adds_to_pointer (pos f.size)) None → (f.size ≡ 0 → ⊥) → lowered_by f p ≡ f.size → lowered_by f (below p) ≡ 0 → PointerMotion p k
    leaves : exit_of k ≡ Final → PointerMotion p k

  module _ (framed : IsFramed f) where
    in_body : (p : Pos) (i : Item) (s : StandsAt f p i) (b : ℕ) → (f.size ≡ 0 → ⊥) → p.block ≡ suc b →
        Motion f.size i.kind (slice_get s.block.items (suc p.item)) →
        fetched f p ≡ Here i → PointerMotion p i.kind
    in_body p i s b ne at (motion.keeps goes leave next) e =
        keeps leave (item_down p i e (λ z _. omega (arith, z, at)) goes) (below_down p i s next) goes
    in_body p i s b ne at (motion.raises l kind next final) e =
        let goes : exit_of i.kind ≡ Onward = ap exit_of kind
        ∙ Rattle.machine_steps_proof.proofs.Motions.adds_onward (Rattle.rv64_instr.specs.Arithmetic.word (pos f.size)) in
        raises kind ne (item_down p i e (λ z _. omega (
          arith,
          z,
          at,
        )) (onward_leads i.kind goes)) (below_up p i s l next final)
    in_body p i s b ne at (motion.ends final leave) e = leaves (leads_out i.kind final)

    moves_of : (size : ℕ) (blocks : List Block) → All (λ (b : Block). GivesBack (epilogue_code size f.saved) b.items) blocks → (b : Block) → Contains blocks b →
        Moves size b.items
    moves_of size blocks all b c = block_moves size f.saved b.items framed.saved_kept
        (All-contains (λ (b : Block). GivesBack (epilogue_code size f.saved) b.items) blocks b all c)

    none_final : (xs : List Item) → ((k : ℕ) (i : Item) → slice_get xs k ≡ Some i → exit_of i.kind ≡ Onward) → (k : ℕ) → Stays (slice_get xs k)
    none_final xs h k = by_item (slice_get xs k) refl where
      by_item : (x : Option Item) → slice_get xs k ≡ x → Stays x
      by_item None e = tt
      by_item (Some i) e = onward_leads i.kind (h k i e)

    -- by the frame's size
    without : (blocks : List Block) → f.blocks ≡ blocks → f.size ≡ 0 → HasFrame 0 f.saved blocks → (p : Pos) (i : Item) → fetched f p ≡ Here i →
        PointerMotion p i.kind
    without [] eb es h p i e = absurd h
    without (pro ∷ bs) eb es h p i e = by_index p.block refl
      where
        s : StandsAt f p i
        s = stands_at f p i e

        by_exit : KindLeavesTwo i.kind → (b : Bool) → leads_back i.kind ≡ b → PointerMotion p i.kind
        by_exit leave true final = leaves (leads_out i.kind final)
        by_exit leave false goes = keeps leave (no_frame p es ∙ sym es) (no_frame (below p) es ∙ sym es) goes

        by_index : (n : ℕ) → p.block ≡ n → PointerMotion p i.kind
        by_index zero at =
            let d : pro ∷ bs ≡ s.block ∷ s.rest = ap (drop 0) (sym eb) ∙ ap (λ (n : ℕ). drop n f.blocks) (sym at) ∙ s.found in
            let same : pro ≡ s.block = cc in
            let none : s.block.items ≡ [] = ap (λ (b : Block). b.items) (sym same) ∙ h.0 in
            let bad : None ≡ Some i = ap (λ (xs : List Item). slice_get xs p.item) (sym none) ∙ s.at in
            absurd (cc)
        by_index (suc n) at =
            let d : drop n bs ≡ s.block ∷ s.rest = ap (drop (suc n)) (sym eb) ∙ ap (λ (n : ℕ). drop n f.blocks) (sym at) ∙ s.found in
            let member = got bs n s.block (dropped bs n s.block s.rest d) in
            let leave = All-contains (λ (j : Item). LeavesPointer j.kind) s.block.items i
            (All-contains (λ (b : Block). All (λ (j : Item). LeavesPointer j.kind) b.items) bs s.block h.2 member) (got s.block.items p.item i s.at) in
            by_exit (kind_leaves i.kind leave) (leads_back i.kind) refl

    with_one : (blocks : List Block) → f.blocks ≡ blocks → (z : ℕ) → f.size ≡ suc z → HasFrame (suc z) f.saved blocks → (p : Pos) (i : Item) →
        fetched f p ≡ Here i → PointerMotion p i.kind
    with_one [] eb z es h p i e = absurd h
    with_one (pro ∷ bs) eb z es h p i e = by_index p.block refl
      where
        s : StandsAt f p i
        s = stands_at f p i e

        some : f.size ≡ 0 → ⊥
        some n = omega (arith, n, es)

        by_index : (n : ℕ) → p.block ≡ n → PointerMotion p i.kind
        by_index zero at =
            let d : pro ∷ bs ≡ s.block ∷ s.rest = ap (drop 0) (sym eb) ∙ ap (λ (n : ℕ). drop n f.blocks) (sym at) ∙ s.found in
            let same : pro ≡ s.block = cc in
            let code : AreCode s.block.items (prologue_code f.size f.saved) = subst (λ (b : Block). AreCode b.items (prologue_code f.size f.saved)) same
            (subst (λ (n : ℕ). AreCode pro.items (prologue_code n f.saved)) (sym es) h.0) in
            let is = prologue_moves f.size f.saved s.block.items code p.item i s.at in
            let goes = onward_leads i.kind is.onward in
            let next = none_final s.block.items (λ k j q. (prologue_moves f.size f.saved s.block.items code k j q).onward) (suc p.item) in
            elim is.motion as (λ _. PointerMotion p i.kind) [
              | inl l ↦ lowers l.1 some (up p (ap (λ (x : Bool). (x && nat_eq p.item 0) || is_return (fetched f p)) (eq-eqb p.block 0 at)
                  ∙ ap (λ (x : Bool). x || is_return (fetched f p)) (eq-eqb p.item 0 l.0))) (below_down p i s next)
              | inr l ↦ keeps l.1 (item_down p i e (λ _ q. l.0 q) goes) (below_down p i s next) goes
            ]
        by_index (suc n) at =
            let d : drop n bs ≡ s.block ∷ s.rest = ap (drop (suc n)) (sym eb) ∙ ap (λ (n : ℕ). drop n f.blocks) (sym at) ∙ s.found in
            let member = got bs n s.block (dropped bs n s.block s.rest d) in
            let back = subst (λ (n : ℕ). All (λ (b : Block). GivesBack (epilogue_code n f.saved) b.items) bs) (sym es) h.1 in
            in_body p i s n some at ((moves_of f.size bs back s.block member).each p.item i s.at) e

    by_size : (n : ℕ) → f.size ≡ n → HasFrame n f.saved f.blocks → (p : Pos) (i : Item) → fetched f p ≡ Here i → PointerMotion p i.kind
    by_size zero es h = without f.blocks refl es h
    by_size (suc z) es h = with_one f.blocks refl z es h

    -- what the item at a position does with x2
    pub pointer_motion : (p : Pos) (i : Item) → fetched f p ≡ Here i → PointerMotion p i.kind
    pointer_motion = by_size f.size refl framed.frame

    start_of_body : (blocks : List Block) → f.blocks ≡ blocks → (z : ℕ) → f.size ≡ suc z → HasFrame (suc z) f.saved blocks → (n : ℕ) →
        lowered_by f (block_start (suc n)) ≡ f.size
    start_of_body [] eb z es h n = absurd h
    start_of_body (pro ∷ bs) eb z es h n = down (block_start (suc n))
        (either_right (nat_eq (suc n) 0 && nat_eq 0 0) (is_return (fetched f (block_start (suc n))))
        (not_start (block_start (suc n)) (λ b _. omega (arith, b))) (ap (λ (x : List Block). is_return (fetch_in (drop (suc n) x) 0)) eb
        ∙ by_block (drop n bs) refl))
      where
        by_block : (x : List Block) → drop n bs ≡ x → is_return (fetch_in x 0) ≡ false
        by_block [] e = refl
        by_block (b ∷ rest) e =
            let back = subst (λ (n : ℕ). All (λ (b : Block). GivesBack (epilogue_code n f.saved) b.items) bs) (sym es) h.1 in
            front_returns b.items 0 b.source_end rest
            ∙ none_returns (slice_get b.items 0) (moves_of f.size bs back b (got bs n b (dropped bs n b rest e))).first

    start_by : (m : ℕ) → f.size ≡ m → HasFrame m f.saved f.blocks → (n : ℕ) → lowered_by f (block_start (suc n)) ≡ f.size
    start_by zero es h n = no_frame (block_start (suc n)) es ∙ sym es
    start_by (suc z) es h n = start_of_body f.blocks refl z es h n

    -- at the start of a block past the prologue x2 is lowered
    pub start_down : (n : ℕ) → lowered_by f (block_start (suc n)) ≡ f.size
    start_down = start_by f.size refl framed.frame

    end_of_frame : (blocks : List Block) → f.blocks ≡ blocks → (z : ℕ) → f.size ≡ suc z → HasFrame (suc z) f.saved blocks → (p : Pos) (k n : ℕ) →
        fetched f p ≡ EndOfBlock k n → lowered_by f p ≡ f.size
    end_of_frame [] eb z es h p k n e = absurd h
    end_of_frame (pro ∷ bs) eb z es h p k n e = down p (either_right (nat_eq p.block 0 && nat_eq p.item 0) (is_return (fetched f p))
        (not_start p (λ b i. at_start b i pro.items refl h.0)) (ap is_return e))
      where
        at_start : p.block ≡ 0 → p.item ≡ 0 → (items : List Item) → pro.items ≡ items → AreCode items (prologue_code (suc z) f.saved) → ⊥
        at_start b i [] ei code = cc
        at_start b i (x ∷ xs) ei code =
            let here : fetched f p ≡ Here x =
            ap (λ (n : ℕ). fetch_in (drop n f.blocks) p.item) b ∙ ap (λ (bs : List Block). fetch_in (drop 0 bs) p.item) eb
            ∙ ap (λ (n : ℕ). front (drop n pro.items) pro.source_end bs) i ∙ ap (λ (is : List Item). front (drop 0 is) pro.source_end bs) ei in
            let bad : Here x ≡ EndOfBlock k n = sym here ∙ e in
            cc

    end_by : (m : ℕ) → f.size ≡ m → HasFrame m f.saved f.blocks → (p : Pos) (k n : ℕ) → fetched f p ≡ EndOfBlock k n → lowered_by f p ≡ f.size
    end_by zero es h p k n e = no_frame p es ∙ sym es
    end_by (suc z) es h p k n e = end_of_frame f.blocks refl z es h p k n e

    -- and at a block's end
    pub end_down : (p : Pos) (k n : ℕ) → fetched f p ≡ EndOfBlock k n → lowered_by f p ≡ f.size
    end_down = end_by f.size refl framed.frame
