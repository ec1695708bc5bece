-- Addresses go up by the sizes of items, and sites stand one behind the other.
use Rattle.std.proofs.Common.{◌≡◌, ℕ, zero, suc, ◌+◌, ◌≤◌, List, [], ◌∷◌, ◌++◌, take, length, slice_get, Some, Bool}
use Rattle.std.proofs.Common.{refl, sym, ap, ◌∙◌}
use Rattle.std.proofs.Common.{subst, arith}
use Rattle.mir_func.specs.declared.block.Block.{Block}
use Rattle.mir_func.specs.declared.item.Item.{Item}
use Rattle.mir_func.specs.declared.position.Pos.{Pos}
use Rattle.mir_func.specs.Graph.{block_start}
use Rattle.mir_func.specs.Successors.{pos_in}
use Rattle.emit_code.specs.Rule.{Layout, size_of, items_size, blocks_size, items_at, address_in, Site, sites_in, sites_from, sites_of}

items_more : (long : Pos → Bool) (b m n : ℕ) (xs : List Item) (i : Item) → slice_get xs n ≡ Some i →
    items_size long b m (take (suc n) xs) ≡ items_size long b m (take n xs) + size_of (long (pos_in b (m + n))) i
items_more long b m n [] i e = cc
items_more long b m zero (x ∷ xs) i e =
    let same : x ≡ i = cc in
    let z : m ≡ m + 0 = omega arith in
    let none : items_size long b (suc m) (take 0 xs) ≡ 0 = nothing xs in
    (let k : size_of (long (pos_in b m)) x + items_size long b (suc m) (take 0 xs) ≡ 0 + size_of (long (pos_in b m)) x = omega (arith, none) in k)
    ∙ ap (λ (y : Item). 0 + size_of (long (pos_in b m)) y) same ∙ ap (λ (k : ℕ). 0 + size_of (long (pos_in b k)) i) z where
      nothing : (ys : List Item) → items_size long b (suc m) (take 0 ys) ≡ 0
      nothing [] = refl
      nothing (y ∷ ys) = refl
items_more long b m (suc n) (x ∷ xs) i e =
    let more = items_more long b (suc m) n xs i e in
    let z : suc m + n ≡ m + suc n = omega arith in
    ap (λ (k : ℕ). size_of (long (pos_in b m)) x + k) more
    ∙ (let k : size_of (long (pos_in b m)) x + (items_size long b (suc m) (take n xs) + size_of (long (pos_in b (suc m + n))) i)
    ≡ (size_of (long (pos_in b m)) x + items_size long b (suc m) (take n xs)) + size_of (long (pos_in b (suc m + n))) i = omega arith in k)
    ∙ ap (λ (k : ℕ). (size_of (long (pos_in b m)) x + items_size long b (suc m) (take n xs)) + size_of (long (pos_in b k)) i) z

blocks_more : (long : Pos → Bool) (m b : ℕ) (bs : List Block) (c : Block) → slice_get bs b ≡ Some c →
    blocks_size long m (take (suc b) bs) ≡ blocks_size long m (take b bs) + items_size long (m + b) 0 c.items
blocks_more long m b [] c e = cc
blocks_more long m zero (x ∷ bs) c e =
    let same : x ≡ c = cc in
    let z : m ≡ m + 0 = omega arith in
    let none : blocks_size long (suc m) (take 0 bs) ≡ 0 = nothing bs in
    (let k : items_size long m 0 x.items + blocks_size long (suc m) (take 0 bs) ≡ 0 + items_size long m 0 x.items = omega (arith, none) in k)
    ∙ ap (λ (y : Block). 0 + items_size long m 0 y.items) same ∙ ap (λ (k : ℕ). 0 + items_size long k 0 c.items) z where
      nothing : (ys : List Block) → blocks_size long (suc m) (take 0 ys) ≡ 0
      nothing [] = refl
      nothing (y ∷ ys) = refl
blocks_more long m (suc b) (x ∷ bs) c e =
    let more = blocks_more long (suc m) b bs c e in
    let z : suc m + b ≡ m + suc b = omega arith in
    ap (λ (k : ℕ). items_size long m 0 x.items + k) more
    ∙ (let k : items_size long m 0 x.items + (blocks_size long (suc m) (take b bs) + items_size long (suc m + b) 0 c.items)
    ≡ (items_size long m 0 x.items + blocks_size long (suc m) (take b bs)) + items_size long (suc m + b) 0 c.items = omega arith in k)
    ∙ ap (λ (k : ℕ). (items_size long m 0 x.items + blocks_size long (suc m) (take b bs)) + items_size long k 0 c.items) z

items_at_is : (bs : List Block) (b : ℕ) (c : Block) → slice_get bs b ≡ Some c → items_at bs b ≡ c.items
items_at_is [] b c e = cc
items_at_is (x ∷ bs) zero c e = let same : x ≡ c = cc in ap (λ (y : Block). y.items) same
items_at_is (x ∷ bs) (suc b) c e = items_at_is bs b c e

take_all : (xs : List Item) (n : ℕ) → length xs ≤ n → take n xs ≡ xs
take_all [] zero le = refl
take_all [] (suc n) le = refl
take_all (x ∷ xs) zero le = absurd (omega (arith, le))
take_all (x ∷ xs) (suc n) le = ap (λ (ys : List Item). x ∷ ys) (take_all xs n (omega (arith, le)))

no_items : (long : Pos → Bool) (b : ℕ) (xs : List Item) → items_size long b 0 (take 0 xs) ≡ 0
no_items long b [] = refl
no_items long b (x ∷ xs) = refl

module _ (l : Layout) where
  -- past an item
  pub address_next : (b n : ℕ) (c : Block) (i : Item) → slice_get l.framed.blocks b ≡ Some c → slice_get c.items n ≡ Some i →
      address_in l (pos_in b (suc n)) ≡ address_in l (pos_in b n) + size_of (l.long (pos_in b n)) i
  address_next b n c i e g =
      let at = items_at_is l.framed.blocks b c e in
      let more = items_more l.long b 0 n c.items i g in
      let z : 0 + n ≡ n = omega arith in
      let more2 = ap (λ (xs : List Item). items_size l.long b 0 (take (suc n) xs)) at ∙ more
      ∙ ap (λ (k : ℕ). items_size l.long b 0 (take n c.items) + size_of (l.long (pos_in b k)) i) z
      ∙ ap (λ (xs : List Item). items_size l.long b 0 (take n xs) + size_of (l.long (pos_in b n)) i) (sym at) in
      let x = blocks_size l.long 0 (take b l.framed.blocks) in
      omega (arith, more2)

  -- past the end of a block
  pub address_end : (b n : ℕ) (c : Block) → slice_get l.framed.blocks b ≡ Some c → length c.items ≤ n →
      address_in l (block_start (suc b)) ≡ address_in l (pos_in b n)
  address_end b n c e le =
      let at = items_at_is l.framed.blocks b c e in
      let more = blocks_more l.long 0 b l.framed.blocks c e in
      let z : 0 + b ≡ b = omega arith in
      let more2 = more ∙ ap (λ (k : ℕ). blocks_size l.long 0 (take b l.framed.blocks) + items_size l.long k 0 c.items) z in
      let all = ap (λ (xs : List Item). items_size l.long b 0 (take n xs)) at ∙ ap (items_size l.long b 0) (take_all c.items n le) in
      let none = no_items l.long (suc b) (items_at l.framed.blocks (suc b)) in
      omega (arith, more2, all, none)

  -- sites one behind the other, from an address on
  abbrev pub Chained : ℕ → List Site → Type 0
  Chained a [] = Unit {0}
  Chained a (s ∷ ss) = (address_in l s.point ≡ a) × Chained (a + size_of (l.long s.point) s.item) ss

  chain_items : (b : ℕ) (c : Block) → slice_get l.framed.blocks b ≡ Some c → (n : ℕ) (xs : List Item) →
      ((j : ℕ) (i : Item) → slice_get xs j ≡ Some i → slice_get c.items (n + j) ≡ Some i) → (ss : List Site) →
      Chained (address_in l (pos_in b (n + length xs))) ss → Chained (address_in l (pos_in b n)) (sites_in b n xs ++ ss)
  chain_items b c e n [] at ss h = let z : n + 0 ≡ n = omega arith in subst (λ (k : ℕ). Chained (address_in l (pos_in b k)) ss) z h
  chain_items b c e n (x ∷ xs) at ss h =
      let z : n + 0 ≡ n = omega arith in
      let here : slice_get c.items n ≡ Some x = ap (slice_get c.items) (sym z) ∙ at 0 x refl in
      let next : (j : ℕ) → n + suc j ≡ suc n + j = λ j. omega arith in
      let w : n + suc (length xs) ≡ suc n + length xs = omega arith in (
        refl,
        subst (λ (a : ℕ). Chained a (sites_in b (suc n) xs ++ ss)) (address_next b n c x e here)
            (chain_items b c e (suc n) xs (λ j i g. ap (slice_get c.items) (sym (next j)) ∙ at (suc j) i g) ss
            (subst (λ (k : ℕ). Chained (address_in l (pos_in b k)) ss) w h)),
      )

  chain_blocks : (b : ℕ) (bs : List Block) → ((j : ℕ) (c : Block) → slice_get bs j ≡ Some c → slice_get l.framed.blocks (b + j) ≡ Some c) →
      Chained (address_in l (block_start b)) (sites_from b bs)
  chain_blocks b [] at = tt
  chain_blocks b (c ∷ bs) at =
      let z : b + 0 ≡ b = omega arith in
      let here : slice_get l.framed.blocks b ≡ Some c = ap (slice_get l.framed.blocks) (sym z) ∙ at 0 c refl in
      let next : (j : ℕ) → b + suc j ≡ suc b + j = λ j. omega arith in
      let k : 0 + length c.items ≡ length c.items = omega arith in
      let own : (j : ℕ) → j ≡ 0 + j = λ j. omega arith in
      chain_items b c here 0 c.items (λ j i g. ap (slice_get c.items) (sym (own j)) ∙ g) (sites_from (suc b) bs)
      (subst (λ (a : ℕ). Chained a (sites_from (suc b) bs)) (address_end b (0 + length c.items) c here (omega arith))
      (chain_blocks (suc b) bs (λ j d g. ap (slice_get l.framed.blocks) (sym (next j)) ∙ at (suc j) d g)))

  pub first_address : address_in l (block_start 0) ≡ l.base
  first_address =
      let none = no_items l.long 0 (items_at l.framed.blocks 0) in
      let no_blocks = nothing l.framed.blocks in
      omega (arith, none, no_blocks) where
        nothing : (bs : List Block) → blocks_size l.long 0 (take 0 bs) ≡ 0
        nothing [] = refl
        nothing (b ∷ bs) = refl

  pub chained : Chained l.base (sites_of l.framed)
  chained =
      let own : (j : ℕ) → j ≡ 0 + j = λ j. omega arith in
      subst (λ (a : ℕ). Chained a (sites_of l.framed)) first_address (chain_blocks 0 l.framed.blocks (λ j c g. ap (slice_get l.framed.blocks) (sym (own j)) ∙
      g))
