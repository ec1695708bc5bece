-- The bytes before code are those before the same code alone.
use Rattle.std.proofs.Common.{◌≡◌, ℕ, zero, suc, ◌+◌, Bool, List, take, refl, arith}
use Rattle.rv64_instr.specs.Row.{row_of}
use Rattle.mir_func.specs.declared.block.Block.{Block}
use Rattle.mir_func.specs.declared.item.Item.{Item}
use Rattle.mir_func.specs.declared.position.Origin.{Origin}
use Rattle.mir_func.specs.declared.position.Pos.{Pos}
use Rattle.mir_func.specs.Successors.{pos_in}
use Rattle.emit_code.specs.Rule.{row_form, form_size, items_size, blocks_size, bytes_before}
use Rattle.invariance_code.proofs.Drops.{Drops, none, code, mark, phi, DropsEach, no_more, more, down, up, items_drop, up_in, down_in}

module _ (long alone : Pos → Bool) where
  -- code of a block is long where the same code alone is, the first items having these indices
  abbrev pub LongAlike : (up_of : ℕ → ℕ) (b n m : ℕ) → Type 0
  LongAlike up_of b n m = (k j j' : ℕ) → j ≡ n + up_of k → j' ≡ m + k → long (pos_in b j) ≡ alone (pos_in b j')

  in_block : (up_of : ℕ → ℕ) (b : ℕ) → ((n : ℕ) → long (pos_in b (up_of n)) ≡ alone (pos_in b n)) → LongAlike up_of b 0 0
  in_block up_of b h k j j' is is' =
      let at : j ≡ up_of k = omega arith in let at' : j' ≡ k = omega arith in rw (at, at') (h k)

module _ {w : Origin → Origin} (long alone : Pos → Bool) where
  pub whole_same : {xs ys : List Item} (d : Drops w xs ys) (b n m : ℕ) → LongAlike long alone (up d) b n m → items_size long b n xs ≡ items_size alone b m ys
  whole_same none b n m h = refl
  whole_same (code c k k' o l l' d) b n m h =
      let e = h 0 n m (omega arith) (omega arith) in
      let rest = whole_same d b (suc n) (suc m) (λ r j j' is is'. h (suc r) j j' (omega arith) (omega arith)) in
      λ i. form_size (row_form (e i) (row_of c)) + rest i
  whole_same (mark v x o l d) b n m h =
      let rest = whole_same d b (suc n) m (λ r j j' is is'. h r j j' (omega arith) is') in omega (arith, rest)
  whole_same (phi p k o l d) b n m h =
      let rest = whole_same d b (suc n) m (λ r j j' is is'. h r j j' (omega arith) is') in omega (arith, rest)

  pub taken_same : {xs ys : List Item} (d : Drops w xs ys) (b n m t : ℕ) → LongAlike long alone (up d) b n m →
      items_size long b n (take t xs) ≡ items_size alone b m (take (down d t) ys)
  taken_same none b n m zero h = refl
  taken_same none b n m (suc t) h = refl
  taken_same (code c k k' o l l' d) b n m zero h = refl
  taken_same (code c k k' o l l' d) b n m (suc t) h =
      let e = h 0 n m (omega arith) (omega arith) in
      let rest = taken_same d b (suc n) (suc m) t (λ r j j' is is'. h (suc r) j j' (omega arith) (omega arith)) in
      λ i. form_size (row_form (e i) (row_of c)) + rest i
  taken_same (mark v x o l d) b n m zero h = refl
  taken_same (mark v x o l d) b n m (suc t) h =
      let rest = taken_same d b (suc n) m t (λ r j j' is is'. h r j j' (omega arith) is') in omega (arith, rest)
  taken_same (phi p k o l d) b n m zero h = refl
  taken_same (phi p k o l d) b n m (suc t) h =
      let rest = taken_same d b (suc n) m t (λ r j j' is is'. h r j j' (omega arith) is') in omega (arith, rest)

  -- so in all blocks, of which the first has this index
  abbrev pub LongFrom : {bs cs : List Block} → DropsEach w bs cs → (b : ℕ) → Type 0
  LongFrom ds b = (c a : ℕ) → a ≡ b + c → (n : ℕ) → long (pos_in a (up (items_drop ds c) n)) ≡ alone (pos_in a n)

  pub blocks_same : {bs cs : List Block} (ds : DropsEach w bs cs) (b t : ℕ) → LongFrom ds b → blocks_size long b (take t bs) ≡ blocks_size alone b (take t cs)
  blocks_same no_more b zero h = refl
  blocks_same no_more b (suc t) h = refl
  blocks_same (more id s s' d ds) b zero h = refl
  blocks_same (more id s s' d ds) b (suc t) h =
      let first = whole_same d b 0 0 (in_block long alone (up d) b (h 0 b (omega arith))) in
      let rest = blocks_same ds (suc b) t (λ c a is. h (suc c) a (omega arith)) in
      λ i. first i + rest i

  -- code is long where the same code alone is
  abbrev pub SameLong : {bs cs : List Block} → DropsEach w bs cs → Type 0
  SameLong ds = (p : Pos) → long (up_in ds p) ≡ alone p

  pub long_from : {bs cs : List Block} (ds : DropsEach w bs cs) → SameLong ds → LongFrom ds 0
  long_from ds same c a is n = let at : c ≡ a = omega arith in rw at (same (pos_in a n))

  pub bytes_same : {bs cs : List Block} (ds : DropsEach w bs cs) → SameLong ds → (p : Pos) →
      bytes_before long bs p ≡ bytes_before alone cs (down_in ds p)
  bytes_same ds same p =
      let before = blocks_same ds 0 p.block (long_from ds same) in
      let inside = taken_same (items_drop ds p.block) p.block 0 0 p.item
      (in_block long alone (up (items_drop ds p.block)) p.block (λ n. same (pos_in p.block n))) in
      λ i. before i + inside i
