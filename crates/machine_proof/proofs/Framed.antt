-- What the items of a function with its frame are: those of the prologue, those of the function, and those of epilogues.
use Rattle.std.proofs.Common.{◌≡◌, ◌⊎◌, ℕ, zero, suc, ◌+◌, ◌*◌, ◌%◌, ◌<◌, ◌≤◌, ℤ, pos, ◌-ℤ◌, List, [], ◌∷◌, ◌++◌, drop, take, map, length, length-append}
use Rattle.std.proofs.Common.{Contains, slice_get}
use Rattle.std.proofs.Common.{Some, None, Bool, true, false, cond, refl, sym, ap, ◌∙◌, subst, inl, inr, arith}
use Rattle.rv64_instr.specs.Instruction.{Instruction}
use Rattle.rv64_instr.specs.Row.{row_of}
use Rattle.mir_func.specs.declared.exit.Exit.TheVariants.{Onward, Final}
use Rattle.mir_func.specs.declared.block.Block.{Block}
use Rattle.mir_func.specs.declared.framed.SavedRegister.{SavedRegister}
use Rattle.mir_func.specs.declared.item.Item.{Item}
use Rattle.mir_func.specs.declared.item.ItemKind.TheVariants.{Code}
use Rattle.mir_func.specs.declared.position.Origin.{Origin}
use Rattle.mir_func.specs.declared.position.Origin.TheVariants.{Kept, Before}
use Rattle.mir_func.specs.declared.position.Pos.{Pos}
use Rattle.mir_func.specs.Exits.{row_exit, exit_of, leads_back}
use Rattle.mir_func.specs.Function.{Function}
use Rattle.mir_func.specs.Graph.{Here, block_start}
use Rattle.mir_func.specs.SoundFrame.{adds_to_pointer, saves, restores, prologue_code, epilogue_code}
use Rattle.mir_func.proofs.Leading.{leads_out}
use Rattle.mir_func.specs.Positions.{position_of}
use Rattle.sem_mir.specs.Follow.{rank, next_rank, InOrder}
use Rattle.frame_rule.specs.Rule.{size_of, saved_of, added, added_all, epilogue, renamed, framed_item, framed_items}
use Rattle.frame_rule.specs.Rule.{framed_block, framed_blocks, framed_of}
use Rattle.machine_steps_proof.specs.Laid.{fetched}
use Rattle.machine_steps_proof.proofs.Points.{StandsAt, stands_at}
use Rattle.machine_steps_proof.proofs.Motions.{adds_onward}

pub drop_map : {A B : Type 0} (g : A → B) (xs : List A) (n : ℕ) → drop n (map g xs) ≡ map g (drop n xs)
drop_map g [] zero = refl
drop_map g [] (suc n) = refl
drop_map g (x ∷ xs) zero = refl
drop_map g (x ∷ xs) (suc n) = drop_map g xs n

-- an element of a list put behind another
pub in_append : {A : Type 0} (xs ys : List A) (k : ℕ) (x : A) → slice_get (xs ++ ys) k ≡ Some x →
    (slice_get xs k ≡ Some x) ⊎ ((m : ℕ) × (k ≡ length xs + m) × (slice_get ys m ≡ Some x))
in_append [] ys k x e = inr (k, (let z : k ≡ 0 + k = omega arith in z), e)
in_append (a ∷ xs) ys zero x e = inl e
in_append (a ∷ xs) ys (suc k) x e = elim (in_append xs ys k x e) as
    (λ _. (slice_get xs k ≡ Some x) ⊎ ((m : ℕ) × (suc k ≡ suc (length xs) + m) × (slice_get ys m ≡ Some x))) [
      | inl h ↦ inl h
      | inr h ↦ inr (h.0, (let q = h.1 in omega (arith, q)), h.2)
    ]

-- code that was added
pub record IsAdded (o : Origin) (code : List Instruction) (i : Item) : Type 0 where
  pub origin : i.origin ≡ o
  pub instruction : Instruction
  pub kind : i.kind ≡ Code instruction None
  pub member : Contains code instruction

added_in : (o : Origin) (code : List Instruction) (k : ℕ) (i : Item) → slice_get (map (added o) code) k ≡ Some i → IsAdded o code i
added_in o [] k i e = cc
added_in o (c ∷ code) zero i e =
    let same : added o c ≡ i = cc in
    record {
      origin = ap (λ (x : Item). x.origin) (sym same);
      instruction = c;
      kind = ap (λ (x : Item). x.kind) (sym same);
      member = (0, omega arith, refl);
    }
added_in o (c ∷ code) (suc k) i e =
    let h = added_in o code k i e in
    record {
      origin = h.origin;
      instruction = h.instruction;
      kind = h.kind;
      member = (suc h.member.0, (let l = h.member.1 in omega (arith, l)), h.member.2);
    }

pub added_item : (size : ℕ) (o : Origin) (code : List Instruction) (k : ℕ) (i : Item) → slice_get (added_all size o code) k ≡ Some i → IsAdded o code i
added_item zero o code k i e = cc
added_item (suc n) o code k i e = added_in o code k i e

mapped : {A B : Type 0} (g : A → B) (xs : List A) (y : B) → Contains (map g xs) y → (x : A) × (y ≡ g x)
mapped g [] y (k, lt, e) = absurd (omega (arith, lt))
mapped g (x ∷ xs) y (zero, lt, e) = (x, sym e)
mapped g (x ∷ xs) y (suc k, lt, e) = mapped g xs y (k, omega (arith, lt), e)

-- the code of prologues and epilogues adds to x2, stores a register, or loads one
pub data IsFrameCode (c : Instruction) : Type 0 where
  adds : (z : ℤ) → c ≡ adds_to_pointer z → IsFrameCode c
  stores : (s : SavedRegister) → c ≡ saves s → IsFrameCode c
  loads : (s : SavedRegister) → c ≡ restores s → IsFrameCode c

pub prologue_is : (size : ℕ) (saved : List SavedRegister) (c : Instruction) → Contains (prologue_code size saved) c → IsFrameCode c
prologue_is size saved c (zero, lt, e) = adds (pos 0 -ℤ pos size) (sym e)
prologue_is size saved c (suc k, lt, e) = let h = mapped saves saved c (k, omega (arith, lt), e) in stores h.0 h.1

pub epilogue_is : (size : ℕ) (saved : List SavedRegister) (c : Instruction) → Contains (epilogue_code size saved) c → IsFrameCode c
epilogue_is size [] c (zero, lt, e) = adds (pos size) (sym e)
epilogue_is size [] c (suc k, lt, e) = absurd (omega (arith, lt))
epilogue_is size (s ∷ saved) c (zero, lt, e) = loads s (sym e)
epilogue_is size (s ∷ saved) c (suc k, lt, e) = epilogue_is size saved c (k, omega (arith, lt), e)

pub frame_onward : (c : Instruction) → IsFrameCode c → row_exit (row_of c) ≡ Onward
frame_onward c (adds z e) = ap (λ (x : Instruction). row_exit (row_of x)) e ∙ adds_onward (Rattle.rv64_instr.specs.Arithmetic.word z)
frame_onward c (stores s e) = ap (λ (x : Instruction). row_exit (row_of x)) e
frame_onward c (loads s e) = ap (λ (x : Instruction). row_exit (row_of x)) e

-- the index where what an item becomes begins
abbrev pub index_in : Function → List Item → ℕ → ℕ
index_in f xs n = length (framed_items f (take n xs))

-- an item of a block with epilogues: an item of the block, or code of the epilogue before one
pub data IsFramedItem (f : Function) (xs : List Item) (k : ℕ) (i : Item) : Type 0 where
  own : (n : ℕ) (x : Item) → slice_get xs n ≡ Some x → i ≡ renamed f.slots x → (leads_back x.kind ≡ false → k ≡ index_in f xs n) → IsFramedItem f xs k i
  gives_back : (n : ℕ) (x : Item) → slice_get xs n ≡ Some x → exit_of x.kind ≡ Final →
      IsAdded (Before (position_of x.origin)) (epilogue_code (size_of f) (saved_of f)) i → IsFramedItem f xs k i

pub framed_item_is : (f : Function) (xs : List Item) (k : ℕ) (i : Item) → slice_get (framed_items f xs) k ≡ Some i → IsFramedItem f xs k i
framed_item_is f [] k i e = cc
framed_item_is f (x ∷ xs) k i e =
    by_rest (in_append (framed_item f x) (framed_items f xs) k i e) (λ m h. framed_item_is f xs m i h)
  where
    one : (m : ℕ) → k ≡ length (cond (leads_back x.kind) (epilogue f x.origin) []) + m → slice_get (renamed f.slots x ∷ []) m ≡ Some i →
        IsFramedItem f (x ∷ xs) k i
    one zero ek h =
        let same : renamed f.slots x ≡ i = cc in
        own 0 x refl (sym same) (λ no_return. ek ∙ ap (λ (b : Bool). length (cond b (epilogue f x.origin) []) + 0) no_return)
    one (suc m) ek h = cc

    by_exit : (b : Bool) → leads_back x.kind ≡ b → (m : ℕ) → slice_get (cond b (epilogue f x.origin) []) m ≡ Some i → IsFramedItem f (x ∷ xs) k i
    by_exit true t m h = gives_back 0 x refl (leads_out x.kind t)
        (added_item (size_of f) (Before (position_of x.origin)) (epilogue_code (size_of f) (saved_of f)) m i h)
    by_exit false t m h = cc

    in_item : slice_get (framed_item f x) k ≡ Some i → IsFramedItem f (x ∷ xs) k i
    in_item h = elim (in_append (cond (leads_back x.kind) (epilogue f x.origin) []) (renamed f.slots x ∷ []) k i h) as
        (λ _. IsFramedItem f (x ∷ xs) k i) [ inl y ↦ by_exit (leads_back x.kind) refl k y | inr y ↦ one y.0 y.1 y.2 ]

    later : (m : ℕ) → k ≡ length (framed_item f x) + m → IsFramedItem f xs m i → IsFramedItem f (x ∷ xs) k i
    later m ek (own n y h same ix) = own (suc n) y h same (λ no_return. (let q = ix no_return in let l = length-append (framed_item f x) (framed_items f
        (take n xs)) in
        ek ∙ ap (λ (z : ℕ). length (framed_item f x) + z) q ∙ sym l))
    later m ek (gives_back n y h final is) = gives_back (suc n) y h final is

    by_rest : (slice_get (framed_item f x) k ≡ Some i) ⊎ ((m : ℕ) × (k ≡ length (framed_item f x) + m) × (slice_get (framed_items f xs) m ≡ Some i)) →
        ((m : ℕ) → slice_get (framed_items f xs) m ≡ Some i → IsFramedItem f xs m i) → IsFramedItem f (x ∷ xs) k i
    by_rest (inl h) rest = in_item h
    by_rest (inr h) rest = later h.0 h.1 (rest h.0 h.2)

-- where an item stands: in the prologue, or in a block
pub record InPrologue (f : Function) (p : Pos) (i : Item) : Type 0 where
  pub at : p.block ≡ 0
  pub first : Block
  pub rest : List Block
  pub blocks : f.blocks ≡ first ∷ rest
  pub is : IsAdded (Before (block_start first.id)) (prologue_code (size_of f) (saved_of f)) i

pub record InBlock (f : Function) (p : Pos) (i : Item) : Type 0 where
  pub index : ℕ
  pub at : p.block ≡ suc index
  pub block : Block
  pub rest : List Block
  pub found : drop index f.blocks ≡ block ∷ rest
  pub stands : slice_get (framed_items f block.items) p.item ≡ Some i

pub later_blocks : (f : Function) (n : ℕ) (b : Block) (bs : List Block) → drop (suc n) (framed_of f).blocks ≡ b ∷ bs →
    drop n (map (framed_block f) f.blocks) ≡ b ∷ bs
later_blocks f n b bs e = by_blocks f.blocks refl e where
  by_blocks : (xs : List Block) → f.blocks ≡ xs → drop (suc n) (framed_blocks f xs) ≡ b ∷ bs → drop n (map (framed_block f) f.blocks) ≡ b ∷ bs
  by_blocks [] q h = cc
  by_blocks (x ∷ xs) q h = ap (λ (ys : List Block). drop n (map (framed_block f) ys)) q ∙ h

unmap : {A B : Type 0} (g : A → B) (xs : List A) (y : B) (ys : List B) → map g xs ≡ y ∷ ys → (x : A) × (rest : List A) × (xs ≡ x ∷ rest) × (g x ≡ y)
unmap g [] y ys e = cc
unmap g (x ∷ xs) y ys e = (x, xs, refl, (let same : g x ≡ y = cc in same))

pub point_of : (f : Function) (p : Pos) (i : Item) → fetched (framed_of f) p ≡ Here i → InPrologue f p i ⊎ InBlock f p i
point_of f p i e = by_index p.block refl where
  s : StandsAt (framed_of f) p i
  s = stands_at (framed_of f) p i e

  in_first : (xs : List Block) → f.blocks ≡ xs → p.block ≡ 0 → drop 0 (framed_blocks f xs) ≡ s.block ∷ s.rest → InPrologue f p i
  in_first [] q z h = cc
  in_first (x ∷ xs) q z h =
      let same : Rattle.frame_rule.specs.Rule.prologue_block f x ≡ s.block = cc in
      record {
        at = z;
        first = x;
        rest = xs;
        blocks = q;
        is = added_item (size_of f) (Before (block_start x.id)) (prologue_code (size_of f) (saved_of f)) p.item i
            (ap (λ (b : Block). slice_get b.items p.item) same ∙ s.at);
      }

  by_index : (n : ℕ) → p.block ≡ n → InPrologue f p i ⊎ InBlock f p i
  by_index zero z = inl (in_first f.blocks refl z (ap (λ (n : ℕ). drop n (framed_of f).blocks) (sym z) ∙ s.found))
  by_index (suc n) z =
      let h = later_blocks f n s.block s.rest (ap (λ (n : ℕ). drop n (framed_of f).blocks) (sym z) ∙ s.found) in
      let u = unmap (framed_block f) (drop n f.blocks) s.block s.rest (sym (drop_map (framed_block f) f.blocks n) ∙ h) in
      inr (record {
        index = n;
        at = z;
        block = u.0;
        rest = u.1;
        found = u.2;
        stands = ap (λ (b : Block). slice_get b.items p.item) u.3 ∙ s.at;
      })

-- ---- the order of origins

pub in_order_less : (b n m : ℕ) (xs : List Item) → n ≤ m → InOrder b m xs → InOrder b n xs
in_order_less b n m [] le h = tt
in_order_less b n m (x ∷ xs) le h = (h.0, (let k = h.1 in omega (arith, le, k)), h.2)

pub in_order_get : (b n : ℕ) (xs : List Item) → InOrder b n xs → (k : ℕ) (x : Item) → slice_get xs k ≡ Some x →
    ((position_of x.origin).block ≡ b) × (n ≤ rank x.origin)
in_order_get b n [] h k x e = cc
in_order_get b n (y ∷ xs) h zero x e = let same : y ≡ x = cc in subst (λ (z : Item). ((position_of z.origin).block ≡ b) × (n ≤ rank z.origin)) same (h.0, h.1)
in_order_get b n (y ∷ xs) h (suc k) x e =
    let r = in_order_get b (next_rank y.origin) xs h.2 k x e in
    let up = rank_next y.origin in
    (r.0, (let a = h.1 in let c = r.1 in omega (arith, a, c, up))) where
      rank_next : (o : Origin) → rank o ≤ next_rank o
      rank_next (Kept p) = omega arith
      rank_next (Before p) = omega arith

-- what stands below
pub in_order_below : (b n : ℕ) (xs : List Item) → InOrder b n xs → (k l : ℕ) (x y : Item) → slice_get xs k ≡ Some x → slice_get xs l ≡ Some y → k < l →
    next_rank x.origin ≤ rank y.origin
in_order_below b n [] h k l x y e g lt = cc
in_order_below b n (z ∷ xs) h zero zero x y e g lt = absurd (omega (arith, lt))
in_order_below b n (z ∷ xs) h zero (suc l) x y e g lt =
    let same : z ≡ x = cc in
    subst (λ (w : Item). next_rank w.origin ≤ rank y.origin) same (in_order_get b (next_rank z.origin) xs h.2 l y g).1
in_order_below b n (z ∷ xs) h (suc k) zero x y e g lt = absurd (omega (arith, lt))
in_order_below b n (z ∷ xs) h (suc k) (suc l) x y e g lt = in_order_below b (next_rank z.origin) xs h.2 k l x y e g (omega (arith, lt))

added_order : (b q n : ℕ) (o : Origin) (code : List Instruction) (ys : List Item) → (position_of o).block ≡ b → next_rank o ≡ 2 * q → rank o ≡ 2 * q →
    n ≤ 2 * q →
    InOrder b (2 * q) ys → InOrder b n (map (added o) code ++ ys)
added_order b q n o [] ys home next here le h = in_order_less b n (2 * q) ys le h
added_order b q n o (c ∷ code) ys home next here le h = (
  home,
  omega (arith, le, here),
  subst (λ (m : ℕ). InOrder b m (map (added o) code ++ ys)) (sym next) (added_order b q (2 * q) o code ys home next here
      (omega arith) h),
)

pub framed_order : (f : Function) (b n : ℕ) (xs : List Item) → n % 2 ≡ 0 → InOrder b n xs → InOrder b n (framed_items f xs)
framed_order f b n [] even h = tt
framed_order f b n (x ∷ xs) even h =
    subst (InOrder b n) (sym (append_more (cond (leads_back x.kind) (epilogue f x.origin) []) (renamed f.slots x) (framed_items f xs)))
    (by_exit (leads_back x.kind) (rest x h.0 h.1 (framed_order f b (next_rank x.origin) xs (even_next x.origin) h.2)))
  where
    append_more : (es : List Item) (y : Item) (zs : List Item) → (es ++ y ∷ []) ++ zs ≡ es ++ (y ∷ zs)
    append_more [] y zs = refl
    append_more (e ∷ es) y zs = ap (λ (ws : List Item). e ∷ ws) (append_more es y zs)

    even_next : (o : Origin) → next_rank o % 2 ≡ 0
    even_next (Kept p) = omega arith
    even_next (Before p) = omega arith

    q : ℕ
    q = (position_of x.origin).item

    rest : (y : Item) → (position_of y.origin).block ≡ b → n ≤ rank y.origin → InOrder b (next_rank y.origin) (framed_items f xs) →
        (n ≤ 2 * (position_of y.origin).item) × ((position_of y.origin).block ≡ b)
        × InOrder b (2 * (position_of y.origin).item) (renamed f.slots y ∷ framed_items f xs)
    rest y home le more = (low y.origin le, home, (home, at_least y.origin, more)) where
      low : (o : Origin) → n ≤ rank o → n ≤ 2 * (position_of o).item
      low (Kept p) h = omega (arith, h, even)
      low (Before p) h = h

      at_least : (o : Origin) → 2 * (position_of o).item ≤ rank o
      at_least (Kept p) = omega arith
      at_least (Before p) = omega arith

    by_size : (size : ℕ) → (n ≤ 2 * q) × ((position_of x.origin).block ≡ b) × InOrder b (2 * q) (renamed f.slots x ∷ framed_items f xs) →
        InOrder b n (added_all size (Before (position_of x.origin)) (epilogue_code (size_of f) (saved_of f)) ++ (renamed f.slots x ∷ framed_items f xs))
    by_size zero r = in_order_less b n (2 * q) (renamed f.slots x ∷ framed_items f xs) r.0 r.2
    by_size (suc m) r =
        let w : 2 * (position_of x.origin).item ≡ 2 * q = refl in
        added_order b q n (Before (position_of x.origin)) (epilogue_code (size_of f) (saved_of f)) (renamed f.slots x ∷ framed_items f xs)
        r.1 w w r.0 r.2

    by_exit : (z : Bool) → (n ≤ 2 * q) × ((position_of x.origin).block ≡ b) × InOrder b (2 * q) (renamed f.slots x ∷ framed_items f xs) →
        InOrder b n (cond z (epilogue f x.origin) [] ++ (renamed f.slots x ∷ framed_items f xs))
    by_exit true r = by_size (size_of f) r
    by_exit false r = in_order_less b n (2 * q) (renamed f.slots x ∷ framed_items f xs) r.0 r.2
