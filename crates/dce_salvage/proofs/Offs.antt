-- The blocks from an index on have lost their numbers.
use Rattle.std.proofs.Common.{◌≡◌, ℕ, zero, suc, ◌+◌, ◌<◌, ◌≤◌, ◌^◌, List, [], ◌∷◌, ◌++◌, length, get_or, take, drop, set, Bool}
use Rattle.std.proofs.Common.{refl, sym, ap, ◌∙◌, arith, drop-cons, length-append}
use Rattle.std.proofs.lemmas.List.{take_more, length-take-le, length-set, append_assoc}
use Rattle.std.proofs.lemmas.Grind.{flat_map-append}
use Rattle.mir_func.specs.declared.block.Block.{Block}
use Rattle.mir_func.specs.declared.item.Item.{Item}
use Rattle.mir_func.specs.Sound.{items_of}
use Rattle.dce_salvage.specs.SalvageNumbers.{SoFar, salvage_down}
use Rattle.pass_salvage.specs.SalvageAction.{going_from}
use Rattle.dce_salvage.specs.SalvageBlocks.{BlocksSoFar, in_block, salvage_block, with_front, salvage_next, salvage_blocks}

-- those from an index on are done, and those before it stand as they were
pub record Offs (dead : List (List Bool)) (bs : List Block) (a : BlocksSoFar) (n : ℕ) (now : BlocksSoFar) : Type 0 where
  pub blocks : now.blocks ≡ take n bs ++ (salvage_blocks (drop n dead) (drop n bs) a).blocks
  pub subs : now.subs ≡ (salvage_blocks (drop n dead) (drop n bs) a).subs
  pub fresh : now.fresh ≡ (salvage_blocks (drop n dead) (drop n bs) a).fresh
  pub lost : now.lost ≡ (salvage_blocks (drop n dead) (drop n bs) a).lost
  pub most : now.fresh + length (items_of (take n bs)) ≤ a.fresh + length (items_of bs)
  pub within : n ≤ length bs
  pub long : length now.blocks ≡ length bs

drop_past : {A : Type 0} (n : ℕ) (xs : List A) → length xs ≤ n → drop n xs ≡ []
drop_past zero [] le = refl
drop_past (suc n) [] le = refl
drop_past zero (x ∷ xs) le = absurd (omega (arith, le))
drop_past (suc n) (x ∷ xs) le = drop_past n xs (omega (arith, le))

take_past : (n : ℕ) (xs : List Block) → length xs ≤ n → take n xs ≡ xs
take_past zero [] le = refl
take_past (suc n) [] le = refl
take_past zero (x ∷ xs) le = absurd (omega (arith, le))
take_past (suc n) (x ∷ xs) le = ap (λ (ys : List Block). x ∷ ys) (take_past n xs (omega (arith, le)))

pub offs_begin : (dead : List (List Bool)) (bs : List Block) (a : BlocksSoFar) (n : ℕ) (now : List Block) → a.blocks ≡ [] → n ≡ length bs → now ≡ bs →
    Offs dead bs a n (record { blocks = now; subs = a.subs; fresh = a.fresh; lost = a.lost })
offs_begin dead bs a n now none all same =
    let none_left : drop n bs ≡ [] = drop_past n bs (omega (arith, all)) in
    let whole : take n bs ≡ bs = take_past n bs (omega (arith, all)) in
    let as_many : length (items_of (take n bs)) ≡ length (items_of bs) = ap (λ (xs : List Block). length (items_of xs)) whole in
    record {
      blocks = same ∙ sym (append_nothing bs) ∙ (λ i. sym whole i ++ sym none i) ∙
          ap (λ (xs : List Block). take n bs ++ (salvage_blocks (drop n dead) xs a).blocks) (sym none_left);
      subs = ap (λ (xs : List Block). (salvage_blocks (drop n dead) xs a).subs) (sym none_left);
      fresh = ap (λ (xs : List Block). (salvage_blocks (drop n dead) xs a).fresh) (sym none_left);
      lost = ap (λ (xs : List Block). (salvage_blocks (drop n dead) xs a).lost) (sym none_left);
      most = omega (arith, as_many);
      within = omega (arith, all);
      long = ap (λ (xs : List Block). length xs) same;
    } where
      append_nothing : (xs : List Block) → xs ++ [] ≡ xs
      append_nothing [] = refl
      append_nothing (x ∷ xs) = ap (λ (ys : List Block). x ∷ ys) (append_nothing xs)

head_drop : (n : ℕ) (dead : List (List Bool)) → get_or (drop n dead) 0 [] ≡ get_or dead n []
head_drop zero [] = refl
head_drop (suc n) [] = refl
head_drop zero (d ∷ ds) = refl
head_drop (suc n) (d ∷ ds) = head_drop n ds

drop_one : (xs : List (List Bool)) → drop 0 xs ≡ xs
drop_one [] = refl
drop_one (x ∷ xs) = refl

tail_drop : (n : ℕ) (dead : List (List Bool)) → drop 1 (drop n dead) ≡ drop (suc n) dead
tail_drop zero [] = refl
tail_drop (suc n) [] = refl
tail_drop zero (d ∷ ds) = refl
tail_drop (suc n) (d ∷ ds) = tail_drop n ds

get_behind : (ps : List Block) (y d : Block) (rest : List Block) (n : ℕ) → length ps ≡ n → get_or (ps ++ y ∷ rest) n d ≡ y
get_behind [] y d rest zero e = refl
get_behind [] y d rest (suc n) e = absurd (omega (arith, e))
get_behind (p ∷ ps) y d rest zero e = absurd (omega (arith, e))
get_behind (p ∷ ps) y d rest (suc n) e = get_behind ps y d rest n (omega (arith, e))

set_behind : (ps : List Block) (y z : Block) (rest : List Block) (n : ℕ) → length ps ≡ n → set (ps ++ y ∷ rest) n z ≡ ps ++ z ∷ rest
set_behind [] y z rest zero e = refl
set_behind [] y z rest (suc n) e = absurd (omega (arith, e))
set_behind (p ∷ ps) y z rest zero e = absurd (omega (arith, e))
set_behind (p ∷ ps) y z rest (suc n) e = ap (λ (xs : List Block). p ∷ xs) (set_behind ps y z rest n (omega (arith, e)))

module _ (dead : List (List Bool)) (bs : List Block) (a : BlocksSoFar) (m n : ℕ) (one : m ≡ n + 1) (now : BlocksSoFar) (h : Offs dead bs a m now)
    (lt : n < length bs) (x : Block) (is : x ≡ get_or now.blocks n x) where
  abbrev done : BlocksSoFar
  done = salvage_blocks (drop m dead) (drop m bs) a

  first_long : length (take n bs) ≡ n
  first_long = length-take-le n bs (omega (arith, lt))

  taken : take m bs ≡ take n bs ++ get_or bs n x ∷ []
  taken = ap (λ (k : ℕ). take k bs) one ∙ take_more bs n x lt

  now_is : now.blocks ≡ take n bs ++ get_or bs n x ∷ done.blocks
  now_is = h.blocks ∙ ap (λ (xs : List Block). xs ++ done.blocks) taken ∙ append_assoc (take n bs) (get_or bs n x ∷ []) done.blocks

  -- what stands there is what stood there
  pub same_block : x ≡ get_or bs n x
  same_block = is ∙ ap (λ (xs : List Block). get_or xs n x) now_is ∙ get_behind (take n bs) (get_or bs n x) x done.blocks n first_long

  items_taken : length (items_of (take m bs)) ≡ length (items_of (take n bs)) + length x.items
  items_taken =
      let two : items_of (take n bs ++ x ∷ []) ≡ items_of (take n bs) ++ (x.items ++ []) = flat_map-append (λ (b : Block). b.items) (take n bs) (x ∷ []) in
      let e : length (items_of (take m bs)) ≡ length (items_of (take n bs) ++ (x.items ++ [])) =
      ap (λ (xs : List Block). length (items_of xs)) (taken ∙ ap (λ (b : Block). take n bs ++ b ∷ []) (sym same_block)) ∙
      ap (λ (ys : List Item). length ys) two in
      let f = length-append (items_of (take n bs)) (x.items ++ []) in
      let g : length (x.items ++ []) ≡ length x.items + 0 = length-append x.items [] in
      omega (arith, e, f, g)

  pub room : a.fresh + length (items_of bs) < 2 ^ 31 → now.fresh + length x.items < 2 ^ 31
  room less = let u = h.most in let v = items_taken in omega (arith, less, u, v)

  pub offs_more : (made : Block) (e : SoFar) → e ≡ salvage_down (going_from 0 (get_or dead n [])) (get_or dead n []) (length x.items)
      (record { items = x.items; subs = now.subs; fresh = now.fresh; lost = now.lost }) → made ≡ record x { items = e.items } →
      e.fresh ≤ now.fresh + length x.items →
      Offs dead bs a n (record { blocks = set now.blocks n made; subs = e.subs; fresh = e.fresh; lost = e.lost })
  offs_more made e off is_made most =
      let next : BlocksSoFar = salvage_blocks (drop n dead) (drop n bs) a in
      let m_is : m ≡ suc n = omega (arith, one) in
      let rest : drop n bs ≡ x ∷ drop (suc n) bs = drop-cons bs n x lt ∙ ap (λ (b : Block). b ∷ drop (suc n) bs) (sym same_block) in
      let d : List Bool = get_or dead n [] in
      let next_is : next ≡ salvage_next d x done =
      ap (λ (cs : List Block). salvage_blocks (drop n dead) cs a) rest ∙
      (λ i. salvage_next (head_drop n dead i) x (salvage_blocks (tail_drop n dead i) (drop (suc n) bs) a)) ∙
      ap (λ (k : ℕ). salvage_next d x (salvage_blocks (drop k dead) (drop k bs) a)) (sym m_is) in
      let here : in_block x done ≡ record { items = x.items; subs = now.subs; fresh = now.fresh; lost = now.lost } =
      (λ i. record { items = x.items; subs = sym h.subs i; fresh = sym h.fresh i; lost = sym h.lost i }) in
      let e_is : salvage_block d x done ≡ e = ap (salvage_down (going_from 0 d) d (length x.items)) here ∙ sym off in
      let front : next ≡ record { blocks = made ∷ done.blocks; subs = e.subs; fresh = e.fresh; lost = e.lost } =
      next_is ∙ ap (with_front x done) e_is ∙
      (λ i. record { blocks = sym is_made i ∷ done.blocks; subs = e.subs; fresh = e.fresh; lost = e.lost }) in
      let u = items_taken in
      let v = h.most in
      record {
        blocks = ap (λ (xs : List Block). set xs n made) now_is ∙ set_behind (take n bs) (get_or bs n x) made done.blocks n first_long ∙
            ap (λ (z : BlocksSoFar). take n bs ++ z.blocks) (sym front);
        subs = ap (λ (z : BlocksSoFar). z.subs) (sym front);
        fresh = ap (λ (z : BlocksSoFar). z.fresh) (sym front);
        lost = ap (λ (z : BlocksSoFar). z.lost) (sym front);
        most = omega (arith, most, u, v);
        within = omega (arith, lt);
        long = length-set now.blocks n made ∙ h.long;
      }

pub offs_end : (dead : List (List Bool)) (bs : List Block) (a : BlocksSoFar) (now : BlocksSoFar) → Offs dead bs a 0 now → now ≡ salvage_blocks dead bs a
offs_end dead bs a now h =
    let z : BlocksSoFar = salvage_blocks (drop 0 dead) (drop 0 bs) a in
    let same : z ≡ salvage_blocks dead bs a = (λ i. salvage_blocks (drop_one dead i) (drop_none bs i) a) in
    (λ i. record { blocks = h.blocks i; subs = h.subs i; fresh = h.fresh i; lost = h.lost i }) ∙ same where
      drop_none : (xs : List Block) → drop 0 xs ≡ xs
      drop_none [] = refl
      drop_none (x ∷ xs) = refl
