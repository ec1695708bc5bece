-- The numbers of generated items rise by one, so none stands on two items.
use Rattle.std.proofs.Common.{◌≡◌, ℕ, zero, suc, ◌+◌, ◌%◌, ◌<◌, ◌≤◌, List, [], ◌∷◌, ◌++◌, Option, Some, None, refl, ap, ◌∙◌, arith}
use Rattle.std.proofs.Common.{Bool, true, false, cond, nat_eq}
use Rattle.std.specs.List.{slice_get}
use Rattle.mir_func.specs.declared.item.Item.{Item}
use Rattle.mir_func.specs.declared.item.ItemKind.{ItemKind}
use Rattle.mir_func.specs.Sound.{number_of, NumbersOnce}
use Rattle.mir_func.proofs.Once.{code_is_number}
use Rattle.gen_function.specs.Draws.{Drawn, next, draw}
use Rattle.gen_function.specs.Generator.{group_of, group, groups, last_end, end_of, end, beginning, block_items, placed}

-- an item with this number, or none, between numbers
abbrev pub RisesAt : (from : ℕ) → Option ℕ → (to : ℕ) → Type 0
RisesAt from None to = to ≡ from
RisesAt from (Some k) to = (k ≡ from + 1) × (to ≡ from + 1)

-- the numbers of items rise by one from a number to another
pub data Rises : (from : ℕ) → List ItemKind → (to : ℕ) → Type 0 where
  ends : {n : ℕ} → Rises n [] n
  goes : {n m e : ℕ} (k : ItemKind) {kinds : List ItemKind} → RisesAt n (number_of k) m → Rises m kinds e → Rises n (k ∷ kinds) e

pub rises_on : {a b c : ℕ} {xs ys : List ItemKind} → Rises a xs b → Rises b ys c → Rises a (xs ++ ys) c
rises_on ends s = s
rises_on (goes k at more) s = goes k at (rises_on more s)

-- ---- generated items

rises_group_of : (n : ℕ) (d : Drawn) → Rises d.given (group_of n d).kinds (group_of n d).rest.given
unfolding group_of
rises_group_of zero d = goes _ (refl, refl) (goes _ refl ends)
rises_group_of (suc zero) d = goes _ (refl, refl) (goes _ refl ends)
rises_group_of (suc (suc zero)) d = goes _ (refl, refl) ends
rises_group_of (suc (suc (suc zero))) d = goes _ (refl, refl) (goes _ refl ends)
rises_group_of (suc (suc (suc (suc zero)))) d = goes _ refl ends
rises_group_of (suc (suc (suc (suc (suc zero))))) d = goes _ (refl, refl) (goes _ refl ends)
rises_group_of (suc (suc (suc (suc (suc (suc zero)))))) d = goes _ (refl, refl) (goes _ refl ends)
rises_group_of (suc (suc (suc (suc (suc (suc (suc n))))))) d = goes _ refl ends

rises_groups : (n : ℕ) (d : Drawn) → Rises d.given (groups n d).kinds (groups n d).rest.given
unfolding groups group
rises_groups zero d = ends
rises_groups (suc n) d = let w = (groups n d).rest in rises_on (rises_groups n d) (rises_group_of (next w.state % 8) (draw w))

rises_end_of : (n count b : ℕ) (d : Drawn) → Rises d.given (end_of n count b d).kinds (end_of n count b d).rest.given
unfolding end_of
rises_end_of zero count b d = ends
rises_end_of (suc zero) count b d = goes _ refl ends
rises_end_of (suc (suc n)) count b d = goes _ refl ends

rises_end : (count b : ℕ) (d : Drawn) → Rises d.given (end count b d).kinds (end count b d).rest.given
unfolding end
rises_end count b d = by_test (nat_eq (b + 1) count) where
  by_test : (t : Bool) → Rises d.given (cond t (record { kinds = last_end; rest = d }) (end_of (next d.state % 3) count b (draw d))).kinds
      (cond t (record { kinds = last_end; rest = d }) (end_of (next d.state % 3) count b (draw d))).rest.given
  by_test true = goes _ refl (goes _ refl ends)
  by_test false = rises_end_of (next d.state % 3) count b (draw d)

rises_beginning : (b n : ℕ) → Rises n (beginning b) n
unfolding beginning
rises_beginning zero n = goes _ refl (goes _ refl (goes _ refl (goes _ refl ends)))
rises_beginning (suc b) n = ends

pub rises_block : (count b : ℕ) (d : Drawn) → Rises d.given (block_items count b d).kinds (block_items count b d).rest.given
unfolding block_items
rises_block count b d = rises_on (rises_on (rises_beginning b d.given) (rises_groups 6 d)) (rises_end count b (groups 6 d).rest)

-- ---- items whose numbers rise

pub data RisingItems : (from : ℕ) → List Item → (to : ℕ) → Type 0 where
  ends_items : {n : ℕ} → RisingItems n [] n
  goes_items : {n m e : ℕ} (i : Item) {items : List Item} → RisesAt n (number_of i.kind) m → RisingItems m items e → RisingItems n (i ∷ items) e

pub items_on : {a b c : ℕ} {xs ys : List Item} → RisingItems a xs b → RisingItems b ys c → RisingItems a (xs ++ ys) c
items_on ends_items s = s
items_on (goes_items i at more) s = goes_items i at (items_on more s)

pub rising_placed : {a c : ℕ} {kinds : List ItemKind} (b n : ℕ) → Rises a kinds c → RisingItems a (placed b n kinds) c
rising_placed b n ends = ends_items
rising_placed b n (goes k at more) = goes_items _ at (rising_placed b (suc n) more)

rises_up : (n m : ℕ) (o : Option ℕ) → RisesAt n o m → n ≤ m
rises_up n m None h = omega arith
rises_up n m (Some k) h = omega arith

rises_above : (n m k : ℕ) (o : Option ℕ) → RisesAt n o m → o ≡ Some k → n < k
rises_above n m k None h e = absurd cc
rises_above n m k (Some l) h e = let s : l ≡ k = cc in omega arith

rises_to : (n m k : ℕ) (o : Option ℕ) → RisesAt n o m → o ≡ Some k → k ≤ m
rises_to n m k None h e = absurd cc
rises_to n m k (Some l) h e = let s : l ≡ k = cc in omega arith

above : {n e : ℕ} {items : List Item} → RisingItems n items e → (j k : ℕ) (y : Item) → slice_get items j ≡ Some y → number_of y.kind ≡ Some k → n < k
above ends_items j k y g f = absurd cc
above (goes_items {n} {m} i at more) zero k y g f =
    let same : i ≡ y = cc in rises_above n m k (number_of i.kind) at (ap (λ (x : Item). number_of x.kind) same ∙ f)
above (goes_items {n} {m} i at more) (suc j) k y g f =
    let up = rises_up n m (number_of i.kind) at in let later = above more j k y g f in omega arith

once : {n e : ℕ} {items : List Item} → RisingItems n items e → (i j : ℕ) (x y : Item) (k : ℕ) → slice_get items i ≡ Some x → number_of x.kind ≡ Some k →
    slice_get items j ≡ Some y → number_of y.kind ≡ Some k → i ≡ j
once ends_items i j x y k e f g h = absurd cc
once (goes_items a at more) zero zero x y k e f g h = refl
once (goes_items {n} {m} a at more) zero (suc j) x y k e f g h =
    let same : a ≡ x = cc in
    let low = rises_to n m k (number_of a.kind) at (ap (λ (z : Item). number_of z.kind) same ∙ f) in
    let high = above more j k y g h in absurd (omega arith)
once (goes_items {n} {m} a at more) (suc i) zero x y k e f g h =
    let same : a ≡ y = cc in
    let low = rises_to n m k (number_of a.kind) at (ap (λ (z : Item). number_of z.kind) same ∙ h) in
    let high = above more i k x e f in absurd (omega arith)
once (goes_items a at more) (suc i) (suc j) x y k e f g h = ap suc (once more i j x y k e f g h)

pub numbers_once : {n e : ℕ} (items : List Item) → RisingItems n items e → NumbersOnce items
numbers_once items r i j x y k e f g h = once r i j x y k e (code_is_number x.kind k f) g h
