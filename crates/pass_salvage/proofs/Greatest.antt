-- The greatest of some numbers.
use Rattle.std.proofs.Common.{◌≡◌, ℕ, ◌+◌, ◌<◌, List, [], ◌∷◌, ◌++◌, length, get_or, take, max, append-nil, sym, ap, ◌∙◌, arith}
use Rattle.std.specs.List.{flat_map}
use Rattle.std.proofs.lemmas.List.{take_more}
use Rattle.std.proofs.lemmas.Grind.{flat_map-append}
use Rattle.mir_func.specs.declared.block.Block.{Block}
use Rattle.mir_func.specs.declared.item.Item.{Item}
use Rattle.mir_func.specs.Sound.{items_of}
use Rattle.pass_trait.specs.Sizes.{greatest, numbers_of}
use Rattle.pass_salvage.specs.Fresh.{item_numbers, block_numbers}

pub max_three : (a b c : ℕ) → max a (max b c) ≡ max (max a b) c
max_three a b c = omega arith

max_none : (b : ℕ) → b ≡ max 0 b
max_none b = omega arith

pub max_zero : (a : ℕ) → max a 0 ≡ a
max_zero a = omega arith

pub greatest_append : (xs ys : List ℕ) → greatest (xs ++ ys) ≡ max (greatest xs) (greatest ys)
greatest_append [] ys = max_none (greatest ys)
greatest_append (x ∷ xs) ys = ap (max x) (greatest_append xs ys) ∙ max_three x (greatest xs) (greatest ys)

-- one more element of a loop
pub greatest_turn : {X : Type 0} (h : X → List ℕ) (xs : List X) (i : ℕ) (x : X) → i < length xs → x ≡ get_or xs i x →
    greatest (flat_map h (take (i + 1) xs)) ≡ max (greatest (flat_map h (take i xs))) (greatest (h x))
greatest_turn {X} h xs i x lt e =
    let one : take (i + 1) xs ≡ take i xs ++ x ∷ [] = take_more xs i x lt ∙ ap (λ (y : X). take i xs ++ y ∷ []) (sym e) in
    let step : greatest (flat_map h (x ∷ [])) ≡ greatest (h x) = greatest_append (h x) [] ∙ max_zero (greatest (h x)) in
    ap (λ (ys : List X). greatest (flat_map h ys)) one ∙ ap greatest (flat_map-append h (take i xs) (x ∷ [])) ∙
    greatest_append (flat_map h (take i xs)) (flat_map h (x ∷ [])) ∙ ap (max (greatest (flat_map h (take i xs)))) step

-- one more block of a loop
pub greatest_block_turn : (bs : List Block) (i : ℕ) (b : Block) → i < length bs → b ≡ get_or bs i b →
    greatest (block_numbers (take (i + 1) bs)) ≡ max (greatest (block_numbers (take i bs))) (greatest (item_numbers b.items))
greatest_block_turn bs i b lt e =
    let one : take (i + 1) bs ≡ take i bs ++ b ∷ [] = take_more bs i b lt ∙ ap (λ (y : Block). take i bs ++ y ∷ []) (sym e) in
    let items : items_of (take (i + 1) bs) ≡ items_of (take i bs) ++ (b.items ++ []) = ap items_of one ∙ flat_map-append (λ (b : Block). b.items) (take i bs)
    (b ∷ []) in
    ap (λ (xs : List Item). greatest (item_numbers xs)) (items ∙ ap (λ (xs : List Item). items_of (take i bs) ++ xs) (append-nil b.items)) ∙
    ap greatest (flat_map-append (λ (i : Item). numbers_of i.kind) (items_of (take i bs)) b.items) ∙
    greatest_append (block_numbers (take i bs)) (item_numbers b.items)
