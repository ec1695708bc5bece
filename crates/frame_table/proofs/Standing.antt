-- What stands at a point, and the frame's state there.
use Rattle.std.proofs.Common.{◌≡◌, ℕ, suc, ◌<◌, ◌≤◌, Bool, true, false, cond, not, nat_eq, List, [], ◌∷◌, length, get_or, drop, refl, sym, ap, ◌∙◌, drop-cons}
use Rattle.std.proofs.lemmas.List.{drop_all}
use Rattle.mir_func.specs.declared.block.Block.{Block}
use Rattle.mir_func.specs.declared.item.Item.{Item}
use Rattle.mir_func.specs.declared.position.Pos.{Pos}
use Rattle.mir_func.specs.Function.{FramedFunction}
use Rattle.mir_func.specs.Graph.{Here, end_of, front, fetch_in, is_return}
use Rattle.frame_proof.specs.Stands.{FrameState, is_as_found, frame_state}

pub drop_item : {A : Type 0} (xs : List A) (k : ℕ) (x : A) → k < length xs → x ≡ get_or xs k x → drop k xs ≡ x ∷ drop (suc k) xs
drop_item xs k x inside is = drop-cons xs k x inside ∙ ap (λ y. y ∷ drop (suc k) xs) (sym is)

in_block : (blocks : List Block) (b n : ℕ) (block : Block) → b < length blocks → block ≡ get_or blocks b block
    → fetch_in (drop b blocks) n ≡ front (drop n block.items) block.source_end (drop (suc b) blocks)
in_block blocks b n block inside is = ap (λ (bs : List Block). fetch_in bs n) (drop_item blocks b block inside is)

pub item_stands : (blocks : List Block) (b n : ℕ) (block : Block) (item : Item) → b < length blocks → block ≡ get_or blocks b block
    → n < length block.items → item ≡ get_or block.items n item → fetch_in (drop b blocks) n ≡ Here item
item_stands blocks b n block item inside is within at =
    in_block blocks b n block inside is
    ∙ ap (λ (items : List Item). front items block.source_end (drop (suc b) blocks)) (drop_item block.items n item within at)

pub none_returns : (blocks : List Block) (b n : ℕ) (block : Block) → b < length blocks → block ≡ get_or blocks b block → length block.items ≤ n
    → is_return (fetch_in (drop b blocks) n) ≡ false
none_returns blocks b n block inside is past =
    ap is_return (in_block blocks b n block inside is)
    ∙ ap (λ (items : List Item). is_return (front items block.source_end (drop (suc b) blocks))) (drop_all n block.items past)
    ∙ ends (drop (suc b) blocks) where
      ends : (bs : List Block) → is_return (end_of block.source_end bs) ≡ false
      ends [] = refl
      ends (x ∷ bs) = refl

-- ---- the state

abbrev pub state : (lowered : ℕ) (saved : Bool) → FrameState
state lowered saved = record { lowered = lowered; saved = saved }

pub found_state : (f : FramedFunction) (p : Pos) → is_as_found f p ≡ true → frame_state f p ≡ state 0 false
found_state f p found = ap (λ b. cond b (state 0 false) (state f.size (not (nat_eq p.block 0)))) found

pub lowered_state : (f : FramedFunction) (p : Pos) → is_as_found f p ≡ false → frame_state f p ≡ state f.size (not (nat_eq p.block 0))
lowered_state f p other = ap (λ b. cond b (state 0 false) (state f.size (not (nat_eq p.block 0)))) other
