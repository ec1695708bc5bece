-- How many items stand before a block, found by the block's number.
use Rattle.std.proofs.Common.{◌≡◌, ℕ, suc, ◌+◌, ◌<◌, ◌≤◌, Bool, true, false, cond, List, [], ◌∷◌, ◌++◌, length, take, drop, get_or, nat_eq, Some, None, refl}
use Rattle.std.proofs.Common.{sym, ap, ◌∙◌, arith}
use Rattle.std.specs.Prelude.{slice_index}
use Rattle.std.proofs.lemmas.List.{drop_more, drop_all, take_all, append_assoc}
use Rattle.std.proofs.lemmas.List.Sums.{sum_by-cons}
use Rattle.mir_func.specs.declared.block.Block.{Block}
use Rattle.mir_func.specs.Graph.{index_of}
use Rattle.mir_func.specs.SoundFrame.{body_of}
use Rattle.emit_code.specs.steps.Places.{items_count, firsts_from, index_in, first_of}
use Rattle.emit_code.proofs.Sites.{first_at}

-- what is left of a list, one step on
pub at_front : {A : Type 0} (xs : List A) (k : ℕ) (x : A) → k < length xs → x ≡ get_or xs k x → drop k xs ≡ x ∷ drop (k + 1) xs
at_front xs k x lt is = drop_more xs k x lt ∙ ap (λ y. y ∷ drop (k + 1) xs) (sym is)

-- ---- the loop over blocks

pub firsts_turn : (blocks : List Block) (k n : ℕ) (b : Block) (firsts : List ℕ) → k < length blocks → b ≡ get_or blocks k b →
    firsts ++ firsts_from n (drop k blocks) ≡ firsts_from 0 blocks → (firsts ++ n ∷ []) ++ firsts_from (n + length b.items) (drop (k + 1) blocks) ≡ firsts_from
    0 blocks
firsts_turn blocks k n b firsts lt is e =
    append_assoc firsts (n ∷ []) (firsts_from (n + length b.items) (drop (k + 1) blocks))
    ∙ ap (λ (t : List Block). firsts ++ firsts_from n t) (sym (at_front blocks k b lt is)) ∙ e

pub count_turn : (blocks : List Block) (k n : ℕ) (b : Block) → k < length blocks → b ≡ get_or blocks k b →
    n + items_count (drop k blocks) ≡ items_count blocks → n + length b.items + items_count (drop (k + 1) blocks) ≡ items_count blocks
count_turn blocks k n b lt is e =
    omega (arith, ap items_count (at_front blocks k b lt is), sum_by-cons (λ (x : Block). length x.items) b (drop (k + 1) blocks), e)

pub firsts_done : (blocks : List Block) (k n : ℕ) (firsts : List ℕ) → length blocks ≤ k → firsts ++ firsts_from n (drop k blocks) ≡ firsts_from 0 blocks →
    firsts ++ n ∷ [] ≡ firsts_from 0 blocks
firsts_done blocks k n firsts le e = ap (λ (t : List Block). firsts ++ firsts_from n t) (sym (drop_all k blocks le)) ∙ e

-- ---- indices

pub record IsFound (k i : ℕ) (blocks : List Block) (n : ℕ) : Type 0 where
  pub index : i ≡ k + index_of blocks n
  pub within : index_of blocks n < length blocks

found_by : (t : Bool) (k i : ℕ) (b : Block) (blocks : List Block) (n : ℕ) → nat_eq b.id n ≡ t → (index_in (suc k) blocks n ≡ Some i →
    IsFound (suc k) i blocks n) →
    index_in k (b ∷ blocks) n ≡ Some i → IsFound k i (b ∷ blocks) n
found_by true k i b blocks n t more e =
    let index : index_of (b ∷ blocks) n ≡ 0 = ap (λ (z : Bool). cond z 0 (suc (index_of blocks n))) t in
    let here : Some k ≡ Some i = ap (λ (z : Bool). cond z (Some k) (index_in (suc k) blocks n)) (sym t) ∙ e in
    let same : k ≡ i = cc in
    record { index = omega arith; within = omega arith }
found_by false k i b blocks n t more e =
    let index : index_of (b ∷ blocks) n ≡ suc (index_of blocks n) = ap (λ (z : Bool). cond z 0 (suc (index_of blocks n))) t in
    let below = more (ap (λ (z : Bool). cond z (Some k) (index_in (suc k) blocks n)) (sym t) ∙ e) in
    record { index = omega (arith, below.index); within = omega (arith, below.within) }

pub found : (k i : ℕ) (blocks : List Block) (n : ℕ) → index_in k blocks n ≡ Some i → IsFound k i blocks n
found k i [] n e = absurd cc
found k i (b ∷ blocks) n e = found_by (nat_eq b.id n) k i b blocks n refl (found (suc k) i blocks n) e

missing_by : (t : Bool) (k : ℕ) (b : Block) (blocks : List Block) (n : ℕ) → nat_eq b.id n ≡ t → (index_in (suc k) blocks n ≡ None →
    index_of blocks n ≡ length blocks) →
    index_in k (b ∷ blocks) n ≡ None → index_of (b ∷ blocks) n ≡ suc (length blocks)
missing_by true k b blocks n t more e =
    let here : Some k ≡ None = ap (λ (z : Bool). cond z (Some k) (index_in (suc k) blocks n)) (sym t) ∙ e in absurd cc
missing_by false k b blocks n t more e =
    let index : index_of (b ∷ blocks) n ≡ suc (index_of blocks n) = ap (λ (z : Bool). cond z 0 (suc (index_of blocks n))) t in
    omega (arith, index, more (ap (λ (z : Bool). cond z (Some k) (index_in (suc k) blocks n)) (sym t) ∙ e))

pub missing : (k : ℕ) (blocks : List Block) (n : ℕ) → index_in k blocks n ≡ None → index_of blocks n ≡ length blocks
missing k [] n e = refl
missing k (b ∷ blocks) n e = missing_by (nat_eq b.id n) k b blocks n refl (missing (suc k) blocks n) e

length_body : (blocks : List Block) (k : ℕ) → k < length (body_of blocks) → suc k < length blocks
length_body [] k lt = absurd (omega arith)
length_body (p ∷ blocks) k lt = omega arith

-- the first item of the block that was found, or the end where there is none
pub first_found : (blocks : List Block) (n i : ℕ) → index_in 1 (body_of blocks) n ≡ Some i → slice_index (firsts_from 0 blocks) i ≡ first_of blocks n
first_found blocks n i e =
    let f = found 1 i (body_of blocks) n e in
    let at : i ≡ suc (index_of (body_of blocks) n) = omega (arith, f.index) in
    let within : i ≤ length blocks = omega (arith, at, length_body blocks (index_of (body_of blocks) n) f.within) in
    omega (arith, first_at 0 i blocks within, ap (λ (k : ℕ). items_count (take k blocks)) at)

body_short : (blocks : List Block) → length blocks ≤ suc (length (body_of blocks))
body_short [] = omega arith
body_short (p ∷ blocks) = omega arith

pub first_missing : (blocks : List Block) (n : ℕ) → index_in 1 (body_of blocks) n ≡ None → items_count blocks ≡ first_of blocks n
first_missing blocks n e =
    let at = missing 1 (body_of blocks) n e in
    let long : length blocks ≤ suc (index_of (body_of blocks) n) = omega (arith, at, body_short blocks) in
    sym (ap items_count (take_all (suc (index_of (body_of blocks) n)) blocks long))

pub count_at : (blocks : List Block) → slice_index (firsts_from 0 blocks) (length blocks) ≡ items_count blocks
count_at blocks =
    omega (arith, first_at 0 (length blocks) blocks (omega arith), ap items_count (take_all (length blocks) blocks (omega arith)))
