-- The registers of a generated function's phis are read back as themselves.
use Rattle.std.proofs.Common.{ℕ, zero, suc, ◌+◌, ◌-◌, ◌%◌, ◌<◌, List, [], ◌∷◌, ◌++◌, Some, None, Bool, true, false, cond, nat_eq, lit<, arith}
use Rattle.std.specs.List.{All}
use Rattle.std.proofs.lemmas.List.Elements.{All-nil, All-cons, All-append, All-head, All-tail}
use Rattle.mir_func.specs.declared.block.Block.{Block}
use Rattle.mir_func.specs.declared.item.Item.{Item}
use Rattle.mir_func.specs.declared.item.ItemKind.{ItemKind}
use Rattle.mir_func.specs.declared.item.ItemKind.TheVariants.{Code, Mark, Phi}
use Rattle.mir_func.specs.Sound.{AllItems}
use Rattle.gen_function.specs.Draws.{Drawn, next, draw}
use Rattle.gen_function.specs.Items.{register_of, variable_of, add, copy, constant, store, load, phi, mark, branch, jump, return}
use Rattle.gen_function.specs.Generator.{register_at, add_group, group_of, group, groups, last_end, end_of, end, beginning, block_items, placed, block_of}
use Rattle.gen_function.specs.Generator.{blocks_made}
use Rattle.gen_function.proofs.Placing.{item_at}
use Rattle.readback_items.specs.Debug.{IsKept, PlaceIsKept}

-- the register of a phi isn't x0 or x2
abbrev pub PhiIsKept : ItemKind → Type 0
PhiIsKept (Code i k) = Unit {0}
PhiIsKept (Mark v m) = Unit {0}
PhiIsKept (Phi p k) = PlaceIsKept p

abbrev AreKept : List ItemKind → Type 0
AreKept kinds = All PhiIsKept kinds

none : AreKept []
none = All-nil PhiIsKept

one : (k : ItemKind) → PhiIsKept k → AreKept (k ∷ [])
one k p = All-cons PhiIsKept k [] p none

two : (k l : ItemKind) → PhiIsKept k → PhiIsKept l → AreKept (k ∷ l ∷ [])
two k l p q = All-cons PhiIsKept k (l ∷ []) p (one l q)

other_register : (r : ℕ) → 2 < r → IsKept r
other_register r l = ((λ e. (let none : ⊥ = omega (arith, l, e) in none)), (λ e. (let none : ⊥ = omega (arith, l, e) in none)))

register_kept : (n : ℕ) → n < 8 → IsKept (register_of n)
register_kept zero l = other_register 8 (lit< tt)
register_kept (suc zero) l = other_register 9 (lit< tt)
register_kept (suc (suc zero)) l = other_register 11 (lit< tt)
register_kept (suc (suc (suc zero))) l = other_register 12 (lit< tt)
register_kept (suc (suc (suc (suc zero)))) l = other_register 13 (lit< tt)
register_kept (suc (suc (suc (suc (suc zero))))) l = other_register 18 (lit< tt)
register_kept (suc (suc (suc (suc (suc (suc zero)))))) l = other_register 19 (lit< tt)
register_kept (suc (suc (suc (suc (suc (suc (suc zero))))))) l = other_register 20 (lit< tt)
register_kept (suc (suc (suc (suc (suc (suc (suc (suc n)))))))) l = absurd (omega (arith, l))

drawn_kept : (state : ℕ) → IsKept (register_of (state % 8))
drawn_kept state = register_kept (state % 8) (let below : state % 8 < 8 = omega arith in below)

kept_add : (d : Drawn) → AreKept (add_group d).kinds
kept_add d =
    let rd = next d.state in let rs = next rd in let rt = next rs in let v = next rt in let k = d.given + 1 in
    two (add (register_at rd) (register_at rs) (register_at rt) k) (mark (variable_of (v % 4)) k) tt tt

kept_group_of : (n : ℕ) (d : Drawn) → AreKept (group_of n d).kinds
unfolding group_of
kept_group_of zero d = kept_add d
kept_group_of (suc zero) d = kept_add d
kept_group_of (suc (suc zero)) d =
    let rd = next d.state in let rs = next rd in one (copy (register_at rd) (register_at rs) (Some (d.given + 1))) tt
kept_group_of (suc (suc (suc zero))) d =
    let rd = next d.state in let n = next rd in let v = next n in let k = d.given + 1 in
    two (constant (register_at rd) (n % 64) k) (mark (variable_of (v % 4)) k) tt tt
kept_group_of (suc (suc (suc (suc zero)))) d = let rs = next d.state in let n = next rs in one (store (register_at rs) (n % 4)) tt
kept_group_of (suc (suc (suc (suc (suc zero))))) d =
    let rd = next d.state in let n = next rd in let v = next n in let k = d.given + 1 in
    two (load (register_at rd) (n % 4) k) (mark (variable_of (v % 4)) k) tt tt
kept_group_of (suc (suc (suc (suc (suc (suc zero)))))) d =
    let rs = next d.state in let v = next rs in let k = d.given + 1 in
    two (phi (register_at rs) k) (mark (variable_of (v % 4)) k) (drawn_kept rs) tt
kept_group_of (suc (suc (suc (suc (suc (suc (suc n))))))) d =
    let v = next d.state in let m = next v in one (mark (variable_of (v % 4)) (m % (d.given + 1) + 1)) tt

kept_groups : (n : ℕ) (d : Drawn) → AreKept (groups n d).kinds
unfolding groups group
kept_groups zero d = none
kept_groups (suc n) d =
    let w = (groups n d).rest in
    All-append PhiIsKept (groups n d).kinds (group_of (next w.state % 8) (draw w)).kinds (kept_groups n d) (kept_group_of (next w.state % 8) (draw w))

kept_end_of : (way count b : ℕ) (d : Drawn) → AreKept (end_of way count b d).kinds
unfolding end_of
kept_end_of zero count b d = none
kept_end_of (suc zero) count b d = let rs = next d.state in let t = next rs in one (branch (register_at rs) (t % (count - 1) + 1)) tt
kept_end_of (suc (suc n)) count b d = let t = next d.state in one (jump (b + 1 + t % (count - 1 - b))) tt

kept_end : (count b : ℕ) (d : Drawn) → AreKept (end count b d).kinds
unfolding end
kept_end count b d = by_test (nat_eq (b + 1) count) where
  by_test : (t : Bool) → AreKept (cond t (record { kinds = last_end; rest = d }) (end_of (next d.state % 3) count b (draw d))).kinds
  by_test true = two (copy 10 8 None) return tt tt
  by_test false = kept_end_of (next d.state % 3) count b (draw d)

kept_beginning : (b : ℕ) → AreKept (beginning b)
unfolding beginning
kept_beginning zero =
    All-cons PhiIsKept (store 10 0) (store 10 1 ∷ store 10 2 ∷ store 10 3 ∷ []) tt
    (All-cons PhiIsKept (store 10 1) (store 10 2 ∷ store 10 3 ∷ []) tt (two (store 10 2) (store 10 3) tt tt))
kept_beginning (suc b) = none

kept_block : (count b : ℕ) (d : Drawn) → AreKept (block_items count b d).kinds
unfolding block_items
kept_block count b d =
    let w = (groups 6 d).rest in
    All-append PhiIsKept (beginning b ++ (groups 6 d).kinds) (end count b w).kinds
    (All-append PhiIsKept (beginning b) (groups 6 d).kinds (kept_beginning b) (kept_groups 6 d)) (kept_end count b w)

placed_kept : (b n : ℕ) (kinds : List ItemKind) → AreKept kinds → All (λ i. PhiIsKept i.kind) (placed b n kinds)
placed_kept b n [] all = All-nil (λ (i : Item). PhiIsKept i.kind)
placed_kept b n (k ∷ kinds) all =
    All-cons (λ (i : Item). PhiIsKept i.kind) (item_at b n k) (placed b (suc n) kinds) (All-head PhiIsKept k kinds all)
    (placed_kept b (suc n) kinds (All-tail PhiIsKept k kinds all))

pub phis_are_kept : (count n : ℕ) (d : Drawn) → AllItems (λ i. PhiIsKept i.kind) (blocks_made count n d).blocks
unfolding blocks_made
phis_are_kept count zero d = All-nil (λ (b : Block). All (λ i. PhiIsKept i.kind) b.items)
phis_are_kept count (suc n) d =
    let before = blocks_made count n d in
    let last = block_of n (block_items count n before.rest).kinds in
    All-append (λ (b : Block). All (λ i. PhiIsKept i.kind) b.items) before.blocks (last ∷ []) (phis_are_kept count n d)
    (All-cons (λ (b : Block). All (λ i. PhiIsKept i.kind) b.items) last [] (placed_kept n 0 (block_items count n before.rest).kinds
    (kept_block count n before.rest)) (All-nil (λ (b : Block). All (λ i. PhiIsKept i.kind) b.items)))
