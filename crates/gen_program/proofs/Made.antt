-- The items of generated functions, one kind after the other, with the bounds of their numbers.
use Rattle.std.proofs.Common.{◌≡◌, ◌≢◌, ℕ, zero, suc, ◌+◌, ◌-◌, ◌*◌, ◌%◌, ◌<◌, ◌≤◌, List, [], ◌∷◌, ◌++◌, length, Some, None, refl, sym, ap, ◌∙◌, subst, arith}
use Rattle.std.proofs.Common.{Bool, true, false, cond, nat_eq, lit<, lit≤, length-append}
use Rattle.std.specs.List.{All, slice_get}
use Rattle.std.proofs.lemmas.Bool.{eqb-false}
use Rattle.std.proofs.lemmas.Grind.{flat_map-append}
use Rattle.std.proofs.lemmas.List.{append-nil}
use Rattle.std.proofs.lemmas.List.Elements.{All-nil, All-cons, All-append, All-head, All-tail}
use Rattle.mir_func.specs.declared.block.Block.{Block}
use Rattle.mir_func.specs.declared.item.Item.{Item}
use Rattle.mir_func.specs.declared.item.ItemKind.{ItemKind}
use Rattle.mir_func.specs.declared.location.Loc.TheVariants.{Absent}
use Rattle.mir_func.specs.declared.position.Origin.TheVariants.{Kept}
use Rattle.mir_func.specs.Sound.{items_of}
use Rattle.gen_function.specs.Draws.{Drawn, next, draw}
use Rattle.gen_function.specs.Items.{register_of, variable_of, add, copy, constant, store, load, phi, mark, branch, jump, return}
use Rattle.gen_function.specs.Generator.{group_of, group, groups, last_end, end_of, end, beginning, block_items, placed, block_of, blocks_made}
use Rattle.gen_function.proofs.Given.{groups_give, blocks_give}
use Rattle.gen_function.proofs.Placing.{item_at, length-placed}

-- a register of a generated function: a physical one, and not x0
abbrev pub IsDrawn : ℕ → Type 0
IsDrawn r = (0 < r) × (r < 32)

-- an item of a generated function, whose numbers are at most so great
pub data IsMade (top : ℕ) : ItemKind → Type 0 where
  adds : (rd rs rt k : ℕ) → IsDrawn rd → IsDrawn rs → IsDrawn rt → k ≤ top → IsMade top (add rd rs rt k)
  copies : (rd rs k : ℕ) → IsDrawn rd → IsDrawn rs → k ≤ top → IsMade top (copy rd rs (Some k))
  gives : IsMade top (copy 10 8 None)
  sets : (rd n k : ℕ) → IsDrawn rd → n < 64 → k ≤ top → IsMade top (constant rd n k)
  stores : (rs n : ℕ) → IsDrawn rs → n < 4 → IsMade top (store rs n)
  loads : (rd n k : ℕ) → IsDrawn rd → n < 4 → k ≤ top → IsMade top (load rd n k)
  phis : (rs k : ℕ) → IsDrawn rs → k ≤ top → IsMade top (phi rs k)
  marks : (n k : ℕ) → n < 4 → k ≤ top → IsMade top (mark (variable_of n) k)
  branches : (rs n : ℕ) → IsDrawn rs → n ≤ top → IsMade top (branch rs n)
  jumps : (n : ℕ) → n ≤ top → IsMade top (jump n)
  returns : IsMade top return

-- ---- what is drawn

register_drawn : (n : ℕ) → n < 8 → IsDrawn (register_of n)
register_drawn zero l = (lit< tt, lit< tt)
register_drawn (suc zero) l = (lit< tt, lit< tt)
register_drawn (suc (suc zero)) l = (lit< tt, lit< tt)
register_drawn (suc (suc (suc zero))) l = (lit< tt, lit< tt)
register_drawn (suc (suc (suc (suc zero)))) l = (lit< tt, lit< tt)
register_drawn (suc (suc (suc (suc (suc zero))))) l = (lit< tt, lit< tt)
register_drawn (suc (suc (suc (suc (suc (suc zero)))))) l = (lit< tt, lit< tt)
register_drawn (suc (suc (suc (suc (suc (suc (suc zero))))))) l = (lit< tt, lit< tt)
register_drawn (suc (suc (suc (suc (suc (suc (suc (suc n)))))))) l = absurd (omega (arith, l))

drawn : (state : ℕ) → IsDrawn (register_of (state % 8))
drawn state = register_drawn (state % 8) below where
  below : state % 8 < 8
  below = omega arith

below_four : (n : ℕ) → n % 4 < 4
below_four n = omega arith

below_64 : (n : ℕ) → n % 64 < 64
below_64 n = omega arith

-- a list of items that are made so, so many at most
pub record AreMade (top max : ℕ) (kinds : List ItemKind) : Type 0 where
  pub all : All (IsMade top) kinds
  pub few : length kinds ≤ max

none : (top max : ℕ) → AreMade top max []
none top max = record { all = All-nil (IsMade top); few = omega arith }

just : (top : ℕ) (k : ItemKind) → IsMade top k → AreMade top 2 (k ∷ [])
just top k p = record { all = All-cons (IsMade top) k [] p (All-nil (IsMade top)); few = lit≤ tt }

both : (top : ℕ) (k l : ItemKind) → IsMade top k → IsMade top l → AreMade top 2 (k ∷ l ∷ [])
both top k l p q = record { all = All-cons (IsMade top) k (l ∷ []) p (All-cons (IsMade top) l [] q (All-nil (IsMade top))); few = lit≤ tt }

joined : (top m n : ℕ) (xs ys : List ItemKind) → AreMade top m xs → AreMade top n ys → AreMade top (m + n) (xs ++ ys)
joined top m n xs ys p q = record {
  all = All-append (IsMade top) xs ys p.all q.all;
  few = let a = p.few in let b = q.few in simp length-append (omega (arith, a, b));
}

-- ---- groups

made_group_of : (top n : ℕ) (d : Drawn) → d.given + 1 ≤ top → AreMade top 2 (group_of n d).kinds
unfolding group_of
made_group_of top zero d l =
    let rd = next d.state in let rs = next rd in let rt = next rs in let v = next rt in
    both top _ _ (adds _ _ _ _ (drawn rd) (drawn rs) (drawn rt) l) (marks (v % 4) _ (below_four v) l)
made_group_of top (suc zero) d l =
    let rd = next d.state in let rs = next rd in let rt = next rs in let v = next rt in
    both top _ _ (adds _ _ _ _ (drawn rd) (drawn rs) (drawn rt) l) (marks (v % 4) _ (below_four v) l)
made_group_of top (suc (suc zero)) d l =
    let rd = next d.state in let rs = next rd in just top _ (copies _ _ _ (drawn rd) (drawn rs) l)
made_group_of top (suc (suc (suc zero))) d l =
    let rd = next d.state in let n = next rd in let v = next n in
    both top _ _ (sets _ _ _ (drawn rd) (below_64 n) l) (marks (v % 4) _ (below_four v) l)
made_group_of top (suc (suc (suc (suc zero)))) d l =
    let rs = next d.state in let n = next rs in just top _ (stores _ _ (drawn rs) (below_four n))
made_group_of top (suc (suc (suc (suc (suc zero))))) d l =
    let rd = next d.state in let n = next rd in let v = next n in
    both top _ _ (loads _ _ _ (drawn rd) (below_four n) l) (marks (v % 4) _ (below_four v) l)
made_group_of top (suc (suc (suc (suc (suc (suc zero)))))) d l =
    let rs = next d.state in let v = next rs in both top _ _ (phis _ _ (drawn rs) l) (marks (v % 4) _ (below_four v) l)
made_group_of top (suc (suc (suc (suc (suc (suc (suc n))))))) d l =
    let v = next d.state in let m = next v in
    just top _ (marks (v % 4) (m % (d.given + 1) + 1) (below_four v) (omega (arith, l)))

made_groups : (top n : ℕ) (d : Drawn) → d.given + n ≤ top → AreMade top (2 * n) (groups n d).kinds
unfolding groups group
made_groups top zero d l = none top 0
made_groups top (suc n) d l =
    let w = (groups n d).rest in
    let given : w.given ≤ d.given + n = groups_give n d in
    subst (λ (m : ℕ). AreMade top m ((groups n d).kinds ++ (group_of (next w.state % 8) (draw w)).kinds)) two_more
    (joined top (2 * n) 2 (groups n d).kinds (group_of (next w.state % 8) (draw w)).kinds (made_groups top n d (omega (arith, l)))
    (made_group_of top (next w.state % 8) (draw w) (omega (arith, l, given)))) where
      two_more : 2 * n + 2 ≡ 2 * suc n
      two_more = omega arith

-- ---- ends

made_last : (top : ℕ) → AreMade top 2 last_end
made_last top = both top (copy 10 8 None) return gives returns

made_end_of : (top way count b : ℕ) (d : Drawn) → count ≤ top → b + 1 < count → AreMade top 2 (end_of way count b d).kinds
unfolding end_of
made_end_of top zero count b d l h = none top 2
made_end_of top (suc zero) count b d l h =
    let rs = next d.state in let t = next rs in just top _ (branches _ (t % (count - 1) + 1) (drawn rs) (omega (arith, l, h)))
made_end_of top (suc (suc n)) count b d l h =
    let t = next d.state in just top _ (jumps (b + 1 + t % (count - 1 - b)) (omega (arith, l, h)))

made_end : (top count b : ℕ) (d : Drawn) → count ≤ top → b < count → AreMade top 2 (end count b d).kinds
unfolding end
made_end top count b d l h = by_test (nat_eq (b + 1) count) refl where
  by_test : (t : Bool) → nat_eq (b + 1) count ≡ t →
      AreMade top 2 (cond t (record { kinds = last_end; rest = d }) (end_of (next d.state % 3) count b (draw d))).kinds
  by_test true e = made_last top
  by_test false e =
      let apart : b + 1 ≢ count = eqb-false (b + 1) count e in made_end_of top (next d.state % 3) count b (draw d) l (omega (arith, h, apart))

-- ---- blocks

-- what a block begins with, so many items
abbrev pub first_items : (block : ℕ) → ℕ
first_items zero = 4
first_items (suc b) = 0

made_beginning : (top b : ℕ) → AreMade top (first_items b) (beginning b)
unfolding beginning
made_beginning top zero = record {
  all = stored 0 (store 10 1 ∷ store 10 2 ∷ store 10 3 ∷ []) (lit< tt) (stored 1 (store 10 2 ∷ store 10 3 ∷ []) (lit< tt)
      (stored 2 (store 10 3 ∷ []) (lit< tt) (stored 3 [] (lit< tt) (All-nil (IsMade top)))));
  few = lit≤ tt;
} where
  stored : (n : ℕ) (rest : List ItemKind) → n < 4 → All (IsMade top) rest → All (IsMade top) (store 10 n ∷ rest)
  stored n rest l h = All-cons (IsMade top) (store 10 n) rest (stores 10 n (lit< tt, lit< tt) l) h
made_beginning top (suc b) = none top 0

made_block : (top count b : ℕ) (d : Drawn) → count ≤ top → b < count → d.given + 6 ≤ top →
    AreMade top (first_items b + 12 + 2) (block_items count b d).kinds
unfolding block_items
made_block top count b d l h g =
    let w = (groups 6 d).rest in
    joined top (first_items b + 12) 2 (beginning b ++ (groups 6 d).kinds) (end count b w).kinds
    (joined top (first_items b) 12 (beginning b) (groups 6 d).kinds (made_beginning top b) (made_groups top 6 d g)) (made_end top count b w l h)

-- an item as it is read, which has no location
pub record IsMadeItem (top : ℕ) (i : Item) : Type 0 where
  pub made : IsMade top i.kind
  pub absent : i.loc ≡ Absent

-- a block as it is read, with items that are made so
pub record IsMadeBlock (top : ℕ) (b : Block) : Type 0 where
  pub items : All (IsMadeItem top) b.items
  pub origins : (k : ℕ) (i : Item) → slice_get b.items k ≡ Some i → i.origin ≡ Kept (record { block = b.id; item = k })
  pub source_end : b.source_end ≡ length b.items
  pub few : length b.items ≤ 18
  pub low : b.id < top

placed_made : (top b n : ℕ) (kinds : List ItemKind) → All (IsMade top) kinds → All (IsMadeItem top) (placed b n kinds)
placed_made top b n [] h = All-nil (IsMadeItem top)
placed_made top b n (k ∷ kinds) h =
    All-cons (IsMadeItem top) (item_at b n k) (placed b (suc n) kinds) (record { made = All-head (IsMade top) k kinds h; absent = refl })
    (placed_made top b (suc n) kinds (All-tail (IsMade top) k kinds h))

placed_origins : (b n : ℕ) (kinds : List ItemKind) (k : ℕ) (i : Item) → slice_get (placed b n kinds) k ≡ Some i →
    i.origin ≡ Kept (record { block = b; item = n + k })
placed_origins b n [] k i e = absurd cc
placed_origins b n (x ∷ kinds) zero i e =
    let same : item_at b n x ≡ i = cc in
    ap (λ (j : Item). j.origin) (sym same) ∙ ap (λ (m : ℕ). Kept (record { block = b; item = m })) plus_zero where
      plus_zero : n ≡ n + 0
      plus_zero = omega arith
placed_origins b n (x ∷ kinds) (suc k) i e =
    placed_origins b (suc n) kinds k i e ∙ ap (λ (m : ℕ). Kept (record { block = b; item = m })) onward where
      onward : suc n + k ≡ n + suc k
      onward = omega arith

block_made : (top count b : ℕ) (d : Drawn) → count ≤ top → b < count → d.given + 6 ≤ top → IsMadeBlock top (block_of b (block_items count b d).kinds)
block_made top count b d l h g =
    let kinds = (block_items count b d).kinds in
    let made = made_block top count b d l h g in
    let long = length-placed b 0 kinds in
    let first : first_items b ≤ 4 = few_first b in
    let few = made.few in
    record {
      items = placed_made top b 0 kinds made.all;
      origins = λ k i e. placed_origins b 0 kinds k i e ∙ ap (λ (m : ℕ). Kept (record { block = b; item = m })) (zero_plus k);
      source_end = sym long;
      few = omega (arith, long, first, few);
      low = omega (arith, l, h);
    } where
      zero_plus : (k : ℕ) → 0 + k ≡ k
      zero_plus k = omega arith

      few_first : (c : ℕ) → first_items c ≤ 4
      few_first zero = lit≤ tt
      few_first (suc c) = lit≤ tt

-- ---- the blocks of a function

pub blocks_are_made : (top count n : ℕ) (d : Drawn) → count ≤ top → n ≤ count → d.given + 6 * n ≤ top → All (IsMadeBlock top) (blocks_made count n d).blocks
unfolding blocks_made
blocks_are_made top count zero d l h g = All-nil (IsMadeBlock top)
blocks_are_made top count (suc n) d l h g =
    let before = blocks_made count n d in
    let last = block_of n (block_items count n before.rest).kinds in
    let given : before.rest.given ≤ d.given + 6 * n = blocks_give count n d in
    All-append (IsMadeBlock top) before.blocks (last ∷ []) (blocks_are_made top count n d l (omega (arith, h)) (omega (arith, g)))
    (All-cons (IsMadeBlock top) last [] (block_made top count n before.rest l (omega (arith, h)) (omega (arith, g, given))) (All-nil (IsMadeBlock top)))

-- ---- how many items there are

items_more : (bs : List Block) (b : Block) → length (items_of (bs ++ b ∷ [])) ≡ length (items_of bs) + length b.items
items_more bs b =
    ap length (flat_map-append (λ (x : Block). x.items) bs (b ∷ []) ∙ ap (λ (xs : List Item). items_of bs ++ xs) (append-nil b.items))
    ∙ length-append (items_of bs) b.items

pub few_items : (count n : ℕ) (d : Drawn) → n ≤ count → length (items_of (blocks_made count n d).blocks) ≤ 4 + 14 * n
unfolding blocks_made
few_items count zero d h = omega arith
few_items count (suc zero) d h =
    let top = count + d.given + 6 in
    let before = blocks_made count 0 d in
    let last = block_of 0 (block_items count 0 before.rest).kinds in
    let more = items_more before.blocks last in
    let made = (made_block top count 0 before.rest (omega arith) (omega (arith, h)) (omega arith)).few in
    let long = length-placed 0 0 (block_items count 0 before.rest).kinds in
    omega (arith, more, made, long)
few_items count (suc (suc n)) d h =
    let before = blocks_made count (suc n) d in
    let top = count + before.rest.given + 6 in
    let last = block_of (suc n) (block_items count (suc n) before.rest).kinds in
    let more = items_more before.blocks last in
    let made = (made_block top count (suc n) before.rest (omega arith) (omega (arith, h)) (omega arith)).few in
    let long = length-placed (suc n) 0 (block_items count (suc n) before.rest).kinds in
    let rest = few_items count (suc n) d (omega (arith, h)) in
    omega (arith, more, made, long, rest)

-- ---- the first block

-- blocks whose first one begins by storing x10 into each slot
pub record BeginsByStoring (blocks : List Block) : Type 0 where
  pub rest : List ItemKind
  pub more : List Block
  pub is : blocks ≡ block_of 0 (store 10 0 ∷ store 10 1 ∷ store 10 2 ∷ store 10 3 ∷ rest) ∷ more

begins_first : (count : ℕ) (d : Drawn) → BeginsByStoring (block_of 0 (block_items count 0 d).kinds ∷ [])
unfolding block_items beginning
begins_first count d = record { rest = (groups 6 d).kinds ++ (end count 0 (groups 6 d).rest).kinds; more = []; is = refl }

begins_more : (bs : List Block) (b : Block) → BeginsByStoring bs → BeginsByStoring (bs ++ b ∷ [])
begins_more bs b h = record { rest = h.rest; more = h.more ++ b ∷ []; is = ap (λ (xs : List Block). xs ++ b ∷ []) h.is }

pub begins_by_storing : (count n : ℕ) (d : Drawn) → BeginsByStoring (blocks_made count (suc n) d).blocks
unfolding blocks_made
begins_by_storing count zero d = begins_first count d
begins_by_storing count (suc n) d =
    let before = blocks_made count (suc n) d in
    begins_more before.blocks (block_of (suc n) (block_items count (suc n) before.rest).kinds) (begins_by_storing count n d)
