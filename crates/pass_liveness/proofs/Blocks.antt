-- Blocks by their numbers and by their indices.
use Rattle.std.proofs.Common.{◌≡◌, ℕ, zero, suc, ◌<◌, Bool, true, false, cond, List, [], ◌∷◌, length, drop, nat_eq, get_or, Option, Some}
use Rattle.std.proofs.Common.{refl, sym, ap, ◌∙◌, arith, subst}
use Rattle.std.specs.Prelude.{option_map, slice_get, All}
use Rattle.std.proofs.lemmas.Bool.{eq-eqb, ne_eqb, eqb-true}
use Rattle.mir_func.specs.declared.block.Block.{Block}
use Rattle.mir_func.specs.declared.item.Item.{Item}
use Rattle.mir_func.specs.Graph.{from_block}
use Rattle.mir_func.specs.Sound.{AreApart, AllItems, ids_of}
use Rattle.pass_liveness.specs.Index.{index_in}
use Rattle.pass_liveness.specs.Liveness.{items_at}
use Rattle.pass_liveness.proofs.Paths.{next_of}

-- the block at an index, from which the blocks of its number begin
pub record IsAt (blocks : List Block) (n i : ℕ) (b : Block) (bs : List Block) : Type 0 where
  pub at : slice_get blocks i ≡ Some b
  pub rest : bs ≡ drop (suc i) blocks
  pub index : index_in (ids_of blocks) n ≡ Some i
  pub id : b.id ≡ n

pub block_found : (blocks : List Block) (n : ℕ) (b : Block) (bs : List Block) → from_block blocks n ≡ b ∷ bs → (i : ℕ) × IsAt blocks n i b bs
block_found [] n b bs e = absurd cc
block_found (c ∷ cs) n b bs e = by_head (nat_eq c.id n) refl e (λ f. block_found cs n b bs f) where
  by_head : (t : Bool) → nat_eq c.id n ≡ t → cond t (c ∷ cs) (from_block cs n) ≡ b ∷ bs → (from_block cs n ≡ b ∷ bs → (i : ℕ) × IsAt cs n i b bs) →
      (i : ℕ) × IsAt (c ∷ cs) n i b bs
  by_head true t e more =
      let same : c ≡ b = cc in
      let rest : cs ≡ bs = cc in (
        0,
        record {
          at = ap (λ (d : Block). Some d) same;
          rest = sym rest;
          index = ap (λ (z : Bool). cond z (Some 0) (option_map suc (index_in (ids_of cs) n))) t;
          id = ap (λ (d : Block). d.id) (sym same) ∙ eqb-true c.id n t;
        },
      )
  by_head false t e more =
      let r = more e in (
        suc r.0,
        record {
          at = r.1.at;
          rest = r.1.rest;
          index = ap (λ (z : Bool). cond z (Some 0) (option_map suc (index_in (ids_of cs) n))) t ∙ ap (λ (o : Option ℕ). option_map suc o) r.1.index;
          id = r.1.id;
        },
      )

-- the blocks from the one at an index on
id_among : (blocks : List Block) (i : ℕ) (b : Block) → slice_get blocks i ≡ Some b → slice_get (ids_of blocks) i ≡ Some b.id
id_among [] i b e = absurd cc
id_among (c ∷ cs) zero b e = let same : c ≡ b = cc in ap (λ (x : Block). Some x.id) same
id_among (c ∷ cs) (suc i) b e = id_among cs i b e

apart_tail : (n : ℕ) (ns : List ℕ) → AreApart (n ∷ ns) → AreApart ns
apart_tail n ns h i j m e f = let k : suc i ≡ suc j = h (suc i) (suc j) m e f in omega arith

pub from_block-at : (blocks : List Block) (i : ℕ) (b : Block) → AreApart (ids_of blocks) → slice_get blocks i ≡ Some b →
    from_block blocks b.id ≡ b ∷ drop (suc i) blocks
from_block-at [] i b h e = absurd cc
from_block-at (c ∷ cs) zero b h e =
    let same : c ≡ b = cc in
    ap (λ (z : Bool). cond z (c ∷ cs) (from_block cs b.id)) (eq-eqb c.id b.id (ap (λ (x : Block). x.id) same)) ∙ ap (λ (x : Block). x ∷ cs) same
from_block-at (c ∷ cs) (suc i) b h e =
    let other : c.id ≡ b.id → ⊥ = λ s. let k : suc i ≡ zero = h (suc i) zero b.id (id_among cs i b e) (ap (λ (n : ℕ). Some n) s) in omega arith in
    ap (λ (z : Bool). cond z (c ∷ cs) (from_block cs b.id)) (ne_eqb c.id b.id other) ∙ from_block-at cs i b (apart_tail c.id (ids_of cs) h) e

pub next_of-drop : (blocks : List Block) (i : ℕ) → next_of (drop i blocks) ≡ slice_get (ids_of blocks) i
next_of-drop [] zero = refl
next_of-drop [] (suc i) = refl
next_of-drop (b ∷ bs) zero = refl
next_of-drop (b ∷ bs) (suc i) = next_of-drop bs i

pub get_at : (blocks : List Block) (i : ℕ) (b : Block) → i < length blocks → b ≡ get_or blocks i b → slice_get blocks i ≡ Some b
get_at [] i b l e = absurd (omega arith)
get_at (c ∷ cs) zero b l e = ap (λ (x : Block). Some x) (sym e)
get_at (c ∷ cs) (suc i) b l e = get_at cs i b (omega arith) e

id_at : (ns : List ℕ) (i n : ℕ) → slice_get ns i ≡ Some n → get_or ns i 0 ≡ n
id_at [] i n e = absurd cc
id_at (m ∷ ns) zero n e = cc
id_at (m ∷ ns) (suc i) n e = id_at ns i n e

-- the number of the block at an index
pub id_is : (blocks : List Block) (i : ℕ) (b : Block) → slice_get blocks i ≡ Some b → get_or (ids_of blocks) i 0 ≡ b.id
id_is blocks i b e = id_at (ids_of blocks) i b.id (id_among blocks i b e)

-- where blocks' numbers are apart, each is found at its index
pub index_at : (ns : List ℕ) (i n : ℕ) → AreApart ns → slice_get ns i ≡ Some n → index_in ns n ≡ Some i
index_at [] i n h e = absurd cc
index_at (m ∷ ms) zero n h e = ap (λ (z : Bool). cond z (Some 0) (option_map suc (index_in ms n))) (eq-eqb m n cc)
index_at (m ∷ ms) (suc i) n h e =
    let other : m ≡ n → ⊥ = λ s. let k : suc i ≡ zero = h (suc i) zero n e (ap (λ (k : ℕ). Some k) s) in omega arith in
    ap (λ (z : Bool). cond z (Some 0) (option_map suc (index_in ms n))) (ne_eqb m n other)
    ∙ ap (λ (o : Option ℕ). option_map suc o) (index_at ms i n (apart_tail m ms h) e)

-- an element that is there, whatever stands past the end
pub get_or_any : {A : Type 0} (xs : List A) (k : ℕ) (d e : A) → k < length xs → get_or xs k d ≡ get_or xs k e
get_or_any [] k d e l = absurd (omega arith)
get_or_any (x ∷ xs) zero d e l = refl
get_or_any (x ∷ xs) (suc k) d e l = get_or_any xs k d e (omega arith)

-- the items of the block at an index
pub items_at_is : (blocks : List Block) (b : ℕ) (block : Block) → slice_get blocks b ≡ Some block → items_at blocks b ≡ block.items
items_at_is [] b block e = absurd cc
items_at_is (c ∷ cs) zero block e = let same : c ≡ block = cc in ap (λ (d : Block). d.items) same
items_at_is (c ∷ cs) (suc b) block e = items_at_is cs b block e

-- what holds of all items holds of those of a block, from an index on
pub all_below : (P : Item → Type 0) (blocks : List Block) (b : ℕ) (block : Block) (k : ℕ) → AllItems P blocks → slice_get blocks b ≡ Some block →
    All P (drop k block.items)
all_below P blocks b block k each at = λ j d l.
    let here = inside blocks b block at in
    let all : All P (get_or blocks b block).items = each b block here in
    let mine : All P block.items = subst (λ (c : Block). All P c.items) (found blocks b block at) all in
    dropped block.items k mine j d l where
      inside : (xs : List Block) (i : ℕ) (c : Block) → slice_get xs i ≡ Some c → i < length xs
      inside [] i c e = absurd cc
      inside (y ∷ ys) zero c e = omega arith
      inside (y ∷ ys) (suc i) c e = let l : i < length ys = inside ys i c e in omega arith

      found : (xs : List Block) (i : ℕ) (c : Block) → slice_get xs i ≡ Some c → get_or xs i c ≡ c
      found [] i c e = refl
      found (y ∷ ys) zero c e = cc
      found (y ∷ ys) (suc i) c e = found ys i c e

      dropped : (xs : List Item) (k : ℕ) → All P xs → All P (drop k xs)
      dropped xs zero h = h
      dropped [] (suc k) h = h
      dropped (x ∷ xs) (suc k) h = dropped xs k (λ j d l. h (suc j) d (omega arith))
