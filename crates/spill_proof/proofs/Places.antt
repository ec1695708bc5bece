-- What stands at places of a function, and which fresh number comes next there.
use Rattle.std.proofs.Common.{◌≡◌, ℕ, zero, suc, ◌<◌, List, [], ◌∷◌, take, drop, Contains, Some, Bool, cond, slice_get, get_or, length}
use Rattle.std.proofs.Common.{refl, ap, ◌∙◌, arith, eq-eqb, ne_eqb}
use Rattle.std.proofs.lemmas.Option.{slice_get-get_or}
use Rattle.mir_func.specs.declared.block.Block.{Block}
use Rattle.mir_func.specs.declared.item.Item.{Item}
use Rattle.mir_func.specs.declared.position.Pos.{Pos}
use Rattle.mir_func.specs.Graph.{Here, front, fetch_in, from_block}
use Rattle.mir_func.specs.Sound.{AreApart, ids_of}
use Rattle.spill_code.specs.declared.spilling.SlotAssignment.{SlotAssignment}
use Rattle.spill_debug.specs.RewrittenDebugItems.{next_number, number_behind}
use Rattle.spill_proof.specs.Step.{number_at}

-- the blocks that are left, of all: what stands in them, and which number comes next there
pub record IsLeftOf (homes : List SlotAssignment) (first : ℕ) (all : List Block) (k : ℕ) (bs : List Block) : Type 0 where
  pub apart : AreApart (ids_of bs)
  pub from : (n : ℕ) → Contains (ids_of bs) n → from_block all n ≡ from_block bs n
  pub number : (at : Pos) → Contains (ids_of bs) at.block → number_at homes first all at ≡ number_at homes k bs at

pub at_first : (homes : List SlotAssignment) (first : ℕ) (all : List Block) → AreApart (ids_of all) → IsLeftOf homes first all first all
at_first homes first all apart = record { apart = apart; from = λ n k. refl; number = λ at k. refl }

-- no later block has the number of the first
other : (b : Block) (bs : List Block) → AreApart (ids_of (b ∷ bs)) → (n : ℕ) → Contains (ids_of bs) n → b.id ≡ n → ⊥
other b bs apart n (i, lt, e) is =
    let bad : 0 ≡ suc i = apart 0 (suc i) n (ap Some is) (slice_of (ids_of bs) i n lt e) in
    cc where
      slice_of : (ns : List ℕ) (j m : ℕ) → j < length ns → get_or ns j m ≡ m → slice_get ns j ≡ Some m
      slice_of ns j m lt e = slice_get-get_or ns j m lt ∙ ap Some e

apart_later : (b : Block) (bs : List Block) → AreApart (ids_of (b ∷ bs)) → AreApart (ids_of bs)
apart_later b bs apart i j n e k = (let same : suc i ≡ suc j = apart (suc i) (suc j) n e k in omega (arith, same))

pub further : (homes : List SlotAssignment) (first : ℕ) (all : List Block) (k : ℕ) (b : Block) (bs : List Block) → IsLeftOf homes first all k (b ∷ bs) →
    IsLeftOf homes first all (number_behind homes k b.items) bs
further homes first all k b bs h = record {
  apart = apart_later b bs h.apart;
  from = λ n c. h.from n (later n c) ∙ ap (λ (z : Bool). cond z (b ∷ bs) (from_block bs n)) (ne_eqb b.id n (other b bs h.apart n c));
  number = λ at c. h.number at (later at.block c) ∙
      ap (λ (z : Bool). cond z (number_behind homes k (take at.item b.items)) (number_at homes (number_behind homes k b.items) bs at))
      (ne_eqb b.id at.block (other b bs h.apart at.block c));
} where
  later : (n : ℕ) → Contains (ids_of bs) n → Contains (ids_of (b ∷ bs)) n
  later n (i, lt, e) = (suc i, omega (arith, lt), e)

module _ (homes : List SlotAssignment) (first : ℕ) (all : List Block) (k : ℕ) (b : Block) (bs : List Block) (h : IsLeftOf homes first all k (b ∷ bs)) where
  here : Contains (ids_of (b ∷ bs)) b.id
  here = (0, omega arith, refl)

  begins : from_block all b.id ≡ b ∷ bs
  begins = h.from b.id here ∙ ap (λ (z : Bool). cond z (b ∷ bs) (from_block bs b.id)) (eq-eqb b.id b.id refl)

  -- the items that are left of the block stand there
  pub stands : (n : ℕ) (x : Item) (xs : List Item) → drop n b.items ≡ x ∷ xs → fetch_in (from_block all b.id) n ≡ Here x
  stands n x xs e = ap (λ (cs : List Block). fetch_in cs n) begins ∙ ap (λ (ys : List Item). front ys b.source_end bs) e

  pub number_is : (n : ℕ) → number_at homes first all (record { block = b.id; item = n }) ≡ number_behind homes k (take n b.items)
  number_is n = h.number (record { block = b.id; item = n }) here ∙
      ap (λ (z : Bool). cond z (number_behind homes k (take n b.items))
      (number_at homes (number_behind homes k b.items) bs (record { block = b.id; item = n })))
      (eq-eqb b.id b.id refl)

pub drop_next : (ys : List Item) (n : ℕ) (x : Item) (xs : List Item) → drop n ys ≡ x ∷ xs → drop (suc n) ys ≡ xs
drop_next [] zero x xs e = cc
drop_next [] (suc n) x xs e = cc
drop_next (y ∷ ys) zero x xs e = drop_none ys ∙ cc where
  drop_none : (zs : List Item) → drop 0 zs ≡ zs
  drop_none [] = refl
  drop_none (z ∷ zs) = refl
drop_next (y ∷ ys) (suc n) x xs e = drop_next ys n x xs e

pub number_next : (homes : List SlotAssignment) (k : ℕ) (ys : List Item) (n : ℕ) (x : Item) (xs : List Item) → drop n ys ≡ x ∷ xs →
    number_behind homes k (take (suc n) ys) ≡ next_number homes (number_behind homes k (take n ys)) x.kind
number_next homes k [] zero x xs e = cc
number_next homes k [] (suc n) x xs e = cc
number_next homes k (y ∷ ys) zero x xs e =
    (let is : y ≡ x = cc in take_none (next_number homes k y.kind) ys ∙ ap (λ (z : Item). next_number homes k z.kind) is) where
      take_none : (m : ℕ) (zs : List Item) → number_behind homes m (take 0 zs) ≡ m
      take_none m [] = refl
      take_none m (z ∷ zs) = refl
number_next homes k (y ∷ ys) (suc n) x xs e = number_next homes (next_number homes k y.kind) ys n x xs e
