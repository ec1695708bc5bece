-- Where the items of a function stand.
use Rattle.std.proofs.Common.{◌≡◌, ◌⊎◌, inl, inr, zero, suc, List, [], ◌∷◌, slice_get, Contains, Some, None, Bool, true, false}
use Rattle.std.proofs.Common.{◌||◌, refl, ap, ◌∙◌, subst, arith}
use Rattle.std.specs.List.{list_any}
use Rattle.std.proofs.lemmas.Bool.{or_left, or_right}
use Rattle.std.proofs.lemmas.List.Concat.{flat_map-cons}
use Rattle.std.proofs.lemmas.List.Elements.{Contains-append_cases}
use Rattle.std.proofs.lemmas.Option.{slice_get-get_or}
use Rattle.mir_func.specs.declared.block.Block.{Block}
use Rattle.mir_func.specs.declared.item.Item.{Item}
use Rattle.mir_func.specs.declared.position.Pos.{Pos}
use Rattle.mir_func.specs.Function.{Function}
use Rattle.mir_func.specs.Graph.{fetch_in}
use Rattle.mir_func.specs.Sound.{AreApart, ids_of, items_of}
use Rattle.sem_mir.proofs.Reading.{found, item_front}
use Rattle.pass_trait.specs.Rule.{StandsAt}
use Rattle.spill_select.proofs.spill_simulation.Places.{stands_at, contains_at}
use Rattle.spill_select.proofs.spill_rule.Chosen.{item_in}

-- ---- tests of lists

pub any_by : {A : Type 0} (test : A → Bool) (xs : List A) (x : A) → Contains xs x → test x ≡ true → list_any test xs ≡ true
any_by test [] x (k, lt, e) h = absurd (omega (arith, lt))
any_by test (y ∷ ys) x (zero, lt, e) h = or_left (test y) (list_any test ys) (ap test e ∙ h)
any_by test (y ∷ ys) x (suc k, lt, e) h = or_right (test y) (list_any test ys) (any_by test ys x (k, omega (arith, lt), e) h)

pub some_by : {A : Type 0} (test : A → Bool) (xs : List A) → list_any test xs ≡ true → (x : A) × Contains xs x × (test x ≡ true)
some_by test [] h = cc
some_by {A} test (y ∷ ys) h = by_test (test y) refl h (some_by test ys) where
  by_test : (z : Bool) → test y ≡ z → (z || list_any test ys) ≡ true → (list_any test ys ≡ true → (x : A) × Contains ys x × (test x ≡ true)) →
      (x : A) × Contains (y ∷ ys) x × (test x ≡ true)
  by_test true e h more = (y, (0, omega arith, refl), e)
  by_test false e h more = let w = more h in let k = w.1 in (w.0, (suc k.0, (let lt = k.1 in omega (arith, lt)), k.2), w.2)

-- ---- items and their places

item_from : (bs : List Block) (i : Item) → Contains (items_of bs) i → (b : Block) × Contains bs b × Contains b.items i
item_from [] i (k, lt, e) = absurd (omega (arith, lt))
item_from (b ∷ bs) i h = by_side (Contains-append_cases b.items (items_of bs) i
    (subst (λ (z : List Item). Contains z i) (flat_map-cons (λ (c : Block). c.items) b bs) h)) (item_from bs i) where
      by_side : Contains b.items i ⊎ Contains (items_of bs) i → (Contains (items_of bs) i → (c : Block) × Contains bs c × Contains c.items i) →
          (c : Block) × Contains (b ∷ bs) c × Contains c.items i
      by_side (inl k) more = (b, (0, omega arith, refl), k)
      by_side (inr k) more = let w = more k in let at = w.1 in (w.0, (suc at.0, (let lt = at.1 in omega (arith, lt)), at.2), w.2)

-- what stands at a place is among the items
pub among : (f : Function) (at : Pos) (i : Item) → StandsAt f at i → Contains (items_of f.blocks) i
among f at i there =
    let v = stands_at false f.blocks (λ q. None) at i there in
    item_in f.blocks v.block i v.member (contains_at v.block.items at.item i v.at)

-- and each item stands somewhere
pub standing : (f : Function) → AreApart (ids_of f.blocks) → (i : Item) → Contains (items_of f.blocks) i → (at : Pos) × StandsAt f at i
standing f apart i h =
    let w = item_from f.blocks i h in
    let k = w.2 in
    let v = found f.blocks apart w.0 w.1 in
    let at : slice_get w.0.items k.0 ≡ Some i = slice_get-get_or w.0.items k.0 i k.1 ∙ ap Some k.2 in
    (record { block = w.0.id; item = k.0 }, ap (λ (bs : List Block). fetch_in bs k.0) v.at ∙ item_front w.0.items k.0 w.0.source_end v.rest i at)
