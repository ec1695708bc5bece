-- The copies of a block lose their numbers, from the last to the first.
use Rattle.std.proofs.Common.{◌≡◌, ℕ, zero, suc, ◌+◌, ◌≤◌, List, [], ◌∷◌, length, get_or, take, drop, Bool, true, false, cond, nat_eq, refl, sym, ap, ◌∙◌, arith}
use Rattle.std.specs.List.{list_any}
use Rattle.std.proofs.lemmas.List.{length-append}
use Rattle.mir_func.specs.declared.position.Origin.{Origin}
use Rattle.mir_func.specs.declared.item.Item.{Item}
use Rattle.pass_salvage.specs.declared.salvage_action.SalvageAction.{SalvageAction}
use Rattle.pass_salvage.specs.declared.salvage_action.SalvageAction.TheVariants.{HasEntry, GetsEntry, GetsPhi}
use Rattle.pass_salvage.specs.Salvage.{above_after, fresh_after}
use Rattle.pass_salvage.proofs.Placed.{above_length}
use Rattle.dce_salvage.specs.declared.salvage_numbers.Copied.{Copied}
use Rattle.dce_salvage.specs.SalvageNumbers.{without_number, added_by_salvage, salvaged_from, salvaged_items, SoFar, salvage_at, salvage_down}

pub down_step : (removed : List ℕ) (dead : List Bool) (at n : ℕ) → at ≡ n + 1 → (a b z : SoFar) (goes : Bool) → goes ≡ get_or dead n false →
    b ≡ salvage_at removed n goes a → salvage_down removed dead at a ≡ z → salvage_down removed dead n b ≡ z
down_step removed dead at n one a b z goes is made so_far =
    let e : suc n ≡ at = omega (arith, one) in
    ap (salvage_down removed dead n) (made ∙ ap (λ (g : Bool). salvage_at removed n g a) is) ∙ ap (λ (m : ℕ). salvage_down removed dead m a) e ∙ so_far

-- ---- without dead code nothing happens

none_at : (dead : List Bool) (n : ℕ) → list_any (λ (d : Bool). d) dead ≡ false → get_or dead n false ≡ false
none_at [] zero none = refl
none_at [] (suc n) none = refl
none_at (true ∷ ds) zero none = absurd (let no : true ≡ false = none in cc)
none_at (true ∷ ds) (suc n) none = absurd (let no : true ≡ false = none in cc)
none_at (false ∷ ds) zero none = refl
none_at (false ∷ ds) (suc n) none = none_at ds n none

pub none_down : (removed : List ℕ) (dead : List Bool) (n : ℕ) (a : SoFar) → list_any (λ (d : Bool). d) dead ≡ false → a ≡ salvage_down removed dead n a
none_down removed dead zero a none = refl
none_down removed dead (suc n) a none =
    none_down removed dead n a none
    ∙ ap (λ (g : Bool). salvage_down removed dead n (salvage_at removed n g a)) (sym (none_at dead n none))

-- ---- there are no fewer items, and one fresh number more at most

behind_long : (w : SalvageAction) (c : Copied) (xs : List Item) → length xs ≤ length (salvaged_from w c xs)
behind_long w c [] = omega arith
behind_long w c (x ∷ xs) =
    let e = length-append (added_by_salvage w c x.origin) (record x { kind = without_number x.kind } ∷ xs) in
    omega (arith, e)

split_long : (at : ℕ) (xs : List Item) → length (take at xs) + length (drop at xs) ≡ length xs
split_long zero [] = refl
split_long zero (x ∷ xs) = omega arith
split_long (suc at) [] = refl
split_long (suc at) (x ∷ xs) = let e = split_long at xs in omega (arith, e)

pub off_long : (w : SalvageAction) (at : ℕ) (c : Copied) (xs : List Item) → length xs ≤ length (salvaged_items w at c xs)
off_long w at c xs =
    let e = length-append (above_after w (take at xs)) (salvaged_from w c (drop at xs)) in
    let a = above_length w (take at xs) in
    let b = behind_long w c (drop at xs) in
    let s = split_long at xs in
    omega (arith, e, a, b, s)

pub fresh_more : (w : SalvageAction) (fresh : ℕ) → fresh_after w fresh ≤ fresh + 1
fresh_more HasEntry fresh = omega arith
fresh_more (GetsEntry d o n) fresh = by_test (nat_eq n fresh) where
  by_test : (z : Bool) → cond z (fresh + 1) fresh ≤ fresh + 1
  by_test true = omega arith
  by_test false = omega arith
fresh_more GetsPhi fresh = omega arith

-- ---- each fresh number and each phi counts once

put_long : (w : SalvageAction) (c : Copied) (o : Origin) (fresh : ℕ) → length (added_by_salvage w c o) + fresh_after w fresh ≤ fresh + 1
put_long HasEntry c o fresh = omega arith
put_long (GetsEntry d p n) c o fresh = let e = fresh_more (GetsEntry d p n) fresh in omega (arith, e)
put_long GetsPhi c o fresh = omega arith

pub fresh_least : (w : SalvageAction) (fresh : ℕ) → fresh ≤ fresh_after w fresh
fresh_least HasEntry fresh = omega arith
fresh_least (GetsEntry d o n) fresh = by_test (nat_eq n fresh) where
  by_test : (z : Bool) → fresh ≤ cond z (fresh + 1) fresh
  by_test true = omega arith
  by_test false = omega arith
fresh_least GetsPhi fresh = omega arith

behind_grows : (w : SalvageAction) (c : Copied) (xs : List Item) (fresh : ℕ) → length (salvaged_from w c xs) + fresh_after w fresh ≤ length xs + fresh + 1
behind_grows w c [] fresh = let e = fresh_more w fresh in omega (arith, e)
behind_grows w c (x ∷ xs) fresh =
    let e = length-append (added_by_salvage w c x.origin) (record x { kind = without_number x.kind } ∷ xs) in
    let f = put_long w c x.origin fresh in
    omega (arith, e, f)

pub off_grows : (w : SalvageAction) (at : ℕ) (c : Copied) (xs : List Item) (fresh : ℕ) →
    length (salvaged_items w at c xs) + fresh_after w fresh ≤ length xs + fresh + 1
off_grows w at c xs fresh =
    let e = length-append (above_after w (take at xs)) (salvaged_from w c (drop at xs)) in
    let a = above_length w (take at xs) in
    let b = behind_grows w c (drop at xs) fresh in
    let s = split_long at xs in
    omega (arith, e, a, b, s)
