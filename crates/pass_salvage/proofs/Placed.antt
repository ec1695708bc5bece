-- Items of which one gets a number.
use Rattle.std.proofs.Common.{◌≡◌, ℕ, zero, suc, ◌<◌, ◌≤◌, List, [], ◌∷◌, ◌++◌, length, get_or, take, drop, set, refl, sym, ap, ◌∙◌, arith}
use Rattle.std.proofs.lemmas.List.{get_or-take, length-take-le, take-append-drop, set-append_left}
use Rattle.std.proofs.Math.Seq.{take-set-lt}
use Rattle.mir_func.specs.declared.item.Item.{Item}
use Rattle.pass_salvage.specs.declared.salvage_action.SalvageAction.{SalvageAction}
use Rattle.pass_salvage.specs.declared.salvage_action.SalvageAction.TheVariants.{HasEntry, GetsEntry, GetsPhi}
use Rattle.pass_salvage.specs.Salvage.{with_number, numbered_at, above_after}

-- the item with the number
abbrev pub numbered_item : ℕ → Item → Item
numbered_item n x = record x { kind = with_number n x.kind }

pub numbered_set : (d n : ℕ) (xs : List Item) (x : Item) → d < length xs → get_or xs d x ≡ x → numbered_at d n xs ≡ set xs d (numbered_item n x)
numbered_set d n [] x lt e = absurd (omega (arith, lt))
numbered_set zero n (y ∷ ys) x lt e = ap (λ (z : Item). numbered_item n z ∷ ys) e
numbered_set (suc d) n (y ∷ ys) x lt e = ap (λ (zs : List Item). y ∷ zs) (numbered_set d n ys x (omega (arith, lt)) e)

-- one of the items before an index gets the number
module _ (xs : List Item) (at d n : ℕ) (x made : Item) (le : at ≤ length xs) (above : d < at) (is : get_or xs d x ≡ x)
    (numbered : made ≡ numbered_item n x) where
  within : d < length (take at xs)
  within = let len : length (take at xs) ≡ at = length-take-le at xs le in omega (arith, above, len)

  set_front : set (take at xs) d made ≡ numbered_at d n (take at xs)
  set_front = ap (set (take at xs) d) numbered ∙ sym (numbered_set d n (take at xs) x within (get_or-take at xs d x above ∙ is))

  pub numbered_front : take at (set xs d made) ≡ numbered_at d n (take at xs)
  numbered_front = take-set-lt at xs d made above ∙ set_front

  pub numbered_items : set xs d made ≡ numbered_at d n (take at xs) ++ drop at xs
  numbered_items =
      ap (λ (ys : List Item). set ys d made) (sym (take-append-drop at xs)) ∙ set-append_left (take at xs) (drop at xs) d made within ∙
      ap (λ (ys : List Item). ys ++ drop at xs) set_front

pub numbered_length : (d n : ℕ) (xs : List Item) → length (numbered_at d n xs) ≡ length xs
numbered_length d n [] = refl
numbered_length zero n (x ∷ xs) = refl
numbered_length (suc d) n (x ∷ xs) = ap suc (numbered_length d n xs)

-- salvage doesn't change how many items are above
pub above_length : (w : SalvageAction) (xs : List Item) → length (above_after w xs) ≡ length xs
above_length HasEntry xs = refl
above_length (GetsEntry d o n) xs = numbered_length d n xs
above_length GetsPhi xs = refl
