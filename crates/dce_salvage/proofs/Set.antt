-- Items of which one loses its number.
use Rattle.std.proofs.Common.{◌≡◌, ℕ, suc, ◌<◌, List, [], ◌∷◌, ◌++◌, length, get_or, take, drop, set, sym, ap, ◌∙◌, arith, drop-cons}
use Rattle.std.specs.List.{insert}
use Rattle.std.proofs.lemmas.List.{length-take-le, get_or_at, set_at, take_at, drop_at}
use Rattle.mir_func.specs.declared.item.Item.{Item}
use Rattle.pass_salvage.specs.declared.salvage_action.SalvageAction.{SalvageAction}
use Rattle.pass_salvage.specs.Salvage.{above_after}
use Rattle.pass_salvage.proofs.Placed.{above_length}
use Rattle.dce_salvage.specs.declared.salvage_numbers.Copied.{Copied}
use Rattle.dce_salvage.specs.SalvageNumbers.{without_number, added_by_salvage, salvaged_from, salvaged_items}

abbrev pub bare : Item → Item
bare x = record x { kind = without_number x.kind }

-- in the items ys the number of the copy at an index of xs is salvaged; then the copy x becomes `made`, without its number
module _ (c : Copied) (w : SalvageAction) (xs ys : List Item) (at : ℕ) (x made : Item) (lt : at < length xs)
    (done : ys ≡ above_after w (take at xs) ++ drop at xs) (is : get_or ys at x ≡ x) (bared : made ≡ bare x) where
  abbrev front : List Item
  front = above_after w (take at xs)

  abbrev rest : List Item
  rest = bare x ∷ drop (suc at) xs

  size : length front ≡ at
  size = above_length w (take at xs) ∙ length-take-le at xs (omega (arith, lt))

  split : ys ≡ front ++ get_or xs at x ∷ drop (suc at) xs
  split = done ∙ ap (λ (zs : List Item). front ++ zs) (drop-cons xs at x lt)

  copy : get_or xs at x ≡ x
  copy = sym (get_or_at front (get_or xs at x) (drop (suc at) xs) x at size) ∙ sym (ap (λ (zs : List Item). get_or zs at x) split) ∙ is

  changed : set ys at made ≡ front ++ rest
  changed =
      ap (λ (zs : List Item). set zs at made) split ∙ set_at front (get_or xs at x) (drop (suc at) xs) made at size ∙
      ap (λ (y : Item). front ++ y ∷ drop (suc at) xs) bared

  off : salvaged_items w at c xs ≡ front ++ (added_by_salvage w c x.origin ++ rest)
  off = ap (λ (zs : List Item). front ++ salvaged_from w c zs) (drop-cons xs at x lt ∙ ap (λ (y : Item). y ∷ drop (suc at) xs) copy)

  -- no DBG_PHI is put
  pub bare_items : added_by_salvage w c x.origin ≡ [] → set ys at made ≡ salvaged_items w at c xs
  bare_items none = changed ∙ sym (off ∙ ap (λ (ps : List Item). front ++ (ps ++ rest)) none)

  -- a DBG_PHI is put before the copy
  pub phi_items : (phi : Item) → added_by_salvage w c x.origin ≡ phi ∷ [] → insert (set ys at made) at phi ≡ salvaged_items w at c xs
  phi_items phi one =
      ap (λ (zs : List Item). insert zs at phi) changed ∙ (λ i. take_at front rest at size i ++ phi ∷ drop_at front rest at size i) ∙
      sym (off ∙ ap (λ (ps : List Item). front ++ (ps ++ rest)) one)
