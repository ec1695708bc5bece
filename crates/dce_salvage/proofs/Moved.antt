-- The copies of a block lose their numbers at the end of its items; what is done with has been moved behind them.
use Rattle.std.proofs.Common.{◌≡◌, ℕ, zero, suc, ◌+◌, ◌<◌, ◌≤◌, List, [], ◌∷◌, ◌++◌, length, get_or, take, drop, Option, Some, None, Bool, true, false}
use Rattle.std.proofs.Common.{refl, sym, ap, ◌∙◌, arith}
use Rattle.std.specs.Prelude.{slice_get, reverse}
use Rattle.std.proofs.lemmas.List.{append_assoc, append-nil, reverse-append, length-drop, take-append-le, drop-append-le, nil_from_length}
use Rattle.mir_func.specs.declared.item.Item.{Item}
use Rattle.pass_salvage.specs.declared.salvage_action.SalvageAction.{SalvageAction}
use Rattle.pass_salvage.specs.Salvage.{above_after}
use Rattle.pass_salvage.specs.SalvageAction.{salvage_action}
use Rattle.dce_salvage.specs.declared.salvage_numbers.Copied.{Copied}
use Rattle.dce_salvage.specs.SalvageNumbers.{without_number, added_by_salvage, salvaged_from, salvaged_items}
use Rattle.dce_salvage.specs.SalvageNumbers.{SoFar, salvage_by, copy_in, salvage_copy, salvage_at, salvage_down}
use Rattle.dce_salvage.proofs.Down.{down_step}

-- one more item is moved
pub moved_one : (old new done : List Item) (x : Item) → old ≡ new ++ x ∷ [] → new ++ reverse (done ++ x ∷ []) ≡ old ++ reverse done
moved_one old new done x e =
    ap (λ (zs : List Item). new ++ zs) (reverse-append done (x ∷ [])) ∙ sym (append_assoc new (x ∷ []) (reverse done)) ∙
    ap (λ (zs : List Item). zs ++ reverse done) (sym e)

-- ---- what stands behind the copy stays there

-- the state with more items behind those that it has
abbrev pub with_behind : List Item → SoFar → SoFar
with_behind ys a = record a { items = a.items ++ ys }

get_front : (n : ℕ) (xs ys : List Item) → n < length xs → slice_get (xs ++ ys) n ≡ slice_get xs n
get_front n [] ys less = absurd (omega (arith, less))
get_front zero (x ∷ xs) ys less = refl
get_front (suc n) (x ∷ xs) ys less = get_front n xs ys (omega (arith, less))

from_front : (w : SalvageAction) (c : Copied) (xs ys : List Item) → 0 < length xs → salvaged_from w c (xs ++ ys) ≡ salvaged_from w c xs ++ ys
from_front w c [] ys some = absurd (omega (arith, some))
from_front w c (x ∷ xs) ys some = sym (append_assoc (added_by_salvage w c x.origin) (record x { kind = without_number x.kind } ∷ xs) ys)

items_front : (w : SalvageAction) (n : ℕ) (c : Copied) (xs ys : List Item) → n < length xs →
    salvaged_items w n c (xs ++ ys) ≡ salvaged_items w n c xs ++ ys
items_front w n c xs ys less =
    let within : n ≤ length xs = omega (arith, less) in
    let rest = length-drop n xs in
    let some : 0 < length (drop n xs) = omega (arith, less, rest) in
    let above = take-append-le n xs ys within in
    let below = drop-append-le n xs ys within in
    (λ i. above_after w (above i) ++ salvaged_from w c (below i)) ∙
    ap (λ (zs : List Item). above_after w (take n xs) ++ zs) (from_front w c (drop n xs) ys some) ∙
    sym (append_assoc (above_after w (take n xs)) (salvaged_from w c (drop n xs)) ys)

by_front : (n : ℕ) (c : Copied) (a : SoFar) (ys : List Item) (w : SalvageAction) → n < length a.items →
    salvage_by n c (with_behind ys a) w ≡ with_behind ys (salvage_by n c a w)
by_front n c a ys w less =
    ap (λ (zs : List Item). record (salvage_by n c a w) { items = zs }) (items_front w n c a.items ys less)

copy_front : (removed : List ℕ) (n : ℕ) (a : SoFar) (ys : List Item) → n < length a.items → (o : Option Copied) →
    salvage_copy removed n (with_behind ys a) o ≡ with_behind ys (salvage_copy removed n a o)
copy_front removed n a ys less None = refl
copy_front removed n a ys less (Some c) =
    ap (λ (up : List Item). salvage_by n c (with_behind ys a) (salvage_action removed a.subs a.fresh c.number c.source up))
    (take-append-le n a.items ys (omega (arith, less))) ∙
    by_front n c a ys (salvage_action removed a.subs a.fresh c.number c.source (take n a.items)) less

at_front : (removed : List ℕ) (n : ℕ) (goes : Bool) (a : SoFar) (ys : List Item) → n < length a.items →
    salvage_at removed n goes (with_behind ys a) ≡ with_behind ys (salvage_at removed n goes a)
at_front removed n true a ys less =
    ap (λ (o : Option Item). salvage_copy removed n (with_behind ys a) (copy_in o)) (get_front n a.items ys less) ∙
    copy_front removed n a ys less (copy_in (slice_get a.items n))
at_front removed n false a ys less = refl

-- ---- the state between copies

-- the first n items are left, and those of `done`, in reverse order, stand behind them
pub record Moving (removed : List ℕ) (dead : List Bool) (first : SoFar) (n : ℕ) (a : SoFar) (done : List Item) : Type 0 where
  pub down : salvage_down removed dead n (with_behind (reverse done) a) ≡ salvage_down removed dead (length first.items) first
  pub here : length a.items ≡ n
  pub counted : a.fresh + n ≤ first.fresh + length first.items

pub moving_begins : (removed : List ℕ) (dead : List Bool) (first : SoFar) (n : ℕ) (done : List Item) → n ≡ length first.items → done ≡ [] →
    Moving removed dead first n first done
moving_begins removed dead first n done all none =
    let same : first.items ++ reverse done ≡ first.items =
    ap (λ (ds : List Item). first.items ++ reverse ds) none ∙ append-nil first.items in
    record {
      down = (λ i. salvage_down removed dead (all i) (record first { items = same i }));
      here = sym all;
      counted = omega (arith, all);
    }

module _ (removed : List ℕ) (dead : List Bool) (first : SoFar) (at n : ℕ) (a : SoFar) (done : List Item) (one : at ≡ n + 1)
    (m : Moving removed dead first at a done) where
  -- the item of index n has been asked, and what stands from there on is moved
  pub moving_on : (b : SoFar) (goes : Bool) → goes ≡ get_or dead n false → b ≡ salvage_at removed n goes a → b.fresh ≤ a.fresh + 1 →
      (left moved : List Item) → length left ≡ n → left ++ reverse moved ≡ b.items ++ reverse done →
      Moving removed dead first n (record b { items = left }) moved
  moving_on b goes is made more left moved long all =
      let less : n < length a.items = (let h = m.here in omega (arith, h, one)) in
      let now : with_behind (reverse moved) (record b { items = left }) ≡ salvage_at removed n goes (with_behind (reverse done) a) =
      ap (λ (zs : List Item). record b { items = zs }) all ∙ ap (with_behind (reverse done)) made ∙
      sym (at_front removed n goes a (reverse done) less) in
      let c = m.counted in
      record {
        down = down_step removed dead at n one (with_behind (reverse done) a) (with_behind (reverse moved) (record b { items = left }))
            (salvage_down removed dead (length first.items) first) goes is now m.down;
        here = long;
        counted = omega (arith, c, more, one);
      }

pub moving_ends : (removed : List ℕ) (dead : List Bool) (first : SoFar) (n : ℕ) (a : SoFar) (done : List Item) → n ≡ 0 →
    Moving removed dead first n a done → record a { items = reverse done } ≡ salvage_down removed dead (length first.items) first
moving_ends removed dead first n a done none m =
    let empty : a.items ≡ [] = nil_from_length a.items (m.here ∙ none) in
    ap (λ (zs : List Item). record a { items = zs ++ reverse done }) (sym empty) ∙
    ap (λ (k : ℕ). salvage_down removed dead k (with_behind (reverse done) a)) (sym none) ∙ m.down
