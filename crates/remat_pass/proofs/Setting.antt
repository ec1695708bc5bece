-- Constants that are set item by item, from the top of a block down.
use Rattle.std.proofs.Common.{◌≡◌, ℕ, zero, suc, ◌+◌, ◌<◌, ◌≤◌, List, [], ◌∷◌, ◌++◌, length, drop, get_or, set, inr, refl, sym, ap, ◌∙◌, arith, append_assoc}
use Rattle.std.proofs.Math.Seq.{drop-cons}
use Rattle.rv64_instr.specs.declared.place.Place.{Place}
use Rattle.mir_func.specs.declared.item.Item.{Item}
use Rattle.mir_func.specs.declared.item.ItemKind.{ItemKind}
use Rattle.mir_func.specs.Sound.{HasForm}
use Rattle.remat_pass.specs.Known.{Known, nothing_known, known_past}
use Rattle.remat_pass.specs.Remat.{set_in, set_items}
use Rattle.remat_pass.specs.Partly.{MayBeSet, AreItemsSet}
use Rattle.remat_pass.proofs.Partly.{items_kept, item_turn, each_more}

-- the first so many items are done, and so much is known
pub record Setting (items : List Item) (n : ℕ) (known : Known) (now : List Item) : Type 0 where
  pub done : List Item
  pub long : length done ≡ n
  pub now_is : now ≡ done ++ drop n items
  pub all : set_items nothing_known items ≡ done ++ set_items known (drop n items)
  pub each : AreItemsSet items now
  pub forms : (k : ℕ) (d : Item) → k < n → HasForm (get_or items k d).kind

pub setting_begins : (items : List Item) (known : Known) → ((x : Place) → known x ≡ nothing_known x) → Setting items 0 known items
setting_begins items known h =
    let same : known ≡ nothing_known = λ j y. h y j in
    record {
      done = [];
      long = refl;
      now_is = zero_drop items;
      all = ap (λ (k : Known). set_items k items) (sym same) ∙ ap (set_items known) (zero_drop items);
      each = items_kept items;
      forms = λ k d lt. absurd (omega (arith, lt));
    } where
      zero_drop : (xs : List Item) → xs ≡ drop 0 xs
      zero_drop [] = refl
      zero_drop (x ∷ xs) = refl

set_seam : (done : List Item) (x y : Item) (rest : List Item) (n : ℕ) → length done ≡ n → set (done ++ x ∷ rest) n y ≡ done ++ y ∷ rest
set_seam [] x y rest zero e = refl
set_seam [] x y rest (suc n) e = absurd (omega arith)
set_seam (d ∷ ds) x y rest zero e = absurd (omega arith)
set_seam (d ∷ ds) x y rest (suc n) e = ap (λ (r : List Item). d ∷ r) (set_seam ds x y rest n (omega arith))

-- the item at the seam is that of the items as they were
pub setting_item : {items : List Item} {n : ℕ} {known : Known} {now : List Item} → Setting items n known now → n < length items → (x : Item) →
    x ≡ get_or now n x → x ≡ get_or items n x
setting_item {items} {n} {known} {now} s inside x is =
    is ∙ (ap (λ (xs : List Item). get_or xs n x) (s.now_is ∙ ap (λ (r : List Item). s.done ++ r) (drop-cons items n x inside))
    ∙ seam s.done (get_or items n x) (drop (suc n) items) n s.long) where
      seam : (done : List Item) (y : Item) (rest : List Item) (n : ℕ) → length done ≡ n → get_or (done ++ y ∷ rest) n x ≡ y
      seam [] y rest zero e = refl
      seam [] y rest (suc n) e = absurd (omega arith)
      seam (d ∷ ds) y rest zero e = absurd (omega arith)
      seam (d ∷ ds) y rest (suc n) e = seam ds y rest n (omega arith)

-- wherever it stops, the item at the seam as it was or with a constant set
pub setting_turn : {items : List Item} {n : ℕ} {known : Known} {now : List Item} → Setting items n known now → n < length items → (x made : Item) →
    x ≡ get_or now n x → MayBeSet x made → AreItemsSet items (set now n made)
setting_turn {items} {n} s inside x made is m = item_turn items _ s.each n inside x made (setting_item s inside x is) m

pub setting_goes_on : {items : List Item} {n : ℕ} {known : Known} {now : List Item} → Setting items n known now → n < length items → (x made : Item) →
    x ≡ get_or now n x → made ≡ record x { kind = set_in known x.kind } → HasForm x.kind → (next : Known) →
    ((y : Place) → next y ≡ known_past made.kind known y) → Setting items (n + 1) next (set now n made)
setting_goes_on {items} {n} {known} {now} s inside x made is made_is form next past =
    let mine = setting_item s inside x is in
    let one : n + 1 ≡ suc n = omega arith in
    let split : drop n items ≡ x ∷ drop (suc n) items = drop-cons items n x inside ∙ ap (λ (y : Item). y ∷ drop (suc n) items) (sym mine) in
    let after : drop (suc n) items ≡ drop (n + 1) items = ap (λ (m : ℕ). drop m items) (sym one) in
    let kinds : made.kind ≡ set_in known x.kind = ap (λ (i : Item). i.kind) made_is in
    let same : next ≡ known_past (set_in known x.kind) known = λ j y. (past y ∙ ap (λ (k : ItemKind). known_past k known y) kinds) j in record {
      done = s.done ++ made ∷ [];
      long = longer s.done ∙ ap (λ (m : ℕ). m + 1) s.long;
      now_is = ap (λ (xs : List Item). set xs n made) (s.now_is ∙ ap (λ (r : List Item). s.done ++ r) split)
          ∙ (set_seam s.done x made (drop (suc n) items) n s.long
          ∙ (sym (append_assoc s.done (made ∷ []) (drop (suc n) items)) ∙ ap (λ (r : List Item). (s.done ++ made ∷ []) ++ r) after));
      all = s.all ∙ (ap (λ (r : List Item). s.done ++ set_items known r) split
          ∙ (ap (λ (y : Item). s.done ++ y ∷ set_items (known_past (set_in known x.kind) known) (drop (suc n) items)) (sym made_is)
          ∙ (sym (append_assoc s.done (made ∷ []) (set_items (known_past (set_in known x.kind) known) (drop (suc n) items)))
          ∙ (ap (λ (k : Known). (s.done ++ made ∷ []) ++ set_items k (drop (suc n) items)) (sym same)
          ∙ ap (λ (r : List Item). (s.done ++ made ∷ []) ++ set_items next r) after))));
      each = setting_turn s inside x made is (inr (known, made_is));
      forms = each_more (λ (i : Item). HasForm i.kind) items n x inside (setting_item s inside x is) form s.forms;
    } where
      longer : (xs : List Item) → length (xs ++ made ∷ []) ≡ length xs + 1
      longer [] = refl
      longer (y ∷ ys) = let h : length (ys ++ made ∷ []) ≡ length ys + 1 = longer ys in omega arith

pub setting_ends : {items : List Item} {n : ℕ} {known : Known} {now : List Item} → Setting items n known now → length items ≤ n →
    now ≡ set_items nothing_known items
setting_ends {items} {n} {known} {now} s end =
    let none = all_dropped items n end in
    s.now_is ∙ (ap (λ (r : List Item). s.done ++ r) none ∙ sym (s.all ∙ ap (λ (r : List Item). s.done ++ set_items known r) none)) where
      all_dropped : (xs : List Item) (n : ℕ) → length xs ≤ n → drop n xs ≡ []
      all_dropped [] zero l = refl
      all_dropped [] (suc n) l = refl
      all_dropped (x ∷ xs) zero l = absurd (omega arith)
      all_dropped (x ∷ xs) (suc n) l = all_dropped xs n (omega arith)
