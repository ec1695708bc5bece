-- The walk down the items of a block, and from block to block.
use Rattle.std.proofs.Common.{◌≡◌, ◌<◌, ◌≤◌, ◌+◌, ℕ, zero, suc, List, [], ◌∷◌, ◌++◌, map, length, drop, take, get_or}
use Rattle.std.proofs.Common.{Some, Bool, true, false, cond}
use Rattle.std.proofs.Common.{refl, sym, ap, ◌∙◌, subst, arith, append_assoc, append-nil}
use Rattle.std.specs.Prelude.{slice_get, option_to_list}
use Rattle.std.specs.List.{flat_map}
use Rattle.std.proofs.lemmas.List.{take_more}
use Rattle.std.proofs.lemmas.List.Concat.{flat_map-append}
use Rattle.mir_func.specs.declared.position.Pos.{Pos}
use Rattle.mir_func.specs.declared.block.Block.{Block}
use Rattle.mir_func.specs.declared.item.Item.{Item}
use Rattle.pass_trait.specs.declared.loss.Loss.{Loss}
use Rattle.dce_stale.specs.dce_rule.Dead.{Places, Ends, is_dead, needed_at}
use Rattle.dce_stale.specs.dce_rule.Wrong.{begins_dead, silenced, silenced_left, silenced_block}
use Rattle.dce_stale.specs.dce_analysis.Judge.{verdicts}
use Rattle.dce_stale.specs.Flow.{wrong_next, wrong_at}
use Rattle.dce_stale.proofs.Exact.{begins_at, drop_at}
use Rattle.dce_stale.proofs.Steps.{step_at}
use Rattle.dce_sweep.specs.Left.{left_of, lost_of, left_from, lost_from, lost_in_block, lost_in}

-- the places that are wrong before each item
abbrev pub wrongs : List Item → List Bool → (start : Places) → ℕ → Places
wrongs items dead start = λ k. wrong_at items dead k start

-- what is left and lost of the first items
pub record Walking (items : List Item) (dead : List Bool) (start : Places) (before : List Loss) (k : ℕ) (set : Places) (left : List Item)
    (lost : List Loss) : Type 0 where
  pub set_is : set ≡ wrong_at items dead k start
  pub left_is : left ++ left_from (wrongs items dead start) dead k (drop k items) ≡ left_from (wrongs items dead start) dead 0 items
  pub lost_is : lost ++ lost_from (wrongs items dead start) dead k (drop k items) ≡ before ++ lost_from (wrongs items dead start) dead 0 items

drop_zero : {A : Type 0} (xs : List A) → drop 0 xs ≡ xs
drop_zero [] = refl
drop_zero (x ∷ xs) = refl

drop_past : {A : Type 0} (xs : List A) (k : ℕ) → length xs ≤ k → drop k xs ≡ []
drop_past [] zero le = refl
drop_past [] (suc k) le = refl
drop_past (x ∷ xs) zero le = absurd (omega (arith, le))
drop_past (x ∷ xs) (suc k) le = drop_past xs k (omega (arith, le))

module _ (items : List Item) (dead : List Bool) (start : Places) where
  pub walk_begins : (left : List Item) (lost : List Loss) → left ≡ [] → Walking items dead start lost 0 start left lost
  walk_begins left lost none = record {
    set_is = refl;
    left_is = (λ i. none i ++ left_from (wrongs items dead start) dead 0 (drop_zero items i));
    lost_is = (λ i. lost ++ lost_from (wrongs items dead start) dead 0 (drop_zero items i));
  }

  module _ {before : List Loss} {k : ℕ} {set : Places} {left : List Item} {lost : List Loss} (w : Walking items dead start before k set left lost) where
    pub walk_on : (i : Item) → slice_get items k ≡ Some i → (next : Places) (left' : List Item) (lost' : List Loss) →
        next ≡ wrong_next i.kind (get_or dead k false) set → left' ≡ left ++ left_of set (get_or dead k false) i →
        lost' ≡ lost ++ option_to_list (lost_of set (get_or dead k false) i.kind i.origin) → Walking items dead start before (k + 1) next left' lost'
    walk_on i at next left' lost' next_is left_is lost_is =
        let one : suc k ≡ k + 1 = omega arith in
        subst (λ (n : ℕ). Walking items dead start before n next left' lost') one (record {
          set_is = step_at items dead k i start set next at w.set_is next_is ∙ ap (λ (n : ℕ). wrong_at items dead n start) (sym one);
          left_is = ap (λ (xs : List Item). xs ++ left_from (wrongs items dead start) dead (suc k) (drop (suc k) items))
              (left_is ∙ ap (λ (p : Places). left ++ left_of p (get_or dead k false) i) w.set_is)
              ∙ append_assoc left (left_of (wrong_at items dead k start) (get_or dead k false) i) _
              ∙ ap (λ (xs : List Item). left ++ left_from (wrongs items dead start) dead k xs) (sym (drop_at items k i at)) ∙ w.left_is;
          lost_is = ap (λ (xs : List Loss). xs ++ lost_from (wrongs items dead start) dead (suc k) (drop (suc k) items))
              (lost_is ∙ ap (λ (p : Places). lost ++ option_to_list (lost_of p (get_or dead k false) i.kind i.origin)) w.set_is)
              ∙ append_assoc lost (option_to_list (lost_of (wrong_at items dead k start) (get_or dead k false) i.kind i.origin)) _
              ∙ ap (λ (xs : List Item). lost ++ lost_from (wrongs items dead start) dead k xs) (sym (drop_at items k i at)) ∙ w.lost_is;
        })

    pub left_all : length items ≤ k → left ≡ left_from (wrongs items dead start) dead 0 items
    left_all le =
        sym (append-nil left) ∙ ap (λ (xs : List Item). left ++ left_from (wrongs items dead start) dead k xs) (sym (drop_past items k le)) ∙ w.left_is

    pub lost_all : length items ≤ k → lost ≡ before ++ lost_from (wrongs items dead start) dead 0 items
    lost_all le =
        sym (append-nil lost) ∙ ap (λ (xs : List Item). lost ++ lost_from (wrongs items dead start) dead k xs) (sym (drop_past items k le)) ∙ w.lost_is

-- ---- by the verdicts it is what taking out leaves

pub drop_next : (xs : List Item) (n : ℕ) (y : Item) (ys : List Item) → drop n xs ≡ y ∷ ys → drop (suc n) xs ≡ ys
drop_next [] zero y ys e = cc
drop_next [] (suc n) y ys e = cc
drop_next (x ∷ []) zero y ys e = let tail : [] ≡ ys = cc in tail
drop_next (x ∷ z ∷ xs) zero y ys e = let tail : z ∷ xs ≡ ys = cc in tail
drop_next (x ∷ xs) (suc n) y ys e = drop_next xs n y ys e

-- the verdict on the first of the items from an index on
pub verdict_is : (items : List Item) (needed : Places) (n : ℕ) (x : Item) (xs : List Item) → drop n items ≡ x ∷ xs →
    get_or (verdicts items needed) n false ≡ is_dead x.kind (needed_at xs needed)
verdict_is items needed n x xs e = sym (begins_at items needed n) ∙ ap (λ (ys : List Item). begins_dead ys needed) e

module _ (wrong : ℕ → Places) (items : List Item) (needed : Places) where
  is_silenced_from : (n : ℕ) (xs : List Item) → drop n items ≡ xs → left_from wrong (verdicts items needed) n xs ≡ silenced_left wrong n xs needed
  is_silenced_from n [] e = refl
  is_silenced_from n (x ∷ xs) e =
      let rest = is_silenced_from (suc n) xs (drop_next items n x xs e) in
      (λ j. left_of (wrong n) (verdict_is items needed n x xs e j) x ++ rest j) ∙
      by_test (is_dead x.kind (needed_at xs needed)) (silenced_left wrong (suc n) xs needed) where
        by_test : (z : Bool) (ys : List Item) → left_of (wrong n) z x ++ ys ≡ cond z ys (record x { kind = silenced (wrong n) x.kind } ∷ ys)
        by_test true ys = refl
        by_test false ys = refl

  pub is_silenced : left_from wrong (verdicts items needed) 0 items ≡ silenced_left wrong 0 items needed
  is_silenced = is_silenced_from 0 items (drop_zero items)

-- ---- one block more

module _ (wrong : Pos → Places) (ends : Ends) (blocks : List Block) (n : ℕ) (b : Block) (within : n < length blocks) (is : b ≡ get_or blocks n b) where
  pub one_left : (left left' : List Block) (c : Block) → left ≡ map (silenced_block wrong ends) (take n blocks) → c ≡ silenced_block wrong ends b →
      left' ≡ left ++ c ∷ [] → left' ≡ map (silenced_block wrong ends) (take (n + 1) blocks)
  one_left left left' c so_far one more =
      more ∙ (λ i. so_far i ++ one i ∷ []) ∙ sym (map_push (take n blocks)) ∙
      ap (map (silenced_block wrong ends)) (ap (λ (d : Block). take n blocks ++ d ∷ []) is ∙ sym (take_more blocks n b within)) where
        map_push : (xs : List Block) → map (silenced_block wrong ends) (xs ++ b ∷ []) ≡ map (silenced_block wrong ends) xs ++ silenced_block wrong ends b ∷ []
        map_push [] = refl
        map_push (x ∷ xs) = ap (λ (ys : List Block). silenced_block wrong ends x ∷ ys) (map_push xs)

  pub one_lost : (before lost lost' here : List Loss) → lost ≡ before ++ lost_in wrong ends (take n blocks) → here ≡ lost_in_block wrong ends b →
      lost' ≡ lost ++ here → lost' ≡ before ++ lost_in wrong ends (take (n + 1) blocks)
  one_lost before lost lost' here so_far one more =
      let blocks_more : take n blocks ++ b ∷ [] ≡ take (n + 1) blocks = ap (λ (d : Block). take n blocks ++ d ∷ []) is ∙ sym (take_more blocks n b within) in
      let pushed : lost_in wrong ends (take n blocks ++ b ∷ []) ≡ lost_in wrong ends (take n blocks) ++ lost_in_block wrong ends b =
      flat_map-append (lost_in_block wrong ends) (take n blocks) (b ∷ []) ∙
      ap (λ (ls : List Loss). lost_in wrong ends (take n blocks) ++ ls) (append-nil (lost_in_block wrong ends b)) in
      more ∙ (λ i. so_far i ++ one i) ∙ append_assoc before (lost_in wrong ends (take n blocks)) (lost_in_block wrong ends b) ∙
      ap (λ (ls : List Loss). before ++ ls) (sym pushed ∙ ap (lost_in wrong ends) blocks_more)
