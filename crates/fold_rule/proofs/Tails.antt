-- Where the items before a block's end are left as they are.
use Rattle.std.proofs.Common.{◌≡◌, ℕ, suc, List, [], ◌∷◌, ◌++◌, take, drop, Option, Some, None, length, option_to_list, arith, refl, sym, ap, ◌∙◌}
use Rattle.mir_func.specs.declared.exit.Exit.{Exit}
use Rattle.mir_func.specs.declared.exit.Exit.TheVariants.{Onward, Perhaps, Always, Final}
use Rattle.mir_func.specs.declared.item.Item.{Item}
use Rattle.mir_func.specs.declared.position.Pos.{Pos}
use Rattle.mir_func.specs.Exits.{exit_of}
use Rattle.fold_rule.specs.Tails.{first_of, tail_by, rewritten}
use Rattle.fold_rule.specs.steps.Onward.{count_by_exit, onward_count}

module _ (end : ℕ → ℕ) (next fall : Option ℕ) (source_end : Pos) where
  split_onward : (xs : List Item) →
      rewritten end next fall source_end xs ≡ take (onward_count xs) xs ++ rewritten end next fall source_end (drop (onward_count xs) xs)
  split_onward [] = refl
  split_onward (x ∷ xs) = by_exit (split_onward xs) (exit_of x.kind) refl where
    by_exit : rewritten end next fall source_end xs ≡ take (onward_count xs) xs ++ rewritten end next fall source_end (drop (onward_count xs) xs) →
        (e : Exit) → exit_of x.kind ≡ e →
        rewritten end next fall source_end (x ∷ xs) ≡
        take (count_by_exit e (onward_count xs)) (x ∷ xs) ++ rewritten end next fall source_end (drop (count_by_exit e (onward_count xs)) (x ∷ xs))
    by_exit below Onward h = ap (λ (z : Exit). tail_by end next fall source_end z x (first_of xs) (rewritten end next fall source_end xs)) h ∙
        ap (λ (ys : List Item). x ∷ ys) below
    by_exit below (Perhaps n) h = refl
    by_exit below (Always n) h = refl
    by_exit below Final h = refl

  -- the new items, where a block's own are left up to its end
  pub finish : (items new kept tail out : List Item) (k : ℕ) → k ≡ onward_count items → kept ≡ take k items → tail ≡ drop k items →
      rewritten end next fall source_end tail ≡ out → new ≡ kept ++ out → new ≡ rewritten end next fall source_end items
  finish items new kept tail out k e keep rest by h =
      h ∙ (λ i. keep i ++ sym by i) ∙ (λ i. take k items ++ rewritten end next fall source_end (rest i)) ∙
      (λ i. take (e i) items ++ rewritten end next fall source_end (drop (e i) items)) ∙ sym (split_onward items)

-- control may leave the item at which the count ends
pub not_onward : (items : List Item) (x : Item) (xs : List Item) → drop (onward_count items) items ≡ x ∷ xs → exit_of x.kind ≡ Onward → ⊥
not_onward [] x xs e h = cc
not_onward (y ∷ ys) x xs e h = by_exit (λ k. not_onward ys x xs k h) (exit_of y.kind) refl e where
  by_exit : (drop (onward_count ys) ys ≡ x ∷ xs → ⊥) → (z : Exit) → exit_of y.kind ≡ z → drop (count_by_exit z (onward_count ys)) (y ∷ ys) ≡ x ∷ xs → ⊥
  by_exit below Onward k e = below e
  by_exit below (Perhaps n) k e = let same : y ≡ x = cc in let bad : Perhaps n ≡ Onward = sym k ∙ ap (λ (z : Item). exit_of z.kind) same ∙ h in cc
  by_exit below (Always n) k e = let same : y ≡ x = cc in let bad : Always n ≡ Onward = sym k ∙ ap (λ (z : Item). exit_of z.kind) same ∙ h in cc
  by_exit below Final k e = let same : y ≡ x = cc in let bad : Final ≡ Onward = sym k ∙ ap (λ (z : Item). exit_of z.kind) same ∙ h in cc

-- what an iterator gives next is the first of what is left
pub first_from : (rest : List Item) (r : Option Item) (more : List Item) → rest ≡ option_to_list r ++ more → (r ≡ None → rest ≡ []) → r ≡ first_of rest
first_from rest None more e h = ap first_of (sym (h refl))
first_from rest (Some x) more e h = ap first_of (sym e)

pub none_left : (rest : List Item) (n : ℕ) → length rest ≡ n → n ≡ 0 → rest ≡ []
none_left [] n e z = refl
none_left (x ∷ xs) n e z = let k : suc (length xs) ≡ 0 = e ∙ z in absurd (omega (arith, k))
