-- Lists of which elements move to the front.
use Rattle.std.proofs.Common.{◌≡◌, ℕ, zero, suc, ◌+◌, ◌<◌, ◌≤◌, List, [], ◌∷◌, ◌++◌, length, get_or, take, drop, set, filter, Bool, true, false}
use Rattle.std.proofs.Common.{cond, refl, sym, ap, ◌∙◌, arith, append-nil}
use Rattle.std.proofs.lemmas.List.{take_more, drop-set-lt, take_more_set}
use Rattle.std.proofs.lemmas.List.Elements.{filter-append}

pub filter_turn : {X : Type 0} (p : X → Bool) (xs : List X) (i : ℕ) (x : X) → i < length xs → x ≡ get_or xs i x →
    filter p (take (i + 1) xs) ≡ filter p (take i xs) ++ cond (p x) (x ∷ []) []
filter_turn {X} p xs i x lt e =
    let one : take (i + 1) xs ≡ take i xs ++ x ∷ [] = take_more xs i x lt ∙ ap (λ (y : X). take i xs ++ y ∷ []) (sym e) in
    ap (filter p) one ∙ filter-append p (take i xs) (x ∷ [])

module _ {X : Type 0} where
  drop_next : (xs : List X) (at : ℕ) → drop (suc at) xs ≡ drop 1 (drop at xs)
  drop_next [] zero = refl
  drop_next [] (suc at) = refl
  drop_next (x ∷ xs) zero = refl
  drop_next (x ∷ xs) (suc at) = drop_next xs at

  pub behind_next : (xs ys : List X) (at : ℕ) → drop at ys ≡ drop at xs → drop (at + 1) ys ≡ drop (at + 1) xs
  behind_next xs ys at e =
      let k : at + 1 ≡ suc at = omega arith in
      ap (λ (n : ℕ). drop n ys) k ∙ drop_next ys at ∙ ap (drop 1) e ∙ sym (drop_next xs at) ∙ ap (λ (n : ℕ). drop n xs) (sym k)

  -- what stands from an index on, after a write no further on
  pub behind_write : (xs ys : List X) (at k : ℕ) (x : X) → k ≤ at → drop at ys ≡ drop at xs → drop (at + 1) (set ys k x) ≡ drop (at + 1) xs
  behind_write xs ys at k x le e = drop-set-lt (at + 1) ys k x (omega (arith, le)) ∙ behind_next xs ys at e

  first_or : (xs : List X) (d : X) → X
  first_or [] d = d
  first_or (x ∷ xs) d = x

  get_first : (xs : List X) (at : ℕ) (d : X) → get_or xs at d ≡ first_or (drop at xs) d
  unfolding first_or
  get_first [] zero d = refl
  get_first [] (suc at) d = refl
  get_first (x ∷ xs) zero d = refl
  get_first (x ∷ xs) (suc at) d = get_first xs at d

  pub read_behind : (xs ys : List X) (at : ℕ) (d : X) → drop at ys ≡ drop at xs → get_or ys at d ≡ get_or xs at d
  read_behind xs ys at d e = get_first ys at d ∙ ap (λ (zs : List X). first_or zs d) e ∙ sym (get_first xs at d)

  -- one that stays moves to the front
  pub moves_up : (p : X → Bool) (xs ys : List X) (kept at : ℕ) (x : X) → kept ≤ at → at < length xs → length ys ≡ length xs →
      take kept ys ≡ filter p (take at xs) → drop at ys ≡ drop at xs → x ≡ get_or ys at x → p x ≡ true →
      take (kept + 1) (set ys kept x) ≡ filter p (take (at + 1) xs)
  moves_up p xs ys kept at x le lt len so_far behind is stays =
      take_more_set ys kept x (omega (arith, le, lt, len)) ∙ ap (λ (zs : List X). zs ++ x ∷ []) so_far ∙
      sym (filter_turn p xs at x lt (is ∙ read_behind xs ys at x behind) ∙ ap (λ (z : Bool). filter p (take at xs) ++ cond z (x ∷ []) []) stays)

  -- one that goes is passed over
  pub passes : (p : X → Bool) (xs ys : List X) (kept at : ℕ) (x : X) → at < length xs → take kept ys ≡ filter p (take at xs) → drop at ys ≡ drop at xs →
      x ≡ get_or ys at x → p x ≡ false → take kept ys ≡ filter p (take (at + 1) xs)
  passes p xs ys kept at x lt so_far behind is goes =
      so_far ∙ sym (filter_turn p xs at x lt (is ∙ read_behind xs ys at x behind) ∙ ap (λ (z : Bool). filter p (take at xs) ++ cond z (x ∷ []) []) goes ∙
      append-nil (filter p (take at xs)))
