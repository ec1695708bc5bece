-- What the masks of an interval's points say.
use Rattle.std.proofs.Common.{◌≡◌, ℕ, suc, ◌-◌, ◌<◌, List, [], ◌∷◌, map, take, drop, Bool, not, ◌||◌, refl, sym, ap, ◌∙◌}
use Rattle.std.specs.List.{list_any}
use Rattle.std.proofs.lemmas.List.{take-map, drop-map}
use Rattle.scan_intervals.specs.declared.interval.LiveInterval.{LiveInterval}
use Rattle.scan_intervals.specs.Points.{CodePoint}
use Rattle.scan_intervals.specs.Intervals.{is_blocked, is_clear}
use Rattle.scan_intervals.specs.Blocked.{has_register, AreBlocked, is_unmasked}

-- some truth value is true
abbrev any_true : List Bool → Bool
any_true bs = list_any (λ b. b) bs

any_map : {A : Type 0} (f : A → Bool) (xs : List A) → list_any f xs ≡ any_true (map f xs)
any_map f [] = refl
any_map f (x ∷ xs) = ap (λ b. f x || b) (any_map f xs)

any_within : {A : Type 0} (f : A → Bool) (xs : List A) (a n : ℕ) → list_any f (take n (drop a xs)) ≡ any_true (take n (drop a (map f xs)))
any_within f xs a n =
    any_map f (take n (drop a xs)) ∙ ap any_true (sym (take-map f n (drop a xs)) ∙ ap (take n) (sym (drop-map f a xs)))

-- a register is clear in an interval if none of the interval's masks has it
pub unmasked_is_clear : (points : List CodePoint) (masks : List ℕ) (i : LiveInterval) (r : ℕ) → r < 32 → AreBlocked points masks →
    is_unmasked masks i r ≡ is_clear points i r
unmasked_is_clear points masks i r small are =
    ap not (any_within (has_register r) masks i.start (suc i.end - i.start) ∙
    ap (λ (bs : List Bool). any_true (take (suc i.end - i.start) (drop i.start bs))) (are r small) ∙
    sym (any_within (is_blocked r) points i.start (suc i.end - i.start)))
