-- One more place, at the end of a list of places.
use Rattle.std.proofs.Common.{◌≡◌, ℕ, suc, ◌+◌, ◌*◌, List, [], ◌∷◌, ◌++◌, ◌<◌, length, take, get_or}
use Rattle.std.proofs.Common.{sym, ap, ◌∙◌, arith}
use Rattle.mir_func.specs.declared.framed.SavedRegister.{SavedRegister}
use Rattle.mir_func.specs.declared.framed.SlotPlace.{SlotPlace}
use Rattle.std.proofs.lemmas.List.{take_more, length-take-le}
use Rattle.frame_rule.specs.Rule.{slot_places, saved_places}

pub slots_turn : (o : ℕ) (xs : List ℕ) (x : ℕ) → slot_places o (xs ++ x ∷ []) ≡ slot_places o xs ++ record { slot = x; offset = o + 8 * length xs } ∷ []
slots_turn o [] x = let e : o ≡ o + 8 * 0 = omega arith in λ i. record { slot = x; offset = e i } ∷ []
slots_turn o (y ∷ ys) x =
    let w = slots_turn (o + 8) ys x in
    let e : (o + 8) + 8 * length ys ≡ o + 8 * suc (length ys) = omega arith in
    ap (λ (z : List SlotPlace). record { slot = y; offset = o } ∷ z) w
    ∙ ap (λ (n : ℕ). record { slot = y; offset = o } ∷ (slot_places (o + 8) ys ++ record { slot = x; offset = n } ∷ [])) e

pub saved_turn : (o : ℕ) (xs : List ℕ) (x : ℕ) → saved_places o (xs ++ x ∷ []) ≡ saved_places o xs ++ record { register = x; offset = o + 8 * length xs } ∷ []
saved_turn o [] x = let e : o ≡ o + 8 * 0 = omega arith in λ i. record { register = x; offset = e i } ∷ []
saved_turn o (y ∷ ys) x =
    let w = saved_turn (o + 8) ys x in
    let e : (o + 8) + 8 * length ys ≡ o + 8 * suc (length ys) = omega arith in
    ap (λ (z : List SavedRegister). record { register = y; offset = o } ∷ z) w
    ∙ ap (λ (n : ℕ). record { register = y; offset = o } ∷ (saved_places (o + 8) ys ++ record { register = x; offset = n } ∷ [])) e

-- ---- what loops have after one more element

pub slots_next : (xs : List ℕ) (i x offset : ℕ) (ys zs : List SlotPlace) → i < length xs → x ≡ get_or xs i x → ys ≡ slot_places 0 (take i xs) → offset ≡ 8 * i →
    zs ≡ ys ++ record { slot = x; offset = offset } ∷ [] → zs ≡ slot_places 0 (take (i + 1) xs)
slots_next xs i x offset ys zs l e so_far at more =
    let one : take (i + 1) xs ≡ take i xs ++ x ∷ [] = take_more xs i x l ∙ ap (λ (y : ℕ). take i xs ++ y ∷ []) (sym e) in
    let n : length (take i xs) ≡ i = length-take-le i xs (omega (arith, l)) in
    let o : offset ≡ 0 + 8 * length (take i xs) = omega (arith, n, at) in
    more ∙ ap (λ (w : List SlotPlace). w ++ record { slot = x; offset = offset } ∷ []) so_far
    ∙ ap (λ (m : ℕ). slot_places 0 (take i xs) ++ record { slot = x; offset = m } ∷ []) o ∙ sym (slots_turn 0 (take i xs) x) ∙ ap (slot_places 0) (sym one)

pub saved_next : (from : ℕ) (xs : List ℕ) (i x offset : ℕ) (ys zs : List SavedRegister) → i < length xs → x ≡ get_or xs i x →
    ys ≡ saved_places from (take i xs) → offset ≡ from + 8 * i → zs ≡ ys ++ record { register = x; offset = offset } ∷ [] →
    zs ≡ saved_places from (take (i + 1) xs)
saved_next from xs i x offset ys zs l e so_far at more =
    let one : take (i + 1) xs ≡ take i xs ++ x ∷ [] = take_more xs i x l ∙ ap (λ (y : ℕ). take i xs ++ y ∷ []) (sym e) in
    let n : length (take i xs) ≡ i = length-take-le i xs (omega (arith, l)) in
    let o : offset ≡ from + 8 * length (take i xs) = omega (arith, n, at) in
    more ∙ ap (λ (w : List SavedRegister). w ++ record { register = x; offset = offset } ∷ []) so_far
    ∙ ap (λ (m : ℕ). saved_places from (take i xs) ++ record { register = x; offset = m } ∷ []) o
    ∙ sym (saved_turn from (take i xs) x) ∙ ap (saved_places from) (sym one)
