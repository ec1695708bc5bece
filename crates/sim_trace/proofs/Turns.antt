-- Text that grows by one element after the other.
use Rattle.std.proofs.Common.{◌≡◌, ℕ, zero, suc, ◌+◌, ◌<◌, ◌≤◌, List, [], ◌∷◌, ◌++◌, length, get_or, take, refl, sym, ap, ◌∙◌, append_assoc, append-nil, arith}
use Rattle.std.specs.List.{flat_map}

take_none : {X : Type 0} (xs : List X) → take 0 xs ≡ []
take_none [] = refl
take_none (x ∷ xs) = refl

more_of : {X : Type 0} (g : X → List ℕ) (xs : List X) (i : ℕ) (x : X) → i < length xs → x ≡ get_or xs i x →
    flat_map g (take (suc i) xs) ≡ flat_map g (take i xs) ++ g x
more_of g [] i x l e = absurd (omega arith)
more_of g (y ∷ xs) zero x l e =
    ap (λ (ys : List _). g y ++ flat_map g ys) (take_none xs) ∙ (append-nil (g y) ∙ ap g (sym e))
more_of g (y ∷ xs) (suc i) x l e =
    ap (λ (ys : List ℕ). g y ++ ys) (more_of g xs i x (omega arith) e) ∙ sym (append_assoc (g y) (flat_map g (take i xs)) (g x))

-- what was appended of the elements so far, and of one more
pub turn : {X : Type 0} (g : X → List ℕ) (xs : List X) (i : ℕ) (x : X) (first text more : List ℕ) → i < length xs → x ≡ get_or xs i x →
    text ≡ first ++ flat_map g (take i xs) → more ≡ text ++ g x → more ≡ first ++ flat_map g (take (i + 1) xs)
turn g xs i x first text more l e so_far now =
    let next : suc i ≡ i + 1 = omega arith in
    now ∙ ap (λ (ys : List ℕ). ys ++ g x) so_far ∙ append_assoc first (flat_map g (take i xs)) (g x)
    ∙ ap (λ (ys : List ℕ). first ++ ys) (sym (more_of g xs i x l e)) ∙ ap (λ (k : ℕ). first ++ flat_map g (take k xs)) next

take_all : {X : Type 0} (xs : List X) (n : ℕ) → length xs ≤ n → take n xs ≡ xs
take_all [] zero le = refl
take_all [] (suc n) le = refl
take_all (x ∷ xs) zero le = absurd (omega (arith, le))
take_all (x ∷ xs) (suc n) le = ap (λ (ys : List _). x ∷ ys) (take_all xs n (omega (arith, le)))

-- what was appended of all
pub whole : {X : Type 0} (g : X → List ℕ) (xs : List X) (i : ℕ) (first text : List ℕ) → length xs ≤ i → text ≡ first ++ flat_map g (take i xs) →
    text ≡ first ++ flat_map g xs
whole g xs i first text le so_far = so_far ∙ ap (λ (ys : List _). first ++ flat_map g ys) (take_all xs i le)

-- nothing was appended yet
pub none_yet : {X : Type 0} (g : X → List ℕ) (xs : List X) (first : List ℕ) → first ≡ first ++ flat_map g (take 0 xs)
none_yet g xs first = sym (ap (λ (ys : List _). first ++ flat_map g ys) (take_none xs) ∙ append-nil first)
