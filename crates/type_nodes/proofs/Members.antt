-- What lists hold.
use Rattle.std.proofs.Common.{◌≡◌, ℕ, zero, suc, ◌<◌, List, [], ◌∷◌, length, Bool, true, false, cond, map, filter, Some, refl, sym, ap, ◌∙◌, inl, inr, arith}
use Rattle.std.specs.Prelude.{slice_index_or, Contains, All}
use Rattle.std.specs.List.{slice_get}
use Rattle.std.proofs.lemmas.Bool.{false≢true}
use Rattle.std.proofs.lemmas.List.{get_or-map, length-map}
use Rattle.std.proofs.lemmas.List.Elements.{Contains-get_or, Contains-append_left, Contains-append_right, Contains-append_cases}
use Rattle.graph_cycles.proofs.Searching.{none_in, only_in}

pub in_map : (f : ℕ → ℕ) (xs : List ℕ) (y : ℕ) → Contains (map f xs) y → (x : ℕ) × Contains xs x × (f x ≡ y)
in_map f xs y (j, less, is) =
    let inside : j < length xs = omega (arith, less, length-map xs f) in
    (slice_index_or xs j 0, Contains-get_or xs j 0 inside, sym (get_or-map f xs j 0 y inside) ∙ is)

pub map_in : (f : ℕ → ℕ) (xs : List ℕ) (x : ℕ) → Contains xs x → Contains (map f xs) (f x)
map_in f xs x (j, less, is) = (j, omega (arith, less, length-map xs f), get_or-map f xs j x (f x) less ∙ ap f is)

in_filter_by : (p : ℕ → Bool) (y : ℕ) (ys : List ℕ) (x : ℕ) (z : Bool) → p y ≡ z → Contains (cond z (y ∷ filter p ys) (filter p ys)) x
    → (Contains (filter p ys) x → Contains ys x × (p x ≡ true)) → Contains (y ∷ ys) x × (p x ≡ true)
in_filter_by p y ys x true e held rest = elim (Contains-append_cases (y ∷ []) (filter p ys) x held) [
  | inl own ↦ (Contains-append_left (y ∷ []) ys x own, ap p (only_in y x own) ∙ e)
  | inr more ↦ (let r = rest more in (Contains-append_right (y ∷ []) ys x r.0, r.1))
]
in_filter_by p y ys x false e held rest = let r = rest held in (Contains-append_right (y ∷ []) ys x r.0, r.1)

pub in_filter : (p : ℕ → Bool) (xs : List ℕ) (x : ℕ) → Contains (filter p xs) x → Contains xs x × (p x ≡ true)
in_filter p [] x held = absurd (none_in held)
in_filter p (y ∷ ys) x held = in_filter_by p y ys x (p y) refl held (in_filter p ys x)

filter_in_by : (p : ℕ → Bool) (y : ℕ) (ys : List ℕ) (x : ℕ) (z : Bool) → p y ≡ z → Contains (y ∷ ys) x → p x ≡ true
    → (Contains ys x → Contains (filter p ys) x) → Contains (cond z (y ∷ filter p ys) (filter p ys)) x
filter_in_by p y ys x true e held is rest = elim (Contains-append_cases (y ∷ []) ys x held) [
  | inl own ↦ Contains-append_left (y ∷ []) (filter p ys) x own
  | inr more ↦ Contains-append_right (y ∷ []) (filter p ys) x (rest more)
]
filter_in_by p y ys x false e held is rest = elim (Contains-append_cases (y ∷ []) ys x held) [
  | inl own ↦ absurd (false≢true (sym e ∙ sym (ap p (only_in y x own)) ∙ is))
  | inr more ↦ rest more
]

pub filter_in : (p : ℕ → Bool) (xs : List ℕ) (x : ℕ) → Contains xs x → p x ≡ true → Contains (filter p xs) x
filter_in p [] x held is = held
filter_in p (y ∷ ys) x held is = filter_in_by p y ys x (p y) refl held is (λ more. filter_in p ys x more is)

-- a fact of all that a list contains
pub all_in : (P : ℕ → Type 0) (xs : List ℕ) → ((x : ℕ) → Contains xs x → P x) → All P xs
all_in P xs each j d less = each (slice_index_or xs j d) (Contains-get_or xs j d less)

pub there : {X : Type 0} (xs : List X) (n : ℕ) → n < length xs → (x : X) × (slice_get xs n ≡ Some x)
there [] n less = absurd (omega arith)
there (x ∷ xs) zero less = (x, refl)
there (x ∷ xs) (suc n) less = there xs n (omega arith)
