-- What words give one after the other.
use Rattle.std.proofs.Common.{◌≡◌, ◌↔◌, ℕ, zero, suc, ◌+◌, ◌<◌, ◌≤◌, List, [], ◌∷◌, length, get_or, map, drop}
use Rattle.std.proofs.Common.{Option, Some, None, refl, sym, ap, ◌∙◌, subst, arith, add-one}
use Rattle.cli.specs.declared.options.Options.{Options}
use Rattle.cli.specs.declared.option.CommandOption.{CommandOption}
use Rattle.cli.specs.Options.{IsWordOf, IsWith, GivesOption, GiveOptions}

pub no_options : (whole : Options) → ◌≡◌ {A = Option Options} None (Some whole) → ⊥
no_options whole e = cc

one_value : (a b : Options) → ◌≡◌ {A = Option Options} (Some a) (Some b) → a ≡ b
one_value a b e = cc

no_command_option : (option : CommandOption) → ◌≡◌ {A = Option CommandOption} None (Some option) → ⊥
no_command_option option e = cc

one_command_option : (a b : CommandOption) → ◌≡◌ {A = Option CommandOption} (Some a) (Some b) → a ≡ b
one_command_option a b e = cc

-- ---- a word

-- a word that is no option gives none
pub word_gives_none : (given : Options) (word : List ℕ) (o : Option CommandOption) → o ≡ None →
    ((option : CommandOption) → (o ≡ Some option) ↔ IsWordOf option word) → (next : Options) →
    (◌≡◌ {A = Option Options} None (Some next)) ↔ GivesOption given word next
word_gives_none given word o none is next = (
  λ e. absurd (no_options next e),
  λ g. absurd (no_command_option g.option (sym none ∙ (is g.option).1 (g.spelled, g.allowed))),
)

-- a word that is one gives it, unless it is given already
pub word_gives : (given : Options) (word : List ℕ) (o : Option CommandOption) (one : CommandOption) (r : Option Options) → o ≡ Some one →
    ((option : CommandOption) → (o ≡ Some option) ↔ IsWordOf option word) →
    ((next : Options) → (r ≡ Some next) ↔ IsWith given one next) → (next : Options) → (r ≡ Some next) ↔ GivesOption given word next
word_gives given word o one r some is with next = (
  λ e. (let w = (is one).0 some in record { option = one; spelled = w.0; allowed = w.1; with = (with next).0 e }),
  λ g. (
      let same = one_command_option one g.option (sym some ∙ (is g.option).1 (g.spelled, g.allowed)) in
      (with next).1 (subst (λ (x : CommandOption). IsWith given x next) (sym same) g.with)),
)

-- ---- words

-- what is left before a word is the word and what is left behind it
pub left : {A : Type 0} (xs : List A) (f : A → List ℕ) (i : ℕ) (x : A) (word : List ℕ) → i < length xs → x ≡ get_or xs i x → word ≡ f x →
    drop i (map f xs) ≡ word ∷ drop (i + 1) (map f xs)
left {A = A} xs f i x word below is spelled =
    at xs i below
    ∙ (ap (λ (w : List ℕ). w ∷ drop (suc i) (map f xs)) (sym (spelled ∙ ap f is)) ∙ ap (λ (n : ℕ). word ∷ drop n (map f xs)) (sym (add-one i))) where
      at : (ys : List A) (k : ℕ) → k < length ys → drop k (map f ys) ≡ f (get_or ys k x) ∷ drop (suc k) (map f ys)
      at [] k lt = absurd (omega (arith, lt))
      at (y ∷ ys) zero lt = refl
      at (y ∷ ys) (suc k) lt = at ys k (omega (arith, lt))

-- nothing is left in the end
pub none_left : {A : Type 0} (xs : List A) (f : A → List ℕ) (i : ℕ) → length xs ≤ i → drop i (map f xs) ≡ []
none_left [] f zero le = refl
none_left [] f (suc i) le = refl
none_left (x ∷ xs) f zero le = absurd (omega (arith, le))
none_left (x ∷ xs) f (suc i) le = none_left xs f i (omega (arith, le))

pub all_given : (given : Options) (words : List (List ℕ)) → words ≡ [] → (whole : Options) →
    (◌≡◌ {A = Option Options} (Some given) (Some whole)) ↔ GiveOptions given words whole
all_given given words none whole = (
  λ e. subst (λ (ws : List (List ℕ)). GiveOptions given ws whole) (sym none) (sym (one_value given whole e)),
  λ h. ap (λ (x : Options). Some x) (sym (at (subst (λ (ws : List (List ℕ)). GiveOptions given ws whole) none h))),
) where
  at : GiveOptions given [] whole → whole ≡ given
  at h = h

module _ (given : Options) (word : List ℕ) (rest words : List (List ℕ)) (same : words ≡ word ∷ rest) (o : Option Options)
    (is : (other : Options) → (o ≡ Some other) ↔ GivesOption given word other) (whole : Options) where
  first : GiveOptions given words whole → GiveOptions given (word ∷ rest) whole
  first h = subst (λ (ws : List (List ℕ)). GiveOptions given ws whole) same h

  -- a word more, where it gives this
  pub one_more : (next : Options) → o ≡ Some next → GiveOptions given words whole ↔ GiveOptions next rest whole
  one_more next some = (
    λ h. at (first h),
    λ h. subst (λ (ws : List (List ℕ)). GiveOptions given ws whole) (sym same) (next, (is next).0 some, h),
  ) where
    at : GiveOptions given (word ∷ rest) whole → GiveOptions next rest whole
    at (other, gives, h) = subst (λ (n : Options). GiveOptions n rest whole) (sym (one_value next other (sym some ∙ (is other).1 gives))) h

  -- a word more, where it gives nothing
  pub no_more : o ≡ None → GiveOptions given words whole → ⊥
  no_more none h = at (first h) where
    at : GiveOptions given (word ∷ rest) whole → ⊥
    at (other, gives, more) = no_options other (sym none ∙ (is other).1 gives)
