-- The entry that the function starts with. A thing of the list has no token there and class 0, or a token that tells it, and the
-- class of its own place: so two have one class exactly where they have one token.
use Rattle.std.proofs.Common.{◌≡◌, ◌⊎◌, ℕ, zero, suc, ◌+◌, ◌<◌, ◌≤◌, List, [], ◌∷◌, ◌++◌, length, refl, sym, ap, ◌∙◌, subst, arith, inl, inr, get_or}
use Rattle.std.specs.Prelude.{Option, Some, None, IsSome, Bool, true, false, cond, not, ◌&&◌, nat_eq, nat_lt, slice_get, slice_index, slice_index_or}
use Rattle.std.proofs.lemmas.List.{get_or_past, get_or_append_left, length-append}
use Rattle.std.proofs.lemmas.Option.{slice_get_within, slice_get-get_or}
use Rattle.std.proofs.lemmas.Bool.{ne_eqb}
use Rattle.std.proofs.lemmas.Bool.Decides.{eqb_tells}
use Rattle.sem_mir.specs.ValueId.{Token, Entry, Fixed, entry_tokens}
use Rattle.sem_value_ids.specs.Pullback.{token_of}
use Rattle.value_solver.specs.declared.tracked.Tracked.{Tracked}
use Rattle.value_solver.specs.declared.tracked.Tracked.TheVariants.{Register, Slot, Pair, Part, Number}
use Rattle.value_solver.specs.Entry.{thing}
use Rattle.value_solver.specs.Numbering.{class_in}
use Rattle.value_solver.specs.Flows.{thing_token, token_at, IsStart}
use Rattle.value_live_ins.proofs.Blocks.{past}
use Rattle.value_live_ins.specs.steps.Starting.{starts_with, own_class}
use Rattle.value_live_ins.specs.Walking.{AreTracked}

-- the classes and bits of the first so many things
pub record StartsBelow (things : List Tracked) (n : ℕ) (classes : List ℕ) (given : List Bool) : Type 0 where
  pub classes_long : length classes ≡ n
  pub given_long : length given ≡ n
  pub class : (j : ℕ) (x : Tracked) → j < n → slice_get things j ≡ Some x → slice_index classes j ≡ own_class (starts_with x) j
  pub bit : (j : ℕ) (x : Tracked) → j < n → slice_get things j ≡ Some x → slice_index_or given j false ≡ starts_with x

-- the token that tells a thing
abbrev name_of : Tracked → Token
name_of (Register r) = Entry r
name_of (Slot n) = Fixed 0
name_of (Pair q) = Fixed 0
name_of (Part v) = Fixed 0
name_of (Number c) = Fixed c

name_tells : (x y : Tracked) → starts_with x ≡ true → starts_with y ≡ true → name_of x ≡ name_of y → x ≡ y
name_tells (Register q) (Register r) hx hy e = let same : q ≡ r = cc in ap Register same
name_tells (Number c) (Number d) hx hy e = let same : c ≡ d = cc in ap Number same
name_tells (Register q) (Number d) hx hy e = cc
name_tells (Number c) (Register r) hx hy e = cc
name_tells (Register q) (Slot n) hx hy e = cc
name_tells (Register q) (Pair p) hx hy e = cc
name_tells (Register q) (Part v) hx hy e = cc
name_tells (Number c) (Slot n) hx hy e = cc
name_tells (Number c) (Pair p) hx hy e = cc
name_tells (Number c) (Part v) hx hy e = cc
name_tells (Slot n) y hx hy e = cc
name_tells (Pair p) y hx hy e = cc
name_tells (Part v) y hx hy e = cc

lt_is : (a b : ℕ) → a < b → nat_lt a b ≡ true
lt_is a b h = grind arith

register_starts : (r : ℕ) → r < 32 → (r ≡ 0 → ⊥) → (r ≡ 2 → ⊥) → token_of (thing (Register r)) entry_tokens ≡ Some (Entry r)
register_starts zero h none two = absurd (none refl)
register_starts (suc r) h none two =
    ap (λ (z : Bool). cond (z && not (nat_eq (suc r) 2)) (Some (Entry (suc r))) None) (lt_is (suc r) 32 h)
    ∙ ap (λ (z : Bool). cond (true && not z) (Some (Entry (suc r))) None) (ne_eqb (suc r) 2 two)

module _ (things : List Tracked) (are : AreTracked things) (classes : List ℕ) (given : List Bool)
    (starts : StartsBelow things (length things) classes given) where
  -- what stands at a place, 0 or a thing's index and 1
  data At (p : ℕ) : Type 0 where
    none : class_in classes p ≡ 0 → token_at things p entry_tokens ≡ None → At p
    some : (j : ℕ) (x : Tracked) → p ≡ suc j → slice_get things j ≡ Some x → starts_with x ≡ true → class_in classes p ≡ suc j →
        token_at things p entry_tokens ≡ Some (name_of x) → At p

  bare : (j : ℕ) (x : Tracked) → slice_get things j ≡ Some x → starts_with x ≡ false → token_of (thing x) entry_tokens ≡ None → At (suc j)
  bare j x at off token = none
      (starts.class j x (slice_get_within things j x at) at ∙ ap (λ (z : Bool). own_class z j) off)
      (ap (λ (z : Option Tracked). thing_token z entry_tokens) at ∙ token)

  named : (j : ℕ) (x : Tracked) → slice_get things j ≡ Some x → starts_with x ≡ true → token_of (thing x) entry_tokens ≡ Some (name_of x) → At (suc j)
  named j x at on token = some j x refl at on
      (starts.class j x (slice_get_within things j x at) at ∙ ap (λ (z : Bool). own_class z j) on)
      (ap (λ (z : Option Tracked). thing_token z entry_tokens) at ∙ token)

  at_thing : (j : ℕ) (x : Tracked) → slice_get things j ≡ Some x → At (suc j)
  at_thing j (Register r) at = let k = are.registers j r at in named j (Register r) at refl (register_starts r k.0 k.1 k.2)
  at_thing j (Slot n) at = bare j (Slot n) at refl refl
  at_thing j (Pair q) at = bare j (Pair q) at refl refl
  at_thing j (Part v) at = bare j (Part v) at refl refl
  at_thing j (Number c) at = named j (Number c) at refl refl

  at_place : (p : ℕ) → At p
  at_place zero = none refl refl
  at_place (suc j) = by_thing (slice_get things j) refl where
    by_thing : (o : Option Tracked) → slice_get things j ≡ o → At (suc j)
    by_thing (Some x) e = at_thing j x e
    by_thing None e = none
        (get_or_past classes j 0 (let h = past things j e in omega (arith, h, starts.classes_long)))
        (ap (λ (z : Option Tracked). thing_token z entry_tokens) e)

  one_to : (x y : ℕ) → At x → At y → class_in classes x ≡ class_in classes y → token_at things x entry_tokens ≡ token_at things y entry_tokens
  one_to x y (none c t) (none d u) e = t ∙ sym u
  one_to x y (none c t) (some j z p at on d u) e = absurd (let no : 0 ≡ suc j = sym c ∙ e ∙ d in omega (arith, no))
  one_to x y (some j z p at on d u) (none c t) e = absurd (let no : suc j ≡ 0 = sym d ∙ e ∙ c in omega (arith, no))
  one_to x y (some j z p at on d u) (some k w q bt off c v) e =
      let s : suc j ≡ suc k = sym d ∙ e ∙ c in
      let same : j ≡ k = omega (arith, s) in
      ap (λ (n : ℕ). token_at things n entry_tokens) (p ∙ ap suc same ∙ sym q)

  one_from : (x y : ℕ) → At x → At y → token_at things x entry_tokens ≡ token_at things y entry_tokens → class_in classes x ≡ class_in classes y
  one_from x y (none c t) (none d u) e = c ∙ sym d
  one_from x y (none c t) (some j z p at on d u) e = absurd (let no : None ≡ Some (name_of z) = sym t ∙ e ∙ u in cc)
  one_from x y (some j z p at on d u) (none c t) e = absurd (let no : Some (name_of z) ≡ None = sym u ∙ e ∙ t in cc)
  one_from x y (some j z p at on d u) (some k w q bt off c v) e =
      let n : Some (name_of z) ≡ Some (name_of w) = sym u ∙ e ∙ v in
      let m : name_of z ≡ name_of w = cc in
      let same : z ≡ w = name_tells z w on off m in
      let place : j ≡ k = are.once j k w (at ∙ ap Some same) bt in
      d ∙ ap suc place ∙ sym c

  few : (i : ℕ) → slice_index classes i ≤ length things
  few i = elim (at_place (suc i)) [
    | none c t ↦ omega (arith, c)
    | some j x p at on c t ↦
        let lt = slice_get_within things j x at in
        omega (arith, c, lt)
  ]

  bit_on : (i : ℕ) (x : Tracked) → slice_get things i ≡ Some x → slice_index_or given i false ≡ starts_with x
  bit_on i x at = starts.bit i x (slice_get_within things i x at) at

  off : (i : ℕ) → slice_index classes i ≡ 0 → slice_index_or given i false ≡ false
  off i e = by_thing (slice_get things i) refl where
    by_some : (x : Tracked) → slice_get things i ≡ Some x → (z : Bool) → starts_with x ≡ z → slice_index_or given i false ≡ false
    by_some x at false s = bit_on i x at ∙ s
    by_some x at true s = absurd (let no : suc i ≡ 0 =
        sym (starts.class i x (slice_get_within things i x at) at ∙ ap (λ (z : Bool). own_class z i) s) ∙ e in omega (arith, no))

    by_thing : (o : Option Tracked) → slice_get things i ≡ o → slice_index_or given i false ≡ false
    by_thing (Some x) at = by_some x at (starts_with x) refl
    by_thing None at = get_or_past given i false (let h = past things i at in omega (arith, h, starts.given_long))

  bit_to : (i : ℕ) → At (suc i) → slice_index_or given i false ≡ true → IsSome (token_at things (suc i) entry_tokens)
  bit_to i (none c t) e = absurd (let no : true ≡ false = sym e ∙ off i c in cc)
  bit_to i (some j x p at on c t) e = subst IsSome (sym t) refl

  bit_from : (i : ℕ) → At (suc i) → IsSome (token_at things (suc i) entry_tokens) → slice_index_or given i false ≡ true
  bit_from i (none c t) e = absurd (let no : IsSome {T = Token} None = subst IsSome t e in cc)
  bit_from i (some j x p at on c t) e =
      let same : i ≡ j = omega (arith, p) in
      ap (λ (z : ℕ). slice_index_or given z false) same ∙ bit_on j x at ∙ on

  pub start_is : IsStart things (record { reached = true; classes = classes; given = given })
  start_is = record {
    known = record { classes = starts.classes_long; bits = starts.given_long; few = few; off = off };
    one = λ x y. (one_to x y (at_place x) (at_place y), one_from x y (at_place x) (at_place y));
    bit = λ i. (bit_to i (at_place (suc i)), bit_from i (at_place (suc i)));
  }

-- ---- one thing after the other

pub starts_none : (things : List Tracked) → StartsBelow things 0 [] []
starts_none things = record {
  classes_long = refl;
  given_long = refl;
  class = λ j x lt e. absurd (omega (arith, lt));
  bit = λ j x lt e. absurd (omega (arith, lt));
}

push_get : {A : Type 0} (xs : List A) (x d : A) (j : ℕ) → j < length xs → slice_index_or (xs ++ x ∷ []) j d ≡ slice_index_or xs j d
push_get xs x d j lt = get_or_append_left xs (x ∷ []) d j lt

push_last : {A : Type 0} (xs : List A) (x d : A) → slice_index_or (xs ++ x ∷ []) (length xs) d ≡ x
push_last [] x d = refl
push_last (y ∷ ys) x d = push_last ys x d

pub starts_more : (things : List Tracked) (i : ℕ) (classes : List ℕ) (given : List Bool) (new_classes : List ℕ) (new_given : List Bool) →
    StartsBelow things i classes given → i < length things → (y : Tracked) → y ≡ get_or things i y → (z : Bool) → z ≡ starts_with y → (c : ℕ) →
    c ≡ own_class z i →
    new_classes ≡ classes ++ c ∷ [] → new_given ≡ given ++ z ∷ [] → StartsBelow things (i + 1) new_classes new_given
starts_more things i classes given new_classes new_given b lt y at z on c own cs gs = record {
  classes_long = ap length cs ∙ length-append classes (c ∷ []) ∙ ap (λ (n : ℕ). n + 1) b.classes_long;
  given_long = ap length gs ∙ length-append given (z ∷ []) ∙ ap (λ (n : ℕ). n + 1) b.given_long;
  class = λ j x less e. ap (λ (zs : List ℕ). slice_index zs j) cs ∙ class_at j x less e (eqb_tells j i);
  bit = λ j x less e. ap (λ (zs : List Bool). slice_index_or zs j false) gs ∙ bit_at j x less e (eqb_tells j i);
} where
  here : slice_get things i ≡ Some y
  here = slice_get-get_or things i y lt ∙ ap (λ (w : Tracked). Some w) (sym at)

  same : (j : ℕ) (x : Tracked) → slice_get things j ≡ Some x → j ≡ i → y ≡ x
  same j x e is = let both : Some y ≡ Some x = sym here ∙ ap (slice_get things) (sym is) ∙ e in cc

  class_at : (j : ℕ) (x : Tracked) → j < i + 1 → slice_get things j ≡ Some x → (((nat_eq j i ≡ true) × (j ≡ i)) ⊎ ((nat_eq j i ≡ false) × (j ≡ i → ⊥))) →
      slice_index (classes ++ c ∷ []) j ≡ own_class (starts_with x) j
  class_at j x less e (inl h) =
      let place : j ≡ length classes = h.1 ∙ sym b.classes_long in
      ap (slice_index (classes ++ c ∷ [])) place ∙ push_last classes c 0 ∙ own
      ∙ (λ k. own_class ((on ∙ ap starts_with (same j x e h.1)) k) (sym h.1 k))
  class_at j x less e (inr h) =
      let before : j < i = let ne = h.1 in omega (arith, less, ne) in
      push_get classes c 0 j (omega (arith, before, b.classes_long)) ∙ b.class j x before e

  bit_at : (j : ℕ) (x : Tracked) → j < i + 1 → slice_get things j ≡ Some x → (((nat_eq j i ≡ true) × (j ≡ i)) ⊎ ((nat_eq j i ≡ false) × (j ≡ i → ⊥))) →
      slice_index_or (given ++ z ∷ []) j false ≡ starts_with x
  bit_at j x less e (inl h) =
      let place : j ≡ length given = h.1 ∙ sym b.given_long in
      ap (λ (k : ℕ). slice_index_or (given ++ z ∷ []) k false) place ∙ push_last given z false ∙ on ∙ ap starts_with (same j x e h.1)
  bit_at j x less e (inr h) =
      let before : j < i = let ne = h.1 in omega (arith, less, ne) in
      push_get given z false j (omega (arith, before, b.given_long)) ∙ b.bit j x before e

pub starts_all : (things : List Tracked) → AreTracked things → (i : ℕ) (classes : List ℕ) (given : List Bool) → StartsBelow things i classes given →
    length things ≤ i → i ≤ length things → IsStart things (record { reached = true; classes = classes; given = given })
starts_all things are i classes given b le ge =
    let all : i ≡ length things = omega (arith, le, ge) in
    start_is things are classes given (subst (λ (n : ℕ). StartsBelow things n classes given) all b)
