-- What is known at the start of a block gives classes. A thing's class is that of the first one like it in the list, and two
-- that are alike on all paths have one class and one bit.
use Rattle.std.proofs.Common.{
  ◌≡◌,
  ◌≢◌,
  ℕ,
  zero,
  suc,
  ◌<◌,
  List,
  [],
  ◌∷◌,
  map,
  length,
  get_or,
  arith,
  refl,
  sym,
  ◌∙◌,
  ap,
  subst,
  inl,
  inr,
  eqb-true,
  eq-eqb,
  true,
  false,
}
use Rattle.std.specs.Prelude.{Contains, Option, Some, None, IsSome, IsTrue, Bool, cond, ◌&&◌, nat_eq, slice_get, slice_index}
use Rattle.std.proofs.lemmas.Bool.{and_parts, and_from}
use Rattle.std.proofs.lemmas.Bool.Decides.{eqb_tells}
use Rattle.std.proofs.lemmas.Option.{slice_get-get_or, slice_get_within}
use Rattle.mir_func.specs.declared.variable.VarId.{VarId}
use Rattle.mir_func.specs.Variables.{is_same}
use Rattle.mir_func.specs.Graph.{Program, block_start}
use Rattle.sem_mir.specs.ValueId.{Token}
use Rattle.sem_mir.proofs.Assignments.{same_refl, same_is}
use Rattle.value_proof.specs.sem_value_ids.Pullback as path
use Rattle.value_proof.specs.sem_value_ids.Pullback.{InRegister, InSlot, OfPair, OfVariable, OfNumber, token_of}
use Rattle.value_solver.specs.declared.tracked.Tracked.{Tracked}
use Rattle.value_solver.specs.declared.tracked.Tracked.TheVariants.{Register, Slot, Pair, Part, Number}
use Rattle.value_solver.specs.declared.entry.BlockEntry.{BlockEntry}
use Rattle.value_solver.specs.Entry as entry
use Rattle.value_solver.specs.Entry.{thing, IsReached, AreAlike, IsGiven, HasNone}
use Rattle.value_proof.specs.Classes.{Classes, IsKnown, HaveOneClass, ShareOnPaths, AreClasses}
use Rattle.value_proof.specs.PreferredByClass.{AreEnoughFor}
use Rattle.value_proof.proofs.Known.{path_bare, pointer}
use Rattle.value_tracker.specs.Things.{AreThings, Settle, settled_at}
use Rattle.value_tracker.specs.Entering.{EntriesGiveClasses}
use Rattle.value_tracker.proofs.Starting.{stands, contained}

-- ---- one thing

is_thing : path.Tracked → path.Tracked → Bool
is_thing (InRegister r) (InRegister s) = nat_eq r s
is_thing (InSlot m) (InSlot n) = nat_eq m n
is_thing (OfPair k o) (OfPair m p) = nat_eq k m && nat_eq o p
is_thing (OfVariable v) (OfVariable w) = is_same v w
is_thing (OfNumber c) (OfNumber d) = nat_eq c d
is_thing _ _ = false

is_itself : (x : path.Tracked) → is_thing x x ≡ true
unfolding is_thing
is_itself (InRegister r) = eq-eqb r r refl
is_itself (InSlot n) = eq-eqb n n refl
is_itself (OfPair k o) = and_from (nat_eq k k) (nat_eq o o) (eq-eqb k k refl) (eq-eqb o o refl)
is_itself (OfVariable v) = same_refl v
is_itself (OfNumber c) = eq-eqb c c refl

is_one : (x y : path.Tracked) → is_thing x y ≡ true → x ≡ y
unfolding is_thing
is_one (InRegister r) (InRegister s) e = ap InRegister (eqb-true r s e)
is_one (InSlot m) (InSlot n) e = ap InSlot (eqb-true m n e)
is_one (OfPair k o) (OfPair m p) e = let b = and_parts (nat_eq k m) (nat_eq o p) e in λ i. OfPair (eqb-true k m b.0 i) (eqb-true o p b.1 i)
is_one (OfVariable v) (OfVariable w) e = ap OfVariable (same_is v w e)
is_one (OfNumber c) (OfNumber d) e = ap OfNumber (eqb-true c d e)
is_one (InRegister r) (InSlot n) e = cc
is_one (InRegister r) (OfPair k o) e = cc
is_one (InRegister r) (OfVariable v) e = cc
is_one (InRegister r) (OfNumber c) e = cc
is_one (InSlot m) (InRegister s) e = cc
is_one (InSlot m) (OfPair k o) e = cc
is_one (InSlot m) (OfVariable v) e = cc
is_one (InSlot m) (OfNumber c) e = cc
is_one (OfPair k o) (InRegister s) e = cc
is_one (OfPair k o) (InSlot n) e = cc
is_one (OfPair k o) (OfVariable v) e = cc
is_one (OfPair k o) (OfNumber c) e = cc
is_one (OfVariable v) (InRegister s) e = cc
is_one (OfVariable v) (InSlot n) e = cc
is_one (OfVariable v) (OfPair k o) e = cc
is_one (OfVariable v) (OfNumber c) e = cc
is_one (OfNumber c) (InRegister s) e = cc
is_one (OfNumber c) (InSlot n) e = cc
is_one (OfNumber c) (OfPair k o) e = cc
is_one (OfNumber c) (OfVariable v) e = cc

-- the class of the first like it
class_in : List Tracked → List ℕ → path.Tracked → ℕ
class_in [] cs y = 0
class_in (x ∷ xs) [] y = 0
class_in (x ∷ xs) (c ∷ cs) y = cond (is_thing (thing x) y) c (class_in xs cs y)

-- an index of the list with the class
record Found (xs : List Tracked) (cs : List ℕ) (y : path.Tracked) (class : ℕ) : Type 0 where
  index : ℕ
  item : Tracked
  at : slice_get xs index ≡ Some item
  is : thing item ≡ y
  class_is : slice_index cs index ≡ class

found_later : (x : Tracked) (xs : List Tracked) (c : ℕ) (cs : List ℕ) (y : path.Tracked) (d : ℕ) → Found xs cs y d → Found (x ∷ xs) (c ∷ cs) y d
found_later x xs c cs y d f = record { index = suc f.index; item = f.item; at = f.at; is = f.is; class_is = f.class_is }

found : (xs : List Tracked) (cs : List ℕ) (y : path.Tracked) → length cs ≡ length xs → (k : ℕ) (z : Tracked) → slice_get xs k ≡ Some z → thing z ≡ y →
    Found xs cs y (class_in xs cs y)
unfolding class_in
found [] cs y count k z e is = cc
found (x ∷ xs) [] y count k z e is = absurd (let no : 0 ≡ suc (length xs) = count in omega (arith, no))
found (x ∷ xs) (c ∷ cs) y count k z e is =
    let less : length cs ≡ length xs = let l : suc (length cs) ≡ suc (length xs) = count in omega (arith, l) in
    by_test (λ j at. found xs cs y less j z at is) (is_thing (thing x) y) refl k e where
      by_test : ((j : ℕ) → slice_get xs j ≡ Some z → Found xs cs y (class_in xs cs y)) → (b : Bool) → is_thing (thing x) y ≡ b → (k : ℕ) →
          slice_get (x ∷ xs) k ≡ Some z →
          Found (x ∷ xs) (c ∷ cs) y (cond b c (class_in xs cs y))
      by_test more true h k e = record { index = 0; item = x; at = refl; is = is_one (thing x) y h; class_is = refl }
      by_test more false h zero e =
          let same : x ≡ z = cc in
          let on : is_thing (thing x) y ≡ true = ap (λ (w : Tracked). is_thing (thing w) y) same ∙ (ap (λ (w : path.Tracked). is_thing w y) is ∙ is_itself y) in
          cc
      by_test more false h (suc k) e = found_later x xs c cs y (class_in xs cs y) (more k e)

-- ---- at the start of a block

module _ (g : Program) (variables : List VarId) (things : List Tracked) (b : ℕ) (e : BlockEntry) (settled : List ℕ) (are : AreThings variables things)
    (of : AreEnoughFor g (map thing things)) (classes : entry.AreClasses g things b e.classes e.given) (reached : IsReached g b)
    (count : length settled ≡ length e.classes) (each : (i : ℕ) → i < length e.classes → slice_index settled i ≡ settled_at e.classes e.given i) where
  abbrev known : List path.Tracked
  known = map thing things

  -- what is known of the thing at an index
  record At (i : ℕ) (x : Tracked) : Type 0 where
    class : ℕ
    bit : Bool
    class_at : slice_get e.classes i ≡ Some class
    bit_at : slice_get e.given i ≡ Some bit
    settles : slice_index settled i ≡ cond bit class 0

  at : (i : ℕ) (x : Tracked) → slice_get things i ≡ Some x → At i x
  at i x here =
      let within : i < length things = slice_get_within things i x here in
      let in_classes : i < length e.classes = omega (arith, within, classes.classes_for_all) in
      let in_given : i < length e.given = omega (arith, within, classes.given_for_all) in
      record {
        class = get_or e.classes i 0;
        bit = get_or e.given i false;
        class_at = slice_get-get_or e.classes i 0 in_classes;
        bit_at = slice_get-get_or e.given i false in_given;
        settles = each i in_classes;
      }

  one_bit : (y z : Bool) → (IsTrue y → IsTrue z) → (IsTrue z → IsTrue y) → y ≡ z
  one_bit true true f h = refl
  one_bit false false f h = refl
  one_bit true false f h = sym (f refl)
  one_bit false true f h = h refl

  -- two that are alike are settled alike
  alike_settled : (i j : ℕ) (x y : Tracked) → slice_get things i ≡ Some x → slice_get things j ≡ Some y → AreAlike g b (thing x) (thing y) →
      slice_index settled i ≡ slice_index settled j
  alike_settled i j x y hx hy alike =
      let a = at i x hx in
      let c = at j y hy in
      let same : a.class ≡ c.class = (classes.one i j a.class c.class x y hx hy a.class_at c.class_at).1 alike in
      let given_y : IsGiven g b (thing x) → IsGiven g b (thing y) = λ h n t p. subst IsSome (alike n t p) (h n t p) in
      let given_x : IsGiven g b (thing y) → IsGiven g b (thing x) = λ h n t p. subst IsSome (sym (alike n t p)) (h n t p) in
      let bits : a.bit ≡ c.bit = one_bit a.bit c.bit
      (λ h. (classes.bit j y c.bit hy c.bit_at).1 (given_y ((classes.bit i x a.bit hx a.bit_at).0 h)))
      (λ h. (classes.bit i x a.bit hx a.bit_at).1 (given_x ((classes.bit j y c.bit hy c.bit_at).0 h))) in
      a.settles ∙ ((λ z. cond (bits z) (same z) 0) ∙ sym c.settles)

  none_settled : (i : ℕ) (x : Tracked) → slice_get things i ≡ Some x → HasNone g b (thing x) → slice_index settled i ≡ 0
  none_settled i x hx none = let a = at i x hx in a.settles ∙ by_bit a.bit refl where
    by_bit : (z : Bool) → (at i x hx).bit ≡ z → cond z (at i x hx).class 0 ≡ 0
    by_bit true h =
        let some = (classes.bit i x (at i x hx).bit hx (at i x hx).bit_at).0 h reached.0 reached.1 reached.2 in
        let both : IsSome {T = Token} None = subst IsSome (none reached.0 reached.1 reached.2) some in
        cc
    by_bit false h = refl

  class_of : Classes
  class_of (InRegister r) = cond (nat_eq r 2) 0 (cond (nat_eq r 0) (class_in things settled (OfNumber 0)) (class_in things settled (InRegister r)))
  class_of (InSlot n) = class_in things settled (InSlot n)
  class_of (OfPair k o) = class_in things settled (OfPair k o)
  class_of (OfVariable v) = class_in things settled (OfVariable v)
  class_of (OfNumber c) = class_in things settled (OfNumber c)

  all : length settled ≡ length things
  all = count ∙ classes.classes_for_all

  find : (y : path.Tracked) (k : ℕ) (z : Tracked) → slice_get things k ≡ Some z → thing z ≡ y → Found things settled y (class_in things settled y)
  find y k z here is = found things settled y all k z here is

  found_is : (i : ℕ) (x : Tracked) → slice_get things i ≡ Some x → slice_index settled i ≡ class_in things settled (thing x)
  found_is i x here =
      let f = find (thing x) i x here refl in
      alike_settled i f.index x f.item here f.at (λ n t p. ap (λ (z : path.Tracked). token_of z t) (sym f.is)) ∙ f.class_is

  pointer_none : HasNone g b (InRegister 2)
  pointer_none n t p = path_bare g known of p (InRegister 2) pointer

  register_settled : (i r : ℕ) → slice_get things i ≡ Some (Register r) → slice_index settled i ≡ class_of (InRegister r)
  unfolding class_of
  register_settled i r here = elim (eqb_tells r 2) [
    | inl two ↦ none_settled i (Register r) here (subst (λ (z : ℕ). HasNone g b (InRegister z)) (sym two.1) pointer_none)
        ∙ sym (ap (λ (z : Bool). cond z 0 (cond (nat_eq r 0) (class_in things settled (OfNumber 0)) (class_in things settled (InRegister r)))) two.0)
    | inr other ↦ not_two ∙ sym (ap (λ (z : Bool). cond z 0 (cond (nat_eq r 0) (class_in things settled (OfNumber 0)) (class_in things settled
        (InRegister r)))) other.0)
  ] where
    not_two : slice_index settled i ≡ cond (nat_eq r 0) (class_in things settled (OfNumber 0)) (class_in things settled (InRegister r))
    not_two = elim (eqb_tells r 0) [
      | inl none ↦
          let f = find (OfNumber 0) are.zero.0 (Number 0) are.zero.1 refl in
          alike_settled i f.index (Register r) f.item here f.at
          (λ n t p. ap (λ (z : ℕ). token_of (InRegister z) t) none.1 ∙ ap (λ (z : path.Tracked). token_of z t) (sym f.is)) ∙ (f.class_is
          ∙ sym (ap (λ (z : Bool). cond z (class_in things settled (OfNumber 0)) (class_in things settled (InRegister r))) none.0))
      | inr some ↦ found_is i (Register r) here ∙ sym (ap (λ (z : Bool). cond z (class_in things settled (OfNumber 0)) (class_in things settled
          (InRegister r))) some.0)
    ]

  settled_is : (i : ℕ) (x : Tracked) → slice_get things i ≡ Some x → slice_index settled i ≡ class_of (thing x)
  unfolding class_of
  settled_is i (Register r) here = register_settled i r here
  settled_is i (Slot n) here = found_is i (Slot n) here
  settled_is i (Pair q) here = found_is i (Pair q) here
  settled_is i (Part v) here = found_is i (Part v) here
  settled_is i (Number c) here = found_is i (Number c) here

  settle : Settle things settled class_of
  unfolding class_of
  settle = record { each = settled_is; for_all = all; zero = refl; pointer = refl }

  -- ---- a known thing has no token and class 0, or is like one of the list

  data Sort (x : path.Tracked) : Type 0 where
    bare : HasNone g b x → class_of x ≡ 0 → Sort x
    like : (i : ℕ) (z : Tracked) → slice_get things i ≡ Some z → AreAlike g b (thing z) x → slice_index settled i ≡ class_of x → Sort x

  like_contained : (x : path.Tracked) → Contains known x → Sort x
  like_contained x c =
      let s = stands things x c in
      like s.index s.item s.at (λ n t p. ap (λ (z : path.Tracked). token_of z t) s.is) (settled_is s.index s.item s.at ∙ ap class_of s.is)

  sort_register : (r : ℕ) → r < 32 → Sort (InRegister r)
  sort_register r lt = elim (eqb_tells r 2) [
    | inl two ↦ subst (λ (z : ℕ). Sort (InRegister z)) (sym two.1) (bare pointer_none settle.pointer)
    | inr other ↦ elim (eqb_tells r 0) [
      | inl none ↦ subst (λ (z : ℕ). Sort (InRegister z)) (sym none.1)
          (like are.zero.0 (Number 0) are.zero.1 (λ n t p. refl) (settled_is are.zero.0 (Number 0) are.zero.1 ∙ sym settle.zero))
      | inr some ↦ let s = are.registers r lt some.1 other.1 in like_contained (InRegister r) (contained things s.0 (Register r) s.1)
    ]
  ]

  sort : (x : path.Tracked) → IsKnown known x → Sort x
  sort (InRegister r) k = sort_register r k
  sort (InSlot n) k = like_contained (InSlot n) k
  sort (OfPair j o) c = like_contained (OfPair j o) c
  sort (OfVariable v) k = like_contained (OfVariable v) k
  sort (OfNumber c) k = like_contained (OfNumber c) k

  shares_some : (x y : path.Tracked) → ShareOnPaths g (block_start 0) (block_start b) x y → HasNone g b x → ⊥
  shares_some x y share none =
      let k = share reached.0 reached.1 reached.2 in
      let no = none reached.0 reached.1 reached.2 in
      cc

  shares_back : (x y : path.Tracked) → ShareOnPaths g (block_start 0) (block_start b) x y → ShareOnPaths g (block_start 0) (block_start b) y x
  shares_back x y share n t p = let k = share n t p in (k.0, k.2, k.1)

  bit_on : (z : Bool) (c d : ℕ) → d ≡ cond z c 0 → d ≢ 0 → (z ≡ true) × (d ≡ c)
  bit_on true c d is some = (refl, is)
  bit_on false c d is some = absurd (some is)

  some_token : (o : Option Token) → IsSome o → (k : Token) × (o ≡ Some k)
  some_token (Some k) h = (k, refl)
  some_token None h = cc

  one_to : (x y : path.Tracked) → Sort x → Sort y → HaveOneClass class_of x y → ShareOnPaths g (block_start 0) (block_start b) x y
  one_to x y (bare none is) sy h = absurd (h.1 is)
  one_to x y (like i z hz az sz) (bare none is) h = absurd (h.1 (h.0 ∙ is))
  one_to x y (like i z hz az sz) (like j w hw aw sw) h = λ n t p.
      let a = at i z hz in
      let c = at j w hw in
      let ax = bit_on a.bit a.class (class_of x) (sym sz ∙ a.settles) h.1 in
      let cy = bit_on c.bit c.class (class_of y) (sym sw ∙ c.settles) (λ none. h.1 (h.0 ∙ none)) in
      let same : a.class ≡ c.class = sym ax.1 ∙ (h.0 ∙ cy.1) in
      let alike = (classes.one i j a.class c.class z w hz hw a.class_at c.class_at).0 same n t p in
      let given = (classes.bit i z a.bit hz a.bit_at).0 ax.0 n t p in
      let k = some_token (token_of (thing z) t) given in
      (k.0, sym (az n t p) ∙ k.1, sym (aw n t p) ∙ (sym alike ∙ k.1))

  one_from : (x y : path.Tracked) → Sort x → Sort y → ShareOnPaths g (block_start 0) (block_start b) x y → HaveOneClass class_of x y
  one_from x y (bare none is) sy share = absurd (shares_some x y share none)
  one_from x y (like i z hz az sz) (bare none is) share = absurd (shares_some y x (shares_back x y share) none)
  one_from x y (like i z hz az sz) (like j w hw aw sw) share =
      let a = at i z hz in
      let alike : AreAlike g b (thing z) (thing w) = λ n t p. let k = share n t p in az n t p ∙ (k.1 ∙ (sym k.2 ∙ sym (aw n t p))) in
      let given : IsGiven g b (thing z) = λ n t p. let k = share n t p in
      let is : token_of (thing z) t ≡ Some k.0 = az n t p ∙ k.1 in subst IsSome (sym is) refl in
      let on : a.bit ≡ true = (classes.bit i z a.bit hz a.bit_at).1 given in
      let class_is : class_of x ≡ a.class = sym sz ∙ (a.settles ∙ ap (λ (q : Bool). cond q a.class 0) on) in
      let same : class_of x ≡ class_of y = sym sz ∙ (alike_settled i j z w hz hw alike ∙ sw) in
      (same, λ none. shares_some x y share (λ n t p. sym (az n t p) ∙ (classes.nothing i a.class z hz a.class_at).0 (sym class_is ∙ none) n t p))

  pub classes_at_start : (class : Classes) × AreClasses g (block_start 0) (block_start b) known class × Settle things settled class
  classes_at_start = (
    class_of,
    record {
      reached = reached;
      one = λ x y kx ky. (one_to x y (sort x kx) (sort y ky), one_from x y (sort x kx) (sort y ky));
    },
    settle,
  )

pub entries_give_classes : EntriesGiveClasses
entries_give_classes g variables things b e settled are of is on count each =
    let reached = is.reached.0 on in
    classes_at_start g variables things b e settled are of (is.classes reached) reached count each
