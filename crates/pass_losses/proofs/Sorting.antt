-- The order of losses, as it is derived: numbers, marks by their positions, registers, and for one thing by reasons.
use Rattle.std.proofs.Common.{◌≡◌, ◌⊎◌, ◌↔◌, ℕ, ◌<◌, List, [], ◌∷◌, All, Contains, Bool, true, false, ◌&&◌, cond, nat_eq, eqb-true, refl, sym, ap, ◌∙◌}
use Rattle.std.proofs.Common.{subst, inl, inr, arith}
use Rattle.std.proofs.Common.{Ordering, Less, Equal, Greater}
use Rattle.std.specs.List.{Any, AllByRecursion}
use Rattle.std.specs.List.Sorted.{IsStrictlySortedBy}
use Rattle.std.specs.Ordering.{nat_cmp, ordering_then, MatchOrdering}
use Rattle.std.proofs.lemmas.Bool.{and_parts}
use Rattle.std.proofs.lemmas.Cmp.{ranked}
use Rattle.std.proofs.lemmas.List.Elements.{All-nil, All-cons}
use Rattle.std.proofs.lemmas.List.Kept.{AllPairs-cons}
use Rattle.pass_trait.specs.mir_func.declared.position.Pos.{Pos}
use Rattle.pass_trait.specs.declared.loss.Loss.{Loss}
use Rattle.pass_trait.specs.declared.loss.Lost.{Lost}
use Rattle.pass_trait.specs.declared.loss.Lost.TheVariants.{Number, Mark, Register}
use Rattle.pass_trait.specs.declared.loss.Reason.{Reason}
use Rattle.pass_trait.specs.declared.loss.Reason.TheVariants.{Removed, WrongPlace, Scratch, Bypassed, Unreachable, NoScratch, CallNamed, EntryLoop, NoSlot}
use Rattle.pass_trait.specs.Order.{reason_rank, IsEarlier, LossComesBefore, IsInOrder}

abbrev pub loss : Lost → Reason → Loss
loss w r = record { what = w; reason = r }

abbrev pub pos_cmp : Pos → Pos → Ordering
pos_cmp p q = ordering_then (nat_cmp p.block q.block) (nat_cmp p.item q.item)

abbrev pub pos_eq : Pos → Pos → Bool
pos_eq p q = nat_eq p.block q.block && nat_eq p.item q.item

-- how reasons compare, and which are equal
abbrev pub by_reason : (Loss → Loss → Ordering) → Reason → Reason → Ordering
by_reason R r s = R (loss (Number 0) r) (loss (Number 0) s)

abbrev pub same_reason : (Loss → Loss → Bool) → Reason → Reason → Bool
same_reason E r s = E (loss (Number 0) r) (loss (Number 0) s)

-- a fact of each reason
abbrev pub OfEach : (Reason → Type 0) → Type 0
OfEach P = P Removed × P WrongPlace × P Scratch × P Bypassed × P Unreachable × P NoScratch × P CallNamed × P EntryLoop × P NoSlot

pub each : (P : Reason → Type 0) → OfEach P → (r : Reason) → P r
each P h Removed = h.0
each P h WrongPlace = h.1
each P h Scratch = h.2
each P h Bypassed = h.3
each P h Unreachable = h.4
each P h NoScratch = h.5
each P h CallNamed = h.6
each P h EntryLoop = h.7
each P h NoSlot = h.8

-- how losses compare
pub record Compares (R : Loss → Loss → Ordering) : Type 0 where
  pub reasons : (r s : Reason) → by_reason R r s ≡ nat_cmp (reason_rank r) (reason_rank s)
  pub numbers : (k l : ℕ) (r s : Reason) → R (loss (Number k) r) (loss (Number l) s) ≡ ordering_then (nat_cmp k l) (by_reason R r s)
  pub marks : (p q : Pos) (r s : Reason) → R (loss (Mark p) r) (loss (Mark q) s) ≡ ordering_then (pos_cmp p q) (by_reason R r s)
  pub registers : (x y : ℕ) (r s : Reason) → R (loss (Register x) r) (loss (Register y) s) ≡ ordering_then (nat_cmp x y) (by_reason R r s)
  pub mark_number : (p : Pos) (l : ℕ) (r s : Reason) → R (loss (Mark p) r) (loss (Number l) s) ≡ Greater
  pub register_number : (x l : ℕ) (r s : Reason) → R (loss (Register x) r) (loss (Number l) s) ≡ Greater
  pub register_mark : (x : ℕ) (q : Pos) (r s : Reason) → R (loss (Register x) r) (loss (Mark q) s) ≡ Greater

-- and which are equal
pub record Equals (E : Loss → Loss → Bool) : Type 0 where
  pub reasons : (r s : Reason) → same_reason E r s ≡ nat_eq (reason_rank r) (reason_rank s)
  pub numbers : (k l : ℕ) (r s : Reason) → E (loss (Number k) r) (loss (Number l) s) ≡ (nat_eq k l && same_reason E r s)
  pub marks : (p q : Pos) (r s : Reason) → E (loss (Mark p) r) (loss (Mark q) s) ≡ (pos_eq p q && same_reason E r s)
  pub registers : (x y : ℕ) (r s : Reason) → E (loss (Register x) r) (loss (Register y) s) ≡ (nat_eq x y && same_reason E r s)
  pub number_mark : (k : ℕ) (q : Pos) (r s : Reason) → E (loss (Number k) r) (loss (Mark q) s) ≡ false
  pub number_register : (k y : ℕ) (r s : Reason) → E (loss (Number k) r) (loss (Register y) s) ≡ false
  pub mark_number : (p : Pos) (l : ℕ) (r s : Reason) → E (loss (Mark p) r) (loss (Number l) s) ≡ false
  pub mark_register : (p : Pos) (y : ℕ) (r s : Reason) → E (loss (Mark p) r) (loss (Register y) s) ≡ false
  pub register_number : (x l : ℕ) (r s : Reason) → E (loss (Register x) r) (loss (Number l) s) ≡ false
  pub register_mark : (x : ℕ) (q : Pos) (r s : Reason) → E (loss (Register x) r) (loss (Mark q) s) ≡ false

-- ---- what comes before what

by_order : (a b : ℕ) (o : Ordering) → MatchOrdering o (a < b) (a ≡ b) (b < a) → (u : Ordering) → ordering_then o u ≡ Less → (a < b) ⊎ ((a ≡ b) × (u ≡ Less))
by_order a b Less h u e = inl h
by_order a b Equal h u e = inr (h, e)
by_order a b Greater h u e = cc

by_two : (a b : ℕ) (u : Ordering) → ordering_then (nat_cmp a b) u ≡ Less → (a < b) ⊎ ((a ≡ b) × (u ≡ Less))
by_two a b u e = by_order a b (nat_cmp a b) (ranked a b (nat_cmp a b) refl) u e

by_pos : (p q : Pos) (u : Ordering) → ordering_then (pos_cmp p q) u ≡ Less → IsEarlier p q ⊎ ((p ≡ q) × (u ≡ Less))
by_pos p q u e =
    elim (by_two p.block q.block (ordering_then (nat_cmp p.item q.item) u) (assoc (nat_cmp p.block q.block) (nat_cmp p.item q.item) u ∙ e)) as
    (λ z. IsEarlier p q ⊎ ((p ≡ q) × (u ≡ Less))) [
      | inl lt ↦ inl (inl lt)
      | inr w ↦ elim (by_two p.item q.item u w.1) as (λ z. IsEarlier p q ⊎ ((p ≡ q) × (u ≡ Less))) [
        | inl lt ↦ inl (inr (w.0, lt))
        | inr v ↦ inr ((λ i. record { block = w.0 i; item = v.0 i }), v.1)
      ]
    ] where
      assoc : (a b u : Ordering) → ordering_then a (ordering_then b u) ≡ ordering_then (ordering_then a b) u
      assoc Less b u = refl
      assoc Equal b u = refl
      assoc Greater b u = refl

nat_below : (a b : ℕ) → nat_cmp a b ≡ Less → a < b
nat_below a b e = elim (by_two a b Equal (then_equal (nat_cmp a b) ∙ e)) as (λ z. a < b) [
  | inl lt ↦ lt
  | inr w ↦ absurd (let bad : Equal ≡ Less = w.1 in cc)
] where
  then_equal : (o : Ordering) → ordering_then o Equal ≡ o
  then_equal Less = refl
  then_equal Equal = refl
  then_equal Greater = refl

module _ (R : Loss → Loss → Ordering) (h : Compares R) where
  later : (r s : Reason) → by_reason R r s ≡ Less → reason_rank r < reason_rank s
  later r s e = nat_below (reason_rank r) (reason_rank s) (sym (h.reasons r s) ∙ e)

  abbrev Comes : Lost → Lost → Reason → Reason → Type 0
  Comes a b r s = LossComesBefore (loss a r) (loss b s)

  never : {P : Type 0} → Greater ≡ Less → P
  never e = cc

  before : (a b : Lost) (r s : Reason) → R (loss a r) (loss b s) ≡ Less → Comes a b r s
  before (Number k) (Number l) r s e = elim (by_two k l (by_reason R r s) (sym (h.numbers k l r s) ∙ e)) as (λ z. Comes (Number k) (Number l) r s) [
    | inl lt ↦ inl lt
    | inr w ↦ inr (ap Number w.0, later r s w.1)
  ]
  before (Number k) (Mark q) r s e = inl tt
  before (Number k) (Register y) r s e = inl tt
  before (Mark p) (Number l) r s e = never (sym (h.mark_number p l r s) ∙ e)
  before (Mark p) (Mark q) r s e = elim (by_pos p q (by_reason R r s) (sym (h.marks p q r s) ∙ e)) as (λ z. Comes (Mark p) (Mark q) r s) [
    | inl lt ↦ inl lt
    | inr w ↦ inr (ap Mark w.0, later r s w.1)
  ]
  before (Mark p) (Register y) r s e = inl tt
  before (Register x) (Number l) r s e = never (sym (h.register_number x l r s) ∙ e)
  before (Register x) (Mark q) r s e = never (sym (h.register_mark x q r s) ∙ e)
  before (Register x) (Register y) r s e = elim (by_two x y (by_reason R r s) (sym (h.registers x y r s) ∙ e)) as
      (λ z. Comes (Register x) (Register y) r s) [
        | inl lt ↦ inl lt
        | inr w ↦ inr (ap Register w.0, later r s w.1)
      ]

  each_later : (a : Loss) (ls : List Loss) → AllByRecursion (λ b. R a b ≡ Less) ls → All (LossComesBefore a) ls
  each_later a [] less = All-nil (LossComesBefore a)
  each_later a (b ∷ ls) less = All-cons (LossComesBefore a) b ls (before a.what b.what a.reason b.reason less.0) (each_later a ls less.1)

  pub in_order : (ls : List Loss) → IsStrictlySortedBy R ls → IsInOrder ls
  unfolding IsStrictlySortedBy
  in_order [] sorted = λ i j d lt within. absurd (omega (arith, within))
  in_order (a ∷ ls) sorted = AllPairs-cons LossComesBefore a ls (each_later a ls sorted.0) (in_order ls sorted.1)

-- ---- what is equal is one

pos_is : (p q : Pos) → pos_eq p q ≡ true → p ≡ q
pos_is p q e =
    let w = and_parts (nat_eq p.block q.block) (nat_eq p.item q.item) e in
    let a = eqb-true p.block q.block w.0 in
    let b = eqb-true p.item q.item w.1 in
    λ i. record { block = a i; item = b i }

-- the reason of a rank
reason_of : ℕ → Reason
reason_of n = at (nat_eq n 0) (nat_eq n 1) (nat_eq n 2) (nat_eq n 3) (nat_eq n 4) (nat_eq n 5) (nat_eq n 6) (nat_eq n 7) where
  at : (a b c d e f g h : Bool) → Reason
  at a b c d e f g h =
      cond a Removed (cond b WrongPlace (cond c Scratch (cond d Bypassed (cond e Unreachable (cond f NoScratch (cond g CallNamed (cond h EntryLoop NoSlot)))))))

rank_back : (r : Reason) → reason_of (reason_rank r) ≡ r
unfolding reason_of
rank_back Removed = refl
rank_back WrongPlace = refl
rank_back Scratch = refl
rank_back Bypassed = refl
rank_back Unreachable = refl
rank_back NoScratch = refl
rank_back CallNamed = refl
rank_back EntryLoop = refl
rank_back NoSlot = refl

rank_one : (r s : Reason) → reason_rank r ≡ reason_rank s → r ≡ s
rank_one r s e = sym (rank_back r) ∙ ap reason_of e ∙ rank_back s

module _ (E : Loss → Loss → Bool) (h : Equals E) where
  both : (a b : Lost) (r s : Reason) → a ≡ b → r ≡ s → loss a r ≡ loss b s
  both a b r s e f = λ i. loss (e i) (f i)

  apart : {P : Type 0} → false ≡ true → P
  apart e = cc

  are : (r s : Reason) → same_reason E r s ≡ true → r ≡ s
  are r s e = rank_one r s (eqb-true (reason_rank r) (reason_rank s) (sym (h.reasons r s) ∙ e))

  is_one : (a b : Lost) (r s : Reason) → E (loss a r) (loss b s) ≡ true → loss a r ≡ loss b s
  is_one (Number k) (Number l) r s e =
      let w = and_parts (nat_eq k l) (same_reason E r s) (sym (h.numbers k l r s) ∙ e) in
      both (Number k) (Number l) r s (ap Number (eqb-true k l w.0)) (are r s w.1)
  is_one (Mark p) (Mark q) r s e =
      let w = and_parts (pos_eq p q) (same_reason E r s) (sym (h.marks p q r s) ∙ e) in
      both (Mark p) (Mark q) r s (ap Mark (pos_is p q w.0)) (are r s w.1)
  is_one (Register x) (Register y) r s e =
      let w = and_parts (nat_eq x y) (same_reason E r s) (sym (h.registers x y r s) ∙ e) in
      both (Register x) (Register y) r s (ap Register (eqb-true x y w.0)) (are r s w.1)
  is_one (Number k) (Mark q) r s e = apart (sym (h.number_mark k q r s) ∙ e)
  is_one (Number k) (Register y) r s e = apart (sym (h.number_register k y r s) ∙ e)
  is_one (Mark p) (Number l) r s e = apart (sym (h.mark_number p l r s) ∙ e)
  is_one (Mark p) (Register y) r s e = apart (sym (h.mark_register p y r s) ∙ e)
  is_one (Register x) (Number l) r s e = apart (sym (h.register_number x l r s) ∙ e)
  is_one (Register x) (Mark q) r s e = apart (sym (h.register_mark x q r s) ∙ e)

  -- the same losses stand in both
  pub same_losses : (xs ys : List Loss) → ((x : Loss) → Contains ys x → Contains xs x) → ((x : Loss) → Contains xs x → Any (λ y. E x y ≡ true) ys) →
      (l : Loss) → Contains ys l ↔ Contains xs l
  same_losses xs ys from kept l = (
    from l,
    λ c.
        (let w = kept l c in
        let there : Contains ys w.1 = (w.0, w.2, w.3) in
        let one : l ≡ w.1 = is_one l.what w.1.what l.reason w.1.reason w.4 in
        subst (Contains ys) (sym one) there),
  )
