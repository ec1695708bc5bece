-- The losses of scratch registers: numbers and marks.
use Rattle.std.proofs.Common.{◌≡◌, ◌⊎◌, inl, inr, ℕ, zero, suc, ◌+◌, List, [], ◌∷◌, ◌++◌, All, Contains, Option, Some, None, Bool}
use Rattle.std.proofs.Common.{true, false, cond}
use Rattle.std.proofs.Common.{refl, sym, ap, ◌∙◌, subst, arith}
use Rattle.std.specs.Prelude.{AllPairs}
use Rattle.std.specs.List.{filter_map, flat_map, cons_option}
use Rattle.std.proofs.lemmas.List.Concat.{flat_map-cons}
use Rattle.std.proofs.lemmas.List.Elements.{All-nil, All-cons, All-append, Contains-append_left, Contains-append_right, Contains-append_cases}
use Rattle.std.proofs.lemmas.List.Kept.{AllPairs-cons}
use Rattle.rv64_instr.specs.declared.place.Place.TheVariants.{Register, Slot, Const}
use Rattle.mir_func.specs.declared.position.Pos.{Pos}
use Rattle.mir_func.specs.declared.position.Origin.{Origin}
use Rattle.mir_func.specs.declared.variable.MarkValue.TheVariants.{Nothing, Constant, At, Pair}
use Rattle.mir_func.specs.declared.block.Block.{Block}
use Rattle.mir_func.specs.declared.item.Item.{Item}
use Rattle.mir_func.specs.declared.item.ItemKind.{ItemKind}
use Rattle.mir_func.specs.declared.item.ItemKind.TheVariants.{Code, Mark, Phi}
use Rattle.mir_func.specs.Sound.{items_of}
use Rattle.mir_func.specs.Positions.{position_of}
use Rattle.pass_trait.specs.declared.loss.Loss.{Loss}
use Rattle.pass_trait.specs.declared.loss.Reason.{Reason}
use Rattle.pass_trait.specs.declared.loss.Reason.TheVariants.{Scratch}
use Rattle.pass_trait.specs.Order.{LossComesBefore, IsInOrder}
use Rattle.pass_trait.specs.Rule.{number_lost, AreNumbersLost}
use Rattle.spill_code.specs.declared.spilling.Spilling.{Spilling}
use Rattle.spill_code.specs.Rewrite.{slot_of}
use Rattle.spill_debug.specs.RewrittenDebugItems.{is_scratch}
use Rattle.spill_debug.specs.Lost.{mark_from, AreMarksLost, is_silent, LosesScratch, AreScratchLosses, number_silenced, mark_silenced}
use Rattle.spill_debug.specs.Lost.{all_numbers_silenced, all_marks_silenced}

-- ---- what a walk over items finds

module _ {Y : Type 0} (h : Item → Option Y) where
  found_in : (xs : List Item) (y : Y) → Contains (filter_map h xs) y → (i : Item) × Contains xs i × (h i ≡ Some y)
  found_in [] y (k, lt, e) = absurd (omega (arith, lt))
  found_in (x ∷ xs) y k = by_found (λ j. found_in xs y j) (h x) refl k where
    later : ((i : Item) × Contains xs i × (h i ≡ Some y)) → (i : Item) × Contains (x ∷ xs) i × (h i ≡ Some y)
    later (i, (n, lt, e), is) = (i, (suc n, omega (arith, lt), e), is)

    by_found : (Contains (filter_map h xs) y → (i : Item) × Contains xs i × (h i ≡ Some y)) → (z : Option Y) → h x ≡ z →
        Contains (cons_option z (filter_map h xs)) y → (i : Item) × Contains (x ∷ xs) i × (h i ≡ Some y)
    by_found rest None e k = later (rest k)
    by_found rest (Some w) e (zero, lt, is) = (x, (0, omega arith, refl), e ∙ ap Some is)
    by_found rest (Some w) e (suc n, lt, is) = later (rest (n, omega (arith, lt), is))

  found_of : (xs : List Item) (y : Y) (i : Item) → Contains xs i → h i ≡ Some y → Contains (filter_map h xs) y
  found_of [] y i (k, lt, e) is = absurd (omega (arith, lt))
  found_of (x ∷ xs) y i (zero, lt, e) is =
      subst (λ (z : Option Y). Contains (cons_option z (filter_map h xs)) y) (sym (ap h e ∙ is)) (0, omega arith, refl)
  found_of (x ∷ xs) y i (suc n, lt, e) is = past (h x) (found_of xs y i (n, omega (arith, lt), e) is) where
    past : (z : Option Y) → Contains (filter_map h xs) y → Contains (cons_option z (filter_map h xs)) y
    past None k = k
    past (Some w) (m, lt', e') = (suc m, omega (arith, lt'), e')

  all_found_in : (bs : List Block) (y : Y) → Contains (flat_map (λ b. filter_map h b.items) bs) y → (i : Item) × Contains (items_of bs) i × (h i ≡ Some y)
  all_found_in [] y (k, lt, e) = absurd (omega (arith, lt))
  all_found_in (b ∷ bs) y k =
      elim (Contains-append_cases (filter_map h b.items) (flat_map (λ c. filter_map h c.items) bs) y
      (subst (λ (z : List Y). Contains z y) (flat_map-cons (λ (c : Block). filter_map h c.items) b bs) k)) as
      (λ _. (i : Item) × Contains (items_of (b ∷ bs)) i × (h i ≡ Some y)) [
        | inl here ↦ (let w = found_in b.items y here in (
          w.0,
          subst (λ (z : List Item). Contains z w.0) (sym (flat_map-cons (λ (c : Block). c.items) b bs))
              (Contains-append_left b.items (items_of bs) w.0 w.1),
          w.2,
        ))
        | inr there ↦ (let w = all_found_in bs y there in (
          w.0,
          subst (λ (z : List Item). Contains z w.0) (sym (flat_map-cons (λ (c : Block). c.items) b bs))
              (Contains-append_right b.items (items_of bs) w.0 w.1),
          w.2,
        ))
      ]

  all_found_of : (bs : List Block) (y : Y) (i : Item) → Contains (items_of bs) i → h i ≡ Some y → Contains (flat_map (λ b. filter_map h b.items) bs) y
  all_found_of [] y i (k, lt, e) is = absurd (omega (arith, lt))
  all_found_of (b ∷ bs) y i k is =
      subst (λ (z : List Y). Contains z y) (sym (flat_map-cons (λ (c : Block). filter_map h c.items) b bs))
      (elim (Contains-append_cases b.items (items_of bs) i (subst (λ (z : List Item). Contains z i) (flat_map-cons (λ (c : Block). c.items) b bs) k)) as
      (λ _. Contains (filter_map h b.items ++ flat_map (λ c. filter_map h c.items) bs) y) [
        | inl here ↦ Contains-append_left (filter_map h b.items) (flat_map (λ c. filter_map h c.items) bs) y (found_of b.items y i here is)
        | inr there ↦ Contains-append_right (filter_map h b.items) (flat_map (λ c. filter_map h c.items) bs) y (all_found_of bs y i there is)
      ])

-- ---- what they are

module _ (s : Spilling) where
  tested : {Y : Type 0} (z : Bool) (a b : Y) → cond z (Some a) None ≡ Some b → (z ≡ true) × (a ≡ b)
  tested true a b e = (refl, cc)
  tested false a b e = cc

  number_loses : (kind : ItemKind) (o : Origin) (k : ℕ) → number_silenced s kind ≡ Some k → LosesScratch s kind o (number_lost k Scratch)
  number_loses (Phi (Some (Register r)) n) o k e = let w = tested (is_scratch s r) n k e in (w.0, ap (λ (z : ℕ). number_lost z Scratch) (sym w.1))
  number_loses (Phi (Some (Slot m)) n) o k e = cc
  number_loses (Phi (Some (Const m)) n) o k e = cc
  number_loses (Phi None n) o k e = cc
  number_loses (Code i n) o k e = cc
  number_loses (Mark v m) o k e = cc

  mark_loses : (kind : ItemKind) (o : Origin) (p : Pos) → mark_silenced s kind o ≡ Some p → LosesScratch s kind o (mark_from p Scratch)
  mark_loses (Mark v (At r)) o p e =
      let w = tested (is_silent s r (slot_of s.homes r)) (position_of o) p e in (w.0, ap (λ (z : Pos). mark_from z Scratch) (sym w.1))
  mark_loses (Mark v Nothing) o p e = cc
  mark_loses (Mark v (Constant n)) o p e = cc
  mark_loses (Mark v (Pair q)) o p e = cc
  mark_loses (Phi q n) o p e = cc
  mark_loses (Code i n) o p e = cc

  -- a loss is a number's or a mark's
  either : (kind : ItemKind) (o : Origin) (l : Loss) → LosesScratch s kind o l →
      ((k : ℕ) × (number_silenced s kind ≡ Some k) × (l ≡ number_lost k Scratch)) ⊎ ((p : Pos) × (mark_silenced s kind o ≡ Some p) × (l ≡ mark_from p Scratch))
  either (Mark v (At r)) o l h = inr (position_of o, ap (λ (z : Bool). cond z (Some (position_of o)) None) h.0, h.1)
  either (Phi (Some (Register r)) k) o l h = inl (k, ap (λ (z : Bool). cond z (Some k) None) h.0, h.1)
  either (Phi (Some (Slot m)) n) o l h = absurd h
  either (Phi (Some (Const m)) n) o l h = absurd h
  either (Phi None n) o l h = absurd h
  either (Mark v Nothing) o l h = absurd h
  either (Mark v (Constant n)) o l h = absurd h
  either (Mark v (Pair q)) o l h = absurd h
  either (Code i n) o l h = absurd h

  pub scratch_each : (blocks : List Block) (ls ms : List Loss) → AreNumbersLost (all_numbers_silenced s blocks) Scratch ls →
      AreMarksLost (all_marks_silenced s blocks) Scratch ms → AreScratchLosses s blocks (ls ++ ms)
  scratch_each blocks ls ms numbers marks l = (from, of) where
    from : Contains (ls ++ ms) l → (i : Item) × Contains (items_of blocks) i × LosesScratch s i.kind i.origin l
    from k = elim (Contains-append_cases ls ms l k) as (λ _. (i : Item) × Contains (items_of blocks) i × LosesScratch s i.kind i.origin l) [
      | inl a ↦ (let n = (numbers l).0 a in
          let w = all_found_in (λ i. number_silenced s i.kind) blocks n.0 n.1 in
          (w.0, w.1, subst (LosesScratch s w.0.kind w.0.origin) (sym n.2) (number_loses w.0.kind w.0.origin n.0 w.2)))
      | inr b ↦ (let n = (marks l).0 b in
          let w = all_found_in (λ i. mark_silenced s i.kind i.origin) blocks n.0 n.1 in
          (w.0, w.1, subst (LosesScratch s w.0.kind w.0.origin) (sym n.2) (mark_loses w.0.kind w.0.origin n.0 w.2)))
    ]

    of : ((i : Item) × Contains (items_of blocks) i × LosesScratch s i.kind i.origin l) → Contains (ls ++ ms) l
    of (i, k, h) = elim (either i.kind i.origin l h) as (λ _. Contains (ls ++ ms) l) [
      | inl a ↦ Contains-append_left ls ms l ((numbers l).1 (a.0, all_found_of (λ i. number_silenced s i.kind) blocks a.0 i k a.1, a.2))
      | inr b ↦ Contains-append_right ls ms l ((marks l).1 (b.0, all_found_of (λ i. mark_silenced s i.kind i.origin) blocks b.0 i k b.1, b.2))
    ]

-- ---- their order

module _ {X : Type 0} (R : X → X → Type 0) where
  pairs_append : (xs ys : List X) → AllPairs R xs → AllPairs R ys → ((x : X) → Contains xs x → All (R x) ys) → AllPairs R (xs ++ ys)
  pairs_append [] ys h k before = k
  pairs_append (x ∷ xs) ys h k before =
      AllPairs-cons R x (xs ++ ys)
      (All-append (R x) xs ys (λ n d lt. h 0 (suc n) d (omega arith) (omega (arith, lt))) (before x (0, omega arith, refl)))
      (pairs_append xs ys (λ i j d lt within. h (suc i) (suc j) d (omega (arith, lt)) (omega (arith, within))) k
      (λ z w. before z (suc w.0, (let lt = w.1 in omega (arith, lt)), w.2)))

pub all_of : {X : Type 0} (P : X → Type 0) (xs : List X) → ((x : X) → Contains xs x → P x) → All P xs
all_of P [] h = All-nil P
all_of P (x ∷ xs) h = All-cons P x xs (h x (0, omega arith, refl)) (all_of P xs (λ y w. h y (suc w.0, (let lt = w.1 in omega (arith, lt)), w.2)))

pub numbers_then_marks : (ns : List ℕ) (ps : List Pos) (why : Reason) (ls ms : List Loss) → IsInOrder ls → IsInOrder ms → AreNumbersLost ns why ls →
    AreMarksLost ps why ms → IsInOrder (ls ++ ms)
numbers_then_marks ns ps why ls ms h k numbers marks =
    pairs_append LossComesBefore ls ms h k (λ x w. all_of (LossComesBefore x) ms (λ y v.
    (let a = (numbers x).0 w in let b = (marks y).0 v in
    subst (λ (z : Loss). LossComesBefore z y) (sym a.2) (subst (λ (z : Loss). LossComesBefore (number_lost a.0 why) z) (sym b.2) (inl tt)))))
