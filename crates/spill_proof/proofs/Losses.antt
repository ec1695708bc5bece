-- The losses are those that the step says, in order.
use Rattle.std.proofs.Common.{◌≡◌, inl, inr, ℕ, zero, suc, ◌<◌, List, [], ◌∷◌, ◌++◌, All, Contains, Option, Some, None, Bool}
use Rattle.std.proofs.Common.{refl, sym, ap, ◌∙◌, subst, arith}
use Rattle.std.specs.Prelude.{AllPairs}
use Rattle.std.specs.List.{filter_map, cons_option}
use Rattle.std.proofs.lemmas.List.Elements.{All-contains, Contains-append_cases, Contains-append_left, Contains-append_right}
use Rattle.std.proofs.lemmas.List.Kept.{AllPairs-cons}
use Rattle.rv64_instr.specs.declared.place.Place.TheVariants.{Register, Slot, Const}
use Rattle.mir_func.specs.declared.debug_substitution.DebugSubstitution.{DebugSubstitution}
use Rattle.mir_func.specs.declared.item.Item.{Item}
use Rattle.mir_func.specs.declared.item.ItemKind.{ItemKind}
use Rattle.mir_func.specs.declared.item.ItemKind.TheVariants.{Code, Mark, Phi}
use Rattle.mir_func.specs.declared.position.Origin.{Origin}
use Rattle.mir_func.specs.declared.variable.MarkValue.TheVariants.{Nothing, Constant, At, Pair}
use Rattle.mir_func.specs.Function.{Function}
use Rattle.mir_func.specs.Sound.{IsSound, items_of}
use Rattle.pass_trait.specs.declared.loss.Loss.{Loss}
use Rattle.pass_trait.specs.declared.loss.Lost.TheVariants as lost
use Rattle.pass_trait.specs.declared.loss.Reason.{Reason}
use Rattle.pass_trait.specs.Change.{Change, change}
use Rattle.pass_trait.specs.Debug.{IsLoss}
use Rattle.pass_trait.specs.Order.{LossComesBefore, IsInOrder}
use Rattle.pass_trait.specs.Rule.{Rule, register_lost}
use Rattle.spill_code.specs.declared.spilling.SlotAssignment.{SlotAssignment}
use Rattle.spill_code.specs.declared.spilling.Spilling.{Spilling}
use Rattle.spill_debug.specs.Lost.{LosesScratch, AreScratchLosses}
use Rattle.spill_debug.proofs.Silenced.{all_of}
use Rattle.spill_select.specs.Left.{why_left, loss_for, registers_left}
use Rattle.spill_select.specs.spill_rule.Choice.{homes_of, spilling_of}
use Rattle.spill_select.specs.spill_rule.Rule.{Decides}
use Rattle.spill_proof.specs.Step.{spill_debug}
use Rattle.spill_proof.proofs.Agree.{homes_same}
use Rattle.spill_proof.specs.Causes.{IsAscending}
use Rattle.spill_proof.proofs.Causes.{same_spilling}
use Rattle.spill_proof.proofs.Left.{same_reasons}
use Rattle.spill_proof.proofs.Standing.{among, standing}
use Rattle.spill_proof.specs.Kept.{AreTaken}

-- ---- lists

none_in : {X : Type 0} (xs : List X) (x : X) → xs ≡ [] → Contains xs x → ⊥
none_in [] x e (k, lt, is) = omega (arith, lt)
none_in (y ∷ ys) x e k = cc

-- each of one list comes before each of another, and both are in order
all_joined : {X : Type 0} (P : X → Type 0) (xs ys : List X) → All P xs → All P ys → All P (xs ++ ys)
all_joined P xs ys a b = all_of P (xs ++ ys) (λ x k. elim (Contains-append_cases xs ys x k) [
  | inl h ↦ All-contains P xs x a h
  | inr h ↦ All-contains P ys x b h
])

pairs_joined : {X : Type 0} (R : X → X → Type 0) (xs ys : List X) → AllPairs R xs → AllPairs R ys → ((x : X) → Contains xs x → All (R x) ys) →
    AllPairs R (xs ++ ys)
pairs_joined R [] ys a b across = b
pairs_joined R (x ∷ xs) ys a b across =
    AllPairs-cons R x (xs ++ ys) (all_joined (R x) xs ys (λ i d lt. a zero (suc i) d (omega arith) (omega (arith, lt))) (across x (0, omega arith, refl)))
    (pairs_joined R xs ys (λ i j d lt within. a (suc i) (suc j) d (omega (arith, lt)) (omega (arith, within))) b
    (λ y k. across y (suc k.0, (let lt = k.1 in omega (arith, lt)), k.2)))

-- ---- registers that are left

module _ (why : ℕ → Option Reason) where
  abbrev left : List ℕ → List Loss
  left rs = filter_map (λ r. loss_for r (why r)) rs

  -- what is told of a register
  record IsTold (rs : List ℕ) (loss : Loss) : Type 0 where
    register : ℕ
    reason : Reason
    reserved : Contains rs register
    because : why register ≡ Some reason
    is : loss ≡ register_lost register reason

  told_later : (r : ℕ) (rs : List ℕ) (loss : Loss) → IsTold rs loss → IsTold (r ∷ rs) loss
  told_later r rs loss h = record {
    register = h.register;
    reason = h.reason;
    reserved = (let k = h.reserved in (suc k.0, (let lt = k.1 in omega (arith, lt)), k.2));
    because = h.because;
    is = h.is;
  }

  told_of : (rs : List ℕ) (loss : Loss) → Contains (left rs) loss → IsTold rs loss
  told_of [] loss (k, lt, e) = absurd (omega (arith, lt))
  told_of (r ∷ rs) loss k = by_reason (why r) refl k (told_of rs loss) where
    by_reason : (o : Option Reason) → why r ≡ o → Contains (cons_option (loss_for r o) (left rs)) loss → (Contains (left rs) loss → IsTold rs loss) →
        IsTold (r ∷ rs) loss
    by_reason None e h more = told_later r rs loss (more h)
    by_reason (Some z) e (zero, lt, is) more = record { register = r; reason = z; reserved = (0, omega arith, refl); because = e; is = sym is }
    by_reason (Some z) e (suc n, lt, is) more = told_later r rs loss (more (n, omega (arith, lt), is))

  more_left : (o : Option Loss) (ls : List Loss) (l : Loss) → Contains ls l → Contains (cons_option o ls) l
  more_left None ls l h = h
  more_left (Some x) ls l (k, lt, e) = (suc k, omega (arith, lt), e)

  of_register : (rs : List ℕ) (r : ℕ) (z : Reason) → Contains rs r → why r ≡ Some z → Contains (left rs) (register_lost r z)
  of_register [] r z (k, lt, e) is = absurd (omega (arith, lt))
  of_register (q ∷ rs) r z (zero, lt, e) is =
      let here : loss_for q (why q) ≡ Some (register_lost r z) = ap (λ (n : ℕ). loss_for n (why n)) e ∙ ap (loss_for r) is in
      subst (λ (o : Option Loss). Contains (cons_option o (left rs)) (register_lost r z)) (sym here) (0, omega arith, refl)
  of_register (q ∷ rs) r z (suc k, lt, e) is =
      more_left (loss_for q (why q)) (left rs) (register_lost r z) (of_register rs r z (k, omega (arith, lt), e) is)

  -- they are told in the order of the registers
  later_told : (r : ℕ) (z : Reason) (rs : List ℕ) → ((s : ℕ) → Contains rs s → r < s) → All (LossComesBefore (register_lost r z)) (left rs)
  later_told r z rs above = all_of (LossComesBefore (register_lost r z)) (left rs) (λ l k.
      (let t = told_of rs l k in subst (LossComesBefore (register_lost r z)) (sym t.is) (inl (above t.register t.reserved))))

  left_ordered : (rs : List ℕ) → IsAscending rs → IsInOrder (left rs)
  left_ordered [] up = λ i j d lt within. absurd (omega (arith, within))
  left_ordered (r ∷ rs) up = by_reason (why r) (left_ordered rs (λ i j d lt within. up (suc i) (suc j) d (omega (arith, lt)) (omega (arith, within)))) where
    above : (s : ℕ) → Contains rs s → r < s
    above s (k, lt, e) = subst (λ (n : ℕ). r < n) e (up zero (suc k) s (omega arith) (omega (arith, lt)))

    by_reason : (o : Option Reason) → IsInOrder (left rs) → IsInOrder (cons_option (loss_for r o) (left rs))
    by_reason None more = more
    by_reason (Some z) more = AllPairs-cons LossComesBefore (register_lost r z) (left rs) (later_told r z rs above) more

-- what is lost to a scratch register comes before each register that is left
before_registers : (s : Spilling) (x : ItemKind) (o : Origin) (loss : Loss) (r : ℕ) (z : Reason) → LosesScratch s x o loss → LossComesBefore loss
    (register_lost r z)
before_registers s (Mark v (At q)) o loss r z (e, is) = subst (λ (l : Loss). LossComesBefore l (register_lost r z)) (sym is) (inl tt)
before_registers s (Phi (Some (Register q)) k) o loss r z (e, is) = subst (λ (l : Loss). LossComesBefore l (register_lost r z)) (sym is) (inl tt)
before_registers s (Mark v Nothing) o loss r z h = absurd h
before_registers s (Mark v (Constant n)) o loss r z h = absurd h
before_registers s (Mark v (Pair q)) o loss r z h = absurd h
before_registers s (Phi None k) o loss r z h = absurd h
before_registers s (Phi (Some (Slot n)) k) o loss r z h = absurd h
before_registers s (Phi (Some (Const n)) k) o loss r z h = absurd h
before_registers s (Code i k) o loss r z h = absurd h

module _ (reserve : List ℕ) (live : ℕ → Bool) (f : Function) (subs : List DebugSubstitution) (new : Function) (decides : Decides reserve f live)
    (sound : IsSound f)
    (scratch : List Loss) where
  abbrev c : Change
  c = change f subs new subs

  abbrev rule : Rule
  rule = spill_debug reserve

  abbrev homes : List SlotAssignment
  homes = homes_of reserve live f

  abbrev s : Spilling
  s = spilling_of reserve live f

  abbrev why : ℕ → Option Reason
  why r = why_left f live homes r

  -- what is lost to scratch registers, by whether some register is spilled
  none_taken : (hs : List SlotAssignment) → AreTaken hs s f.blocks scratch → hs ≡ [] → scratch ≡ []
  none_taken [] taken e = taken
  none_taken (h ∷ hs) taken e = cc

  all_taken : (hs : List SlotAssignment) → AreTaken hs s f.blocks scratch → (hs ≡ [] → ⊥) → AreScratchLosses s f.blocks scratch
  all_taken [] taken some = absurd (some refl)
  all_taken (h ∷ hs) taken some = taken.1

  taken_ordered : (hs : List SlotAssignment) → AreTaken hs s f.blocks scratch → IsInOrder scratch
  taken_ordered [] taken = subst IsInOrder (sym taken) (λ i j d lt within. absurd (omega (arith, within)))
  taken_ordered (h ∷ hs) taken = taken.0

  module _ (taken : AreTaken homes s f.blocks scratch) where
    -- each of them is of an item, and some register is spilled
    taken_from : (hs : List SlotAssignment) → homes ≡ hs → (loss : Loss) → Contains scratch loss →
        (homes ≡ [] → ⊥) × ((i : Item) × Contains (items_of f.blocks) i × LosesScratch s i.kind i.origin loss)
    taken_from [] e loss k = absurd (none_in scratch loss (none_taken homes taken e) k)
    taken_from (h ∷ hs) e loss k =
        let some : homes ≡ [] → ⊥ = λ none. (let bad : h ∷ hs ≡ [] = sym e ∙ none in cc) in
        (some, (all_taken homes taken some loss).0 k)

    scratch_said : (loss : Loss) → Contains scratch loss → IsLoss rule c loss
    scratch_said loss k =
        let w = taken_from homes refl loss k in
        let at = standing f sound.blocks_apart w.1.0 w.1.1 in
        inl (at.0, (live, record { decides = decides; some = w.0; item = w.1.0; stands = at.1; lost = w.1.2 }))

    left_said : (loss : Loss) → Contains (registers_left reserve live f) loss → IsLoss rule c loss
    left_said loss k =
        let t = told_of why reserve loss k in
        inr (t.register, t.reason, t.is, (live, record { decides = decides; reserved = t.reserved; reason = t.because }))

    pub said : All (IsLoss rule c) (scratch ++ registers_left reserve live f)
    said = all_of (IsLoss rule c) (scratch ++ registers_left reserve live f) (λ l k.
        elim (Contains-append_cases scratch (registers_left reserve live f) l k) [ inl h ↦ scratch_said l h | inr h ↦ left_said l h ])

    pub told : (loss : Loss) → IsLoss rule c loss → Contains (scratch ++ registers_left reserve live f) loss
    told loss (inl (at, (live', h))) =
        let same = homes_same reserve f live' live h.decides decides in
        let some : homes ≡ [] → ⊥ = λ none. h.some (same ∙ none) in
        let here = subst (λ (t : Spilling). LosesScratch t h.item.kind h.item.origin loss) (same_spilling reserve f live live' decides h.decides) h.lost in
        Contains-append_left scratch (registers_left reserve live f) loss
        ((all_taken homes taken some loss).1 (h.item, among f at h.item h.stands, here))
    told loss (inr (r, z, is, (live', h))) =
        subst (Contains (scratch ++ registers_left reserve live f)) (sym is)
        (Contains-append_right scratch (registers_left reserve live f) (register_lost r z)
        (of_register why reserve r z h.reserved (same_reasons reserve live live' f decides h.decides r h.reserved ∙ h.reason)))

    pub ordered : IsAscending reserve → IsInOrder (scratch ++ registers_left reserve live f)
    ordered up = pairs_joined LossComesBefore scratch (registers_left reserve live f) (taken_ordered homes taken) (left_ordered why reserve up)
        (λ l k. (let w = (taken_from homes refl l k).1 in
        all_of (LossComesBefore l) (registers_left reserve live f) (λ m j. (let t = told_of why reserve m j in
        subst (LossComesBefore l) (sym t.is) (before_registers s w.0.kind w.0.origin l t.register t.reason w.2)))))
