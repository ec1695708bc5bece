-- The causes of what the step loses, and the new slots.
use Rattle.std.proofs.Common.{◌≡◌, ◌⊎◌, inl, inr, ℕ, ◌≤◌, List, [], ◌∷◌, map, length, Contains, Option, Some, None}
use Rattle.std.proofs.Common.{Bool, true, false, ◌||◌, nat_eq, eqb-true, eq-eqb, cond, refl, sym, ap, ◌∙◌, subst, arith}
use Rattle.rv64_instr.specs.declared.place.Place.TheVariants.{Register, Slot, Const}
use Rattle.mir_func.specs.declared.debug_substitution.DebugSubstitution.{DebugSubstitution}
use Rattle.mir_func.specs.declared.item.Item.{Item}
use Rattle.mir_func.specs.declared.item.ItemKind.{ItemKind}
use Rattle.mir_func.specs.declared.item.ItemKind.TheVariants.{Code, Mark, Phi}
use Rattle.mir_func.specs.declared.position.Pos.{Pos}
use Rattle.mir_func.specs.declared.variable.MarkValue.TheVariants.{Nothing, Constant, At, Pair}
use Rattle.mir_func.specs.Function.{Function}
use Rattle.mir_func.specs.Positions.{position_of}
use Rattle.pass_trait.specs.declared.loss.Loss.{Loss}
use Rattle.pass_trait.specs.declared.loss.Lost.TheVariants as lost
use Rattle.pass_trait.specs.Causes.{scratch_of, AsksFor, IsLostWith, HasNewSlot, HasCause, taken_as_scratch}
use Rattle.pass_trait.specs.Change.{Change, change}
use Rattle.pass_trait.specs.Rule.{StandsAt}
use Rattle.spill_code.specs.declared.spilling.SlotAssignment.{SlotAssignment}
use Rattle.spill_code.specs.declared.spilling.Spilling.{Spilling}
use Rattle.spill_code.specs.Rewrite.{slot_of}
use Rattle.scan_rule.specs.spill_debug.RewrittenDebugItems.{is_scratch}
use Rattle.scan_rule.specs.spill_debug.Lost.{LosesScratch, is_silent}
use Rattle.scan_rule.specs.spill_proof.Whole.{spilled_by, where_spilled}
use Rattle.scan_rule.proofs.spill_proof.Causes.{in_left, home_slot, below}
use Rattle.scan_rule.specs.spill_rule.Choice.{next_slot, first_scratch, second_scratch}
use Rattle.scan_rule.specs.scan_intervals.declared.interval.LiveInterval.{LiveInterval}
use Rattle.scan_slots.specs.Choice.{stays, all_homes, homes_unless, homes_left, settling_of, settled_whole}
use Rattle.scan_slots.specs.Rule.{AreLeft}
use Rattle.scan_slots.specs.Step.{settle_debug}
use Rattle.scan_slots.proofs.MaySettle.{home_is, enough}
use Rattle.scan_slots.proofs.One.{one_left}

first_in : (xs : List ℕ) → 2 ≤ length xs → Contains xs (first_scratch xs)
first_in [] le = absurd (omega (arith, le))
first_in (a ∷ rest) le = (0, omega arith, refl)

second_in : (xs : List ℕ) → 2 ≤ length xs → Contains xs (second_scratch xs)
second_in [] le = absurd (omega (arith, le))
second_in (a ∷ []) le = absurd (omega (arith, le))
second_in (a ∷ b ∷ rest) le = (1, omega arith, refl)

or_cases : (a b : Bool) → (a || b) ≡ true → (a ≡ true) ⊎ (b ≡ true)
or_cases true b e = inl refl
or_cases false b e = inr e

silent_scratch : (s : Spilling) (r : ℕ) (home : Option ℕ) → is_silent s r home ≡ true → is_scratch s r ≡ true
silent_scratch s r None e = e
silent_scratch s r (Some n) e = cc

by_stays : (z : Bool) (hs : List SlotAssignment) → (homes_unless z hs ≡ [] → ⊥) → z ≡ false
by_stays true hs some = absurd (some refl)
by_stays false hs some = refl

-- the first of some homes is found by its register
first_home : (hs : List SlotAssignment) → (hs ≡ [] → ⊥) → (r : ℕ) × (n : ℕ) × (slot_of hs r ≡ Some n)
first_home [] some = absurd (some refl)
first_home (h ∷ hs) some = (h.register, h.slot, ap (λ (z : Bool). cond z (Some h.slot) (slot_of hs h.register)) (eq-eqb h.register h.register refl))

module _ (intervals : List LiveInterval) (k : ℕ) (f : Function) (subs : List DebugSubstitution) (left : AreLeft f intervals) where
  abbrev homes : List SlotAssignment
  homes = homes_left f intervals

  abbrev s : Spilling
  s = settling_of f intervals

  abbrev c : Change
  c = change f subs (settled_whole intervals k f) subs

  slots_by : (hs : List SlotAssignment) → homes ≡ hs → (n : ℕ) → (homes ≡ [] → ⊥) → Contains (map (λ (h : SlotAssignment). h.slot) homes) n →
      Contains (where_spilled hs f (spilled_by s [] k f)).slots n
  slots_by [] e n some m = absurd (some e)
  slots_by (h ∷ hs) e n some m = in_left f.slots (map (λ (h : SlotAssignment). h.slot) homes) n m

  no_home : (r n : ℕ) → homes ≡ [] → slot_of homes r ≡ Some n → ⊥
  no_home r n none e = (let bad : ◌≡◌ {A = Option ℕ} None (Some n) = sym (ap (λ (hs : List SlotAssignment). slot_of hs r) none) ∙ e in cc)

  -- each register that gets a slot has one that the function has now, and hadn't before
  pub new_slot : (r n : ℕ) → slot_of homes r ≡ Some n → Contains (settled_whole intervals k f).slots n × (Contains f.slots n → ⊥)
  new_slot r n e =
      let is = home_is f intervals left r n e in
      let w = home_slot (next_slot f.slots) (map (λ (i : LiveInterval). i.register) intervals) r n is.1 in
      let all : homes ≡ all_homes f intervals = ap (λ (z : Bool). homes_unless z (all_homes f intervals)) is.0 in (
        slots_by homes refl n (λ none. no_home r n none e)
            (subst (λ (hs : List SlotAssignment). Contains (map (λ (h : SlotAssignment). h.slot) hs) n) (sym all) w.0),
        λ old. (let lt = below f.slots n old in let le = w.1 in omega (arith, lt, le)),
      )

  some_slot : (homes ≡ [] → ⊥) → HasNewSlot c
  some_slot some =
      let h = first_home homes some in
      let w = new_slot h.0 h.1 h.2 in
      (h.1, w.0, w.1)

  in_scratch : (homes ≡ [] → ⊥) → (r : ℕ) → is_scratch s r ≡ true → Contains (scratch_of f) r
  in_scratch some r e =
      let two = enough f intervals left (by_stays (stays f intervals) (all_homes f intervals) some) in
      elim (or_cases (nat_eq r s.first) (nat_eq r s.second) e) [
        | inl h ↦ subst (Contains (scratch_of f)) (sym (eqb-true r s.first h)) (first_in (scratch_of f) two)
        | inr h ↦ subst (Contains (scratch_of f)) (sym (eqb-true r s.second h)) (second_in (scratch_of f) two)
      ]

  cause_by : (homes ≡ [] → ⊥) → (at : Pos) (i : Item) (kind : ItemKind) (loss : Loss) → i.kind ≡ kind → StandsAt f at i →
      LosesScratch s kind i.origin loss → HasCause settle_debug c at loss
  cause_by some at i (Mark v (At r)) loss is there (silent, e) =
      subst (HasCause settle_debug c at) (sym e)
      (taken_as_scratch {i = i} {r = r} {what = lost.Mark (position_of i.origin)} there
      (subst (λ (x : ItemKind). IsLostWith x i.origin (lost.Mark (position_of i.origin))) (sym is) refl)
      (subst (AsksFor (Register r)) (sym is) refl) (in_scratch some r (silent_scratch s r (slot_of homes r) silent)) (some_slot some))
  cause_by some at i (Phi (Some (Register r)) n) loss is there (silent, e) =
      subst (HasCause settle_debug c at) (sym e)
      (taken_as_scratch {i = i} {r = r} {what = lost.Number n} there
      (subst (λ (x : ItemKind). IsLostWith x i.origin (lost.Number n)) (sym is) refl)
      (subst (AsksFor (Register r)) (sym is) refl) (in_scratch some r silent) (some_slot some))
  cause_by some at i (Mark v Nothing) loss is there h = absurd h
  cause_by some at i (Mark v (Constant z)) loss is there h = absurd h
  cause_by some at i (Mark v (Pair q)) loss is there h = absurd h
  cause_by some at i (Phi None n) loss is there h = absurd h
  cause_by some at i (Phi (Some (Slot m)) n) loss is there h = absurd h
  cause_by some at i (Phi (Some (Const z)) n) loss is there h = absurd h
  cause_by some at i (Code j n) loss is there h = absurd h

  pub has_cause : (at : Pos) (loss : Loss) → settle_debug.loses c at loss → HasCause settle_debug c at loss
  has_cause at loss h =
      let same : h.intervals ≡ intervals = one_left f h.intervals intervals h.are left in
      cause_by (λ none. h.some (ap (λ (xs : List LiveInterval). homes_left f xs) same ∙ none)) at h.item h.item.kind loss refl h.stands
      (subst (λ (xs : List LiveInterval). LosesScratch (settling_of f xs) h.item.kind h.item.origin loss) same h.lost)

  pub is_new : (r slot : ℕ) → settle_debug.spills c r slot → Contains (settled_whole intervals k f).slots slot × (Contains f.slots slot → ⊥)
  is_new r slot (others, b, e) =
      new_slot r slot (ap (λ (xs : List LiveInterval). slot_of (homes_left f xs) r) (sym (one_left f others intervals b left)) ∙ e)
