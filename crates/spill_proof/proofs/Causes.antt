-- The causes of what spilling loses.
use Rattle.std.proofs.Common.{◌≡◌, ◌⊎◌, inl, inr, ℕ, suc, ◌+◌, ◌<◌, ◌≤◌, List, [], ◌∷◌, ◌++◌, map, length, Contains, Option, Some, None}
use Rattle.std.proofs.Common.{Bool, true, false, cond, ◌&&◌, ◌||◌, nat_eq, nat_lt, eqb-true, eq-eqb, lt-ltb, refl, sym, ap, ◌∙◌, subst, arith}
use Rattle.std.proofs.lemmas.Bool.{cases_lt, and_parts}
use Rattle.std.proofs.lemmas.Option.{slice_get-get_or}
use Rattle.rv64_instr.specs.declared.place.Place.TheVariants.{Register, Slot, Const}
use Rattle.mir_func.specs.declared.debug_substitution.DebugSubstitution.{DebugSubstitution}
use Rattle.mir_func.specs.declared.item.Item.{Item}
use Rattle.mir_func.specs.declared.item.ItemKind.{ItemKind}
use Rattle.mir_func.specs.declared.item.ItemKind.TheVariants.{Code, Mark, Phi}
use Rattle.mir_func.specs.declared.position.Pos.{Pos}
use Rattle.mir_func.specs.declared.variable.MarkValue.TheVariants.{Nothing, Constant, At, Pair}
use Rattle.mir_func.specs.Function.{Function}
use Rattle.mir_func.specs.Positions.{position_of}
use Rattle.pass_trait.specs.declared.loss.Loss.{Loss}
use Rattle.pass_trait.specs.declared.loss.Lost.TheVariants as lost
use Rattle.pass_trait.specs.declared.loss.Reason.TheVariants.{NoScratch, CallNamed, EntryLoop}
use Rattle.pass_trait.specs.Causes.{is_named, scratch_of, AsksFor, IsLostWith, HasNewSlot, HasCause, taken_as_scratch}
use Rattle.pass_trait.specs.Change.{Change}
use Rattle.pass_trait.specs.Rule.{StandsAt}
use Rattle.spill_code.specs.declared.spilling.SlotAssignment.{SlotAssignment}
use Rattle.spill_code.specs.declared.spilling.Spilling.{Spilling}
use Rattle.spill_code.specs.Rewrite.{slot_of}
use Rattle.spill_debug.specs.RewrittenDebugItems.{is_scratch}
use Rattle.spill_debug.specs.Lost.{LosesScratch, is_silent}
use Rattle.spill_select.specs.spill_rule.Choice.{lacks_scratch, is_bound, is_looped, reason_of, is_free, candidates, room, chosen, next_slot, homes_from, homes_of}
use Rattle.spill_select.specs.spill_rule.Choice.{first_scratch, second_scratch, spilling_of, entry_of}
use Rattle.spill_select.specs.spill_rule.Rule.{Decides}
use Rattle.spill_select.proofs.spill_rule.Scratch.{kept_by}
use Rattle.spill_select.specs.spill_rule.Laws.{from_take}
use Rattle.spill_proof.specs.Whole.{spilled_by, where_spilled, whole}
use Rattle.spill_proof.proofs.Slots.{below_next}
use Rattle.spill_proof.specs.Step.{spill_debug}
use Rattle.spill_proof.proofs.Agree.{homes_same}
use Rattle.spill_proof.specs.Causes.{spilling_of_all, LossesHaveCauses, NewSlotsAreNew}

-- ---- slots

pub in_left : (xs ys : List ℕ) (n : ℕ) → Contains ys n → Contains (xs ++ ys) n
in_left [] ys n k = k
in_left (x ∷ xs) ys n k = let w = in_left xs ys n k in (suc w.0, (let lt = w.1 in omega (arith, lt)), w.2)

pub home_slot : (m : ℕ) (rs : List ℕ) (r n : ℕ) → slot_of (homes_from m rs) r ≡ Some n →
    Contains (map (λ (h : SlotAssignment). h.slot) (homes_from m rs)) n × (m ≤ n)
home_slot m [] r n e = (let bad : ◌≡◌ {A = Option ℕ} None (Some n) = e in cc)
home_slot m (q ∷ rs) r n e = by_test (nat_eq q r) e (home_slot (m + 1) rs r n) where
  by_test : (z : Bool) → cond z (Some m) (slot_of (homes_from (m + 1) rs) r) ≡ Some n →
      (slot_of (homes_from (m + 1) rs) r ≡ Some n → Contains (map (λ (h : SlotAssignment). h.slot) (homes_from (m + 1) rs)) n × (m + 1 ≤ n)) →
      Contains (map (λ (h : SlotAssignment). h.slot) (homes_from m (q ∷ rs))) n × (m ≤ n)
  by_test true is more = let same : m ≡ n = cc in ((0, omega arith, same), omega (arith, same))
  by_test false is more = let w = more is in let k = w.0 in ((suc k.0, (let lt = k.1 in omega (arith, lt)), k.2), (let le = w.1 in omega (arith, le)))

pub below : (ns : List ℕ) (n : ℕ) → Contains ns n → n < next_slot ns
below ns n (k, lt, e) = below_next ns k n (slice_get-get_or ns k n lt ∙ ap Some e)

module _ (reserve : List ℕ) (live : ℕ → Bool) (k : ℕ) (f : Function) where
  abbrev homes : List SlotAssignment
  homes = homes_of reserve live f

  abbrev s : Spilling
  s = spilling_of reserve live f

  no_home : (r n : ℕ) → homes ≡ [] → slot_of homes r ≡ Some n → ⊥
  no_home r n none e = (let bad : ◌≡◌ {A = Option ℕ} None (Some n) = sym (ap (λ (hs : List SlotAssignment). slot_of hs r) none) ∙ e in cc)

  slots_by : (hs : List SlotAssignment) → homes ≡ hs → (n : ℕ) → (homes ≡ [] → ⊥) → Contains (map (λ (h : SlotAssignment). h.slot) homes) n →
      Contains (where_spilled hs f (spilled_by s (entry_of live homes) k f)).slots n
  slots_by [] e n some c = absurd (some e)
  slots_by (h ∷ hs) e n some c = in_left f.slots (map (λ (h : SlotAssignment). h.slot) homes) n c

  new_slot : (r n : ℕ) → slot_of homes r ≡ Some n → Contains (whole reserve live k f).slots n × (Contains f.slots n → ⊥)
  new_slot r n e =
      let w = home_slot (next_slot f.slots) (chosen reserve live f) r n e in (
        slots_by homes refl n (λ none. no_home r n none e) w.0,
        λ old. (let lt = below f.slots n old in let le = w.1 in omega (arith, lt, le)),
      )

  -- ---- scratch registers

  enough : (homes ≡ [] → ⊥) → 2 ≤ length (scratch_of f)
  enough some = by_chosen (chosen reserve live f) refl where
    not_less : (a b : ℕ) → nat_lt a b ≡ false → b ≤ a
    not_less a b e = elim (cases_lt a b) as (λ _. b ≤ a) [
      | inl lt ↦ (let bad : false ≡ true = sym e ∙ lt-ltb a b lt in cc)
      | inr ge ↦ ge
    ]

    free_scratch : (a b d : Bool) → is_free (cond a (Some NoScratch) (cond b (Some CallNamed) (cond d (Some EntryLoop) None))) ≡ true → a ≡ false
    free_scratch true b d e = cc
    free_scratch false b d e = refl

    by_chosen : (rs : List ℕ) → chosen reserve live f ≡ rs → 2 ≤ length (scratch_of f)
    by_chosen [] e = absurd (some (ap (homes_from (next_slot f.slots)) e))
    by_chosen (r ∷ rs) e =
        let there : Contains (chosen reserve live f) r = subst (λ (xs : List ℕ). Contains xs r) (sym e) (0, omega arith, refl) in
        let passes = (kept_by (λ r. is_named f r && is_free (reason_of f live r)) reserve r (from_take (room f) (candidates reserve live f) r there)).1 in
        not_less (length (scratch_of f)) 2
        (free_scratch (lacks_scratch f) (is_bound f r) (live r && is_looped f) (and_parts (is_named f r) (is_free (reason_of f live r)) passes).1)

  first_in : (xs : List ℕ) → 2 ≤ length xs → Contains xs (first_scratch xs)
  first_in [] le = absurd (omega (arith, le))
  first_in (a ∷ rest) le = (0, omega arith, refl)

  second_in : (xs : List ℕ) → 2 ≤ length xs → Contains xs (second_scratch xs)
  second_in [] le = absurd (omega (arith, le))
  second_in (a ∷ []) le = absurd (omega (arith, le))
  second_in (a ∷ b ∷ rest) le = (1, omega arith, refl)

  or_cases : (a b : Bool) → (a || b) ≡ true → (a ≡ true) ⊎ (b ≡ true)
  or_cases true b e = inl refl
  or_cases false b e = inr e

  in_scratch : (homes ≡ [] → ⊥) → (r : ℕ) → is_scratch s r ≡ true → Contains (scratch_of f) r
  in_scratch some r e = elim (or_cases (nat_eq r s.first) (nat_eq r s.second) e) [
    | inl h ↦ subst (Contains (scratch_of f)) (sym (eqb-true r s.first h)) (first_in (scratch_of f) (enough some))
    | inr h ↦ subst (Contains (scratch_of f)) (sym (eqb-true r s.second h)) (second_in (scratch_of f) (enough some))
  ]

  silent_scratch : (r : ℕ) (home : Option ℕ) → is_silent s r home ≡ true → is_scratch s r ≡ true
  silent_scratch r None e = e
  silent_scratch r (Some n) e = cc

  module _ (subs : List DebugSubstitution) where
    abbrev c : Change
    c = spilling_of_all reserve live k f subs

    some_slot : (homes ≡ [] → ⊥) → HasNewSlot c
    some_slot some = by_chosen (chosen reserve live f) refl where
      by_chosen : (rs : List ℕ) → chosen reserve live f ≡ rs → HasNewSlot c
      by_chosen [] e = absurd (some (ap (homes_from (next_slot f.slots)) e))
      by_chosen (r ∷ rs) e =
          let at : slot_of homes r ≡ Some (next_slot f.slots) = ap (λ (xs : List ℕ). slot_of (homes_from (next_slot f.slots) xs) r) e ∙
          ap (λ (z : Bool). cond z (Some (next_slot f.slots)) (slot_of (homes_from (next_slot f.slots + 1) rs) r)) (eq-eqb r r refl) in
          let w = new_slot r (next_slot f.slots) at in
          (next_slot f.slots, w.0, w.1)

    cause_by : (some : homes ≡ [] → ⊥) (at : Pos) (i : Item) (kind : ItemKind) (loss : Loss) → i.kind ≡ kind → StandsAt f at i → LosesScratch s kind i.origin
        loss →
        HasCause (spill_debug reserve) c at loss
    cause_by some at i (Mark v (At r)) loss is there (source_end, e) =
        subst (HasCause (spill_debug reserve) c at) (sym e)
        (taken_as_scratch {i = i} {r = r} {what = lost.Mark (position_of i.origin)} there
        (subst (λ (x : ItemKind). IsLostWith x i.origin (lost.Mark (position_of i.origin))) (sym is) refl)
        (subst (AsksFor (Register r)) (sym is) refl) (in_scratch some r (silent_scratch r (slot_of homes r) source_end)) (some_slot some))
    cause_by some at i (Phi (Some (Register r)) n) loss is there (source_end, e) =
        subst (HasCause (spill_debug reserve) c at) (sym e)
        (taken_as_scratch {i = i} {r = r} {what = lost.Number n} there
        (subst (λ (x : ItemKind). IsLostWith x i.origin (lost.Number n)) (sym is) refl)
        (subst (AsksFor (Register r)) (sym is) refl) (in_scratch some r source_end) (some_slot some))
    cause_by some at i (Mark v Nothing) loss is there h = absurd h
    cause_by some at i (Mark v (Constant z)) loss is there h = absurd h
    cause_by some at i (Mark v (Pair q)) loss is there h = absurd h
    cause_by some at i (Phi None n) loss is there h = absurd h
    cause_by some at i (Phi (Some (Slot m)) n) loss is there h = absurd h
    cause_by some at i (Phi (Some (Const z)) n) loss is there h = absurd h
    cause_by some at i (Code j n) loss is there h = absurd h

-- and the same registers are spilled, with the same scratch registers
pub same_spilling : (reserve : List ℕ) (f : Function) (live live' : ℕ → Bool) → Decides reserve f live → Decides reserve f live' →
    spilling_of reserve live' f ≡ spilling_of reserve live f
same_spilling reserve f live live' d d' i = record {
  first = first_scratch (scratch_of f);
  second = second_scratch (scratch_of f);
  homes = homes_same reserve f live' live d' d i;
}

pub losses_have_causes : LossesHaveCauses
losses_have_causes reserve live k f subs decides at loss (live', h) =
    let same = homes_same reserve f live' live h.decides decides in
    cause_by reserve live k f subs (λ none. h.some (same ∙ none)) at h.item h.item.kind loss refl h.stands
    (subst (λ (t : Spilling). LosesScratch t h.item.kind h.item.origin loss) (same_spilling reserve f live live' decides h.decides) h.lost)

pub new_slots_are_new : NewSlotsAreNew
new_slots_are_new reserve live k f subs decides r slot (live', d, e) =
    new_slot reserve live k f r slot (ap (λ (hs : List SlotAssignment). slot_of hs r) (sym (homes_same reserve f live' live d decides)) ∙ e)
