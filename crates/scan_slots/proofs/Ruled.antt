-- The debug rule of the step is one of putting registers into slots.
use Rattle.std.proofs.Common.{◌≡◌, ℕ, ◌+◌, List, [], Option, Some, None, refl, sym, ap, ◌∙◌, subst}
use Rattle.mir_func.specs.declared.debug_substitution.DebugSubstitution.{DebugSubstitution}
use Rattle.mir_func.specs.declared.item.Item.{Item}
use Rattle.mir_func.specs.declared.item.ItemKind.{ItemKind}
use Rattle.mir_func.specs.declared.item.ItemKind.TheVariants.{Code, Mark, Phi}
use Rattle.mir_func.specs.declared.location.Loc.{Loc}
use Rattle.mir_func.specs.declared.position.Origin.{Origin}
use Rattle.mir_func.specs.declared.position.Pos.{Pos}
use Rattle.mir_func.specs.declared.variable.MarkValue.TheVariants.{Nothing, Constant, At, Pair}
use Rattle.mir_func.specs.Function.{Function}
use Rattle.mir_func.specs.Graph.{Here}
use Rattle.pass_trait.specs.declared.loss.Loss.{Loss}
use Rattle.pass_trait.specs.Change.{Change, change}
use Rattle.pass_trait.specs.Rule.{StandsAt, item}
use Rattle.pass_trait.specs.Sizes.{greatest_number}
use Rattle.spill_code.specs.declared.spilling.SlotAssignment.{SlotAssignment}
use Rattle.spill_code.specs.Rewrite.{slot_of}
use Rattle.scan_rule.specs.spill_debug.Lost.{LosesScratch}
use Rattle.scan_rule.specs.spill_proof.Step.{AsksForHome}
use Rattle.scan_rule.proofs.spill_proof.Ruled.{IsRuled}
use Rattle.scan_rule.specs.scan_intervals.declared.interval.LiveInterval.{LiveInterval}
use Rattle.scan_slots.specs.Choice.{homes_left, settling_of}
use Rattle.scan_slots.specs.Rule.{AreLeft}
use Rattle.scan_slots.specs.Step.{settle_debug}
use Rattle.scan_slots.proofs.One.{one_left}

no_home : (x : ItemKind) → AsksForHome [] x → ⊥
no_home (Mark v (At r)) (slot, e) = cc
no_home (Mark v Nothing) h = h
no_home (Mark v (Constant z)) h = h
no_home (Mark v (Pair q)) h = h
no_home (Code i k) h = h
no_home (Phi p k) h = h

module _ (intervals : List LiveInterval) (f : Function) (subs : List DebugSubstitution) (new : Function) (left : AreLeft f intervals) where
  abbrev c : Change
  c = change f subs new subs

  same_left : (others : List LiveInterval) → AreLeft f others → others ≡ intervals
  same_left others b = one_left f others intervals b left

  same_item : (at : Pos) (x y : Item) → StandsAt f at x → StandsAt f at y → x ≡ y
  same_item at x y h k = (let e : Here x ≡ Here y = sym h ∙ k in cc)

  loses_by : (at : Pos) (x : ItemKind) (o : Origin) (l : Loc) (loss : Loss) → StandsAt f at (item x o l) → settle_debug.loses c at loss →
      LosesScratch (settling_of f intervals) x o loss
  loses_by at x o l loss there h =
      let is : h.item ≡ item x o l = same_item at h.item (item x o l) h.stands there in
      subst (λ (xs : List LiveInterval). LosesScratch (settling_of f xs) x o loss) (same_left h.intervals h.are)
      (subst (λ (i : Item). LosesScratch (settling_of f h.intervals) i.kind i.origin loss) is h.lost)

  no_number : (at : Pos) (x : ItemKind) (o : Origin) (l : Loc) → StandsAt f at (item x o l) → (AsksForHome (homes_left f intervals) x → ⊥) → (n : ℕ) →
      settle_debug.numbers c at n → ⊥
  no_number at x o l there none n h =
      let is : h.item ≡ item x o l = same_item at h.item (item x o l) h.stands there in
      none (subst (λ (xs : List LiveInterval). AsksForHome (homes_left f xs) x) (same_left h.intervals h.are)
      (subst (λ (i : Item). AsksForHome (homes_left f h.intervals) i.kind) is h.asks))

  pub settle_is_ruled : IsRuled settle_debug c (settling_of f intervals) (greatest_number f subs + 1)
  settle_is_ruled = record {
    loses_by = loses_by;
    silenced = λ some at x o l loss there lost. record {
      intervals = intervals;
      are = left;
      some = some;
      item = item x o l;
      stands = there;
      lost = lost;
    };
    none_lost = λ empty at loss h. h.some (ap (λ (xs : List LiveInterval). homes_left f xs) (same_left h.intervals h.are) ∙ empty);
    no_number = no_number;
    numbered = λ at x o l n there asks is. record {
      intervals = intervals;
      are = left;
      item = item x o l;
      stands = there;
      asks = asks;
      is = is;
    };
    none_numbered = λ empty at n h. no_home h.item.kind
        (subst (λ (hs : List SlotAssignment). AsksForHome hs h.item.kind)
        (ap (λ (xs : List LiveInterval). homes_left f xs) (same_left h.intervals h.are) ∙ empty) h.asks);
    register_stays = λ r none. (
      λ slot (others, b, e). (let bad : ◌≡◌ {A = Option ℕ} None (Some slot) = sym none ∙
          ap (λ (xs : List LiveInterval). slot_of (homes_left f xs) r) (sym (same_left others b)) ∙ e in cc),
      λ now h. h,
    );
    spilled_at = λ r slot e. (intervals, left, e);
    no_kills = λ block. refl;
  }
