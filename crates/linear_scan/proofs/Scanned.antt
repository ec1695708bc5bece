-- The pass's two steps together.
use Rattle.std.proofs.Common.{◌≡◌, ℕ, ◌+◌, ◌<◌, ◌^◌, List, ◌++◌, sym, subst, arith}
use Rattle.mir_func.specs.declared.debug_substitution.DebugSubstitution.{DebugSubstitution}
use Rattle.mir_func.specs.Function.{Function}
use Rattle.mir_func.specs.Limits.{MAX_SLOTS}
use Rattle.mir_func.specs.Sound.{AllItems, HasForm, IsSound}
use Rattle.pass_trait.specs.declared.loss.Loss.{Loss}
use Rattle.pass_trait.specs.Change.{change}
use Rattle.pass_trait.specs.Sizes.{greatest, greatest_number, item_count, KeepsSizes}
use Rattle.scan_allot.specs.Laws.{AllottedKeepsSizes}
use Rattle.scan_pass.specs.scan_intervals.declared.interval.LiveInterval.{LiveInterval}
use Rattle.scan_allot.specs.scan_liveness.Liveness.{IsLiveness}
use Rattle.scan_allot.specs.Rewrite.{allotted}
use Rattle.scan_settle.specs.Rule.{AreLeft}
use Rattle.scan_settle.specs.Settled.{IsSettledWithLosses}
use Rattle.scan_pass.specs.Scanned.{IsScanned}
use Rattle.linear_scan.specs.Allotted.{IsAllottedWithLosses}

pub are_left : (f : Function) (intervals : List LiveInterval) (masks : List ℕ) → IsLiveness f intervals masks → AreLeft f intervals
are_left f intervals masks l = record { live = l.live; decides = l.decides; are = l.are }

-- what the second step is of a function
record Both (intervals : List LiveInterval) (subs : List DebugSubstitution) (new : Function) (scratch : List Loss) (g : Function) : Type 0 where
  left : AreLeft g intervals
  settled : IsSettledWithLosses intervals g subs new scratch

module _ (reserve : List ℕ) (f : Function) (subs : List DebugSubstitution) (mid : Function) (wrong : List Loss)
    (a : IsAllottedWithLosses reserve f subs mid wrong) where
  -- the first step keeps sizes
  pub sizes_mid : AllottedKeepsSizes → IsSound f → AllItems (λ i. HasForm i.kind) f.blocks → KeepsSizes 1 0 (change f subs mid subs)
  sizes_mid law sound forms =
      subst (λ (g : Function). KeepsSizes 1 0 (change f subs g subs)) (sym a.made)
      (law reserve f subs a.given a.silent (record { sound = sound; forms = forms; allocation = a.allocation; decides = a.decides }))

  module _ (sizes : KeepsSizes 1 0 (change f subs mid subs)) where
    pub few_items : item_count f < 2 ^ 31 → item_count mid < 2 ^ 31
    few_items lt = let items = sizes.items in omega (arith, lt, items)

    pub low_numbers : greatest_number f subs + item_count f + 1 < 2 ^ 31 → greatest_number mid subs + item_count mid + 1 < 2 ^ 31
    low_numbers lt = let items = sizes.items in let numbers = sizes.numbers in omega (arith, lt, items, numbers)

    pub low_slots : greatest f.slots + MAX_SLOTS < 2 ^ 31 → greatest mid.slots + MAX_SLOTS < 2 ^ 31
    low_slots lt = let slots = sizes.slots in omega (arith, lt, slots)

  -- both steps
  pub scanned : (intervals : List LiveInterval) → AreLeft mid intervals → (new : Function) (scratch losses : List Loss) →
      IsSettledWithLosses intervals mid subs new scratch → losses ≡ wrong ++ scratch → IsScanned reserve f subs new losses
  scanned intervals left new scratch losses settled are = record {
    given = a.given;
    allocation = a.allocation;
    silent = a.silent;
    decides = a.decides;
    wrong = wrong;
    ordered = a.ordered;
    silenced = a.silenced;
    intervals = intervals;
    left = both.left;
    scratch = scratch;
    taken = both.settled.taken;
    made = both.settled.made;
    are = are;
  } where
    both : Both intervals subs new scratch (allotted a.given a.silent f)
    both = subst (Both intervals subs new scratch) a.made (record { left = left; settled = settled })
