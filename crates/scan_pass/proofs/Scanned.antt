-- Both steps together.
use Rattle.std.proofs.Common.{ℕ, ◌+◌, ◌*◌, ◌≤◌, List, [], ◌++◌, Option}
use Rattle.std.proofs.Common.{Bool, true, false, append-nil, inl, inr, refl, sym, ◌∙◌, subst, arith}
use Rattle.mir_func.specs.declared.debug_substitution.DebugSubstitution.{DebugSubstitution}
use Rattle.mir_func.specs.declared.item.ItemKind.{ItemKind}
use Rattle.mir_func.specs.declared.item.ItemKind.TheVariants.{Code, Mark, Phi}
use Rattle.mir_func.specs.Function.{Function}
use Rattle.mir_func.specs.Graph.{block_start, program_of}
use Rattle.mir_func.specs.Limits.{MAX_BLOCKS, MAX_SLOTS}
use Rattle.mir_func.specs.Resolve.{resolve}
use Rattle.mir_func.specs.Sound.{AllItems, HasForm, IsSound}
use Rattle.sem_mir.specs.InitialState.{first_of}
use Rattle.pass_trait.specs.declared.loss.Loss.{Loss}
use Rattle.pass_trait.specs.Change.{change}
use Rattle.pass_trait.specs.Simulation.{PreservesSimulation}
use Rattle.pass_trait.specs.Sizes.{greatest, greatest_number, item_count, code_count, call_count, KeepsSizes}
use Rattle.pass_trait.specs.Steps.{KeepsSteps}
use Rattle.spill_code.proofs.Forms.{form_same}
use Rattle.scan_slots.proofs.spill_proof.Following.{both}
use Rattle.scan_slots.specs.scan_allocation.Coloring.{now}
use Rattle.scan_slots.proofs.scan_allocation.Coloring.{is_coloring}
use Rattle.scan_debug.specs.Laws.{MayBeAllotted}
use Rattle.scan_debug.proofs.Sizes.{allotted_keeps_sizes}
use Rattle.scan_debug.proofs.Sound.{allotted_is_sound}
use Rattle.scan_debug.proofs.Step.{allotted_keeps_step}
use Rattle.scan_pass.specs.Scanned.{scan_steps, IsScanned, ScannedFollows, ScannedKeepsSteps, ScannedKeepsSizes}
use Rattle.scan_slots.specs.scan_rule.Rewrite.{kind_now, allotted}
use Rattle.scan_debug.specs.scan_simulation.Follows.{SilencesWrong}
use Rattle.scan_debug.proofs.scan_simulation.Following.{allotted_follows, each_now}
use Rattle.scan_slots.specs.Choice.{settled_whole}
use Rattle.scan_slots.specs.Laws.{MayBeSettled}
use Rattle.scan_slots.proofs.Following.{settled_follows}
use Rattle.scan_slots.proofs.Kept.{settled_keeps_step}
use Rattle.scan_slots.proofs.Sizes.{settled_keeps_sizes}

-- code has its form with other registers
form_now : (given : ℕ → Option ℕ) (silent : ℕ → Bool) (k : ItemKind) → HasForm k → HasForm (kind_now given silent k)
form_now given silent (Code i n) h = form_same (now given) (now given) i.op i.operands ∙ h
form_now given silent (Mark v m) h = tt
form_now given silent (Phi q n) h = tt

items_bound : (a b c : ℕ) → b ≤ 1 * (a + MAX_BLOCKS * 0) → c ≤ 4 * (b + MAX_BLOCKS * 1) → c ≤ 4 * (a + MAX_BLOCKS * 1)
items_bound a b c h k = omega (arith, h, k)

numbers_bound : (a n g m h : ℕ) → m ≤ 1 * (n + MAX_BLOCKS * 0) → g ≤ a + 0 * (1 * (n + MAX_BLOCKS * 0)) → h ≤ g + 1 * (4 * (m + MAX_BLOCKS * 1)) →
    h ≤ a + 1 * (4 * (n + MAX_BLOCKS * 1))
numbers_bound a n g m h few low high = omega (arith, few, low, high)

slots_bound : (a b c : ℕ) → b ≤ a + MAX_SLOTS * 0 → c ≤ b + MAX_SLOTS * 1 → c ≤ a + MAX_SLOTS * 1
slots_bound a b c h k = omega (arith, h, k)

le_both : (a b c : ℕ) → c ≤ b → b ≤ a → c ≤ a
le_both a b c h k = omega (arith, h, k)

module _ (reserve : List ℕ) (f : Function) (subs : List DebugSubstitution) (new : Function) (losses : List Loss) (sound : IsSound f)
    (forms : AllItems (λ i. HasForm i.kind) f.blocks) (s : IsScanned reserve f subs new losses) where
  abbrev mid : Function
  mid = allotted s.given s.silent f

  abbrev k : ℕ
  k = greatest_number mid subs + 1

  abbrev last : Function
  last = settled_whole s.intervals k mid

  may : MayBeAllotted reserve f subs s.given s.silent
  may = record { sound = sound; forms = forms; allocation = s.allocation; decides = s.decides }

  sound_mid : IsSound mid
  sound_mid = allotted_is_sound reserve f subs s.given s.silent may

  forms_mid : AllItems (λ i. HasForm i.kind) mid.blocks
  forms_mid = each_now s.given s.silent (λ b i. HasForm i.kind) (λ b i. HasForm i.kind) (λ b p i h. form_now s.given (s.silent p) i.kind h) f.blocks forms

  wrong : SilencesWrong (program_of false f.blocks (resolve subs)) (block_start (first_of f.blocks)) s.given s.silent
  wrong = record {
    overwritten = λ p i r at asks over. (s.decides p i r at asks).1 (inr (inr over));
    unset = λ p i r q at asks e path. (s.decides p i r at asks).1 (inr (inl (q, e, path)));
  }

  may_settle : MayBeSettled s.intervals k mid subs
  may_settle = record { sound = sound_mid; forms = forms_mid; left = s.left; fresh = omega arith }

  follows_last : PreservesSimulation false true (change f subs last subs)
  follows_last =
      both f mid last subs
      (allotted_follows f subs s.given s.silent sound forms (is_coloring reserve f (resolve subs) forms s.given s.allocation) wrong)
      (settled_follows s.intervals k mid subs may_settle)

  steps_last : KeepsSteps (scan_steps reserve) (change f subs last subs) (s.wrong ++ s.scratch)
  steps_last = (
    mid,
    subs,
    s.wrong,
    s.scratch,
    allotted_keeps_step reserve f subs s.given s.silent s.wrong may s.ordered s.silenced,
    (
      last,
      subs,
      s.scratch,
      [],
      settled_keeps_step s.intervals mid subs s.scratch sound_mid forms_mid s.left s.taken,
      (refl, refl, refl),
      sym (append-nil s.scratch),
    ),
    refl,
  )

  sizes_last : KeepsSizes 4 1 (change f subs last subs)
  sizes_last =
      let first = allotted_keeps_sizes reserve f subs s.given s.silent may in
      let second = settled_keeps_sizes s.intervals mid subs s.left in
      record {
        items = items_bound (item_count f) (item_count mid) (item_count last) first.items second.items;
        code = items_bound (code_count f) (code_count mid) (code_count last) first.code second.code;
        calls = le_both (call_count f) (call_count mid) (call_count last) second.calls first.calls;
        physical = λ h. second.physical (first.physical h);
        numbers = numbers_bound (greatest_number f subs) (item_count f) (greatest_number mid subs) (item_count mid) (greatest_number last subs) first.items
            first.numbers second.numbers;
        slots = slots_bound (greatest f.slots) (greatest mid.slots) (greatest last.slots) first.slots second.slots;
      }

pub scanned_follows : ScannedFollows
scanned_follows reserve f subs new losses sound forms s =
    subst (λ (g : Function). PreservesSimulation false true (change f subs g subs)) (sym s.made) (follows_last reserve f subs new losses sound forms s)

pub scanned_keeps_steps : ScannedKeepsSteps
scanned_keeps_steps reserve f subs new losses sound forms s =
    subst (λ (ls : List Loss). KeepsSteps (scan_steps reserve) (change f subs new subs) ls) (sym s.are)
    (subst (λ (g : Function). KeepsSteps (scan_steps reserve) (change f subs g subs) (s.wrong ++ s.scratch)) (sym s.made)
    (steps_last reserve f subs new losses sound forms s))

pub scanned_keeps_sizes : ScannedKeepsSizes
scanned_keeps_sizes reserve f subs new losses sound forms s =
    subst (λ (g : Function). KeepsSizes 4 1 (change f subs g subs)) (sym s.made) (sizes_last reserve f subs new losses sound forms s)
