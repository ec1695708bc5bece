-- What spilling keeps, put together.
use Rattle.std.proofs.Common.{ℕ, zero, suc, ◌+◌, List, [], ◌∷◌, ◌++◌, Bool, true, false, refl, sym, subst, arith, append-nil}
use Rattle.std.proofs.lemmas.List.Elements.{All-nil}
use Rattle.mir_func.specs.declared.debug_substitution.DebugSubstitution.{DebugSubstitution}
use Rattle.mir_func.specs.Function.{Function}
use Rattle.mir_func.specs.Sound.{AllItems, IsSound, HasForm}
use Rattle.pass_trait.specs.declared.loss.Loss.{Loss}
use Rattle.pass_trait.specs.Change.{Change, change}
use Rattle.pass_trait.specs.Debug.{IsFor, KeepsItems}
use Rattle.pass_trait.specs.Simulation.{PreservesSimulation}
use Rattle.pass_trait.specs.Sizes.{greatest_number, KeepsSizes}
use Rattle.pass_trait.specs.Steps.{KeepsSteps}
use Rattle.spill_select.specs.Left.{registers_left}
use Rattle.spill_debug.specs.RewrittenDebugItems.{asked}
use Rattle.spill_proof.proofs.Stripped.{asked_is_stripped}
use Rattle.spill_select.specs.spill_rule.Choice.{homes_of, spilling_of}
use Rattle.spill_select.specs.spill_rule.Chosen.{AreDistinct}
use Rattle.spill_select.specs.spill_rule.Rule.{Decides}
use Rattle.spill_proof.specs.Whole.{whole}
use Rattle.spill_proof.specs.JoinedLaws.{MayBeSpilled}
use Rattle.spill_proof.proofs.Joined.{joined_follows, joined_is_sound}
use Rattle.spill_proof.proofs.Sizes.{whole_keeps_sizes}
use Rattle.spill_proof.proofs.Alive.{alive_bare, alive_alike}
use Rattle.spill_proof.specs.Step.{spill_debug, spill_step}
use Rattle.spill_proof.proofs.Made.{spilled_code_is_made}
use Rattle.spill_proof.proofs.Blocks.{items_become}
use Rattle.spill_proof.specs.Causes.{IsAscending}
use Rattle.spill_proof.proofs.Causes.{losses_have_causes, new_slots_are_new}
use Rattle.spill_proof.proofs.Left.{left_have_first_causes}
use Rattle.spill_proof.specs.Kept.{AreTaken, IsReserve, SpilledPreservesSimulation, SpilledKeepsSteps, SpilledKeepsSizes}
use Rattle.spill_proof.proofs.Losses.{said, told, ordered}

-- in ascending order no register stands twice
pub distinct : (rs : List ℕ) → IsAscending rs → AreDistinct rs
distinct [] up = tt
distinct (r ∷ rs) up = (
  λ k. (let lt = up zero (suc k.0) r (omega arith) (let within = k.1 in omega (arith, within)) in let is = k.2 in omega (arith, lt, is)),
  distinct rs (λ i j d lt within. up (suc i) (suc j) d (omega (arith, lt)) (omega (arith, within))),
)

-- a function of code in form may be spilled
pub may_be : (reserve : List ℕ) (live : ℕ → Bool) (f : Function) (subs : List DebugSubstitution) → IsReserve reserve → IsSound f →
    AllItems (λ i. HasForm i.kind) f.blocks → Decides reserve f live → MayBeSpilled reserve live (greatest_number f subs + 1) f subs
may_be reserve live f subs keeps sound forms decides = record {
  sound = sound;
  forms = forms;
  real = keeps.real;
  distinct = distinct reserve keeps.ascending;
  decides = alive_alike reserve live f (asked (spilling_of reserve live f) (greatest_number f subs + 1) f)
      (asked_is_stripped (spilling_of reserve live f) (greatest_number f subs + 1) f) decides;
  fresh = omega arith;
}

module _ (reserve : List ℕ) (live : ℕ → Bool) (f : Function) (subs : List DebugSubstitution) (keeps : IsReserve reserve) (sound : IsSound f)
    (decides : Decides reserve f live) where
  abbrev k : ℕ
  k = greatest_number f subs + 1

  abbrev made : Function
  made = whole reserve live k f

  abbrev c : Change
  c = change f subs made subs

  keeps_items : (scratch : List Loss) → AreTaken (homes_of reserve live f) (spilling_of reserve live f) f.blocks scratch →
      KeepsItems (spill_debug reserve) c (scratch ++ registers_left reserve live f)
  keeps_items scratch taken = record {
    blocks = items_become reserve live f subs sound decides;
    subs = ([], sym (append-nil subs), refl, All-nil (IsFor c (scratch ++ registers_left reserve live f)));
    said = said reserve live f subs made decides sound scratch taken;
    told = told reserve live f subs made decides sound scratch taken;
    ordered = ordered reserve live f subs made decides sound scratch taken keeps.ascending;
    caused = losses_have_causes reserve live k f subs decides;
    left = left_have_first_causes reserve live k f subs keeps.ascending sound decides;
    spilled = new_slots_are_new reserve live k f subs decides;
    renamed = λ r now h. absurd h;
  }

  keeps_step : AllItems (λ i. HasForm i.kind) f.blocks → (scratch : List Loss) →
      AreTaken (homes_of reserve live f) (spilling_of reserve live f) f.blocks scratch →
      KeepsSteps (spill_step reserve ∷ []) c (scratch ++ registers_left reserve live f)
  keeps_step forms scratch taken = (
    made,
    subs,
    scratch ++ registers_left reserve live f,
    [],
    record {
      sound = joined_is_sound reserve live k f subs (may_be reserve live f subs keeps sound forms decides);
      code = spilled_code_is_made reserve live k f (alive_bare reserve live f decides);
      items = keeps_items scratch taken;
    },
    (refl, refl, refl),
    sym (append-nil (scratch ++ registers_left reserve live f)),
  )

pub keeps_following : SpilledPreservesSimulation
keeps_following reserve f subs new losses keeps sound forms h =
    subst (λ (g : Function). PreservesSimulation false true (change f subs g subs)) (sym h.made)
    (joined_follows reserve h.live (greatest_number f subs + 1) f subs (may_be reserve h.live f subs keeps sound forms h.decides))

pub keeps_steps : SpilledKeepsSteps
keeps_steps reserve f subs new losses keeps sound forms h =
    subst (λ (ls : List Loss). KeepsSteps (spill_step reserve ∷ []) (change f subs new subs) ls) (sym h.are)
    (subst (λ (g : Function). KeepsSteps (spill_step reserve ∷ []) (change f subs g subs) (h.scratch ++ registers_left reserve h.live f)) (sym h.made)
    (keeps_step reserve h.live f subs keeps sound h.decides forms h.scratch h.taken))

pub keeps_sizes : SpilledKeepsSizes
keeps_sizes reserve f subs new losses keeps h =
    subst (λ (g : Function). KeepsSizes 4 1 (change f subs g subs)) (sym h.made) (whole_keeps_sizes reserve h.live f subs keeps.real)
