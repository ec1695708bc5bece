-- What each pass leaves of what is shown: a record for each of its steps.
use Rattle.std.proofs.Common.{ℕ, zero, suc, List, ap, sym, subst}
use Rattle.std.specs.Prelude.{All, Result, Ok, Err, IfOk, OnOk}
use Rattle.std.proofs.lemmas.List.Elements.{All-nil}
use Rattle.mir_func.specs.Function.{Function}
use Rattle.pass_trait.specs.Change.{Change}
use Rattle.pass_trait.specs.declared.loss.Loss.{Loss}
use Rattle.pass_trait.specs.Steps.{KeepsSteps}
use Rattle.copyprop_pass.specs.copyprop_proof.Rule.{copy_step}
use Rattle.dce_pass.specs.DebugRule.{dead_rule}
use Rattle.dce_pass.specs.Steps.{repeated, round_step, most_rounds}
use Rattle.fold_pass.specs.fold_proof.Debug.{fold_step}
use Rattle.pass_list.specs.declared.kind.PassKind.{PassKind}
use Rattle.pass_list.specs.declared.kind.PassKind.TheVariants.{Copy, Remat, Spill, Dead, Fold}
use Rattle.remat_pass.specs.Pass.{remat_step}
use Rattle.spill_pass.specs.Reserve.{reserve_of}
use Rattle.spill_pass.specs.spill_proof.Step.{spill_step}
use Rattle.pass_manager.specs.Passes.{steps_of_pass}
use Rattle.pass_manager.specs.Shown.{KeepsShown}
use Rattle.pass_manager.proofs.Becoming.{WasShown}
use Rattle.pass_manager.proofs.Shows.{Shows, EachShows, steps_shown}
use Rattle.pass_manager.proofs.Copies.{phis_given}
use Rattle.pass_manager.proofs.Dead.{dead_phis_given}
use Rattle.pass_manager.proofs.Kills.{kills_shown}

copy_shows : Shows copy_step
copy_shows = record {
  name = λ f g e. ap (λ (h : Function). h.name) e;
  renames = λ c r now never. absurd never;
  salvages = λ c at p h. phis_given c at p h;
  kills = λ c b ks none. subst (All (WasShown copy_step.debug c)) (sym none) (All-nil (WasShown copy_step.debug c));
}

remat_shows : Shows remat_step
remat_shows = record {
  name = λ f g e. ap (λ (h : Function). h.name) e;
  renames = λ c r now never. absurd never;
  salvages = λ c at p never. absurd never;
  kills = λ c b ks none. subst (All (WasShown remat_step.debug c)) (sym none) (All-nil (WasShown remat_step.debug c));
}

spill_shows : (reserve : List ℕ) → Shows (spill_step reserve)
spill_shows reserve = record {
  name = λ f g (live, decides, e). ap (λ (h : Function). h.name) e;
  renames = λ c r now never. absurd never;
  salvages = λ c at p never. absurd never;
  kills = λ c b ks none. subst (All (WasShown (spill_step reserve).debug c)) (sym none) (All-nil (WasShown (spill_step reserve).debug c));
}

dead_shows : Shows (round_step dead_rule)
dead_shows = record {
  name = λ f g e. ap (λ (h : Function). h.name) e.thins;
  renames = λ c r now never. absurd never;
  salvages = λ c at p h. dead_phis_given c at p h;
  kills = λ c b ks none. subst (All (WasShown dead_rule c)) (sym none) (All-nil (WasShown dead_rule c));
}

rounds_show : (n : ℕ) → EachShows (repeated n (round_step dead_rule))
rounds_show zero = tt
rounds_show (suc n) = (dead_shows, rounds_show n)

fold_shows : Shows fold_step
fold_shows = record {
  name = λ f g e. ap (λ (h : Function). h.name) e.1;
  renames = λ c r now never. absurd never;
  salvages = λ c at p never. absurd never;
  kills = λ c b ks are. kills_shown c b ks are;
}

pass_shows : (reserve : List ℕ) (p : PassKind) → EachShows (steps_of_pass reserve p)
pass_shows reserve Copy = (copy_shows, tt)
pass_shows reserve Remat = (remat_shows, tt)
pass_shows reserve Spill = (spill_shows (reserve_of reserve), tt)
pass_shows reserve Dead = rounds_show most_rounds
pass_shows reserve Fold = (fold_shows, tt)

pub pass_shown : {E : Type 0} (reserve : List ℕ) (p : PassKind) (r : Result (List Loss) E) (c : Change) →
    IfOk r (KeepsSteps (steps_of_pass reserve p) c) → OnOk r (KeepsShown c.old c.new)
pass_shown reserve p (Ok losses) c k = steps_shown (steps_of_pass reserve p) (pass_shows reserve p) c losses k
pass_shown reserve p (Err e) c k = tt
