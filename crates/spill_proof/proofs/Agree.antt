-- Whatever decides what is live at the start, the same registers are spilled.
use Rattle.std.proofs.Common.{◌≡◌, ℕ, List, take, Contains, Some, None, Bool, cond, ◌&&◌}
use Rattle.std.proofs.Common.{ap}
use Rattle.mir_func.specs.Function.{Function}
use Rattle.pass_trait.specs.declared.loss.Reason.TheVariants.{NoScratch, CallNamed, EntryLoop}
use Rattle.pass_trait.specs.Causes.{is_named}
use Rattle.spill_select.specs.spill_rule.Choice.{is_bound, is_looped, lacks_scratch, reason_of, is_free, candidates, room, next_slot, homes_from, homes_of}
use Rattle.spill_select.specs.spill_rule.Rule.{IsLiveIn, Decides}
use Rattle.spill_select.specs.spill_rule.Laws.{filter_same, agreeing}

module _ (reserve : List ℕ) (f : Function) (live live' : ℕ → Bool) (decides : Decides reserve f live) (decides' : Decides reserve f live') where
  pub agree : (r : ℕ) → Contains reserve r → live r ≡ live' r
  agree r k = agreeing (IsLiveIn f r) (live r) (live' r) (decides r k) (decides' r k)

  candidates_same : candidates reserve live f ≡ candidates reserve live' f
  candidates_same =
      filter_same (λ r. is_named f r && is_free (reason_of f live r)) (λ r. is_named f r && is_free (reason_of f live' r)) reserve
      (λ r k. (let e = agree r k in
      λ i. is_named f r && is_free (cond (lacks_scratch f) (Some NoScratch) (cond (is_bound f r) (Some CallNamed)
      (cond (e i && is_looped f) (Some EntryLoop) None)))))

  pub homes_same : homes_of reserve live f ≡ homes_of reserve live' f
  homes_same = ap (λ (rs : List ℕ). homes_from (next_slot f.slots) (take (room f) rs)) candidates_same
