use Rattle.std.proofs.Common.{◌≡◌, ◌⊎◌, ℕ, true, subst, inr, List}
use Rattle.std.specs.Option.{IsSome}
use Rattle.fold_targets.specs.Ends.{told}
use Rattle.fold_targets.specs.steps.Settled.{is_among}
use Rattle.fold_targets.proofs.Ways.{empty_ends, end_of_all, key_among, one_known, none_among}
use Rattle.fold_targets.proofs.ends.ends.Goals as goal

pub loop-n-init : goal.loop-n-init
loop-n-init c = record {
  next = tt;
  finite = tt;
  right = empty_ends (told c.args.leads.now) c.new-ends.result.entries c.new-ends.ensures.empty;
  found = λ q h. inr (rw c.into_iter-n-iterator.ensures.into_iter_gives (rw c.keys-n-items.ensures.rest (key_among c.args.leads.now.entries q h)));
}

pub loop-n-preserved : goal.loop-n-preserved
loop-n-preserved c = record {
  next = tt;
  finite = tt;
  right = c.in_ok-settle.ensures.right;
  found = λ q h. one_known (told c.loop-n.ends) (told c.settle.new.ends) c.in-Some.n.now c.next.new.self q c.in_ok-settle.ensures.known
      c.in_ok-settle.ensures.stay
      (subst (λ (z : List ℕ). IsSome (told c.loop-n.ends q) ⊎ (is_among z q ≡ true)) c.in-Some.ensures.steps (c.loop-n.invariant.found q h));
}

pub returns : goal.returns
returns c = end_of_all (told c.args.leads.now) (told c.loop-n.ends) c.loop-n.invariant.right
    (λ q h. none_among (told c.loop-n.ends) q
    (subst (λ (z : List ℕ). IsSome (told c.loop-n.ends q) ⊎ (is_among z q ≡ true)) c.in-None.ensures.steps.0 (c.loop-n.invariant.found q h)))
