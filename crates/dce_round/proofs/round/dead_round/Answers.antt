use Rattle.std.proofs.Common.{◌≡◌, List, Bool, true, false, refl, sym, ap, ◌∙◌, subst}
use Rattle.mir_func.specs.declared.debug_substitution.DebugSubstitution.{DebugSubstitution}
use Rattle.mir_func.specs.Function.{Function}
use Rattle.mir_func.specs.Sound.{IsSound}
use Rattle.pass_trait.specs.declared.loss.Loss.{Loss}
use Rattle.dce_salvage_proof.specs.SalvageLaws.{all_off, function_off}
use Rattle.dce_round.specs.Round.{IsDeadRound}
use Rattle.dce_sweep.specs.pass_liveness.Liveness.{AreLiveSets}
use Rattle.dce_salvage_proof.proofs.Chain.{salvage_numbers}
use Rattle.dce_round.proofs.Live.{still_live}
use Rattle.dce_round.proofs.Made.{some_dead, none_dead, round_made}
use Rattle.dce_round.proofs.round.dead_round.Goals as goal

pub returns-then-not-has_dead-clause-round : goal.returns-then-not-has_dead-clause-round
returns-then-not-has_dead-clause-round c =
    let f : Function = c.args.f.now in
    let dead : List (List Bool) = c.in_ok-dead.dead in
    let none : some_dead dead ≡ false = ap some_dead (sym c.as_slice.ensures) ∙ sym c.has_dead.ensures ∙ c.if-not-has_dead.true in
    (refl, refl, none_dead f dead c.in_ok-dead.ensures (subst IsSound c.f.view_is c.f.invariant) none)

pub returns-clause-round : goal.returns-clause-round
returns-clause-round c =
    let f : Function = c.args.f.now in
    let subs : List DebugSubstitution = c.args.subs.now in
    let dead : List (List Bool) = c.in_ok-dead.dead in
    let some : some_dead dead ≡ true = ap some_dead (sym c.as_slice.ensures) ∙ sym c.has_dead.ensures ∙ c.if-not-has_dead.false in
    let mid_is : c.copies_off.new.f ≡ function_off f subs dead = c.in_ok-lost.ensures.function ∙ ap (function_off f subs) c.as_slice-2.ensures in
    let before_is : c.in_ok-lost.lost.items ≡ (all_off f subs dead).lost =
    c.in_ok-lost.ensures.lost ∙ ap (λ (ds : List (List Bool)). (all_off f subs ds).lost) c.as_slice-2.ensures in
    let entries : c.copies_off.new.subs ≡ (all_off f subs dead).subs =
    c.in_ok-lost.ensures.entries ∙ ap (λ (ds : List (List Bool)). (all_off f subs ds).subs) c.as_slice-2.ensures in
    subst (λ (losses : List Loss). IsDeadRound f subs c.sweep_dead.new.f c.copies_off.new.subs losses) (sym c.from.ensures)
    (round_made f subs dead c.in_ok-dead.ensures (subst IsSound c.f.view_is c.f.invariant) some c.copies_off.new.f c.sweep_dead.new.f mid_is
    c.in_ok-lost.lost.items c.sweep_dead.new.lost.items before_is _ c.in_ok-sweep_dead.ensures c.copies_off.new.subs c.put_in_order.new.losses.items
    entries c.put_in_order.ensures.ordered c.put_in_order.ensures.same)

pub sweep_dead-requires : goal.sweep_dead-requires
sweep_dead-requires c =
    let f : Function = c.args.f.now in
    let subs : List DebugSubstitution = c.args.subs.now in
    let dead : List (List Bool) = c.in_ok-dead.dead in
    let mid_is : c.copies_off.new.f ≡ function_off f subs dead = c.in_ok-lost.ensures.function ∙ ap (function_off f subs) c.as_slice-2.ensures in
    let sound : IsSound f = subst IsSound c.f.view_is c.f.invariant in
    subst (λ (z : Function). AreLiveSets z c.in_ok-live.live) (sym mid_is)
    (still_live f (function_off f subs dead) c.in_ok-live.live (salvage_numbers f subs dead sound).same refl c.in_ok-live.ensures)
