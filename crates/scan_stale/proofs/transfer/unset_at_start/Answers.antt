use Rattle.std.proofs.Common.{◌≡◌, ◌||◌, ◌&&◌, ◌+◌, ◌≤◌, ℕ, Option, Bool, true, false, Some, is_some, length, refl, sym, ap, ◌∙◌, subst, arith}
use Rattle.rv64_instr.specs.declared.place.Place.{Place}
use Rattle.rv64_instr.specs.declared.place.Place.TheVariants.{Register}
use Rattle.pass_liveness.specs.Sets.{has, is_place}
use Rattle.pass_liveness.proofs.Places.{has_none}
use Rattle.scan_choice.specs.Given.{given_by}
use Rattle.scan_stale.specs.Flow.{is_unset}
use Rattle.scan_stale.proofs.Taken.{none_below, one_more, all_below, past_table}
use Rattle.scan_stale.proofs.transfer.unset_at_start.Goals as goal

or_false : (a : Bool) → (a || false) ≡ a
or_false true = refl
or_false false = refl

pub loop-n-init : goal.loop-n-init
loop-n-init c x = has_none c.args.names.now.slots c.new-set.result c.new-set.ensures x ∙ none_below (is_unset (given_by c.args.given.now)) x false

pub loop-n-preserved : goal.loop-n-preserved
loop-n-preserved c x =
    let more : c.is_some.result ≡ is_some (given_by c.args.given.now c.loop-n.n) =
    c.is_some.ensures ∙ ap (λ (o : Option ℕ). is_some o) (c.given_to.ensures ∙ ap (given_by c.args.given.now) c.register_at-r.ensures) in
    c.insert_if.ensures x ∙
    ap (λ (r : ℕ). (c.is_some.result && is_place x (Some (Register r))) || has c.args.names.now.slots c.loop-n.set x) c.register_at-r.ensures ∙
    ap (λ (z : Bool). (c.is_some.result && is_place x (Some (Register c.loop-n.n))) || z) (c.loop-n.invariant x) ∙
    one_more (is_unset (given_by c.args.given.now)) c.loop-n.n x c.is_some.result false more

pub returns : goal.returns
returns c x =
    c.loop-n.invariant x ∙ or_false _ ∙
    all_below (is_unset (given_by c.args.given.now)) c.loop-n.n
    (λ r le. ap (λ (o : Option ℕ). is_some o) (past_table c.args.given.now r (omega (arith, le)))) (λ m. refl) (λ k. refl) x
