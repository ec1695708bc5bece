use Rattle.std.proofs.Common.{◌≡◌, ◌||◌, ◌&&◌, ◌+◌, ◌≤◌, ℕ, Bool, false, Some, nat_eq, length, refl, ap, ◌∙◌, arith}
use Rattle.rv64_instr.specs.declared.place.Place.TheVariants.{Register}
use Rattle.pass_liveness.specs.Sets.{has, is_place}
use Rattle.pass_liveness.proofs.Places.{has_none, or_false}
use Rattle.scan_choice.specs.scan_allocation.Coloring.{now}
use Rattle.scan_choice.specs.Given.{given_by}
use Rattle.scan_stale.specs.Shared.{is_sharing}
use Rattle.scan_stale.proofs.Shared.{none_sharing}
use Rattle.scan_stale.proofs.Taken.{none_below, one_more, all_below}
use Rattle.scan_stale.proofs.places.sharing.Goals as goal

pub loop-n-init : goal.loop-n-init
loop-n-init c slots x few = has_none slots c.new-set.result c.new-set.ensures x ∙ none_below (is_sharing (given_by c.args.given.now) c.args.q) x false

pub loop-n-preserved : goal.loop-n-preserved
loop-n-preserved c slots x few =
    let more : c.shares.result ≡ nat_eq c.args.q (now (given_by c.args.given.now) c.loop-n.n) =
    c.shares.ensures ∙ ap (λ (r : ℕ). nat_eq c.args.q (now (given_by c.args.given.now) r)) c.register_at-r.ensures in
    c.put_if.ensures slots x few ∙
    ap (λ (r : ℕ). (c.shares.result && is_place x (Some (Register r))) || has slots c.loop-n.set x) c.register_at-r.ensures ∙
    ap (λ (z : Bool). (c.shares.result && is_place x (Some (Register c.loop-n.n))) || z) (c.loop-n.invariant slots x few) ∙
    one_more (is_sharing (given_by c.args.given.now) c.args.q) c.loop-n.n x c.shares.result false more

pub returns : goal.returns
returns c slots x few =
    c.loop-n.invariant slots x few ∙ or_false _ ∙
    all_below (is_sharing (given_by c.args.given.now) c.args.q) c.loop-n.n
    (λ r le. none_sharing c.args.given.now c.args.q r c.requires.physical (omega (arith, le))) (λ m. refl) (λ k. refl) x
