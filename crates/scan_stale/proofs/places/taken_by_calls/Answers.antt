use Rattle.std.proofs.Common.{◌≡◌, ◌||◌, ◌&&◌, ◌+◌, ◌≤◌, ℕ, Bool, false, not, Some, nat_eq, length, refl, sym, ap, ◌∙◌, arith}
use Rattle.std.specs.List.{list_any}
use Rattle.rv64_instr.specs.declared.place.Place.TheVariants.{Register}
use Rattle.rv64_instr.specs.DefsAndUses.{caller_saved}
use Rattle.pass_liveness.specs.Sets.{has, is_place}
use Rattle.pass_liveness.proofs.Places.{has_none, or_false}
use Rattle.scan_choice.specs.scan_allocation.Coloring.{now}
use Rattle.scan_choice.specs.Given.{given_by}
use Rattle.scan_stale.specs.Flow.{takes_place, taken_by}
use Rattle.scan_stale.proofs.Taken.{none_below, one_more, all_below, none_taken, saved_places}
use Rattle.scan_stale.proofs.places.taken_by_calls.Goals as goal

pub loop-n-init : goal.loop-n-init
loop-n-init c slots x few = has_none slots c.new-set.result c.new-set.ensures x ∙ none_below (taken_by (given_by c.args.given.now) caller_saved) x false

pub loop-n-preserved : goal.loop-n-preserved
loop-n-preserved c slots x few =
    let n : ℕ = c.loop-n.n in
    let given = given_by c.args.given.now in
    let more : c.takes_saved.result ≡ takes_place given caller_saved n =
    c.takes_saved.ensures ∙
    ap (λ (r : ℕ). list_any (nat_eq (now given r)) caller_saved && not (list_any (nat_eq r) caller_saved)) c.register_at-r.ensures ∙
    ap (λ (z : Bool). z && not (list_any (nat_eq n) caller_saved)) (sym (saved_places c.args.given.now (now given n) caller_saved refl)) in
    c.put_if.ensures slots x few ∙
    ap (λ (r : ℕ). (c.takes_saved.result && is_place x (Some (Register r))) || has slots c.loop-n.set x) c.register_at-r.ensures ∙
    ap (λ (z : Bool). (c.takes_saved.result && is_place x (Some (Register n))) || z) (c.loop-n.invariant slots x few) ∙
    one_more (taken_by given caller_saved) n x c.takes_saved.result false more

pub returns : goal.returns
returns c slots x few =
    c.loop-n.invariant slots x few ∙ or_false _ ∙
    all_below (taken_by (given_by c.args.given.now) caller_saved) c.loop-n.n
    (λ r le. none_taken c.args.given.now c.requires.real r (omega (arith, le)) caller_saved) (λ m. refl) (λ k. refl) x
