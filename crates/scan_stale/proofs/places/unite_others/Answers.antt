use Rattle.std.proofs.Common.{◌≡◌, ℕ, List, Bool, true, false, ◌&&◌, not, Some, sym, ap, ◌∙◌}
use Rattle.rv64_instr.specs.declared.place.Place.TheVariants.{Register}
use Rattle.pass_liveness.specs.Sets.{has, is_place}
use Rattle.pass_liveness.proofs.Places.{has_united}
use Rattle.scan_stale.proofs.Shared.{is_that, others_kept, others_left}
use Rattle.scan_stale.proofs.places.unite_others.Goals as goal

pub returns-then-was : goal.returns-then-was
returns-then-was c x =
    let slots : List ℕ = c.args.names.now.slots in
    has_united slots c.args.set.now c.args.others.now c.unite.new.self c.unite.ensures.all x ∙
    others_kept (is_place x (Some (Register c.args.s))) (has slots c.args.others.now x) (has slots c.args.set.now x)
    (λ e. ap (has slots c.args.set.now) (is_that x c.args.s e) ∙ sym c.has-was.ensures ∙ c.if-was.true)

pub returns : goal.returns
returns c x =
    let slots : List ℕ = c.args.names.now.slots in
    let p : Bool = is_place x (Some (Register c.args.s)) in
    c.remove.ensures x ∙
    ap (λ (z : Bool). z && not p) (has_united slots c.args.set.now c.args.others.now c.unite.new.self c.unite.ensures.all x) ∙
    others_left p (has slots c.args.others.now x) (has slots c.args.set.now x)
    (λ e. ap (has slots c.args.set.now) (is_that x c.args.s e) ∙ sym c.has-was.ensures ∙ c.if-was.false)
