use Rattle.std.proofs.Common.{ℕ, Bool, ◌||◌, ◌&&◌, ◌+◌, Some, sym, ap, ◌∙◌}
use Rattle.rv64_instr.specs.declared.place.Place.TheVariants.{Register}
use Rattle.pass_liveness.specs.Sets.{has, is_place}
use Rattle.pass_liveness.proofs.Places.{place_added}
use Rattle.scan_stale.proofs.places.put_if.Goals as goal

pub returns-then-more : goal.returns-then-more
returns-then-more c slots x few =
    place_added slots few c.args.set.now c.insert.new.self (Register c.args.r) (256 + c.number.result)
    (ap (λ (n : ℕ). Some (256 + n)) (sym c.number.ensures.value)) c.insert.ensures x ∙
    sym (ap (λ (z : Bool). (z && is_place x (Some (Register c.args.r))) || has slots c.args.set.now x) c.if-more.true)

pub returns-else-more : goal.returns-else-more
returns-else-more c slots x few = sym (ap (λ (z : Bool). (z && is_place x (Some (Register c.args.r))) || has slots c.args.set.now x) c.if-more.false)
