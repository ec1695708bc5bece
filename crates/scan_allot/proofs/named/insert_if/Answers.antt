use Rattle.std.proofs.Common.{ℕ, Bool, ◌||◌, ◌&&◌, nat_eq, sym, ap, ◌∙◌}
use Rattle.pass_liveness.specs.Sets.{has_bit}
use Rattle.scan_allot.proofs.named.insert_if.Goals as goal

pub returns-then-more : goal.returns-then-more
returns-then-more c r =
    c.insert.ensures r ∙ ap (λ (n : ℕ). nat_eq n r || has_bit c.args.named.now r) c.number.ensures.value ∙ sym (ap (λ (z : Bool). (z && nat_eq c.args.s r) || has_bit c.args.named.now r) c.if-more.true)

pub returns-else-more : goal.returns-else-more
returns-else-more c r = sym (ap (λ (z : Bool). (z && nat_eq c.args.s r) || has_bit c.args.named.now r) c.if-more.false)
