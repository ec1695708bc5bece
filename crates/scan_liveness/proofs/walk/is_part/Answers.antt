use Rattle.std.proofs.Common.{List, ℕ, ◌||◌, sym, ap, ◌∙◌}
use Rattle.pass_liveness.specs.Sets.{has_bit}
use Rattle.scan_liveness.proofs.Walked.{not_true}
use Rattle.scan_liveness.proofs.walk.is_part.Goals as goal

pub returns : goal.returns
returns c e i =
    let same = c.unite.ensures.same (not_true c.unite.result e) in
    sym (ap (λ (words : List ℕ). has_bit words i) (same ∙ c.copy-all.ensures)) ∙ c.unite.ensures.all i ∙
    ap (λ (words : List ℕ). has_bit words i || has_bit c.args.one.now i) c.copy-all.ensures
