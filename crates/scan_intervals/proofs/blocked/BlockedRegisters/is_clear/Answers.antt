use Rattle.std.proofs.Common.{ℕ, List, ap, ◌∙◌}
use Rattle.scan_intervals.specs.Blocked.{is_unmasked}
use Rattle.scan_intervals.proofs.Masks.{unmasked_is_clear}
use Rattle.scan_intervals.proofs.blocked.BlockedRegisters.is_clear.Goals as goal

pub returns-clause-points : goal.returns-clause-points
returns-clause-points c points are =
    c.is_unmasked.ensures ∙ ap (λ (ms : List ℕ). is_unmasked ms c.args.i.now c.args.r) c.as_slice.ensures.value ∙
    unmasked_is_clear points c.args.self.now.masks.items c.args.i.now c.args.r c.requires are
