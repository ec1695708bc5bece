use Rattle.std.proofs.Common.{◌≡◌, drop}
use Rattle.std.specs.List.{list_any}
use Rattle.scan_intervals.specs.Blocked.{has_register}
use Rattle.scan_intervals.proofs.blocked.has_any.Given as goal

-- none of the masks so far has the register
abbrev pub invariant-loop-mask : goal.invariant-loop-mask
invariant-loop-mask l = list_any (has_register l.r) (drop l.mask-index l.masks) ≡ list_any (has_register l.r) l.masks
