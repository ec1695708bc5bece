-- Masks and extents of points, from the end of the text upwards.
use Rattle.std.specs.Prelude.{◌≡◌, ℕ, ◌+◌, ◌-◌, ◌<◌, List, map, reverse, length, slice_index_or, Option, None, is_some, Bool, true}
use Rattle.rv64_instr.specs.declared.place.Place.TheVariants.{Register}
use Rattle.rv64_instr.specs.Instruction.{Instruction}
use Rattle.pass_liveness.specs.Sets.{has}
use Rattle.scan_intervals.specs.Points.{CodePoint}
use Rattle.scan_intervals.specs.Intervals.{touches, is_blocked}
use Rattle.scan_intervals.specs.Blocked.{has_register}
use Rattle.scan_liveness.specs.declared.extents.Extent.{Extent}
use Rattle.scan_liveness.specs.Extents.{widened, stepped, extent_in}

-- the register is in a set
abbrev pub is_in : (slots words : List ℕ) → (r : ℕ) → Bool
is_in slots words r = has slots words (Register r)

-- code, before and after which the registers of these sets are live
abbrev pub point_of : (slots before after : List ℕ) → Instruction → CodePoint
point_of slots before after i = record { code = i; before = is_in slots before; after = is_in slots after }

-- the masks are those of these points, the last one's first; and the extents are those of x32, x33 and so on
pub record Describes (points : List CodePoint) (masks : List ℕ) (extents : List (Option Extent)) : Type 0 where
  pub count : length masks ≡ length points
  pub masked : (r : ℕ) → r < 32 → map (has_register r) (reverse masks) ≡ map (is_blocked r) points
  pub wide : (k : ℕ) → k < length extents → slice_index_or extents k None ≡ extent_in (touches (k + 32)) points

-- the same, where the extents of these registers are pending: they have yet to be widened up to the first of the points
pub record DescribesPending (points : List CodePoint) (masks : List ℕ) (pending : ℕ → Bool) (extents : List (Option Extent)) : Type 0 where
  pub count : length masks ≡ length points
  pub masked : (r : ℕ) → r < 32 → map (has_register r) (reverse masks) ≡ map (is_blocked r) points
  pub begun : (k : ℕ) → k < length extents → pending (k + 32) ≡ true → is_some (slice_index_or extents k None) ≡ true
  pub wide : (k : ℕ) → k < length extents →
      widened (pending (k + 32)) (length points - 1) (slice_index_or extents k None) ≡ extent_in (touches (k + 32)) points

-- the extent of a register after a point of this index, if the extents of these registers were pending, and those of the registers that are live before
-- the point are now
abbrev pub stepped_at : (pending : ℕ → Bool) → CodePoint → (at r : ℕ) → Option Extent → Option Extent
stepped_at pending p at r o = stepped (pending r) (p.before r) (touches r p) at o
