use Rattle.std.proofs.Common.{◌↔◌, ◌+◌, ◌*◌, ◌≤◌, length}
use Rattle.std.specs.Prelude.{All}
use Rattle.mir_func.specs.Sound.{IsSoundObject}
use Rattle.mir_func.specs.Objects.{AreLaidFrom}
use Rattle.mir_func.proofs.sound_objects.are_laid_from.Given as goal

abbrev pub invariant-loop-o : goal.invariant-loop-o
invariant-loop-o l =
    (AreLaidFrom l.block l.end l.rest ↔ AreLaidFrom l.block l.block l.objects) × All IsSoundObject l.rest ×
    (l.end + length l.rest * 2147483648 ≤ 226 * 2147483648)

abbrev pub decreases-loop-o : goal.decreases-loop-o
decreases-loop-o l = length l.rest
