-- Folding and debug items; and which blocks are kept.
use Rattle.std.specs.Prelude.{◌≡◌, ◌⊎◌, ℕ, List, Some, true}
use Rattle.mir_func.specs.declared.block.Block.{Block}
use Rattle.mir_func.specs.Function.{Function}
use Rattle.mir_func.specs.Sound.{IsSound}
use Rattle.mir_func.specs.Strip.{stripped}
use Rattle.fold_targets.specs.Leads.{first_id}
use Rattle.fold_rule.specs.Rule.{AreFolded, IsFolded}

-- stripping debug items preserves folding: if a sound f folds to g, then f stripped folds to g stripped
abbrev pub FoldsStripped : Type 0
FoldsStripped = (f g : Function) → IsSound f → IsFolded f g → IsFolded (stripped f) (stripped g)

-- a kept block is the first one or its own end: bypassed blocks are deleted
abbrev pub EndsStay : Type 0
EndsStay = (old new : List Block) (folded : AreFolded old new) (n : ℕ) → folded.stays n ≡ true → (first_id old ≡ Some n) ⊎ (folded.end n ≡ n)
