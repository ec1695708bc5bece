-- How many items are before the first one at which control may leave.
use Rattle.std.specs.Prelude.{ℕ, suc, List, [], ◌∷◌}
use Rattle.mir_func.specs.declared.exit.Exit.{Exit}
use Rattle.mir_func.specs.declared.exit.Exit.TheVariants.{Onward, Perhaps, Always, Final}
use Rattle.mir_func.specs.declared.item.Item.{Item}
use Rattle.mir_func.specs.Exits.{exit_of}

abbrev pub count_by_exit : Exit → ℕ → ℕ
count_by_exit Onward n = suc n
count_by_exit (Perhaps t) n = 0
count_by_exit (Always t) n = 0
count_by_exit Final n = 0

abbrev pub onward_count : List Item → ℕ
onward_count [] = 0
onward_count (i ∷ is) = count_by_exit (exit_of i.kind) (onward_count is)
