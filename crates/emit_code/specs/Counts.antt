-- Limits on a function's size for its layout.
use Rattle.std.specs.Prelude.{ℕ, Bool, cond, List, sum_by}
use Rattle.rv64_instr.specs.Row.{Row, row_of}
use Rattle.rv64_instr.specs.LocationEffects.{has_site}
use Rattle.mir_func.specs.declared.exit.Exit.{Exit}
use Rattle.mir_func.specs.declared.exit.Exit.TheVariants.{Onward, Perhaps, Always, Final}
use Rattle.mir_func.specs.Exits.{row_exit}
use Rattle.mir_func.specs.declared.block.Block.{Block}
use Rattle.mir_func.specs.declared.item.Item.{Item}
use Rattle.mir_func.specs.declared.item.ItemKind.{ItemKind}
use Rattle.mir_func.specs.declared.item.ItemKind.TheVariants.{Code, Mark, Phi}

-- the limit on a function's words, exclusive: any two words of a function are within the reach of a jump
abbrev pub MAX_WORDS : ℕ
MAX_WORDS = 262144

-- the limit on a function's first address, exclusive
abbrev pub MAX_BASE : ℕ
MAX_BASE = 4294967296

-- an upper bound of the words of an instruction by its exit
abbrev pub exit_words : Exit → (site : Bool) → ℕ
exit_words Onward site = cond site 2 1
exit_words (Perhaps n) site = 2
exit_words (Always n) site = 1
exit_words Final site = cond site 2 1

-- an upper bound of the words of an instruction by its row
abbrev pub row_words : Row → ℕ
row_words row = exit_words (row_exit row) (has_site row)

-- the count of an item by its kind: two for a conditional branch or a callee of a name, one for any other item
abbrev pub kind_count : ItemKind → ℕ
kind_count (Code i k) = row_words (row_of i)
kind_count (Mark v m) = 1
kind_count (Phi p k) = 1

-- the count of an item, an upper bound of its words
abbrev pub item_count : Item → ℕ
item_count i = kind_count i.kind

-- the sum of the counts of all items of blocks
abbrev pub count_of : List Block → ℕ
count_of blocks = sum_by (λ b. sum_by item_count b.items) blocks
