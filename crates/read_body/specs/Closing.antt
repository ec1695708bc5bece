-- Checks of a whole body.
use Rattle.std.specs.Prelude.{ℕ, Bool, true, List}
use Rattle.std.specs.List.{list_all}
use Rattle.mir_func.specs.declared.block.Block.{Block}
use Rattle.mir_func.specs.declared.exit.Exit.{Exit}
use Rattle.mir_func.specs.declared.exit.Exit.TheVariants.{Onward, Perhaps, Always, Final}
use Rattle.mir_func.specs.declared.item.Item.{Item}
use Rattle.mir_func.specs.Exits.{exit_of}
use Rattle.read_body.specs.FirstUseOrder.{is_met}

-- whether the branch target of an exit, if it has one, is one of these blocks
abbrev pub goes_to_one_of : List ℕ → Exit → Bool
goes_to_one_of ids Onward = true
goes_to_one_of ids (Perhaps n) = is_met n ids
goes_to_one_of ids (Always n) = is_met n ids
goes_to_one_of ids Final = true

-- whether an item's branch target, if it has one, is one of these blocks
abbrev pub item_goes_to : List ℕ → Item → Bool
item_goes_to ids item = goes_to_one_of ids (exit_of item.kind)

-- whether each branch target in a block is one of these blocks
abbrev pub block_goes_to : List ℕ → Block → Bool
block_goes_to ids block = list_all (item_goes_to ids) block.items

-- whether each branch target in these blocks is one of these blocks
abbrev pub blocks_go_to : List ℕ → List Block → Bool
blocks_go_to ids blocks = list_all (block_goes_to ids) blocks

-- whether each stack entry that is named is declared
abbrev pub all_met : List ℕ → List ℕ → Bool
all_met declared named = list_all (λ n. is_met n declared) named
