use Rattle.std.proofs.Common.{◌≡◌, ◌++◌, take}
use Rattle.std.specs.List.{flat_map}
use Rattle.mir_func_printer.specs.FuncText.{block_text}
use Rattle.mir_func_printer.proofs.body.push_blocks.Given as goal

abbrev pub invariant-loop-block : goal.invariant-loop-block
invariant-loop-block l = l.text ≡ l.initial.text ++ flat_map block_text (take l.block-index l.blocks)
