use Rattle.std.proofs.Common.{◌≡◌, ◌<◌, ℕ, take, get_or}
use Rattle.std.specs.Prelude.{All}
use Rattle.std.specs.List.{flat_map}
use Rattle.mir_func.specs.declared.block.Block.{Block}
use Rattle.emit_code.specs.Rule.{Layout, words_at, sites_from}
use Rattle.emit_code.specs.steps.Plans.{IsPlan}
use Rattle.emit_code.specs.steps.Emitted.{IsFormed}
use Rattle.emit_code.proofs.words.words.Given as goal

abbrev pub invariant-loop-index : goal.invariant-loop-index
invariant-loop-index l = record {
  forms : (k : ℕ) (d : Block) → k < l.index → All IsFormed (get_or l.blocks k d).items;
  value : (x : Layout) → IsPlan x l.plan → x.framed.blocks ≡ l.blocks → l.words ≡ flat_map (words_at x) (sites_from 0 (take l.index l.blocks));
}
