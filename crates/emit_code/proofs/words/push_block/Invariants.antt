use Rattle.std.proofs.Common.{◌≡◌, ◌<◌, ◌++◌, ℕ, take, get_or}
use Rattle.std.specs.List.{flat_map}
use Rattle.mir_func.specs.declared.item.Item.{Item}
use Rattle.emit_code.specs.Rule.{Layout, words_at, sites_in}
use Rattle.emit_code.specs.steps.Plans.{IsPlan}
use Rattle.emit_code.specs.steps.Emitted.{AllStandAt, IsFormed}
use Rattle.emit_code.proofs.words.push_block.Given as goal

abbrev pub invariant-loop-index : goal.invariant-loop-index
invariant-loop-index l = record {
  forms : (k : ℕ) (d : Item) → k < l.index → IsFormed (get_or l.items k d);
  value : (x : Layout) (b : ℕ) → IsPlan x l.plan → AllStandAt x l.plan l.first b l.items →
      l.words ≡ l.initial.words ++ flat_map (words_at x) (sites_in b 0 (take l.index l.items));
}
