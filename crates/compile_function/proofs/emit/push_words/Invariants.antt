use Rattle.std.proofs.Common.{◌≡◌, ◌++◌, drop}
use Rattle.std.specs.List.{flat_map}
use Rattle.std.specs.Int.{w32, to_le_bytes}
use Rattle.compile_function.proofs.emit.push_words.Given as goal

abbrev pub invariant-loop-word : goal.invariant-loop-word
invariant-loop-word l = l.text ++ flat_map (to_le_bytes w32) (drop l.word-index l.words) ≡ l.initial.text ++ flat_map (to_le_bytes w32) l.words
