use Rattle.std.proofs.Common.{arith}
use Rattle.std.proofs.lemmas.List.{append_assoc}
use Rattle.std.proofs.lemmas.Int.{to_z-of_z}
use Rattle.emit_code.proofs.words.push_long.Goals as goal

pub returns : goal.returns
returns c = grind (
  arith,
  to_z-of_z,
  append_assoc,
  c.push_word-2.ensures,
  c.in_ok-push_word.ensures,
  c.jump.ensures.value,
  c.skip.ensures.value,
  c.distance.ensures,
)
