use Rattle.std.proofs.Common.{◌≡◌, ◌++◌, length, take, drop}
use Rattle.elf_content.specs.Content.{written, relocations_from}
use Rattle.elf_content.proofs.content.make_content.Given as goal

abbrev pub invariant-loop-piece : goal.invariant-loop-piece
invariant-loop-piece l = record {
  bytes : l.bytes.items ≡ written (take l.piece-index l.pieces);
  relocations : l.relocations ++ relocations_from (length l.bytes.items) (drop l.piece-index l.pieces) ≡ relocations_from 0 l.pieces;
}
