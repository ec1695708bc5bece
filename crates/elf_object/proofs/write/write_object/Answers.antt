use Rattle.std.proofs.Common.{length, arith, ap}
use Rattle.elf_object.proofs.SpellingLemmas.{names_below}
use Rattle.elf_object.proofs.write.write_object.Goals as goal

pub returns-clause-object : goal.returns-clause-object
returns-clause-object c = record {
  spelled = c.in_ok-bytes.ensures.bytes;
  named = c.requires.names;
  aligned = c.requires.alignments;
  fits = c.in_ok-bytes.ensures.fits;
  flags = c.in_ok-bytes.ensures.flags;
  count = c.requires.count;
  names = omega (arith, names_below c.args.o.now, c.requires.size);
  size = omega (arith, ap length c.in_ok-bytes.ensures.bytes, c.requires.size);
}
