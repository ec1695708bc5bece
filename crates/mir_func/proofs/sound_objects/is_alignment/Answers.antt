use Rattle.std.proofs.lemmas.Bool.Decides.{Decides-at}
use Rattle.mir_func.specs.Objects.{ALIGNMENTS}
use Rattle.mir_func.proofs.Laid.{listed}
use Rattle.mir_func.proofs.sound_objects.is_alignment.Goals as goal

pub returns : goal.returns
returns c = Decides-at c.contains.result _ c.contains.ensures.value (listed ALIGNMENTS c.args.align)
