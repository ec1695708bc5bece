use Rattle.std.proofs.Common.{ap, ◌∙◌, drop, ◌∷◌, []}
use Rattle.std.specs.Prelude.{replicate}
use Rattle.elf_object.specs.FirstFault.{constants, null_fault}
use Rattle.elf_object.proofs.fault.null_fault.Goals as goal

pub returns : goal.returns
unfolding null_fault
returns c =
    c.constants.ensures
    ∙ ap (λ t. constants t (4 ∷ 4 ∷ 8 ∷ 8 ∷ 8 ∷ 8 ∷ 4 ∷ 4 ∷ 8 ∷ 8 ∷ []) (replicate 64 0) (drop t c.args.bytes.now)) c.requires.table
