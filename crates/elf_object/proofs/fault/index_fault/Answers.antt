use Rattle.std.proofs.Common.{ap, ◌∙◌, ◌-◌, drop, ◌∷◌, []}
use Rattle.std.specs.Int.{w16, to_le_bytes}
use Rattle.elf_object.specs.Spelling.{file_header}
use Rattle.elf_object.specs.FirstFault.{constants, index_fault}
use Rattle.elf_object.proofs.fault.index_fault.Goals as goal

pub returns : goal.returns
unfolding index_fault file_header
returns c =
    c.constants.ensures ∙ ap (λ x. constants 62 (2 ∷ []) x (drop 62 c.args.bytes.now)) c.to_le_bytes-index.ensures
    ∙ ap (λ n. constants 62 (2 ∷ []) (to_le_bytes w16 (n - 1)) (drop 62 c.args.bytes.now)) c.requires.count
