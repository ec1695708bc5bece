use Rattle.std.proofs.Common.{◌≡◌, ◌∙◌, subst}
use Rattle.std.proofs.lemmas.List.{take_all}
use Rattle.read_debug_nodes.specs.Maps.{numbers_of}
use Rattle.scope_variables.proofs.FileBlocks.{AreFilesOf, all_files}
use Rattle.scope_variables.proofs.files.file_blocks.Goals as goal

pub returns : goal.returns
returns c =
    let items = c.as_slice-number-items.result.now in
    let are : items ≡ numbers_of c.args.debug.now = c.as_slice-number-items.ensures ∙ c.in_ok-numbers.ensures in
    all_files c.args.debug.now c.loop-number.files
    (subst (λ ns. AreFilesOf c.args.debug.now ns c.loop-number.files) (take_all c.loop-number.number-index items c.loop-number-test.false ∙ are)
    c.loop-number.invariant)
