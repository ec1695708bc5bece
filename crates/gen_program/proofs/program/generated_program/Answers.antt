use Rattle.std.proofs.Common.{◌≡◌, rules}
use Rattle.std.proofs.lemmas.Grind.{common_steps}
use Rattle.read_proof.specs.read_program.declared.program.Program.{Program}
use Rattle.gen_program.specs.Program.{generated_program}
use Rattle.gen_program.proofs.ReadLemmas.{is_read}
use Rattle.gen_program.proofs.program.generated_program.Goals as goal

pub returns-clause-read : goal.returns-clause-read
returns-clause-read c =
    let made : Program = record { functions = c.functions.inside.items.items; meta = c.in_ok-read_meta.field-0 } in
    let same : made ≡ generated_program c.args.number c.args.blocks = first_of (search rules, grind common_steps) in
    is_read made c.args.number c.args.blocks c.requires.some c.requires.few same
