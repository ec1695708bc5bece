use Rattle.pass_edits.proofs.Sound.{edited_sound}
use Rattle.pass_edits.proofs.edit_laws.edited_function_is_sound.Goals as goal

pub returns : goal.returns
returns c = edited_sound
