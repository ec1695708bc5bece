use Rattle.dce_rule.proofs.Follows.{dead_follows}
use Rattle.dce_rule.proofs.Sound.{sound_taken, forms_taken}
use Rattle.dce_rule.proofs.code_laws.dead_code_follows.Goals as goal

pub returns : goal.returns
returns c = λ f subs ends wrong sound forms closed covers. record {
  sound = sound_taken wrong ends f sound;
  forms = forms_taken wrong ends f forms;
  follows = dead_follows f subs sound forms ends closed wrong covers;
}
