-- Proofs that the pass needs for its own trait items. They are here and not in proofs/ since an implementation of the
-- trait of passes names them. Nothing here must be believed.
use Rattle.std.specs.Prelude.{ℕ, zero, suc}
use Rattle.pass_trait.specs.Code.{CodeRule, HasOneResult, SeesCodeAlone}
use Rattle.pass_trait.specs.Steps.{EachCode}
use Rattle.dce_proof.specs.dce_rule.Dead.{IsRound}
use Rattle.dce_rule.proofs.Rounds.{one_round, round_alike}
use Rattle.dce_proof.specs.DebugRule.{dead_rule}
use Rattle.dce_pass.specs.Steps.{repeated, round_step, most_rounds, dead_steps}

-- n rounds have a property of code rules if one round has it
each_code : (P : CodeRule → Type 0) (n : ℕ) → P IsRound → EachCode P (repeated n (round_step dead_rule))
each_code P zero h = tt
each_code P (suc n) h = (h, each_code P n h)

-- each round's code rule is functional
pub rounds_have_one_result : EachCode HasOneResult dead_steps
rounds_have_one_result = each_code HasOneResult most_rounds one_round

-- no round's code rule depends on positions
pub rounds_see_code_alone : EachCode SeesCodeAlone dead_steps
rounds_see_code_alone = each_code SeesCodeAlone most_rounds round_alike
