-- The code of one round.
use Rattle.std.specs.Prelude.{◌≡◌, ◌↔◌, ◌<◌, List, map, Contains, Bool, true, false}
use Rattle.std.specs.List.{list_any}
use Rattle.mir_func.specs.declared.position.Pos.{Pos}
use Rattle.mir_func.specs.declared.block.Block.{Block}
use Rattle.mir_func.specs.Function.{Function}
use Rattle.mir_func.specs.Sound.{AllItems, HasForm}
use Rattle.pass_trait.specs.declared.loss.Loss.{Loss}
use Rattle.pass_trait.specs.Sizes.{code_count}
use Rattle.dce_stale.specs.dce_rule.Dead.{Places, Ends, IsRound}
use Rattle.dce_stale.specs.dce_rule.CodeLaws.{AreLive}
use Rattle.dce_stale.specs.dce_rule.Wrong.{taken_out}
use Rattle.dce_stale.specs.dce_rule.RemovalDebugRule.{LosesAt, AreWrong}
use Rattle.dce_stale.specs.dce_analysis.Judge.{verdicts}

-- some item of the blocks is dead code
abbrev pub has_dead : Ends → List Block → Bool
has_dead ends blocks = list_any (λ v. list_any (λ d. d) v) (map (λ b. verdicts b.items (ends b.id)) blocks)

-- The second function is the first without its dead code, and with debug values and DBG_PHIs of wrong places undef, with
-- these losses; `any` is whether there was dead code
pub record IsTakenOut (f g : Function) (lost : List Loss) (any : Bool) : Type 0 where
  pub ends : Ends
  pub forms : AllItems (λ i. HasForm i.kind) f.blocks
  pub wrong : Pos → Places
  pub live : AreLive ends f
  pub exact : AreWrong ends f wrong
  pub out : g ≡ taken_out wrong ends f
  pub told : (l : Loss) → Contains lost l ↔ ((at : Pos) × LosesAt ends f at l)
  pub fewer : any ≡ true → code_count g < code_count f
  pub same : any ≡ false → g ≡ f
  pub some : any ≡ has_dead ends f.blocks
  pub over : any ≡ false → IsRound f f
