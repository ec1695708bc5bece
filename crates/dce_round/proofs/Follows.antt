-- What a round keeps.
use Rattle.std.proofs.Common.{◌≡◌, ◌<◌, List, sym, ap, subst, arith}
use Rattle.mir_func.specs.declared.debug_substitution.DebugSubstitution.{DebugSubstitution}
use Rattle.mir_func.specs.Function.{Function}
use Rattle.mir_func.specs.Sound.{IsSound}
use Rattle.mir_func.specs.Strip.{stripped}
use Rattle.pass_trait.specs.declared.loss.Loss.{Loss}
use Rattle.pass_trait.specs.Change.{change}
use Rattle.pass_trait.specs.Sizes.{code_count}
use Rattle.dce_salvage_proof.specs.dce_rule.Dead.{IsRound}
use Rattle.dce_salvage_proof.specs.dce_rule.Wrong.{taken_out, IsClosed}
use Rattle.dce_salvage_proof.specs.dce_rule.CodeLaws.{Covers}
use Rattle.dce_salvage_proof.specs.pass_edits.WeakSimulation.{PreservesWeakSimulation}
use Rattle.dce_salvage_proof.proofs.dce_rule.Live.{live_closed}
use Rattle.dce_salvage_proof.proofs.dce_rule.Sound.{sound_taken}
use Rattle.dce_salvage_proof.proofs.dce_rule.Follows.{dead_follows}
use Rattle.dce_salvage_proof.proofs.dce_rule.Stripped.{round_stripped}
use Rattle.dce_salvage_proof.proofs.pass_edits.Loose.{then}
use Rattle.dce_salvage_proof.specs.SalvageLaws.{all_off, function_off, KeepsOff}
use Rattle.dce_salvage_proof.proofs.Chain.{salvage_numbers}
use Rattle.dce_round.specs.Round.{IsDeadRound}
use Rattle.dce_round.specs.Laws.{RoundFollows, RoundCode}
use Rattle.dce_round.proofs.SameCode.{code_same}

module _ (f g : Function) (subs more : List DebugSubstitution) (losses : List Loss) (sound : IsSound f) (r : IsDeadRound f subs g more losses) where
  abbrev mid : Function
  mid = function_off f subs r.dead

  abbrev mid_subs : List DebugSubstitution
  mid_subs = (all_off f subs r.dead).subs

  off : KeepsOff f subs r.dead
  off = salvage_numbers f subs r.dead sound

  -- the second half of the round
  pub taken : IsSound (taken_out r.out.wrong r.out.ends mid) ×
      PreservesWeakSimulation (change mid mid_subs (taken_out r.out.wrong r.out.ends mid) mid_subs)
  taken =
      let closed : IsClosed r.out.ends mid = live_closed mid off.sound.ends r.out.ends r.out.live in
      let covers : Covers r.out.wrong r.out.ends mid = λ p x w. (r.out.exact p x).1 w in (
        sound_taken r.out.wrong r.out.ends mid off.sound,
        dead_follows mid mid_subs off.sound r.out.forms r.out.ends closed r.out.wrong covers,
      )

  pub round_keeps : IsSound g × PreservesWeakSimulation (change f subs g more)
  round_keeps =
      let out : Function = taken_out r.out.wrong r.out.ends mid in
      let both : PreservesWeakSimulation (change f subs out mid_subs) = then f mid out subs mid_subs mid_subs off.follows taken.1 in (
        subst IsSound (sym r.out.out) taken.0,
        subst (λ (h : Function). PreservesWeakSimulation (change f subs h more)) (sym r.out.out)
            (subst (λ (es : List DebugSubstitution). PreservesWeakSimulation (change f subs out es)) (sym r.entries) both),
      )

  pub round_is_code : IsRound (stripped f) (stripped g) × (code_count g < code_count f)
  round_is_code =
      let out : Function = taken_out r.out.wrong r.out.ends mid in
      let one : IsRound (stripped mid) (stripped out) = round_stripped mid r.out.ends r.out.live r.out.wrong in
      let less : code_count g < code_count mid = r.out.fewer r.some in
      let same : code_count mid ≡ code_count f = code_same f.blocks mid.blocks (ap (λ (h : Function). h.blocks) off.stripped_is) in (
        subst (λ (h : Function). IsRound h (stripped g)) off.stripped_is
            (subst (λ (h : Function). IsRound (stripped mid) (stripped h)) (sym r.out.out) one),
        omega (arith, less, same),
      )

pub round_follows : RoundFollows
round_follows f g subs more losses sound r = round_keeps f g subs more losses sound r

pub round_code : RoundCode
round_code f g subs more losses sound r = round_is_code f g subs more losses sound r
