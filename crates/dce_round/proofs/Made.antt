-- What a round makes is a function.
use Rattle.std.proofs.Common.{◌≡◌, ◌↔◌, List, [], ◌++◌, Contains, Bool, true, false, append-nil, sym, ap, ◌∙◌, subst}
use Rattle.std.specs.List.{list_any}
use Rattle.mir_func.specs.declared.block.Block.{Block}
use Rattle.mir_func.specs.declared.debug_substitution.DebugSubstitution.{DebugSubstitution}
use Rattle.mir_func.specs.Function.{Function}
use Rattle.mir_func.specs.Sound.{IsSound}
use Rattle.pass_trait.specs.declared.loss.Loss.{Loss}
use Rattle.pass_trait.specs.Order.{IsInOrder}
use Rattle.dce_salvage_proof.specs.dce_rule.Dead.{Ends, IsRound}
use Rattle.dce_salvage_proof.proofs.dce_rule.Rounds.{ends_one}
use Rattle.dce_sweep.specs.dce_analysis.Judge.{AreJudged}
use Rattle.dce_salvage_proof.specs.dce_salvage.SalvageBlocks.{BlocksSoFar, salvage_blocks}
use Rattle.dce_sweep.specs.Round.{has_dead, IsTakenOut}
use Rattle.dce_sweep.proofs.None.{settled}
use Rattle.dce_salvage_proof.specs.SalvageLaws.{begins_off, all_off, function_off, KeepsOff}
use Rattle.dce_salvage_proof.proofs.Chain.{salvage_numbers}
use Rattle.dce_round.specs.Round.{IsDeadRound}
use Rattle.dce_round.proofs.SameCode.{dead_same}

pub sound_off : (f : Function) (subs : List DebugSubstitution) (dead : List (List Bool)) (bs : List Block) → IsSound f → bs ≡ (all_off f subs dead).blocks →
    IsSound (record { name = f.name; slots = f.slots; objects = f.objects; blocks = bs })
sound_off f subs dead bs sound is =
    subst (λ (cs : List Block). IsSound (record { name = f.name; slots = f.slots; objects = f.objects; blocks = cs })) (sym is)
    (salvage_numbers f subs dead sound).sound

-- some of these is true
abbrev pub some_dead : List (List Bool) → Bool
some_dead vss = list_any (λ vs. list_any (λ d. d) vs) vss

-- nothing is dead
pub none_dead : (f : Function) (dead : List (List Bool)) (judged : AreJudged f dead) → IsSound f → some_dead dead ≡ false → IsRound f f
none_dead f dead judged sound e = settled f dead judged e

module _ (f : Function) (subs : List DebugSubstitution) (dead : List (List Bool)) (judged : AreJudged f dead) (sound : IsSound f) (some : some_dead dead ≡ true)
    (g : Function)
    (here : List Loss) (any : Bool) (out : IsTakenOut (function_off f subs dead) g here any) where
  off : KeepsOff f subs dead
  off = salvage_numbers f subs dead sound

  pub still : any ≡ true
  still =
      let ends : judged.ends ≡ out.ends = ends_one f (function_off f subs dead) off.same judged.ends out.ends judged.live out.live in
      out.some ∙ ap (λ (e : Ends). has_dead e (function_off f subs dead).blocks) (sym ends) ∙
      dead_same judged.ends f.blocks (function_off f subs dead).blocks (ap (λ (h : Function). h.blocks) off.stripped_is) ∙
      ap some_dead (sym judged.verdicts_are) ∙ some

  pub made : (more : List DebugSubstitution) (losses lost : List Loss) → more ≡ (all_off f subs dead).subs → lost ≡ (all_off f subs dead).lost ++ here →
      IsInOrder losses → ((l : Loss) → Contains losses l ↔ Contains lost l) → IsDeadRound f subs g more losses
  made more losses lost entries is ordered same = record {
    dead = dead;
    judged = judged;
    entries = entries;
    any = any;
    here = here;
    out = out;
    ordered = ordered;
    each = λ l. subst (λ (ls : List Loss). Contains losses l ↔ Contains ls l) is (same l);
    some = still;
  }

-- what was taken out behind copies that lost their numbers
module _ (f : Function) (subs : List DebugSubstitution) (dead : List (List Bool)) (judged : AreJudged f dead) (sound : IsSound f) (some : some_dead dead ≡ true)
    (mid g : Function) (mid_is : mid ≡ function_off f subs dead) (before after : List Loss) (before_is : before ≡ (all_off f subs dead).lost) (any : Bool)
    (out : (here : List Loss) × (after ≡ before ++ here) × IsTakenOut mid g here any) where
  taken : IsTakenOut (function_off f subs dead) g out.0 any
  taken = subst (λ (z : Function). IsTakenOut z g out.0 any) mid_is out.2

  after_is : after ≡ (all_off f subs dead).lost ++ out.0
  after_is = out.1 ∙ ap (λ (ls : List Loss). ls ++ out.0) before_is

  pub round_made : (more : List DebugSubstitution) (losses : List Loss) → more ≡ (all_off f subs dead).subs → IsInOrder losses →
      ((l : Loss) → Contains losses l ↔ Contains after l) → IsDeadRound f subs g more losses
  round_made more losses entries ordered same = made f subs dead judged sound some g out.0 any taken more losses after entries after_is ordered same

-- where no dead copy has a number the function, the substitutions and the losses stay
module _ (f : Function) (subs : List DebugSubstitution) (dead : List (List Bool)) (bs : List Block) (is : bs ≡ f.blocks)
    (off : salvage_blocks dead bs (begins_off f subs) ≡ record (begins_off f subs) { blocks = bs ++ [] }) where
  off_is : all_off f subs dead ≡ record (begins_off f subs) { blocks = f.blocks ++ [] }
  off_is = subst (λ (cs : List Block). salvage_blocks dead cs (begins_off f subs) ≡ record (begins_off f subs) { blocks = cs ++ [] }) is off

  pub still_function : f ≡ function_off f subs dead
  still_function =
      let blocks : f.blocks ≡ (all_off f subs dead).blocks = sym (append-nil f.blocks) ∙ sym (ap (λ (z : BlocksSoFar). z.blocks) off_is) in
      λ i. record f { blocks = blocks i }

  pub still_entries : subs ≡ (all_off f subs dead).subs
  still_entries = sym (ap (λ (z : BlocksSoFar). z.subs) off_is)

  pub still_lost : [] ≡ (all_off f subs dead).lost
  still_lost = sym (ap (λ (z : BlocksSoFar). z.lost) off_is)
