-- A loop of rounds.
use Rattle.std.proofs.Common.{◌≡◌, ◌+◌, ◌<◌, ◌≤◌, ◌^◌, List, [], ◌++◌, Bool, true, false, sym, subst, ◌∙◌, arith, append_assoc, append-nil}
use Rattle.std.proofs.Math.Nat.{le_refl, le_trans}
use Rattle.mir_func.specs.declared.debug_substitution.DebugSubstitution.{DebugSubstitution}
use Rattle.mir_func.specs.Function.{Function}
use Rattle.mir_func.specs.Sound.{IsSound}
use Rattle.pass_trait.specs.declared.loss.Loss.{Loss}
use Rattle.pass_trait.specs.Sizes.{greatest_number, item_count}
use Rattle.dce_proof.specs.dce_rule.Dead.{IsRound}
use Rattle.dce_proof.specs.Round.{IsDeadRound}
use Rattle.dce_proof.proofs.Round.{round_sizes}
use Rattle.dce_pass.specs.Rounds.{AreDeadRounds, ended, and_round}

-- what rounds from here on make is what rounds from the start make; nothing grew; and where no round follows, nothing is dead
pub record Going (f0 : Function) (subs0 : List DebugSubstitution) (f : Function) (subs : List DebugSubstitution) (losses : List Loss)
    (going : Bool) : Type 0 where
  pub on : (g : Function) (more : List DebugSubstitution) (later : List Loss) → AreDeadRounds f subs g more later →
      AreDeadRounds f0 subs0 g more (losses ++ later)
  pub numbers : greatest_number f subs + item_count f ≤ greatest_number f0 subs0 + item_count f0
  pub last : going ≡ false → IsRound f f

pub going_begins : (f : Function) (subs : List DebugSubstitution) (losses : List Loss) → losses ≡ [] → Going f subs f subs losses true
going_begins f subs losses none = record {
  on = λ g more later r. subst (λ (ls : List Loss). AreDeadRounds f subs g more (ls ++ later)) (sym none) r;
  numbers = le_refl (greatest_number f subs + item_count f);
  last = λ e. cc;
}

module _ (f0 : Function) (subs0 : List DebugSubstitution) (f : Function) (subs : List DebugSubstitution) (losses : List Loss) (going : Bool)
    (h : Going f0 subs0 f subs losses going) where
  pub room : greatest_number f0 subs0 + item_count f0 + 1 < 2 ^ 31 → greatest_number f subs + item_count f + 1 < 2 ^ 31
  room lt = let e = h.numbers in omega (arith, lt, e)

  pub going_on : (g : Function) (more : List DebugSubstitution) (here all : List Loss) (still : Bool) → IsSound f → still ≡ true → all ≡ losses ++ here →
      IsDeadRound f subs g more here → Going f0 subs0 g more all still
  going_on g more here all still sound goes is r = record {
    on = λ k last later rest. subst (λ (ls : List Loss). AreDeadRounds f0 subs0 k last ls)
        (sym (append_assoc losses here later) ∙ (λ i. sym is i ++ later)) (h.on k last (here ++ later) (and_round g more here r rest));
    numbers = le_trans (round_sizes f g subs more here sound r).numbers h.numbers;
    last = λ e. (let bad : true ≡ false = sym goes ∙ e in cc);
  }

  pub going_stops : (g : Function) (more : List DebugSubstitution) → g ≡ f → more ≡ subs → IsRound f f → Going f0 subs0 g more losses false
  going_stops g more same same_subs r =
      subst (λ (z : Function). Going f0 subs0 z more losses false) (sym same)
      (subst (λ (es : List DebugSubstitution). Going f0 subs0 f es losses false) (sym same_subs) (record { on = h.on; numbers = h.numbers; last = λ e. r }))

  pub going_ends : going ≡ false → AreDeadRounds f0 subs0 f subs losses
  going_ends e = subst (λ (ls : List Loss). AreDeadRounds f0 subs0 f subs ls) (append-nil losses) (h.on f subs [] (ended (h.last e)))
