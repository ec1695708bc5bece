-- At each line that the machine comes to on the image of a function that simulates a source, the frame stands.
use Rattle.std.proofs.Common.{◌≡◌, ◌⊎◌, ◌≤◌, List, Option, Some, true, sym, ◌∙◌, subst, inl, inr, arith}
use Rattle.mir_func.specs.declared.debug_substitution.OperandPair.{OperandPair}
use Rattle.mir_func.specs.declared.object.Object.{Object}
use Rattle.mir_func.specs.Function.{Function, FramedFunction}
use Rattle.mir_func.specs.Graph.{program_of, framed_program}
use Rattle.mir_func.specs.Sound.{AllItems}
use Rattle.mir_func.specs.SoundFrame.{HasPhysical, IsFramed}
use Rattle.sem_mir.specs.Align.{Since}
use Rattle.sem_mir.specs.Follow.{Follows}
use Rattle.sem_mir.specs.InitialState.{IsInitialState, first_of}
use Rattle.sem_mir.specs.State.{State}
use Rattle.sem_simulation.proofs.Words.{words_follow}
use Rattle.sem_machine.specs.Headline.{StartsAt, FailsBeforeLine, MachineAlong}
use Rattle.sem_machine.specs.Image.{CodeLine, Image}
use Rattle.sem_machine.specs.Machine.{Machine, machine_start}
use Rattle.frame_rule.specs.Rule.{framed_of, reach_of}
use Rattle.frame_rule.proofs.Framed.{is_framed}
use Rattle.frame_rule.proofs.Reach.{size_fits}
use Rattle.frame_proof.specs.Stands.{IsEntered}
use Rattle.frame_proof.proofs.FrameFollows.{frame_follows}
use Rattle.frame_proof.proofs.FrameStands.{frame_gives_back}
use Rattle.machine_proof.specs.Followers.{IsFollower}
use Rattle.machine_proof.specs.Framing.{IsMadeFrom, IsInner}
use Rattle.machine_proof.specs.LaidOut.{IsImageOfFunction}
use Rattle.machine_proof.specs.Runs.{ComesFrom, start_beside, RunsBeside}
use Rattle.machine_proof.proofs.Followers.{made_from}
use Rattle.machine_proof.proofs.LaidOut.{has_all, IsLaidBy, laid_by}
use Rattle.machine_proof.proofs.Quiet.{comes_from}
use Rattle.machine_proof.proofs.Turns.{plain_turns}
use Rattle.frame_theorem.specs.Laws.{StandsAt, FramesStand}
use Rattle.frame_theorem.proofs.StandsAlong.{Standing, point_of, standing_along, stopped_fails}

-- a start of a source enters its function with its frame
pub entered : (source : Function) (s : State) → StartsAt source s → IsEntered s.core
entered source s start = record {
  pointer = start.pointer;
  room = start.room;
  top =
      let w = start.regs 2 (omega arith) in
      let both : Some w.0 ≡ Some s.core.entry = sym w.1 ∙ start.pointer in
      let same : w.0 ≡ s.core.entry = cc in
      let low = w.2 in
      omega (arith, same, low);
}

module _ (source f : Function) (resolve fresolve : OperandPair → Option OperandPair) (image : Image) (h : IsFollower source f resolve fresolve)
    (physical : AllItems (λ i. HasPhysical i.kind) f.blocks) (small : reach_of f ≤ 2032) (is : IsImageOfFunction f image) where
  pub framed : IsFramed (framed_of f)
  framed = is_framed f h.sound small physical

  made : IsMadeFrom source f resolve fresolve
  made = made_from source f resolve fresolve h

  from : ComesFrom (program_of true source.blocks resolve) (framed_of f)
  from = comes_from source f resolve fresolve made framed

  beside : RunsBeside source (framed_of f) resolve fresolve
  beside = record {
    follows = λ s start. words_follow IsInner (program_of true source.blocks resolve) (framed_program (framed_of f).blocks fresolve) s (start_beside s)
        (frame_follows source.blocks f resolve fresolve h.sound h.form
        (subst (λ (os : List Object). Follows os source.blocks f.blocks resolve fresolve) (sym h.objects) h.follows) s
        (subst (λ (os : List Object). IsInitialState os (first_of source.blocks) s) (sym h.objects) start))
        (plain_turns source f resolve fresolve made framed);
    keeps = λ s start n t results run ret leads.
        frame_gives_back f fresolve h.sound (size_fits f 2032 small) s.core (entered source s start) n t results run ret leads;
  }

  by : IsLaidBy is.layout (framed_of f) image
  by = subst (λ (x : FramedFunction). IsLaidBy is.layout x image) is.framed
      (laid_by is.layout image (has_all is.layout is.low is.few is.worded) is.laid)

  module _ (s0 : State) (starts : StartsAt source s0) (m : Machine) (s : State) (since : Since) (l : CodeLine) where
    stands_at : Standing source f resolve fresolve image h.sound (size_fits f 2032 small) framed from beside by.laid h.objects s0 starts
        (entered source s0 starts) m →
        StandsAt is.layout (framed_of f) s0.core m
    stands_at standing =
        let at = point_of source f resolve fresolve image h.sound (size_fits f 2032 small) framed from beside by.laid h.objects s0 starts
        (entered source s0 starts) m standing in
        record { point = at.0; entry = by.entries m.counter at.0 at.2; stands = at.1 }

    pub stands_at_line : MachineAlong (program_of true source.blocks resolve) image (machine_start image s0) s0 m s since →
        StandsAt is.layout (framed_of f) s0.core m ⊎ FailsBeforeLine (program_of true source.blocks resolve) l since s
    stands_at_line along =
        elim (standing_along source f resolve fresolve image h.sound (size_fits f 2032 small) framed from beside by.laid h.objects s0 starts
        (entered source s0 starts) along)
        as (λ _. StandsAt is.layout (framed_of f) s0.core m ⊎ FailsBeforeLine (program_of true source.blocks resolve) l since s) [
          | inl standing ↦ inl (stands_at standing)
          | inr stopped ↦ inr (stopped_fails source f resolve fresolve image h.sound (size_fits f 2032 small) framed from beside by.laid h.objects s0 starts
              (entered source s0 starts) s since l stopped)
        ]

pub frames_stand : FramesStand
frames_stand source f resolve fresolve image h physical small is s0 starts m s since l along line =
    stands_at_line source f resolve fresolve image h physical small is s0 starts m s since l along
