-- The headline speaks of each state that the simulator comes to.
use Rattle.std.proofs.Common.{◌⊎◌, ℕ, List, [], Option, true, sym, inl, inr}
use Rattle.std.proofs.lemmas.List.{append-nil}
use Rattle.rv64_instr.specs.declared.place.Place.{Place}
use Rattle.rv64_instr.specs.declared.start.CallEvent.{CallEvent}
use Rattle.mir_func.specs.declared.debug_substitution.OperandPair.{OperandPair}
use Rattle.mir_func.specs.declared.variable.VarId.{VarId}
use Rattle.mir_func.specs.Function.{Function}
use Rattle.mir_func.specs.Graph.{program_of}
use Rattle.sem_mir.specs.State.{State, Reply, IsReply}
use Rattle.sem_machine.specs.Headline.{Headline, StartsAt}
use Rattle.sem_machine.specs.HeadlineLaws.{HasFailed}
use Rattle.sem_machine.specs.Image.{Image}
use Rattle.sem_machine.specs.Machine.{machine_start}
use Rattle.sem_machine.proofs.EveryStep.{headline_reaches_every_step}
use Rattle.sim_machine.specs.declared.hart.Hart.{Hart}
use Rattle.sim_machine.specs.Kept.{StandsFor}
use Rattle.sim_proof.specs.Runs.{WereGiven, ComesTo}
use Rattle.sim_proof.specs.Headline.{with_script, ComesAlong, IsBeside, RunsMeetTheHeadline}
use Rattle.sim_proof.proofs.Runs.{all_given, runs_are_the_machines}

module _ (gives : CallEvent → Reply → Type 0) (lists : VarId → (address : ℕ) → Place → Type 0) (source : Function)
    (resolve : OperandPair → Option OperandPair) (image : Image) (headline : Headline source resolve image lists)
    (sound : (e : CallEvent) (r : Reply) → gives e r → IsReply r) where
  -- the same start with other answers
  starts_with : (answers : List Reply) (s0 : State) → StartsAt source s0 → WereGiven gives 1 answers → StartsAt source (with_script answers s0)
  starts_with answers s0 start given = record {
    pos = start.pos;
    regs = start.regs;
    virtual = start.virtual;
    pointer = start.pointer;
    room = start.room;
    area = start.area;
    objects = start.objects;
    slots = start.slots;
    memory = start.memory;
    script = all_given gives 1 IsReply answers sound given;
    events = start.events;
    pairs = start.pairs;
    marks = start.marks;
  }

  stands_with : (answers : List Reply) (s0 : State) (from : Hart) → StandsFor from (machine_start image s0) →
      StandsFor from (machine_start image (with_script answers s0))
  stands_with answers s0 from h =
      record { entry = h.entry; area = h.area; symbols = h.symbols; counter = h.counter; regs = h.regs; memory = h.memory; calls = h.calls }

  beside : (answers : List Reply) (s0 : State) (now : Hart) → StartsAt source s0 →
      ComesTo gives image answers [] now (machine_start image (with_script answers s0)) →
      IsBeside (program_of true source.blocks resolve) image lists (with_script answers s0) now
  beside answers s0 now start come =
      let t0 = with_script answers s0 in
      let begin : StartsAt source t0 = starts_with answers s0 start come.given in
      record {
        machine = come.to;
        stands = come.stands;
        comes = come.comes;
        well = headline.stops t0 begin come.to come.comes;
        meets = elim (headline_reaches_every_step lists source resolve image headline t0 begin come.to come.comes)
            as (λ _. ComesAlong (program_of true source.blocks resolve) image lists (machine_start image t0) t0 come.to
            ⊎ HasFailed (program_of true source.blocks resolve) image (machine_start image t0) t0) [
              | inl h ↦ inl (record { come = h; agrees = λ l e. headline.agrees t0 begin come.to h.aligned h.since l h.along e })
              | inr failed ↦ inr failed
            ];
      }

pub runs_meet_the_headline : (gives : CallEvent → Reply → Type 0) (lists : VarId → (address : ℕ) → Place → Type 0) → RunsMeetTheHeadline gives lists
runs_meet_the_headline gives lists source resolve image c from now s0 headline shows sound start stands run =
    let r = runs_are_the_machines gives c from now run in
    let come = r.1 image (machine_start image (with_script r.0 s0)) [] shows (stands_with gives lists source resolve image headline sound r.0 s0 from stands)
    (sym (append-nil r.0)) in
    (r.0, beside gives lists source resolve image headline sound r.0 s0 now start come)
