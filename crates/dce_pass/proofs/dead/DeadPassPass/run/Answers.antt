use Rattle.std.proofs.Common.{◌<◌, ◌^◌, List, arith}
use Rattle.mir_func.specs.declared.debug_substitution.DebugSubstitution.{DebugSubstitution}
use Rattle.mir_func.specs.Function.{Function}
use Rattle.pass_trait.specs.Change.{change}
use Rattle.pass_trait.specs.Sizes.{code_count, KeepsSizes}
use Rattle.pass_trait.specs.Steps.{KeepsSteps}
use Rattle.dce_pass.specs.Rounds.{AreDeadRounds}
use Rattle.dce_pass.specs.Steps.{dead_steps}
use Rattle.dce_pass.proofs.Counted.{code_is_items}
use Rattle.dce_pass.proofs.Results.{if_ok}
use Rattle.dce_pass.proofs.dead.DeadPassPass.run.Goals as goal

pub dead_rounds-requires : goal.dead_rounds-requires
dead_rounds-requires c = let h = c.requires.numbers in omega (arith, h)

pub returns-clause-follows : goal.returns-clause-follows
returns-clause-follows c =
    let f : Function = c.args.f.now in
    let g : Function = c.dead_rounds.new.f in
    let subs : List DebugSubstitution = c.args.subs.now in
    let more : List DebugSubstitution = c.dead_rounds.new.subs in
    if_ok c.dead_rounds.result (AreDeadRounds f subs g more) _ c.dead_rounds.ensures.rounds
    (λ losses rounds fits. (c.rounds_keep.ensures f g subs more losses c.dead_rounds.ensures.sound rounds).follows)

pub returns-clause-steps : goal.returns-clause-steps
returns-clause-steps c =
    let f : Function = c.args.f.now in
    let g : Function = c.dead_rounds.new.f in
    let subs : List DebugSubstitution = c.args.subs.now in
    let more : List DebugSubstitution = c.dead_rounds.new.subs in
    let room = c.requires.numbers in
    let code = code_is_items f in
    let less : code_count f < 2 ^ 31 = omega (arith, room, code) in
    if_ok c.dead_rounds.result (AreDeadRounds f subs g more) (KeepsSteps dead_steps (change f subs g more)) c.dead_rounds.ensures.rounds
    (λ losses rounds. c.rounds_keep_steps.ensures.steps f g subs more losses c.dead_rounds.ensures.sound less rounds)

pub returns-clause-sizes : goal.returns-clause-sizes
returns-clause-sizes c =
    let f : Function = c.args.f.now in
    let g : Function = c.dead_rounds.new.f in
    let subs : List DebugSubstitution = c.args.subs.now in
    let more : List DebugSubstitution = c.dead_rounds.new.subs in
    if_ok c.dead_rounds.result (AreDeadRounds f subs g more) (λ losses. KeepsSizes 1 1 (change f subs g more)) c.dead_rounds.ensures.rounds
    (λ losses rounds. (c.rounds_keep.ensures f g subs more losses c.dead_rounds.ensures.sound rounds).sizes)
