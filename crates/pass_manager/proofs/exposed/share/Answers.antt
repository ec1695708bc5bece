use Rattle.std.proofs.Common.{arith}
use Rattle.pass_trait.specs.Change.{change}
use Rattle.pass_manager.proofs.Sharing.{share_shown}
use Rattle.pass_manager.proofs.exposed.share.Goals as goal

pub run-requires-clause-numbers : goal.run-requires-clause-numbers
run-requires-clause-numbers c = let room = c.requires.numbers in omega (arith, room)

pub run-requires-clause-slots : goal.run-requires-clause-slots
run-requires-clause-slots c = let room = c.requires.slots in omega (arith, room)

pub returns-clause-told : goal.returns-clause-told
returns-clause-told c = record { lost = c.in_ok-lost.lost; kept = c.in_ok-lost.ensures.steps; are_told = c.told.ensures }

pub returns-clause-shown : goal.returns-clause-shown
returns-clause-shown c =
    share_shown c.args.shares (change c.args.f.now c.args.subs.now c.run.new.f c.run.new._subs) c.in_ok-lost.lost c.in_ok-lost.ensures.steps
