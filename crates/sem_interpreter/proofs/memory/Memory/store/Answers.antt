use Rattle.std.proofs.Common.{arith}
use Rattle.sem_mir.specs.State.{updated}
use Rattle.sem_interpreter.proofs.MemoryLoops.{memory_put, stored_first, stored_turn}
use Rattle.sem_interpreter.proofs.memory.Memory.store.Goals as goal

pub loop-k-init : goal.loop-k-init
loop-k-init c = record {
  room = let r = c.in_ok-reserve.ensures.ok in omega (arith, r);
  holds = λ held h. (held, h, stored_first held c.args.address c.args.count c.args.number);
}

pub loop-k-preserved : goal.loop-k-preserved
loop-k-preserved c = record {
  room = let r = c.in_ok-insert.ensures.spare in let k = c.loop-k.invariant.room in omega (arith, r, k);
  holds = λ held h.
      let w = c.loop-k.invariant.holds held h in (
        updated _ _ w.0,
        memory_put _ _ w.0 _ _ w.1 c.in_ok-insert.ensures.updates.0,
        stored_turn w.0 c.args.address c.loop-k.k c.args.count c.loop-k.rest _ c.loop-k-test.true w.2,
      );
}
