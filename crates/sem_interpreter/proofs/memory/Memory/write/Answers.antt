use Rattle.std.proofs.Common.{arith}
use Rattle.sem_mir.specs.State.{updated}
use Rattle.sem_interpreter.proofs.MemoryLoops.{memory_put, written_some, written_none, written_end}
use Rattle.sem_interpreter.proofs.memory.Memory.write.Goals as goal
use Rattle.sem_interpreter.proofs.memory.Memory.write.Goals.{in-Some+in_ok-insert, in_default}

pub loop-write-preserved : goal.loop-write-preserved
loop-write-preserved c = elim c.match-write.branch [
  | in-Some+in_ok-insert w ↦ rw w.self-inside-is (record {
    room = (let r = w.in_ok-insert.ensures.spare in let k = c.loop-write.invariant.room in omega (arith, r, k));
    holds = λ held h.
        let q = c.loop-write.invariant.holds held h in (
          updated _ _ q.0,
          memory_put _ _ q.0 _ _ q.1 w.in_ok-insert.ensures.updates.0,
          written_some q.0 c.args.writes.now c.loop-write.write-index _
              (w.in-Some.address, w.in-Some.byte) _ c.loop-write-test.true w.in-Some.is q.2,
        );
  })
  | in_default w ↦ rw w.self-inside-is (record {
    room = (let k = c.loop-write.invariant.room in omega (arith, k));
    holds = λ held h. let q = c.loop-write.invariant.holds held h in
        (q.0, q.1, written_none q.0 c.args.writes.now c.loop-write.write-index _ _ c.loop-write-test.true w.in_default.is q.2);
  })
]

pub returns-clause-ok : goal.returns-clause-ok
returns-clause-ok c = λ held h.
    let q = c.loop-write.invariant.holds held (rw (c.in_ok-reserve.ensures.entries, c.self.view_is) h) in
    written_end _ q.0 _ c.args.writes.now c.loop-write.write-index (omega arith) q.1 q.2
