use Rattle.std.proofs.Common.{arith, refl}
use Rattle.rv64_instr.specs.DefsAndUses.{caller_saved}
use Rattle.sem_mir.specs.State.{put}
use Rattle.sem_interpreter.proofs.RunLoops.{put_holds, set_keeps, each_between, put_all_turn}
use Rattle.sem_interpreter.proofs.registers.Registers.write_caller_saved.Goals as goal

pub index_mut-requires : goal.index_mut-requires
index_mut-requires c =
    let k = each_between caller_saved 32 refl refl c.loop-i.i (omega arith) in
    let l = c.loop-i.invariant.are.long in omega (arith, k.1, l)

pub loop-i-preserved : goal.loop-i-preserved
loop-i-preserved c =
    let k = each_between caller_saved 32 refl refl c.loop-i.i (omega arith) in
    let l = c.loop-i.invariant.are.long in
    record {
      are = set_keeps _ _ _ c.loop-i.invariant.are k.0;
      holds = λ held h.
          let w = c.loop-i.invariant.holds held h in
          (put _ _ w.0, put_holds _ w.0 _ _ k.0 (omega (arith, k.1, l)) w.1, put_all_turn caller_saved c.args.values.now c.loop-i.i w.0 _ (omega arith) w.2);
    }
