use Rattle.std.proofs.Common.{arith}
use Rattle.sem_interpreter.specs.Memory.{number_in}
use Rattle.sem_interpreter.proofs.MemoryLoops.{power_small, power_next, spelled_turn}
use Rattle.sem_interpreter.proofs.memory.Memory.spelled.Goals as goal

pub overflow_mul-number : goal.overflow_mul-number
overflow_mul-number c =
    let b = c.loop-i.invariant.below in
    let s = power_small c.loop-i.i (omega arith) in
    omega (arith, b, s)

pub overflow_add-number : goal.overflow_add-number
overflow_add-number c =
    let b = c.loop-i.invariant.below in
    let s = power_small c.loop-i.i (omega arith) in
    let t = c.from.ensures in
    omega (arith, b, s, t)

pub loop-i-preserved : goal.loop-i-preserved
loop-i-preserved c =
    let b = c.loop-i.invariant.below in
    let v = c.loop-i.invariant.value in
    let t = c.from.ensures in
    let e = c.byte.ensures in
    let p = power_next c.loop-i.i in
    let s = spelled_turn (number_in c.args.self.now) c.args.address c.args.count c.loop-i.i c.loop-i-test.true in
    record { value = omega (arith, v, t, e, s); below = omega (arith, b, p, t) }
