use Rattle.std.proofs.Common.{sym}
use Rattle.sem_interpreter.proofs.Rows.{branches_goes, branches_falls, branches_faults_first, branches_faults_second, faults}
use Rattle.sem_interpreter.proofs.machine.InterpreterState.branch.Goals as goal

pub returns-then-is_taken : goal.returns-then-is_taken
returns-then-is_taken c =
    branches_goes c.args.self.now c.args.a c.args.b c.in-Some.x c.in-Some-read.y c.args.target c.args.op c.in-Some.ensures c.in-Some-read.ensures
    (sym c.if-is_taken.ensures)

pub returns-else-is_taken : goal.returns-else-is_taken
returns-else-is_taken c =
    branches_falls c.args.self.now c.args.a c.args.b c.in-Some.x c.in-Some-read.y c.args.target c.args.op c.in-Some.ensures c.in-Some-read.ensures
    (sym c.if-is_taken.ensures)

pub returns-in_default : goal.returns-in_default
returns-in_default c = faults c.args.self.now _ (branches_faults_first c.args.self.now c.args.a c.args.b c.args.target c.args.op c.in_default.ensures)

pub returns-in_default-read : goal.returns-in_default-read
returns-in_default-read c =
    faults c.args.self.now _ (branches_faults_second c.args.self.now c.args.a c.args.b c.args.target c.args.op c.in_default-read.ensures)
