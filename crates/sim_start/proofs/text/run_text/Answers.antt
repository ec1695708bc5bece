use Rattle.std.proofs.Common.{ℕ, List, Result, Ok, Err, arith}
use Rattle.std.specs.Result.{IfOk}
use Rattle.sim_start.proofs.Asked.{asked}
use Rattle.sim_start.proofs.text.run_text.Goals as goal

if_ok : {E : Type 0} (r : Result (List ℕ) E) (P Q : List ℕ → Type 0) → ((text : List ℕ) → P text → Q text) → IfOk r P → IfOk r Q
if_ok (Ok text) P Q f h = f text h
if_ok (Err e) P Q f h = tt

pub returns : goal.returns
returns c =
    if_ok c.print_run.result _ _
    (λ text h. asked c.args.code.now c.args.symbols c.args.arguments.now c.args.values c.start_with-start.result c.args.variables.now c.args.limit text
    (omega arith) c.start_with-start.ensures.regs c.start_with-start.ensures.memory c.start_with-start.ensures.symbols h) c.print_run.ensures
