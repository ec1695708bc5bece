use Rattle.std.proofs.Common.{◌↔◌, ℕ, List, IsTrue, sym, subst}
use Rattle.rv64_instr.specs.declared.decoded.Decoded.{Decoded}
use Rattle.rv64_instr.specs.Decoded.{Shows}
use Rattle.rv64_instr.specs.Row.{Row, outgoing_words}
use Rattle.mir_func.specs.Sound.{BeginWith, PassesFirst}
use Rattle.mir_func.proofs.sound.is_row_passing_first.Goals as goal

pub returns-in-Calls : goal.returns-in-Calls
returns-in-Calls c = λ row shows outgoing.
    let answer = c.begin_with.result in
    let slots = c.args.slots.now in
    let shown = subst (λ (d : Decoded). Shows d row) c.in-Calls.is shows in
    subst (λ (r : Row). IsTrue answer ↔ PassesFirst slots r) (sym shown.1)
    (subst (λ (ns : List ℕ). IsTrue answer ↔ BeginWith slots ns) (sym (outgoing shown.0 shown.1))
    (subst (λ (ss : List ℕ). IsTrue answer ↔ BeginWith ss (outgoing_words c.args.operands.now)) c.as_slice.ensures c.begin_with.ensures))
