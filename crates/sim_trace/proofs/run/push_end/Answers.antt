use Rattle.std.proofs.Common.{◌≡◌, ◌++◌, codes, sym, subst}
use Rattle.std.specs.Prelude.{OnOk}
use Rattle.rv64_instr.specs.declared.decoded.Way.{Way}
use Rattle.rv64_instr.specs.declared.decoded.Way.TheVariants.{Back, Tail, Never}
use Rattle.sim_trace.specs.Lines.{return_line}
use Rattle.sim_trace.proofs.Lifting.{on_ok}
use Rattle.sim_trace.proofs.Stops.{TellsTarget, TellsWay, back_told, tail_told, never_told}
use Rattle.sim_trace.proofs.run.push_end.Goals as goal

pub returns-in-Back : goal.returns-in-Back
returns-in-Back c =
    let h = c.args.hart.now in
    let target = c.args.target in
    let text = c.args.text.now in
    let more = c.push_return.new.text in
    subst (λ (way : Way). OnOk c.push_return.result (TellsWay h target text more way)) (sym c.in-Back.is)
    (on_ok c.push_return.result (more ≡ text ++ return_line c.read.result) (TellsWay h target text more Back) c.push_return.ensures
    (λ is. back_told h target text more c.read.result c.read.ensures is))

pub returns-in-Tail : goal.returns-in-Tail
returns-in-Tail c =
    let h = c.args.hart.now in
    let target = c.args.target in
    let text = c.args.text.now in
    let more = c.push_left.new.text in
    let callee = c.in-Tail.field-0 in
    subst (λ (way : Way). OnOk c.push_left.result (TellsWay h target text more way)) (sym c.in-Tail.is)
    (on_ok c.push_left.result (TellsTarget target text more (codes "stop tailed ")) (TellsWay h target text more (Tail callee))
    c.push_left.ensures (λ told. tail_told h target text more callee told))

pub returns-in-Never : goal.returns-in-Never
returns-in-Never c =
    let h = c.args.hart.now in
    let target = c.args.target in
    let text = c.args.text.now in
    let more = c.push_left-in-Never.new.text in
    let callee = c.in-Never.field-0 in
    subst (λ (way : Way). OnOk c.push_left-in-Never.result (TellsWay h target text more way)) (sym c.in-Never.is)
    (on_ok c.push_left-in-Never.result (TellsTarget target text more (codes "stop gone ")) (TellsWay h target text more (Never callee))
    c.push_left-in-Never.ensures (λ told. never_told h target text more callee told))
