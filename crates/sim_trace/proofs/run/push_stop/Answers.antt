use Rattle.std.proofs.Common.{◌≡◌, ◌++◌, codes, sym, subst}
use Rattle.std.specs.Prelude.{OnOk}
use Rattle.sim_machine.specs.declared.ending.Stop.{Stop}
use Rattle.sim_machine.specs.declared.ending.Stop.TheVariants.{Ended, Left, BadWord}
use Rattle.sim_machine.specs.declared.hart.Hart.{Hart}
use Rattle.sim_trace.specs.steps.Printed.{IsStopAdded}
use Rattle.sim_trace.proofs.Lifting.{on_ok}
use Rattle.sim_trace.proofs.Stops.{TellsWay, ended_added, left_added, bad_word_added}
use Rattle.sim_trace.proofs.run.push_stop.Goals as goal

pub returns-in_ok-target-in-Ended : goal.returns-in_ok-target-in-Ended
returns-in_ok-target-in-Ended g c =
    let m = c.args.machine.now in
    let text = c.args.text.now in
    let more = c.push_end.new.text in
    let way = c.in-Ended.way in
    let target = c.in_ok-target-in-Ended.target in
    subst (λ (stop : Stop). OnOk c.push_end.result (IsStopAdded m.code stop m.hart text more)) (sym c.in-Ended.is)
    (on_ok c.push_end.result (TellsWay c.hart.result.now target text more way) (IsStopAdded m.code (Ended way) m.hart text more) c.push_end.ensures
    (λ told. ended_added m.code way target m.hart text more c.in_ok-target-in-Ended.ensures
    (subst (λ (h : Hart). TellsWay h target text more way) c.hart.ensures told)))

pub returns-in-Left : goal.returns-in-Left
returns-in-Left g c =
    let m = c.args.machine.now in
    let text = c.args.text.now in
    let more = c.push_str.new.text in
    subst (λ (stop : Stop). OnOk c.push_str.result (IsStopAdded m.code stop m.hart text more)) (sym c.in-Left.is)
    (on_ok c.push_str.result (more ≡ text ++ codes "stop left\n") (IsStopAdded m.code Left m.hart text more) c.push_str.ensures.ok
    (λ is. left_added m.code m.hart text more is))

pub returns-in-BadWord : goal.returns-in-BadWord
returns-in-BadWord g c =
    let m = c.args.machine.now in
    let text = c.args.text.now in
    let more = c.push_str-in-BadWord.new.text in
    subst (λ (stop : Stop). OnOk c.push_str-in-BadWord.result (IsStopAdded m.code stop m.hart text more)) (sym c.in-BadWord.is)
    (on_ok c.push_str-in-BadWord.result (more ≡ text ++ codes "stop bad word\n") (IsStopAdded m.code (BadWord c.in-BadWord.field-0) m.hart text more)
    c.push_str-in-BadWord.ensures.ok (λ is. bad_word_added m.code c.in-BadWord.field-0 m.hart text more is))
