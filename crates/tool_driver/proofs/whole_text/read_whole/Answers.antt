use Rattle.std.proofs.Common.{List, ℕ, sym, subst}
use Rattle.std.proofs.lemmas.Result.{IfOk-weaker, IfErr-weaker}
use Rattle.readback_strip.specs.readback_functions.Bytes.{AreBytes}
use Rattle.tool_driver.specs.Run.{HasRead, HasReadLines}
use Rattle.tool_driver.specs.steps.Ends.{HasReadNone}
use Rattle.tool_driver.specs.Stream.{change}
use Rattle.tool_driver.proofs.Inputs.{refuses_input}
use Rattle.tool_driver.proofs.whole_text.read_whole.Goals as goal

pub returns-in-Ok-clause-ok : goal.returns-in-Ok-clause-ok
returns-in-Ok-clause-ok g c =
    let input = change g.S.Source.left g.S.Source.faults c.args.input.now c.read_all.new.input in
    let text = c.as_slice.result.now in
    let read : HasRead input text =
    subst (λ (t : List ℕ). HasRead input t) (sym c.as_slice.ensures) (record {
      whole = record { takes = c.in-Ok.ensures.all; ended = c.in-Ok.ensures.end; steady = c.in-Ok.ensures.steady };
      within = c.in-Ok.ensures.within;
      bytes = subst (λ (t : List ℕ). AreBytes t) c.as_slice.ensures c.program_in.ensures.bytes;
    }) in
    IfOk-weaker c.program_in.result _ (λ t. HasReadLines c.args.linked input t.lines t.program)
    (λ t is. record { text = text; read = read; has = is.0; of = is.1 }) c.program_in.ensures.ok

pub returns-in-Ok-clause-err : goal.returns-in-Ok-clause-err
returns-in-Ok-clause-err g c =
    let input = change g.S.Source.left g.S.Source.faults c.args.input.now c.read_all.new.input in
    let text = c.as_slice.result.now in
    let read : HasRead input text =
    subst (λ (t : List ℕ). HasRead input t) (sym c.as_slice.ensures) (record {
      whole = record { takes = c.in-Ok.ensures.all; ended = c.in-Ok.ensures.end; steady = c.in-Ok.ensures.steady };
      within = c.in-Ok.ensures.within;
      bytes = subst (λ (t : List ℕ). AreBytes t) c.as_slice.ensures c.program_in.ensures.bytes;
    }) in
    IfErr-weaker c.program_in.result _ (HasReadNone c.args.linked input) (refuses_input c.args.linked input text read) c.program_in.ensures.err

pub returns-in-Err-Failed-clause-err : goal.returns-in-Err-Failed-clause-err
returns-in-Err-Failed-clause-err g c = c.in-Err-Failed.ensures.failed cc

pub returns-in-Err-TooLong-clause-err : goal.returns-in-Err-TooLong-clause-err
returns-in-Err-TooLong-clause-err g c = record { takes = c.in-Err-TooLong.ensures.too_long cc; steady = c.in-Err-TooLong.ensures.no_fault cc }
