use Rattle.std.proofs.Common.{sym, ◌∙◌, inr}
use Rattle.std.specs.Prelude.{map, string_bytes}
use Rattle.tool_driver.specs.Stream.{change}
use Rattle.tool_driver.proofs.RunLemmas.{refusal, complete}
use Rattle.tool_driver.proofs.Kept.{headline_kept, registers_kept, stops_at_returns, wrote_exactly, wrote_kept, wrote_laid_out}
use Rattle.tool_driver.proofs.Kept.{wrote_words, wrote_passed, wrote_frame_section, wrote_unwinding, wrote_ranges_section}
use Rattle.tool_driver.proofs.Stripped.{wrote_stripped}
use Rattle.tool_driver.proofs.Generated.{wrote_generated}
use Rattle.tool_driver.proofs.Written.{wrote_report, wrote_object, wrote_run, wrote_test}
use Rattle.tool_driver.proofs.driver.mirdwarf.Goals as goal

pub returns-in-Err-clause-refused : goal.returns-in-Err-clause-refused
returns-in-Err-clause-refused g c refused =
    refusal (map string_bytes c.args.words.now) (change g.S.Source.left g.S.Source.faults c.args.input.now c.run.new.input)
    (change g.K.Sink.written g.K.Sink.faults c.args.output.now c.run.new.output)
    (change g.E.Sink.written g.E.Sink.faults c.args.faults.now c.tell.new.faults)
    c.in-Err.fault (sym c.tell.ensures.status ∙ refused) c.in-Err.ensures.err c.tell.ensures.line

pub returns-in-Ok-clause-headline : goal.returns-in-Ok-clause-headline
returns-in-Ok-clause-headline g c plan done =
    headline_kept (map string_bytes c.args.words.now) (change g.S.Source.left g.S.Source.faults c.args.input.now c.run.new.input)
    (change g.K.Sink.written g.K.Sink.faults c.args.output.now c.run.new.output) c.in-Ok.ensures.done plan

pub returns-in-Ok-clause-callee_saved : goal.returns-in-Ok-clause-callee_saved
returns-in-Ok-clause-callee_saved g c plan done =
    registers_kept (map string_bytes c.args.words.now) (change g.S.Source.left g.S.Source.faults c.args.input.now c.run.new.input)
    (change g.K.Sink.written g.K.Sink.faults c.args.output.now c.run.new.output) c.in-Ok.ensures.done plan

pub returns-in-Ok-clause-stops : goal.returns-in-Ok-clause-stops
returns-in-Ok-clause-stops g c plan done =
    stops_at_returns (map string_bytes c.args.words.now) (change g.S.Source.left g.S.Source.faults c.args.input.now c.run.new.input)
    (change g.K.Sink.written g.K.Sink.faults c.args.output.now c.run.new.output) c.in-Ok.ensures.done plan

pub returns-in-Ok-clause-exact : goal.returns-in-Ok-clause-exact
returns-in-Ok-clause-exact g c plan done =
    wrote_exactly (map string_bytes c.args.words.now) (change g.S.Source.left g.S.Source.faults c.args.input.now c.run.new.input)
    (change g.K.Sink.written g.K.Sink.faults c.args.output.now c.run.new.output) c.in-Ok.ensures.done plan

pub returns-in-Ok-clause-kept : goal.returns-in-Ok-clause-kept
returns-in-Ok-clause-kept g c plan done =
    wrote_kept (map string_bytes c.args.words.now) (change g.S.Source.left g.S.Source.faults c.args.input.now c.run.new.input)
    (change g.K.Sink.written g.K.Sink.faults c.args.output.now c.run.new.output) c.in-Ok.ensures.done plan

pub returns-in-Ok-clause-laid_out : goal.returns-in-Ok-clause-laid_out
returns-in-Ok-clause-laid_out g c plan done =
    wrote_laid_out (map string_bytes c.args.words.now) (change g.S.Source.left g.S.Source.faults c.args.input.now c.run.new.input)
    (change g.K.Sink.written g.K.Sink.faults c.args.output.now c.run.new.output) c.in-Ok.ensures.done plan

pub returns-in-Ok-clause-passed : goal.returns-in-Ok-clause-passed
returns-in-Ok-clause-passed g c plan done =
    wrote_passed (map string_bytes c.args.words.now) (change g.S.Source.left g.S.Source.faults c.args.input.now c.run.new.input)
    (change g.K.Sink.written g.K.Sink.faults c.args.output.now c.run.new.output) c.in-Ok.ensures.done plan

pub returns-in-Ok-clause-words : goal.returns-in-Ok-clause-words
returns-in-Ok-clause-words g c plan done =
    wrote_words (map string_bytes c.args.words.now) (change g.S.Source.left g.S.Source.faults c.args.input.now c.run.new.input)
    (change g.K.Sink.written g.K.Sink.faults c.args.output.now c.run.new.output) c.in-Ok.ensures.done plan

pub returns-in-Ok-clause-frame_section : goal.returns-in-Ok-clause-frame_section
returns-in-Ok-clause-frame_section g c plan done =
    wrote_frame_section (map string_bytes c.args.words.now) (change g.S.Source.left g.S.Source.faults c.args.input.now c.run.new.input)
    (change g.K.Sink.written g.K.Sink.faults c.args.output.now c.run.new.output) c.in-Ok.ensures.done plan

pub returns-in-Ok-clause-unwinds : goal.returns-in-Ok-clause-unwinds
returns-in-Ok-clause-unwinds g c plan done =
    wrote_unwinding (map string_bytes c.args.words.now) (change g.S.Source.left g.S.Source.faults c.args.input.now c.run.new.input)
    (change g.K.Sink.written g.K.Sink.faults c.args.output.now c.run.new.output) c.in-Ok.ensures.done plan

pub returns-in-Ok-clause-ranges_section : goal.returns-in-Ok-clause-ranges_section
returns-in-Ok-clause-ranges_section g c plan done =
    wrote_ranges_section (map string_bytes c.args.words.now) (change g.S.Source.left g.S.Source.faults c.args.input.now c.run.new.input)
    (change g.K.Sink.written g.K.Sink.faults c.args.output.now c.run.new.output) c.in-Ok.ensures.done plan

pub returns-in-Ok-clause-reported : goal.returns-in-Ok-clause-reported
returns-in-Ok-clause-reported g c plan done =
    wrote_report (map string_bytes c.args.words.now) (change g.S.Source.left g.S.Source.faults c.args.input.now c.run.new.input)
    (change g.K.Sink.written g.K.Sink.faults c.args.output.now c.run.new.output) c.in-Ok.ensures.done plan

pub returns-in-Ok-clause-object : goal.returns-in-Ok-clause-object
returns-in-Ok-clause-object g c plan done =
    wrote_object (map string_bytes c.args.words.now) (change g.S.Source.left g.S.Source.faults c.args.input.now c.run.new.input)
    (change g.K.Sink.written g.K.Sink.faults c.args.output.now c.run.new.output) c.in-Ok.ensures.done plan

pub returns-in-Ok-clause-ran : goal.returns-in-Ok-clause-ran
returns-in-Ok-clause-ran g c plan done =
    wrote_run (map string_bytes c.args.words.now) (change g.S.Source.left g.S.Source.faults c.args.input.now c.run.new.input)
    (change g.K.Sink.written g.K.Sink.faults c.args.output.now c.run.new.output) c.in-Ok.ensures.done plan

pub returns-in-Ok-clause-tested : goal.returns-in-Ok-clause-tested
returns-in-Ok-clause-tested g c test done =
    wrote_test (map string_bytes c.args.words.now) (change g.S.Source.left g.S.Source.faults c.args.input.now c.run.new.input)
    (change g.K.Sink.written g.K.Sink.faults c.args.output.now c.run.new.output) c.in-Ok.ensures.done test

pub returns-in-Ok-clause-stripped : goal.returns-in-Ok-clause-stripped
returns-in-Ok-clause-stripped g c linked done =
    wrote_stripped linked (map string_bytes c.args.words.now) (change g.S.Source.left g.S.Source.faults c.args.input.now c.run.new.input)
    (change g.K.Sink.written g.K.Sink.faults c.args.output.now c.run.new.output) c.in-Ok.ensures.done

pub returns-in-Ok-clause-generated : goal.returns-in-Ok-clause-generated
returns-in-Ok-clause-generated g c generation done =
    wrote_generated (map string_bytes c.args.words.now) (change g.S.Source.left g.S.Source.faults c.args.input.now c.run.new.input)
    (change g.K.Sink.written g.K.Sink.faults c.args.output.now c.run.new.output) c.in-Ok.ensures.done generation

pub returns-in-Err-clause-complete : goal.returns-in-Err-clause-complete
returns-in-Err-clause-complete g c command asked form no_read no_write =
    inr (c.tell.ensures.status ∙ complete command (map string_bytes c.args.words.now)
    (change g.S.Source.left g.S.Source.faults c.args.input.now c.run.new.input)
    (change g.K.Sink.written g.K.Sink.faults c.args.output.now c.run.new.output) asked form no_read no_write c.in-Err.fault c.in-Err.ensures.err)
