use Rattle.std.proofs.Common.{Ok, Err, Some, None, refl, ◌∙◌}
use Rattle.read_program.specs.declared.error.ParseError.TheVariants as errors
use Rattle.read_program.specs.Program.{FunctionsFrom}
use Rattle.read_input.specs.declared.partial.PartialProgram.{PartialProgram}
use Rattle.read_input.proofs.Program.{emptied, has_read_all}
use Rattle.read_input.proofs.partial.PartialProgram.read_on.Goals as goal

pub returns-in-Ok-clause-read : goal.returns-in-Ok-clause-read
returns-in-Ok-clause-read c =
    let old = c.args.self.now in
    let meta = c.in_ok-meta.meta in
    let waiting = c.as_slice.result.now in
    let before = c.replace-before.result in
    let said : FunctionsFrom meta before waiting (Ok c.in-Ok.functions) = c.in-Ok.ensures in
    let new : PartialProgram = record old {
      scan = record old.scan { meta = c.new.result; functions = c.replace-waiting.new.dest };
      meta = Some meta;
      functions = c.in-Ok.functions;
      refused = None;
    } in
    has_read_all old new meta c.take.result waiting before c.take.ensures.value (c.as_slice.ensures ∙ c.replace-waiting.ensures.value)
    c.replace-before.ensures.value c.in_ok-meta.ensures refl (emptied old.scan c.new.result c.replace-waiting.new.dest c.new.ensures
    (c.replace-waiting.ensures.after ∙ c.new-2.ensures)) said

pub returns-in-Err-Refused-clause-read : goal.returns-in-Err-Refused-clause-read
returns-in-Err-Refused-clause-read c =
    let old = c.args.self.now in
    let meta = c.in_ok-meta.meta in
    let waiting = c.as_slice.result.now in
    let before = c.replace-before.result in
    let said : FunctionsFrom meta before waiting (Err (errors.Refused c.in-Err-Refused.refusal)) =
    rw c.in-Err-Refused.field-0-is at c.in-Err-Refused.ensures in
    let new : PartialProgram = record old {
      scan = record old.scan { meta = c.new.result; functions = c.replace-waiting.new.dest };
      meta = Some meta;
      functions = c.replace-before.new.dest;
      refused = Some c.in-Err-Refused.refusal;
    } in
    has_read_all old new meta c.take.result waiting before c.take.ensures.value (c.as_slice.ensures ∙ c.replace-waiting.ensures.value)
    c.replace-before.ensures.value c.in_ok-meta.ensures refl (emptied old.scan c.new.result c.replace-waiting.new.dest c.new.ensures
    (c.replace-waiting.ensures.after ∙ c.new-2.ensures)) said
