use Rattle.std.proofs.Common.{◌≡◌, [], Option, Ok, Err, sym, ap, subst, ◌∙◌, rules}
use Rattle.read_refusal.specs.declared.kind.RefusalKind.{RefusalKind}
use Rattle.read_lexer.specs.declared.line.Line.{Line}
use Rattle.read_program.specs.BodyLines.{behind_line, Reads}
use Rattle.read_program.proofs.Lines.{stopped, goes_on, all_read}
use Rattle.read_program.proofs.body.read_lines.Goals as goal

-- a line that stands for none
none : Line
none = record { number = 0; text = [] }

pub returns-in-Some : goal.returns-in-Some
returns-in-Some c =
    let meta = c.args.meta.now in
    let body = c.loop-line.body in
    let here = c.line-item.result in
    let said : behind_line c.args.linked meta body c.as_slice.result.now ≡ Err c.in-Some.kind =
    subst (λ (x : Option RefusalKind). Reads (Ok x) c.take_line.new.body (behind_line c.args.linked meta body c.as_slice.result.now)) c.in-Some.is
    c.in_ok-cause.ensures.read in
    stopped c.args.linked meta c.args.lines.now c.loop-line.line-index here body c.in-Some.kind c.loop-line-test.true c.line-item.is c.loop-line.invariant.read
    (ap (behind_line c.args.linked meta body) (sym c.as_slice.ensures) ∙ said)

pub loop-line-preserved : goal.loop-line-preserved
loop-line-preserved c =
    let meta = c.args.meta.now in
    let body = c.loop-line.body in
    let here = c.line-item.result in
    let said : behind_line c.args.linked meta body c.as_slice.result.now ≡ Ok c.take_line.new.body =
    subst (λ (x : Option RefusalKind). Reads (Ok x) c.take_line.new.body (behind_line c.args.linked meta body c.as_slice.result.now)) c.in_default.is
    c.in_ok-cause.ensures.read in
    record {
      read = goes_on c.args.linked meta c.args.lines.now c.loop-line.line-index here body c.take_line.new.body c.loop-line-test.true c.line-item.is
          c.loop-line.invariant.read (ap (behind_line c.args.linked meta body) (sym c.as_slice.ensures) ∙ said);
      counted = search rules;
      few = search rules;
    }

pub returns : goal.returns
returns c = all_read c.args.linked c.args.meta.now c.args.lines.now c.loop-line.line-index none c.loop-line.body c.loop-line-test.false
    c.loop-line.invariant.read
