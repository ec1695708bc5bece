use Rattle.std.proofs.Common.{List, Ok, Err, sym, ◌∙◌, arith}
use Rattle.std.proofs.lemmas.Result.{err_from_is_err_and}
use Rattle.read_lexer.proofs.Scan.{passes_blank, passes_token, token_there-spans, stops, ends, gives_fault}
use Rattle.read_lexer.specs.declared.parts.Token.{Token}
use Rattle.read_lexer.specs.Line.{Gives, tokens_of}
use Rattle.read_lexer.proofs.Laws.{spans_of, longest_of, bad_byte_of, unclosed_of}
use Rattle.read_lexer.proofs.lexer.tokens.Goals as goal

pub loop-at-preserved-then-is_blank : goal.loop-at-preserved-then-is_blank
loop-at-preserved-then-is_blank c = record {
  within = omega arith;
  read = sym (passes_blank c.args.floats c.loop-at.tokens c.loop-at.at c.args.line.now c.loop-at-test.true (sym c.if-is_blank.ensures)) ∙ c.loop-at.invariant.read;
}

pub returns-in_err-token : goal.returns-in_err-token
returns-in_err-token c =
    let p = err_from_is_err_and c.from_residual-in_err-token.result c.from_residual-in_err-token.ensures.1 in
    let exact : Gives {A = List Token} (Err c.in_err-token.field-0.0) (tokens_of c.args.floats c.args.line.now) =
    gives_fault c.in_err-token.field-0.0 _ (sym c.loop-at.invariant.read ∙ stops c.args.floats c.loop-at.tokens c.loop-at.at c.args.line.now _ c.loop-at-test.true (sym
    c.if-is_blank.ensures) (sym c.in_err-token.ensures)) in
    rw (p.1, p.2) record {
      exact = exact;
      spans = tt;
      longest = tt;
      bad_byte = λ at is. bad_byte_of c.args.floats c.args.line.now (Err c.in_err-token.field-0.0) at exact is;
      unclosed = λ at is. unclosed_of c.args.floats c.args.line.now (Err c.in_err-token.field-0.0) at exact is;
    }

pub loop-at-smaller : goal.loop-at-smaller
loop-at-smaller c =
    let spans = token_there-spans c.args.floats c.loop-at.at c.args.line.now c.in_ok-token.token c.loop-at-test.true (sym c.in_ok-token.ensures) in
    omega (arith, spans.1, spans.2)

pub loop-at-preserved : goal.loop-at-preserved
loop-at-preserved c =
    let spans = token_there-spans c.args.floats c.loop-at.at c.args.line.now c.in_ok-token.token c.loop-at-test.true (sym c.in_ok-token.ensures) in
    record {
      within = spans.2;
      read = rw c.in_ok-push.ensures.ok (sym (passes_token c.args.floats c.loop-at.tokens c.loop-at.at c.args.line.now c.in_ok-token.token c.loop-at-test.true (sym
          c.if-is_blank.ensures) (sym c.in_ok-token.ensures)) ∙ c.loop-at.invariant.read);
    }

pub returns : goal.returns
returns c =
    let exact : Gives (Ok c.loop-at.tokens) (tokens_of c.args.floats c.args.line.now) = sym c.loop-at.invariant.read ∙
    ends c.args.floats c.loop-at.tokens c.loop-at.at c.args.line.now c.loop-at-test.false in
    record {
      exact = exact;
      spans = spans_of c.args.floats c.args.line.now (Ok c.loop-at.tokens) exact;
      longest =
          longest_of c.args.floats c.args.line.now (Ok c.loop-at.tokens) exact;
      bad_byte = λ at is. absurd cc;
      unclosed = λ at is. absurd cc;
    }
