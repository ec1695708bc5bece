use Rattle.std.proofs.Common.{false, ◌≡◌, ℕ, ◌+◌, List, [], ◌++◌, drop, Some, None, map, sym, ap, ◌∙◌}
use Rattle.read_lexer.specs.declared.line.Line.{Line}
use Rattle.read_lexer.specs.declared.parts.Token.{Token}
use Rattle.read_lexer.specs.Line.{tokens_of}
use Rattle.read_lexer.specs.Comment.{before_comment}
use Rattle.read_declarations.specs.declared.stream.YamlToken.{YamlToken}
use Rattle.read_declarations.specs.declared.stream.LineTokens.{LineTokens}
use Rattle.read_declarations.specs.Stream.{line_tokens_of, piece_of, before_lines, stream_from}
use Rattle.read_declarations.proofs.Streams.{read_of, stopped, goes_on, all_read}
use Rattle.read_declarations.proofs.stream.stream.Goals as goal

pub returns-in-Some : goal.returns-in-Some
returns-in-Some c =
    let here = c.index-lines-at.result in
    let read : c.in_ok-read.read ≡ read_of here =
    c.in_ok-read.ensures ∙ ap (λ (t : List ℕ). line_tokens_of t (tokens_of false t)) (c.before_comment.ensures ∙ ap before_comment c.as_slice.ensures) in
    let fault : (read_of here).fault ≡ Some c.in-Some.kind = ap (λ (r : LineTokens). r.fault) (sym read) ∙ c.in-Some.is in
    let pushed : c.push_pieces.new.pieces ≡ c.loop-at.pieces ++ map (piece_of c.loop-at.at here.number) (read_of here).tokens =
    c.in_ok-push_pieces.ensures ∙ ap (λ (ts : List Token). c.loop-at.pieces ++ map (piece_of c.loop-at.at here.number) ts)
    (c.as_slice-in-loop-at.ensures ∙ ap (λ (r : LineTokens). r.tokens) read) in
    ap (λ (x : List YamlToken). record { pieces = x; fault = Some (record { line = here.number; kind = c.in-Some.kind }) }) pushed
    ∙ stopped c.args.lines.now c.loop-at.at here c.loop-at.pieces c.in-Some.kind c.loop-at-test.true c.index-lines-at.is c.loop-at.invariant fault

pub loop-at-preserved : goal.loop-at-preserved
loop-at-preserved c =
    let here = c.index-lines-at.result in
    let read : c.in_ok-read.read ≡ read_of here =
    c.in_ok-read.ensures ∙ ap (λ (t : List ℕ). line_tokens_of t (tokens_of false t)) (c.before_comment.ensures ∙ ap before_comment c.as_slice.ensures) in
    let fault : (read_of here).fault ≡ None = ap (λ (r : LineTokens). r.fault) (sym read) ∙ c.in_default.is in
    let pushed : c.push_pieces.new.pieces ≡ c.loop-at.pieces ++ map (piece_of c.loop-at.at here.number) (read_of here).tokens =
    c.in_ok-push_pieces.ensures ∙ ap (λ (ts : List Token). c.loop-at.pieces ++ map (piece_of c.loop-at.at here.number) ts)
    (c.as_slice-in-loop-at.ensures ∙ ap (λ (r : LineTokens). r.tokens) read) in
    ap (λ (x : List YamlToken). before_lines x 0 None (stream_from (c.loop-at.at + 1) (drop (c.loop-at.at + 1) c.args.lines.now))) pushed
    ∙ goes_on c.args.lines.now c.loop-at.at here c.loop-at.pieces c.loop-at-test.true c.index-lines-at.is c.loop-at.invariant fault

-- a line that stands for none
none : Line
none = record { number = 0; text = [] }

pub returns : goal.returns
unfolding none
returns c = all_read c.args.lines.now c.loop-at.at none c.loop-at.pieces c.loop-at-test.false c.loop-at.invariant
