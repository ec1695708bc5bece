-- The stream of a key's lines is read line by line.
use Rattle.std.proofs.Common.{false, ◌≡◌, ℕ, ◌+◌, ◌<◌, ◌≤◌, List, ◌∷◌, ◌++◌, length, map, get_or, drop, Option, Some, None, sym, ap, ◌∙◌, append_assoc}
use Rattle.std.proofs.lemmas.List.{append-nil, drop_more, drop_all}
use Rattle.read_lexer.specs.declared.line.Line.{Line}
use Rattle.read_lexer.specs.Line.{tokens_of}
use Rattle.read_lexer.specs.Comment.{before_comment}
use Rattle.read_refusal.specs.declared.kind.RefusalKind.{RefusalKind}
use Rattle.read_declarations.specs.declared.stream.YamlToken.{YamlToken}
use Rattle.read_declarations.specs.declared.stream.LineTokens.{LineTokens}
use Rattle.read_declarations.specs.declared.stream.TokenStream.{TokenStream}
use Rattle.read_declarations.specs.Stream.{line_tokens_of, piece_of, before_lines, with_line, stream_from, stream_of}

-- the tokens of a line
abbrev pub read_of : Line → LineTokens
read_of line = line_tokens_of (before_comment line.text) (tokens_of false (before_comment line.text))

module _ (lines : List Line) (at : ℕ) (here : Line) (ps : List YamlToken) where
  -- the tokens behind a line
  abbrev others : TokenStream
  others = stream_from (at + 1) (drop (at + 1) lines)

  at_line : at < length lines → here ≡ get_or lines at here → before_lines ps 0 None (stream_from at (drop at lines)) ≡ stream_of lines
      → before_lines ps 0 None (with_line at here.number (read_of here) others) ≡ stream_of lines
  unfolding stream_from
  at_line lt is read =
      let parts : drop at lines ≡ here ∷ drop (at + 1) lines = drop_more lines at here lt ∙ ap (λ (x : Line). x ∷ drop (at + 1) lines) (sym is) in
      ap (λ (r : List Line). before_lines ps 0 None (stream_from at r)) (sym parts) ∙ read

  -- a line with a fault
  pub stopped : (kind : RefusalKind) → at < length lines → here ≡ get_or lines at here →
      before_lines ps 0 None (stream_from at (drop at lines)) ≡ stream_of lines
      → (read_of here).fault ≡ Some kind
      → record { pieces = ps ++ map (piece_of at here.number) (read_of here).tokens; fault = Some (record { line = here.number; kind = kind }) } ≡
      stream_of lines
  stopped kind lt is read fault =
      ap (λ (f : Option RefusalKind). before_lines ps 0 None (before_lines (map (piece_of at here.number) (read_of here).tokens) here.number f
      others)) (sym fault)
      ∙ at_line lt is read

  -- a line without one
  pub goes_on : at < length lines → here ≡ get_or lines at here → before_lines ps 0 None (stream_from at (drop at lines)) ≡ stream_of lines
      → (read_of here).fault ≡ None
      → before_lines (ps ++ map (piece_of at here.number) (read_of here).tokens) 0 None others ≡ stream_of lines
  goes_on lt is read fault =
      let ts = map (piece_of at here.number) (read_of here).tokens in
      ap (λ (x : List YamlToken). record { pieces = x; fault = others.fault }) (append_assoc ps ts others.pieces)
      ∙ ap (λ (f : Option RefusalKind). before_lines ps 0 None (before_lines ts here.number f others)) (sym fault)
      ∙ at_line lt is read

  -- no line is left
  pub all_read : length lines ≤ at → before_lines ps 0 None (stream_from at (drop at lines)) ≡ stream_of lines
      → record { pieces = ps; fault = None } ≡ stream_of lines
  unfolding stream_from
  all_read all read =
      ap (λ (x : List YamlToken). record { pieces = x; fault = None }) (sym (append-nil ps))
      ∙ ap (λ (r : List Line). before_lines ps 0 None (stream_from at r)) (sym (drop_all at lines all)) ∙ read
