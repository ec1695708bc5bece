use Rattle.std.proofs.Common.{◌+◌, drop, Some, sym, ap, ◌∙◌}
use Rattle.read_refusal.specs.declared.first.Refusal.{Refusal}
use Rattle.read_lexer.specs.declared.parts.Class.TheVariants.{Word}
use Rattle.read_declarations.specs.declared.stream.YamlToken.{YamlToken}
use Rattle.read_declarations.specs.declared.entry.OpenList.{OpenList}
use Rattle.read_declarations.specs.FlowMapping.{bad_line, entries_from}
use Rattle.read_declarations.proofs.Walks.{misplaced, in_place, none_left}
use Rattle.read_declarations.proofs.entry.entries.Goals as goal

-- a token that stands for none
none : YamlToken
none = record { at = 0; line = 0; token = record { class = Word; start = 0; end = 0 } }

pub returns-then-not-fits : goal.returns-then-not-fits
unfolding none
returns-then-not-fits c =
    ap (λ (r : Refusal). record { entries = c.loop-piece.so_far.entries; refused = Some r }) (c.bad_line.ensures ∙ ap bad_line c.line_at.ensures)
    ∙ misplaced c.args.lines.now c.args.is_cut c.args.pieces.now c.loop-piece.piece-index none c.loop-piece.so_far c.loop-piece-test.true
    c.loop-piece.invariant.read (sym c.if-not-fits.ensures)

pub loop-piece-preserved : goal.loop-piece-preserved
unfolding none
loop-piece-preserved c = record {
  read = ap (λ (o : OpenList). entries_from c.args.lines.now c.args.is_cut o (drop (c.loop-piece.piece-index + 1) c.args.pieces.now)) c.in_ok-take.ensures.list
      ∙ in_place c.args.lines.now c.args.is_cut c.args.pieces.now c.loop-piece.piece-index none c.loop-piece.so_far c.loop-piece-test.true
      c.loop-piece.invariant.read (sym c.if-not-fits.ensures);
  keys = c.in_ok-take.ensures.keys;
}

pub returns : goal.returns
unfolding none
returns c = c.ended.ensures ∙ none_left c.args.lines.now c.args.is_cut c.args.pieces.now c.loop-piece.piece-index none c.loop-piece.so_far
    c.loop-piece-test.false c.loop-piece.invariant.read
