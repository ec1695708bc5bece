use Rattle.std.proofs.Common.{ℕ, List, sym, ap, ◌∙◌}
use Rattle.std.specs.Str.{bytes_eq}
use Rattle.read_lexer.specs.declared.parts.Class.TheVariants.{Word}
use Rattle.read_declarations.specs.declared.stream.YamlToken.{YamlToken}
use Rattle.read_declarations.specs.declared.entry.MappingField.{MappingField}
use Rattle.read_declarations.proofs.Walks.{found, not_yet, nowhere}
use Rattle.read_declarations.proofs.field.value_at.Goals as goal

-- a token and a field that stand for none
no_piece : YamlToken
no_piece = record { at = 0; line = 0; token = record { class = Word; start = 0; end = 0 } }

none : MappingField
none = record { key = no_piece; value = no_piece }

pub returns-then-eq : goal.returns-then-eq
unfolding none no_piece
returns-then-eq c =
    let same = sym (c.if-eq.ensures ∙ ap (λ (t : List ℕ). bytes_eq t c.args.key.now) c.text_at.ensures) in
    found c.args.lines.now c.args.key.now c.args.fields.now c.loop-field.field-index none c.loop-field-test.true c.loop-field.invariant same

pub loop-field-preserved : goal.loop-field-preserved
unfolding none no_piece
loop-field-preserved c =
    let same = sym (c.if-eq.ensures ∙ ap (λ (t : List ℕ). bytes_eq t c.args.key.now) c.text_at.ensures) in
    not_yet c.args.lines.now c.args.key.now c.args.fields.now c.loop-field.field-index none c.loop-field-test.true c.loop-field.invariant same

pub returns : goal.returns
unfolding none no_piece
returns c = nowhere c.args.lines.now c.args.key.now c.args.fields.now c.loop-field.field-index none c.loop-field-test.false c.loop-field.invariant
