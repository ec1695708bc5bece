use Rattle.std.proofs.Common.{ℕ, List, None, sym, ap, ◌∙◌}
use Rattle.std.specs.Str.{bytes_eq}
use Rattle.read_lexer.specs.declared.parts.Class.TheVariants.{Word}
use Rattle.read_metadata.specs.declared.field.Field.{Field}
use Rattle.read_metadata.proofs.Values.{stops, all_seen}
use Rattle.read_metadata.proofs.field.only_value.Goals as goal

-- a field that stands for none
none : Field
none = record { key = record { class = Word; start = 0; end = 0 }; value = None }

pub returns-in_default : goal.returns-in_default
unfolding none
returns-in_default c =
    let same = sym (c.if-eq.ensures ∙ ap (λ (t : List ℕ). bytes_eq t c.args.key.now) c.text_of.ensures) in
    stops c.args.line.now c.args.key.now c.args.fields.now c.loop-field.field-index none c.loop-field.found c.loop-field-test.true c.loop-field.invariant same
    c.in_default.ensures

pub returns : goal.returns
returns c = all_seen c.args.line.now c.args.key.now c.args.fields.now c.loop-field.field-index c.loop-field.found c.loop-field-test.false c.loop-field.invariant
