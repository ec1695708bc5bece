use Rattle.std.proofs.Common.{sym, ◌∙◌, arith}
use Rattle.read_metadata.specs.read_lexer.declared.parts.Token.{Token}
use Rattle.read_metadata.specs.read_lexer.declared.parts.Class.TheVariants.{Word}
use Rattle.read_debug_nodes.proofs.Pieces.{begins, unreadable, closed, next_field, goes_on, never_closed}
use Rattle.read_debug_nodes.proofs.field.fields_of.Goals as goal
use Rattle.read_debug_nodes.proofs.field.fields_of.Goals.{then-ends_piece+in_ok-field+in-Some+in_ok-push+else-not-is_byte, else-ends_piece}

-- a token that stands for none
none : Token
none = record { class = Word; start = 0; end = 0 }

pub loop-at-init : goal.loop-at-init
loop-at-init c = record { started = omega arith; shallow = omega arith; read = rw c.new-fields.ensures (begins c.args.tokens.now) }

pub returns-in_default : goal.returns-in_default
unfolding none
returns-in_default c = unreadable c.args.tokens.now c.loop-at.fields c.loop-at.start c.loop-at.at c.loop-at.depth none
    (sym c.if-is_end.ensures) c.loop-at-test.true (sym c.if-ends_piece.ensures) (sym c.in_default.is ∙ c.in_ok-field.ensures) c.loop-at.invariant.read

pub returns-then-not-is_byte : goal.returns-then-not-is_byte
unfolding none
returns-then-not-is_byte c = c.ended.ensures ∙ rw c.in_ok-push.ensures.ok
    (closed c.args.tokens.now c.loop-at.fields c.loop-at.start c.loop-at.at c.loop-at.depth none c.in-Some.field (sym c.if-is_end.ensures) c.loop-at-test.true
    (sym c.if-ends_piece.ensures) (sym c.if-not-is_byte.ensures) (sym c.in-Some.is ∙ c.in_ok-field.ensures) c.loop-at.invariant.read)

pub loop-at-preserved : goal.loop-at-preserved
unfolding none
loop-at-preserved c =
    elim c.if-ends_piece.branch [
      | then-ends_piece+in_ok-field+in-Some+in_ok-push+else-not-is_byte w ↦ record {
        started = omega (arith, w.start-is);
        shallow = omega (arith, w.depth-is, c.loop-at.invariant.shallow);
        read = rw (w.fields-is, w.depth-is, w.start-is, w.in_ok-push.ensures.ok)
            (next_field c.args.tokens.now c.loop-at.fields c.loop-at.start c.loop-at.at c.loop-at.depth none w.in-Some.field c.loop-at-test.true
            (sym w.if-ends_piece.ensures) (sym w.if-not-is_byte.ensures) (sym w.in-Some.is ∙ w.in_ok-field.ensures) c.loop-at.invariant.read);
      }
      | else-ends_piece w ↦ record {
        started = omega (arith, w.start-is, c.loop-at.invariant.started);
        shallow = omega (arith, w.depth-is, w.depth_behind-depth.ensures.bound, c.loop-at.invariant.shallow);
        read = rw (w.fields-is, w.depth-is, w.start-is, w.depth_behind-depth.ensures.value)
            (goes_on c.args.tokens.now c.loop-at.fields c.loop-at.start c.loop-at.at c.loop-at.depth none c.loop-at.invariant.started c.loop-at-test.true
            (sym w.if-ends_piece.ensures) c.loop-at.invariant.read);
      }
    ]

pub returns : goal.returns
unfolding none
returns c = never_closed c.args.tokens.now c.loop-at.fields c.loop-at.start c.loop-at.at c.loop-at.depth none
    (sym c.if-is_end.ensures) c.loop-at-test.false c.loop-at.invariant.read
