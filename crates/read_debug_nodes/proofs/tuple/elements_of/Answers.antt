use Rattle.std.proofs.Common.{◌-◌, length, take, drop, sym}
use Rattle.std.proofs.lemmas.List.{take_rest}
use Rattle.read_metadata.specs.read_lexer.declared.parts.Token.{Token}
use Rattle.read_metadata.specs.read_lexer.declared.parts.Class.TheVariants.{Word}
use Rattle.read_debug_nodes.specs.Tuple.{some_elements}
use Rattle.read_debug_nodes.proofs.Elements.{joined-nil, next_element}
use Rattle.read_debug_nodes.proofs.tuple.elements_of.Goals as goal

-- a token that stands for none
none : Token
none = record { class = Word; start = 0; end = 0 }

pub loop-rest-init : goal.loop-rest-init
loop-rest-init c = rw c.new-elements.ensures (joined-nil (some_elements c.args.line.now c.args.tokens.now))

pub loop-rest-preserved : goal.loop-rest-preserved
unfolding none
loop-rest-preserved c =
    let rest = c.loop-rest.rest.now in
    rw c.in_ok-push.ensures.ok
    (next_element c.args.line.now c.loop-rest.elements rest c.args.tokens.now none c.in-Some.element (take (length rest - 2) (drop 2 rest)) (take_rest rest 2)
    c.in-len2-up.len_at_least c.loop-rest.invariant c.in-Some.ensures (sym c.if-is_last.ensures) (sym c.if-not-is_byte.ensures))
