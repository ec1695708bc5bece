use Rattle.std.proofs.Common.{subst}
use Rattle.std.specs.Prelude.{IsTrue}
use Rattle.rv64_instr.specs.Form.{has_form}
use Rattle.rv64_instr.specs.Instruction.{Instruction}
use Rattle.listing_function.proofs.Lowering.{operands_formed}
use Rattle.listing_function.proofs.Outcomes.{long_lined, one_lined}
use Rattle.listing_function.proofs.lines.push_code.Goals as goal

pub returns-in_ok-push_long-in-Some-long_of : goal.returns-in_ok-push_long-in-Some-long_of
returns-in_ok-push_long-in-Some-long_of c = λ l s others source placed stands is kind.
    let form = subst (λ (x : Instruction). IsTrue (has_form x.op x.operands)) c.i.view_is c.i.invariant in
    long_lined l s c.args.i.now c.args.number c.args.entries.now others c.args.at c.in-Some.address form kind stands c.in-Some-long_of.long
    c.in-Some.ensures c.in-Some-long_of.ensures c.args.lines.now c.push_long.new.lines c.args.item.now is c.in_ok-push_long-in-Some-long_of.ensures

pub returns-in_ok-push_one-in-None : goal.returns-in_ok-push_one-in-None
returns-in_ok-push_one-in-None c = λ l s others source placed stands is kind.
    let form = subst (λ (x : Instruction). IsTrue (has_form x.op x.operands)) c.i.view_is c.i.invariant in
    one_lined l s c.args.i.now c.args.number c.args.entries.now others c.args.at c.in-Some.address form kind stands c.in-Some.ensures
    c.in-None.ensures c.args.lines.now c.push_one.new.lines c.args.item.now is (c.in_ok-push_one-in-None.ensures l.framed source.offsets
    (operands_formed l.framed source.framed c.args.i.now.op c.args.i.now.operands form placed.0.0 placed.1 placed.2))
