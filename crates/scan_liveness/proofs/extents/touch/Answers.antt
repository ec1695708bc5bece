use Rattle.std.proofs.Common.{◌≡◌, ℕ, ◌+◌, List, Option, None, Bool, IsTrue, cond, nat_eq, slice_index_or, ap, ◌∙◌, subst, arith}
use Rattle.std.specs.List.{list_any}
use Rattle.rv64_instr.specs.declared.operand.Operand.{Operand}
use Rattle.rv64_instr.specs.Form.{has_form}
use Rattle.rv64_instr.specs.Instruction.{Instruction}
use Rattle.scan_liveness.specs.Described.{is_in, point_of, stepped_at}
use Rattle.scan_liveness.specs.Registers.{register_of}
use Rattle.scan_liveness.proofs.Stepped.{both_steps}
use Rattle.scan_liveness.proofs.extents.touch.Goals as goal

pub step_named-requires : goal.step_named-requires
step_named-requires c = let long = c.step_unless.ensures.long in let few = c.requires.few in omega (arith, long, few)

pub returns-clause-long : goal.returns-clause-long
returns-clause-long c = c.step_named.ensures.long ∙ c.step_unless.ensures.long

pub returns-clause-each : goal.returns-clause-each
returns-clause-each c k lt =
    let slots : List ℕ = c.args.numbers.now.slots in
    let i : Instruction = c.args.i.now in
    let s : ℕ → Bool = is_in slots c.args.pending.now in
    let form : IsTrue (has_form i.op i.operands) = subst (λ (x : Instruction). IsTrue (has_form x.op x.operands)) c.i.view_is c.i.invariant in
    let operands : c.as_slice.result.now ≡ i.operands = c.as_slice.ensures ∙ ap (λ (x : Instruction). x.operands) c.i.view_is in
    let long = c.step_unless.ensures.long in
    let old : Option _ = slice_index_or c.args.extents.now.items k None in
    let mid : Option _ = slice_index_or c.step_unless.new.extents.items k None in
    both_steps s (is_in slots c.args.before.now) (is_in slots c.args.after.now) i c.args.at form c.requires.up k c.args.quiet c.requires.quiet old mid
    (slice_index_or c.step_named.new.extents.items k None) (c.step_unless.ensures.each k lt)
    (c.step_named.ensures.each k (omega (arith, lt, long)) ∙
    ap (λ (os : List Operand). cond (list_any (λ o. nat_eq (register_of o) (k + 32)) os)
    (stepped_at s (point_of slots c.args.before.now c.args.after.now i) c.args.at (k + 32) mid) mid) operands)
