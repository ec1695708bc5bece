use Rattle.std.proofs.Common.{rules, arith, ◌≡◌, sym, subst, ◌∙◌}
use Rattle.std.specs.Prelude.{OnOk}
use Rattle.std.proofs.lemmas.Grind.{common_steps}
use Rattle.std.proofs.lemmas.Result.{on_ok_weaker}
use Rattle.rv64_instr.specs.Arithmetic.{word}
use Rattle.mir_func.specs.declared.variable.MarkValue.{MarkValue}
use Rattle.mir_func.specs.declared.variable.VarId.{VarId}
use Rattle.mir_func.specs.declared.item.ItemKind.TheVariants.{Mark}
use Rattle.mir_func.specs.Resolve.{resolve}
use Rattle.value_live_ins.specs.Gathering.{AppendsOnly}
use Rattle.value_live_ins.specs.Used.{Names}
use Rattle.value_live_ins.proofs.Used.{only_constant, only_resolved}
use Rattle.value_live_ins.proofs.gather.TrackedItemSet.note_value.Goals as goal

pub returns-in-Constant-clause-only : goal.returns-in-Constant-clause-only
returns-in-Constant-clause-only c =
    let w : c.cast_unsigned.result ≡ word c.in-Constant.c = first_of (search rules, grind (arith, common_steps)) in
    subst (λ (m : MarkValue). OnOk c.note_thing.result ((v : VarId) → AppendsOnly (Names (resolve c.args.subs.now) (Mark v m)) c.args.self.now.things
    c.note_thing.new.self.things)) (sym c.in-Constant.is)
    (on_ok_weaker c.note_thing.result (λ h v. only_constant (resolve c.args.subs.now) c.args.self.now.things c.note_thing.new.self.things v c.in-Constant.c
    c.cast_unsigned.result w h) c.note_thing.ensures.only)

pub returns-in-Some-clause-only : goal.returns-in-Some-clause-only
returns-in-Some-clause-only c =
    subst (λ (m : MarkValue). OnOk c.note_thing-in-Some.result ((v : VarId) → AppendsOnly (Names (resolve c.args.subs.now) (Mark v m)) c.args.self.now.things
    c.note_thing-in-Some.new.self.things)) (sym c.in-Pair.is)
    (on_ok_weaker c.note_thing-in-Some.result (λ h v. only_resolved (resolve c.args.subs.now) c.args.self.now.things c.note_thing-in-Some.new.self.things v
    c.in-Pair.q c.in-Some.end (sym c.resolve.ensures ∙ c.in-Some.is) h) c.note_thing-in-Some.ensures.only)
