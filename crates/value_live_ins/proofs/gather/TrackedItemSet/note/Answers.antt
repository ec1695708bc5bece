use Rattle.std.proofs.Common.{sym, subst}
use Rattle.std.specs.Prelude.{OnOk}
use Rattle.std.proofs.lemmas.Result.{on_ok_weaker}
use Rattle.mir_func.specs.declared.item.ItemKind.{ItemKind}
use Rattle.mir_func.specs.Resolve.{resolve}
use Rattle.value_live_ins.specs.Gathering.{AppendsOnly}
use Rattle.value_live_ins.specs.Used.{Names}
use Rattle.value_live_ins.proofs.gather.TrackedItemSet.note.Goals as goal

pub returns-in-Code-clause-only : goal.returns-in-Code-clause-only
returns-in-Code-clause-only c =
    subst (λ (k : ItemKind). OnOk c.note_code.result (AppendsOnly (Names (resolve c.args.subs.now) k) c.args.self.now.things c.note_code.new.self.things))
    (sym c.in-Code.is) (on_ok_weaker c.note_code.result (λ h. h (resolve c.args.subs.now) c.in-Code.field-1) c.note_code.ensures.only)

pub returns-in-Mark-clause-only : goal.returns-in-Mark-clause-only
returns-in-Mark-clause-only c =
    subst (λ (k : ItemKind). OnOk c.note_value.result (AppendsOnly (Names (resolve c.args.subs.now) k) c.args.self.now.things c.note_value.new.self.things))
    (sym c.in-Mark.is) (on_ok_weaker c.note_value.result (λ h. h c.in-Mark.field-0) c.note_value.ensures.only)

pub returns-in-Phi-clause-only : goal.returns-in-Phi-clause-only
returns-in-Phi-clause-only c =
    subst (λ (k : ItemKind). OnOk c.note_place.result (AppendsOnly (Names (resolve c.args.subs.now) k) c.args.self.now.things c.note_place.new.self.things))
    (sym c.in-Phi.is) (on_ok_weaker c.note_place.result (λ h. h (resolve c.args.subs.now) c.in-Phi.field-1) c.note_place.ensures.only)
