use Rattle.std.proofs.Common.{rules, arith, ◌≡◌, ℕ, map, sym, ap, ◌∙◌, subst}
use Rattle.std.specs.Prelude.{OnOk, Option, Some, Contains}
use Rattle.std.proofs.lemmas.Grind.{common_steps}
use Rattle.std.proofs.lemmas.Result.{on_ok_weaker}
use Rattle.rv64_instr.specs.declared.place.Place.{Place}
use Rattle.rv64_instr.specs.declared.place.Place.TheVariants.{Slot as AtSlot, Const}
use Rattle.rv64_instr.specs.Arithmetic.{word}
use Rattle.mir_func.specs.declared.debug_substitution.OperandPair.{OperandPair}
use Rattle.mir_func.specs.declared.item.ItemKind.TheVariants.{Phi}
use Rattle.sem_value_ids.specs.Pullback.{OfNumber}
use Rattle.value_proof.specs.Classes.{KnowsPlace}
use Rattle.value_solver.specs.declared.tracked.Tracked.TheVariants.{Slot, Number}
use Rattle.value_solver.specs.Entry.{thing}
use Rattle.value_live_ins.specs.Gathering.{AppendsOnly}
use Rattle.value_live_ins.specs.Used.{Names}
use Rattle.value_live_ins.proofs.Gathering.{thing_in}
use Rattle.value_live_ins.proofs.Used.{only_read, only_read_constant}
use Rattle.value_live_ins.proofs.gather.TrackedItemSet.note_place.Goals as goal

pub returns-in-Some-Slot-clause-only : goal.returns-in-Some-Slot-clause-only
returns-in-Some-Slot-clause-only c =
    let at = rw c.in-Some-Slot.is at c.in-Some-Slot.field-0-is in
    let is : c.args.place.now ≡ Some (AtSlot c.in-Some-Slot.n) = c.in-Some-Slot.is ∙ ap (λ (p : Place). Some p) at in
    subst (λ (p : Option Place). OnOk c.note_thing.result ((ends : OperandPair → Option OperandPair) (k : ℕ) →
    AppendsOnly (Names ends (Phi p k)) c.args.self.now.things c.note_thing.new.self.things)) (sym is)
    (on_ok_weaker c.note_thing.result (λ h ends k. only_read ends c.args.self.now.things c.note_thing.new.self.things c.in-Some-Slot.n k h)
    c.note_thing.ensures.only)

pub returns-in-Some-Slot-clause-knows : goal.returns-in-Some-Slot-clause-knows
returns-in-Some-Slot-clause-knows c =
    let at = rw c.in-Some-Slot.is at c.in-Some-Slot.field-0-is in
    let is : c.args.place.now ≡ Some (AtSlot c.in-Some-Slot.n) = c.in-Some-Slot.is ∙ ap (λ (p : Place). Some p) at in
    subst (λ (p : Option Place). OnOk c.note_thing.result (KnowsPlace (map thing c.note_thing.new.self.things) p)) (sym is)
    (on_ok_weaker c.note_thing.result (thing_in c.note_thing.new.self.things (Slot c.in-Some-Slot.n)) c.note_thing.ensures.has)

pub returns-in-Some-Const-clause-only : goal.returns-in-Some-Const-clause-only
returns-in-Some-Const-clause-only c =
    let at = rw c.in-Some-Const.is at c.in-Some-Const.field-0-is in
    let is : c.args.place.now ≡ Some (Const c.in-Some-Const.c) = c.in-Some-Const.is ∙ ap (λ (p : Place). Some p) at in
    let w : c.cast_unsigned.result ≡ word c.in-Some-Const.c = first_of (search rules, grind (arith, common_steps)) in
    subst (λ (p : Option Place). OnOk c.note_thing-in-Some-Const.result ((ends : OperandPair → Option OperandPair) (k : ℕ) →
    AppendsOnly (Names ends (Phi p k)) c.args.self.now.things c.note_thing-in-Some-Const.new.self.things)) (sym is)
    (on_ok_weaker c.note_thing-in-Some-Const.result (λ h ends k. only_read_constant ends c.args.self.now.things c.note_thing-in-Some-Const.new.self.things
    c.in-Some-Const.c k c.cast_unsigned.result w h) c.note_thing-in-Some-Const.ensures.only)

pub returns-in-Some-Const-clause-knows : goal.returns-in-Some-Const-clause-knows
returns-in-Some-Const-clause-knows c =
    let at = rw c.in-Some-Const.is at c.in-Some-Const.field-0-is in
    let is : c.args.place.now ≡ Some (Const c.in-Some-Const.c) = c.in-Some-Const.is ∙ ap (λ (p : Place). Some p) at in
    let w : c.cast_unsigned.result ≡ word c.in-Some-Const.c = first_of (search rules, grind (arith, common_steps)) in
    let things = c.note_thing-in-Some-Const.new.self.things in
    subst (λ (p : Option Place). OnOk c.note_thing-in-Some-Const.result (KnowsPlace (map thing things) p)) (sym is)
    (on_ok_weaker c.note_thing-in-Some-Const.result (λ h. subst (λ (n : ℕ). Contains (map thing things) (OfNumber n)) w
    (thing_in things (Number c.cast_unsigned.result) h)) c.note_thing-in-Some-Const.ensures.has)
