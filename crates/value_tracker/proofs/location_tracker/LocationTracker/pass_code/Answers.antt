use Rattle.std.proofs.Common.{◌≡◌, ℕ, ◌+◌, ap, sym, ◌∙◌, subst}
use Rattle.std.specs.Prelude.{Option}
use Rattle.std.proofs.lemmas.Result.{on_ok_weaker}
use Rattle.rv64_instr.specs.Row.{row_of}
use Rattle.rv64_instr.specs.LocationEffects.{is_call}
use Rattle.mir_func.specs.declared.item.ItemKind.TheVariants.{Code}
use Rattle.mir_func.specs.Resolve.{resolve}
use Rattle.value_tracker.specs.LocationTracker.{Passes}
use Rattle.value_tracker.proofs.Items.{code_holds, numbered_step}
use Rattle.value_tracker.proofs.location_tracker.LocationTracker.pass_code.Goals as goal

pub returns-in-None-clause-passes : goal.returns-in-None-clause-passes
returns-in-None-clause-passes c =
    let block = c.args.block.now in
    let past = c.pass_row.ensures in
    let after = record c.pass_row.new.self { next = c.pass_row.new.self.next + 32 } in
    subst (λ (n : Option ℕ). Passes block.variables.now block.index.now block.settled.now (resolve block.subs.now) c.args.self.now after
    (Code c.args.instr.now n))
    (sym c.in-None.is)
    (λ known class holds knows. code_holds block.variables.now known block.index.now block.settled.now c.args.self.now class holds
    (resolve block.subs.now) c.args.instr.now
    after knows.0 knows.1 past.count past.places past.parts (ap (λ (n : ℕ). n + 32) past.next) past.pairs)

pub returns-in-Some-clause-passes : goal.returns-in-Some-clause-passes
returns-in-Some-clause-passes c =
    let block = c.args.block.now in
    let past = c.pass_row.ensures in
    let give = c.give.ensures in
    let calls : c.effect.result.call ≡ is_call (row_of c.args.instr.now) = ap (λ e. e.call) c.effect.ensures in
    let operands : c.as_slice.result.now ≡ c.args.instr.now.operands = c.as_slice.ensures ∙ ap (λ i. i.operands) c.instr.view_is in
    on_ok_weaker c.give.result
    (λ pairs. subst (λ (n : Option ℕ). Passes block.variables.now block.index.now block.settled.now
    (resolve block.subs.now) c.args.self.now c.give.new.self
    (Code c.args.instr.now n)) (sym c.in-Some.is)
    (λ known class holds knows. numbered_step block.variables.now known block.index.now block.settled.now c.args.self.now class holds
    (resolve block.subs.now) c.args.instr.now
    c.pass_row.new.self c.give.new.self c.in-Some.k c.effect.result.call c.as_slice.result.now knows.0 knows.1 past.count past.places past.pairs past.parts
    past.next
    give.places give.parts give.next calls operands pairs))
    give.pairs
