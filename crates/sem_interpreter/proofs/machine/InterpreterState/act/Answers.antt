use Rattle.std.proofs.Common.{ap, sym, ◌∙◌}
use Rattle.rv64_instr.specs.Instruction.{Instruction}
use Rattle.rv64_instr.specs.Row.{row_of}
use Rattle.std.specs.Option.{option_copied}
use Rattle.rv64_instr.specs.LocationEffects.{address_named}
use Rattle.sem_interpreter.proofs.Rows.{at_row, at_row_ok, at_base_ok, jumps_so}
use Rattle.sem_interpreter.proofs.Ends.{at_call_ok, at_return}
use Rattle.sem_interpreter.proofs.machine.InterpreterState.act.Goals as goal

pub returns-in-Fixes-clause-ok : goal.returns-in-Fixes-clause-ok
returns-in-Fixes-clause-ok c =
    at_row (row_of c.args.i.now) _ (option_copied c.args.answer) _ _ _ c.in-Fixes.ensures.row (c.set.ensures (option_copied c.args.answer))

pub returns-in-Moves-clause-ok : goal.returns-in-Moves-clause-ok
returns-in-Moves-clause-ok c =
    at_row (row_of c.args.i.now) _ (option_copied c.args.answer) _ _ _ c.in-Moves.ensures.row (c.copy.ensures (option_copied c.args.answer))

pub returns-in-Sets-clause-ok : goal.returns-in-Sets-clause-ok
returns-in-Sets-clause-ok c =
    let e = c.in-Sets.ensures.row in
    at_row (row_of c.args.i.now) _ (option_copied c.args.answer) _ _ _ e.1
    (c.compute.ensures e.0 (e.2, ap address_named (sym e.1) ∙ sym c.linked_address.ensures) (option_copied c.args.answer))

pub returns-in-Addresses-clause-ok : goal.returns-in-Addresses-clause-ok
returns-in-Addresses-clause-ok c =
    at_row (row_of c.args.i.now) _ (option_copied c.args.answer) _ _ _ c.in-Addresses.ensures.row (c.address_of.ensures (option_copied c.args.answer))

pub returns-in-Loads-clause-ok : goal.returns-in-Loads-clause-ok
returns-in-Loads-clause-ok c =
    let e = c.in-Loads.ensures.row in
    at_row (row_of c.args.i.now) _ (option_copied c.args.answer) _ _ _ e.1
    (c.load.ensures e.0 (e.2, ap address_named (sym e.1) ∙ sym c.linked_address-in-Loads.ensures) (option_copied c.args.answer))

pub returns-in-LoadsSlot-clause-ok : goal.returns-in-LoadsSlot-clause-ok
returns-in-LoadsSlot-clause-ok c =
    at_row (row_of c.args.i.now) _ (option_copied c.args.answer) _ _ _ c.in-LoadsSlot.ensures.row (c.load_slot.ensures (option_copied c.args.answer))

pub returns-in-Branches-clause-ok : goal.returns-in-Branches-clause-ok
returns-in-Branches-clause-ok c =
    at_row (row_of c.args.i.now) _ (option_copied c.args.answer) _ _ _ c.in-Branches.ensures.row (c.branch-self.ensures (option_copied c.args.answer))

pub returns-in-Stores-clause-ok : goal.returns-in-Stores-clause-ok
returns-in-Stores-clause-ok c =
    let e = c.in-Stores.ensures.row in
    at_base_ok (row_of c.args.i.now) c.in-Stores.base (option_copied c.linked_address-in-Stores.result) e.0 c.in-Stores.op c.in-Stores.rs c.in-Stores.offset
    (option_copied c.args.answer) _ _ e.1 (e.2, ap address_named (sym e.1) ∙ sym c.linked_address-in-Stores.ensures) c.store.result c.store.ensures.ok

pub returns-in-StoresSlot-clause-ok : goal.returns-in-StoresSlot-clause-ok
returns-in-StoresSlot-clause-ok c =
    at_row_ok (row_of c.args.i.now) _ (option_copied c.args.answer) _ _ c.in-StoresSlot.ensures.row c.store_slot.result c.store_slot.ensures.ok

pub returns-in-Jumps-clause-ok : goal.returns-in-Jumps-clause-ok
returns-in-Jumps-clause-ok c = at_row (row_of c.args.i.now) _ (option_copied c.args.answer) _ _ _ c.in-Jumps.ensures.row (jumps_so c.args.self.now _ _)

pub returns-in-Calls-clause-ok : goal.returns-in-Calls-clause-ok
returns-in-Calls-clause-ok c = let e = c.in-Calls.ensures.row in at_call_ok c.args.i.now c.in-Calls.callee c.as_slice.result.now e.0
    (option_copied c.args.answer) _ _ (c.as_slice.ensures ∙ ap (λ (x : Instruction). x.operands) c.i.view_is) e.1 e.2 c.call.result c.call.ensures.ok

pub returns-in-Returns-clause-ok : goal.returns-in-Returns-clause-ok
returns-in-Returns-clause-ok c = let e = c.in-Returns.ensures.row in at_return c.args.i.now c.as_slice-in-Returns.result.now e.0
    (option_copied c.args.answer) _ _ _ (c.as_slice-in-Returns.ensures ∙ ap (λ (x : Instruction). x.operands) c.i.view_is) e.1
    (λ k same. c.finish.ensures k same _)
