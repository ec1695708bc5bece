use Rattle.std.proofs.Common.{ap}
use Rattle.std.proofs.lemmas.Result.{on_ok_weaker}
use Rattle.rv64_instr.specs.View.{access_of}
use Rattle.value_live_ins.proofs.Gathering.{row_knows_number, row_knows_loaded, row_knows_stored, row_knows_moved}
use Rattle.value_live_ins.proofs.Used.{only_fixed, only_accessed}
use Rattle.value_live_ins.proofs.gather.TrackedItemSet.note_code.Goals as goal

pub returns-in-Fixes-clause-knows : goal.returns-in-Fixes-clause-knows
returns-in-Fixes-clause-knows c =
    on_ok_weaker c.note_thing.result (row_knows_number c.args.instr.now _ c.in-Fixes.c _ c.in-Fixes.ensures.row) c.note_thing.ensures.has

pub returns-in-LoadsSlot-clause-knows : goal.returns-in-LoadsSlot-clause-knows
returns-in-LoadsSlot-clause-knows c =
    on_ok_weaker c.note_thing-in-LoadsSlot.result (row_knows_loaded c.args.instr.now _ c.in-LoadsSlot.n _ c.in-LoadsSlot.ensures.row)
    c.note_thing-in-LoadsSlot.ensures.has

pub returns-in-StoresSlot-clause-knows : goal.returns-in-StoresSlot-clause-knows
returns-in-StoresSlot-clause-knows c =
    on_ok_weaker c.note_thing-in-StoresSlot.result (row_knows_stored c.args.instr.now _ c.in-StoresSlot.n _ c.requires.physical c.in-StoresSlot.ensures.row)
    c.note_thing-in-StoresSlot.ensures.has

pub returns-in-Moves-clause-knows : goal.returns-in-Moves-clause-knows
returns-in-Moves-clause-knows c = row_knows_moved c.args.instr.now _ _ _ c.requires.physical c.in-Moves.ensures.row

pub returns-in-Fixes-clause-only : goal.returns-in-Fixes-clause-only
returns-in-Fixes-clause-only c =
    on_ok_weaker c.note_thing.result (only_fixed c.args.instr.now c.in-Fixes.c c.args.self.now.things c.note_thing.new.self.things _
    c.in-Fixes.ensures.row) c.note_thing.ensures.only

pub returns-in-LoadsSlot-clause-only : goal.returns-in-LoadsSlot-clause-only
returns-in-LoadsSlot-clause-only c =
    on_ok_weaker c.note_thing-in-LoadsSlot.result (only_accessed c.args.instr.now c.in-LoadsSlot.n c.args.self.now.things
    c.note_thing-in-LoadsSlot.new.self.things (ap access_of c.in-LoadsSlot.ensures.row)) c.note_thing-in-LoadsSlot.ensures.only

pub returns-in-StoresSlot-clause-only : goal.returns-in-StoresSlot-clause-only
returns-in-StoresSlot-clause-only c =
    on_ok_weaker c.note_thing-in-StoresSlot.result (only_accessed c.args.instr.now c.in-StoresSlot.n c.args.self.now.things
    c.note_thing-in-StoresSlot.new.self.things (ap access_of c.in-StoresSlot.ensures.row)) c.note_thing-in-StoresSlot.ensures.only
