use Rattle.std.proofs.Common.{◌≡◌, ℕ, ◌*◌, List, length, ap, ◌∙◌, subst, map}
use Rattle.mir_func.specs.Function.{FramedFunction}
use Rattle.emit_code.specs.declared.code.EncodedInstruction.{EncodedInstruction}
use Rattle.emit_code.specs.Laid.{LaidCode, IsCode}
use Rattle.dwarf_frame.specs.declared.table.Row.{Row}
use Rattle.dwarf_frame.specs.Rows.{Changes}
use Rattle.dwarf_frame.specs.Table.{initial}
use Rattle.frame_table.specs.Table.{entry_row, Describes}
use Rattle.frame_table.proofs.Writable.{description_writable}
use Rattle.frame_table.proofs.description.description.Goals as goal

abbrev Rows : FramedFunction → List EncodedInstruction → List Row → Type 0
Rows f entries rows = Changes (initial 0).rules (map (entry_row f) entries) rows

described : (code : LaidCode) (base size : ℕ) (f : FramedFunction) (entries : List EncodedInstruction) (rows : List Row) → base ≡ code.base
    → size ≡ 4 * length code.words → f ≡ code.framed → entries ≡ code.entries → Rows f entries rows
    → Describes code (record { start = base; size = size; rows = rows })
described code base size f entries rows base_is size_is f_is entries_are are = record {
  start = base_is;
  size = size_is;
  rows =
      subst (λ (g : FramedFunction). Rows g code.entries rows) f_is
      (subst (λ (es : List EncodedInstruction). Rows f es rows) entries_are are);
}

pub returns-clause-writable : goal.returns-clause-writable
returns-clause-writable c = λ base is.
    description_writable c.args.code.now base _ c.framed_of.ensures.sound (subst IsCode c.code.view_is c.code.invariant) is
    (described c.args.code.now c.code.inside.base _ c.framed_of.result.now c.as_slice.result.now c.in_ok-rows.rows
    (ap (λ (x : LaidCode). x.base) c.code.view_is)
    (ap (λ n. 4 * n) c.len.ensures ∙ ap (λ (x : LaidCode). 4 * length x.words) c.code.view_is) c.framed_of.ensures.value
    (c.as_slice.ensures ∙ ap (λ (x : LaidCode). x.entries) c.code.view_is) c.in_ok-rows.ensures)
