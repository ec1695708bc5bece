-- The image of a layout shows the machine code.
use Rattle.std.proofs.Common.{◌≡◌, ℕ, List, ◌++◌, map, drop, sym, ap, ◌∙◌, subst}
use Rattle.std.specs.List.{flat_map}
use Rattle.std.specs.Int.{w32, to_le_bytes}
use Rattle.mir_func.specs.Function.{FramedFunction}
use Rattle.mir_func.specs.Objects.{area_of}
use Rattle.sem_machine.specs.Image.{CodeLine}
use Rattle.emit_code.specs.declared.code.EncodedInstruction.{EncodedInstruction}
use Rattle.emit_code.specs.Listed.{lines_of}
use Rattle.emit_code.specs.Rule.{entries_of}
use Rattle.machine_steps_proof.specs.Images.{code_line}
use Rattle.sim_machine.specs.Shown.{AreLinesOf}
use Rattle.sim_proof.specs.Shows.{ImagesShowCode}
use Rattle.sim_proof.proofs.Lines.{lines_beside}

pub images_show_code : ImagesShowCode
images_show_code f base c is image laid =
    let l = is.layout in
    let same : c.framed ≡ l.framed = is.framed ∙ sym is.of in
    let from : c.base ≡ l.base = is.base_kept ∙ sym is.from in
    record {
      low = laid.low ∙ sym from;
      area = laid.area ∙ ap (λ (g : FramedFunction). area_of g.objects) (sym same);
      more = laid.more;
      text = ap (λ (n : ℕ). drop n image.text) from ∙ laid.text ∙ ap (λ (ws : List ℕ). flat_map (to_le_bytes w32) ws ++ laid.more) (sym is.words);
      lines = subst (λ (ls : List CodeLine). AreLinesOf c.framed c.entries ls) (sym laid.lines)
          (subst (λ (es : List EncodedInstruction). AreLinesOf c.framed es (map code_line (lines_of l))) (sym is.entries)
          (subst (λ (g : FramedFunction). AreLinesOf g (entries_of l) (map code_line (lines_of l))) (sym same) (lines_beside l)));
    }
