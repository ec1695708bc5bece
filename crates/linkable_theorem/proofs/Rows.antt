-- The words of each function of a compiled program lie one after the other.
use Rattle.std.specs.Prelude.{sum_by}
use Rattle.std.proofs.Common.{◌≡◌, ℕ, ◌+◌, ◌*◌, List, length, sym, ap, ◌∙◌, subst}
use Rattle.mir_func.specs.Function.{FramedFunction}
use Rattle.emit_code.specs.declared.code.EncodedInstruction.{EncodedInstruction}
use Rattle.emit_code.specs.Laid.{LaidCode, StandFrom, IsCodeOf}
use Rattle.emit_code.specs.Rule.{entries_of, words_of, sites_of}
use Rattle.emit_code.proofs.Sites.{site_size}
use Rattle.emit_code.proofs.Stand.{stands, words_fill}
use Rattle.dwarf_line_table.specs.declared.source_and_code.SourceAndCode.{SourceAndCode}
use Rattle.compile_program.specs.dwarf_sections.Frame.{IsOfFunction}
use Rattle.program_rows.specs.Stand.{IsInOrder}

pub code_stands : (f : FramedFunction) (base : ℕ) (c : LaidCode) → IsCodeOf f base c → StandFrom c.base c.entries (c.base + 4 * length c.words)
code_stands f base c is =
    let from : is.layout.base ≡ c.base = is.from ∙ sym is.base_kept in
    let fill : 4 * length (words_of is.layout) ≡ 4 * length c.words = ap (λ (ws : List ℕ). 4 * length ws) (sym is.words) in
    let size = sum_by (site_size is.layout.long) (sites_of is.layout.framed) in
    let filled : size ≡ 4 * length c.words = sym (words_fill is.layout is.worded) ∙ fill in
    let end : is.layout.base + size ≡ c.base + 4 * length c.words = λ i. from i + filled i in
    subst (λ (b : ℕ). StandFrom b c.entries (c.base + 4 * length c.words)) from
    (subst (λ (es : List EncodedInstruction). StandFrom is.layout.base es (c.base + 4 * length c.words)) (sym is.entries)
    (subst (λ (x : ℕ). StandFrom is.layout.base (entries_of is.layout) x) end (stands is.layout)))

pub in_order : (f : SourceAndCode) → IsOfFunction f.code.now → IsInOrder f
in_order f (base, is) = code_stands f.code.now.framed base f.code.now is
