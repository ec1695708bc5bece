-- The functions that are compiled lie one after the other, so the laws of the line number table speak of them.
use Rattle.std.proofs.Common.{◌≡◌, ℕ, ◌+◌, ◌*◌, List, [], ◌∷◌, map, length, sym, ap, ◌∙◌, subst}
use Rattle.std.specs.Prelude.{sum_by, Option, Some, None}
use Rattle.emit_code.proofs.Sites.{site_size}
use Rattle.emit_code.proofs.Stand.{stands, words_fill}
use Rattle.emit_code.specs.declared.code.EncodedInstruction.{EncodedInstruction}
use Rattle.emit_code.specs.Laid.{LaidCode, StandFrom, IsCodeOf}
use Rattle.emit_code.specs.Rule.{entries_of, words_of, sites_of}
use Rattle.listing_text.specs.declared.output.Output.{Output}
use Rattle.frame_rule.specs.Rule.{framed_of}
use Rattle.dwarf_line_table.proofs.LineTables.{tables_give_lines, nothing_outside}
use Rattle.dwarf_line_table.specs.Laws.{LieFrom}
use Rattle.mir_func.specs.Function.{Function, FramedFunction}
use Rattle.read_metadata.specs.Maps.{Maps}
use Rattle.frame_theorem.specs.compile_theorem.Source.{PassedFunction}
use Rattle.selftest_command.specs.run_command.Program.{AreCoded, HasSections, Describe}
use Rattle.dwarf_line.specs.Spelling.{spelling as rows_spelling}
use Rattle.dwarf_line_table.specs.Program.{table_with}
use Rattle.dwarf_line_table.proofs.SourceTables.{no_further}
use Rattle.frame_theorem.specs.dwarf_unit.Inlined.{call_scopes}
use Rattle.dwarf_line_table.specs.declared.source_and_code.SourceAndCode.{SourceAndCode}
use Rattle.tool_driver.specs.Lines.{GivesLines}

code_stands : (f : FramedFunction) (base : ℕ) (c : LaidCode) → IsCodeOf f base c → StandFrom c.base c.entries (c.base + 4 * length c.words)
code_stands f base c is =
    let from : is.layout.base ≡ c.base = is.from ∙ sym is.base_kept in
    let fill : 4 * length (words_of is.layout) ≡ 4 * length c.words = ap (λ (ws : List ℕ). 4 * length ws) (sym is.words) in
    let size = sum_by (site_size is.layout.long) (sites_of is.layout.framed) in
    let filled : size ≡ 4 * length c.words = sym (words_fill is.layout is.worded) ∙ fill in
    let end : is.layout.base + size ≡ c.base + 4 * length c.words = λ i. from i + filled i in
    subst (λ (b : ℕ). StandFrom b c.entries (c.base + 4 * length c.words)) from
    (subst (λ (es : List EncodedInstruction). StandFrom is.layout.base es (c.base + 4 * length c.words)) (sym is.entries)
    (subst (λ (x : ℕ). StandFrom is.layout.base (entries_of is.layout) x) end (stands is.layout)))

lie : (base : ℕ) (fs : List Function) (cs : List SourceAndCode) → AreCoded base fs (map (λ c. c.code.now) cs) → LieFrom base cs
lie base [] [] coded = tt
lie base [] (c ∷ cs) coded = absurd coded
lie base (f ∷ fs) [] coded = absurd coded
lie base (f ∷ fs) (c ∷ cs) coded =
    let more = subst (λ (b : ℕ). AreCoded (b + 4 * length c.code.now.words) fs (map (λ c. c.code.now) cs)) (sym coded.0.base_kept) coded.1 in (
      coded.0.base_kept,
      subst (λ (b : ℕ). StandFrom b c.code.now.entries (c.code.now.base + 4 * length c.code.now.words)) coded.0.base_kept
          (code_stands (framed_of f) base c.code.now coded.0),
      lie (c.code.now.base + 4 * length c.code.now.words) fs cs more,
    )

pub gives_lines : (meta : Maps) (functions : List PassedFunction) (o : Output) → HasSections meta functions o → GivesLines meta functions o
gives_lines meta functions o has = by o.ranges has.described
  where
    from : LieFrom 0 has.compiled
    from = lie 0 (map (λ p. p.function) functions) has.compiled has.coded.coded

    by_rows : (further : List (Option ℕ)) → o.rows ≡ rows_spelling (table_with meta has.compiled further) → GivesLines meta functions o
    by_rows further rows = record {
      compiled = has.compiled;
      coded = has.coded;
      further = further;
      rows = rows;
      lines = tables_give_lines meta has.compiled further 0 from;
      outside = nothing_outside meta has.compiled further 0 from;
    }

    by : (ranges : Option (List ℕ)) → Describe meta (length o.text) has.compiled o.abbreviations o.info o.rows ranges → GivesLines meta functions o
    by None is = by_rows [] (is.2 ∙ ap rows_spelling (sym (no_further meta has.compiled)))
    by (Some ranges) is = by_rows (call_scopes meta is.1.instances) is.1.rows_are
