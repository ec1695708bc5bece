use Rattle.std.proofs.Common.{◌≡◌, ℕ, ◌+◌, ◌*◌, ◌<◌, List, [], ◌++◌, map, length, ap, sym, subst, ◌∙◌, arith}
use Rattle.read_metadata.specs.Metadata.{subprogram_at}
use Rattle.mir_func.specs.Function.{Function}
use Rattle.emit_code.specs.Laid.{LaidCode, StandFrom}
use Rattle.dwarf_line.specs.Table.{IsSequence}
use Rattle.dwarf_line_table.specs.Files.{first_uses, is_file}
use Rattle.dwarf_line_table.specs.Program.{function_end}
use Rattle.prologue_rows.specs.declared.words.SourceWord.{SourceWord}
use Rattle.prologue_rows.specs.Words.{words_of}
use Rattle.prologue_rows.specs.Lines
use Rattle.prologue_rows.specs.Rows.{line_file, row_of, first_and_changes}
use Rattle.prologue_rows.specs.Table.{own_line, lines_of, rows_of}
use Rattle.prologue_rows.proofs.Ascends.{function_ascends}
use Rattle.prologue_rows.proofs.Tables.{lines_few, words_few}
use Rattle.prologue_rows.proofs.table.sequence.Goals as goal

pub rows_of-requires : goal.rows_of-requires
rows_of-requires c =
    let f = c.args.function.now in
    let meta = c.args.meta.now in
    let scope : c.subprogram_of.result ≡ subprogram_at meta f.function.source.now.name =
    c.subprogram_of.ensures ∙ ap (λ (g : Function). subprogram_at meta g.name) c.source.view_is in
    let own : record { line = f.line; column = 0; scope = c.subprogram_of.result } ≡ own_line meta f =
    λ i. record { line = f.line; column = 0; scope = scope i } in
    let base : c.code.inside.base ≡ f.function.code.now.base = ap (λ (code : LaidCode). code.base) c.code.view_is in
    let words : c.as_slice.result.now ≡ words_of meta f.function = c.as_slice.ensures ∙ c.in_ok-words.ensures in
    let lines : c.as_slice-2.result.now ≡ lines_of meta f =
    c.as_slice-2.ensures ∙ c.in_ok-lines.ensures ∙ (λ i. Lines.lines_of (own i) (base i) (words i)) in
    let stand : StandFrom f.function.code.now.base f.function.code.now.entries (function_end f.function) =
    subst (λ (code : LaidCode). StandFrom code.base code.entries (code.base + 4 * length code.words)) c.code.view_is c.code.invariant.stand in
    let few : length f.function.code.now.words < 262144 =
    subst (λ (code : LaidCode). length code.words < 262144) c.code.view_is c.code.invariant.few in
    let long = ap (λ (ls : List SourceWord). length ls) lines in
    let rows = lines_few (own_line meta f) f.function.code.now.base (words_of meta f.function) in
    let entries = words_few meta f.function stand in
    omega (arith, long, rows, entries, few, c.requires)

pub returns-clause-known : goal.returns-clause-known
returns-clause-known c =
    let f = c.args.function.now in
    let meta = c.args.meta.now in
    let scope : c.subprogram_of.result ≡ subprogram_at meta f.function.source.now.name =
    c.subprogram_of.ensures ∙ ap (λ (g : Function). subprogram_at meta g.name) c.source.view_is in
    let own : record { line = f.line; column = 0; scope = c.subprogram_of.result } ≡ own_line meta f =
    λ i. record { line = f.line; column = 0; scope = scope i } in
    let base : c.code.inside.base ≡ f.function.code.now.base = ap (λ (code : LaidCode). code.base) c.code.view_is in
    let words : c.as_slice.result.now ≡ words_of meta f.function = c.as_slice.ensures ∙ c.in_ok-words.ensures in
    let lines : c.as_slice-2.result.now ≡ lines_of meta f =
    c.as_slice-2.ensures ∙ c.in_ok-lines.ensures ∙ (λ i. Lines.lines_of (own i) (base i) (words i)) in
    c.in_ok-all.ensures.known ∙ ap (λ (ls : List SourceWord). first_uses is_file c.args.files.now (map (line_file meta c.args.unit.now) ls)) lines

pub returns-clause-sequence : goal.returns-clause-sequence
returns-clause-sequence c = λ more.
    let f = c.args.function.now in
    let meta = c.args.meta.now in
    let scope : c.subprogram_of.result ≡ subprogram_at meta f.function.source.now.name =
    c.subprogram_of.ensures ∙ ap (λ (g : Function). subprogram_at meta g.name) c.source.view_is in
    let own : record { line = f.line; column = 0; scope = c.subprogram_of.result } ≡ own_line meta f =
    λ i. record { line = f.line; column = 0; scope = scope i } in
    let base : c.code.inside.base ≡ f.function.code.now.base = ap (λ (code : LaidCode). code.base) c.code.view_is in
    let words : c.as_slice.result.now ≡ words_of meta f.function = c.as_slice.ensures ∙ c.in_ok-words.ensures in
    let lines : c.as_slice-2.result.now ≡ lines_of meta f =
    c.as_slice-2.ensures ∙ c.in_ok-lines.ensures ∙ (λ i. Lines.lines_of (own i) (base i) (words i)) in
    let rows : c.in_ok-rows.rows ≡ rows_of (c.rows_of.new.files ++ more) meta c.args.unit.now f =
    c.in_ok-rows.ensures
    ∙ ap first_and_changes (c.as_slice-3.ensures ∙ c.in_ok-all.ensures.rows more
    ∙ ap (map (row_of (c.rows_of.new.files ++ more) meta c.args.unit.now)) lines) in
    let end : c.code.inside.base + 4 * c.len.result ≡ function_end f.function =
    ap (λ (n : ℕ). c.code.inside.base + 4 * n) c.len.ensures ∙ ap (λ (code : LaidCode). code.base + 4 * length code.words) c.code.view_is in
    λ i. record { rows = rows i; end = end i }

pub returns-clause-is : goal.returns-clause-is
returns-clause-is c =
    let f = c.args.function.now in
    let stand : StandFrom f.function.code.now.base f.function.code.now.entries (function_end f.function) =
    subst (λ (code : LaidCode). StandFrom code.base code.entries (code.base + 4 * length code.words)) c.code.view_is c.code.invariant.stand in
    subst IsSequence (sym (returns-clause-sequence c []))
    (function_ascends (c.rows_of.new.files ++ []) c.args.meta.now c.args.unit.now f.function.source.now.blocks (own_line c.args.meta.now f)
    f.function.code.now.base f.function.code.now.entries (function_end f.function) stand)

pub returns-clause-few : goal.returns-clause-few
returns-clause-few c =
    let f = c.args.function.now in
    let meta = c.args.meta.now in
    let scope : c.subprogram_of.result ≡ subprogram_at meta f.function.source.now.name =
    c.subprogram_of.ensures ∙ ap (λ (g : Function). subprogram_at meta g.name) c.source.view_is in
    let own : record { line = f.line; column = 0; scope = c.subprogram_of.result } ≡ own_line meta f =
    λ i. record { line = f.line; column = 0; scope = scope i } in
    let base : c.code.inside.base ≡ f.function.code.now.base = ap (λ (code : LaidCode). code.base) c.code.view_is in
    let words : c.as_slice.result.now ≡ words_of meta f.function = c.as_slice.ensures ∙ c.in_ok-words.ensures in
    let lines : c.as_slice-2.result.now ≡ lines_of meta f =
    c.as_slice-2.ensures ∙ c.in_ok-lines.ensures ∙ (λ i. Lines.lines_of (own i) (base i) (words i)) in
    let stand : StandFrom f.function.code.now.base f.function.code.now.entries (function_end f.function) =
    subst (λ (code : LaidCode). StandFrom code.base code.entries (code.base + 4 * length code.words)) c.code.view_is c.code.invariant.stand in
    let few : length f.function.code.now.words < 262144 =
    subst (λ (code : LaidCode). length code.words < 262144) c.code.view_is c.code.invariant.few in
    let long = ap (λ (ls : List SourceWord). length ls) lines in
    let rows = lines_few (own_line meta f) f.function.code.now.base (words_of meta f.function) in
    let entries = words_few meta f.function stand in
    omega (arith, long, rows, entries, few, c.in_ok-all.ensures.few)
