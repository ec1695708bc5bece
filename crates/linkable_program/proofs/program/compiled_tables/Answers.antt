use Rattle.std.specs.Prelude.{IfOk}
use Rattle.std.proofs.Common.{◌≡◌, ℕ, map, length, arith, rules, subst}
use Rattle.dwarf_sections.specs.dwarf_line_table.declared.source_and_code.SourceAndCode.{SourceAndCode}
use Rattle.compile_program.specs.Program.{CompiledFunction}
use Rattle.compile_program.proofs.Listed.{program_few}
use Rattle.compile_program.specs.read_program.declared.closing.Parsed.{Parsed}
use Rattle.linkable_program.specs.Program.{AreTables, AreTablesLarge}
use Rattle.linkable_program.proofs.Compiled.{as_many, codes_of, tables_of, large_of}
use Rattle.linkable_program.proofs.program.compiled_tables.Goals as goal

pub with_code-requires : goal.with_code-requires
with_code-requires c =
    let many = as_many _ _ c.args.program.now c.args.compilation.now c.requires.compilation in
    search (rules, many)

pub tables-requires-clause-variables : goal.tables-requires-clause-variables
tables-requires-clause-variables c =
    let same : map (λ (x : SourceAndCode). x.source.now) c.as_slice-3.result.now ≡ map (λ (p : Parsed). p.func) c.args.program.now.functions =
    search rules in
    let few = program_few c.args.program.now.meta c.as_slice-3.result.now c.args.program.now.functions same c.requires.read.functions in
    let functions = c.requires.read.few in
    omega (arith, few, functions)

pub tables-requires-clause-code : goal.tables-requires-clause-code
tables-requires-clause-code c =
    let same : map (λ (x : SourceAndCode). x.code.now) c.as_slice-3.result.now ≡ map (λ (f : CompiledFunction). f.code) c.args.compilation.now.functions =
    search rules in
    codes_of _ _ c.args.program.now c.args.compilation.now c.requires.compilation c.as_slice-3.result.now same

pub returns-clause-tables : goal.returns-clause-tables
returns-clause-tables c =
    let sources : map (λ (x : SourceAndCode). x.source.now) c.as_slice-3.result.now ≡ map (λ (p : Parsed). p.func) c.args.program.now.functions =
    search rules in
    let codes : map (λ (x : SourceAndCode). x.code.now) c.as_slice-3.result.now ≡ map (λ (f : CompiledFunction). f.code) c.args.compilation.now.functions =
    search rules in
    let size : c.len-text_len.result ≡ length c.args.compilation.now.output.text = search rules in
    tables_of c.args.lines.now c.args.program.now c.args.compilation.now c.args.with_frame c.as_slice-3.result.now
    (record { sources = sources; codes = codes }) c.tables.result
    (subst (λ (n : ℕ). IfOk c.tables.result (AreTables c.args.lines.now c.args.program.now.meta n c.args.with_frame c.as_slice-3.result.now)) size
    c.tables.ensures.tables)

pub returns-clause-large : goal.returns-clause-large
returns-clause-large c = λ is.
    let sources : map (λ (x : SourceAndCode). x.source.now) c.as_slice-3.result.now ≡ map (λ (p : Parsed). p.func) c.args.program.now.functions =
    search rules in
    let codes : map (λ (x : SourceAndCode). x.code.now) c.as_slice-3.result.now ≡ map (λ (f : CompiledFunction). f.code) c.args.compilation.now.functions =
    search rules in
    let size : c.len-text_len.result ≡ length c.args.compilation.now.output.text = search rules in
    large_of c.args.lines.now c.args.program.now c.args.compilation.now c.args.with_frame c.as_slice-3.result.now (record { sources = sources; codes = codes })
    (subst (λ (n : ℕ). AreTablesLarge c.args.lines.now c.args.program.now.meta n c.args.with_frame c.as_slice-3.result.now) size (c.tables.ensures.large is))
